use Rattle.pawk_builtins.proofs.MatchLemmas.{match_settles}
use Rattle.pawk_builtins.proofs.matchers.Matchers.is_match.Goals as goal

pub returns-in-Fixed-Some : goal.returns-in-Fixed-Some
returns-in-Fixed-Some c =
    rw c.in-Fixed-Some.ensures (match_settles c.in-Fixed-Some.ere.now c.args.text.now c.matches_fixed.result c.matches_fixed.ensures.answer c.matches_fixed.ensures.fault)
