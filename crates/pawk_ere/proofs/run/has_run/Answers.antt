use Rattle.std.proofs.Common.{refl}
use Rattle.pawk_ere_automaton.specs.Regex.{Takes}
use Rattle.pawk_ere_automaton.proofs.Leftmost.{match_of_some, no_match_of_none}
use Rattle.pawk_ere.proofs.run.has_run.Goals as goal

pub returns-in-None : goal.returns-in-None
returns-in-None c = λ e is. (λ h. cc, λ m. absurd (no_match_of_none (Takes e c.args.text.now) c.args.from c.search_run.result c.in-None.is (c.search_run.ensures e is) m))

pub returns-in-Some : goal.returns-in-Some
returns-in-Some c = λ e is. (λ h. match_of_some (Takes e c.args.text.now) c.args.from c.search_run.result _ c.in-Some.is (c.search_run.ensures e is), λ m. refl)
