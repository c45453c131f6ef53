use Rattle.std.proofs.lemmas.List.{take_rest}
use Rattle.pawk_lex.specs.Gaps.{gap_length, skip}
use Rattle.pawk_lex.proofs.Passing.{pass_done, pass_turn}
use Rattle.pawk_lex.proofs.scan.skip.Goals as goal

pub returns-then-length-eq0 : goal.returns-then-length-eq0
unfolding skip
returns-then-length-eq0 c = pass_done gap_length _ _ _ c.gap_length-length.ensures.value c.if-length-eq0.true c.loop-text.invariant

pub loop-text-preserved : goal.loop-text-preserved
unfolding skip
loop-text-preserved c =
    rw take_rest (pass_turn gap_length _ _ _ c.gap_length-length.ensures.value c.if-length-eq0.false c.loop-text.invariant)
