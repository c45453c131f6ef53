use Rattle.std.proofs.Common.{arith}
use Rattle.std.proofs.lemmas.List.{take_rest}
use Rattle.pawk_lex.specs.Strings.{ere_length}
use Rattle.pawk_lex.proofs.Passing.{pass_done, pass_turn}
use Rattle.pawk_lex.proofs.strings.after_ere.Goals as goal

pub returns-then-length-eq0-clause-value : goal.returns-then-length-eq0-clause-value
returns-then-length-eq0-clause-value c = pass_done ere_length _ _ _ c.ere_length-length.ensures.value c.if-length-eq0.true c.loop-text.invariant.0

pub loop-text-preserved : goal.loop-text-preserved
loop-text-preserved c =
    (rw take_rest (pass_turn ere_length _ _ _ c.ere_length-length.ensures.value c.if-length-eq0.false c.loop-text.invariant.0), omega arith)
