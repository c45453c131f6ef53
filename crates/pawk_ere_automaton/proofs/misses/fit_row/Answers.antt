use Rattle.std.proofs.Common.{sym, ◌∙◌}
use Rattle.std.proofs.lemmas.Slice.Eq.{slice_eq-Decides}
use Rattle.pawk_ere_automaton.proofs.Silent.{beq_decides}
use Rattle.pawk_ere_automaton.proofs.misses.fit_row.Goals as goal

pub returns-then-eq-clause-marks : goal.returns-then-eq-clause-marks
returns-then-eq-clause-marks c = sym c.as_slice.ensures.value ∙ (slice_eq-Decides beq_decides _ _ _ c.eq.ensures).0 c.if-eq.true
