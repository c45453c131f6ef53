use Rattle.std.proofs.Common.{◌≡◌, take}
use Rattle.pawk_code.specs.ProgramViews.{code_view}
use Rattle.pawk_store.specs.Openings.{pairs_of}
use Rattle.pawk_pieces.specs.Operands.{assigned}
use Rattle.pawk_pieces.proofs.operands.assign.Given as goal

abbrev pub invariant-loop-slot : goal.invariant-loop-slot
invariant-loop-slot l = l.globals ≡ assigned (take l.slot (code_view l.job.code.now).scalars) (pairs_of l.assignments) l.initial.globals
