use Rattle.std.proofs.Common.{◌∙◌, Bool, refl}
use Rattle.pawk_code.specs.ProgramViews.{code_view}
use Rattle.pawk_admit.specs.Roles.{roles_view}
use Rattle.pawk_store.specs.LeftViews.{left_view}
use Rattle.pawk_merge_law.specs.Phases.{CreatesElement, IsFault}
use Rattle.pawk_pieces.specs.Pieces.{phase_between}
use Rattle.pawk_pieces.specs.declared.flow.Flow.{Flow}
use Rattle.pawk_pieces.specs.declared.piece.PieceEnd.{PieceEnd}
use Rattle.pawk_flow.proofs.NotingLemmas.{Tests, by_first, by_second, goes, plain_ends}
use Rattle.pawk_flow.proofs.noting.run_piece_noting.Goals as goal
use Rattle.pawk_flow.proofs.noting.run_piece_noting.Goals.{then-is_fault, else-is_fault}

pub run_piece_over-requires-clause-numbers : goal.run_piece_over-requires-clause-numbers
run_piece_over-requires-clause-numbers c = c.numbers_alike.ensures.numbers (phase_between (code_view c.args.job.code.now) (roles_view c.args.roles.now) c.args.job.budget c.args.flow)

pub run_piece_over-requires-clause-fnr : goal.run_piece_over-requires-clause-fnr
run_piece_over-requires-clause-fnr c = c.numbers_alike.ensures.fnr (phase_between (code_view c.args.job.code.now) (roles_view c.args.roles.now) c.args.job.budget c.args.flow)

pub returns-clause-runs : goal.returns-clause-runs
returns-clause-runs c =
    let new : Flow = record { alloc = c.args.flow.alloc; globals = c.into_globals.result; state = c.in_ok-state.state } in
    let end = c.in_ok-state.end in
    let x : PieceEnd = record end { is_stopped = c.if-is_fault.end } in
    record {
      ends = plain_ends c.trace_changes_nothing.ensures (code_view c.args.job.code.now) (roles_view c.args.roles.now) c.args.job.budget c.args.piece c.args.flow new
          c.new-noted.result.traced c.run_piece_over.new.world.traced end x c.new-noted.ensures c.in_ok-state.ensures.ends c.into_globals.ensures refl;
      counts = c.in_ok-state.ensures.counts;
    }

pub returns-clause-goes : goal.returns-clause-goes
returns-clause-goes c =
    let roles = roles_view c.args.roles.now in
    let new : Flow = record { alloc = c.args.flow.alloc; globals = c.into_globals.result; state = c.in_ok-state.state } in
    let v = c.run_piece_over.new.world.traced in
    let end = c.in_ok-state.end in
    let b : Bool = c.if-is_fault.end in
    let x : PieceEnd = record end { is_stopped = b } in
    let F : Type 0 = IsFault (left_view end.left) in
    let C : Type 0 = CreatesElement roles v.trace in
    let tests : Tests b F C = elim c.if-is_fault.branch [
      | then-is_fault w ↦ by_first F C b (w.end-is ∙ w.if-is_fault.true) (c.is_fault.ensures.0 w.if-is_fault.true)
      | else-is_fault w ↦ by_second F C c.is_fault.result w.has_created.result b w.if-is_fault.false w.end-is c.is_fault.ensures.1 w.has_created.ensures.0 w.has_created.ensures.1
    ] in
    goes c.trace_changes_nothing.ensures (code_view c.args.job.code.now) roles c.args.job.budget c.args.piece c.args.flow new
    c.new-noted.result.traced v end x c.new-noted.ensures c.in_ok-state.ensures.ends c.into_globals.ensures refl
    c.may_run_on.ensures c.requires.ready b tests
