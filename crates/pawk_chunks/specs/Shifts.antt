-- What the workers' threads hand back.
use Rattle.std.specs.Prelude.{◌≡◌, ℕ, ◌+◌, nat_lt, if◌then◌else◌, List, [], All, IfOk, Ok, Err, Result}
use Rattle.std.specs.declared.vec.Vec.{Vec}
use Rattle.std.specs.declared.alloc.Global.{Global}
use Rattle.std.specs.declared.alloc.AllocError.{AllocError}
use Rattle.pawk_board.specs.History.{blank}
use Rattle.pawk_chunks.specs.Worker.{Numbered, HasWorked, IsResultOf}
use Rattle.pawk_chunks.specs.declared.task.Task.{Task}
use Rattle.pawk_chunks.specs.declared.shifts.Shift.{Shift}

-- a worker that had done nothing has worked on the task's board, and each result is what its chunk leaves
abbrev pub Worked : Task → Shift → Type 0
Worked t shift =
    (shift.seat.board ≡ t.board.now.id)
    × IfOk shift.results (λ v. HasWorked t.board.now.chunks blank shift.seat.hand v.items × All (IsResultOf t) v.items)

abbrev pub results_in : Result (Vec Numbered Global) AllocError → List Numbered
results_in (Ok v) = v.items
results_in (Err e) = []

-- the results of a shift, where no allocation was refused
abbrev pub results_of : Shift → List Numbered
results_of shift = results_in shift.results

-- how many chunks count, where the least stop is this: those up to it, or all
abbrev pub limit_of : ℕ → ℕ → ℕ
limit_of stop chunks = if nat_lt stop chunks then stop + 1 else chunks
