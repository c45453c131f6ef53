-- A task may be lent to threads, and a shift given back.
use denote.Ref.{NamedLft}
use denote.Param.Send.{IsSend, IsSync, sendable}
use Rattle.std.proofs.Crossing.{crosses}
use Rattle.pawk_sequential.specs.contracts.job.Job as Job
use Rattle.pawk_chunks.specs.contracts.chunk.Opening as Opening
use Rattle.pawk_merge.specs.contracts.chunk_result.ChunkResult as ChunkResult
use Rattle.pawk_chunks.specs.contracts.task.Chunked as Chunked
use Rattle.pawk_chunks.specs.contracts.task.Task as Task
use Rattle.pawk_chunks.specs.contracts.shifts.Shift as Shift
use Rattle.pawk_admit.proofs.role.Roles.TheSendSync as roles
use Rattle.pawk_board.proofs.board.Board.TheSendSync as board
use Rattle.pawk_board.proofs.board.BoardSeat.TheSendSync as seat
use Rattle.pawk_frozen.proofs.table.Table.TheSendSync as table
use Rattle.pawk_input.proofs.files.Input.TheSendSync as input
use Rattle.pawk_input.proofs.plan.Plan.TheSendSync as plan
use Rattle.pawk_store.proofs.left.Left.TheSendSync as left
use Rattle.pawk_store.proofs.globals.Globals.TheSendSync as globals
use Rattle.pawk_code.proofs.Sharing.{code_row_sync}
use Rattle.pawk_chunks.proofs.States.{state_row_sync, state_send}

job_sync : (κ : NamedLft) → IsSync (Job.the_field κ).row
job_sync κ = search (sendable, code_row_sync) depth 20

opening_sync : (κ ν : NamedLft) → IsSync (Opening.the_field κ ν).row
opening_sync κ ν = search (sendable, job_sync, globals.the_sync, roles.the_sync, state_row_sync) depth 20

source_sync : (κ ν : NamedLft) → IsSync (Chunked.the_field κ ν).row
source_sync κ ν = search (sendable, input.the_sync, plan.the_sync) depth 20

task_sync : (κ ν : NamedLft) → IsSync (Task.the_field κ ν).row
task_sync κ ν = search (sendable, opening_sync, source_sync, board.the_sync) depth 20

pub task_row_sync : (κ ν : NamedLft) → IsSync (Task.the_row κ ν)
task_row_sync κ ν = search (sendable, task_sync) depth 3

result_send : (κ : NamedLft) → IsSend (ChunkResult.the_field κ).row
result_send κ = search (sendable, crosses, table.the_send, state_send, left.the_field_send) depth 20

result_row_send : (κ : NamedLft) → IsSend (ChunkResult.the_row κ)
result_row_send κ = search (sendable, result_send) depth 3

shift_send : (κ : NamedLft) → IsSend (Shift.the_field κ).row
shift_send κ = search (sendable, crosses, seat.the_send, result_row_send) depth 20

pub shift_row_send : (κ : NamedLft) → IsSend (Shift.the_row κ)
shift_row_send κ = search (sendable, shift_send) depth 3
