-- What the threads of a test work on may be sent to them.
use denote.RattleType.{RattleType}
use denote.Ref.{NamedLft}
use denote.Struct.Field.{shr_ref_field}
use denote.Param.{param}
use denote.Param.Send.{IsSend, IsSync, sendable}
use Rattle.pawk_code.proofs.Sharing.{code_row_sync}
use Rattle.pawk_chunks.proofs.States.{state_row_sync}
use Rattle.pawk_sequential.specs.contracts.job.Job as Job
use Rattle.pawk_chunks.specs.contracts.chunk.Opening as Opening
use Rattle.pawk_chunks.specs.contracts.task.Chunked as Chunked
use Rattle.pawk_chunks.specs.contracts.task.Task as Task
use Rattle.pawk_admit.proofs.role.Roles.TheSendSync as roles
use Rattle.pawk_board.proofs.board.Board.TheSendSync as board
use Rattle.pawk_input.proofs.files.Input.TheSendSync as input
use Rattle.pawk_input.proofs.plan.Plan.TheSendSync as plan
use Rattle.pawk_store.proofs.globals.Globals.TheSendSync as globals

job_send : (κ : NamedLft) → IsSend (Job.the_field κ).row
job_send κ = search (sendable, code_row_sync) depth 20

opening_send : (κ ν : NamedLft) → IsSend (Opening.the_field κ ν).row
opening_send κ ν = search (sendable, job_send, globals.the_sync, roles.the_sync, state_row_sync) depth 20

source_send : (κ ν : NamedLft) → IsSend (Chunked.the_field κ ν).row
source_send κ ν = search (sendable, input.the_sync, plan.the_sync) depth 20

task_send : (κ ν : NamedLft) → IsSend (Task.the_field κ ν).row
task_send κ ν = search (sendable, opening_send, source_send, board.the_sync) depth 20

pub task_row_send : (κ ν : NamedLft) → IsSend (Task.the_row κ ν)
task_row_send κ ν = search (sendable, task_send) depth 3

pub gate_send : (G : RattleType) → IsSync (param 0 G) → (κ : NamedLft) → IsSend (shr_ref_field κ (param 0 G) tt).row
gate_send G s κ = search (sendable, s) depth 10
