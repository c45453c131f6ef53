use denote.Param.Send.{sendable}
use Rattle.pawk_chunks.proofs.Tasks.{task_row_sync, shift_row_send}
use Rattle.pawk_chunks.proofs.shifts.all_work.Goals as goal

pub all_labour-requires-send-S : goal.all_labour-requires-send-S
all_labour-requires-send-S g c κs within = search (sendable, shift_row_send) depth 10

pub all_labour-requires-sync-L : goal.all_labour-requires-sync-L
all_labour-requires-sync-L g c κs within = search (sendable, task_row_sync) depth 10
