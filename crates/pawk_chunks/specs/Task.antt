-- What the workers of a run share.
use Rattle.std.specs.Prelude.{◌≡◌, ℕ, ◌≤◌, List, length, flat_map}
use Rattle.pawk_input.specs.Input.{Item, IsReady, files_of}
use Rattle.pawk_input.specs.Plan.{AreChunksOf, chunk_items}
use Rattle.pawk_input.specs.declared.cutting.Chunk.{Chunk}
use Rattle.pawk_frozen.specs.Frozens.{Frozen}
use Rattle.pawk_store.specs.Records.{End}
use Rattle.pawk_chunks.specs.Openings.{opening_view}
use Rattle.pawk_merge_law.specs.Chunks.{chunk_end}
use Rattle.pawk_chunks.specs.declared.chunk.Opening.{Opening}
use Rattle.pawk_chunks.specs.declared.task.Chunked.{Chunked}
use Rattle.pawk_chunks.specs.declared.task.Task.{Task}

-- RS has at most one byte, the input is ready for it, and the plan's chunks are of the input by it, which may come after
-- other records
pub record IsChunked (s : Chunked) : Type 0 where
  pub one_byte : length s.rs.now ≤ 1
  pub ready : IsReady s.rs.now s.input.now
  pub planned : AreChunksOf s.rs.now (files_of s.input.now) s.plan.now

-- the board has as many chunks as the plan
pub record IsTask (t : Task) : Type 0 where
  pub source : IsChunked t.source
  pub counted : t.board.now.chunks ≡ length t.source.plan.now

-- how the records of a chunk end
abbrev pub end_in : Opening → Chunked → Chunk → End Frozen
end_in o s = chunk_end (opening_view o) s.rs.now (files_of s.input.now)

-- the records of all chunks
abbrev pub items_in : Chunked → List Item
items_in source = flat_map (chunk_items source.rs.now (files_of source.input.now)) source.plan.now
