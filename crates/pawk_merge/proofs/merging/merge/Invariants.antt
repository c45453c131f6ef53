use Rattle.std.proofs.Common.{◌≡◌, length, map}
use Rattle.std.specs.Vec.Iter.{into_iter_items, into_iter_len}
use Rattle.pawk_store.specs.StateViews.{state_of}
use Rattle.pawk_store.specs.LeftViews.{left_view}
use Rattle.pawk_store.specs.Outputs.{in_a_row}
use Rattle.pawk_merge.specs.Merges.{before_chunks, merge}
use Rattle.pawk_merge.specs.MergeViews.{chunk_of}
use Rattle.pawk_merge.proofs.merging.merge.Given as goal

abbrev pub invariant-loop-chunk : goal.invariant-loop-chunk
invariant-loop-chunk l = record {
  size : into_iter_len l.chunk-iterator ≡ length (into_iter_items l.chunk-iterator);
  merged : merge (map chunk_of (into_iter_items l.chunk-iterator)) record { world = l.globals; state = state_of l.last_state; output = in_a_row l.outputs.items; left = left_view l.last_left }
      ≡ merge (map chunk_of l.fn.chunks.items) (before_chunks l.fn.globals (state_of l.fn.state));
}
