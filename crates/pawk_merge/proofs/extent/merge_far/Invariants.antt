use Rattle.std.proofs.Common.{◌≡◌, length, map, None}
use Rattle.std.specs.Vec.Iter.{into_iter_items, into_iter_len}
use Rattle.pawk_store.specs.StateViews.{state_of}
use Rattle.pawk_merge.specs.Extents.{merge_far, merge_more}
use Rattle.pawk_merge.specs.ExtentViews.{extent_view}
use Rattle.pawk_merge.specs.Merges.{before_chunks}
use Rattle.pawk_merge.specs.MergeViews.{chunk_of}
use Rattle.pawk_merge.proofs.extent.merge_far.Given as goal

abbrev pub invariant-loop-chunk : goal.invariant-loop-chunk
invariant-loop-chunk l = record {
  size : into_iter_len l.chunk-iterator ≡ length (into_iter_items l.chunk-iterator);
  on : (extent_view l.globals l.extent).stop ≡ None;
  far : merge_more (extent_view l.globals l.extent) (map chunk_of (into_iter_items l.chunk-iterator))
      ≡ merge_far (map chunk_of l.fn.chunks.items) (before_chunks l.fn.globals (state_of l.fn.state));
}
