-- The chunks of a piece, merged as far as they can be. POSIX.1-2017, awk, "Overall Program Structure".
use Rattle.std.specs.Prelude.{◌≡◌, ℕ, ◌<◌, List, [], length, drop, map, flat_map, All, None, MatchOption}
use Rattle.pawk_input.specs.Input.{File}
use Rattle.pawk_input.specs.Plan.{chunk_items, IsChunkOf}
use Rattle.pawk_input.specs.declared.cutting.Chunk.{Chunk}
use Rattle.pawk_store.specs.Globals.{calls}
use Rattle.pawk_store.specs.Records.{through}
use Rattle.pawk_store.specs.Runs.{records_from}
use Rattle.pawk_merge.specs.Merges.{before_chunks}
use Rattle.pawk_merge.specs.MergeViews.{chunk_of}
use Rattle.pawk_merge.specs.Extents.{Extent, merge_far}
use Rattle.pawk_merge.specs.declared.chunk_result.ChunkResult.{ChunkResult}
use Rattle.pawk_merge_law.specs.Chunks.{Opening, chunk_end, AreResults}
use Rattle.pawk_merge_law.specs.Phases.{Phase, MayRun, in_order, FaultsOrCreates}
use Rattle.pawk_merge_law.specs.Gathered.{phase_of, AreNumbered}
use Rattle.pawk_merge_law.specs.Windows.{phase_at}

module _ (o : Opening) (rs : List ℕ) (files : List File) (plan : List Chunk) where
  abbrev pub phase : Phase
  phase = phase_of o []

  -- All chunks are merged: their records in order end so, neither in a fault nor by the creation of an element of an array that
  -- is no reader array, and more may be run in chunks after them.
  pub record AllMerged (f : Extent) : Type 0 where
    pub ends : in_order phase (flat_map (chunk_items rs files) plan) ≡ f.end
    pub good : ¬ FaultsOrCreates phase (flat_map (chunk_items rs files) plan)
    pub more : MayRun (phase_at phase f.end)

  -- Some are left out: their records follow those of the chunks that are merged, and all in order end in a fault or create such
  -- an element.
  pub record SomeMerged (f : Extent) : Type 0 where
    pub fewer : f.count < length plan
    pub left : f.end.left ≡ through
    pub follow :
        in_order phase (flat_map (chunk_items rs files) plan)
        ≡ records_from calls phase.eres phase.code phase.budget None f.end (flat_map (chunk_items rs files) (drop f.count plan))
    pub bad : FaultsOrCreates phase (flat_map (chunk_items rs files) plan)

  abbrev pub IsMergedFar : Extent → Type 0
  IsMergedFar f = MatchOption f.stop (AllMerged f) (λ stop. SomeMerged f)

-- The results of chunks, whose records are numbered on from those that came before, are merged as far as they can be.
abbrev pub FarResultsLaw : Type 0
FarResultsLaw =
    (o : Opening) → MayRun (phase_of o []) →
    (rs : List ℕ) (files : List File) (plan : List Chunk) → All (λ c. IsChunkOf rs files c) plan →
    AreNumbered o.state.nr (flat_map (chunk_items rs files) plan) →
    (results : List ChunkResult) → AreResults (chunk_end o rs files) plan results →
    IsMergedFar o rs files plan (merge_far (map chunk_of results) (before_chunks o.globals o.state))
