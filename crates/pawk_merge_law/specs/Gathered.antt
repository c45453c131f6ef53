-- What the results of the chunks of a plan make together.
use Rattle.std.specs.Prelude.{◌≡◌, ℕ, ◌+◌, List, [], ◌∷◌, ◌++◌, map, flat_map, All, MatchResult}
use Rattle.pawk_input.specs.Input.{File, Item, items}
use Rattle.pawk_input.specs.Plan.{chunk_items, IsChunkOf, IsPlanOf}
use Rattle.pawk_input.specs.declared.cutting.Chunk.{Chunk}
use Rattle.pawk_store.specs.Globals.{Globals}
use Rattle.pawk_store.specs.Records.{End}
use Rattle.pawk_merge.specs.Merges.{before_chunks, merge}
use Rattle.pawk_merge.specs.MergeViews.{chunk_of}
use Rattle.pawk_merge.specs.declared.chunk_result.ChunkResult.{ChunkResult}
use Rattle.pawk_merge_law.specs.Chunks.{Opening, chunk_end, AreResults}
use Rattle.pawk_merge_law.specs.Phases.{Phase, MayRun, in_order, FaultsOrCreates}

-- the records after BEGIN, which wrote this
abbrev pub phase_of : Opening → List ℕ → Phase
phase_of o written = record {
  code = o.code;
  roles = o.roles;
  eres = o.code.expressions;
  budget = o.budget;
  globals = o.globals;
  state = o.state;
  output = written;
}

-- an end with this in front of its output
abbrev pub after_output : List ℕ → End Globals → End Globals
after_output written e = record e { output = written ++ e.output }

-- each has the number after the one before it; before the first came nr records
abbrev pub AreNumbered : ℕ → List Item → Type 0
AreNumbered nr [] = Unit {0}
AreNumbered nr (i ∷ is) = (i.nr ≡ nr + 1) × AreNumbered (nr + 1) is

-- The results of chunks, whose records are numbered on from those that came before, are merged: then their records in order
-- end with the same globals, record state and way of leaving, and their output is what was written before and the outputs
-- of the chunks after it. Or the merge stops; it does so exactly where the records in order end in a fault, or create an
-- element of an array that is no reader array.
abbrev pub ResultsFromLaw : Type 0
ResultsFromLaw =
    (o : Opening) (written : List ℕ) → MayRun (phase_of o written) →
    (rs : List ℕ) (files : List File) (plan : List Chunk) → All (λ c. IsChunkOf rs files c) plan →
    AreNumbered o.state.nr (flat_map (chunk_items rs files) plan) →
    (results : List ChunkResult) → AreResults (chunk_end o rs files) plan results →
    MatchResult (merge (map chunk_of results) (before_chunks o.globals o.state))
    (λ e.
    (in_order (phase_of o written) (flat_map (chunk_items rs files) plan) ≡ after_output written e)
    × ¬ FaultsOrCreates (phase_of o written) (flat_map (chunk_items rs files) plan))
    (λ stop. FaultsOrCreates (phase_of o written) (flat_map (chunk_items rs files) plan))

-- The results of the chunks of a plan are merged: then all records in order end with the same globals, record state and way of
-- leaving, and their output is what BEGIN wrote and the outputs of the chunks after it. Or the merge stops; it does so
-- exactly where the records in order end in a fault, or create an element of an array that is no reader array.
abbrev pub ResultsLaw : Type 0
ResultsLaw =
    (o : Opening) (written : List ℕ) → MayRun (phase_of o written) → o.state.nr ≡ 0 →
    (rs : List ℕ) (files : List File) (plan : List Chunk) → IsPlanOf rs files plan →
    (results : List ChunkResult) → AreResults (chunk_end o rs files) plan results →
    MatchResult (merge (map chunk_of results) (before_chunks o.globals o.state))
    (λ e.
    (in_order (phase_of o written) (items rs files) ≡ after_output written e)
    × ¬ FaultsOrCreates (phase_of o written) (items rs files))
    (λ stop. FaultsOrCreates (phase_of o written) (items rs files))
