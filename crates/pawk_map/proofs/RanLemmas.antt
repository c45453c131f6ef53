-- The results of the chunks of a plan that were run apart, as what chunks of their records leave.
use Rattle.std.proofs.Common.{◌≡◌, ℕ, true, false, List, [], ◌∷◌, map}
use Rattle.std.specs.Prelude.{All}
use Rattle.std.specs.List.{flat_map}
use Rattle.std.proofs.lemmas.List.Elements.{All-head, All-tail, All-nil, All-cons}
use Rattle.std.proofs.lemmas.List.Folds.{flat_map-map}
use Rattle.pawk_input.specs.Input.{File, Item}
use Rattle.pawk_input.specs.Plan.{chunk_items, IsChunkOf, IsPlaced}
use Rattle.pawk_input.specs.declared.cutting.Chunk.{Chunk}
use Rattle.pawk_merge.specs.declared.chunk_result.ChunkResult.{ChunkResult}
use Rattle.pawk_merge_law.specs.Chunks.{Opening, chunk_end, AreResults}
use Rattle.pawk_merge_law.specs.Phases.{MayRun}
use Rattle.pawk_merge_law.specs.ChunkedRuns.{all_of}
use Rattle.pawk_merge_law.specs.Gathered.{phase_of, AreNumbered}
use Rattle.pawk_merge_law.proofs.ResultLemmas.{each_has, ran}
use Rattle.pawk_shards.specs.Apart.{LeavesLaw}
use Rattle.pawk_shards.specs.Joined.{NotesLaw}
use Rattle.pawk_map.specs.Sections.{SaySections}
use Rattle.pawk_map.specs.Parted.{AreTablesOf, all_through, parts_from}
use Rattle.pawk_map.specs.Runs.{DoNotGoThrough, SayParts}
use Rattle.pawk_map.proofs.ApartLemmas.{say_parts, stop_parts}

module _ (o : Opening) (rs : List ℕ) (files : List File) where
  abbrev records : Chunk → List Item
  records = chunk_items rs files

  all_chunks : (plan : List Chunk) → All (λ c. IsPlaced rs files c) plan → All (λ c. IsChunkOf rs files c) plan
  all_chunks [] h = All-nil (λ c. IsChunkOf rs files c)
  all_chunks (c ∷ plan) h =
      let P : Chunk → Type 0 = λ c. IsPlaced rs files c in
      let Q : Chunk → Type 0 = λ c. IsChunkOf rs files c in
      All-cons Q c plan (All-head P c plan h).chunk (all_chunks plan (All-tail P c plan h))

  module _ (may : MayRun (phase_of o [])) (plan : List Chunk) (placed : All (λ c. IsPlaced rs files c) plan) (results : List ChunkResult) (nr : ℕ) (numbered : AreNumbered nr (flat_map records plan)) (are : AreResults (chunk_end o rs files) plan results) where
    together : all_of (map records plan) ≡ flat_map records plan
    together = flat_map-map (λ (items : List Item). items) records plan

    pub parts_said : LeavesLaw → NotesLaw → (lines : List ℕ) → all_through results ≡ true →
        ((scalars arrays : ℕ) → AreTablesOf scalars arrays results → SaySections scalars arrays (parts_from nr results) lines) → SayParts (phase_of o []) nr (flat_map records plan) lines
    parts_said leaves notes lines on say =
        let each = all_chunks plan placed in
        say_parts (phase_of o []) may leaves notes nr (map records plan) results (flat_map records plan) lines
        (each_has o [] rs files plan each) (ran o [] rs files plan results nr numbered each are) together on say

    pub parts_stopped : all_through results ≡ false → DoNotGoThrough (phase_of o []) nr (flat_map records plan)
    parts_stopped off =
        let each = all_chunks plan placed in
        stop_parts (phase_of o []) may nr (map records plan) results (flat_map records plan)
        (each_has o [] rs files plan each) (ran o [] rs files plan results nr numbered each are) together off
