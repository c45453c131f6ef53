-- The results of the chunks of a plan, as what chunks of all records leave.
use Rattle.std.proofs.Common.{◌≡◌, ℕ, ◌+◌, ◌<◌, List, [], ◌∷◌, length, map, All, ap, sym, arith}
use Rattle.std.specs.List.{flat_map}
use Rattle.std.proofs.lemmas.List.Elements.{All-head, All-tail, All-nil, All-cons}
use Rattle.pawk_records.specs.Records.{records_by}
use Rattle.pawk_input.specs.Input.{File, Item, file_at}
use Rattle.pawk_input.specs.Plan.{chunk_bytes, chunk_items, IsChunkOf}
use Rattle.pawk_input.specs.declared.cutting.Chunk.{Chunk}
use Rattle.pawk_merge.specs.declared.chunk_result.ChunkResult.{ChunkResult}
use Rattle.pawk_merge_law.specs.Chunks.{Opening, chunk_state, chunk_end, Leaves, AreResults}
use Rattle.pawk_merge_law.specs.ChunkedRuns.{IsTold, Ran, HasRecord}
use Rattle.pawk_merge.specs.MergeViews.{chunk_of}
use Rattle.pawk_merge_law.specs.Gathered.{phase_of, AreNumbered}
use Rattle.pawk_merge_law.proofs.NumberLemmas.{AreNumbered-rest, first_number}

has_record : (is : List Item) → 0 < length is → HasRecord is
has_record [] h = absurd (omega (arith, h))
has_record (i ∷ is) h = tt

module _ (o : Opening) (written : List ℕ) (rs : List ℕ) (files : List File) where
  abbrev records : Chunk → List Item
  records = chunk_items rs files

  pub each_has : (plan : List Chunk) → All (λ c. IsChunkOf rs files c) plan → All HasRecord (map records plan)
  each_has [] each = All-nil HasRecord
  each_has (c ∷ plan) each =
      let Q : Chunk → Type 0 = λ c. IsChunkOf rs files c in
      All-cons HasRecord (records c) (map records plan) (has_record (records c) (All-head Q c plan each).some) (each_has plan (All-tail Q c plan each))

  told : (c : Chunk) (nr : ℕ) (r : ChunkResult) → c.nr ≡ nr → Leaves (chunk_end o rs files c) r → IsTold (phase_of o written) nr (records c) (chunk_of r)
  told c nr r at h = (
    chunk_state c.nr o.state,
    ap (λ n. chunk_state n o.state) at,
    λ j. record { table = sym h.table j; state = sym h.state j; output = sym h.output j; left = sym h.left j },
  )

  pub ran : (plan : List Chunk) (results : List ChunkResult) (nr : ℕ) → AreNumbered nr (flat_map records plan) → All (λ c. IsChunkOf rs files c) plan → AreResults (chunk_end o rs files) plan results
      → Ran (phase_of o written) nr (map records plan) (map chunk_of results)
  ran [] [] nr numbered each are = tt
  ran [] (r ∷ results) nr numbered each are = absurd are
  ran (c ∷ plan) [] nr numbered each are = absurd are
  ran (c ∷ plan) (r ∷ results) nr numbered each are =
      let Q : Chunk → Type 0 = λ c. IsChunkOf rs files c in
      let rest = flat_map records plan in
      let at = first_number c.file (file_at files c.file).name c.nr nr c.fnr (records_by rs (chunk_bytes files c)) rest (All-head Q c plan each).some numbered in (
        told c nr r at are.0,
        λ on. ran plan results (nr + length (records c)) (AreNumbered-rest nr (records c) rest numbered) (All-tail Q c plan each) (are.1 on),
      )
