-- Chunks of the input: a plan writes the list of all records as consecutive runs, none over two
-- files.
use Rattle.std.specs.Prelude.{ℕ, ◌+◌, ◌/◌, ◌≡◌, ◌≢◌, ◌<◌, ◌≤◌, ◌⊎◌, Bool, true, nat_lt, nat_le, map}
use Rattle.std.specs.Prelude.{◌==◌, ◌||◌, ◌&&◌, if◌then◌else◌, List, [], ◌∷◌, ◌++◌, length, take}
use Rattle.std.specs.Prelude.{drop, All, Contains, Option, None, Some, MatchOption}
use Rattle.std.specs.Prelude.{slice_range}
use Rattle.std.specs.List.{slice_index_or, flat_map, list_any}
use Rattle.pawk_records.specs.Records.{records_by}
use Rattle.pawk_records.specs.Begins.{BeginsAt, begins_by}
use Rattle.pawk_input.specs.Input.{File, Item, file_at, file_items, items, total_size}
use Rattle.pawk_input.specs.Limits.{most_bytes, most_chunks}
use Rattle.pawk_input.specs.declared.cutting.Chunk.{Chunk}
use Rattle.pawk_input.specs.declared.steps.SizeStep.{SizeStep}
use Rattle.pawk_input.specs.declared.cutting.CutRefusal.{CutRefusal}
use Rattle.pawk_input.specs.declared.cutting.CutRefusal.TheVariants.{NoRecord, NotRising}
use Rattle.pawk_input.specs.declared.cutting.CutRefusal.TheVariants.{TooMany, Memory}

-- the bytes of a chunk's range
abbrev pub chunk_bytes : List File → Chunk → List ℕ
chunk_bytes files c = slice_range (file_at files c.file).bytes c.range.start c.range.end

-- the records of a chunk's range, with their numbers: before the first came c.nr records, c.fnr of
-- them in this file
abbrev pub chunk_items : List ℕ → List File → Chunk → List Item
chunk_items rs files c =
    file_items c.file (file_at files c.file).name c.nr c.fnr (records_by rs (chunk_bytes files c))

-- a chunk lies in a file, its first record begins where its range begins, and it has one
pub record IsChunkOf (rs : List ℕ) (files : List File) (c : Chunk) : Type 0 where
  pub exists : c.file < length files
  pub rises : c.range.start < c.range.end
  pub within : c.range.end ≤ length (file_at files c.file).bytes
  pub begins : Contains (begins_by rs (file_at files c.file).bytes) c.range.start
  pub some : 0 < length (chunk_items rs files c)

-- the chunks' records one after the other are all records, with the same numbers
pub record IsPlanOf (rs : List ℕ) (files : List File) (chunks : List Chunk) : Type 0 where
  pub whole : flat_map (chunk_items rs files) chunks ≡ items rs files
  pub each : All (λ c. IsChunkOf rs files c) chunks

-- ---- chunks of a part of an input

-- A chunk of these files, which may come after other records: no more records come before it in its file than in all, and
-- no record has a number past the most bytes of an input.
pub record IsPlaced (rs : List ℕ) (files : List File) (c : Chunk) : Type 0 where
  pub chunk : IsChunkOf rs files c
  pub fits : c.nr + length (records_by rs (chunk_bytes files c)) ≤ most_bytes
  pub in_file : c.fnr ≤ c.nr

-- the same of each of the chunks
abbrev pub ArePlaced : List ℕ → List File → List Chunk → Type 0
ArePlaced rs files chunks = All (λ c. IsPlaced rs files c) chunks

-- the chunks are all records of these files, or they may come after others
abbrev pub AreChunksOf : List ℕ → List File → List Chunk → Type 0
AreChunksOf rs files chunks = IsPlanOf rs files chunks ⊎ ArePlaced rs files chunks

-- the same chunk, with so many records more before it in all, and so many of them in its file
abbrev pub chunk_after : ℕ → ℕ → Chunk → Chunk
chunk_after nr fnr c = record c { nr = nr + c.nr; fnr = fnr + c.fnr }

-- the same chunks after so many records
abbrev pub plan_after : ℕ → ℕ → List Chunk → List Chunk
plan_after nr fnr chunks = map (chunk_after nr fnr) chunks

-- Why the chunks of these files cannot come after so many records: there are more of them in the file than in all, or they
-- and the files' bytes are together more than the most bytes of an input.
abbrev pub CannotFollow : List File → ℕ → ℕ → Type 0
CannotFollow files nr fnr = (nr < fnr) ⊎ (most_bytes < nr + total_size files)

-- d begins where c ends, and after its records
pub record IsNext (rs : List ℕ) (files : List File) (c d : Chunk) : Type 0 where
  pub file : d.file ≡ c.file
  pub begins : d.range.start ≡ c.range.end
  pub nr : d.nr ≡ c.nr + length (chunk_items rs files c)
  pub fnr : d.fnr ≡ c.fnr + length (chunk_items rs files c)

-- each of these chunks comes next after the one before it, the first after c
abbrev pub FollowOn : List ℕ → List File → Chunk → List Chunk → Type 0
FollowOn rs files c [] = Unit {0}
FollowOn rs files c (d ∷ ds) = IsNext rs files c d × FollowOn rs files d ds

-- each of these chunks but the first comes next after the one before it
abbrev pub AreConsecutive : List ℕ → List File → List Chunk → Type 0
AreConsecutive rs files [] = Unit {0}
AreConsecutive rs files (c ∷ cs) = FollowOn rs files c cs

-- each of these chunks begins where the one before it ends, the first where c ends, if both are of one file
abbrev pub Adjoin : Chunk → List Chunk → Type 0
Adjoin c [] = Unit {0}
Adjoin c (d ∷ ds) = (d.file ≡ c.file → d.range.start ≡ c.range.end) × Adjoin d ds

-- each of these chunks but the first begins where the one before it ends, if both are of one file
abbrev pub AreAdjoining : List Chunk → Type 0
AreAdjoining [] = Unit {0}
AreAdjoining (c ∷ cs) = Adjoin c cs

-- ---- the plans

-- The chunks of a file that begin at these places: each reaches to the next place, the last to the
-- file's end. Before the file came nr records; those of the bytes before a chunk are the ones
-- before it in its file.
abbrev pub chunks_at : List ℕ → ℕ → List ℕ → ℕ → List ℕ → List Chunk
chunks_at rs file bytes nr [] = []
chunks_at rs file bytes nr (p ∷ ps) =
    record {
      file = file;
      range = record { start = p; end = slice_index_or ps 0 (length bytes) };
      nr = nr + length (records_by rs (take p bytes));
      fnr = length (records_by rs (take p bytes));
    }
    ∷ chunks_at rs file bytes nr ps

-- The chunks of files of which the first is at place `file` and before which nr records came.
-- `chosen` takes a file's place and the places where its records begin to those where its chunks
-- do.
abbrev pub chunks_of : List ℕ → (ℕ → List ℕ → List ℕ) → ℕ → ℕ → List File → List Chunk
chunks_of rs chosen file nr [] = []
chunks_of rs chosen file nr (f ∷ fs) =
    chunks_at rs file f.bytes nr (chosen file (begins_by rs f.bytes))
    ++ chunks_of rs chosen (file + 1) (nr + length (records_by rs f.bytes)) fs

-- ---- by size

-- Of places that rise, each first one that lies at least `size` past the one taken before it; the
-- one before the first is `from`. The size may depend on the place that was taken before.
abbrev pub places_by_size_from : (ℕ → ℕ) → ℕ → List ℕ → List ℕ
places_by_size_from size from [] = []
places_by_size_from size from (p ∷ ps) =
    if nat_le (from + size from) p then p ∷ places_by_size_from size p ps
    else places_by_size_from size from ps

-- the first place, and each first one that lies at least `size` past the one taken before it
abbrev pub places_by_size : (ℕ → ℕ) → List ℕ → List ℕ
places_by_size size [] = []
places_by_size size (p ∷ ps) = p ∷ places_by_size_from size p ps

-- the chunks by size of a file before which nr records came
abbrev pub sized_chunks : List ℕ → (ℕ → ℕ) → ℕ → List ℕ → ℕ → List Chunk
sized_chunks rs size file bytes nr =
    chunks_at rs file bytes nr (places_by_size size (begins_by rs bytes))

-- The plan by size: a chunk ends before the first record that begins at least `size` bytes past the
-- chunk's begin, or at the end of the file; a file with records always begins a chunk.
abbrev pub sized : List ℕ → List File → ℕ → List Chunk
sized rs files size = chunks_of rs (λ _ places. places_by_size (λ _. size) places) 0 0 files

-- ---- by steps: the plan by size, but from each step on with another size

-- the size of the last of the first steps that lie at this place of all bytes or before it; `size`
-- where there is none
abbrev pub size_at : ℕ → List SizeStep → ℕ → ℕ
size_at size [] place = size
size_at size (step ∷ steps) place =
    if nat_le step.from place then size_at step.size steps place else size

-- the same at a place of a file before which `before` bytes came
abbrev pub size_in_file : ℕ → List SizeStep → ℕ → ℕ → ℕ
size_in_file size steps before place = size_at size steps (before + place)

-- how many bytes the files before this one have together
abbrev pub bytes_before : List File → ℕ → ℕ
bytes_before files file = total_size (take file files)

-- the plan by steps: each chunk by the size at the place of its begin
abbrev pub stepped : List ℕ → List File → ℕ → List SizeStep → List Chunk
stepped rs files size steps =
    chunks_of rs (λ file. places_by_size (size_in_file size steps (bytes_before files file)))
    0 0 files

-- ---- at cuts, each a file's place and an offset in it, both counted from 0

-- the offsets of the cuts in this file
abbrev pub offsets : ℕ → List (ℕ × ℕ) → List ℕ
offsets file [] = []
offsets file (cut ∷ cuts) = if cut.0 == file then cut.1 ∷ offsets file cuts else offsets file cuts

-- a file with records begins a chunk, and one more begins at each cut in it
abbrev pub cut_places : List (ℕ × ℕ) → ℕ → List ℕ → List ℕ
cut_places cuts file [] = []
cut_places cuts file (p ∷ ps) = p ∷ offsets file cuts

-- the plan at cuts
abbrev pub cut_at : List ℕ → List File → List (ℕ × ℕ) → List Chunk
cut_at rs files cuts = chunks_of rs (cut_places cuts) 0 0 files

-- whether a record after its file's first begins at the cut
abbrev pub begins_record : List ℕ → List File → ℕ × ℕ → Bool
begins_record rs files cut =
    list_any (λ p. cut.1 == p) (drop 1 (begins_by rs (file_at files cut.0).bytes))

-- whether a cut comes after the cut before it, if there is one: by files first, then by offsets
abbrev pub is_after : Option (ℕ × ℕ) → ℕ × ℕ → Bool
is_after None cut = true
is_after (Some before) cut = nat_lt before.0 cut.0 || ((before.0 == cut.0) && nat_lt before.1 cut.1)

-- what is wrong with the first of these cuts at fault, where `before` is the cut before them
abbrev pub cut_fault_from : List ℕ → List File → Option (ℕ × ℕ) → List (ℕ × ℕ) → Option CutRefusal
cut_fault_from rs files before [] = None
cut_fault_from rs files before (cut ∷ cuts) =
    if begins_record rs files cut then
    (if is_after before cut then cut_fault_from rs files (Some cut) cuts else Some NotRising)
    else Some NoRecord

-- what is wrong with the first cut at fault, if one is
abbrev pub cut_fault : List ℕ → List File → List (ℕ × ℕ) → Option CutRefusal
cut_fault rs files cuts = cut_fault_from rs files None cuts

-- ---- what the two plans are refused with

-- a list of `count` chunks is refused because that is more than `most`, or because memory was
-- refused, which is asked for only where there is a chunk
abbrev pub RefusesMany : ℕ → ℕ → CutRefusal → Type 0
RefusesMany count most NoRecord = ⊥
RefusesMany count most NotRising = ⊥
RefusesMany count most TooMany = most < count
RefusesMany count most Memory = 0 < count

-- a cutting is refused with what is wrong with the first cut at fault; where none is, because it
-- has more than `most` chunks, or because memory was refused
abbrev pub RefusesCuts : List ℕ → List File → List (ℕ × ℕ) → ℕ → CutRefusal → Type 0
RefusesCuts rs files cuts most refusal =
    MatchOption (cut_fault rs files cuts)
    (RefusesMany (length (cut_at rs files cuts)) most refusal)
    (λ fault. refusal ≡ fault)

-- why no plan of one chunk is given: there is not one file, or chunks of this size might be too many,
-- or there is a chunk, for which memory was refused
abbrev pub IsNotOne : List ℕ → List File → ℕ → Type 0
IsNotOne rs files bytes =
    (length files ≢ 1)
    ⊎ ((most_chunks ≤ length (file_at files 0).bytes / bytes) ⊎ (0 < length (cut_at rs files [])))

-- ---- steps of the plans

-- p is the first place from `from` on at which a record begins, or the end where there is none
pub record IsBeginOrEnd (rs bytes : List ℕ) (from p : ℕ) : Type 0 where
  pub within : p ≤ length bytes
  pub none : (k : ℕ) → from ≤ k → k < p → ¬ BeginsAt rs bytes k
  pub begins : p < length bytes → (from ≤ p) × BeginsAt rs bytes p

-- these places rise from p on, and a record begins at each
abbrev pub Rises : List ℕ → List ℕ → ℕ → List ℕ → Type 0
Rises rs bytes p [] = Unit {0}
Rises rs bytes p (q ∷ qs) =
    (p < q) × (q < length bytes) × BeginsAt rs bytes q × Rises rs bytes q qs

-- the places rise from the first of these begins on
abbrev pub RisesFrom : List ℕ → List ℕ → List ℕ → List ℕ → Type 0
RisesFrom rs bytes [] qs = qs ≡ []
RisesFrom rs bytes (p ∷ ps) qs = Rises rs bytes p qs
