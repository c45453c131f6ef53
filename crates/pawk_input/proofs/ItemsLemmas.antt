-- Numbered records.
use Rattle.std.proofs.Common.{All, Some, option_map, slice_get, subst, ◌≡◌, ℕ, ◌+◌, ◌≤◌, List, [], ◌∷◌, ◌++◌, length, get_or, set, Vec, Global, refl, ap, arith, sym, ◌<◌, ◌∙◌, length-append, zero, suc, take, drop, length-drop, length-take}
use Rattle.pawk_records.specs.Records.{records_by}
use Rattle.std.proofs.lemmas.List.Elements.{All-head, All-map, All-tail}
use Rattle.pawk_records.specs.Blocks.{AreMended, joined, parts}
use Rattle.pawk_records.proofs.BlocksLemmas.{no_records, parts_all, records_of_blocks}
use Rattle.pawk_input.specs.Input.{File, FileInBlocks, IsReady, empty_file, file_at, file_of, files_of, in_blocks, in_vector, in_vectors, named_blocks, whole_file, whole_files, total_size, file_items, items_from}
use Rattle.std.proofs.lemmas.List.{append-nil, length-map}
use Rattle.std.proofs.lemmas.Option.{get_or_from_slice_get, slice_get-map, slice_get_within}
use Rattle.pawk_input.specs.Walk.{block_records, items_ahead, items_in_blocks}
use Rattle.pawk_records.proofs.BeginsLemmas.{length-records_by}

pub length-file_items : (file : ℕ) (name : List ℕ) (nr fnr : ℕ) (rs : List (List ℕ)) → length (file_items file name nr fnr rs) ≡ length rs
length-file_items file name nr fnr [] = refl
length-file_items file name nr fnr (r ∷ rs) = omega (arith, length-file_items file name (nr + 1) (fnr + 1) rs)

-- there are no more records than bytes
pub length-items_from : (rs : List ℕ) (file nr : ℕ) (fs : List File) → length (items_from rs file nr fs) ≤ total_size fs
length-items_from rs file nr [] = omega arith
length-items_from rs file nr (f ∷ fs) =
    omega (arith, length-append (file_items file f.name nr 0 (records_by rs f.bytes)) (items_from rs (file + 1) (nr + length (records_by rs f.bytes)) fs), length-file_items file f.name nr 0 (records_by rs f.bytes), length-records_by rs f.bytes, length-items_from rs (file + 1) (nr + length (records_by rs f.bytes)) fs)

-- ---- the records of blocks, each by itself

pub length-block_records : (rs : List ℕ) (blocks : List (List ℕ)) → length (block_records rs blocks) ≤ length (joined blocks)
length-block_records rs [] = omega arith
length-block_records rs (b ∷ bs) =
    omega (arith, length-append (records_by rs b) (block_records rs bs), length-append b (joined bs), length-records_by rs b, length-block_records rs bs)

pub length-items_in_blocks : (rs : List ℕ) (file nr : ℕ) (fs : List FileInBlocks) → length (items_in_blocks rs file nr fs) ≤ total_size (files_of fs)
length-items_in_blocks rs file nr [] = omega arith
length-items_in_blocks rs file nr (f ∷ fs) =
    omega (arith, length-append (file_items file f.name nr 0 (block_records rs f.blocks)) (items_in_blocks rs (file + 1) (nr + length (block_records rs f.blocks)) fs), length-file_items file f.name nr 0 (block_records rs f.blocks), length-block_records rs f.blocks, length-items_in_blocks rs (file + 1) (nr + length (block_records rs f.blocks)) fs)

-- where no record goes on in a later block, these are the records of the files
pub items_of_blocks : (rs : List ℕ) (file nr : ℕ) (fs : List FileInBlocks) → IsReady rs fs → items_in_blocks rs file nr fs ≡ items_from rs file nr (files_of fs)
items_of_blocks rs file nr [] h = refl
items_of_blocks rs file nr (f ∷ fs) h =
    let P = λ (g : FileInBlocks). AreMended rs g.blocks in
    let same : block_records rs f.blocks ≡ records_by rs (joined f.blocks) = sym (records_of_blocks rs f.blocks (All-head P f fs h)) in
    ap (λ l. file_items file f.name nr 0 l ++ items_in_blocks rs (file + 1) (nr + length l) fs) same
    ∙ ap (λ l. file_items file f.name nr 0 (records_by rs (joined f.blocks)) ++ l) (items_of_blocks rs (file + 1) (nr + length (records_by rs (joined f.blocks))) fs (All-tail P f fs h))

-- as many items are ahead in a file alone as its pieces have records left
pub length-items_ahead_alone : (rs : List ℕ) (file : ℕ) (name : List ℕ) (nr fnr : ℕ) (pieces : List (List ℕ)) → length (items_ahead rs file name nr fnr pieces []) ≡ length (block_records rs pieces)
length-items_ahead_alone rs file name nr fnr pieces =
    ap length (append-nil (file_items file name nr fnr (block_records rs pieces))) ∙ length-file_items file name nr fnr (block_records rs pieces)

-- a piece without a record is passed
pub next_piece : (rs : List ℕ) (file : ℕ) (name : List ℕ) (nr fnr : ℕ) (rest : List ℕ) (pieces : List (List ℕ)) (later : List FileInBlocks) → records_by rs rest ≡ []
    → items_ahead rs file name nr fnr (rest ∷ pieces) later ≡ items_ahead rs file name nr fnr pieces later
next_piece rs file name nr fnr rest pieces later none = rw none refl

-- past the records of a file come those of the next
pub next_file : (rs : List ℕ) (file : ℕ) (name : List ℕ) (nr fnr : ℕ) (f : FileInBlocks) (fs : List FileInBlocks) (size : ℕ) → length (joined f.blocks) ≤ size
    → items_ahead rs file name nr fnr [] (f ∷ fs) ≡ items_ahead rs (file + 1) f.name nr 0 ([] ∷ parts 0 size f.blocks) fs
next_file rs file name nr fnr f fs size all =
    ap (λ n. items_in_blocks rs (file + 1) n (f ∷ fs)) (let z : nr + 0 ≡ nr = omega arith in z)
    ∙ ap (λ l. items_ahead rs (file + 1) f.name nr 0 l fs) (sym (parts_all size f.blocks all))
    ∙ sym (next_piece rs (file + 1) f.name nr 0 [] (parts 0 size f.blocks) fs (no_records rs))

-- and none past those of the last
pub no_items : (rs : List ℕ) (file : ℕ) (name : List ℕ) (nr fnr : ℕ) (rest : List ℕ) (pieces : List (List ℕ)) (later : List FileInBlocks) → records_by rs rest ≡ [] → pieces ≡ [] → later ≡ []
    → items_ahead rs file name nr fnr (rest ∷ pieces) later ≡ []
no_items rs file name nr fnr rest pieces later none ends last = rw (none, ends, last) refl

-- the first file of a walk is all ahead
pub first_file : (rs : List ℕ) (f : FileInBlocks) (fs : List FileInBlocks) (size : ℕ) → length (joined f.blocks) ≤ size
    → items_ahead rs 0 f.name 0 0 ([] ∷ parts 0 size f.blocks) fs ≡ items_in_blocks rs 0 0 (f ∷ fs)
first_file rs f fs size all =
    next_piece rs 0 f.name 0 0 [] (parts 0 size f.blocks) fs (no_records rs)
    ∙ ap (λ l. items_ahead rs 0 f.name 0 0 l fs) (parts_all size f.blocks all)

-- the first record ahead, and those after it
pub next_record : (rs : List ℕ) (file : ℕ) (name : List ℕ) (nr fnr : ℕ) (rest r more : List ℕ) (pieces : List (List ℕ)) (later : List FileInBlocks) → records_by rs rest ≡ r ∷ records_by rs more
    → items_ahead rs file name nr fnr (rest ∷ pieces) later ≡ record { bytes = r; file = file; name = name; nr = nr + 1; fnr = fnr + 1 } ∷ items_ahead rs file name (nr + 1) (fnr + 1) (more ∷ pieces) later
next_record rs file name nr fnr rest r more pieces later e =
    let l = block_records rs (more ∷ pieces) in
    let count : nr + length (r ∷ l) ≡ nr + 1 + length l = omega arith in
    rw e (ap (λ n. file_items file name nr fnr (r ∷ l) ++ items_in_blocks rs (file + 1) n later) count)

-- how many pieces, blocks and files are left of a walk
abbrev pub turns : List FileInBlocks → ℕ
turns [] = 0
turns (f ∷ fs) = 1 + length f.blocks + turns fs

-- ---- files as pairs of a name and bytes, or blocks

abbrev pub Pair : Type 0
Pair = Vec ℕ Global × List (List ℕ)

abbrev pub WholePair : Type 0
WholePair = Vec ℕ Global × Vec ℕ Global

-- the same files, each in one block
pub files_of_vectors : (pairs : List WholePair) → files_of (in_vectors pairs) ≡ whole_files pairs
files_of_vectors [] = refl
files_of_vectors (x ∷ xs) =
    ap (λ l. record { name = x.0.items; bytes = l } ∷ files_of (in_vectors xs)) (append-nil x.1.items)
    ∙ ap (λ l. whole_file x ∷ l) (files_of_vectors xs)

-- which no record leaves
pub vectors_ready : (rs : List ℕ) (pairs : List WholePair) → IsReady rs (in_vectors pairs)
vectors_ready rs pairs = All-map (λ (f : FileInBlocks). AreMended rs f.blocks) in_vector pairs (all pairs)
  where
    all : (l : List WholePair) → All (λ (y : WholePair). AreMended rs (in_vector y).blocks) l
    all l = λ k d lt. (λ some more. absurd (omega arith), tt)

pub length_files : (fs : List FileInBlocks) → length (files_of fs) ≡ length fs
length_files fs = length-map fs file_of

-- the file at a place that was read
pub file_read : (fs : List FileInBlocks) (k : ℕ) (f : FileInBlocks) → slice_get fs k ≡ Some f → file_at (files_of fs) k ≡ file_of f
file_read fs k f at =
    get_or_from_slice_get (files_of fs) k (file_of f) empty_file (slice_get-map file_of fs k ∙ ap (option_map file_of) at)

pub ready_read : (rs : List ℕ) (fs : List FileInBlocks) (k : ℕ) (f : FileInBlocks) → slice_get fs k ≡ Some f → IsReady rs fs → AreMended rs f.blocks
ready_read rs fs k f at h =
    subst (λ (g : FileInBlocks). AreMended rs g.blocks) (get_or_from_slice_get fs k f f at) (h k f (slice_get_within fs k f at))

-- other blocks of the same bytes
pub same_files : (pairs : List Pair) (i : ℕ) (d : Pair) (bs : List (List ℕ)) → joined bs ≡ joined (get_or pairs i d).1
    → files_of (in_blocks (set pairs i ((get_or pairs i d).0, bs))) ≡ files_of (in_blocks pairs)
same_files [] i d bs same = refl
same_files (x ∷ xs) zero d bs same = ap (λ l. record { name = x.0.items; bytes = l } ∷ files_of (in_blocks xs)) same
same_files (x ∷ xs) (suc i) d bs same = ap (λ l. file_of (named_blocks x) ∷ l) (same_files xs i d bs same)

pub one_more_ready : (rs : List ℕ) (pairs : List Pair) (i : ℕ) (name : Vec ℕ Global) (bs : List (List ℕ)) → i < length pairs
    → ((k : ℕ) (d : FileInBlocks) → k < i → AreMended rs (get_or (in_blocks pairs) k d).blocks) → AreMended rs bs
    → (k : ℕ) (d : FileInBlocks) → k < i + 1 → AreMended rs (get_or (in_blocks (set pairs i (name, bs))) k d).blocks
one_more_ready rs [] i name bs lt before here k d low = absurd (omega arith)
one_more_ready rs (x ∷ xs) zero name bs lt before here zero d low = here
one_more_ready rs (x ∷ xs) zero name bs lt before here (suc k) d low = absurd (omega arith)
one_more_ready rs (x ∷ xs) (suc i) name bs lt before here zero d low = before 0 d (omega arith)
one_more_ready rs (x ∷ xs) (suc i) name bs lt before here (suc k) d low = one_more_ready rs xs i name bs (omega arith) (λ j e h. before (suc j) e (omega arith)) here k d (omega arith)

-- a file holds no more than all files
pub length-file_at : (fs : List File) (k : ℕ) → length (file_at fs k).bytes ≤ total_size fs
length-file_at [] k = omega arith
length-file_at (f ∷ fs) zero = omega arith
length-file_at (f ∷ fs) (suc k) = omega (arith, length-file_at fs k)

-- a part of a file holds no more than all files
pub length-part : (fs : List File) (k i n : ℕ) → length (take n (drop i (file_at fs k).bytes)) ≤ total_size fs
length-part fs k i n = omega (arith, length-take n (drop i (file_at fs k).bytes), length-drop i (file_at fs k).bytes, length-file_at fs k)
