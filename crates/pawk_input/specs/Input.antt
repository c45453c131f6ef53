-- The input: a list of files, and the records of all of them in order.
-- POSIX.1-2017, awk, "Variables and Special Variables" (NR, FNR, FILENAME).
use Rattle.std.specs.Prelude.{ℕ, ◌+◌, List, [], ◌∷◌, ◌++◌, length, map, All, Vec}
use Rattle.std.specs.List.{slice_index_or}
use Rattle.std.specs.declared.alloc.Global.{Global}
use Rattle.pawk_records.specs.Records.{records_by}
use Rattle.pawk_records.specs.Blocks.{AreMended, joined}
use Rattle.pawk_input.specs.declared.item.Item.{Item as LentItem}

-- a file: its name and what it holds
pub record File : Type 0 where
  pub name : List ℕ
  pub bytes : List ℕ

-- a file as an input holds it: its name, and its bytes in blocks
pub record FileInBlocks : Type 0 where
  pub name : List ℕ
  pub blocks : List (List ℕ)

-- the file, whose bytes are those of its blocks in order
abbrev pub file_of : FileInBlocks → File
file_of f = record { name = f.name; bytes = joined f.blocks }

-- the files that an input holds
abbrev pub files_of : List FileInBlocks → List File
files_of input = map file_of input

-- the file of a name and its blocks
abbrev pub named_blocks : Vec ℕ Global × List (List ℕ) → FileInBlocks
named_blocks pair = record { name = pair.0.items; blocks = pair.1 }

-- the files of pairs of a name and its blocks
abbrev pub in_blocks : List (Vec ℕ Global × List (List ℕ)) → List FileInBlocks
in_blocks pairs = map named_blocks pairs

-- the file of a name and all its bytes
abbrev pub whole_file : Vec ℕ Global × Vec ℕ Global → File
whole_file pair = record { name = pair.0.items; bytes = pair.1.items }

-- the files of pairs of a name and all its bytes
abbrev pub whole_files : List (Vec ℕ Global × Vec ℕ Global) → List File
whole_files pairs = map whole_file pairs

-- the file of a name and all its bytes, as one block
abbrev pub in_vector : Vec ℕ Global × Vec ℕ Global → FileInBlocks
in_vector pair = record { name = pair.0.items; blocks = pair.1.items ∷ [] }

-- the files of pairs of a name and all its bytes, each as one block
abbrev pub in_vectors : List (Vec ℕ Global × Vec ℕ Global) → List FileInBlocks
in_vectors pairs = map in_vector pairs

-- no record of a file goes on in a later block, by the bytes of RS
abbrev pub IsReady : List ℕ → List FileInBlocks → Type 0
IsReady rs input = All (λ (f : FileInBlocks). AreMended rs f.blocks) input

-- how many bytes the files hold together
abbrev pub total_size : List File → ℕ
total_size [] = 0
total_size (f ∷ fs) = length f.bytes + total_size fs

-- no bytes under no name
abbrev pub empty_file : File
empty_file = record { name = []; bytes = [] }

-- the file at a place counted from 0; past the last one an empty file without a name
abbrev pub file_at : List File → ℕ → File
file_at files k = slice_index_or files k empty_file

-- A record with what it sets: its file, counted from 0, and that file's name,
-- its number among all records and its number in its file, both counted from 1.
pub record Item : Type 0 where
  pub bytes : List ℕ
  pub file : ℕ
  pub name : List ℕ
  pub nr : ℕ
  pub fnr : ℕ

-- what a lent item shows
abbrev pub item_of : LentItem → Item
item_of i = record { bytes = i.bytes.now; file = i.file; name = i.name.now; nr = i.nr; fnr = i.fnr }

-- records of one file with their numbers: each has numbers greater by one than the record before
-- it, and before the first came nr records, fnr of them in this file
abbrev pub file_items : ℕ → List ℕ → ℕ → ℕ → List (List ℕ) → List Item
file_items file name nr fnr [] = []
file_items file name nr fnr (r ∷ rs) =
    record { bytes = r; file = file; name = name; nr = nr + 1; fnr = fnr + 1 }
    ∷ file_items file name (nr + 1) (fnr + 1) rs

-- the records of files of which the first is at place `file` and before which nr records came;
-- fnr begins anew in each
abbrev pub items_from : List ℕ → ℕ → ℕ → List File → List Item
items_from rs file nr [] = []
items_from rs file nr (f ∷ fs) =
    file_items file f.name nr 0 (records_by rs f.bytes)
    ++ items_from rs (file + 1) (nr + length (records_by rs f.bytes)) fs

-- all records of all files in order, by the bytes of RS: no record spans two files, and a file
-- without records changes nothing
abbrev pub items : List ℕ → List File → List Item
items rs files = items_from rs 0 0 files
