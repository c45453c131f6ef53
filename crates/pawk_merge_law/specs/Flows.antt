-- The rest of a run, file by file and piece by piece, of any program and over any world.
-- POSIX.1-2017, awk, "OPERANDS" (assignment), "Overall Program Structure", "Actions" (exit) and "Variables and Special
-- Variables" (FNR).
use Rattle.std.specs.Prelude.{◌≡◌, ℕ, ◌+◌, List, [], ◌∷◌, ◌++◌, length, map, None}
use Rattle.pawk_records.specs.Records.{records_by}
use Rattle.pawk_world.specs.Worlds.{Calls}
use Rattle.pawk_code.specs.Programs.{Code}
use Rattle.pawk_input.specs.Input.{File, file_items, items}
use Rattle.pawk_store.specs.Records.{Left, through, next_file, exit, fault, clash, End}
use Rattle.pawk_store.specs.Runs.{Finish, records_from, after_records}
use Rattle.pawk_store.specs.Outputs.{with_output_before, finish_with_output_before}

-- names, and what they are assigned
abbrev pub Pairs : Type 0
Pairs = List (List ℕ × List ℕ)

-- a file of the input, and what is assigned before it is read
pub record Turn : Type 0 where
  pub before : Pairs
  pub file : File

-- a file before which nothing is assigned
abbrev pub plain_turn : File → Turn
plain_turn f = record { before = []; file = f }

-- an end that was left through
abbrev pub left_through : {S : Type 0} → End S → End S
left_through e = record e { left = through }

-- an end after assignments, where this is what they make of a world
abbrev pub after_assignments : {S : Type 0} → (Pairs → S → S) → Pairs → End S → End S
after_assignments make pairs e = record e { world = make pairs e.world }

-- no assignment changes nothing
abbrev pub KeepsWithout : {S : Type 0} → (Pairs → S → S) → Type 0
KeepsWithout {S} make = (s : S) → make [] s ≡ s

module _ {S : Type 0} (calls : Calls S) (eres : List (List ℕ)) (code : Code) (budget : ℕ) where
  -- how a run goes on after records that were left so: with what follows them, with what follows their file, or to its end
  abbrev pub after_piece : (End S → Finish S) → (End S → Finish S) → Left → End S → Finish S
  after_piece more later through e = more e
  after_piece more later next_file e = later (left_through e)
  after_piece more later (exit n) e = after_records calls eres code budget (exit n) e
  after_piece more later (fault f) e = after_records calls eres code budget (fault f) e
  after_piece more later clash e = after_records calls eres code budget clash e

  -- these records of a file, fnr of which came before them, and what follows
  abbrev pub piece_then : (End S → Finish S) → (End S → Finish S) → End S → List ℕ → ℕ → List (List ℕ) → Finish S
  piece_then more later e name fnr records =
      let r = records_from calls eres code budget None e (file_items 0 name 0 fnr records) in after_piece more later r.left r

  -- make is what assignments make of a world, and last those after the last file
  module _ (make : Pairs → S → S) (last : Pairs) (rs : List ℕ) where
    -- the rest of a run from where files begin: before each file its assignments are made, then its records are run from where
    -- those of the file before it ended; after the last file the last assignments, then END
    abbrev pub rest_in_turns : End S → List Turn → Finish S
    rest_in_turns e [] = after_records calls eres code budget through (after_assignments make last e)
    rest_in_turns e (t ∷ ts) =
        piece_then (λ x. rest_in_turns x ts) (λ x. rest_in_turns x ts) (after_assignments make t.before e) t.file.name 0 (records_by rs t.file.bytes)

    -- the same from inside a file, of which these records are left
    abbrev pub rest_in_file : End S → List ℕ → ℕ → List (List ℕ) → List Turn → Finish S
    rest_in_file e name fnr records ts = piece_then (λ x. rest_in_turns x ts) (λ x. rest_in_turns x ts) e name fnr records

-- A record's number among all is counted by the run, and its file's number says only which records `nextfile` leaves unread.
abbrev pub NumbersLaw : {S : Type 0} → Calls S → Type 0
NumbersLaw {S} calls =
    (eres : List (List ℕ)) (code : Code) (budget : ℕ) (e : End S) (file : ℕ) (name : List ℕ) (nr fnr : ℕ) (records : List (List ℕ)) →
    records_from calls eres code budget None e (file_items file name nr fnr records)
    ≡ records_from calls eres code budget None e (file_items 0 name 0 fnr records)

-- after records of a file that were left through, FNR is the number of the last of them
abbrev pub FnrLaw : {S : Type 0} → Calls S → Type 0
FnrLaw {S} calls =
    (eres : List (List ℕ)) (code : Code) (budget : ℕ) (e : End S) (name : List ℕ) (nr fnr : ℕ) (r : List ℕ) (records : List (List ℕ)) →
    let x = records_from calls eres code budget None e (file_items 0 name nr fnr (r ∷ records)) in
    x.left ≡ through → x.state.fnr ≡ fnr + length (r ∷ records)

-- without assignments the records of files in order, and END, are the rest of the run file by file
abbrev pub FilesFollowLaw : {S : Type 0} → Calls S → Type 0
FilesFollowLaw {S} calls =
    (make : Pairs → S → S) → KeepsWithout make →
    (eres : List (List ℕ)) (code : Code) (budget : ℕ) (rs : List ℕ) (e : End S) (files : List File) → e.left ≡ through →
    let r = records_from calls eres code budget None e (items rs files) in
    after_records calls eres code budget r.left r ≡ rest_in_turns calls eres code budget make [] rs e (map plain_turn files)

-- the records of a file in two pieces: the second follows the first, unless that ends the run or leaves the file
abbrev pub PieceFollowsLaw : {S : Type 0} → Calls S → Type 0
PieceFollowsLaw {S} calls =
    (make : Pairs → S → S) (last : Pairs) (eres : List (List ℕ)) (code : Code) (budget : ℕ) (rs : List ℕ)
    (e : End S) (name : List ℕ) (fnr : ℕ) (records more : List (List ℕ)) (ts : List Turn) → e.left ≡ through →
    rest_in_file calls eres code budget make last rs e name fnr (records ++ more) ts
    ≡ piece_then calls eres code budget
    (λ x. rest_in_file calls eres code budget make last rs x name (fnr + length records) more ts)
    (λ x. rest_in_turns calls eres code budget make last rs x ts)
    e name fnr records

-- what was written before stays in front of what the rest of a run writes, which does not look at it
abbrev pub RestOutputLaw : {S : Type 0} → Calls S → Type 0
RestOutputLaw {S} calls =
    (make : Pairs → S → S) (last : Pairs) (eres : List (List ℕ)) (code : Code) (budget : ℕ) (rs : List ℕ)
    (e : End S) (out : List ℕ) (ts : List Turn) →
    (rest_in_turns calls eres code budget make last rs (with_output_before out e) ts
    ≡ finish_with_output_before out (rest_in_turns calls eres code budget make last rs e ts))
    × ((name : List ℕ) (fnr : ℕ) (records : List (List ℕ)) →
    rest_in_file calls eres code budget make last rs (with_output_before out e) name fnr records ts
    ≡ finish_with_output_before out (rest_in_file calls eres code budget make last rs e name fnr records ts))
