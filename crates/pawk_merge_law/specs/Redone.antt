-- Whether the rest of a run faults or creates an element, file by file and piece by piece.
use Rattle.std.specs.Prelude.{◌≡◌, ◌⊎◌, ◌↔◌, ℕ, ◌+◌, List, [], ◌∷◌, ◌++◌, length, map}
use Rattle.pawk_records.specs.Records.{records_by}
use Rattle.pawk_input.specs.Input.{File, file_items, items}
use Rattle.pawk_store.specs.Globals.{Globals}
use Rattle.pawk_store.specs.Records.{through, End}
use Rattle.pawk_store.specs.Allows.{AllowsMain}
use Rattle.pawk_store.specs.Outputs.{with_output_before}
use Rattle.pawk_commute.specs.Settings.{PermitsFor}
use Rattle.pawk_merge_law.specs.Phases.{Phase, opening, in_order, FaultsOrCreates}
use Rattle.pawk_merge_law.specs.Flows.{Pairs, Turn, plain_turn, after_assignments, KeepsWithout}
use Rattle.pawk_merge_law.specs.Windows.{phase_at}

-- from this end on, records of a file, fnr of which came before them, end in a fault or create an element of an array that is no
-- reader array; or what follows them does, where they were left through
abbrev pub PieceFaultsOr : (End Globals → Type 0) → Phase → End Globals → List ℕ → ℕ → List (List ℕ) → Type 0
PieceFaultsOr More p e name fnr records =
    let is = file_items 0 name 0 fnr records in
    FaultsOrCreates (phase_at p e) is
    ⊎ (((in_order (phase_at p e) is).left ≡ through) × More (in_order (phase_at p e) is))

-- make is what assignments make of the globals
module _ (make : Pairs → Globals → Globals) (p : Phase) (rs : List ℕ) where
  -- the records of files do, each file's from where those of the file before it ended, after its assignments
  abbrev pub TurnsFaultOrCreate : End Globals → List Turn → Type 0
  TurnsFaultOrCreate e [] = ⊥
  TurnsFaultOrCreate e (t ∷ ts) =
      PieceFaultsOr (λ x. TurnsFaultOrCreate x ts) p (after_assignments make t.before e) t.file.name 0 (records_by rs t.file.bytes)

  -- the same from inside a file, of which these records are left
  abbrev pub FileFaultsOrCreates : End Globals → List ℕ → ℕ → List (List ℕ) → List Turn → Type 0
  FileFaultsOrCreates e name fnr records ts = PieceFaultsOr (λ x. TurnsFaultOrCreate x ts) p e name fnr records

-- the program does only what one that runs in chunks may do
abbrev pub IsAllowed : Phase → Type 0
IsAllowed p = AllowsMain (PermitsFor p.code p.roles) p.code.functions p.code.rules

-- the numbers that records have among all, and those of their files, do not matter
abbrev pub FaultNumbersLaw : Type 0
FaultNumbersLaw =
    (p : Phase) (file : ℕ) (name : List ℕ) (nr fnr : ℕ) (records : List (List ℕ)) →
    FaultsOrCreates p (file_items file name nr fnr records) ↔ FaultsOrCreates p (file_items 0 name 0 fnr records)

-- what was written before does not matter
abbrev pub FaultOutputLaw : Type 0
FaultOutputLaw =
    (make : Pairs → Globals → Globals) (p : Phase) (rs : List ℕ) (e : End Globals) (out : List ℕ) (ts : List Turn) →
    (TurnsFaultOrCreate make p rs (with_output_before out e) ts ↔ TurnsFaultOrCreate make p rs e ts)
    × ((name : List ℕ) (fnr : ℕ) (records : List (List ℕ)) →
    FileFaultsOrCreates make p rs (with_output_before out e) name fnr records ts
    ↔ FileFaultsOrCreates make p rs e name fnr records ts)

-- without assignments the records of files in order do, exactly where they do file by file
abbrev pub FilesFaultLaw : Type 0
FilesFaultLaw =
    (make : Pairs → Globals → Globals) → KeepsWithout make → (p : Phase) (rs : List ℕ) (files : List File) → IsAllowed p →
    FaultsOrCreates p (items rs files) ↔ TurnsFaultOrCreate make p rs (opening p) (map plain_turn files)

-- the records of a file in two pieces do, exactly where the first does, or was left through and the second does
abbrev pub PieceFaultsLaw : Type 0
PieceFaultsLaw =
    (make : Pairs → Globals → Globals) (p : Phase) (rs : List ℕ)
    (e : End Globals) (name : List ℕ) (fnr : ℕ) (records more : List (List ℕ)) (ts : List Turn) → IsAllowed p →
    FileFaultsOrCreates make p rs e name fnr (records ++ more) ts
    ↔ PieceFaultsOr (λ x. FileFaultsOrCreates make p rs x name (fnr + length records) more ts) p e name fnr records
