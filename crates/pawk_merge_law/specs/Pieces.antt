-- Records in pieces, of any program and over any world: how far a run is between two pieces, and that the second is run from
-- there. POSIX.1-2017, awk, "Overall Program Structure" and "Actions" (exit).
use Rattle.std.specs.Prelude.{◌≡◌, ℕ, if◌then◌else◌, List, [], ◌∷◌, ◌++◌, Option, Some, None}
use Rattle.pawk_world.specs.Worlds.{Calls}
use Rattle.pawk_code.specs.Programs.{Code}
use Rattle.pawk_input.specs.Input.{Item}
use Rattle.pawk_store.specs.Records.{Left, through, next_file, exit, fault, clash, End, run_part, one_record}
use Rattle.pawk_store.specs.Runs.{is_skipped, records_from}

-- how far a run is between two pieces: the file whose rest is left unread, if there is one, and the end of what came before
pub record Progress (S : Type 0) : Type 0 where
  pub skip : Option ℕ
  pub end : End S

-- whether records are read after a part that is left so
abbrev pub IsOpen : Left → Type 0
IsOpen through = Unit {0}
IsOpen next_file = Unit {0}
IsOpen (exit n) = ⊥
IsOpen (fault f) = ⊥
IsOpen clash = ⊥

-- the first, where records are read after a part that is left so; else the second
abbrev pub if_open : {X : Type 0} → Left → X → X → X
if_open through more stop = more
if_open next_file more stop = more
if_open (exit n) more stop = stop
if_open (fault f) more stop = stop
if_open clash more stop = stop

-- how a run goes on after a record, as `after_leaving` has it
abbrev pub progress_after_leaving : {S : Type 0} →
    (Option ℕ → End S → Progress S) → ℕ → Left → End S → Progress S
progress_after_leaving go file through e = go None e
progress_after_leaving go file next_file e = go (Some file) e
progress_after_leaving go file (exit n) e = record { skip = None; end = e }
progress_after_leaving go file (fault f) e = record { skip = None; end = e }
progress_after_leaving go file clash e = record { skip = None; end = e }

module _ {S : Type 0} (calls : Calls S) (eres : List (List ℕ)) (code : Code) (budget : ℕ) where
  -- how far a run is after these records
  abbrev pub progress_after : Option ℕ → End S → List Item → Progress S
  progress_after skip e [] = record { skip = skip; end = e }
  progress_after skip e (i ∷ is') =
      if is_skipped skip i then progress_after skip e is' else
      (let r = run_part (one_record calls eres code.functions code.rules i) budget e.world e.state e.output in
      progress_after_leaving (λ s x. progress_after s x is') i.file r.left r)

  -- the records that follow, from there; none where the run has ended
  abbrev pub resume : Progress S → List Item → End S
  resume b more = if_open b.end.left (records_from calls eres code budget b.skip b.end more) b.end

-- Records in two pieces, whatever the program: the second is run from where the run is after the first.
abbrev pub PiecesLaw : {S : Type 0} → Calls S → Type 0
PiecesLaw {S} calls =
    (eres : List (List ℕ)) (code : Code) (budget : ℕ) (skip : Option ℕ) (e : End S) (items more : List Item) → IsOpen e.left →
    (records_from calls eres code budget skip e items ≡ (progress_after calls eres code budget skip e items).end)
    × (records_from calls eres code budget skip e (items ++ more)
    ≡ resume calls eres code budget (progress_after calls eres code budget skip e items) more)

-- no file is left unread after records that were left through
abbrev pub NoSkipLaw : {S : Type 0} → Calls S → Type 0
NoSkipLaw {S} calls =
    (eres : List (List ℕ)) (code : Code) (budget : ℕ) (skip : Option ℕ) (e : End S) (items : List Item) →
    (e.left ≡ through → skip ≡ None) →
    (progress_after calls eres code budget skip e items).end.left ≡ through →
    (progress_after calls eres code budget skip e items).skip ≡ None
