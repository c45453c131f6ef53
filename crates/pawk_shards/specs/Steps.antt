-- Runs in steps: chunks that were run apart and are merged, and records that are run in order, in any order of the two.
-- POSIX.1-2017, awk, "Overall Program Structure".
use Rattle.std.specs.Prelude.{◌≡◌, ℕ, ◌+◌, List, [], ◌∷◌, ◌++◌, length, flat_map, All, None, Ok, Err}
use Rattle.pawk_input.specs.Input.{Item}
use Rattle.pawk_store.specs.Globals.{Globals, calls}
use Rattle.pawk_store.specs.Records.{through, End}
use Rattle.pawk_store.specs.Runs.{records_from}
use Rattle.pawk_merge.specs.Merges.{Chunk, Stop, merge}
use Rattle.pawk_merge_law.specs.Phases.{Phase, MayRun, opening, in_order, FaultsOrCreates}
use Rattle.pawk_merge_law.specs.ChunkedRuns.{Ran, HasRecord, all_of}
use Rattle.pawk_merge_law.specs.Windows.{phase_at}
use Rattle.pawk_shards.specs.Apart.{HasCome, EndsSo, RanButRecord}

-- a step: chunks that were run apart, with what they left; or records that are run in order
pub data Step : Type 0 where
  apart : List (List Item) → List Chunk → Step
  in_turn : List Item → Step

abbrev pub records_in : Step → List Item
records_in (apart chunks results) = all_of chunks
records_in (in_turn more) = more

-- a step that comes after this many records; each chunk has a record, and so have records that are run in order
abbrev pub IsStep : Phase → ℕ → Step → Type 0
IsStep p nr (apart chunks results) = All HasRecord chunks × RanButRecord p nr chunks results
IsStep p nr (in_turn more) = HasRecord more

-- a step from here gets there: what the chunks left is merged, or the records are run, and neither end in a fault nor create an
-- element of an array that is no reader array
abbrev pub StepsTo : Phase → End Globals → Step → End Globals → Type 0
StepsTo p e (apart chunks results) f = merge results e ≡ Ok f
StepsTo p e (in_turn more) f =
    (records_from calls p.eres p.code p.budget None e more ≡ f) × ¬ FaultsOrCreates (phase_at p e) more

-- a step stops here: the merge stops, or the records end in a fault or create such an element
abbrev pub Stops : Phase → End Globals → Step → Type 0
Stops p e (apart chunks results) = (stop : Stop) × (merge results e ≡ Err stop)
Stops p e (in_turn more) = FaultsOrCreates (phase_at p e) more

-- Steps one after the other, from here, where a run has come after the first records, to there, after all of these; each is taken
-- where what came before was left through.
abbrev pub RunsThrough : Phase → List Item → End Globals → List Step → List Item → End Globals → Type 0
RunsThrough p items e [] all f = (items ≡ all) × (e ≡ f)
RunsThrough p items e (s ∷ ss) all f =
    (e.left ≡ through) × IsStep p (p.state.nr + length items) s
    × ((m : End Globals) × StepsTo p e s m × RunsThrough p (items ++ records_in s) m ss all f)

-- the record, FNR and FILENAME after a step are known: there is a record in it, and all is known that the chunks left
abbrev pub IsWhole : Phase → ℕ → Step → Type 0
IsWhole p nr (apart chunks results) = HasRecord (all_of chunks) × Ran p nr chunks results
IsWhole p nr (in_turn more) = Unit {0}

-- ---- where steps get to

-- They are the records of the steps.
abbrev pub StepRecordsLaw : Type 0
StepRecordsLaw =
    (p : Phase) (items : List Item) (e : End Globals) (steps : List Step) (all : List Item) (f : End Globals) →
    RunsThrough p items e steps all f → all ≡ items ++ flat_map records_in steps

-- All records in order end as the steps do, and where that ended the run, whatever follows.
abbrev pub StepsLaw : Type 0
StepsLaw =
    (p : Phase) → MayRun p → (items : List Item) (e : End Globals) → HasCome p items e →
    (steps : List Step) (all : List Item) (f : End Globals) → RunsThrough p items e steps all f →
    (later : List Item) → (f.left ≡ through → later ≡ []) → EndsSo p (all ++ later) f

-- All is known of a step, and with it the end is exactly that of all records in order, the record, FNR and FILENAME too.
abbrev pub LastStepLaw : Type 0
LastStepLaw =
    (p : Phase) → MayRun p → (items : List Item) (e : End Globals) → HasCome p items e →
    (steps : List Step) (all : List Item) (m : End Globals) → RunsThrough p items e steps all m → m.left ≡ through →
    (s : Step) → IsStep p (p.state.nr + length all) s → IsWhole p (p.state.nr + length all) s →
    (f : End Globals) → StepsTo p m s f → in_order p (all ++ records_in s) ≡ f

-- A step stops: then all records, whatever follows, end in a fault or create an element of an array that is no reader array.
abbrev pub StopLaw : Type 0
StopLaw =
    (p : Phase) → MayRun p → (items : List Item) (e : End Globals) → HasCome p items e →
    (steps : List Step) (all : List Item) (m : End Globals) → RunsThrough p items e steps all m → m.left ≡ through →
    (s : Step) → IsStep p (p.state.nr + length all) s → Stops p m s →
    (later : List Item) → FaultsOrCreates p (all ++ records_in s ++ later)

-- More steps follow from where steps got to.
abbrev pub MoreStepsLaw : Type 0
MoreStepsLaw =
    (p : Phase) (items : List Item) (e : End Globals) (steps : List Step) (some : List Item) (m : End Globals) →
    RunsThrough p items e steps some m →
    (more : List Step) (all : List Item) (f : End Globals) → RunsThrough p some m more all f →
    RunsThrough p items e (steps ++ more) all f

-- ---- shards

-- a shard: parts of its records, that were run apart, with what they left, and its last record, which is run in order
pub record Shard : Type 0 where
  pub parts : List (List Item)
  pub results : List Chunk
  pub last : Item

abbrev pub steps_of : Shard → List Step
steps_of s = apart s.parts s.results ∷ in_turn (s.last ∷ []) ∷ []

abbrev pub records_of : Shard → List Item
records_of s = all_of s.parts ++ s.last ∷ []

-- Shards that are gone through from where the run begins: the end is exactly that of all their records in order, the record, FNR
-- and FILENAME too, and these neither end in a fault nor create an element of an array that is no reader array.
abbrev pub ShardsLaw : Type 0
ShardsLaw =
    (p : Phase) → MayRun p → (shards : List Shard) (all : List Item) (f : End Globals) →
    RunsThrough p [] (opening p) (flat_map steps_of shards) all f →
    (all ≡ flat_map records_of shards) × (in_order p all ≡ f) × ¬ FaultsOrCreates p all
