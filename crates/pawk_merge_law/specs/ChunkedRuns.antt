-- Records that are run in chunks: what each chunk leaves, and what the merge of that gives.
use Rattle.std.specs.Prelude.{◌≡◌, ℕ, ◌+◌, List, [], ◌∷◌, length, flat_map, All, None, MatchResult}
use Rattle.pawk_input.specs.Input.{Item}
use Rattle.pawk_store.specs.RecordStates.{RecordState}
use Rattle.pawk_frozen.specs.Frozens.{Frozen, blank_world, calls}
use Rattle.pawk_store.specs.Records.{through, End}
use Rattle.pawk_store.specs.Runs.{records_from}
use Rattle.pawk_store.specs.Steady.{AreSameButRecord}
use Rattle.pawk_merge.specs.Merges.{Chunk, merge}
use Rattle.pawk_merge_law.specs.Phases.{Phase, MayRun, opening, in_order, FaultsOrCreates}

-- how a chunk ends that is run from this record state over the globals that BEGIN left, with nothing noted and nothing
-- written
abbrev pub chunk_end : Phase → RecordState → List Item → End Frozen
chunk_end p state items =
    records_from calls p.eres p.code p.budget None
    (record { world = blank_world p.globals p.roles; state = state; output = []; left = through })
    items

-- the table of what a chunk noted, and its record state, output and way of leaving
abbrev pub leavings : End Frozen → Chunk
leavings e = record { table = e.world.table; state = e.state; output = e.output; left = e.left }

-- What a chunk leaves that comes after this many records: it is run from the record state that BEGIN left, with that
-- NR; the record, FNR and FILENAME are of no consequence.
abbrev pub IsTold : Phase → ℕ → List Item → Chunk → Type 0
IsTold p nr items c =
    (state : RecordState) × AreSameButRecord (record p.state { nr = nr }) state × (c ≡ leavings (chunk_end p state items))

-- What chunks leave in their order, of which the first comes after this many records: of each one up to the first that
-- is not left through. Nothing is said of what follows that one.
abbrev pub Ran : Phase → ℕ → List (List Item) → List Chunk → Type 0
Ran p nr [] [] = Unit {0}
Ran p nr [] (c ∷ cs) = ⊥
Ran p nr (is ∷ iss) [] = ⊥
Ran p nr (is ∷ iss) (c ∷ cs) = IsTold p nr is c × (c.left ≡ through → Ran p (nr + length is) iss cs)

abbrev pub HasRecord : List Item → Type 0
HasRecord [] = ⊥
HasRecord (i ∷ is) = Unit {0}

-- all records, in order
abbrev pub all_of : List (List Item) → List Item
all_of chunks = flat_map (λ items. items) chunks

-- Chunks of records, each of which has one, are merged: then the records in order end with the same globals, record state,
-- output and way of leaving. Or the merge stops; it does so exactly where the records in order end in a fault, or create an
-- element of an array that is no reader array.
abbrev pub ChunksLaw : Type 0
ChunksLaw =
    (p : Phase) → MayRun p →
    (chunks : List (List Item)) (told : List Chunk) → All HasRecord chunks → Ran p p.state.nr chunks told →
    MatchResult (merge told (opening p))
    (λ e. (in_order p (all_of chunks) ≡ e) × ¬ FaultsOrCreates p (all_of chunks))
    (λ stop. FaultsOrCreates p (all_of chunks))
