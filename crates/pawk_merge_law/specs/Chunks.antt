-- What chunks begin with and what they leave.
use Rattle.std.specs.Prelude.{◌≡◌, ℕ, List, [], ◌∷◌, None}
use Rattle.pawk_code.specs.Programs.{Code}
use Rattle.pawk_input.specs.Input.{File}
use Rattle.pawk_input.specs.Plan.{chunk_items}
use Rattle.pawk_input.specs.declared.cutting.Chunk.{Chunk}
use Rattle.pawk_store.specs.Globals.{Globals}
use Rattle.pawk_store.specs.RecordStates.{RecordState}
use Rattle.pawk_store.specs.StateViews.{state_of}
use Rattle.pawk_admit.specs.Roles.{Roles}
use Rattle.pawk_frozen.specs.Frozens.{Frozen, blank_world, calls}
use Rattle.pawk_store.specs.Records.{End, through}
use Rattle.pawk_store.specs.Runs.{records_from}
use Rattle.pawk_store.specs.LeftViews.{left_view}
use Rattle.pawk_merge.specs.declared.chunk_result.ChunkResult.{ChunkResult}

-- What the chunks of a run begin with: the program, the steps that each record may take, the globals and the record state
-- that BEGIN left, with RS taken, and what the records do with each global.
pub record Opening : Type 0 where
  pub code : Code
  pub budget : ℕ
  pub globals : Globals
  pub roles : Roles
  pub state : RecordState

-- the record state that BEGIN left, with the NR before the chunk and without a record
abbrev pub chunk_state : ℕ → RecordState → RecordState
chunk_state nr state = record state { line = record { text = []; fields = [] }; nr = nr }

-- a chunk begins with the globals and the record state that BEGIN left; nothing is noted, and nothing written
abbrev pub chunk_begin : Globals → Roles → ℕ → RecordState → End Frozen
chunk_begin fixed roles nr state = record {
  world = blank_world fixed roles;
  state = chunk_state nr state;
  output = [];
  left = through;
}

-- how the records of a chunk of files end
abbrev pub chunk_end : Opening → List ℕ → List File → Chunk → End Frozen
chunk_end o rs files c =
    records_from calls o.code.expressions o.code o.budget None (chunk_begin o.globals o.roles c.nr o.state) (chunk_items rs files c)

-- the table, the record state, the output and the way of leaving are those with which the records end
pub record Leaves (end : End Frozen) (result : ChunkResult) : Type 0 where
  pub table : end.world.table ≡ result.table
  pub state : end.state ≡ state_of result.state
  pub output : end.output ≡ result.output.items
  pub left : end.left ≡ left_view result.left

-- What chunks leave in their order: each one up to the first that is not left through what its records end with. Nothing is
-- said of what follows that one.
abbrev pub AreResults : (Chunk → End Frozen) → List Chunk → List ChunkResult → Type 0
AreResults end [] [] = Unit {0}
AreResults end [] (r ∷ rs) = ⊥
AreResults end (c ∷ cs) [] = ⊥
AreResults end (c ∷ cs) (r ∷ rs) = Leaves (end c) r × (left_view r.left ≡ through → AreResults end cs rs)
