-- The tables of all shards, merged one after the other, and the run over the files of all shards. POSIX.1-2017, awk, "Overall
-- Program Structure".
use Rattle.std.specs.Prelude.{◌≡◌, ◌⊎◌, ℕ, ◌+◌, List, [], ◌∷◌, ◌++◌, length, map, flat_map, All, Option}
use Rattle.pawk_code.specs.Programs.{Code}
use Rattle.pawk_input.specs.Input.{File, Item, items}
use Rattle.pawk_store.specs.Globals.{calls}
use Rattle.pawk_admit.specs.Roles.{roles_view}
use Rattle.pawk_store.specs.Records.{Left, through}
use Rattle.pawk_store.specs.Runs.{after_records}
use Rattle.pawk_store.specs.LeftViews.{left_view}
use Rattle.pawk_merge_law.specs.Phases.{Phase}
use Rattle.pawk_merge.specs.Merges.{Chunk}
use Rattle.pawk_merge_law.specs.ChunkedRuns.{IsTold, all_of}
use Rattle.pawk_merge_law.specs.Flows.{Pairs, plain_turn}
use Rattle.pawk_flow.specs.Operands.{run_over}
use Rattle.pawk_flow.specs.Pieces.{end_between}
use Rattle.pawk_shards.specs.Numbers.{AreSameButNumbers}
use Rattle.pawk_shards.specs.Told.{Tell}
use Rattle.pawk_tables.specs.Layout.{Section}
use Rattle.pawk_tables.specs.Reading.{AreInTurn}
use Rattle.pawk_tables.specs.declared.section.Shape.{Shape}
use Rattle.pawk_table_merge.specs.declared.merging.Merging.{Merging}
use Rattle.pawk_table_merge.specs.declared.merging.Conclusion.{Conclusion}
use Rattle.pawk_table_merge.specs.declared.merging.TableEnd.{TableEnd}
use Rattle.pawk_table_merge.specs.declared.merging.TableEnd.TheVariants as table_end
use Rattle.pawk_table_merge.specs.TableMerges.{phase_from, MergesTable, AreAlike, IsBegin, Concludes}

-- Some of these records, which come after so many, are a chunk that is not left through where it is run apart.
pub record DoesNotGoThrough (p : Phase) (nr : ℕ) (items : List Item) : Type 0 where
  pub before : List Item
  pub chunk : List Item
  pub after : List Item
  pub are : AreSameButNumbers (before ++ (chunk ++ after)) items
  pub result : Chunk
  pub told : IsTold p (nr + length before) chunk result
  pub stops : ¬ (result.left ≡ through)

-- a table of a shard: the shard's files, how many records come before them by its own word, its bytes between the header and the
-- end line, its sections with the number of their records, the records that each part and each kept section tells of, and those
-- that were left unread
pub record ShardTable : Type 0 where
  pub files : List File
  pub before : ℕ
  pub bytes : List ℕ
  pub sections : List Section
  pub count : ℕ
  pub chunks : List (List Item)
  pub unread : List Item

-- The table tells of the records of its files, after BEGIN as it is here: of all, or of all up to some that do not go through.
pub record TellsOf (p : Phase) (rs : List ℕ) (shape : Shape) (t : ShardTable) : Type 0 where
  pub in_turn : AreInTurn shape.scalars shape.arrays t.bytes t.sections t.count
  pub told : Tell p rs (p.state.nr + t.before) [] t.sections t.chunks
  pub records : AreSameButNumbers (all_of t.chunks ++ t.unread) (items rs t.files)
  pub whole : (t.unread ≡ []) ⊎ DoesNotGoThrough p (p.state.nr + t.before) (all_of t.chunks)

-- a table was left so: then the others follow, or nothing, or there is no end
abbrev pub AfterTable : TableEnd → Type 0 → (Left → Type 0) → Type 0
AfterTable table_end.Through More End = More
AfterTable (table_end.Ended left) More End = End (left_view left)
AfterTable (table_end.Stopped stop) More End = ⊥

-- Tables are merged one after the other, from here to there, where their records were left so.
abbrev pub MergesAll : Code → ℕ → Option (List ℕ) → Option (List ℕ) → Merging → List ShardTable → Left → Merging → Type 0
MergesAll code budget taken now_taken m [] left x = (taken ≡ now_taken) × (left ≡ through) × (m ≡ x)
MergesAll code budget taken now_taken m (t ∷ ts) left x =
    (y : Merging) × (end : TableEnd) × (mid : Option (List ℕ))
    × MergesTable code budget t.before t.bytes taken mid m y end × AreAlike m y
    × AfterTable end (MergesAll code budget mid now_taken y ts left x) (λ l. (mid ≡ now_taken) × (left ≡ l) × (y ≡ x))

-- A run over tables began, the tables of all shards were merged in order, and END followed: what it left and what it wrote are
-- those of the run over the files of all shards.
abbrev pub TableRunLaw : Type 0
TableRunLaw =
    (code : Code) (budget : ℕ) (assignments first : Pairs) (taken begun merged now_taken : Option (List ℕ))
    (m x : Merging) (tables : List ShardTable) (left : Left) (c : Conclusion) →
    IsBegin code budget assignments first taken begun m →
    All (TellsOf (phase_from code (roles_view m.roles) budget (end_between m.flow)) m.rs.items m.shape) tables →
    MergesAll code budget begun merged m tables left x →
    Concludes (after_records calls code.expressions code budget left (end_between x.flow)) merged now_taken c →
    Concludes
    (run_over code budget assignments
    (record { first = first; turns = map plain_turn (flat_map (λ t. t.files) tables); last = [] }))
    taken now_taken c
