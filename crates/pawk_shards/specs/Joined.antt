-- What two chunks noted, one after the other, as one: of a cell, in tables, and as chunks.
use Rattle.std.specs.Prelude.{◌≡◌, ◌↔◌, ◌+ℤ◌, ◌≤ℤ◌, ℕ, true, List, [], ◌∷◌, ◌++◌, Option, Some, None}
use Rattle.std.specs.Int.{int_min, int_max}
use Rattle.pawk_value.specs.Value.{Val}
use Rattle.pawk_input.specs.Input.{Item}
use Rattle.pawk_world.specs.Worlds.{Cell}
use Rattle.pawk_store.specs.Globals.{Globals}
use Rattle.pawk_store.specs.Records.{through, End}
use Rattle.pawk_store.specs.Lockstep.{Pair}
use Rattle.pawk_frozen.specs.Frozens.{Frozen, calls}
use Rattle.pawk_frozen.specs.Marks.{Mark, blank, summed, last_put, created, Table, mark_at}
use Rattle.pawk_admit.specs.declared.role.Role.{Role}
use Rattle.pawk_commute.specs.Agreement.{Suits}
use Rattle.pawk_commute.specs.Settings.{PermitsFor, role_of_cell, HasSlots, FitSlots}
use Rattle.pawk_merge.specs.JoinLaws.{AllRise}
use Rattle.pawk_merge.specs.Joins.{takes, joined_value}
use Rattle.pawk_merge.specs.Merges.{Chunk, merge}
use Rattle.pawk_merge.specs.Tables.{all_take, join_table}
use Rattle.pawk_merge_law.specs.Phases.{Phase, MayRun}
use Rattle.pawk_merge_law.specs.ChunkedRuns.{IsTold}
use Rattle.pawk_shards.specs.Apart.{HasCome}

-- ---- a cell

-- the second mark after the first, where a cell may have both
abbrev pub composed : Mark → Mark → Option Mark
composed blank blank = Some blank
composed blank (summed d e f) = Some (summed d e f)
composed blank (last_put v) = Some (last_put v)
composed blank created = Some created
composed (summed a b c) blank = Some (summed a b c)
composed (summed a b c) (summed d e f) = Some (summed (a +ℤ d) (int_min b (a +ℤ e)) (int_max c (a +ℤ f)))
composed (summed a b c) (last_put v) = None
composed (summed a b c) created = None
composed (last_put u) blank = Some (last_put u)
composed (last_put u) (summed d e f) = None
composed (last_put u) (last_put v) = Some (last_put v)
composed (last_put u) created = None
composed created blank = Some created
composed created (summed d e f) = None
composed created (last_put v) = None
composed created created = Some created

-- the sum of all amounts lies between the least and the greatest on the way
abbrev pub IsBetween : Mark → Type 0
IsBetween blank = Unit {0}
IsBetween (summed a b c) = (b ≤ℤ a) × (a ≤ℤ c)
IsBetween (last_put v) = Unit {0}
IsBetween created = Unit {0}

-- what may be noted of a cell of this role: the mark suits it, and its sum lies so
pub record IsNoted (r : Role) (m : Mark) : Type 0 where
  pub suits : Suits m r
  pub between : IsBetween m

-- Two marks that may be noted of a cell of one role can be composed, and give one that may be noted of it.
abbrev pub ComposesLaw : Type 0
ComposesLaw = (r : Role) (m n : Mark) → IsNoted r m → IsNoted r n → (w : Mark) × (composed m n ≡ Some w) × IsNoted r w

-- A cell takes the one mark where it takes both in their order, and then has the same value.
abbrev pub MarksComposeLaw : Type 0
MarksComposeLaw =
    (m n w : Mark) (v : Val) → IsBetween m → IsBetween n → composed m n ≡ Some w →
    ((takes w v ≡ true) ↔ ((takes m v ≡ true) × (takes n (joined_value m v) ≡ true)))
    × (takes w v ≡ true → joined_value w v ≡ joined_value n (joined_value m v))

-- ---- tables

-- at each cell the third table has the second's mark after the first's
abbrev pub AreComposed : Table → Table → Table → Type 0
AreComposed t u w = (c : Cell) → composed (mark_at c t) (mark_at c u) ≡ Some (mark_at c w)

-- The sums of two tables lie so, and the first has no more slots than there are: all cells take the one table where they take both
-- in their order, and then the join of the one is that of both.
abbrev pub TablesComposeLaw : Type 0
TablesComposeLaw =
    (g : Globals) (t u w : Table) → AllRise g → FitSlots t.scalars t.arrays g →
    ((c : Cell) → IsBetween (mark_at c t)) → ((c : Cell) → IsBetween (mark_at c u)) → AreComposed t u w →
    ((all_take w g ≡ true) ↔ ((all_take t g ≡ true) × (all_take u (join_table t g) ≡ true)))
    × (all_take w g ≡ true → join_table w g ≡ join_table u (join_table t g))

-- ---- what chunks note

-- a table that chunks of a run may note: it has the slots of the globals that BEGIN left, and each mark may be noted of its cell
pub record AreNoted (p : Phase) (table : Table) : Type 0 where
  pub slots : HasSlots table.scalars table.arrays p.globals
  pub marks : (c : Cell) → IsNoted (role_of_cell p.roles c) (mark_at c table)

-- the globals of a chunk beside themselves, with such a table; whatever a program asks that may run in chunks, the two do not part
abbrev pub noted_pair : Phase → Pair Frozen Frozen
noted_pair p = record {
  first_calls = calls;
  second_calls = calls;
  alike = λ s t. (s ≡ t) × (s.roles ≡ p.roles) × AreNoted p s.table;
  before = λ s t. Unit {0};
  before_second = λ s t. Unit {0};
  permits = PermitsFor p.code p.roles;
  parts = λ q s t. ⊥;
  ahead = [];
}

-- Each chunk notes such a table.
abbrev pub NotesLaw : Type 0
NotesLaw = (p : Phase) → MayRun p → (nr : ℕ) (chunk : List Item) (c : Chunk) → IsTold p nr chunk c → AreNoted p c.table

-- Two such tables as one are such a table.
abbrev pub NotedAgainLaw : Type 0
NotedAgainLaw =
    (p : Phase) (t u w : Table) → AreNoted p t → AreNoted p u → AreComposed t u w → HasSlots w.scalars w.arrays p.globals →
    AreNoted p w

-- ---- neighbours

-- A chunk as one with the chunk after it: with this table, the outputs of both, and the record state and the way of leaving of
-- the second.
abbrev pub joined_chunk : Table → Chunk → Chunk → Chunk
joined_chunk w c d = record { table = w; state = d.state; output = c.output ++ d.output; left = d.left }

-- Two chunks, of which the first was left through, are merged as the one is, wherever a run has come.
abbrev pub NeighboursLaw : Type 0
NeighboursLaw =
    (p : Phase) → MayRun p → (items : List Item) (e : End Globals) → HasCome p items e →
    (c d : Chunk) (w : Table) → AreNoted p c.table → AreNoted p d.table → AreComposed c.table d.table w → c.left ≡ through →
    (more : List Chunk) → merge (joined_chunk w c d ∷ more) e ≡ merge (c ∷ d ∷ more) e
