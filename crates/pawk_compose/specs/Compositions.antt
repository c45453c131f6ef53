-- Where a table may come after another one, as one with it, and what it then has.
use Rattle.std.specs.Prelude.{◌≡◌, ◌+ℤ◌, ◌&&◌, ℕ, Bool, true, is_some, List, [], length, slice_index_or, Option, Some, None}
use Rattle.std.specs.Int.{int_min, int_max}
use Rattle.pawk_keyed_map.specs.Keyed.{found}
use Rattle.pawk_world.specs.Worlds.{Cell}
use Rattle.pawk_frozen.specs.Frozens.{is_sum}
use Rattle.pawk_frozen.specs.Marks.{Mark, blank, summed, last_put, created, Marks, mark_or_blank, mark_found, Table, mark_at}
use Rattle.pawk_shards.specs.Joined.{composed}

-- a sum, its least and its greatest are of a size that a table keeps
abbrev pub is_kept : Mark → Bool
is_kept blank = true
is_kept (summed total least greatest) = is_sum total && is_sum least && is_sum greatest
is_kept (last_put v) = true
is_kept created = true

-- a second mark may follow a first: a cell may have both, and the sums of two sums are of such a size
abbrev pub may_follow : Mark → Mark → Bool
may_follow (summed a b c) (summed d e f) = is_kept (summed (a +ℤ d) (int_min b (a +ℤ e)) (int_max c (a +ℤ f)))
may_follow m n = is_some (composed m n)

-- a second table may follow a first: it has as many slots, and at each cell its mark may follow
pub record MayFollow (t u : Table) : Type 0 where
  pub scalars : length u.scalars ≡ length t.scalars
  pub arrays : length u.arrays ≡ length t.arrays
  pub marks : (c : Cell) → may_follow (mark_at c t) (mark_at c u) ≡ true

-- all sums of a table are kept
abbrev pub AllKept : Table → Type 0
AllKept t = (c : Cell) → is_kept (mark_at c t) ≡ true

-- a table has as many slots as another
pub record HasSlotsOf (t w : Table) : Type 0 where
  pub scalars : length w.scalars ≡ length t.scalars
  pub arrays : length w.arrays ≡ length t.arrays

-- ---- the elements of an array

-- at each key the second mark may follow the first
abbrev pub AllFollow : Marks → Marks → Type 0
AllFollow es fs = (key : List ℕ) → may_follow (mark_found key es) (mark_found key fs) ≡ true

-- what a key has, where something may be noted of it again
abbrev pub noted_again : Option Mark → Option Mark → Option Mark
noted_again before None = before
noted_again before (Some n) = composed (mark_or_blank before) n

-- the third marks have at each key the second's mark after the first's, and are there where one of these is
abbrev pub AreJoined : Marks → Marks → Marks → Type 0
AreJoined es fs gs = (key : List ℕ) → found key gs ≡ noted_again (found key es) (found key fs)

-- and so in each array
abbrev pub ArraysAreJoined : List Marks → List Marks → List Marks → Type 0
ArraysAreJoined es fs gs = (n : ℕ) → AreJoined (slice_index_or es n []) (slice_index_or fs n []) (slice_index_or gs n [])
