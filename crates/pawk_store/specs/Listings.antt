-- The globals of a run by their names (POSIX.1-2017, awk, "Variables and Special Variables"), in the order of the bytes of
-- these.
use Rattle.std.specs.Prelude.{ℕ, ◌+◌, List, [], ◌∷◌, ◌++◌, codes}
use Rattle.std.specs.FinMap.Entries.{put}
use Rattle.pawk_value.specs.Value.{Val}
use Rattle.pawk_array.specs.Entries.{Entries, order}
use Rattle.pawk_code.specs.declared.leaf.Special.{Special}
use Rattle.pawk_code.specs.declared.leaf.Special.TheVariants as special
use Rattle.pawk_world.specs.Worlds.{scalar}
use Rattle.pawk_store.specs.Globals.{Globals, array_at, value_at}
use Rattle.pawk_store.specs.Openings.{names_with}

-- what a global has: a scalar a value, an array elements
pub data Content : Type 0 where
  value : Val → Content
  elements : Entries → Content

abbrev pub Named : Type 0
Named = List ℕ × Content

-- the scalars of these names, whose slots begin with this one
abbrev pub scalars_from : ℕ → List (List ℕ) → Globals → List Named
scalars_from n [] g = []
scalars_from n (name ∷ names) g = (name, value (value_at (scalar n) g)) ∷ scalars_from (n + 1) names g

-- the arrays of these names, whose slots begin with this one
abbrev pub arrays_from : ℕ → List (List ℕ) → Globals → List Named
arrays_from n [] g = []
arrays_from n (name ∷ names) g = (name, elements (array_at g n)) ∷ arrays_from (n + 1) names g

-- the variables that the run sets, which have these values
abbrev pub specials : (Special → Val) → List Named
specials v =
    (codes "NR", value (v special.Nr)) ∷ (codes "NF", value (v special.Nf)) ∷ (codes "FNR", value (v special.Fnr))
    ∷ (codes "FILENAME", value (v special.Filename)) ∷ (codes "RSTART", value (v special.Rstart))
    ∷ (codes "RLENGTH", value (v special.Rlength)) ∷ []

-- all globals of a run of a program with these scalars and arrays, for which these assignments were made
abbrev pub all_globals : List (List ℕ) → List (List ℕ) → List (List ℕ × List ℕ) → (Special → Val) → Globals → List Named
all_globals names arrays assignments v g =
    scalars_from 0 (names_with names assignments) g ++ arrays_from 0 arrays g ++ specials v

-- with these globals, each in its place; of equal names the last counts
abbrev pub with_all : List Named → List Named → List Named
with_all [] l = l
with_all (n ∷ ns) l = with_all ns (put order n.0 n.1 l)

abbrev pub listing : List (List ℕ) → List (List ℕ) → List (List ℕ × List ℕ) → (Special → Val) → Globals → List Named
listing names arrays assignments v g = with_all (all_globals names arrays assignments v g) []
