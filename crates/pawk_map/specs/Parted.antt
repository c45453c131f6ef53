-- Parts of chunks that were run apart, as the code has them.
use Rattle.std.specs.Prelude.{◌≡◌, ℕ, ◌-◌, Bool, true, false, ◌&&◌, List, [], ◌∷◌, length, All}
use Rattle.pawk_store.specs.declared.left.Left.{Left}
use Rattle.pawk_store.specs.declared.left.Left.TheVariants.{Through, NextFile, Exit, Fault, Clash}
use Rattle.pawk_merge.specs.declared.chunk_result.ChunkResult.{ChunkResult}
use Rattle.pawk_tables.specs.Layout.{Section, part}

abbrev pub is_through : Left → Bool
is_through Through = true
is_through NextFile = false
is_through (Exit n) = false
is_through (Fault f) = false
is_through Clash = false

-- whether each of these chunks was left through
abbrev pub all_through : List ChunkResult → Bool
all_through [] = true
all_through (r ∷ rs) = is_through r.left && all_through rs

-- a part for each chunk, of which the first comes after so many records
abbrev pub parts_from : ℕ → List ChunkResult → List Section
parts_from nr [] = []
parts_from nr (r ∷ rs) = part (r.state.nr - nr) r.output.items r.table ∷ parts_from r.state.nr rs

-- each chunk's table is of so many scalars and arrays
abbrev pub AreTablesOf : ℕ → ℕ → List ChunkResult → Type 0
AreTablesOf scalars arrays rs = All (λ (r : ChunkResult). (length r.table.scalars ≡ scalars) × (length r.table.arrays ≡ arrays)) rs
