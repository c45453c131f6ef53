-- How the input is to be cut.
use Rattle.std.specs.Prelude.{◌≡◌, ◌≢◌, ℕ, ◌<◌, ◌+◌, ◌-◌, ◌/◌, max, List, length}
use Rattle.pawk_code.specs.Programs.{Code}
use Rattle.pawk_input.specs.Input.{File, total_size}
use Rattle.pawk_input.specs.declared.cutting.Chunk.{Chunk}
use Rattle.pawk_input.specs.Plan.{cut_at, sized, RefusesMany, RefusesCuts}
use Rattle.pawk_input.specs.declared.cutting.CutRefusal.{CutRefusal}
use Rattle.pawk_input.specs.declared.cutting.CutRefusal.TheVariants.{Memory}
use Rattle.pawk_input.specs.Limits.{most_chunks}
use Rattle.pawk_store.specs.Globals.{Globals}
use Rattle.pawk_store.specs.Records.{End}
use Rattle.pawk_routes.specs.Routes.{IsPlanned, separator_of}
use Rattle.pawk_routes.specs.declared.cutting.Cutting.{Cutting}
use Rattle.pawk_routes.specs.declared.cutting.Cutting.TheVariants.{Size, AtLeast, At}

-- a size is 1 or more
abbrev pub IsSized : Cutting → Type 0
IsSized (Size bytes) = 0 < bytes
IsSized (AtLeast bytes) = Unit {0}
IsSized (At cuts) = Unit {0}

-- The size that is taken where at least this one is asked for. As many chunks as there may be beside one for each file have no
-- more than all bytes together.
abbrev pub size_taken : List File → ℕ → ℕ
size_taken files bytes = max (total_size files / max (most_chunks - length files) 1 + 1) bytes

-- the plan is the one of the cuts, where they are asked for; sizes may be greater than what is asked for
abbrev pub IsAsked : List ℕ → List File → Cutting → List Chunk → Type 0
IsAsked rs files (Size bytes) plan = Unit {0}
IsAsked rs files (AtLeast bytes) plan = Unit {0}
IsAsked rs files (At cuts) plan = plan ≡ cut_at rs files cuts.items

-- the plan of this cutting, by this RS, is refused so
abbrev pub PlanRefused : List ℕ → List File → Cutting → CutRefusal → Type 0
PlanRefused rs files (Size bytes) e = RefusesMany (length (sized rs files bytes)) most_chunks e
PlanRefused rs files (AtLeast bytes) e = RefusesMany (length (sized rs files (size_taken files bytes))) most_chunks e
PlanRefused rs files (At cuts) e = RefusesCuts rs files cuts.items most_chunks e

-- there is no plan of this cutting, memory aside
abbrev pub IsRefused : List ℕ → List File → Cutting → Type 0
IsRefused rs files cutting = (e : CutRefusal) × (e ≢ Memory) × PlanRefused rs files cutting e

-- the records may be run in chunks, and there is no plan of this cutting
abbrev pub HasNoPlan : Code → End Globals → List File → Cutting → Type 0
HasNoPlan code e files cutting = IsPlanned code e × IsRefused (separator_of e) files cutting
