-- What a join reports.
use Rattle.std.specs.Prelude.{◌≡◌, ⊤, Bool, true, false, Result, Ok, Err}
use Rattle.pawk_merge.specs.declared.stop.JoinStop.{JoinStop}
use Rattle.pawk_merge.specs.declared.stop.JoinStop.TheVariants as code

-- cells took what was noted of them, and then this holds; or one did not; nothing is said where memory was refused
abbrev pub Joins : {T : Type 0} → Bool → (T → Type 0) → Result T JoinStop → Type 0
Joins takes P (Ok t) = (takes ≡ true) × P t
Joins takes P (Err code.Cell) = takes ≡ false
Joins takes P (Err code.Fault) = ⊥
Joins takes P (Err code.Clash) = ⊥
Joins takes P (Err code.Memory) = ⊤
