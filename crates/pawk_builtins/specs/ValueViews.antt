-- Values in one buffer of bytes.
use Rattle.std.specs.Prelude.{ℕ, ◌≤◌, List, length, slice_range}
use Rattle.std.specs.List.{All}
use Rattle.std.specs.declared.ops.Range.{Range}
use Rattle.pawk_value.specs.Value.{Val}
use Rattle.pawk_value.specs.declared.held.Held.{Held}
use Rattle.pawk_value.specs.Held.{held_value}

-- a value, and where its bytes lie
abbrev pub value_in : List ℕ → Held × Range ℕ → Val
value_in bytes p = held_value p.0 (slice_range bytes p.1.start p.1.end)

abbrev pub AreWithin : List ℕ → List (Held × Range ℕ) → Type 0
AreWithin bytes ps = All (λ p. (p.1.start ≤ p.1.end) × (p.1.end ≤ length bytes)) ps
