-- What an array is once an element that it lent is given back.
use Rattle.std.specs.Prelude.{◌≡◌, ⊤, ℕ, List, Result, MatchResult}
use Rattle.std.specs.Borrow.{Fml, MutBor, LendsIfOk, follows_so}
use mathlib.Core.Option.{none}
use Rattle.pawk_value.specs.Value.{shown}
use Rattle.pawk_value.specs.declared.values.Value.{Value}
use Rattle.pawk_value.specs.contracts.values.Value as values
use Rattle.pawk_array.specs.contracts.array.AssociativeArray.{the_row}
use Rattle.pawk_array.specs.Entries.{Entries, put, touched}

-- it has at the key the last value that was written, and after a refusal it is as it was
abbrev pub LendsElement : {E : Type 0} → MutBor Entries → List ℕ → Result (MutBor Value) E → Fml
LendsElement s k r = LendsIfOk the_row values.the_row s r (λ w. put k (shown w) s.now) s.now

-- it has an element at the key, and after a refusal it is as it was
abbrev pub EndsTouched : {A E : Type 0} → MutBor Entries → List ℕ → Result A E → Fml
EndsTouched s k r = follows_so the_row the_row s.ghost_name none (λ _ _. ⊤) (λ n. MatchResult r (λ _. n ≡ touched k s.now) (λ _. n ≡ s.now))
