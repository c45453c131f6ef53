-- Occurrences that are added one after the other.
use Rattle.std.proofs.Common.{◌≡◌, List, ◌++◌, append_assoc, refl, Result, Ok, Err}
use Rattle.std.specs.Prelude.{OnOk}
use Rattle.pawk_admit.specs.declared.occurrence.Occurrence.{Occurrence}

-- some, and then others
pub after : {E : Type 0} (r : Result (Unit {0}) E) (x a b inner front rest : List Occurrence) →
    OnOk r (x ≡ b ++ rest) → b ≡ a ++ front → inner ≡ front ++ rest → OnOk r (x ≡ a ++ inner)
after (Ok u) x a b inner front rest h e f = rw (h, e, f) (append_assoc a front rest)
after (Err e') x a b inner front rest h e f = tt

-- the same alone
pub at_once : {E : Type 0} (r : Result (Unit {0}) E) (x a inner rest : List Occurrence) →
    OnOk r (x ≡ a ++ rest) → inner ≡ rest → OnOk r (x ≡ a ++ inner)
at_once (Ok u) x a inner rest h f = rw (h, f) refl
at_once (Err e') x a inner rest h f = tt
