-- Requests that follow one another: a text after that of a scalar, and the pieces of a text in an array.
use Rattle.std.specs.Prelude.{ℕ, ◌+◌, List, [], ◌∷◌, ◌++◌}
use Rattle.std.specs.Fmt.{decimal}
use Rattle.pawk_value.specs.Value.{Text, Maybe}
use Rattle.pawk_value.specs.Conversion.{text_of}
use Rattle.pawk_world.specs.Worlds.{Answer, gives, halts, Calls, scalar, element, write}

-- goes on from an answer; a halt stays
abbrev pub after : {S X Y : Type 0} → Answer S X → (X → S → Answer S Y) → Answer S Y
after (gives x s) next = next x s
after (halts h s) next = halts h s

-- the scalar is the text that it shows, with more after it
abbrev pub append_to : {S : Type 0} → Calls S → ℕ → List ℕ → S → Answer S (Unit {0})
append_to calls slot more s = calls.ask (write (scalar slot) (Text (text_of (calls.look slot s) ++ more))) s

-- the elements whose keys are the numbers after this one are these pieces, as candidates
abbrev pub fill_after : {S : Type 0} → Calls S → ℕ → ℕ → List (List ℕ) → S → Answer S (Unit {0})
fill_after calls array n [] s = gives tt s
fill_after calls array n (piece ∷ rest) s =
    after (calls.ask (write (element array (decimal (n + 1))) (Maybe piece)) s) (λ _. fill_after calls array (n + 1) rest)
