-- Texts that are found without their parts being evaluated one by one.
use Rattle.std.specs.Prelude.{◌≡◌, ℕ, Bool, true, false, List, ◌++◌}
use Rattle.pawk_value.specs.Held.{added}
use Rattle.pawk_value.specs.Value.{Val}
use Rattle.pawk_world.specs.Worlds.{Calls}
use Rattle.pawk_code.specs.Expressions.{Textual}
use Rattle.pawk_store.specs.Parts.{Hold, Moment, Part, gives}
use Rattle.pawk_store.specs.Meaning.{text_of_textual}

-- where it was found, the text is after what was there, and no moment changed; else nothing is
abbrev pub IsQuickText : {S : Type 0} → Calls S → Textual → Moment S → List ℕ → List ℕ → Bool → Type 0
IsQuickText {S} calls t m old new found =
    (found ≡ false → new ≡ old) × (found ≡ true → new ≡ old ++ added old new)
    × (found ≡ true → (eres : List (List ℕ)) → (enter : ℕ → List Hold → Part S Val)
    → text_of_textual calls eres enter t m ≡ gives (added old new) m)
