-- Expressions that are printed without an effect.
use Rattle.std.specs.Prelude.{◌≡◌, ℕ, zero, suc, Bool, true, false, List, [], ◌++◌}
use Rattle.pawk_value.specs.Value.{Val}
use Rattle.pawk_world.specs.Worlds.{Calls}
use Rattle.pawk_code.specs.Expressions.{Expr, leaf, numeric, test, textual, read, choice, assign, call, Exprs}
use Rattle.pawk_store.specs.Slots.{ofs_slot}
use Rattle.pawk_store.specs.Builtins.{joined_by}
use Rattle.pawk_store.specs.Parts.{Hold, Moment, Part, gives, as_text}
use Rattle.pawk_store.specs.Places.{text_at}
use Rattle.pawk_store.specs.Meaning.{eval, texts_of}

-- a leaf, or what gives a number
abbrev pub is_plain : Expr → Bool
is_plain (leaf l) = true
is_plain (numeric n) = true
is_plain (test t) = false
is_plain (textual t) = false
is_plain (read p) = false
is_plain (choice c a b) = false
is_plain (assign p e) = false
is_plain (call f as') = false

-- what is before a text, by the number of texts before it
abbrev pub between : ℕ → List ℕ → List ℕ
between zero separator = []
between (suc n) separator = separator

-- the text of the expression is after what was there, and no moment changed
abbrev pub IsPushed : {S : Type 0} → Calls S → Expr → Moment S → List ℕ → List ℕ → Type 0
IsPushed {S} calls e m old new =
    (text : List ℕ) × (new ≡ old ++ text)
    × ((eres : List (List ℕ)) (enter : ℕ → List Hold → Part S Val) → as_text [] (eval calls eres enter e) m ≡ gives text m)

-- the texts of the expressions with OFS between them, and no moment changed
abbrev pub ArePushed : {S : Type 0} → Calls S → Exprs → Moment S → List ℕ → Type 0
ArePushed {S} calls es m line =
    (texts : List (List ℕ)) × (line ≡ joined_by (text_at calls ofs_slot m) texts)
    × ((eres : List (List ℕ)) (enter : ℕ → List Hold → Part S Val) → texts_of calls eres enter es [] m ≡ gives texts m)
