-- What is known of a program's rules, so that records may be passed over.
use Rattle.std.specs.Prelude.{◌≡◌, ℕ, Bool, List, map, All, Vec, Option, IfSome}
use Rattle.std.specs.declared.alloc.Global.{Global}
use Rattle.pawk_code.specs.Programs.{Code, Rule}
use Rattle.pawk_store.specs.declared.state.RecordState.{RecordState}
use Rattle.pawk_store.specs.StateViews.{state_of}
use Rattle.pawk_prefilter.specs.Needs.{IsIdleRule, any_resets}
use Rattle.pawk_store.specs.Records.{Left, End}

-- the bytes of texts
abbrev pub texts_of : List (Vec ℕ Global) → List (List ℕ)
texts_of texts = map (λ (x : Vec ℕ Global). x.items) texts

-- the words that rules need, if such are known, and whether a pattern sets what `match` sets
pub record Known : Type 0 where
  pub words : Option (List (List ℕ))
  pub resets : Bool

-- each rule needs one of the words
abbrev pub AreNeeded : List (List ℕ) → List Rule → List (List ℕ) → Type 0
AreNeeded eres rules words = All (IsIdleRule eres words) rules

-- what is known of a program's rules
pub record IsPassage (code : Code) (known : Known) : Type 0 where
  pub needed : IfSome known.words (AreNeeded code.expressions code.rules)
  pub sets : known.resets ≡ any_resets code.rules

-- an end of a part with this state
abbrev pub end_with : {S : Type 0} → S → List ℕ → Left → RecordState → End S
end_with world output left state = record { world = world; state = state_of state; output = output; left = left }
