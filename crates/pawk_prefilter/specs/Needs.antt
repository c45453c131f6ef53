-- What a record must hold for a rule to be for it (POSIX.1-2017, awk, "Patterns" and "Regular Expressions").
use Rattle.std.specs.Prelude.{◌≡◌, ℕ, zero, suc, pos, negsuc, ◌+◌, ◌≤◌, Bool, true, false, ◌||◌, List, [], ◌∷◌, ◌++◌, length, All, None, Ok}
use Rattle.pawk_value.specs.Conversion.{text_of}
use Rattle.pawk_world.specs.Worlds.{Calls}
use Rattle.pawk_store.specs.RecordStates.{RecordState}
use Rattle.pawk_store.specs.Slots.{fs_slot}
use Rattle.pawk_ere.specs.Words.{HoldsNone}
use Rattle.pawk_code.specs.Expressions.{Expr, leaf, numeric, test, field, find, Test, both, either, matches, Pattern, fixed_pattern}
use Rattle.pawk_code.specs.Programs.{Selector, always, matching, between, Rule, Code}
use Rattle.pawk_input.specs.Input.{Item}
use Rattle.pawk_store.specs.Builtins.{found_by, fixed_at}
use Rattle.pawk_store.specs.Records.{End, is_inside}
use Rattle.pawk_store.specs.Runs.{records_from}

module _ (eres words : List (List ℕ)) where
  -- the expression of this number, of the texts between slashes, matches nothing in a text that holds none of the words
  abbrev pub Needs : ℕ → Type 0
  Needs k = (text : List ℕ) → HoldsNone text words → found_by (fixed_at eres k) text ≡ Ok None

  -- such an expression is looked for, and in the record
  abbrev pub NeedsInRecord : Expr → Pattern → Type 0
  NeedsInRecord (leaf (field zero)) (fixed_pattern k) = Needs k
  NeedsInRecord _ _ = ⊥

  -- the expression is false for a record that holds none of the words, and changes nothing but what `match` sets
  abbrev mutual
    pub IsIdle : Expr → Type 0
    IsIdle (test t) = IsIdleTest t
    IsIdle (numeric (find e p)) = NeedsInRecord e p
    IsIdle _ = ⊥

    pub IsIdleTest : Test → Type 0
    IsIdleTest (matches true e p) = NeedsInRecord e p
    IsIdleTest (both a b) = IsIdle a
    IsIdleTest (either a b) = IsIdle a × IsIdle b
    IsIdleTest _ = ⊥

  -- a rule of such a selector is for no record that holds none of the words, unless its range has begun
  abbrev pub IsIdleSelector : Selector → Type 0
  IsIdleSelector always = ⊥
  IsIdleSelector (matching e) = IsIdle e
  IsIdleSelector (between p q) = IsIdle p

  abbrev pub IsIdleRule : Rule → Type 0
  IsIdleRule r = IsIdleSelector r.selector

-- whether such an expression sets what `match` sets
abbrev mutual
  pub resets : Expr → Bool
  resets (test t) = resets_test t
  resets (numeric (find e p)) = true
  resets _ = false

  pub resets_test : Test → Bool
  resets_test (both a b) = resets a
  resets_test (either a b) = resets a || resets b
  resets_test _ = false

abbrev pub resets_selector : Selector → Bool
resets_selector always = false
resets_selector (matching e) = resets e
resets_selector (between p q) = resets p

abbrev pub any_resets : List Rule → Bool
any_resets [] = false
any_resets (r ∷ rs) = resets_selector r.selector || any_resets rs

-- what `match` sets where it finds nothing
abbrev pub reset_if : Bool → RecordState → RecordState
reset_if true s = record s { rstart = pos 0; rlength = negsuc 0 }
reset_if false s = s

-- The state after n more records, of which none did anything, or none but what `match` sets where it finds
-- nothing. The record, FNR and FILENAME are those from before.
abbrev pub moved_on : Bool → ℕ → RecordState → RecordState
moved_on reset zero s = s
moved_on reset (suc n) s = reset_if reset (record s { nr = s.nr + suc n })

-- the end of a part after n more records
abbrev pub past : {S : Type 0} → Bool → ℕ → End S → End S
past reset n e = record e { state = moved_on reset n e.state }

-- Records that hold none of the words of which every rule needs one may be passed over unread, where another record
-- follows, FS is one byte and no range has begun: what they set but NR, and what `match` sets, the next one sets again.
abbrev pub PassLaw : {S : Type 0} → Calls S → Type 0
PassLaw {S} calls =
    (code : Code) (budget : ℕ) (words : List (List ℕ)) (passed left : List Item) (e : End S) →
    All (IsIdleRule code.expressions words) code.rules →
    length (text_of (calls.look fs_slot e.world)) ≡ 1 →
    ((n : ℕ) → is_inside n e.state ≡ false) →
    All (λ (i : Item). HoldsNone i.bytes words) passed →
    1 ≤ length left →
    records_from calls code.expressions code budget None e (passed ++ left)
    ≡ records_from calls code.expressions code budget None (past (any_resets code.rules) (length passed) e) left
