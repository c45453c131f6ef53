-- What idle expressions, selectors and rules do at a record that holds none of the words.
use Rattle.std.proofs.Common.{◌≡◌, ℕ, zero, suc, pos, List, [], ◌∷◌, refl, ap, ◌∙◌, Bool, true, false, if◌then◌else◌}
use Rattle.std.specs.Prelude.{◌||◌, All, is_some}
use Rattle.std.proofs.lemmas.List.Elements.{All-head, All-tail}
use Rattle.pawk_value.specs.Value.{Val, Num}
use Rattle.pawk_value.specs.Conversion.{truth_of as truth_in}
use Rattle.pawk_world.specs.Worlds.{Calls}
use Rattle.pawk_store.specs.RecordStates.{RecordState}
use Rattle.pawk_ere.specs.Words.{HoldsNone}
use Rattle.pawk_code.specs.Expressions.{Expr, leaf, numeric, test, field, find, Test, both, either, matches, Pattern, fixed_pattern}
use Rattle.pawk_code.specs.Programs.{Selector, always, matching, between, Rule, Function}
use Rattle.pawk_store.specs.Limits.{greatest_calls}
use Rattle.pawk_store.specs.Parts.{Hold, Moment, Outcome, gives, Part, give, settle, then_do, bind, as_truth}
use Rattle.pawk_store.specs.Meaning.{one_or_zero, place_of_match, decide, set_match, eval, truth_of, call_at}
use Rattle.pawk_store.specs.Builtins.{same_truth}
use Rattle.pawk_store.specs.Records.{is_inside, holds, does, in_range, selects, rules_from}
use Rattle.pawk_prefilter.specs.Needs.{NeedsInRecord, IsIdle, IsIdleTest, IsIdleSelector, IsIdleRule, resets, resets_test, resets_selector, any_resets, reset_if}

-- ---- what a match that finds nothing sets

abbrev pub reset_moment : {S : Type 0} → Bool → Moment S → Moment S
reset_moment b m = record m { state = reset_if b m.state }

-- set twice is set once
reset_twice : (a b : Bool) (s : RecordState) → reset_if b (reset_if a s) ≡ reset_if (a || b) s
reset_twice true true s = refl
reset_twice true false s = refl
reset_twice false b s = refl

moment_twice : {S : Type 0} (a b : Bool) (m : Moment S) → reset_moment b (reset_moment a m) ≡ reset_moment (a || b) m
moment_twice a b m = ap (λ (s : RecordState). record m { state = s }) (reset_twice a b m.state)

-- the record stays
same_line : (words : List (List ℕ)) (b : Bool) (s : RecordState) → HoldsNone s.line.text words → HoldsNone (reset_if b s).line.text words
same_line words true s none = none
same_line words false s none = none

-- the ranges stay
pub same_ranges : (b : Bool) (s : RecordState) → ((n : ℕ) → is_inside n s ≡ false) → (n : ℕ) → is_inside n (reset_if b s) ≡ false
same_ranges true s outside n = outside n
same_ranges false s outside n = outside n

-- ---- a part whose value is 0

module _ {S : Type 0} where
  false_then : {X : Type 0} (part : Part S Val) (go : Bool → Part S X) (m n : Moment S) → part m ≡ gives (Num (pos 0)) n → decide (as_truth part) go m ≡ go false n
  false_then part go m n e = ap (λ (o : Outcome S Val). then_do (then_do o (λ v. give (truth_in v))) (λ r. bind (settle r) go)) e

  false_here : (part : Part S Val) (m n : Moment S) → part m ≡ gives (Num (pos 0)) n → bind (as_truth part) settle m ≡ gives false n
  false_here part m n e = ap (λ (o : Outcome S Val). then_do (then_do o (λ v. give (truth_in v))) settle) e

-- ---- expressions

module _ {S : Type 0} (calls : Calls S) (eres words : List (List ℕ)) where
  module _ (enter : ℕ → List Hold → Part S Val) where
    -- nothing is found in the record
    find_idle : (e : Expr) (p : Pattern) (m : Moment S) → NeedsInRecord eres words e p → HoldsNone m.state.line.text words → eval calls eres enter (numeric (find e p)) m ≡ gives (Num (pos 0)) (reset_moment true m)
    find_idle (leaf (field zero)) (fixed_pattern k) m needs none =
        ap (λ r. then_do (then_do (settle r m) (λ found. set_match (place_of_match found))) (λ z. give (Num z))) (needs m.state.line.text none)
    find_idle _ _ m needs none = absurd needs

    matches_idle : (e : Expr) (p : Pattern) (m : Moment S) → NeedsInRecord eres words e p → HoldsNone m.state.line.text words → truth_of calls eres enter (matches true e p) m ≡ gives false m
    matches_idle (leaf (field zero)) (fixed_pattern k) m needs none =
        ap (λ r. then_do (settle r m) (λ found. give (same_truth true (is_some found)))) (needs m.state.line.text none)
    matches_idle _ _ m needs none = absurd needs

    mutual
      pub value_idle : (e : Expr) (m : Moment S) → IsIdle eres words e → HoldsNone m.state.line.text words → eval calls eres enter e m ≡ gives (Num (pos 0)) (reset_moment (resets e) m)
      value_idle (test t) m idle none = ap (λ (o : Outcome S Bool). then_do o (λ h. give (one_or_zero h))) (truth_idle t m idle none)
      value_idle (numeric (find e p)) m idle none = find_idle e p m idle none
      value_idle _ m idle none = absurd idle

      truth_idle : (t : Test) (m : Moment S) → IsIdleTest eres words t → HoldsNone m.state.line.text words → truth_of calls eres enter t m ≡ gives false (reset_moment (resets_test t) m)
      truth_idle (matches true e p) m idle none = matches_idle e p m idle none
      truth_idle (both a b) m idle none =
          false_then (eval calls eres enter a) (λ h. if h then bind (as_truth (eval calls eres enter b)) settle else give false) m (reset_moment (resets a) m) (value_idle a m idle none)
      truth_idle (either a b) m idle none =
          let n = reset_moment (resets a) m in
          false_then (eval calls eres enter a) (λ h. if h then give true else bind (as_truth (eval calls eres enter b)) settle) m n (value_idle a m idle.0 none)
          ∙ false_here (eval calls eres enter b) n (reset_moment (resets b) n) (value_idle b n idle.1 (same_line words (resets a) m.state none))
          ∙ ap (gives false) (moment_twice (resets a) (resets b) m)
      truth_idle _ m idle none = absurd idle

  -- ---- selectors and rules

  module _ (functions : List Function) where
    holds_idle : (e : Expr) (m : Moment S) → IsIdle eres words e → HoldsNone m.state.line.text words → holds calls eres functions e m ≡ gives false (reset_moment (resets e) m)
    holds_idle e m idle none =
        let enter = call_at calls eres functions greatest_calls in
        false_here (eval calls eres enter e) m (reset_moment (resets e) m) (value_idle enter e m idle none)

    selects_idle : (n : ℕ) (s : Selector) (m : Moment S) → IsIdleSelector eres words s → HoldsNone m.state.line.text words → is_inside n m.state ≡ false → selects calls eres functions n s m ≡ gives false (reset_moment (resets_selector s) m)
    selects_idle n always m idle none outside = absurd idle
    selects_idle n (matching e) m idle none outside = holds_idle e m idle none
    selects_idle n (between p q) m idle none outside =
        ap (λ (b : Bool). then_do (if b then give true m else holds calls eres functions p m) (in_range calls eres functions n q)) outside
        ∙ ap (λ (o : Outcome S Bool). then_do o (in_range calls eres functions n q)) (holds_idle p m idle none)

    pub rules_idle : (n : ℕ) (rules : List Rule) (m : Moment S) → All (IsIdleRule eres words) rules → HoldsNone m.state.line.text words → ((k : ℕ) → is_inside k m.state ≡ false) → rules_from calls eres functions n rules m ≡ gives tt (reset_moment (any_resets rules) m)
    rules_idle n [] m idle none outside = refl
    rules_idle n (r ∷ rs) m idle none outside =
        let b = resets_selector r.selector in
        let after = reset_moment b m in
        ap (λ (o : Outcome S Bool). then_do (then_do o (λ h. if h then does calls eres functions r.body else give tt)) (λ _. rules_from calls eres functions (suc n) rs)) (selects_idle n r.selector m (All-head (IsIdleRule eres words) r rs idle) none (outside n))
        ∙ rules_idle (suc n) rs after (All-tail (IsIdleRule eres words) r rs idle) (same_line words b m.state none) (same_ranges b m.state outside)
        ∙ ap (gives tt) (moment_twice b (any_resets rs) m)
