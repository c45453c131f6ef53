-- What rules need, one after the other.
use Rattle.std.proofs.Common.{◌≡◌, ⊎_elim, ℕ, zero, suc, ◌+◌, ◌<◌, ◌≤◌, ◌++◌, get_or, length-append, true, false, List, [], ◌∷◌, length, Some, None, Ok, refl, sym, subst, ap, ◌∙◌, arith}
use Rattle.std.specs.Prelude.{All, slice_get}
use Rattle.std.proofs.lemmas.Bool.{cases_lt}
use Rattle.std.proofs.lemmas.List.{get_or_append_left, get_or-append-add}
use Rattle.memchr.specs.Find.{OccursAt}
use Rattle.pawk_ere.specs.Pattern.{Pattern as Regular, Matches, NoneFrom}
use Rattle.pawk_ere.specs.Tokens.{SpellsEre}
use Rattle.pawk_ere.specs.Words.{HoldsNone, NeedsWords}
use Rattle.pawk_fields.specs.Search.{find as find_in}
use Rattle.pawk_fields.proofs.SearchLemmas.{find_law_lem}
use Rattle.pawk_fields.proofs.ReadLemmas.{read_law_lem}
use Rattle.pawk_code.specs.Expressions.{Expr, leaf, numeric, test, field, find, Test, both, either, matches, Pattern, fixed_pattern}
use Rattle.pawk_code.specs.Programs.{Selector, always, matching, between, Rule, Code}
use Rattle.pawk_value.specs.Conversion.{text_of}
use Rattle.pawk_world.specs.Worlds.{Calls}
use Rattle.pawk_store.specs.Slots.{fs_slot}
use Rattle.pawk_input.specs.Input.{Item}
use Rattle.pawk_input.specs.Passing.{PassesOver}
use Rattle.pawk_store.specs.Records.{End, is_inside}
use Rattle.pawk_store.specs.Runs.{records_from}
use Rattle.pawk_prefilter.proofs.PassLemmas.{passes}
use Rattle.pawk_store.specs.Builtins.{found_by, pattern_at, pattern_or_fault}
use Rattle.pawk_prefilter.specs.Needs.{Needs, NeedsInRecord, IsIdle, IsIdleTest, IsIdleSelector, IsIdleRule, any_resets, past}

-- ---- an expression

nothing_found : (e : Regular) (s : List ℕ) → NoneFrom (Matches e s) 0 → find_in e s 0 ≡ None
nothing_found e s none = sym ((find_law_lem e s 0 (omega arith)).only None (record {
  some = λ i j. (λ h. absurd cc, λ l. absurd (none i l.after j l.matches));
  none = λ h. none;
}))

-- the text of this number spells an expression that needs one of the words
pub needs_number : (eres : List (List ℕ)) (k : ℕ) (text : List ℕ) (e : Regular) (words : List (List ℕ)) → slice_get eres k ≡ Some text → SpellsEre text e → NeedsWords e words → 1 ≤ length words → Needs eres words k
needs_number eres k text e words at spelled needs some s none =
    ap (λ o. found_by (pattern_at o) s) at
    ∙ ap (λ r. found_by (pattern_or_fault r) s) (((read_law_lem text).some e).1 spelled)
    ∙ ap Ok (nothing_found e s (needs some s none))

-- ---- more words

module _ (eres few more : List (List ℕ)) (fewer : (s : List ℕ) → HoldsNone s more → HoldsNone s few) where
  found_more : (e : Expr) (p : Pattern) → NeedsInRecord eres few e p → NeedsInRecord eres more e p
  found_more (leaf (field zero)) (fixed_pattern k) needs = λ s none. needs s (fewer s none)
  found_more _ _ needs = absurd needs

  mutual
    idle_more : (e : Expr) → IsIdle eres few e → IsIdle eres more e
    idle_more (test t) idle = test_more t idle
    idle_more (numeric (find e p)) idle = found_more e p idle
    idle_more _ idle = absurd idle

    test_more : (t : Test) → IsIdleTest eres few t → IsIdleTest eres more t
    test_more (matches true e p) idle = found_more e p idle
    test_more (both a b) idle = idle_more a idle
    test_more (either a b) idle = (idle_more a idle.0, idle_more b idle.1)
    test_more _ idle = absurd idle

  selector_more : (s : Selector) → IsIdleSelector eres few s → IsIdleSelector eres more s
  selector_more always idle = absurd idle
  selector_more (matching e) idle = idle_more e idle
  selector_more (between p q) idle = idle_more p idle

  pub rule_more : (r : Rule) → IsIdleRule eres few r → IsIdleRule eres more r
  rule_more r idle = selector_more r.selector idle

-- ---- rules

holds_none_of : (s : List ℕ) (few more : List (List ℕ)) → HoldsNone s (few ++ more) → HoldsNone s few × HoldsNone s more
holds_none_of s few more none = (
  λ k d lt. subst (λ (w : List ℕ). (q : ℕ) → OccursAt s w q → ⊥) (get_or_append_left few more d k lt) (none k d (omega (arith, length-append few more))),
  λ k d lt. subst (λ (w : List ℕ). (q : ℕ) → OccursAt s w q → ⊥) (get_or-append-add few more k d) (none (length few + k) d (omega (arith, length-append few more))),
)

-- two expressions, each with its words
pub both_idle : (eres few more all : List (List ℕ)) (a b : Expr) → all ≡ few ++ more → IsIdle eres few a → IsIdle eres more b → IsIdle eres all a × IsIdle eres all b
both_idle eres few more all a b is f g = (
  idle_more eres few all (λ s none. (holds_none_of s few more (subst (HoldsNone s) is none)).0) a f,
  idle_more eres more all (λ s none. (holds_none_of s few more (subst (HoldsNone s) is none)).1) b g,
)

-- one more rule with its words
pub one_more_rule : (eres few more all : List (List ℕ)) (rules : List Rule) (i : ℕ) (r : Rule) → all ≡ few ++ more → ((d : Rule) → get_or rules i d ≡ r) → ((k : ℕ) (d : Rule) → k < i → IsIdleRule eres few (get_or rules k d)) → IsIdleRule eres more r → (k : ℕ) (d : Rule) → k < i + 1 → IsIdleRule eres all (get_or rules k d)
one_more_rule eres few more all rules i r is here before idle k d lt = ⊎_elim {B = i ≤ k}
    (λ l. rule_more eres few all (λ s none. (holds_none_of s few more (subst (HoldsNone s) is none)).0) (get_or rules k d) (before k d l))
    (λ l.
    let same : k ≡ i = omega arith in
    rule_more eres more all (λ s none. (holds_none_of s few more (subst (HoldsNone s) is none)).1) (get_or rules k d)
    (subst (IsIdleRule eres more) (sym (ap (λ n. get_or rules n d) same ∙ here d)) idle))
    (cases_lt k i)

-- ---- passing over

none_if_zero : {A : Type 0} (xs : List A) → length xs ≡ 0 → xs ≡ []
none_if_zero [] z = refl
none_if_zero (x ∷ xs) z = absurd (omega arith)

-- the records that are left after a pass end as all of them do
pub passed_alike : {S : Type 0} (calls : Calls S) (code : Code) (budget : ℕ) (words : List (List ℕ)) (e : End S) (old new : List Item) (n : ℕ) →
    All (IsIdleRule code.expressions words) code.rules → length (text_of (calls.look fs_slot e.world)) ≡ 1 → ((k : ℕ) → is_inside k e.state ≡ false) → PassesOver words old new n →
    records_from calls code.expressions code budget None (past (any_resets code.rules) n e) new ≡ records_from calls code.expressions code budget None e old
passed_alike calls code budget words e old new zero idle one outside p =
    ap (records_from calls code.expressions code budget None e) (sym (p.between ∙ ap (λ is'. is' ++ new) (none_if_zero p.passed p.count)))
passed_alike calls code budget words e old new (suc n) idle one outside p =
    sym (ap (records_from calls code.expressions code budget None e) p.between ∙ passes calls code budget words p.passed new e idle one outside p.without (p.more (omega arith))
    ∙ ap (λ k. records_from calls code.expressions code budget None (past (any_resets code.rules) k e) new) p.count)
