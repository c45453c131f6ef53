-- What matchers answer is what the definitions say.
use Rattle.std.proofs.Common.{◌≡◌, ◌↔◌, ℕ, suc, ◌+◌, ◌<◌, ◌≤◌, arith, Bool, true, false, Option, Some, None, Result, Ok, Err, List, [], ◌∷◌, length, drop, IfOk, IfErr, IfSome, IsTrue, is_some, refl, sym, ap, subst, ◌∙◌, length-drop}
use Rattle.pawk_ere_syntax.specs.Pattern.{Pattern, Matches, HasMatch, IsFound}
use Rattle.pawk_ere_syntax.specs.Tokens.{SpellsEre, SpellsNone}
use Rattle.pawk_ere_automaton.specs.Expand.{expand}
use Rattle.pawk_ere_automaton.specs.Regex.{Regex}
use Rattle.pawk_ere_automaton.proofs.Shift.{forward, within}
use Rattle.pawk_ere_automaton.proofs.Turns.{expand_if}
use Rattle.pawk_ere.specs.Caches.{IsAnswerOfText}
use Rattle.pawk_value.specs.declared.faults.Fault.{Fault}
use Rattle.pawk_value.specs.declared.faults.Fault.TheVariants as faults
use Rattle.pawk_value.specs.declared.faults.Stop.{Stop}
use Rattle.pawk_value.specs.declared.faults.Stop.TheVariants as stop
use Rattle.pawk_fields.specs.FieldsOf.{TellsNone}
use Rattle.pawk_fields.specs.Search.{find, first_match, longest_end, match_or}
use Rattle.pawk_fields.proofs.SearchLemmas.{find_law_lem}
use Rattle.pawk_fields.proofs.ReadLemmas.{read_law_lem}
use Rattle.pawk_store.specs.Builtins.{pattern_of_text, pattern_or_fault, found_by, replaced_by}
use Rattle.pawk_code.specs.declared.word.ReplacedMatches.{ReplacedMatches}
use Rattle.pawk_builtins.specs.MatcherViews.{IsReplaced, SaysWhetherMatches, matched_by}
use Rattle.pawk_builtins.specs.Replaces.{Left, Replaces}
use Rattle.pawk_builtins.specs.Settles.{Settles}

-- ---- the expression of a text

pub spells_is : (bytes : List ℕ) (e : Pattern) → SpellsEre bytes e → pattern_of_text bytes ≡ Ok e
spells_is bytes e spelled = ap pattern_or_fault (((read_law_lem bytes).some e).1 spelled)

pub none_is : (bytes : List ℕ) (f : Fault) → (f ≡ faults.Ere) × SpellsNone bytes → pattern_of_text bytes ≡ Err f
none_is bytes f tells = ap pattern_or_fault ((read_law_lem bytes).none.1 tells.1) ∙ ap Err (sym tells.0)

-- ---- where a match is

pub first_within : (e : Regex) (rest : List ℕ) (p : ℕ) (m : ℕ × ℕ) → first_match e p rest ≡ Some m → (p ≤ m.0) × (m.0 ≤ p + length rest)
unfolding first_match
first_within e [] p m is = go (longest_end e p []) is
  where
    go : (o : Option ℕ) → match_or p o None ≡ Some m → (p ≤ m.0) × (m.0 ≤ p + 0)
    go None is = absurd cc
    go (Some end) is = let same : (p, end) ≡ m = cc in let h = ap (λ (x : ℕ × ℕ). x.0) same in (omega arith, omega arith)
first_within e (b ∷ rest) p m is = go (longest_end e p (b ∷ rest)) (first_within e rest (p + 1) m) is
  where
    go : (o : Option ℕ) → (first_match e (p + 1) rest ≡ Some m → (p + 1 ≤ m.0) × (m.0 ≤ p + 1 + length rest)) → match_or p o (first_match e (p + 1) rest) ≡ Some m → (p ≤ m.0) × (m.0 ≤ p + suc (length rest))
    go None on is = let h = on is in (omega (arith, h.0), omega (arith, h.1))
    go (Some end) on is = let same : (p, end) ≡ m = cc in let h = ap (λ (x : ℕ × ℕ). x.0) same in (omega arith, omega arith)

pub record IsInside (s : List ℕ) (from : ℕ) (m : ℕ × ℕ) : Type 0 where
  pub after : from ≤ m.0
  pub ordered : m.0 ≤ m.1
  pub high : m.1 ≤ length s

pub find_inside : (e : Pattern) (s : List ℕ) (from : ℕ) (m : ℕ × ℕ) → from ≤ length s → find e s from ≡ Some m → IsInside s from m
unfolding find
find_inside e s from m w is =
    let place = first_within (expand e) (drop from s) from m is in
    let law = find_law_lem e s from w in
    let takes = expand_if e s m.0 m.1 ((law.answer.some m.0 m.1).0 is).matches in
    let low : m.0 ≤ length s = omega (arith, place.1, length-drop from s) in
    record {
      after = place.0;
      ordered = forward (expand e) s m.0 m.1 takes;
      high = within (expand e) s m.0 m.1 low takes;
    }

-- ---- what a call of find answers

pub answer_settles : (bytes s : List ℕ) (r : Result (Option (ℕ × ℕ)) Stop) → IfOk r (IsAnswerOfText bytes s 0) → IfErr r (TellsNone bytes) → Settles (λ found. found) (found_by (pattern_of_text bytes) s) r
answer_settles bytes s (Ok found) a t =
    ap (λ e. found_by e s) (spells_is bytes a.pattern a.spelled)
    ∙ ap Ok (sym ((find_law_lem a.pattern s 0 (omega arith)).only found a.answer))
answer_settles bytes s (Err (stop.Fault f)) a t = ap (λ e. found_by e s) (none_is bytes f t)
answer_settles bytes s (Err stop.Memory) a t = tt

pub answer_inside : (bytes s : List ℕ) (r : Result (Option (ℕ × ℕ)) Stop) (limit : ℕ) → IfOk r (IsAnswerOfText bytes s 0) → length s < limit → IfOk r (λ found. IfSome found (λ m. (m.0 ≤ m.1) × (m.1 < limit)))
answer_inside bytes s (Ok None) limit a h = tt
answer_inside bytes s (Ok (Some m)) limit a h =
    let is = (find_law_lem a.pattern s 0 (omega arith)).only (Some m) a.answer in
    let at = find_inside a.pattern s 0 m (omega arith) (sym is) in
    (at.ordered, omega (arith, at.high, h))
answer_inside bytes s (Err e) limit a h = tt

pub answer_before : (bytes s : List ℕ) (r : Result (Option (ℕ × ℕ)) Stop) (limit : ℕ) → IfOk r (IsAnswerOfText bytes s 0) → length s + 1 < limit → IfOk r (λ found. IfSome found (λ m. (m.0 ≤ m.1) × (m.1 + 1 < limit)))
answer_before bytes s (Ok None) limit a h = tt
answer_before bytes s (Ok (Some m)) limit a h =
    let is = (find_law_lem a.pattern s 0 (omega arith)).only (Some m) a.answer in
    let at = find_inside a.pattern s 0 m (omega arith) (sym is) in
    (at.ordered, omega (arith, at.high, h))
answer_before bytes s (Err e) limit a h = tt

-- ---- what a call of is_match answers

finds_is : (e : Pattern) (s : List ℕ) (holds : Bool) → (IsTrue holds ↔ HasMatch (Matches e s) 0) → is_some (find e s 0) ≡ holds
finds_is e s holds h = go holds (find e s 0) h (find_law_lem e s 0 (omega arith)).answer
  where
    go : (b : Bool) (o : Option (ℕ × ℕ)) → (IsTrue b ↔ HasMatch (Matches e s) 0) → IsFound (Matches e s) 0 o → is_some o ≡ b
    go true None h f = let m = h.0 refl in absurd (f.none refl m.0 m.1 m.2 m.3)
    go true (Some m) h f = refl
    go false None h f = refl
    go false (Some m) h f =
        let holds : false ≡ true = h.1 (m.0, omega arith, m.1, ((f.some m.0 m.1).0 refl).matches) in
        absurd cc

pub match_settles : (bytes s : List ℕ) (r : Result Bool Stop) → IfOk r (SaysWhetherMatches bytes s) → IfErr r (TellsNone bytes) → Settles (λ holds. holds) (matched_by (pattern_of_text bytes) s) r
match_settles bytes s (Ok holds) a t =
    ap (λ e. matched_by e s) (spells_is bytes a.pattern a.spelled)
    ∙ ap Ok (finds_is a.pattern s holds a.answer)
match_settles bytes s (Err (stop.Fault f)) a t = ap (λ e. matched_by e s) (none_is bytes f t)
match_settles bytes s (Err stop.Memory) a t = tt

-- ---- what a call of replace answers

pub replace_settles : (bytes : List ℕ) (c : ReplacedMatches) (r s out : List ℕ) (a : Result ℕ Stop) → IfOk a (IsReplaced bytes c r s out) → IfErr a (TellsNone bytes) → Replaces (replaced_by c (pattern_of_text bytes) r s) out a
replace_settles bytes c r s out (Ok n) a t = subst (λ (e : Result Pattern Fault). Left out n (replaced_by c e r s)) (sym (spells_is bytes a.pattern a.spelled)) a.left
replace_settles bytes c r s out (Err (stop.Fault f)) a t = ap (λ e. replaced_by c e r s) (none_is bytes f t)
replace_settles bytes c r s out (Err stop.Memory) a t = tt
