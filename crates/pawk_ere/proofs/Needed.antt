-- Words that a text must hold to have a match.
use Rattle.std.proofs.Common.{◌≡◌, ℕ, ◌+◌, ◌<◌, ◌≤◌, ◌⊎◌, Bool, true, false, Option, Some, None, is_some, List, [], ◌∷◌, ◌++◌, length, get_or, Vec, vec_len, Global, eqb, eq-eqb, refl, sym, ap, ◌∙◌, subst, ⊎_elim, arith, length-append}
use Rattle.std.specs.Prelude.{All}
use Rattle.std.proofs.lemmas.Bool.{cases_lt}
use Rattle.std.proofs.lemmas.List.{get_or_append_left, get_or-append-add, get_or_read}
use Rattle.memchr.specs.Find.{FindsNeedle, OccursAt}
use Rattle.pawk_ere.specs.Words.{AreNeeded, EndsIn, HoldsNone, IsLiteral, AreFeatures, IsPrefilter, NeedsOne}
use Rattle.pawk_ere.specs.declared.words.Features.{Features}
use Rattle.pawk_ere.specs.declared.words.Prefilter.{Prefilter}
use Rattle.pawk_ere.specs.declared.words.Prefilter.TheVariants.{Words}
use Rattle.pawk_ere_syntax.specs.Pattern.{Leads, NoneFrom}
use Rattle.pawk_ere_automaton.specs.Regex.{Regex, Empty, Sequence, Either, Plus, Takes}
use Rattle.pawk_ere_automaton.proofs.Leftmost.{none_beyond}
use Rattle.pawk_ere.proofs.Literals.{literal_sequence, occurs_join}
use Rattle.pawk_ere_automaton.proofs.Shift.{forward, within}

-- each match ends with no bytes
pub ends_in_nothing : (e : Regex) → EndsIn e []
ends_in_nothing e s i j t le = (j, record { fits = omega arith; reads = λ q lt. absurd (omega arith) }, omega arith)

pub ends_in_literal : (e : Regex) (bytes : List ℕ) → IsLiteral e bytes → EndsIn e bytes
ends_in_literal e bytes is s i j t le = let o = (is s i j).0 t in (i, o.0, o.1)

-- where the second part is its tail, a match ends with both tails
pub ends_in_both : (a b : Regex) (x y : List ℕ) → EndsIn a x → IsLiteral b y → EndsIn (Sequence a b) (x ++ y)
ends_in_both a b x y f is s i j t le =
    let q = (is s t.0 j).0 t.2 in
    let p = f s i t.0 t.1 (omega (arith, q.0.fits)) in
    (p.0, occurs_join s x y p.0 p.1 (subst (OccursAt s y) p.2 q.0), omega (arith, p.2, q.1, length-append x y))

pub ends_in_second : (a b : Regex) (y : List ℕ) → EndsIn b y → EndsIn (Sequence a b) y
ends_in_second a b y f s i j t le = f s t.0 j t.2 le

-- the last turn of many
last_turn : (a : Regex) (s : List ℕ) (i j : ℕ) (ks : List ℕ) → 1 ≤ length ks → Leads (Takes a s) i ks j → (k : ℕ) × Takes a s k j
last_turn a s i j [] some l = absurd (omega arith)
last_turn a s i j (k ∷ []) some l = (i, subst (λ m. Takes a s i m) l.1 l.0)
last_turn a s i j (k ∷ m ∷ ks) some l = last_turn a s k j (m ∷ ks) (omega arith) l.1

pub ends_in_turn : (a : Regex) (y : List ℕ) → EndsIn a y → EndsIn (Plus a) y
ends_in_turn a y f s i j t le = let x = last_turn a s i j t.0 t.1 t.2 in f s x.0 j x.1 le

-- ---- words

pub needs_first : (a b : Regex) (words : List (List ℕ)) → NeedsOne a words → NeedsOne (Sequence a b) words
needs_first a b words h s i j none t le = h s i t.0 none t.1 (omega (arith, forward b s t.0 j t.2))

pub needs_second : (a b : Regex) (words : List (List ℕ)) → NeedsOne b words → NeedsOne (Sequence a b) words
needs_second a b words h s i j none t le = h s t.0 j none t.2 le

pub needs_turn : (a : Regex) (words : List (List ℕ)) → NeedsOne a words → NeedsOne (Plus a) words
needs_turn a words h s i j none t le = let x = last_turn a s i j t.0 t.1 t.2 in h s x.0 j none x.1 le

pub needs_tail : (e : Regex) (tail : List ℕ) → EndsIn e tail → NeedsOne e (tail ∷ [])
needs_tail e tail f s i j none t le = let x = f s i j t le in none 0 tail (omega arith) x.0 x.1

all_first : (P : List ℕ → Type 0) (x y : List (List ℕ)) → All P (x ++ y) → All P x
all_first P x y h k d lt = subst P (get_or_append_left x y d k lt) (h k d (omega (arith, length-append x y)))

all_second : (P : List ℕ → Type 0) (x y : List (List ℕ)) → All P (x ++ y) → All P y
all_second P x y h k d lt = subst P (get_or-append-add x y k d) (h (length x + k) d (omega (arith, length-append x y)))

pub needs_either : (a b : Regex) (x y : List (List ℕ)) → NeedsOne a x → NeedsOne b y → NeedsOne (Either a b) (x ++ y)
needs_either a b x y f g s i j none t le = ⊎_elim
    (λ l. f s i j (all_first (λ w. (k : ℕ) → OccursAt s w k → ⊥) x y none) l le)
    (λ r. g s i j (all_second (λ w. (k : ℕ) → OccursAt s w k → ⊥) x y none) r le) t

-- none of the words before the place occurs in the text
abbrev pub LacksBefore : List ℕ → List (List ℕ) → ℕ → Type 0
LacksBefore s words i = (q : ℕ) (d : List ℕ) → q < i → (k : ℕ) → OccursAt s (get_or words q d) k → ⊥

not_found : (s word : List ℕ) (r : Option ℕ) → is_some r ≡ false → FindsNeedle s word 0 r → (k : ℕ) → OccursAt s word k → ⊥
not_found s word None h f k o = let x = o.fits in f k (omega arith) (omega arith) o
not_found s word (Some x) h f k o = cc

pub lacks_more : (s word : List ℕ) (words : List (List ℕ)) (i : ℕ) (r : Option ℕ) → i < length words → word ≡ get_or words i word → is_some r ≡ false → FindsNeedle s word 0 r → LacksBefore s words i → LacksBefore s words (i + 1)
lacks_more s word words i r lt is h f before q d le k o = ⊎_elim {B = i ≤ q}
    (λ x. before q d x k o)
    (λ x.
    let here : q ≡ i = omega arith in
    let same : get_or words q d ≡ word = ap (λ n. get_or words n d) here ∙ sym (get_or_read words i word lt is d) in
    not_found s word r h f k (subst (λ w. OccursAt s w k) same o))
    (cases_lt q i)

-- a text that holds none of the words has no match
pub none_without : (e : Regex) (s : List ℕ) (words : List (List ℕ)) → AreNeeded e words → 1 ≤ length words → HoldsNone s words → NoneFrom (Takes e s) 0
none_without e s words needed some none =
    none_beyond e s 0 (omega arith) (λ k low high j t. needed some s k j none t (within e s k j (omega arith) t))

-- the same, as a search from the begin asks for it
pub none_filtered : (e : Regex) (s : List ℕ) (from : ℕ) (o : Prefilter) (v : Vec (List ℕ) Global) (words : List (List ℕ)) → from ≡ 0 → o ≡ Words v → words ≡ v.items → IsPrefilter e o → 1 ≤ length words → HoldsNone s words → NoneFrom (Takes e s) from
none_filtered e s from o v words begin is same tells some none =
    subst (NoneFrom (Takes e s)) (sym begin) (none_without e s words (subst (AreNeeded e) (sym same) (subst (IsPrefilter e) is tells)) some none)

-- ---- what is seen

pub features_of_nothing : (e : Regex) (features : Features) → features.tail.items ≡ [] → features.whole ≡ false → features.words.items ≡ [] → AreFeatures e features
features_of_nothing e features t w n = record {
  tail = subst (EndsIn e) (sym t) (ends_in_nothing e);
  whole = λ h. let x = sym w ∙ h in cc;
  words = λ some. let x = ap length n in absurd (omega arith);
}

pub features_of_literal : (e : Regex) (features : Features) → IsLiteral e features.tail.items → features.words.items ≡ [] → AreFeatures e features
features_of_literal e features is n = record {
  tail = ends_in_literal e features.tail.items is;
  whole = λ h. is;
  words = λ some. let x = ap length n in absurd (omega arith);
}

pub features_of_both : (a b : Regex) (first second both : Features) → AreFeatures a first → AreFeatures b second → second.whole ≡ true → both.tail.items ≡ first.tail.items ++ second.tail.items → both.whole ≡ first.whole → both.words.items ≡ first.words.items → AreFeatures (Sequence a b) both
features_of_both a b first second both f g is t w n = record {
  tail = subst (EndsIn (Sequence a b)) (sym t) (ends_in_both a b first.tail.items second.tail.items f.tail (g.whole is));
  whole = λ h. subst (IsLiteral (Sequence a b)) (sym t) (literal_sequence a b first.tail.items second.tail.items (f.whole (sym w ∙ h)) (g.whole is));
  words = λ some. subst (NeedsOne (Sequence a b)) (sym n) (needs_first a b first.words.items (f.words (subst (λ l. 1 ≤ length l) n some)));
}

pub features_of_second : (a b : Regex) (words : List (List ℕ)) (second features : Features) → AreNeeded a words → AreFeatures b second → second.whole ≡ false → features.tail.items ≡ second.tail.items → features.whole ≡ second.whole
    → (features.words.items ≡ words) ⊎ (features.words.items ≡ second.words.items) → AreFeatures (Sequence a b) features
features_of_second a b words second features f g gap t w n = record {
  tail = subst (EndsIn (Sequence a b)) (sym t) (ends_in_second a b second.tail.items g.tail);
  whole = λ h. let x = sym gap ∙ sym w ∙ h in cc;
  words = λ some. ⊎_elim
      (λ l. subst (NeedsOne (Sequence a b)) (sym l) (needs_first a b words (f (subst (λ m. 1 ≤ length m) l some))))
      (λ r. subst (NeedsOne (Sequence a b)) (sym r) (needs_second a b second.words.items (g.words (subst (λ m. 1 ≤ length m) r some)))) n;
}

pub features_of_either : (a b : Regex) (x y : List (List ℕ)) (features : Features) → AreNeeded a x → AreNeeded b y → 1 ≤ length x → 1 ≤ length y → features.tail.items ≡ [] → features.whole ≡ false → features.words.items ≡ x ++ y → AreFeatures (Either a b) features
features_of_either a b x y features f g p q t w n = record {
  tail = subst (EndsIn (Either a b)) (sym t) (ends_in_nothing (Either a b));
  whole = λ h. let z = sym w ∙ h in cc;
  words = λ some. subst (NeedsOne (Either a b)) (sym n) (needs_either a b x y (f p) (g q));
}

-- there are words where the test for none fails
pub filled : (v : Vec (List ℕ) Global) (empty : Bool) → empty ≡ eqb (vec_len v) 0 → empty ≡ false → 1 ≤ length v.items
filled v empty is not_empty =
    let some : vec_len v ≡ 0 → ⊥ = λ h. (let x = eq-eqb (vec_len v) 0 h in let y = sym not_empty ∙ is ∙ x in cc) in
    omega (arith, v.ok.0, some)

pub features_of_turns : (a : Regex) (turn features : Features) → AreFeatures a turn → features.tail.items ≡ turn.tail.items → features.whole ≡ false → features.words.items ≡ turn.words.items → AreFeatures (Plus a) features
features_of_turns a turn features f t w n = record {
  tail = subst (EndsIn (Plus a)) (sym t) (ends_in_turn a turn.tail.items f.tail);
  whole = λ h. let z = sym w ∙ h in cc;
  words = λ some. subst (NeedsOne (Plus a)) (sym n) (needs_turn a turn.words.items (f.words (subst (λ l. 1 ≤ length l) n some)));
}

-- the tail as the only word
pub tail_needed : (e : Regex) (features : Features) (words : List (List ℕ)) → AreFeatures e features → words ≡ features.tail.items ∷ [] → AreNeeded e words
tail_needed e features words f is some = subst (NeedsOne e) (sym is) (needs_tail e features.tail.items f.tail)

-- nothing comes after it
pub features_before_nothing : (a : Regex) (features : Features) → AreFeatures a features → AreFeatures (Sequence a Empty) features
features_before_nothing a features f = record {
  tail = λ s i j t le. f.tail s i j (subst (Takes a s i) t.2 t.1) le;
  whole = λ h s i j. (
    λ t. (f.whole h s i j).0 (subst (Takes a s i) t.2 t.1),
    λ o. (j, (f.whole h s i j).1 o, refl),
  );
  words = λ some s i j none t le. f.words some s i j none (subst (Takes a s i) t.2 t.1) le;
}
