-- How the next separator is found.
use Rattle.std.proofs.Common.{◌≡◌, ℕ, ◌+◌, ◌<◌, ◌≤◌, Bool, List, [], ◌∷◌, Option, Some, None, length, refl, ap, ◌∙◌, sym, subst, inl, inr, ⊎_elim, arith, MatchOption, IfSome}
use Rattle.std.proofs.lemmas.Bool.{cases_lt}
use Rattle.memchr.specs.Find.{Nowhere, NoneBefore}
use Rattle.pawk_ere_syntax.specs.Pattern.{Pattern, Empty, Start, End, Bytes, Group, Repeat, Sequence, Either, Matches, Leads, Leftmost, NoneFrom}
use Rattle.pawk_ere_syntax.specs.Tokens.{SpellsEre}
use Rattle.pawk_ere_syntax.proofs.Progress.{spells_one}
use Rattle.pawk_ere.specs.Caches.{IsAnswerOfText}
use Rattle.pawk_fields.specs.Between.{MatchesSome, IsNewline, MaySeparate, AreFields, AreBetween}
use Rattle.pawk_fields.specs.FieldWalks.{IsNextMatch}

-- ---- matches do not go back, nor past the end

leads_forward : (R : ℕ → ℕ → Type 0) → ((i j : ℕ) → R i j → i ≤ j) → (i : ℕ) (ks : List ℕ) (j : ℕ) → Leads R i ks j → i ≤ j
leads_forward R h i [] j l = omega arith
leads_forward R h i (k ∷ ks) j l = omega (arith, h i k l.0, leads_forward R h k ks j l.1)

forward : (e : Pattern) (s : List ℕ) (i j : ℕ) → Matches e s i j → i ≤ j
forward Empty s i j m = omega arith
forward Start s i j m = omega arith
forward End s i j m = omega arith
forward (Bytes members) s i j m = omega arith
forward (Group a) s i j m = forward a s i j m
forward (Repeat a least most) s i j m = leads_forward (Matches a s) (forward a s) i m.0 j m.2
forward (Sequence a b) s i j m = omega (arith, forward a s i m.0 m.1, forward b s m.0 j m.2)
forward (Either a b) s i j m = ⊎_elim (forward a s i j) (forward b s i j) m

leads_inside : (R : ℕ → ℕ → Type 0) (n : ℕ) → ((i j : ℕ) → R i j → i ≤ j) → ((i j : ℕ) → i < j → R i j → j ≤ n) → (i : ℕ) (ks : List ℕ) (j : ℕ) → i < j → Leads R i ks j → j ≤ n
leads_inside R n f h i [] j lt l = absurd (omega arith)
leads_inside R n f h i (k ∷ ks) j lt l = ⊎_elim
    (λ less. leads_inside R n f h k ks j less l.1)
    (λ more. let first : k ≤ n = h i k (omega arith) l.0 in omega arith)
    (cases_lt k j)

inside : (e : Pattern) (s : List ℕ) (i j : ℕ) → i < j → Matches e s i j → j ≤ length s
inside Empty s i j lt m = absurd (omega arith)
inside Start s i j lt m = absurd (omega arith)
inside End s i j lt m = omega arith
inside (Bytes members) s i j lt m = omega arith
inside (Group a) s i j lt m = inside a s i j lt m
inside (Repeat a least most) s i j lt m = leads_inside (Matches a s) (length s) (forward a s) (inside a s) i m.0 j lt m.2
inside (Sequence a b) s i j lt m = ⊎_elim
    (λ less. inside b s m.0 j less m.2)
    (λ more. let back : m.0 ≤ j = forward b s m.0 j m.2 in let first : m.0 ≤ length s = inside a s i m.0 (omega arith) m.1 in omega arith)
    (cases_lt m.0 j)
inside (Either a b) s i j lt m = ⊎_elim (inside a s i j lt) (inside b s i j lt) m

pub some_inside : (e : Pattern) (s : List ℕ) (i j : ℕ) → MatchesSome e s i j → j ≤ length s
some_inside e s i j m = inside e s i j m.0 m.1

-- ---- the next match that is not empty

-- none starts from one place up to another
abbrev pub NoneUpTo : List ℕ → List ℕ → ℕ → ℕ → Type 0
NoneUpTo pattern s from place = (e : Pattern) → SpellsEre pattern e → (k j : ℕ) → from ≤ k → k < place → MatchesSome e s k j → ⊥

module _ (pattern s : List ℕ) (from place : ℕ) (after : from ≤ place) (none : NoneUpTo pattern s from place) where
  abbrev Answer : Option (ℕ × ℕ) → Type 0
  Answer found = IsAnswerOfText pattern s place found

  -- what is found is leftmost and longest
  leftmost : (i j : ℕ) (a : Answer (Some (i, j))) → Leftmost (Matches a.pattern s) place i j
  leftmost i j a = (a.answer.some i j).0 refl

  pub next_found : (i j : ℕ) → Answer (Some (i, j)) → i < j → IsNextMatch pattern s from (Some (i, j))
  next_found i j a lt =
      let l = leftmost i j a in
      record {
        expression = a.pattern;
        spelled = a.spelled;
        is_next = record {
          matches = (lt, l.matches);
          after = omega (arith, l.after);
          first = λ k n ge less m. ⊎_elim
              (λ before. none a.pattern a.spelled k n ge before m)
              (λ later. l.first k n later less m.1)
              (cases_lt k place);
          longest = λ n m. l.longest n m.1;
        };
      }

  -- where an empty match is the longest, the next place is looked at
  pub none_here : (i j : ℕ) → Answer (Some (i, j)) → j ≤ i → NoneUpTo pattern s from (i + 1)
  none_here i j a ge e spelled k n low high m =
      let l = leftmost i j a in
      let same : e ≡ a.pattern = spells_one pattern e a.pattern spelled a.spelled in
      let m' : MatchesSome a.pattern s k n = subst (λ (x : Pattern). MatchesSome x s k n) same m in
      ⊎_elim
      (λ before. none e spelled k n low before m)
      (λ later. ⊎_elim
      (λ less. l.first k n later less m'.1)
      (λ here. let at : k ≡ i = omega arith in
      let most : n ≤ j = l.longest n (subst (λ x. Matches a.pattern s x n) at m'.1) in
      omega (arith, most, m'.0))
      (cases_lt k i))
      (cases_lt k place)

  pub after_here : (i j : ℕ) → Answer (Some (i, j)) → from ≤ i + 1
  after_here i j a = let l = leftmost i j a in omega (arith, l.after)

  pub place_here : (i j : ℕ) → Answer (Some (i, j)) → place ≤ i
  place_here i j a = (leftmost i j a).after

  -- past the end there is none
  pub next_none_at_end : (i j : ℕ) → Answer (Some (i, j)) → j ≤ i → length s ≤ i → IsNextMatch pattern s from None
  next_none_at_end i j a ge end = record {
    expression = a.pattern;
    spelled = a.spelled;
    is_next = λ k low n m. ⊎_elim
        (λ before. none_here i j a ge a.pattern a.spelled k n low before m)
        (λ later. let far : n ≤ length s = some_inside a.pattern s k n m in omega (arith, m.0))
        (cases_lt k (i + 1));
  }

  pub next_none : Answer None → IsNextMatch pattern s from None
  next_none a = record {
    expression = a.pattern;
    spelled = a.spelled;
    is_next = λ k low n m. ⊎_elim
        (λ before. none a.pattern a.spelled k n low before m)
        (λ later. a.answer.none refl k later n m.1)
        (cases_lt k place);
  }

-- ---- a field, and those after its separator

-- the next separator from a place on
pub record IsSeparator (pattern : List ℕ) (paragraph : Bool) (s : List ℕ) (from i j : ℕ) : Type 0 where
  pub expression : Pattern
  pub spelled : SpellsEre pattern expression
  pub leftmost : Leftmost (MaySeparate expression paragraph s) from i j

-- from a place on there is none
pub record SeparatesNone (pattern : List ℕ) (paragraph : Bool) (s : List ℕ) (from : ℕ) : Type 0 where
  pub expression : Pattern
  pub spelled : SpellsEre pattern expression
  pub none : NoneFrom (MaySeparate expression paragraph s) from

-- there is one leftmost and longest
same_leftmost : (R : ℕ → ℕ → Type 0) (from i j k l : ℕ) → Leftmost R from i j → Leftmost R from k l → (k ≡ i) × (l ≡ j)
same_leftmost R from i j k l a b =
    let start : k ≡ i = ⊎_elim
    (λ less. absurd (a.first k l b.after less b.matches))
    (λ more. ⊎_elim (λ less. absurd (b.first i j a.after less a.matches)) (λ same. omega arith) (cases_lt i k))
    (cases_lt k i) in
    let long = b.longest j (subst (λ p. R p j) (sym start) a.matches) in
    let far = a.longest l (subst (λ p. R p l) start b.matches) in
    (start, omega arith)

-- a list of fields begins with the one up to the next separator
field_of : (R : ℕ → ℕ → Type 0) (s : List ℕ) (from i j : ℕ) → Leftmost R from i j → (fields : List (ℕ × ℕ)) → AreFields R s from fields → (rest : List (ℕ × ℕ)) × (fields ≡ (from, i) ∷ rest) × AreFields R s j rest
field_of R s from i j l [] h = absurd h
field_of R s from i j l (f ∷ fs) h = elim h.1 [
  | inl last ↦ absurd (last.0 i l.after j l.matches)
  | inr more ↦ (let same = same_leftmost R from i j f.1 more.0 l more.1 in
      (fs, ap (λ p. (p, f.1) ∷ fs) h.0 ∙ ap (λ p. (from, p) ∷ fs) same.0, subst (λ p. AreFields R s p fs) same.1 more.2))
]

last_of : (R : ℕ → ℕ → Type 0) (s : List ℕ) (from : ℕ) → NoneFrom R from → (fields : List (ℕ × ℕ)) → AreFields R s from fields → fields ≡ (from, length s) ∷ []
last_of R s from none [] h = absurd h
last_of R s from none (f ∷ fs) h = elim h.1 [
  | inl last ↦ ap (λ p. (p, f.1) ∷ fs) h.0 ∙ ap (λ p. (from, p) ∷ fs) last.1 ∙ ap (λ l. (from, length s) ∷ l) last.2
  | inr more ↦ absurd (none f.1 more.1.after more.0 more.1.matches)
]

module _ (pattern s : List ℕ) (paragraph : Bool) (from : ℕ) where
  -- up to a separator
  pub field_before : (i j : ℕ) → IsSeparator pattern paragraph s from i j → (fields : List (ℕ × ℕ)) → AreBetween pattern paragraph s j fields → AreBetween pattern paragraph s from ((from, i) ∷ fields)
  field_before i j n fields b =
      let same : b.expression ≡ n.expression = spells_one pattern b.expression n.expression b.spelled n.spelled in
      record {
        expression = n.expression;
        spelled = n.spelled;
        in_order = (refl, inr (j, n.leftmost, subst (λ (e : Pattern). AreFields (MaySeparate e paragraph s) s j fields) same b.in_order));
      }

  pub only_before : (i j : ℕ) → IsSeparator pattern paragraph s from i j → (fields : List (ℕ × ℕ)) → AreBetween pattern paragraph s from fields → (rest : List (ℕ × ℕ)) × (fields ≡ (from, i) ∷ rest) × AreBetween pattern paragraph s j rest
  only_before i j n fields b =
      let same : b.expression ≡ n.expression = spells_one pattern b.expression n.expression b.spelled n.spelled in
      let parts = field_of (MaySeparate n.expression paragraph s) s from i j n.leftmost fields (subst (λ (e : Pattern). AreFields (MaySeparate e paragraph s) s from fields) same b.in_order) in
      (parts.0, parts.1, record { expression = n.expression; spelled = n.spelled; in_order = parts.2 })

  -- up to the end
  pub field_last : SeparatesNone pattern paragraph s from → AreBetween pattern paragraph s from ((from, length s) ∷ [])
  field_last n = record { expression = n.expression; spelled = n.spelled; in_order = (refl, inl (n.none, refl, refl)) }

  pub only_last : SeparatesNone pattern paragraph s from → (fields : List (ℕ × ℕ)) → AreBetween pattern paragraph s from fields → fields ≡ (from, length s) ∷ []
  only_last n fields b =
      let same : b.expression ≡ n.expression = spells_one pattern b.expression n.expression b.spelled n.spelled in
      last_of (MaySeparate n.expression paragraph s) s from n.none fields (subst (λ (e : Pattern). AreFields (MaySeparate e paragraph s) s from fields) same b.in_order)

  -- a match before which no newline separates
  pub match_separates : (i j : ℕ) → IsNextMatch pattern s from (Some (i, j)) → Nowhere (IsNewline paragraph s) from i → IsSeparator pattern paragraph s from i j
  match_separates i j n none = record {
    expression = n.expression;
    spelled = n.spelled;
    leftmost = record {
      matches = inl n.is_next.matches;
      after = n.is_next.after;
      first = λ k l low high m. ⊎_elim (λ x. n.is_next.first k l low high x) (λ x. none k low high x.0) m;
      longest = λ l m. ⊎_elim (λ x. n.is_next.longest l x) (λ x. omega (arith, x.1, n.is_next.matches.0)) m;
    };
  }

  -- before the place where the next match begins, or the end, there is none
  abbrev Stops : Option (ℕ × ℕ) → ℕ → Type 0
  Stops found stop = MatchOption found (stop ≡ length s) (λ m. stop ≡ m.0)

  none_before : (found : Option (ℕ × ℕ)) (stop : ℕ) (n : IsNextMatch pattern s from found) → Stops found stop → (k l : ℕ) → from ≤ k → k < stop → MatchesSome n.expression s k l → ⊥
  none_before None stop n is k l low high m = n.is_next k low l m
  none_before (Some x) stop n is k l low high m = n.is_next.first k l low (omega (arith, is, high)) m

  -- a newline before it
  pub newline_separates : (found : Option (ℕ × ℕ)) (stop i : ℕ) → IsNextMatch pattern s from found → Stops found stop → NoneBefore (IsNewline paragraph s) from stop i → IsNewline paragraph s i → IsSeparator pattern paragraph s from i (i + 1)
  newline_separates found stop i n is first newline = record {
    expression = n.expression;
    spelled = n.spelled;
    leftmost = record {
      matches = inr (newline, refl);
      after = first.low;
      first = λ k l low high m. ⊎_elim (λ x. none_before found stop n is k l low (omega (arith, first.high)) x) (λ x. first.before k low high x.0) m;
      longest = λ l m. ⊎_elim (λ x. absurd (none_before found stop n is i l first.low first.high x)) (λ x. omega (arith, x.1)) m;
    };
  }

  -- the next match is the same after it
  pub next_after : (found : Option (ℕ × ℕ)) (stop i : ℕ) → IsNextMatch pattern s from found → Stops found stop → from ≤ i → i < stop → IsNextMatch pattern s (i + 1) found
  next_after None stop i n is low high = record {
    expression = n.expression;
    spelled = n.spelled;
    is_next = λ k more l m. n.is_next k (omega arith) l m;
  }
  next_after (Some x) stop i n is low high = record {
    expression = n.expression;
    spelled = n.spelled;
    is_next = record {
      matches = n.is_next.matches;
      after = omega (arith, is, high);
      first = λ k l more less m. n.is_next.first k l (omega arith) less m;
      longest = n.is_next.longest;
    };
  }

  -- where the next match is
  pub within_next : (found : Option (ℕ × ℕ)) → IsNextMatch pattern s from found → IfSome found (λ m. (from ≤ m.0) × (m.0 < m.1) × (m.1 ≤ length s))
  within_next None n = tt
  within_next (Some x) n = (n.is_next.after, n.is_next.matches.0, some_inside n.expression s x.0 x.1 n.is_next.matches)

  -- neither up to the end
  pub end_separates : IsNextMatch pattern s from None → Nowhere (IsNewline paragraph s) from (length s) → SeparatesNone pattern paragraph s from
  end_separates n none = record {
    expression = n.expression;
    spelled = n.spelled;
    none = λ k low l m. ⊎_elim (λ x. n.is_next k low l x) (λ x. none k low (x.0).1 x.0) m;
  }
