-- The leftmost match is one.
use Rattle.std.proofs.Common.{◌≡◌, ℕ, ◌+◌, ◌<◌, ◌≤◌, ◌↔◌, Bool, true, false, List, [], ◌∷◌, length, IsTrue, Option, Some, None, refl, ap, ◌∙◌, subst, inl, inr, ⊎_elim, arith}
use Rattle.std.proofs.lemmas.Bool.{cases_lt}
use Rattle.pawk_ere_automaton.specs.Regex.{Regex, Empty, Start, End, Bytes, Sequence, Either, Star, Plus, Takes}
use Rattle.pawk_ere_syntax.specs.Pattern.{Leads, StartsNone, IsLongest, HasMatch, Leftmost, IsFound, NoneFrom}
use Rattle.pawk_ere_automaton.specs.Marks.{nullable}
use Rattle.pawk_ere_automaton.proofs.Shift.{forward, and_parts, and_whole, or_parts, or_left, or_right}

-- what is matched beyond the text is nothing, and it is matched everywhere
beyond_leads : (R : ℕ → ℕ → Type 0) (n : ℕ) → ((i j : ℕ) → R i j → i ≤ j) → (P : Type 0) → ((i j : ℕ) → n < i → R i j → P) → (i : ℕ) (ks : List ℕ) (j : ℕ) → 1 ≤ length ks → n < i → Leads R i ks j → P
beyond_leads R n f P h i [] j one l m = absurd (omega arith)
beyond_leads R n f P h i (k ∷ ks) j one l m = h i k l m.0

beyond : (e : Regex) (s : List ℕ) (i j : ℕ) → length s < i → Takes e s i j → nullable e false false ≡ true
beyond Empty s i j l m = refl
beyond Start s i j l m = absurd (omega arith)
beyond End s i j l m = absurd (omega arith)
beyond (Bytes members) s i j l m = absurd (omega arith)
beyond (Sequence a b) s i j l m = and_whole _ _ (beyond a s i m.0 l m.1) (beyond b s m.0 j (let f = forward a s i m.0 m.1 in omega arith) m.2)
beyond (Either a b) s i j l m = ⊎_elim (λ x. or_left _ _ (beyond a s i j l x)) (λ x. or_right _ _ (beyond b s i j l x)) m
beyond (Star a) s i j l m = refl
beyond (Plus a) s i j l m = beyond_leads (Takes a s) (length s) (forward a s) (nullable a false false ≡ true) (λ x y. beyond a s x y) i m.0 j m.1 l m.2

anywhere : (e : Regex) (s : List ℕ) (i : ℕ) → nullable e false false ≡ true → Takes e s i i
anywhere Empty s i h = refl
anywhere Start s i h = cc
anywhere End s i h = cc
anywhere (Bytes members) s i h = cc
anywhere (Sequence a b) s i h = let both = and_parts _ _ h in (i, anywhere a s i both.0, anywhere b s i both.1)
anywhere (Either a b) s i h = ⊎_elim (λ x. inl (anywhere a s i x)) (λ x. inr (anywhere b s i x)) (or_parts _ _ h)
anywhere (Star a) s i h = ([], refl)
anywhere (Plus a) s i h = (i ∷ [], omega arith, (anywhere a s i h, refl))

-- with no match in the text, there is none beyond it
pub none_beyond : (e : Regex) (s : List ℕ) (from : ℕ) → from ≤ length s → ((k : ℕ) → from ≤ k → k < length s + 1 → StartsNone (Takes e s) k) → (k : ℕ) → from ≤ k → StartsNone (Takes e s) k
none_beyond e s from w h k l = λ j m. ⊎_elim
    (λ x. h k l x j m)
    (λ x. h from (omega arith) (omega arith) from (anywhere e s from (beyond e s k j (omega arith) m)))
    (cases_lt k (length s + 1))

pub first_found : (e : Regex) (s : List ℕ) (from start end : ℕ) → from ≤ start → ((k : ℕ) → from ≤ k → k < start → StartsNone (Takes e s) k) → IsLongest (Takes e s) start end → (i j : ℕ) → (◌≡◌ {A = Option (ℕ × ℕ)} (Some (start, end)) (Some (i, j))) ↔ Leftmost (Takes e s) from i j
first_found e s from start end after none best i j = (
  λ h.
      let first : start ≡ i = ap (λ o. elim o as (λ _. ℕ) [ None ↦ start | Some x ↦ x.0 ]) h in
      let second : end ≡ j = ap (λ o. elim o as (λ _. ℕ) [ None ↦ end | Some x ↦ x.1 ]) h in
      subst (λ x. Leftmost (Takes e s) from x j) first (subst (λ y. Leftmost (Takes e s) from start y) second (record {
        matches = best.matches;
        after = after;
        first = λ k l ge lt m. none k ge lt l m;
        longest = best.longest;
      })),
  λ m.
      let first : start ≡ i = ⊎_elim
      (λ x. absurd (m.first start end after x best.matches))
      (λ x. ⊎_elim (λ y. absurd (none i m.after y j m.matches)) (λ y. omega arith) (cases_lt i start))
      (cases_lt start i) in
      let longest : IsLongest (Takes e s) i end = subst (λ x. IsLongest (Takes e s) x end) first best in
      let x = longest.longest j m.matches in
      let y = m.longest end longest.matches in
      let second : end ≡ j = omega arith in
      ap (λ x. Some (x, end)) first ∙ ap (λ y. Some (i, y)) second,
)

pub none_found : (e : Regex) (s : List ℕ) (from : ℕ) → ((k : ℕ) → from ≤ k → StartsNone (Takes e s) k) → (i j : ℕ) → (◌≡◌ {A = Option (ℕ × ℕ)} None (Some (i, j))) ↔ Leftmost (Takes e s) from i j
none_found e s from h i j = (λ x. cc, λ m. absurd (h i m.after j m.matches))

pub found_none : (e : Regex) (s : List ℕ) (from : ℕ) → NoneFrom (Takes e s) from → IsFound (Takes e s) from None
found_none e s from h = record { some = none_found e s from h; none = λ x. h }

pub found_first : (e : Regex) (s : List ℕ) (from start end : ℕ) → from ≤ start → ((k : ℕ) → from ≤ k → k < start → StartsNone (Takes e s) k) → IsLongest (Takes e s) start end → IsFound (Takes e s) from (Some (start, end))
found_first e s from start end after none best = record { some = first_found e s from start end after none best; none = λ x. cc }

leftmost_map : (R S : ℕ → ℕ → Type 0) (start i j : ℕ) → ((k l : ℕ) → R k l ↔ S k l) → Leftmost R start i j → Leftmost S start i j
leftmost_map R S start i j h m = record {
  matches = (h i j).0 m.matches;
  after = m.after;
  first = λ k l ge lt x. m.first k l ge lt ((h k l).1 x);
  longest = λ l x. m.longest l ((h i l).1 x);
}

-- what is found for one relation is found for the same
pub found_map : (R S : ℕ → ℕ → Type 0) (start : ℕ) (found : Option (ℕ × ℕ)) → ((k l : ℕ) → R k l ↔ S k l) → IsFound R start found → IsFound S start found
found_map R S start found h f = record {
  some = λ i j. (
    λ x. leftmost_map R S start i j h ((f.some i j).0 x),
    λ m. (f.some i j).1 (leftmost_map S R start i j (λ k l. ((h k l).1, (h k l).0)) m),
  );
  none = λ x k ge j m. f.none x k ge j ((h k j).1 m);
}

-- there is a match where one is found
pub match_of_some : (R : ℕ → ℕ → Type 0) (start : ℕ) (o : Option (ℕ × ℕ)) (x : ℕ × ℕ) → o ≡ Some x → IsFound R start o → HasMatch R start
match_of_some R start o x is f = let m = (f.some x.0 x.1).0 is in (x.0, m.after, x.1, m.matches)

pub no_match_of_none : (R : ℕ → ℕ → Type 0) (start : ℕ) (o : Option (ℕ × ℕ)) → o ≡ None → IsFound R start o → HasMatch R start → ⊥
no_match_of_none R start o is f h = f.none is h.0 h.1 h.2 h.3

pub match_map : (R S : ℕ → ℕ → Type 0) (start : ℕ) (told : Bool) → ((k l : ℕ) → R k l ↔ S k l) → IsTrue told ↔ HasMatch R start → IsTrue told ↔ HasMatch S start
match_map R S start told h t = (
  λ x. let m = t.0 x in (m.0, m.1, m.2, (h m.0 m.2).0 m.3),
  λ m. t.1 (m.0, m.1, m.2, (h m.0 m.2).1 m.3),
)
