-- What `index`, `sub` and `gsub` do, part by part.
use Rattle.std.proofs.Common.{◌≡◌, ◌≢◌, ◌⊎◌, inl, inr, ℕ, zero, suc, ◌+◌, ◌-◌, ◌*◌, ◌<◌, ◌≤◌, arith, Bool, true, false, cond, eqb, eqb-true, ◌==◌, ◌&&◌, ◌||◌, Option, Some, None, IfSome, List, [], ◌∷◌, ◌++◌, length, take, drop, slice_range, refl, ap, sym, subst, ◌∙◌, append_assoc, append-nil}
use Rattle.std.specs.Prelude.{option_to_list}
use Rattle.std.proofs.Math.Seq.{take-add}
use Rattle.std.proofs.lemmas.Bool.{and_parts, cases_lt, lt-ltb, le-ltb}
use Rattle.std.proofs.lemmas.Bool.Decides.{eqb_tells}
use Rattle.std.proofs.lemmas.List.{drop-drop}
use Rattle.std.proofs.lemmas.List.Folds.{drop_split}
use Rattle.pawk_ere_syntax.specs.Pattern.{Pattern}
use Rattle.pawk_fields.specs.Search.{find}
use Rattle.pawk_store.specs.Builtins.{Replaced, replaced_at, replacement}
use Rattle.pawk_builtins.specs.ReplaceWalks.{replaced_after, from_after, is_past, match_replaced, left_after, IsAhead, IsNextReplaced}
use Rattle.pawk_builtins.specs.TextLaws.{IndexLaw, AreApart, ReplacementLaw, IsNext, AreAll, parts, IsWith, ReplacedLaw}
use Rattle.pawk_builtins.proofs.MatchLemmas.{find_inside}
use Rattle.pawk_builtins.proofs.OccurrenceLemmas.{index_is_none, index_is_some}
use Rattle.pawk_builtins.proofs.ReplaceLemmas.{next_plain, next_end, next_passed}

-- ---- index

pub index_law : (s t : List ℕ) → IndexLaw s t
index_law s t = record {
  first = λ k long at none. sym (index_is_some s t k long at none);
  nowhere = λ long none. sym (index_is_none s t long none);
  empty = refl;
}

-- ---- what stands for a match

module _ (m : List ℕ) where
  differs : (b k : ℕ) → b ≢ k → eqb b k ≡ false
  differs b k n = elim (eqb_tells b k) [ inl y ↦ absurd (n y.1) | inr f ↦ f.0 ]

  -- one byte fewer in front
  apart_after : (x : ℕ) (a b : List ℕ) → AreApart (x ∷ a) b → AreApart a b
  apart_after x a b (inl h) = inl (λ front e. h (x ∷ front) (ap (λ l. x ∷ l) e))
  apart_after x a b (inr h) = inr h

  -- a last byte
  joined_one : (x : ℕ) (b : List ℕ) → AreApart (x ∷ []) b → replacement m (x ∷ b) ≡ replacement m (x ∷ []) ++ replacement m b
  joined_one x [] h = elim (eqb_tells x 38) [ inl y ↦ rw y.0 (sym (append-nil m)) | inr f ↦ rw f.0 refl ]
  joined_one x (c ∷ b) h = elim (eqb_tells x 38) [
    | inl y ↦ rw y.0 refl
    | inr f ↦ rw (f.0, none ((x == 92) && ((c == 38) || (c == 92))) refl h) refl
  ]
    where
      either : (p q : Bool) → (p || q) ≡ true → (p ≡ true) ⊎ (q ≡ true)
      either true q e = inl refl
      either false q e = inr e

      none : (v : Bool) → ((x == 92) && ((c == 38) || (c == 92))) ≡ v → AreApart (x ∷ []) (c ∷ b) → ((x == 92) && ((c == 38) || (c == 92))) ≡ false
      none false e h = e
      none true e (inl h) = let p = and_parts (x == 92) ((c == 38) || (c == 92)) e in absurd (h [] (ap (λ y. y ∷ []) (eqb-true x 92 p.0)))
      none true e (inr h) =
          let p = and_parts (x == 92) ((c == 38) || (c == 92)) e in
          let n = h c b refl in
          elim (either (c == 38) (c == 92) p.1) [ inl y ↦ absurd (n.0 (eqb-true c 38 y)) | inr y ↦ absurd (n.1 (eqb-true c 92 y)) ]

  joined : (a b : List ℕ) → AreApart a b → replacement m (a ++ b) ≡ replacement m a ++ replacement m b
  joined [] b h = refl
  joined (x ∷ []) b h = joined_one x b h
  joined (x ∷ y ∷ a) b h =
      let near = joined (y ∷ a) b (apart_after x (y ∷ a) b h) in
      let far = joined a b (apart_after y a b (apart_after x (y ∷ a) b h)) in
      elim (eqb x 38) as (λ v. cond v (m ++ replacement m (y ∷ (a ++ b))) (cond ((x == 92) && ((y == 38) || (y == 92))) (y ∷ replacement m (a ++ b)) (x ∷ replacement m (y ∷ (a ++ b))))
      ≡ cond v (m ++ replacement m (y ∷ a)) (cond ((x == 92) && ((y == 38) || (y == 92))) (y ∷ replacement m a) (x ∷ replacement m (y ∷ a))) ++ replacement m b) [
        | true ↦ ap (λ l. m ++ l) near ∙ sym (append_assoc m (replacement m (y ∷ a)) (replacement m b))
        | false ↦ elim ((x == 92) && ((y == 38) || (y == 92))) as (λ w. cond w (y ∷ replacement m (a ++ b)) (x ∷ replacement m (y ∷ (a ++ b))) ≡ cond w (y ∷ replacement m a) (x ∷ replacement m (y ∷ a)) ++ replacement m b) [
          | true ↦ ap (λ l. y ∷ l) far
          | false ↦ ap (λ l. x ∷ l) near
        ]
      ]

  pub replacement_law : ReplacementLaw m
  replacement_law = record {
    ampersand = refl;
    escaped = refl;
    backslash = refl;
    other = λ b n. rw (differs b 38 n) refl;
    nothing = refl;
    joined = joined;
  }

-- ---- the next match

-- where a match ends
abbrev second : Option (ℕ × ℕ) → ℕ
second None = 0
second (Some m) = m.1

record Next (e : Pattern) (s : List ℕ) (from : ℕ) (behind : Bool) (o : Option (ℕ × ℕ)) : Type 0 where
  next : IsNext e s from behind o
  replaces : IsNextReplaced e s from behind o
  ahead : IfSome o (IsAhead s from behind)

next_of : (e : Pattern) (s : List ℕ) (from : ℕ) (behind : Bool) → from ≤ length s → (o : Option (ℕ × ℕ)) × Next e s from behind o
next_of e s from behind w = go (find e s from) refl
  where
    past : (from + 1 ≤ length s) → (o : Option (ℕ × ℕ)) → find e s (from + 1) ≡ o → IfSome o (IsAhead s from true)
    past l None is = tt
    past l (Some m) is = let at = find_inside e s (from + 1) m l is in let a = at.after in record { after = omega arith; ordered = at.ordered; high = at.high; new = λ y. omega (arith, a, at.ordered) }

    used : (m : ℕ × ℕ) → find e s from ≡ Some m → behind ≡ true → m.1 ≡ from → (o : Option (ℕ × ℕ)) × Next e s from behind o
    used m is y same =
        let at = find_inside e s from m w is in
        let start : m.0 ≡ from = omega (arith, at.after, at.ordered) in
        let here : find e s from ≡ Some (from, from) = is ∙ ap (λ i. Some (i, m.1)) start ∙ ap (λ j. Some (from, j)) same in
        let P : Bool → Type 0 = λ b. (o : Option (ℕ × ℕ)) × Next e s from b o in
        subst P (sym y) (elim (cases_lt from (length s)) [
          | inl l ↦ (
            find e s (from + 1),
            record {
              next = inr (refl, here, (let yes = lt-ltb from (length s) l in rw yes refl));
              replaces = next_passed e s from m (find e s (from + 1)) l is same refl;
              ahead = past (omega arith) (find e s (from + 1)) refl;
            },
          )
          | inr g ↦ (
            None,
            record {
              next = inr (refl, here, (let no = le-ltb from (length s) g in rw no refl));
              replaces = next_end e s from (omega arith);
              ahead = tt;
            },
          )
        ])

    fresh : (m : ℕ × ℕ) → find e s from ≡ Some m → (behind ≡ true → from < m.1) → (o : Option (ℕ × ℕ)) × Next e s from behind o
    fresh m is new =
        let at = find_inside e s from m w is in (
          Some m,
          record {
            next = inl (is, λ y same. let end : m.1 ≡ from = ap second same in let l = new y in omega arith);
            replaces = next_plain e s from behind (Some m) w is (λ n found y. let end : m.1 ≡ n.1 = ap second found in let l = new y in omega arith);
            ahead = record { after = at.after; ordered = at.ordered; high = at.high; new = new };
          },
        )

    by_flag : (m : ℕ × ℕ) → find e s from ≡ Some m → (b : Bool) → behind ≡ b → (o : Option (ℕ × ℕ)) × Next e s from behind o
    by_flag m is false f = fresh m is (λ y. absurd cc)
    by_flag m is true f = elim (cases_lt from m.1) [
      | inl l ↦ fresh m is (λ y. l)
      | inr g ↦ (let at = find_inside e s from m w is in used m is f (omega (arith, at.after, at.ordered)))
    ]

    go : (o : Option (ℕ × ℕ)) → find e s from ≡ o → (o : Option (ℕ × ℕ)) × Next e s from behind o
    go None is = (None, record { next = inl (is, λ y same. absurd cc); replaces = next_plain e s from behind None w is (λ m found. absurd cc); ahead = tt })
    go (Some m) is = by_flag m is behind refl

-- ---- all of them

-- the first of these starts at the place or after it
abbrev StartFrom : ℕ → List (ℕ × ℕ) → Type 0
StartFrom place [] = Unit {0}
StartFrom place (m ∷ ms) = place ≤ m.0

slices : (s : List ℕ) (a b c : ℕ) → a ≤ b → b ≤ c → slice_range s a b ++ slice_range s b c ≡ slice_range s a c
slices s a b c g h =
    let n : b - a + (c - b) ≡ c - a = omega arith in
    let p : a + (b - a) ≡ b = omega arith in
    ap (λ t. slice_range s a b ++ take (c - b) t) (sym (drop-drop (b - a) a s ∙ ap (λ n. drop n s) p))
    ∙ (sym (take-add (b - a) (c - b) (drop a s)) ∙ ap (λ n. take n (drop a s)) n)

-- the bytes before the first of these
glue : (r s : List ℕ) (place from : ℕ) (ms : List (ℕ × ℕ)) → place ≤ from → StartFrom from ms → slice_range s place from ++ parts r s from ms ≡ parts r s place ms
glue r s place from [] low h = sym (drop_split s place from low)
glue r s place from (m ∷ ms) low h =
    sym (append_assoc (slice_range s place from) (slice_range s from m.0) (replacement (slice_range s m.0 m.1) r ++ parts r s m.1 ms))
    ∙ ap (λ t. t ++ (replacement (slice_range s m.0 m.1) r ++ parts r s m.1 ms)) (slices s place from m.0 low h)

record Found (e : Pattern) (r s : List ℕ) (from : ℕ) (behind : Bool) : Type 0 where
  ms : List (ℕ × ℕ)
  all : AreAll e s from behind ms
  start : StartFrom from ms
  text : (replaced_after e r s from behind).text ≡ parts r s from ms
  number : (replaced_after e r s from behind).count ≡ length ms

abbrev Again : Pattern → List ℕ → List ℕ → ℕ → Type 0
Again e r s n = (from : ℕ) (behind : Bool) → from ≤ length s → left_after s from behind < n → Found e r s from behind

module _ (e : Pattern) (r s : List ℕ) (from : ℕ) (behind : Bool) (m : ℕ × ℕ) (ahead : IsAhead s from behind m) (next : IsNext e s from behind (Some m)) (replaces : IsNextReplaced e s from behind (Some m)) where
  -- with a match more
  one_match : (after : ℕ) (past : Bool) (ms : List (ℕ × ℕ)) → from_after s m ≡ after → is_past s m ≡ past → m.1 ≤ after → StartFrom after ms
      → (replaced_after e r s after past).text ≡ parts r s after ms → (replaced_after e r s after past).count ≡ length ms → AreAll e s from behind (m ∷ ms) → Found e r s from behind
  one_match after past ms a p low start text number all =
      let gives = replaces r ∙ ap (λ k. match_replaced r s from m (replaced_after e r s k (is_past s m))) a ∙ ap (λ b. match_replaced r s from m (replaced_after e r s after b)) p in
      let later : slice_range s m.1 (from_after s m) ++ (replaced_after e r s after past).text ≡ parts r s m.1 ms =
      ap (λ k. slice_range s m.1 k ++ (replaced_after e r s after past).text) a ∙ ap (λ t. slice_range s m.1 after ++ t) text ∙ glue r s m.1 after ms low start in
      record {
        ms = m ∷ ms;
        all = all;
        start = ahead.after;
        text = ap (λ (x : Replaced). x.text) gives ∙ ap (λ t. slice_range s from m.0 ++ (replacement (slice_range s m.0 m.1) r ++ t)) later;
        number = ap (λ (x : Replaced). x.count) gives ∙ (omega (arith, number));
      }

  measure_some : m.0 < m.1 → left_after s m.1 true < left_after s from behind
  measure_some l = go behind refl
    where
      go : (b : Bool) → behind ≡ b → left_after s m.1 true < 2 * (length s - from) + cond b 0 1
      go true y = let new = ahead.new y in let high = ahead.high in omega arith
      go false y = let low = ahead.after in let high = ahead.high in omega arith

  measure_empty : m.0 ≡ m.1 → m.1 < length s → left_after s (m.1 + 1) false < left_after s from behind
  measure_empty same l = go behind refl
    where
      go : (b : Bool) → behind ≡ b → left_after s (m.1 + 1) false < 2 * (length s - from) + cond b 0 1
      go true y = let new = ahead.new y in omega arith
      go false y = let low = ahead.after in omega arith

  go_on : (n : ℕ) → Again e r s n → left_after s from behind < suc n → Found e r s from behind
  go_on n again lt = elim (cases_lt m.0 m.1) [
    | inl l ↦ (
        let a : from_after s m ≡ m.1 = rw (lt-ltb m.0 m.1 l) refl in
        let p : is_past s m ≡ true = rw (lt-ltb m.0 m.1 l) refl in
        let f = again m.1 true ahead.high (let less = measure_some l in omega arith) in
        one_match m.1 true f.ms a p (omega arith) f.start f.text f.number (next, λ h. f.all, λ h. absurd (omega arith), λ h. absurd (omega arith)))
    | inr g ↦ (
        let same : m.0 ≡ m.1 = (let o = ahead.ordered in omega arith) in
        elim (cases_lt m.1 (length s)) [
          | inl l ↦ (
              let a : from_after s m ≡ m.1 + 1 = rw (le-ltb m.0 m.1 g, lt-ltb m.1 (length s) l) refl in
              let p : is_past s m ≡ false = rw (le-ltb m.0 m.1 g, lt-ltb m.1 (length s) l) refl in
              let f = again (m.1 + 1) false (omega arith) (let less = measure_empty same l in omega arith) in
              one_match (m.1 + 1) false f.ms a p (omega arith) f.start f.text f.number (next, λ h. absurd (omega arith), λ h k. f.all, λ h k. absurd (omega arith)))
          | inr k ↦ (
              let end : m.1 ≡ length s = (let high = ahead.high in omega arith) in
              let a : from_after s m ≡ m.1 = rw (le-ltb m.0 m.1 g, le-ltb m.1 (length s) k) refl in
              let p : is_past s m ≡ true = rw (le-ltb m.0 m.1 g, le-ltb m.1 (length s) k) refl in
              let none = next_end e s m.1 end r in
              one_match m.1 true [] a p (omega arith) tt (ap (λ (x : Replaced). x.text) none) (ap (λ (x : Replaced). x.count) none) (next, λ h. absurd (omega arith), λ h l. absurd (omega arith), λ h l. refl))
        ])
  ]

found_all : (e : Pattern) (r s : List ℕ) (n : ℕ) → Again e r s n
found_all e r s zero from behind w lt = absurd (omega arith)
found_all e r s (suc n) from behind w lt = let x = next_of e s from behind w in go x.0 x.1 (λ from behind w lt. found_all e r s n from behind w lt)
  where
    go : (o : Option (ℕ × ℕ)) → Next e s from behind o → Again e r s n → Found e r s from behind
    go None x again =
        let none = x.replaces r in
        record { ms = []; all = x.next; start = tt; text = ap (λ (y : Replaced). y.text) none; number = ap (λ (y : Replaced). y.count) none }
    go (Some m) x again = go_on e r s from behind m x.ahead x.next x.replaces n again lt

first_with : (r s : List ℕ) (o : Option (ℕ × ℕ)) → IsWith r s (option_to_list o) (replaced_at r s o)
first_with r s None = record { text = refl; number = refl }
first_with r s (Some m) =
    let n : m.0 ≡ m.0 - 0 = omega arith in
    record { text = ap (λ n. take n s ++ (replacement (slice_range s m.0 m.1) r ++ drop m.1 s)) n; number = refl }

pub replaced_law : (e : Pattern) (r s : List ℕ) → ReplacedLaw e r s
replaced_law e r s =
    let f = found_all e r s (suc (left_after s 0 false)) 0 false (omega arith) (omega arith) in
    record {
      all = (f.ms, f.all, record { text = f.text; number = f.number });
      first = first_with r s (find e s 0);
    }
