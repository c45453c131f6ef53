-- Walks over a text, from state to state.
use Rattle.std.proofs.Common.{◌≡◌, ℕ, ◌+◌, ◌<◌, ◌≤◌, ◌⊎◌, Bool, true, false, List, length, get_or, drop, take, ◌-◌, length-drop, eqb, Option, Some, None, MatchOption, refl, sym, ap, ◌∙◌, subst, inl, inr, ⊎_elim, arith, eq-eqb, eqb-true}
use Rattle.std.proofs.lemmas.Bool.{cases_lt}
use Rattle.std.proofs.lemmas.List.{get_or-drop, take_all}
use Rattle.std.proofs.lemmas.Option.{get_or_from_slice_get, slice_get_within}
use Rattle.std.specs.Prelude.{slice_get, slice_index}
use Rattle.pawk_ere_syntax.specs.Pattern.{StartsNone, IsLongest, NoneFrom, MayStart}
use Rattle.pawk_ere_automaton.specs.Regex.{Regex, Empty, Start, End, Bytes, Sequence, Either, Star, Plus, Takes}
use Rattle.pawk_ere_automaton.specs.Marks.{places, nullable, final, shift, Rest}
use Rattle.pawk_ere_automaton.specs.Table.{ends_with, AreStates, BeginsAt, HasKey, HasNone, IsBegin, IsDead, IsState, LeadsTo}
use Rattle.pawk_ere_automaton.specs.Hints.{BeginsWith, IsAnchored}
use Rattle.memchr.specs.Find.{Passes, is_byte}
use Rattle.pawk_ere_automaton.specs.declared.table.State.{State}
use Rattle.pawk_ere_automaton.proofs.Leftmost.{none_beyond}
use Rattle.pawk_ere_automaton.proofs.Shift.{forward, within, nullable_if, nullable_is, final_if, final_is, shift_if, shift_is, and_parts, and_whole, or_parts, or_left, or_right}

pub no_marks : (e : Regex) (marks : List Bool) (s : List ℕ) (p j : ℕ) → HasNone marks → Rest e marks s p j → ⊥
no_marks Empty marks s p j h r = r
no_marks Start marks s p j h r = r
no_marks End marks s p j h r = r
no_marks (Bytes members) marks s p j h r = let x = h 0 in let y = r.0 in cc
no_marks (Sequence a b) marks s p j h r = ⊎_elim (λ l. no_marks a marks s p l.0 h l.1) (no_marks b (drop (places a) marks) s p j (λ k. get_or-drop (places a) marks k false ∙ h (places a + k))) r
no_marks (Either a b) marks s p j h r = ⊎_elim (no_marks a marks s p j h) (no_marks b (drop (places a) marks) s p j (λ k. get_or-drop (places a) marks k false ∙ h (places a + k))) r
no_marks (Star a) marks s p j h r = no_marks a marks s p r.0 h r.1
no_marks (Plus a) marks s p j h r = no_marks a marks s p r.0 h r.1

pub not_equal : (a b : ℕ) → (a ≡ b → ⊥) → eqb a b ≡ false
not_equal a b h = go (eqb a b) refl
  where
    go : (x : Bool) → eqb a b ≡ x → eqb a b ≡ false
    go true e = absurd (h (eqb-true a b e))
    go false e = e

-- the state that was read is the one that is there
pub read : (states : List State) (q : ℕ) (t u : State) → slice_get states q ≡ Some t → u ≡ get_or states q u → t ≡ u
read states q t u h g = sym (g ∙ get_or_from_slice_get states q t u h)

pub inside_last : (s : List ℕ) (p : ℕ) → p < length s → p ≡ length s → false ≡ true
inside_last s p lt h = absurd (omega arith)

-- ---- one start

-- what may come of the place from, and of the marks
abbrev Ahead : Regex → List ℕ → ℕ → ℕ → List Bool → ℕ → Type 0
Ahead e s from p marks j = ((eqb p from ≡ true) × Takes e s p j) ⊎ Rest e marks s p j

-- at p the state knows each match from the place that ends there or later
pub record Knows (e : Regex) (s : List ℕ) (from p : ℕ) (t : State) : Type 0 where
  pub enter_is : t.enter ≡ eqb p from
  pub stays_is : t.stays ≡ false
  pub first_is : t.first ≡ eqb p 0
  pub is : (j : ℕ) → p ≤ j → Ahead e s from p t.marks.items j → Takes e s from j
  pub if : (j : ℕ) → p ≤ j → Takes e s from j → Ahead e s from p t.marks.items j

-- the longest match that ends before p
pub record IsBestBefore (e : Regex) (s : List ℕ) (from p b : ℕ) : Type 0 where
  pub matches : Takes e s from b
  pub so_far : (l : ℕ) → l < p → Takes e s from l → l ≤ b

abbrev pub BestBefore : Regex → List ℕ → ℕ → ℕ → Option ℕ → Type 0
BestBefore e s from p None = (l : ℕ) → l < p → Takes e s from l → ⊥
BestBefore e s from p (Some b) = IsBestBefore e s from p b

knows_start : (e : Regex) (s : List ℕ) (from : ℕ) (t : State) → IsBegin t false (eqb from 0) → Knows e s from from t
knows_start e s from t key = record {
  enter_is = key.enter_is ∙ sym (eq-eqb from from refl);
  stays_is = key.stays_is;
  first_is = key.first_is;
  is = λ j l a. ⊎_elim (λ x. x.1) (λ r. absurd (no_marks e t.marks.items s from j key.none_marked r)) a;
  if = λ j l m. inl (eq-eqb from from refl, m);
}

knows_step : (e : Regex) (s : List ℕ) (from p : ℕ) (t u : State) → from ≤ p → p < length s → Knows e s from p t → HasKey u t.stays (shift e t.enter t.marks.items (get_or s p 0) t.first) → Knows e s from (p + 1) u
knows_step e s from p t u after more k key = record {
  enter_is = key.enter_is ∙ k.stays_is ∙ sym (not_equal (p + 1) from (λ h. omega arith));
  stays_is = key.stays_is ∙ k.stays_is;
  first_is = key.first_is ∙ sym (not_equal (p + 1) 0 (λ h. omega arith));
  is = λ j l a. ⊎_elim
      (λ x. absurd (let h = eqb-true (p + 1) from x.0 in omega arith))
      (λ r. k.is j (omega arith) (shift_is s p (eqb p 0) (eqb-true p 0) (eq-eqb p 0) more e (eqb p from) t.marks.items j (subst (λ m. Rest e m s (p + 1) j) marks r))) a;
  if = λ j l m. inr (subst (λ m. Rest e m s (p + 1) j) (sym marks) (shift_if s p (eqb p 0) (eqb-true p 0) (eq-eqb p 0) more e (eqb p from) t.marks.items j (omega arith) (k.if j (omega arith) m)));
}
  where
    marks : u.marks.items ≡ shift e (eqb p from) t.marks.items (get_or s p 0) (eqb p 0)
    marks = key.marks_are ∙ ap (λ x. shift e x t.marks.items (get_or s p 0) t.first) k.enter_is ∙ ap (λ x. shift e (eqb p from) t.marks.items (get_or s p 0) x) k.first_is

-- whether a match ends at the place of the state
ends_is : (e : Regex) (s : List ℕ) (from p : ℕ) (t : State) (last : Bool) → (last ≡ true → p ≡ length s) → (p ≡ length s → last ≡ true) → Knows e s from p t → ends_with e t.enter t.marks.items t.first last ≡ true → Takes e s from p
ends_is e s from p t last is_last if_last k h = ⊎_elim
    (λ x. let both = and_parts _ _ x in k.is p (omega arith) (inl (sym k.enter_is ∙ both.0, nullable_is s p t.first last first_is first_if is_last if_last e both.1)))
    (λ x. k.is p (omega arith) (inr (final_is s p t.first last first_is first_if is_last if_last e t.marks.items x)))
    (or_parts _ _ h)
  where
    first_is : t.first ≡ true → p ≡ 0
    first_is x = eqb-true p 0 (sym k.first_is ∙ x)

    first_if : p ≡ 0 → t.first ≡ true
    first_if x = k.first_is ∙ eq-eqb p 0 x

ends_if : (e : Regex) (s : List ℕ) (from p : ℕ) (t : State) (last : Bool) → (last ≡ true → p ≡ length s) → (p ≡ length s → last ≡ true) → Knows e s from p t → Takes e s from p → ends_with e t.enter t.marks.items t.first last ≡ true
ends_if e s from p t last is_last if_last k m = ⊎_elim
    (λ x. or_left _ _ (and_whole _ _ (k.enter_is ∙ x.0) (nullable_if s p t.first last first_is first_if is_last if_last e x.1)))
    (λ x. or_right _ _ (final_if s p t.first last first_is first_if is_last if_last e t.marks.items x))
    (k.if p (omega arith) m)
  where
    first_is : t.first ≡ true → p ≡ 0
    first_is x = eqb-true p 0 (sym k.first_is ∙ x)

    first_if : p ≡ 0 → t.first ≡ true
    first_if x = k.first_is ∙ eq-eqb p 0 x

pub best_none_before : (e : Regex) (s : List ℕ) (from : ℕ) → BestBefore e s from from None
best_none_before e s from = λ l lt m. let f = forward e s from l m in absurd (omega arith)

best_on : (e : Regex) (s : List ℕ) (from p : ℕ) (t : State) (b c : Option ℕ) (ends last : Bool) → (last ≡ true → p ≡ length s) → (p ≡ length s → last ≡ true) → Knows e s from p t → ends ≡ ends_with e t.enter t.marks.items t.first last
    → ((ends ≡ true) × (c ≡ Some p)) ⊎ ((ends ≡ false) × (c ≡ b)) → BestBefore e s from p b → BestBefore e s from (p + 1) c
best_on e s from p t b c ends last is_last if_last k is branch best = ⊎_elim
    (λ yes. subst (BestBefore e s from (p + 1)) (sym yes.1) (record { matches = ends_is e s from p t last is_last if_last k (sym is ∙ yes.0); so_far = λ l lt m. omega arith }))
    (λ no. subst (BestBefore e s from (p + 1)) (sym no.1) (same b (λ m. let x = ends_if e s from p t last is_last if_last k m in let y = sym x ∙ sym is ∙ no.0 in cc) best)) branch
  where
    same : (b : Option ℕ) → (Takes e s from p → ⊥) → BestBefore e s from p b → BestBefore e s from (p + 1) b
    same None not best = λ l lt m. ⊎_elim (λ x. best l x m) (λ x. let q : l ≡ p = omega arith in not (subst (λ j. Takes e s from j) q m)) (cases_lt l p)
    same (Some b) not best = record {
      matches = best.matches;
      so_far = λ l lt m. ⊎_elim (λ x. best.so_far l x m) (λ x. let q : l ≡ p = omega arith in absurd (not (subst (λ j. Takes e s from j) q m))) (cases_lt l p);
    }

pub best_over : (e : Regex) (s : List ℕ) (from p : ℕ) (b : Option ℕ) → ((l : ℕ) → Takes e s from l → l < p) → BestBefore e s from p b → MatchOption b (StartsNone (Takes e s) from) (IsLongest (Takes e s) from)
best_over e s from p None h best = λ j m. best j (h j m) m
best_over e s from p (Some b) h best = record { matches = best.matches; longest = λ l m. best.so_far l (h l m) m }

first_false : (p : ℕ) (first : Bool) → first ≡ eqb p 0 → first ≡ false → p ≡ 0 → ⊥
first_false p first is later here = let x = eq-eqb p 0 here in let y = sym later ∙ is ∙ x in cc

dead_over : (e : Regex) (s : List ℕ) (from p : ℕ) (t : State) → Knows e s from p t → IsDead e t.enter t.first t.marks.items → (l : ℕ) → Takes e s from l → l < p + 1
dead_over e s from p t k dead l m = ⊎_elim
    (λ x. x)
    (λ x. absurd (⊎_elim
    (λ y. ⊎_elim {B = (t.first ≡ false) × IsAnchored e}
    (λ z. let w = sym z ∙ k.enter_is ∙ y.0 in cc)
    (λ z. first_false p t.first k.first_is z.0 (z.1 s p l y.1))
    dead.closed)
    (λ r. no_marks e t.marks.items s p l dead.unmarked r)
    (k.if l (omega arith) m)))
    (cases_lt l (p + 1))

-- one turn of the walk
pub best_inside : (e : Regex) (s : List ℕ) (from p : ℕ) (states : List State) (next : List ℕ) (q : ℕ) (t u : State) (b c : Option ℕ) → p < length s → AreStates e states next → slice_get states q ≡ Some t → u ≡ get_or states q u → Knows e s from p t
    → ((u.ends_inside ≡ true) × (c ≡ Some p)) ⊎ ((u.ends_inside ≡ false) × (c ≡ b)) → BestBefore e s from p b → BestBefore e s from (p + 1) c
best_inside e s from p states next q t u b c lt table at is k branch best =
    let same = read states q t u at is in
    best_on e s from p u b c u.ends_inside false (λ h. cc) (inside_last s p lt) (subst (Knows e s from p) same k) ((table.rows q u (at ∙ ap Some same)).inside) branch best

pub over_dead : (e : Regex) (s : List ℕ) (from p : ℕ) (states : List State) (next : List ℕ) (q : ℕ) (t u : State) → AreStates e states next → slice_get states q ≡ Some t → u ≡ get_or states q u → Knows e s from p t → u.is_dead ≡ true → (l : ℕ) → Takes e s from l → l < p + 1
over_dead e s from p states next q t u table at is k dead =
    let same = read states q t u at is in
    dead_over e s from p u (subst (Knows e s from p) same k) ((table.rows q u (at ∙ ap Some same)).dead dead)

pub best_at_end : (e : Regex) (s : List ℕ) (from p : ℕ) (states : List State) (next : List ℕ) (q : ℕ) (t u : State) (b c : Option ℕ) → from ≤ length s → p ≤ length s → length s ≤ p → AreStates e states next → slice_get states q ≡ Some t → u ≡ get_or states q u → Knows e s from p t
    → ((u.ends_at_end ≡ true) × (c ≡ Some p)) ⊎ ((u.ends_at_end ≡ false) × (c ≡ b)) → BestBefore e s from p b → MatchOption c (StartsNone (Takes e s) from) (IsLongest (Takes e s) from)
best_at_end e s from p states next q t u b c w le ge table at is k branch best =
    let same = read states q t u at is in
    best_over e s from (p + 1) c (λ l m. let x = within e s from l w m in omega arith)
    (best_on e s from p u b c u.ends_at_end true (λ h. omega arith) (λ h. refl) (subst (Knows e s from p) same k) ((table.rows q u (at ∙ ap Some same)).at_end) branch best)

-- what a state of the table knows, with its place
abbrev pub KnowsAt : Regex → List ℕ → ℕ → ℕ → List State → ℕ → Type 0
KnowsAt e s from p states q = (t : State) × (slice_get states q ≡ Some t) × Knows e s from p t

-- the next state, from what its maker says
pub next_knows : (e : Regex) (s : List ℕ) (from p : ℕ) (old new : List State) (q r : ℕ) (t : State) → from ≤ p → p < length s → slice_get old q ≡ Some t → Knows e s from p t
    → ((v : State) → slice_get old q ≡ Some v → LeadsTo e new v (get_or s p 0) r) → (r < length new) × KnowsAt e s from (p + 1) new r
next_knows e s from p old new q r t after more at k leads =
    let l = leads t at in
    (slice_get_within new r l.0 l.1, (l.0, l.1, knows_step e s from p t l.0 after more k l.2))

begins_first : (states : List State) (from q a b : ℕ) (stays : Bool) → BeginsAt states a stays true → BeginsAt states b stays false → ((from ≡ 0) × (q ≡ a)) ⊎ ((from ≡ 0 → ⊥) × (q ≡ b)) → BeginsAt states q stays (eqb from 0)
begins_first states from q a b stays x y branch = ⊎_elim
    (λ z. (x.0, ap (slice_get states) z.1 ∙ x.1, subst (IsBegin x.0 stays) (sym (eq-eqb from 0 z.0)) x.2))
    (λ z. (y.0, ap (slice_get states) z.1 ∙ y.1, subst (IsBegin y.0 stays) (sym (not_equal from 0 z.0)) y.2)) branch

pub start_knows : (e : Regex) (s : List ℕ) (from q : ℕ) (states : List State) (next : List ℕ) → AreStates e states next → ((from ≡ 0) × (q ≡ 0)) ⊎ ((from ≡ 0 → ⊥) × (q ≡ 1)) → (q < length states) × KnowsAt e s from from states q
start_knows e s from q states next table branch =
    let b = begins_first states from q 0 1 false table.first table.later branch in
    (slice_get_within states q b.0 b.1, (b.0, b.1, knows_start e s from b.0 b.2))

-- ---- all starts at once

-- at p the state knows each match from a place before that ends there or later
pub record KnowsAll (e : Regex) (s : List ℕ) (from p : ℕ) (t : State) : Type 0 where
  pub enter_is : t.enter ≡ true
  pub stays_is : t.stays ≡ true
  pub first_is : t.first ≡ eqb p 0
  pub is : (j : ℕ) → Rest e t.marks.items s p j → (k : ℕ) × (from ≤ k) × (k < p) × Takes e s k j
  pub if : (k j : ℕ) → from ≤ k → k < p → p ≤ j → Takes e s k j → Rest e t.marks.items s p j

-- no match ends before p, and none starts before begin
pub record NoneYet (e : Regex) (s : List ℕ) (from p begin : ℕ) : Type 0 where
  pub after : from ≤ begin
  pub up_to : begin ≤ p
  pub none_ended : (k j : ℕ) → from ≤ k → j < p → Takes e s k j → ⊥
  pub none_begun : (k : ℕ) → from ≤ k → k < begin → StartsNone (Takes e s) k

abbrev pub KnowsAllAt : Regex → List ℕ → ℕ → ℕ → List State → ℕ → Type 0
KnowsAllAt e s from p states q = (t : State) × (slice_get states q ≡ Some t) × KnowsAll e s from p t

pub all_start : (e : Regex) (s : List ℕ) (from q : ℕ) (states : List State) (next : List ℕ) → AreStates e states next → ((from ≡ 0) × (q ≡ 2)) ⊎ ((from ≡ 0 → ⊥) × (q ≡ 3)) → (q < length states) × KnowsAllAt e s from from states q
all_start e s from q states next table branch =
    let b = begins_first states from q 2 3 true table.open_first table.open_later branch in (
      slice_get_within states q b.0 b.1,
      (
        b.0,
        b.1,
        record {
          enter_is = b.2.enter_is;
          stays_is = b.2.stays_is;
          first_is = b.2.first_is;
          is = λ j r. absurd (no_marks e b.0.marks.items s from j b.2.none_marked r);
          if = λ k j ge lt le m. absurd (omega arith);
        },
      ),
    )

pub none_start : (e : Regex) (s : List ℕ) (from : ℕ) → NoneYet e s from from from
none_start e s from = record {
  after = omega arith;
  up_to = omega arith;
  none_ended = λ k j ge lt m. let f = forward e s k j m in absurd (omega arith);
  none_begun = λ k ge lt. absurd (omega arith);
}

all_step : (e : Regex) (s : List ℕ) (from p : ℕ) (t u : State) → from ≤ p → p < length s → KnowsAll e s from p t → HasKey u t.stays (shift e t.enter t.marks.items (get_or s p 0) t.first) → KnowsAll e s from (p + 1) u
all_step e s from p t u after more k key = record {
  enter_is = key.enter_is ∙ k.stays_is;
  stays_is = key.stays_is ∙ k.stays_is;
  first_is = key.first_is ∙ sym (not_equal (p + 1) 0 (λ h. omega arith));
  is = λ j r. ⊎_elim
      (λ x. (p, after, omega arith, x.1))
      (λ x. let y = k.is j x in (y.0, y.1, omega (arith, y.2), y.3))
      (shift_is s p (eqb p 0) (eqb-true p 0) (eq-eqb p 0) more e true t.marks.items j (subst (λ m. Rest e m s (p + 1) j) marks r));
  if = λ i j ge lt le m. subst (λ m. Rest e m s (p + 1) j) (sym marks) (shift_if s p (eqb p 0) (eqb-true p 0) (eq-eqb p 0) more e true t.marks.items j (omega arith)
      (⊎_elim {B = p ≤ i}
      (λ x. inr (k.if i j ge x (omega arith) m))
      (λ x. let here : i ≡ p = omega arith in inl (refl, subst (λ q. Takes e s q j) here m))
      (cases_lt i p)));
}
  where
    marks : u.marks.items ≡ shift e true t.marks.items (get_or s p 0) (eqb p 0)
    marks = key.marks_are ∙ ap (λ x. shift e x t.marks.items (get_or s p 0) t.first) k.enter_is ∙ ap (λ x. shift e true t.marks.items (get_or s p 0) x) k.first_is

pub next_all : (e : Regex) (s : List ℕ) (from p : ℕ) (old new : List State) (q r : ℕ) (t : State) → from ≤ p → p < length s → slice_get old q ≡ Some t → KnowsAll e s from p t
    → ((v : State) → slice_get old q ≡ Some v → LeadsTo e new v (get_or s p 0) r) → (r < length new) × KnowsAllAt e s from (p + 1) new r
next_all e s from p old new q r t after more at k leads =
    let l = leads t at in
    (slice_get_within new r l.0 l.1, (l.0, l.1, all_step e s from p t l.0 after more k l.2))

-- a match ends at the place of the state
all_ends_is : (e : Regex) (s : List ℕ) (from p : ℕ) (t : State) (last : Bool) → from ≤ p → (last ≡ true → p ≡ length s) → (p ≡ length s → last ≡ true) → KnowsAll e s from p t → ends_with e t.enter t.marks.items t.first last ≡ true → (k : ℕ) × (from ≤ k) × Takes e s k p
all_ends_is e s from p t last after is_last if_last k h = ⊎_elim
    (λ x. let both = and_parts _ _ x in (p, after, nullable_is s p t.first last first_is first_if is_last if_last e both.1))
    (λ x. let y = k.is p (final_is s p t.first last first_is first_if is_last if_last e t.marks.items x) in (y.0, y.1, y.3))
    (or_parts _ _ h)
  where
    first_is : t.first ≡ true → p ≡ 0
    first_is x = eqb-true p 0 (sym k.first_is ∙ x)

    first_if : p ≡ 0 → t.first ≡ true
    first_if x = k.first_is ∙ eq-eqb p 0 x

all_ends_if : (e : Regex) (s : List ℕ) (from p i : ℕ) (t : State) (last : Bool) → (last ≡ true → p ≡ length s) → (p ≡ length s → last ≡ true) → KnowsAll e s from p t → from ≤ i → Takes e s i p → ends_with e t.enter t.marks.items t.first last ≡ true
all_ends_if e s from p i t last is_last if_last k ge m = ⊎_elim {B = p ≤ i}
    (λ x. or_right _ _ (final_if s p t.first last first_is first_if is_last if_last e t.marks.items (k.if i p ge x (omega arith) m)))
    (λ x. let f = forward e s i p m in let here : i ≡ p = omega arith in
    or_left _ _ (and_whole _ _ k.enter_is (nullable_if s p t.first last first_is first_if is_last if_last e (subst (λ q. Takes e s q p) here m))))
    (cases_lt i p)
  where
    first_is : t.first ≡ true → p ≡ 0
    first_is x = eqb-true p 0 (sym k.first_is ∙ x)

    first_if : p ≡ 0 → t.first ≡ true
    first_if x = k.first_is ∙ eq-eqb p 0 x

may_start : (e : Regex) (s : List ℕ) (from p begin : ℕ) → NoneYet e s from p begin → (k : ℕ) × (from ≤ k) × Takes e s k p → MayStart (Takes e s) from begin
may_start e s from p begin n m = record { after = n.after; none_before = n.none_begun; is_found = (m.0, m.1, p, m.2) }

-- a match ends inside the text
pub found_inside : (e : Regex) (s : List ℕ) (from p begin : ℕ) (states : List State) (next : List ℕ) (q : ℕ) (t u : State) → p < length s → AreStates e states next → slice_get states q ≡ Some t → u ≡ get_or states q u → KnowsAll e s from p t → NoneYet e s from p begin → u.ends_inside ≡ true → MayStart (Takes e s) from begin
found_inside e s from p begin states next q t u lt table at is k n h =
    let same = read states q t u at is in
    may_start e s from p begin n (all_ends_is e s from p u false (let a = n.after in let b = n.up_to in omega arith) (λ x. cc) (inside_last s p lt) (subst (KnowsAll e s from p) same k) (sym ((table.rows q u (at ∙ ap Some same)).inside) ∙ h))

pub found_at_end : (e : Regex) (s : List ℕ) (from p begin : ℕ) (states : List State) (next : List ℕ) (q : ℕ) (t u : State) → p ≤ length s → length s ≤ p → AreStates e states next → slice_get states q ≡ Some t → u ≡ get_or states q u → KnowsAll e s from p t → NoneYet e s from p begin → u.ends_at_end ≡ true → MayStart (Takes e s) from begin
found_at_end e s from p begin states next q t u le ge table at is k n h =
    let same = read states q t u at is in
    may_start e s from p begin n (all_ends_is e s from p u true (let a = n.after in let b = n.up_to in omega arith) (λ x. omega arith) (λ x. refl) (subst (KnowsAll e s from p) same k) (sym ((table.rows q u (at ∙ ap Some same)).at_end) ∙ h))

-- no match ends here
pub none_step : (e : Regex) (s : List ℕ) (from p begin : ℕ) (states : List State) (next : List ℕ) (q : ℕ) (t u : State) → p < length s → AreStates e states next → slice_get states q ≡ Some t → u ≡ get_or states q u → KnowsAll e s from p t → NoneYet e s from p begin → u.ends_inside ≡ false → NoneYet e s from (p + 1) begin
none_step e s from p begin states next q t u lt table at is k n h = record {
  after = n.after;
  up_to = omega (arith, n.up_to);
  none_ended = λ i j ge less m. ⊎_elim {B = p ≤ j}
      (λ y. n.none_ended i j ge y m)
      (λ y. let here : j ≡ p = omega arith in
      let z = all_ends_if e s from p i u false (λ w. cc) (inside_last s p lt) (subst (KnowsAll e s from p) same k) ge (subst (λ l. Takes e s i l) here m) in
      let w = sym z ∙ sym ((table.rows q u (at ∙ ap Some same)).inside) ∙ h in cc)
      (cases_lt j p);
  none_begun = n.none_begun;
}
  where
    same : t ≡ u
    same = read states q t u at is

-- nothing can come of the state
pub none_dead : (e : Regex) (s : List ℕ) (from p begin : ℕ) (states : List State) (next : List ℕ) (q : ℕ) (t u : State) → AreStates e states next → slice_get states q ≡ Some t → u ≡ get_or states q u → KnowsAll e s from p t → NoneYet e s from p begin → u.is_dead ≡ true → NoneFrom (Takes e s) from
none_dead e s from p begin states next q t u table at is k n h i low j m = ⊎_elim {B = p ≤ j}
    (λ y. n.none_ended i j low y m)
    (λ y. ⊎_elim {B = p ≤ i}
    (λ z. no_marks e u.marks.items s p j dead.unmarked (known.if i j low z y m))
    (λ z. ⊎_elim {B = (u.first ≡ false) × IsAnchored e}
    (λ w. let v = sym w ∙ known.enter_is in cc)
    (λ w. first_false p u.first known.first_is w.0 (let v = w.1 s i j m in omega arith))
    dead.closed)
    (cases_lt i p))
    (cases_lt j p)
  where
    same : t ≡ u
    same = read states q t u at is

    dead : IsDead e u.enter u.first u.marks.items
    dead = (table.rows q u (at ∙ ap Some same)).dead h

    known : KnowsAll e s from p u
    known = subst (KnowsAll e s from p) same k

-- no match starts at a byte that keeps the idle state
pub idle_byte : (e : Regex) (s : List ℕ) (k : ℕ) (states : List State) (next : List ℕ) (u : State) → AreStates e states next → u ≡ get_or states 3 u → u.ends_inside ≡ false → 0 < k → k < length s → get_or s k 0 < 256 → slice_index next (768 + get_or s k 0) ≡ 3 → StartsNone (Takes e s) k
idle_byte e s k states next u table is quiet later lt small keeps j m = ⊎_elim {B = j ≤ k}
    (λ x. no_marks e t.marks.items s (k + 1) j begin.none_marked (subst (λ (l : List Bool). Rest e l s (k + 1) j) (sym marks) (shift_if s k false (λ h. cc) (λ h. absurd (omega arith)) lt e true t.marks.items j x (inl (refl, m)))))
    (λ x.
    let f = forward e s k j m in
    let here : j ≡ k = omega arith in
    let y = nullable_if s k false false (λ h. cc) (λ h. absurd (omega arith)) (λ h. cc) (λ h. absurd (omega arith)) e (subst (Takes e s k) here m) in
    let z = or_left _ (final e u.marks.items u.first false) (and_whole _ _ enter (subst (λ b. nullable e b false ≡ true) (sym first) y)) in
    let w = sym z ∙ sym row.inside ∙ quiet in cc)
    (cases_lt k j)
  where
    t : State
    t = table.open_later.0

    begin : IsBegin t true false
    begin = table.open_later.2

    same : t ≡ u
    same = read states 3 t u table.open_later.1 is

    row : IsState e u
    row = table.rows 3 u (table.open_later.1 ∙ ap Some same)

    enter : u.enter ≡ true
    enter = ap (λ (v : State). v.enter) (sym same) ∙ begin.enter_is

    first : u.first ≡ false
    first = ap (λ (v : State). v.first) (sym same) ∙ begin.first_is

    leads : LeadsTo e states t (get_or s k 0) 3
    leads = subst (LeadsTo e states t (get_or s k 0)) keeps (table.links 3 (get_or s k 0) t small table.open_later.1 (λ h. let x = sym keeps ∙ h in absurd (omega (arith, x))))

    again : t ≡ leads.0
    again = let x = sym table.open_later.1 ∙ leads.1 in cc

    marks : t.marks.items ≡ shift e true t.marks.items (get_or s k 0) false
    marks = ap (λ (v : State). v.marks.items) again ∙ leads.2.marks_are ∙ ap (λ b. shift e b t.marks.items (get_or s k 0) t.first) begin.enter_is ∙ ap (λ b. shift e true t.marks.items (get_or s k 0) b) begin.first_is

-- the idle state goes on where no match starts
pub idle_on : (e : Regex) (s : List ℕ) (from p q begin : ℕ) (states : List State) (next : List ℕ) (at : ℕ) → AreStates e states next → KnowsAllAt e s from p states at → at ≡ 3 → NoneYet e s from p begin → p ≤ q → 0 < p → ((k : ℕ) → p ≤ k → k < q → StartsNone (Takes e s) k) → KnowsAllAt e s from q states at × NoneYet e s from q q
idle_on e s from p q begin states next at table k here n le later none = (
  (
    b.0,
    ap (slice_get states) here ∙ b.1,
    record {
      enter_is = b.2.enter_is;
      stays_is = b.2.stays_is;
      first_is = b.2.first_is ∙ sym (not_equal q 0 (λ h. omega arith));
      is = λ j r. absurd (no_marks e b.0.marks.items s q j b.2.none_marked r);
      if = λ i j ge lt far m. absurd (begun i ge lt j m);
    },
  ),
  record {
    after = omega (arith, n.after, n.up_to);
    up_to = omega arith;
    none_ended = λ i j ge lt m. let f = forward e s i j m in begun i ge (omega arith) j m;
    none_begun = begun;
  },
)
  where
    b : BeginsAt states 3 true false
    b = table.open_later

    same : k.0 ≡ b.0
    same = let x = sym k.1 ∙ ap (slice_get states) here ∙ b.1 in cc

    begun : (i : ℕ) → from ≤ i → i < q → StartsNone (Takes e s) i
    begun i ge lt j m = ⊎_elim {B = p ≤ i}
        (λ x. ⊎_elim {B = p ≤ j}
        (λ y. n.none_ended i j ge y m)
        (λ y. no_marks e k.0.marks.items s p j (subst (λ (t : State). HasNone t.marks.items) (sym same) b.2.none_marked) (k.2.if i j ge x y m))
        (cases_lt j p))
        (λ x. none i x lt j m)
        (cases_lt i p)

-- no match ends at the end of the text
pub none_at_all : (e : Regex) (s : List ℕ) (from p begin : ℕ) (states : List State) (next : List ℕ) (q : ℕ) (t u : State) → from ≤ length s → p ≤ length s → length s ≤ p → AreStates e states next → slice_get states q ≡ Some t → u ≡ get_or states q u → KnowsAll e s from p t → NoneYet e s from p begin → u.ends_at_end ≡ false → NoneFrom (Takes e s) from
none_at_all e s from p begin states next q t u w le ge table at is k n h =
    none_beyond e s from w (λ i low high j m.
    let far = within e s i j (omega arith) m in
    ⊎_elim {B = p ≤ j}
    (λ y. n.none_ended i j low y m)
    (λ y. let here : j ≡ p = omega arith in
    let z = all_ends_if e s from p i u true (λ v. omega arith) (λ v. refl) (subst (KnowsAll e s from p) same k) low (subst (λ l. Takes e s i l) here m) in
    let v = sym z ∙ sym ((table.rows q u (at ∙ ap Some same)).at_end) ∙ h in cc)
    (cases_lt j p))
  where
    same : t ≡ u
    same = read states q t u at is

-- ---- some starts

-- at p the state knows each match from a place from low to high that ends there or later
pub record KnowsSome (e : Regex) (s : List ℕ) (low high p : ℕ) (t : State) : Type 0 where
  pub first_is : t.first ≡ eqb p 0
  pub if : (k j : ℕ) → low ≤ k → k ≤ high → p ≤ j → Takes e s k j → Rest e t.marks.items s p j

abbrev pub KnowsSomeAt : Regex → List ℕ → ℕ → ℕ → ℕ → List State → ℕ → Type 0
KnowsSomeAt e s low high p states q = (t : State) × (slice_get states q ≡ Some t) × KnowsSome e s low high p t

-- no match from there ends before p
abbrev pub NoneEnded : Regex → List ℕ → ℕ → ℕ → ℕ → Type 0
NoneEnded e s low high p = (k j : ℕ) → low ≤ k → k ≤ high → j < p → Takes e s k j → ⊥

pub some_start : (e : Regex) (s : List ℕ) (low high p : ℕ) (old new : List State) (q r : ℕ) (t : State) → high < p → slice_get old q ≡ Some t → KnowsAll e s low p t
    → ((v : State) → slice_get old q ≡ Some v → (u : State) × (slice_get new r ≡ Some u) × HasKey u false v.marks.items) → (r < length new) × KnowsSomeAt e s low high p new r
some_start e s low high p old new q r t past at k closed =
    let u = closed t at in (
      slice_get_within new r u.0 u.1,
      (
        u.0,
        u.1,
        record {
          first_is = u.2.first_is ∙ sym (not_equal p 0 (λ h. omega arith));
          if = λ i j ge le far m. subst (λ l. Rest e l s p j) (sym u.2.marks_are) (k.if i j ge (omega arith) far m);
        },
      ),
    )

pub some_step : (e : Regex) (s : List ℕ) (low high p : ℕ) (old new : List State) (q r : ℕ) (t : State) → p < length s → slice_get old q ≡ Some t → KnowsSome e s low high p t
    → ((v : State) → slice_get old q ≡ Some v → LeadsTo e new v (get_or s p 0) r) → (r < length new) × KnowsSomeAt e s low high (p + 1) new r
some_step e s low high p old new q r t more at k leads =
    let u = leads t at in
    let marks : u.0.marks.items ≡ shift e t.enter t.marks.items (get_or s p 0) (eqb p 0) = u.2.marks_are ∙ ap (λ x. shift e t.enter t.marks.items (get_or s p 0) x) k.first_is in (
      slice_get_within new r u.0 u.1,
      (
        u.0,
        u.1,
        record {
          first_is = u.2.first_is ∙ sym (not_equal (p + 1) 0 (λ h. omega arith));
          if = λ i j ge le far m. subst (λ l. Rest e l s (p + 1) j) (sym marks) (shift_if s p (eqb p 0) (eqb-true p 0) (eq-eqb p 0) more e t.enter t.marks.items j (omega arith) (inr (k.if i j ge le (omega arith) m)));
        },
      ),
    )

some_ends : (e : Regex) (s : List ℕ) (low high p i : ℕ) (t : State) (last : Bool) → (last ≡ true → p ≡ length s) → (p ≡ length s → last ≡ true) → KnowsSome e s low high p t → low ≤ i → i ≤ high → Takes e s i p → ends_with e t.enter t.marks.items t.first last ≡ true
some_ends e s low high p i t last is_last if_last k ge le m =
    or_right _ _ (final_if s p t.first last (λ x. eqb-true p 0 (sym k.first_is ∙ x)) (λ x. k.first_is ∙ eq-eqb p 0 x) is_last if_last e t.marks.items (k.if i p ge le (omega arith) m))

pub some_none_step : (e : Regex) (s : List ℕ) (low high p : ℕ) (states : List State) (next : List ℕ) (q : ℕ) (t u : State) → p < length s → AreStates e states next → slice_get states q ≡ Some t → u ≡ get_or states q u → KnowsSome e s low high p t → NoneEnded e s low high p → u.ends_inside ≡ false → NoneEnded e s low high (p + 1)
some_none_step e s low high p states next q t u lt table at is k n h i j ge le less m = ⊎_elim {B = p ≤ j}
    (λ y. n i j ge le y m)
    (λ y.
    let same = read states q t u at is in
    let here : j ≡ p = omega arith in
    let z = some_ends e s low high p i u false (λ w. cc) (inside_last s p lt) (subst (KnowsSome e s low high p) same k) ge le (subst (λ l. Takes e s i l) here m) in
    let w = sym z ∙ sym ((table.rows q u (at ∙ ap Some same)).inside) ∙ h in cc)
    (cases_lt j p)

pub some_dead : (e : Regex) (s : List ℕ) (low high p : ℕ) (states : List State) (next : List ℕ) (q : ℕ) (t u : State) → AreStates e states next → slice_get states q ≡ Some t → u ≡ get_or states q u → KnowsSome e s low high p t → NoneEnded e s low high p → u.is_dead ≡ true → (k : ℕ) → low ≤ k → k ≤ high → StartsNone (Takes e s) k
some_dead e s low high p states next q t u table at is k n h i ge le j m = ⊎_elim {B = p ≤ j}
    (λ y. n i j ge le y m)
    (λ y.
    let same = read states q t u at is in
    no_marks e u.marks.items s p j ((table.rows q u (at ∙ ap Some same)).dead h).unmarked ((subst (KnowsSome e s low high p) same k).if i j ge le y m))
    (cases_lt j p)

pub some_at_end : (e : Regex) (s : List ℕ) (low high p : ℕ) (states : List State) (next : List ℕ) (q : ℕ) (t u : State) → high ≤ length s → p ≤ length s → length s ≤ p → AreStates e states next → slice_get states q ≡ Some t → u ≡ get_or states q u → KnowsSome e s low high p t → NoneEnded e s low high p → u.ends_at_end ≡ false → (k : ℕ) → low ≤ k → k ≤ high → StartsNone (Takes e s) k
some_at_end e s low high p states next q t u inside le' ge' table at is k n h i ge le j m = ⊎_elim {B = p ≤ j}
    (λ y. n i j ge le y m)
    (λ y.
    let same = read states q t u at is in
    let far = within e s i j (omega arith) m in
    let here : j ≡ p = omega arith in
    let z = some_ends e s low high p i u true (λ w. omega arith) (λ w. refl) (subst (KnowsSome e s low high p) same k) ge le (subst (λ l. Takes e s i l) here m) in
    let w = sym z ∙ sym ((table.rows q u (at ∙ ap Some same)).at_end) ∙ h in cc)
    (cases_lt j p)

pub none_of_yet : (e : Regex) (s : List ℕ) (low high p begin : ℕ) → NoneYet e s low p begin → NoneEnded e s low high p
none_of_yet e s low high p begin n k j ge le lt m = n.none_ended k j ge lt m

-- ---- what is passed over

-- a slice from a place on, as the code writes it
pub tail : (s : List ℕ) (n : ℕ) → take (length s - n) (drop n s) ≡ drop n s
tail s n = take_all (length s - n) (drop n s) (omega (arith, length-drop n s))

pub not_here : (s : List ℕ) (place byte k end : ℕ) → ((q : ℕ) → 0 ≤ q → q < end → Passes (is_byte byte) (take (length s - place) (drop place s)) q → ⊥) → place ≤ k → k < place + end → slice_index s k ≡ byte → ⊥
not_here s place byte k end h le lt e =
    let there : place + (k - place) ≡ k = omega arith in
    let read : slice_index (take (length s - place) (drop place s)) (k - place) ≡ byte = ap (λ l. slice_index l (k - place)) (tail s place) ∙ get_or-drop place s (k - place) 0 ∙ ap (slice_index s) there ∙ e in
    h (k - place) (omega arith) (omega arith) (eq-eqb _ _ read)

pub not_here_at_all : (s : List ℕ) (place byte k : ℕ) → place ≤ length s → ((q : ℕ) → 0 ≤ q → q < length (take (length s - place) (drop place s)) → Passes (is_byte byte) (take (length s - place) (drop place s)) q → ⊥) → place ≤ k → k < length s → slice_index s k ≡ byte → ⊥
not_here_at_all s place byte k within' h le lt =
    let long : length (take (length s - place) (drop place s)) ≡ length s - place = ap length (tail s place) ∙ length-drop place s in
    not_here s place byte k (length s - place) (λ q ge less. h q ge (omega (arith, long))) le (omega arith)

-- each match begins with a byte that does not occur here
pub begins_none : (e : Regex) (s : List ℕ) (byte place end : ℕ) → BeginsWith e byte → ((k : ℕ) → place ≤ k → k < end → slice_index s k ≡ byte → ⊥) → (k : ℕ) → place ≤ k → k < end → StartsNone (Takes e s) k
begins_none e s byte place end begins none k ge lt j m = none k ge lt ((begins s k j m).1)
