-- Walks that lead to nothing.
use Rattle.std.proofs.Common.{◌≡◌, ℕ, ◌+◌, ◌<◌, ◌≤◌, Bool, true, false, List, Some, length, get_or, refl, sym, ap, ◌∙◌, subst, inr, ⊎_elim, arith, eqb, eqb-true, eq-eqb}
use Rattle.std.proofs.lemmas.Bool.{cases_lt}
use Rattle.std.proofs.lemmas.Option.{slice_get_within}
use Rattle.std.specs.Bool.{Decides}
use Rattle.std.specs.Prelude.{slice_get}
use Rattle.pawk_ere_syntax.specs.Pattern.{StartsNone}
use Rattle.pawk_ere_automaton.specs.Regex.{Regex, Takes}
use Rattle.pawk_ere_automaton.specs.Marks.{shift, Rest}
use Rattle.pawk_ere_automaton.specs.Misses.{NoRest}
use Rattle.pawk_ere_automaton.specs.Table.{HasKey, LeadsTo}
use Rattle.pawk_ere_automaton.specs.declared.table.State.{State}
use Rattle.pawk_ere_automaton.proofs.Shift.{shift_is}
use Rattle.pawk_ere_automaton.proofs.Walks.{KnowsAll, Knows, KnowsSome, NoneEnded, not_equal, read}
use mathlib.Core.Bool.{beq}

pub beq_decides : (a b : Bool) → Decides (beq a b) (a ≡ b)
beq_decides true true = (λ h. refl, λ h. refl)
beq_decides true false = (λ h. cc, λ h. cc)
beq_decides false true = (λ h. cc, λ h. cc)
beq_decides false false = (λ h. refl, λ h. refl)

-- the marks that were read are those of the state
marks_read : (e : Regex) (s : List ℕ) (p q : ℕ) (states : List State) (t u : State) (marks : List Bool) → slice_get states q ≡ Some t → u ≡ get_or states q u → marks ≡ u.marks.items → NoRest e marks s p → NoRest e t.marks.items s p
marks_read e s p q states t u marks at is same none =
    subst (λ (v : State). NoRest e v.marks.items s p) (sym (read states q t u at is)) (subst (λ m. NoRest e m s p) same none)

-- ---- a miss is met

-- a walk from one start is in a state whose marks lead to nothing
pub over_miss : (e : Regex) (s : List ℕ) (from p q : ℕ) (states : List State) (t u : State) (marks : List Bool) → from < p → slice_get states q ≡ Some t → u ≡ get_or states q u → marks ≡ u.marks.items → Knows e s from p t → NoRest e marks s p → (l : ℕ) → Takes e s from l → l < p
over_miss e s from p q states t u marks past at is same k none l m = ⊎_elim {B = p ≤ l}
    (λ x. x)
    (λ ge. absurd (⊎_elim
    (λ x. absurd (let h = eqb-true p from x.0 in omega arith))
    (λ r. marks_read e s p q states t u marks at is same none l ge r)
    (k.if l ge m)))
    (cases_lt l p)

-- a walk from several starts at once is in such a state
pub some_miss : (e : Regex) (s : List ℕ) (low high p q : ℕ) (states : List State) (t u : State) (marks : List Bool) → slice_get states q ≡ Some t → u ≡ get_or states q u → marks ≡ u.marks.items → KnowsSome e s low high p t → NoneEnded e s low high p → NoRest e marks s p
    → (k : ℕ) → low ≤ k → k ≤ high → StartsNone (Takes e s) k
some_miss e s low high p q states t u marks at is same k n none i ge le j m = ⊎_elim {B = p ≤ j}
    (λ y. n i j ge le y m)
    (λ y. marks_read e s p q states t u marks at is same none j y (k.if i j ge le y m))
    (cases_lt j p)

-- ---- a miss is noted

-- past the last match from the start the marks of the walk lead to nothing
pub walk_silent : (e : Regex) (s : List ℕ) (from past p q : ℕ) (states : List State) (t u : State) (marks : List Bool) → past < p → ((j : ℕ) → past < j → Takes e s from j → ⊥) → slice_get states q ≡ Some t → u ≡ get_or states q u → marks ≡ u.marks.items → Knows e s from p t → NoRest e marks s p
walk_silent e s from past p q states t u marks later quiet at is same k j ge r =
    quiet j (omega arith) (k.is j ge (inr (subst (λ m. Rest e m s p j) (same ∙ ap (λ (v : State). v.marks.items) (sym (read states q t u at is))) r)))

-- at p the state knows of each rest that it belongs to a match from a place from low to high
pub record ComesFrom (e : Regex) (s : List ℕ) (low high p : ℕ) (t : State) : Type 0 where
  pub enter_is : t.enter ≡ false
  pub stays_is : t.stays ≡ false
  pub first_is : t.first ≡ eqb p 0
  pub is : (j : ℕ) → Rest e t.marks.items s p j → (k : ℕ) × (low ≤ k) × (k ≤ high) × Takes e s k j

abbrev pub ComesFromAt : Regex → List ℕ → ℕ → ℕ → ℕ → List State → ℕ → Type 0
ComesFromAt e s low high p states q = (t : State) × (slice_get states q ≡ Some t) × ComesFrom e s low high p t

pub comes_start : (e : Regex) (s : List ℕ) (low high p : ℕ) (old new : List State) (q r : ℕ) (t : State) → p ≤ high + 1 → 0 < p → slice_get old q ≡ Some t → KnowsAll e s low p t
    → ((v : State) → slice_get old q ≡ Some v → (u : State) × (slice_get new r ≡ Some u) × HasKey u false v.marks.items) → (r < length new) × ComesFromAt e s low high p new r
comes_start e s low high p old new q r t up_to past at k closed =
    let u = closed t at in (
      slice_get_within new r u.0 u.1,
      (
        u.0,
        u.1,
        record {
          enter_is = u.2.enter_is;
          stays_is = u.2.stays_is;
          first_is = u.2.first_is ∙ sym (not_equal p 0 (λ h. omega arith));
          is = λ j r. let x = k.is j (subst (λ l. Rest e l s p j) u.2.marks_are r) in (x.0, x.1, omega (arith, x.2), x.3);
        },
      ),
    )

pub comes_step : (e : Regex) (s : List ℕ) (low high p : ℕ) (old new : List State) (q r : ℕ) (t : State) → p < length s → slice_get old q ≡ Some t → ComesFrom e s low high p t
    → ((v : State) → slice_get old q ≡ Some v → LeadsTo e new v (get_or s p 0) r) → (r < length new) × ComesFromAt e s low high (p + 1) new r
comes_step e s low high p old new q r t more at k leads =
    let u = leads t at in
    let marks : u.0.marks.items ≡ shift e false t.marks.items (get_or s p 0) (eqb p 0) = u.2.marks_are ∙ ap (λ x. shift e x t.marks.items (get_or s p 0) t.first) k.enter_is ∙ ap (λ x. shift e false t.marks.items (get_or s p 0) x) k.first_is in (
      slice_get_within new r u.0 u.1,
      (
        u.0,
        u.1,
        record {
          enter_is = u.2.enter_is ∙ k.stays_is;
          stays_is = u.2.stays_is ∙ k.stays_is;
          first_is = u.2.first_is ∙ sym (not_equal (p + 1) 0 (λ h. omega arith));
          is = λ j rest. ⊎_elim
              (λ x. let h = x.0 in cc)
              (λ x. k.is j x)
              (shift_is s p (eqb p 0) (eqb-true p 0) (eq-eqb p 0) more e false t.marks.items j (subst (λ l. Rest e l s (p + 1) j) marks rest));
        },
      ),
    )

-- where no match starts from low to high, the marks of their walk lead to nothing
pub starts_silent : (e : Regex) (s : List ℕ) (low high p q : ℕ) (states : List State) (t u : State) (marks : List Bool) → ((k : ℕ) → low ≤ k → k ≤ high → StartsNone (Takes e s) k) → slice_get states q ≡ Some t → u ≡ get_or states q u → marks ≡ u.marks.items → ComesFrom e s low high p t → NoRest e marks s p
starts_silent e s low high p q states t u marks none at is same k j ge r =
    let x = k.is j (subst (λ m. Rest e m s p j) (same ∙ ap (λ (v : State). v.marks.items) (sym (read states q t u at is))) r) in
    none x.0 x.1 x.2 j x.3
