-- What the test of a merge shows.
use Rattle.std.proofs.Common.{◌≡◌, ◌<◌, ◌^◌, ℤ, pos, negsuc, ◌+ℤ◌, List, [], ◌∷◌, Option, Bool, true, false, if◌then◌else◌, Result, Ok, Err, refl, ap, sym, ◌∙◌, subst, ⊎_elim, arith, rules, tests}
use Rattle.std.proofs.lemmas.Int.{ints, clamps}
use Rattle.std.specs.Prelude.{◌≤ℤ◌, ◌-ℤ◌}
use Rattle.std.specs.Int.{int_min, int_max}
use Rattle.pawk_value.specs.declared.faults.Fault.{Fault}
use Rattle.pawk_value.specs.declared.faults.Fault.TheVariants.{Overflow}
use Rattle.pawk_value.specs.Range.{FitsWord, in_range, in_range_or_fault}
use Rattle.pawk_value.specs.Value.{Val}
use Rattle.pawk_value.specs.Conversion.{num_of}
use Rattle.pawk_array.specs.Entries.{value_of}
use Rattle.pawk_code.specs.declared.word.Sign.{Sign}
use Rattle.pawk_code.specs.declared.word.Sign.TheVariants.{Plus, Minus}
use Rattle.pawk_world.specs.Worlds.{Cell, element}
use Rattle.pawk_store.specs.Globals.{value_at}
use Rattle.pawk_admit.specs.declared.role.Role.TheVariants.{Adder, Setter, Reader}
use Rattle.pawk_admit.specs.Roles.{Roles}
use Rattle.pawk_frozen.specs.Marks.{Mark, blank, summed, last_put, created, with_amount, mark_at}
use Rattle.pawk_frozen.specs.Frozens.{Frozen, signed_amount}
use Rattle.pawk_store.specs.Records.{fault, End}
use Rattle.pawk_store.specs.Laws.{SameEnd}
use Rattle.pawk_commute.specs.Traces.{Event, Traced, same_cell, mark_from}
use Rattle.pawk_commute.specs.Traces as event
use Rattle.pawk_commute.specs.Settings.{Setting, role_of_cell, entry_at}
use Rattle.pawk_commute.specs.Agreement.{Suits, AreLawful, Becomes}
use Rattle.pawk_commute.specs.Commutation.{pair_of, IsOwnFault, AddFaulted, GoesPast, Commuted, no_event, amount_fault, missed_key, add_fault}
use Rattle.pawk_commute.specs.Merging.{Passes, IsLeftWell, AllPass, Tells}
use Rattle.pawk_commute.proofs.CellLaws.{cell_same, cell_itself}
use Rattle.pawk_commute.proofs.SumLemmas.{ok_same}
use Rattle.pawk_commute.proofs.AgreementLemmas.{value_entry}

-- ---- the extremes only go apart

record Sums : Type 0 where
  total : ℤ
  least : ℤ
  greatest : ℤ

abbrev mark_of : Sums → Mark
mark_of s = summed s.total s.least s.greatest

record Grown (s t : Sums) : Type 0 where
  least : t.least ≤ℤ s.least
  greatest : s.greatest ≤ℤ t.greatest

abbrev more_of : Sums → ℤ → Sums
more_of s w = record { total = s.total +ℤ w; least = int_min s.least (s.total +ℤ w); greatest = int_max s.greatest (s.total +ℤ w) }

grown_more : (s : Sums) (w : ℤ) → Grown s (more_of s w)
grown_more s w = record { least = omega (arith, ints, clamps); greatest = omega (arith, ints, clamps) }

grown_then : (s t u : Sums) → Grown s t → Grown t u → Grown s u
grown_then s t u h k = record { least = omega (arith, ints, h.least, k.least); greatest = omega (arith, ints, h.greatest, k.greatest) }

-- lawful events leave an adder's cell with sums
grows : (roles : Roles) (c : Cell) (es : List Event) (s : Sums) → role_of_cell roles c ≡ Adder → AreLawful roles es → (t : Sums) × (mark_from (mark_of s) c es ≡ mark_of t) × Grown s t
grows roles c [] s role h = (s, refl, record { least = omega (arith, ints); greatest = omega (arith, ints) })
grows roles c (event.added d w ∷ es) s role h = by (same_cell c d) (grows roles c es s role h.1) (grows roles c es (more_of s w) role h.1)
  where
    by : (b : Bool) → ((t : Sums) × (mark_from (mark_of s) c es ≡ mark_of t) × Grown s t) → ((t : Sums) × (mark_from (mark_of (more_of s w)) c es ≡ mark_of t) × Grown (more_of s w) t) →
        (t : Sums) × (mark_from (if b then mark_of (more_of s w) else mark_of s) c es ≡ mark_of t) × Grown s t
    by true k j = (j.0, j.1, grown_then s (more_of s w) j.0 (grown_more s w) j.2)
    by false k j = k
grows roles c (event.put d v ∷ es) s role h = by (same_cell c d) refl (grows roles c es s role h.1)
  where
    by : (b : Bool) → same_cell c d ≡ b → ((t : Sums) × (mark_from (mark_of s) c es ≡ mark_of t) × Grown s t) → (t : Sums) × (mark_from (if b then last_put v else mark_of s) c es ≡ mark_of t) × Grown s t
    by true e k = absurd (let both : Adder ≡ Setter = sym (subst (λ x. role_of_cell roles x ≡ Adder) (cell_same c d e) role) ∙ h.0 in cc)
    by false e k = k
grows roles c (event.created n key ∷ es) s role h = by (same_cell c (element n key)) refl (grows roles c es s role h.1)
  where
    by : (b : Bool) → same_cell c (element n key) ≡ b → ((t : Sums) × (mark_from (mark_of s) c es ≡ mark_of t) × Grown s t) → (t : Sums) × (mark_from (if b then created else mark_of s) c es ≡ mark_of t) × Grown s t
    by true e k = absurd (let both : Adder ≡ Reader = sym (subst (λ x. role_of_cell roles x ≡ Adder) (cell_same c (element n key) e) role) ∙ h.0 in cc)
    by false e k = k

-- ---- an add whose sum is in range does not fault

pub range_from : (z : ℤ) → FitsWord z → in_range z ≡ true
range_from (pos n) h = let k : n < 2 ^ 63 = omega (arith, ints, h.1) in search (rules, tests)
range_from (negsuc n) h = let k : n < 2 ^ 63 = omega (arith, ints, h.0) in search (rules, tests)

ok_err : {x : ℤ} {f : Fault} → Ok x ≡ Err f → ⊥
ok_err e = subst (λ (r : Result ℤ Fault). elim r as (λ _. Type 0) [ Ok _ ↦ Unit {0} | Err _ ↦ ⊥ ]) e tt

in_range_err : (z : ℤ) (f : Fault) → FitsWord z → in_range_or_fault z ≡ Err f → ⊥
in_range_err z f h e = ok_err (sym (ap (λ b. if b then Ok z else Err Overflow) (range_from z h)) ∙ e)

no_fault : (sign : Sign) (a y : ℤ) (f : Fault) → FitsWord (a +ℤ signed_amount sign y) → IsOwnFault sign (Ok a) (Ok y) f → ⊥
no_fault Plus a y f h own = in_range_err (a +ℤ y) f h own
no_fault Minus a y f h own = let minus : a +ℤ (pos 0 -ℤ y) ≡ a -ℤ y = omega (arith, ints) in in_range_err (a -ℤ y) f (subst FitsWord minus h) own

-- the sums of a mark after one amount more
first_sums : (w : ℤ) (m : Mark) → (s : Sums) × (with_amount w m ≡ mark_of s) × (s.least ≤ℤ s.total) × (s.total ≤ℤ s.greatest)
first_sums w blank = (record { total = w; least = w; greatest = w }, refl, omega (arith, ints), omega (arith, ints))
first_sums w (summed total least greatest) = (more_of (record { total = total; least = least; greatest = greatest }) w, refl, omega (arith, ints, clamps), omega (arith, ints, clamps))
first_sums w (last_put v) = (record { total = w; least = w; greatest = w }, refl, omega (arith, ints), omega (arith, ints))
first_sums w created = (record { total = w; least = w; greatest = w }, refl, omega (arith, ints), omega (arith, ints))

-- what is there now, by what was there at the start: the number before the add is the first one with the total
left_is : (before now : Option Val) (m : Mark) (z w total least greatest : ℤ) → Becomes before m now → Suits m Adder → num_of (value_of before) ≡ Ok z → with_amount w m ≡ summed total least greatest →
    (a : ℤ) × (num_of (value_of now) ≡ Ok a) × (a +ℤ w ≡ z +ℤ total)
left_is before now blank z w total least greatest h suits e is =
    let same : w ≡ total = cc in
    (z, ap (λ o. num_of (value_of o)) h ∙ e, ap (λ x. z +ℤ x) same)
left_is before now (summed t l g) z w total least greatest h suits e is =
    let same : h.number ≡ z = ok_same (num_of (value_of before)) h.converts e in
    let all : t +ℤ w ≡ total = cc in
    (h.number +ℤ t, ap (λ o. num_of (value_of o)) h.sum, omega (arith, ints, same, all))
left_is before now (last_put v) z w total least greatest h suits e is = absurd (cc)
left_is before now created z w total least greatest h suits e is = absurd (cc)

-- ---- the test

passes_sum : (before now : Option Val) (m : Mark) → Becomes before m now → Passes (value_of before) m
passes_sum before now blank h = tt
passes_sum before now (summed total least greatest) h = (h.number, h.converts, h.least_fits, h.greatest_fits)
passes_sum before now (last_put v) h = tt
passes_sum before now created h = tt

all_pass : (i : Setting) (store : End Traced) (chunk : End Frozen) → SameEnd (pair_of i) store chunk → AllPass i chunk
all_pass i store chunk h c =
    subst (λ v. Passes v (mark_at c chunk.world.table)) (value_entry c i.start)
    (passes_sum (entry_at c i.start) (entry_at c store.world.globals) (mark_at c chunk.world.table) (h.worlds.becomes c))

module _ (i : Setting) (store : End Traced) (chunk : End Frozen) where
  past_fails : (k : AddFaulted i store chunk) → GoesPast i k.target k.sign k.amount k.second k.state k.output chunk → Passes (value_at k.target i.start) (mark_at k.target chunk.world.table) → ⊥
  past_fails k n passes =
      let c = k.target in
      let w = signed_amount k.sign n.0 in
      let m = mark_at c k.second.table in
      let first = first_sums w m in
      let es = n.2.0 in
      let law = n.2.1 in
      let g = grows i.roles c es first.0 k.role law.1.1 in
      let mark : mark_at c chunk.world.table ≡ mark_of g.0 =
      law.0 c ∙ ap (λ x. mark_from x c es) (ap (λ b. if b then with_amount w m else m) (cell_itself c) ∙ first.1) ∙ g.1 in
      let p : Passes (value_at c i.start) (mark_of g.0) = subst (Passes (value_at c i.start)) mark passes in
      let left = left_is (entry_at c i.start) (entry_at c k.first.globals) m p.0 w first.0.total first.0.least first.0.greatest
      (k.alike.becomes c) (subst (Suits m) k.role (k.alike.suits c)) (ap num_of (value_entry c i.start) ∙ p.1) first.1 in
      let fits : FitsWord (p.0 +ℤ first.0.total) = (omega (arith, ints, first.2, g.2.least, p.2.0), omega (arith, ints, first.3, g.2.greatest, p.3.1)) in
      let now : num_of (value_at c k.first.globals) ≡ Ok left.0 = ap num_of (sym (value_entry c k.first.globals)) ∙ left.1 in
      no_fault k.sign left.0 n.0 k.why (subst FitsWord (sym left.2) fits)
      (subst (λ y. IsOwnFault k.sign (Ok left.0) y k.why) n.1 (subst (λ q. IsOwnFault k.sign q k.amount k.why) now k.own))

  not_well : (f : Fault) → chunk.left ≡ fault f → IsLeftWell chunk.left → ⊥
  not_well f e h = subst IsLeftWell e h

  add_fails : (k : AddFaulted i store chunk) → IsLeftWell chunk.left → Passes (value_at k.target i.start) (mark_at k.target chunk.world.table) → ⊥
  add_fails k well passes = ⊎_elim (λ e. not_well e.0 (ap (λ x. x.left) e.1) well) (λ n. past_fails k n passes) k.chunk_then

  same_by : Commuted i store chunk → IsLeftWell chunk.left → AllPass i chunk → SameEnd (pair_of i) store chunk
  same_by (no_event same clean) well all = same
  same_by (amount_fault k) well all = absurd (not_well k.why (ap (λ x. x.left) k.chunk_ends) well)
  same_by (missed_key k) well all = absurd (subst IsLeftWell (ap (λ x. x.left) k.chunk_ends) well)
  same_by (add_fault k) well all = absurd (add_fails k well (all k.target))

  pub tells : Tells i store chunk
  tells = record { passes = all_pass i store chunk; fails = add_fails; same = same_by }
