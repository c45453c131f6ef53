-- The kinds that are found for a program.
use Rattle.std.proofs.Common.{◌≡◌, ℕ, Bool, true, false, List, length, Option, Some, None, refl, sym, ◌∙◌, ap, subst}
use Rattle.std.specs.Prelude.{if◌then◌else◌}
use Rattle.std.specs.List.{list_all}
use Rattle.pawk_syntax_tree.specs.Item.{Part}
use Rattle.pawk_syntax_check.specs.declared.variables.Variables.{Variables}
use Rattle.pawk_syntax_check.specs.declared.kinds.Kinds.{Kinds as Code}
use Rattle.pawk_syntax_check.specs.declared.kinds.MarkedDemands.{MarkedDemands}
use Rattle.pawk_syntax_check.specs.Tables.{Name, number_of, IsTable}
use Rattle.pawk_syntax_check.specs.Demands.{Kinds, meets, AreKinds, KindsFit, AreKindsOf, KindsAreUnique}
use Rattle.pawk_syntax_check.specs.DemandViews.{demands_in}
use Rattle.pawk_syntax_check.specs.KindViews.{kinds_in, AreFoundFor}
use Rattle.pawk_syntax_check.specs.Marks.{AreBelow, IsForced}
use Rattle.pawk_syntax_check.specs.Found.{is_given, meets_marks, mark_of, kinds_of}
use Rattle.pawk_syntax_check.proofs.Agreement.{below_all, all_meet, given_scalar, by_number, all_by_number, all_met, knows_given}

least_by : (t : Variables) (m : List Bool) → IsTable t → (other : Kinds) → IsForced (by_number t other) m → (v : Name) →
    (g : Bool) (o : Option ℕ) → number_of t v ≡ o → (if g then false else mark_of m o) ≡ true → other v ≡ true
least_by t m h other forced v true o p e = cc
least_by t m h other forced v false None p e = cc
least_by t m h other forced v false (Some i) p e = sym (ap other (h.has_name v i p).1) ∙ forced i e

-- a demand of the code speaks of marks that are there
pub below : (ps : List Part) (k : MarkedDemands) → AreFoundFor ps k → AreBelow (length k.marks.items) k.demands.list.items
below ps k f =
    let P : ℕ → Type 0 = λ n. AreBelow n k.demands.list.items in
    subst P (sym f.marks_length) (below_all k.demands.variables k.demands.list.items f.numbered.numbered)

forced_by : (ps : List Part) (k : MarkedDemands) → AreFoundFor ps k → (other : Kinds) → AreKinds ps other → IsForced (by_number k.demands.variables other) k.marks.items
forced_by ps k f other a =
    let met : list_all (meets other) (demands_in k.demands) ≡ true = rw f.asked a.meets_all in
    f.forced (by_number k.demands.variables other) (all_by_number k.demands.variables other k.demands.list.items f.numbered.numbered ∙ met)

-- where some kinds fit, the marks meet the demands
pub marks_fit : (ps : List Part) (k : MarkedDemands) → AreFoundFor ps k → KindsFit ps → list_all (meets_marks k.marks.items) k.demands.list.items ≡ true
marks_fit ps k f fit =
    let met : list_all (meets fit.0) (demands_in k.demands) ≡ true = rw f.asked fit.1.meets_all in
    all_met k.demands.variables fit.0 k.marks.items (knows_given fit.0 fit.1.variables) (forced_by ps k f fit.0 fit.1) k.demands.list.items f.numbered.numbered f.closed met

-- marks that meet the demands give kinds
pub kinds_from_marks : (ps : List Part) (k : MarkedDemands) → AreFoundFor ps k → list_all (meets_marks k.marks.items) k.demands.list.items ≡ true →
    AreKinds ps (kinds_of k.demands.variables k.marks.items)
kinds_from_marks ps k f e =
    let here : list_all (meets (kinds_of k.demands.variables k.marks.items)) (demands_in k.demands) ≡ true =
    all_meet k.demands.variables k.marks.items f.numbered.table k.demands.list.items f.numbered.numbered ∙ e in
    record { meets_all = rw (← f.asked) here; variables = given_scalar k.demands.variables k.marks.items }

-- where some kinds fit, these are the least
pub kinds_found : (ps : List Part) (k : MarkedDemands) → AreFoundFor ps k → KindsFit ps → AreKindsOf ps (kinds_of k.demands.variables k.marks.items)
kinds_found ps k f fit = record {
  kinds = kinds_from_marks ps k f (marks_fit ps k f fit);
  least = λ other a v e.
      least_by k.demands.variables k.marks.items f.numbered.table other (forced_by ps k f other a) v (is_given v) (number_of k.demands.variables v) refl e;
}

same : (a b : Bool) → (a ≡ true → b ≡ true) → (b ≡ true → a ≡ true) → a ≡ b
same true b f g = sym (f refl)
same false true f g = g refl
same false false f g = refl

pub one_choice : KindsAreUnique
one_choice ps k other a b v = same (k v) (other v) (a.least other b.kinds v) (b.least k a.kinds v)

-- what the marks say of a name
pub given_by : (k : Code) (v : Name) → is_given v ≡ true → false ≡ kinds_in k v
unfolding kinds_in
given_by k v e = rw e refl

pub number_by : (k : Code) (v : Name) (o : Option ℕ) → is_given v ≡ false → number_of k.variables v ≡ o → mark_of k.marks.items o ≡ kinds_in k v
unfolding kinds_in
number_by k v o e n = rw (e, n) refl
