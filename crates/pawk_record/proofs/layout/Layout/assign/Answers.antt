use Rattle.std.proofs.Common.{◌≡◌, ◌∙◌, ◌+◌, ◌-◌, ◌<◌, ◌≤◌, ap, set, sym, subst, arith, length, List, ℕ, Some}
use Rattle.std.proofs.lemmas.Result.{on_ok_weaker}
use Rattle.std.specs.Prelude.{IfErr, slice_get}
use Rattle.pawk_fields.specs.FieldSeparator.{range_of}
use Rattle.pawk_value.specs.Conversion.{text_of}
use Rattle.pawk_value.specs.Value.{Val, lent_value}
use Rattle.pawk_value.specs.declared.faults.Fault.TheVariants.{Length}
use Rattle.pawk_fields.specs.FieldsOf.{IfFault}
use Rattle.pawk_record.specs.declared.layout.Layout.{Layout}
use Rattle.pawk_record.specs.Lines.{Adds, IsLaidOut, Replaces, before_at, values_of}
use Rattle.pawk_record.specs.Records.{joined, with_value}
use Rattle.pawk_record.proofs.JoinLemmas.{added, added_long, exchanged_line, on_ok_two, past, replaced, replaced_kind, replaced_order, replaced_within, with_value_next, with_value_within, within}
use Rattle.pawk_record.proofs.LineLemmas.{length-values}
use Rattle.pawk_record.proofs.layout.Layout.assign.Goals as goal

pub replace-requires-clause-order : goal.replace-requires-clause-order
replace-requires-clause-order c =
    let old = c.args.self.now in
    replaced_order c.args.ofs.now (values_of old) (c.args.change.n - 1) c.in-Some.range old (ap (λ rs. slice_get rs (c.args.change.n - 1)) (sym c.as_slice.ensures.value) ∙ c.in-Some.ensures) c.requires.joined

pub replace-requires-clause-within : goal.replace-requires-clause-within
replace-requires-clause-within c =
    let old = c.args.self.now in
    replaced_within c.args.ofs.now (values_of old) (c.args.change.n - 1) c.in-Some.range old (ap (λ rs. slice_get rs (c.args.change.n - 1)) (sym c.as_slice.ensures.value) ∙ c.in-Some.ensures) c.requires.joined

pub replace-requires-clause-number : goal.replace-requires-clause-number
replace-requires-clause-number c = within c.args.self.now.ranges.items (c.args.change.n - 1) (range_of c.in-Some.range) (ap (λ rs. slice_get rs (c.args.change.n - 1)) (sym c.as_slice.ensures.value) ∙ c.in-Some.ensures)

pub replace-requires-clause-kind : goal.replace-requires-clause-kind
replace-requires-clause-kind c =
    let old = c.args.self.now in
    replaced_kind c.args.ofs.now (values_of old) (c.args.change.n - 1) c.in-Some.range old (ap (λ rs. slice_get rs (c.args.change.n - 1)) (sym c.as_slice.ensures.value) ∙ c.in-Some.ensures) c.requires.joined

-- the fields with one of them assigned
set_there : (n : ℕ) (v : Val) (old : Layout) (range : ℕ × ℕ) → 1 ≤ n → slice_get old.ranges.items (n - 1) ≡ Some (range_of range) → with_value n v (values_of old) ≡ set (values_of old) (n - 1) v
set_there n v old range first at =
    let low = within old.ranges.items (n - 1) (range_of range) at in
    let many = length-values old.text.items old.ranges.items old.kinds.items in
    with_value_within n (n - 1) v (values_of old) (omega arith) (omega (arith, low, many))

pub returns-in-Some-clause-line : goal.returns-in-Some-clause-line
returns-in-Some-clause-line c =
    let old = c.args.self.now in
    let new = c.replace.new.self in
    let i = c.args.change.n - 1 in
    let v = lent_value c.args.change.value in
    let at : slice_get old.ranges.items i ≡ Some (range_of c.in-Some.range) = ap (λ rs. slice_get rs i) (sym c.as_slice.ensures.value) ∙ c.in-Some.ensures in
    let all : Replaces i c.in-Some.range v old new → length new.text.items ≤ 16777216 → IsLaidOut c.args.ofs.now (with_value c.args.change.n v (values_of old)) new = λ r short.
    subst (λ (ws : List Val). IsLaidOut c.args.ofs.now ws new) (sym (set_there c.args.change.n v old c.in-Some.range c.requires.first at)) (replaced c.args.ofs.now (values_of old) i v c.in-Some.range old new at c.requires.joined r short) in
    on_ok_two _ _ _ c.replace.result all c.replace.ensures.replaced c.replace.ensures.short

pub returns-in-Some-clause-fault : goal.returns-in-Some-clause-fault
returns-in-Some-clause-fault c =
    let old = c.args.self.now in
    let i = c.args.change.n - 1 in
    let v = lent_value c.args.change.value in
    let at : slice_get old.ranges.items i ≡ Some (range_of c.in-Some.range) = ap (λ rs. slice_get rs i) (sym c.as_slice.ensures.value) ∙ c.in-Some.ensures in
    let same = exchanged_line c.args.ofs.now (values_of old) i v c.in-Some.range old at c.requires.joined ∙ ap (joined c.args.ofs.now) (sym (set_there c.args.change.n v old c.in-Some.range c.requires.first at)) in
    subst (λ (s : List ℕ). IfErr c.replace.result (λ stop. IfFault stop (λ fault. (fault ≡ Length) × (16777216 < length s)))) same c.replace.ensures.fault

-- the number of the field after the last one
last : (n : ℕ) (old : Layout) → 1 ≤ n → n ≤ length old.ranges.items + 1 → length old.ranges.items ≤ n - 1 → n - 1 ≡ length (values_of old)
last n old first low high = let many = length-values old.text.items old.ranges.items old.kinds.items in omega (arith, many)

pub returns-in-None-clause-line : goal.returns-in-None-clause-line
returns-in-None-clause-line c =
    let old = c.args.self.now in
    let new = c.push.new.self in
    let n = c.args.change.n in
    let v = lent_value c.args.change.value in
    let high = past old.ranges.items (n - 1) (ap (λ rs. slice_get rs (n - 1)) (sym c.as_slice.ensures.value) ∙ c.in-None.ensures) in
    let at = last n old c.requires.first c.requires.last high in
    let before : c.before_at.result.now ≡ before_at (length (values_of old)) c.args.ofs.now = c.before_at.ensures ∙ ap (λ k. before_at k c.args.ofs.now) at in
    let all : Adds c.before_at.result.now v old new → IsLaidOut c.args.ofs.now (with_value n v (values_of old)) new = λ a.
    subst (λ (ws : List Val). IsLaidOut c.args.ofs.now ws new) (sym (with_value_next n v (values_of old) (omega (arith, at, c.requires.first))))
    (added c.args.ofs.now (values_of old) v old new c.requires.joined (subst (λ (b : List ℕ). Adds b v old new) before a)) in
    on_ok_weaker c.push.result all c.push.ensures.added

pub returns-in-None-clause-fault : goal.returns-in-None-clause-fault
returns-in-None-clause-fault c =
    let old = c.args.self.now in
    let n = c.args.change.n in
    let v = lent_value c.args.change.value in
    let high = past old.ranges.items (n - 1) (ap (λ rs. slice_get rs (n - 1)) (sym c.as_slice.ensures.value) ∙ c.in-None.ensures) in
    let at = last n old c.requires.first c.requires.last high in
    let before : c.before_at.result.now ≡ before_at (length (values_of old)) c.args.ofs.now = c.before_at.ensures ∙ ap (λ k. before_at k c.args.ofs.now) at in
    let long = ap (λ b. length old.text.items + (length b + length (text_of v))) before ∙ added_long c.args.ofs.now (values_of old) v old c.requires.joined ∙ ap (λ ws. length (joined c.args.ofs.now ws)) (sym (with_value_next n v (values_of old) (omega (arith, at, c.requires.first)))) in
    subst (λ (m : ℕ). IfErr c.push.result (λ stop. IfFault stop (λ fault. (fault ≡ Length) × (16777216 < m)))) long c.push.ensures.fault
