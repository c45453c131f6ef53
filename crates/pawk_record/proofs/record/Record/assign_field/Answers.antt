use Rattle.std.proofs.Common.{◌≡◌, ◌<◌, ◌≤◌, ◌++◌, ◌∙◌, true, false, ℕ, None, Some, Ok, Err, arith, ap, sym, refl, length, map, subst, Bool}
use Rattle.std.proofs.lemmas.Result.{err_from_is_err_and}
use Rattle.pawk_fields.specs.FieldSeparator.{range_of}
use Rattle.pawk_value.specs.Value.{lent_value}
use Rattle.pawk_value.specs.declared.faults.Fault.{Fault}
use Rattle.pawk_value.specs.declared.faults.Fault.TheVariants.{Length}
use Rattle.pawk_record.specs.Lines.{IsJoined, IsLaidOut, line_of, values, values_of}
use Rattle.pawk_record.specs.Records.{Record, SplitRecord, joined, with_field, with_value}
use Rattle.pawk_record.specs.Splitting.{left}
use Rattle.pawk_record.specs.Views.{record_of}
use Rattle.pawk_record.specs.declared.layout.Layout.{Layout}
use Rattle.pawk_record.proofs.JoinLemmas.{joined_of}
use Rattle.pawk_record.proofs.SplittingLemmas.{fault_map}
use Rattle.pawk_record.proofs.ViewLemmas.{field_assigned, field_too_long, found_values, owned}
use Rattle.pawk_record.proofs.record.Record.assign_field.Goals as goal

nowhere : (x n : ℕ) → None ≡ Some x → x ≤ n
nowhere x n h = cc

-- ---- where the fields are laid out anew

pub returns-in_err-lay_out-clause-fault : goal.returns-in_err-lay_out-clause-fault
returns-in_err-lay_out-clause-fault c =
    let p = err_from_is_err_and c.from_residual-in_err-lay_out.result c.from_residual-in_err-lay_out.ensures.1 in
    let r = c.self.inside in
    let own = c.in_ok-self-inside.field-0 in
    let text : c.line.result.now ≡ line_of own c.own.new.self.text.items r.lent.now = c.line.ensures ∙ ap (λ t. line_of own t r.lent.now) c.as_slice.ensures.value in
    let all : length r.here.ranges.items ≡ length (record_of r).fields = ap (λ (v : SplitRecord). v.found) c.self.view_is ∙ c.in_ok-prepare_all.ensures.ready ∙ sym (ap (λ (v : SplitRecord). length v.record_now.fields) c.self.view_is) in
    let vs = values c.line.result.now c.as_slice-2.result.now c.as_slice-3.result.now in
    let same : vs ≡ c.args.self.now.record_now.fields =
    ap (λ t. values t c.as_slice-2.result.now c.as_slice-3.result.now) text
    ∙ ap (λ rs. values (line_of own c.own.new.self.text.items r.lent.now) rs c.as_slice-3.result.now) c.as_slice-2.ensures.value
    ∙ ap (λ ks. values (line_of own c.own.new.self.text.items r.lent.now) c.own.new.self.ranges.items ks) c.as_slice-3.ensures.value
    ∙ c.in_ok-self-inside.ensures.fields
    ∙ found_values r all
    ∙ ap (λ (v : SplitRecord). v.record_now.fields) c.self.view_is
    ∙ ap (λ (v : Record). v.fields) c.in_ok-prepare_all.ensures.same in
    let low : c.args.n ≤ 32767 = omega (arith, c.if-n-gt-GREATEST_FIELD.false) in
    let long : (fault : Fault) → (fault ≡ Length) × (16777216 < length (joined c.args.ofs.now (with_value c.args.n (lent_value c.args.value) vs))) → with_field c.args.n (lent_value c.args.value) c.args.ofs.now c.args.self.now.record_now ≡ Err fault = λ fault h. field_too_long c.args.n (lent_value c.args.value) c.args.ofs.now c.args.self.now.record_now vs fault same low h.0 h.1 in
    rw (p.1, p.2) (fault_map _ _ _ long c.in_err-lay_out.ensures.fault)

pub returns-in_err-lay_out-clause-stays : goal.returns-in_err-lay_out-clause-stays
returns-in_err-lay_out-clause-stays c =
    let p = err_from_is_err_and c.from_residual-in_err-lay_out.result c.from_residual-in_err-lay_out.ensures.1 in
    let r = c.self.inside in
    let all : length r.here.ranges.items ≡ length (record_of r).fields = ap (λ (v : SplitRecord). v.found) c.self.view_is ∙ c.in_ok-prepare_all.ensures.ready ∙ sym (ap (λ (v : SplitRecord). length v.record_now.fields) c.self.view_is) in
    let same = owned r c.in_ok-self-inside.field-0 c.own.new.self r.splitter c.in_ok-self-inside.ensures.line c.in_ok-self-inside.ensures.fields all ∙ ap (λ (v : SplitRecord). v.record_now) c.self.view_is ∙ c.in_ok-prepare_all.ensures.same in
    rw (p.1, p.2) (fault_map _ _ _ (λ fault h. same) c.in_err-lay_out.ensures.fault)

pub returns-clause-record : goal.returns-clause-record
returns-clause-record c =
    let r = c.self.inside in
    let own = c.in_ok-self-inside.field-0 in
    let text : c.line.result.now ≡ line_of own c.own.new.self.text.items r.lent.now = c.line.ensures ∙ ap (λ t. line_of own t r.lent.now) c.as_slice.ensures.value in
    let all : length r.here.ranges.items ≡ length (record_of r).fields = ap (λ (v : SplitRecord). v.found) c.self.view_is ∙ c.in_ok-prepare_all.ensures.ready ∙ sym (ap (λ (v : SplitRecord). length v.record_now.fields) c.self.view_is) in
    let vs = values c.line.result.now c.as_slice-2.result.now c.as_slice-3.result.now in
    let same : vs ≡ c.args.self.now.record_now.fields =
    ap (λ t. values t c.as_slice-2.result.now c.as_slice-3.result.now) text
    ∙ ap (λ rs. values (line_of own c.own.new.self.text.items r.lent.now) rs c.as_slice-3.result.now) c.as_slice-2.ensures.value
    ∙ ap (λ ks. values (line_of own c.own.new.self.text.items r.lent.now) c.own.new.self.ranges.items ks) c.as_slice-3.ensures.value
    ∙ c.in_ok-self-inside.ensures.fields
    ∙ found_values r all
    ∙ ap (λ (v : SplitRecord). v.record_now.fields) c.self.view_is
    ∙ ap (λ (v : Record). v.fields) c.in_ok-prepare_all.ensures.same in
    let low : c.args.n ≤ 32767 = omega (arith, c.if-n-gt-GREATEST_FIELD.false) in
    let line = subst (λ (l : Layout). IsLaidOut c.args.ofs.now (with_value c.args.n (lent_value c.args.value) vs) l) (sym c.swap.ensures.x_after) c.in_ok-lay_out.ensures.line in
    let short = subst (λ (l : Layout). length l.text.items ≤ 16777216) (sym c.swap.ensures.x_after) c.in_ok-lay_out.ensures.short in
    field_assigned c.args.n (lent_value c.args.value) c.args.ofs.now c.args.self.now.record_now vs c.swap.new.x c.self.inside.splitter same low line short

pub invariant_of-self-2 : goal.invariant_of-self-2
invariant_of-self-2 c =
    let l = c.lay_out.new.self in
    let is = joined_of c.args.ofs.now _ l l c.in_ok-lay_out.ensures.line refl refl refl c.in_ok-lay_out.ensures.joined.1 in
    record {
      splitter = c.self.invariant.splitter;
      place = λ x h. nowhere x _ h;
      counted = tt;
      joined = λ _. subst (λ (x : Layout). IsJoined x) (sym c.swap.ensures.x_after) is;
      own = λ _. refl;
      done = λ _. refl;
    }

-- ---- where the field is assigned in place

pub invariant_of-self-in_err-assign : goal.invariant_of-self-in_err-assign
invariant_of-self-in_err-assign c =
    let never : c.assign.new.self.is_joined ≡ true → ⊥ = λ e. let apart = c.assign.ensures.mark in cc in
    record {
      splitter = c.self.invariant.splitter;
      place = λ x h. nowhere x _ h;
      counted = tt;
      joined = λ e. absurd (never e);
      own = λ e. absurd (never e);
      done = λ e. refl;
    }

pub invariant_of-self-then-n-len : goal.invariant_of-self-then-n-len
invariant_of-self-then-n-len c =
    let old = c.own.new.self in
    let is = c.is_joined_by.ensures c.if-is_joined_by.true in
    let ofs = ap (λ o. o.items) c.assign.ensures.ofs ∙ is.1 in
    record {
      splitter = c.self.invariant.splitter;
      place = λ x h. nowhere x _ h;
      counted = tt;
      joined = λ _. joined_of c.args.ofs.now _ c.assign.new.self _ c.in_ok-assign.ensures.line refl refl refl ofs;
      own = λ _. c.in_ok-self-inside.ensures.own is.0;
      done = λ _. refl;
    }

pub returns-then-n-len-clause-record : goal.returns-then-n-len-clause-record
returns-then-n-len-clause-record c =
    let r = c.self.inside in
    let own = c.in_ok-self-inside.field-0 in
    let here = c.own.new.self in
    let new = c.assign.new.self in
    let v = lent_value c.args.value in
    let is = c.is_joined_by.ensures c.if-is_joined_by.true in
    let owns : own ≡ true = c.in_ok-self-inside.ensures.own is.0 in
    let all : length r.here.ranges.items ≡ length (record_of r).fields = ap (λ (v : SplitRecord). v.found) c.self.view_is ∙ c.in_ok-prepare_all.ensures.ready ∙ sym (ap (λ (v : SplitRecord). length v.record_now.fields) c.self.view_is) in
    let vs = values_of here in
    let same : vs ≡ c.args.self.now.record_now.fields =
    ap (λ b. values (line_of b here.text.items r.lent.now) here.ranges.items here.kinds.items) (sym owns)
    ∙ c.in_ok-self-inside.ensures.fields
    ∙ found_values r all
    ∙ ap (λ (v : SplitRecord). v.record_now.fields) c.self.view_is
    ∙ ap (λ (v : Record). v.fields) c.in_ok-prepare_all.ensures.same in
    let low : c.args.n ≤ 32767 = omega (arith, c.if-n-gt-GREATEST_FIELD.false) in
    let gives : Bool → Type 0 = λ b. with_field c.args.n v c.args.ofs.now c.args.self.now.record_now ≡ Ok (record { text = line_of b new.text.items r.lent.now; fields = values (line_of b new.text.items r.lent.now) (new.ranges.items ++ map range_of (left r.splitter (line_of b new.text.items r.lent.now) None)) new.kinds.items }) in
    subst gives (sym owns) (field_assigned c.args.n v c.args.ofs.now c.args.self.now.record_now vs new r.splitter same low c.in_ok-assign.ensures.line c.in_ok-assign.ensures.short)

pub returns-in_err-assign-clause-fault : goal.returns-in_err-assign-clause-fault
returns-in_err-assign-clause-fault c =
    let p = err_from_is_err_and c.from_residual-in_err-assign.result c.from_residual-in_err-assign.ensures.1 in
    let r = c.self.inside in
    let here = c.own.new.self in
    let v = lent_value c.args.value in
    let is = c.is_joined_by.ensures c.if-is_joined_by.true in
    let owns : c.in_ok-self-inside.field-0 ≡ true = c.in_ok-self-inside.ensures.own is.0 in
    let all : length r.here.ranges.items ≡ length (record_of r).fields = ap (λ (v : SplitRecord). v.found) c.self.view_is ∙ c.in_ok-prepare_all.ensures.ready ∙ sym (ap (λ (v : SplitRecord). length v.record_now.fields) c.self.view_is) in
    let vs = values_of here in
    let same : vs ≡ c.args.self.now.record_now.fields =
    ap (λ b. values (line_of b here.text.items r.lent.now) here.ranges.items here.kinds.items) (sym owns)
    ∙ c.in_ok-self-inside.ensures.fields
    ∙ found_values r all
    ∙ ap (λ (v : SplitRecord). v.record_now.fields) c.self.view_is
    ∙ ap (λ (v : Record). v.fields) c.in_ok-prepare_all.ensures.same in
    let low : c.args.n ≤ 32767 = omega (arith, c.if-n-gt-GREATEST_FIELD.false) in
    let long : (fault : Fault) → (fault ≡ Length) × (16777216 < length (joined c.args.ofs.now (with_value c.args.n v vs))) → with_field c.args.n v c.args.ofs.now c.args.self.now.record_now ≡ Err fault = λ fault h. field_too_long c.args.n v c.args.ofs.now c.args.self.now.record_now vs fault same low h.0 h.1 in
    rw (p.1, p.2) (fault_map _ _ _ long c.in_err-assign.ensures.fault)

pub returns-in_err-assign-clause-stays : goal.returns-in_err-assign-clause-stays
returns-in_err-assign-clause-stays c =
    let p = err_from_is_err_and c.from_residual-in_err-assign.result c.from_residual-in_err-assign.ensures.1 in
    let r = c.self.inside in
    let own = c.in_ok-self-inside.field-0 in
    let all : length r.here.ranges.items ≡ length (record_of r).fields = ap (λ (v : SplitRecord). v.found) c.self.view_is ∙ c.in_ok-prepare_all.ensures.ready ∙ sym (ap (λ (v : SplitRecord). length v.record_now.fields) c.self.view_is) in
    let same = owned r own c.own.new.self r.splitter c.in_ok-self-inside.ensures.line c.in_ok-self-inside.ensures.fields all ∙ ap (λ (v : SplitRecord). v.record_now) c.self.view_is ∙ c.in_ok-prepare_all.ensures.same in
    let shows : Layout → Type 0 = λ l. record { text = line_of own l.text.items r.lent.now; fields = values (line_of own l.text.items r.lent.now) (l.ranges.items ++ map range_of (left r.splitter (line_of own l.text.items r.lent.now) None)) l.kinds.items } ≡ c.args.self.now.record_now in
    let stays : (fault : Fault) → c.assign.new.self ≡ record c.own.new.self { is_joined = false } → shows c.assign.new.self = λ fault h. subst shows (sym h) same in
    rw (p.1, p.2) (fault_map _ _ _ stays c.in_err-assign.ensures.stays)
