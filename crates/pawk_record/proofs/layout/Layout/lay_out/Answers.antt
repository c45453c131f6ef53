use Rattle.std.proofs.Common.{◌≡◌, ◌∙◌, ◌+◌, ◌<◌, arith, ap, length, subst, List, ℕ}
use Rattle.std.proofs.lemmas.Result.{err_from_is_err_and}
use Rattle.pawk_value.specs.Conversion.{text_of}
use Rattle.pawk_value.specs.Value.{lent_value}
use Rattle.pawk_value.specs.declared.faults.Fault.{Fault}
use Rattle.pawk_value.specs.declared.faults.Fault.TheVariants.{Length}
use Rattle.pawk_record.specs.Lines.{Adds, before_at, values}
use Rattle.pawk_record.specs.Records.{joined, with_value}
use Rattle.pawk_record.proofs.LaidLemmas.{laid_end, laid_more, laid_short, laid_start}
use Rattle.pawk_record.proofs.LineLemmas.{length-values, length-with_value}
use Rattle.pawk_record.proofs.SplittingLemmas.{fault_map}
use Rattle.pawk_record.proofs.layout.Layout.lay_out.Goals as goal

pub loop-number-init : goal.loop-number-init
loop-number-init c = record {
  laid = laid_start _ _ c.clear.new.self c.clear.ensures.text c.clear.ensures.ranges c.clear.ensures.kinds;
  short = let none : length c.clear.new.self.text.items ≡ 0 = ap length c.clear.ensures.text in omega arith;
}

pub returns-in_err-push-clause-fault : goal.returns-in_err-push-clause-fault
returns-in_err-push-clause-fault c =
    let p = err_from_is_err_and c.from_residual.result c.from_residual.ensures.1 in
    let f = c.args.fields in
    let vs = with_value c.args.change.n (lent_value c.args.change.value) (values f.text.now f.ranges.now f.kinds.now) in
    let short = laid_short c.args.ofs.now vs c.loop-number.number (lent_value c.value_after.result) c.loop-number.self c.value_after.ensures c.loop-number.invariant.laid in
    let same : length c.before_at.result.now ≡ length (before_at c.loop-number.number c.args.ofs.now) = ap length c.before_at.ensures in
    let longer : (fault : Fault) → (fault ≡ Length) × (16777216 < length c.loop-number.self.text.items + (length c.before_at.result.now + length (text_of (lent_value c.value_after.result)))) → (fault ≡ Length) × (16777216 < length (joined c.args.ofs.now vs)) = λ fault h. (h.0, omega (arith, h.1, short, same)) in
    rw (p.1, p.2) (fault_map _ _ _ longer c.in_err-push.ensures.fault)

pub loop-number-preserved : goal.loop-number-preserved
loop-number-preserved c =
    let added = subst (λ (b : List ℕ). Adds b (lent_value c.value_after.result) c.loop-number.self c.push.new.self) c.before_at.ensures c.in_ok-push.ensures.added in
    record {
      laid = laid_more _ _ c.loop-number.number (lent_value c.value_after.result) c.loop-number.self c.push.new.self c.value_after.ensures c.loop-number.invariant.laid added;
      short = c.in_ok-push.ensures.short;
    }

pub returns-clause-line : goal.returns-clause-line
returns-clause-line c =
    let f = c.args.fields in
    let found = values f.text.now f.ranges.now f.kinds.now in
    let long = length-with_value c.args.change.n (lent_value c.args.change.value) found in
    let many = length-values f.text.now f.ranges.now f.kinds.now in
    let l = laid_end _ _ c.loop-number.number c.loop-number.self (omega (arith, long, many)) c.loop-number.invariant.laid in
    record { text = c.set_joined.ensures.text ∙ l.text; ranges = c.set_joined.ensures.ranges ∙ l.ranges; kinds = c.set_joined.ensures.kinds ∙ l.kinds }
