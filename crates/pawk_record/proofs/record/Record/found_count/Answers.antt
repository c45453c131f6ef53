use Rattle.std.proofs.Common.{◌≡◌, length, subst, sym, arith}
use Rattle.pawk_record.specs.Records.{SplitRecord}
use Rattle.pawk_record.proofs.ViewLemmas.{none_more}
use Rattle.pawk_record.proofs.record.Record.found_count.Goals as goal

pub returns-in-None : goal.returns-in-None
returns-in-None c =
    let r = c.self.inside in
    let all : length r.here.ranges.items ≡ length c.args.self.now.record_now.fields =
    subst (λ (v : SplitRecord). length r.here.ranges.items ≡ length v.record_now.fields) c.self.view_is (sym (none_more r c.in-None.is)) in
    omega (arith, all, r.here.ranges.ok.0)
