use Rattle.std.proofs.Common.{◌≡◌, ◌≤◌, length, subst, arith}
use Rattle.pawk_record.specs.Records.{SplitRecord}
use Rattle.pawk_record.proofs.ViewLemmas.{count_found}
use Rattle.pawk_record.proofs.record.Record.prepared_count.Goals as goal

pub returns : goal.returns
returns c =
    let r = c.self.inside in
    let all : length r.here.ranges.items ≡ length c.args.self.now.record_now.fields =
    subst (λ (v : SplitRecord). length v.record_now.fields ≤ v.found → length r.here.ranges.items ≡ length v.record_now.fields) c.self.view_is (count_found r) c.requires in
    omega (arith, all, r.here.ranges.ok.0)
