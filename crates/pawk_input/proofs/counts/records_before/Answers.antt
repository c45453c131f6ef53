use Rattle.std.proofs.Common.{◌≡◌, ◌+◌, ◌≤◌, ◌∷◌, length, take, sym, ◌∙◌, arith}
use Rattle.std.proofs.lemmas.List.{length-take-le}
use Rattle.pawk_records.specs.Separator.{rs_of}
use Rattle.pawk_records.specs.Blocks.{joined}
use Rattle.pawk_records.proofs.BeginsLemmas.{length-records_by}
use Rattle.pawk_input.specs.Counts.{counts_left}
use Rattle.pawk_input.proofs.CountLemmas.{count_step, later_step, few_counted, count_between}
use Rattle.pawk_input.proofs.counts.records_before.Goals as goal

pub overflow_add-passed-in-loop-passed : goal.overflow_add-passed-in-loop-passed
overflow_add-passed-in-loop-passed c =
    let rs = rs_of c.args.separator in
    let s = joined c.args.blocks.now in
    let block = c.args.block in
    let p = c.loop-passed.passed in
    let there : p.edge + block ≤ length s = omega arith in
    let left : counts_left rs block s p.edge ≡ c.in-Some.first.now ∷ c.in-Some.later.now = sym c.loop-passed.invariant.left ∙ c.in-Some.ensures.cases.0 in
    let count = count_step rs block c.requires.some s p.edge p.count c.in-Some.first.now c.in-Some.later.now there c.loop-passed.invariant.count left in
    let few = few_counted rs block c.requires.some s (p.edge + block) (p.count + c.in-Some.first.now) count in
    omega (arith, few, there)

pub loop-passed-preserved : goal.loop-passed-preserved
loop-passed-preserved c =
    let rs = rs_of c.args.separator in
    let s = joined c.args.blocks.now in
    let block = c.args.block in
    let p = c.loop-passed.passed in
    let there : p.edge + block ≤ length s = omega arith in
    let left : counts_left rs block s p.edge ≡ c.in-Some.first.now ∷ c.in-Some.later.now = sym c.loop-passed.invariant.left ∙ c.in-Some.ensures.cases.0 in
    record {
      low = omega arith;
      count = count_step rs block c.requires.some s p.edge p.count c.in-Some.first.now c.in-Some.later.now there c.loop-passed.invariant.count left;
      left = later_step rs block c.requires.some s p.edge c.in-Some.first.now c.in-Some.later.now (omega arith) left;
    }

pub overflow_add-result : goal.overflow_add-result
overflow_add-result c =
    let rs = rs_of c.args.separator in
    let s = joined c.args.blocks.now in
    let p = c.loop-passed.passed in
    let whole = count_between rs c.args.block c.requires.some s p.edge c.args.place p.count c.count_begins-more.result c.loop-passed.invariant.low c.requires.within c.loop-passed.invariant.count c.count_begins-more.ensures in
    omega (arith, whole, length-records_by rs (take c.args.place s), length-take-le c.args.place s c.requires.within)

pub returns-clause-count : goal.returns-clause-count
returns-clause-count c =
    let rs = rs_of c.args.separator in
    let s = joined c.args.blocks.now in
    let p = c.loop-passed.passed in
    count_between rs c.args.block c.requires.some s p.edge c.args.place p.count c.count_begins-more.result c.loop-passed.invariant.low c.requires.within c.loop-passed.invariant.count c.count_begins-more.ensures
