use Rattle.std.proofs.Common.{◌<◌, List, length, take, get_or, set, sym, ◌∙◌, subst, arith}
use Rattle.std.proofs.lemmas.List.{length-set, take_all, take_more}
use Rattle.std.proofs.lemmas.List.Elements.{All-get_or}
use Rattle.pawk_workers.specs.Counting.{Numbered, EntersMore}
use Rattle.pawk_workers.proofs.CountLemmas.{enters_next}
use Rattle.pawk_workers.proofs.gathering.enter_counts.Goals as goal

pub loop-number-preserved : goal.loop-number-preserved
loop-number-preserved c =
    let before = c.args.counts.now in
    let counts = c.loop-number.counts in
    let all = c.args.numbered.now in
    let i = c.loop-number.number-index in
    let r : Numbered = get_or all i (0, 0) in
    let lt : i < length all = omega arith in
    let small : r.0 < length before = All-get_or (λ (x : Numbered). x.0 < length before) all i (0, 0) lt c.requires.within in
    let len = c.loop-number.invariant.len in
    record {
      len = length-set counts r.0 r.1 ∙ len;
      entered = subst (λ (l : List Numbered). EntersMore l before (set counts r.0 r.1)) (sym (take_more all i (0, 0) lt)) (enters_next (take i all) r before counts (omega (arith, len)) c.loop-number.invariant.entered);
    }

pub returns-clause-entered : goal.returns-clause-entered
returns-clause-entered c =
    let all = c.args.numbered.now in
    let i = c.loop-number.number-index in
    subst (λ (l : List Numbered). EntersMore l c.args.counts.now c.loop-number.counts) (take_all i all (omega arith)) c.loop-number.invariant.entered
