use Rattle.std.proofs.Common.{◌≡◌, ◌+◌, ◌∙◌, ap, length, rules}
use Rattle.pawk_record.specs.Lines.{line_of}
use Rattle.pawk_record.specs.Views.{text_of}
use Rattle.pawk_record.proofs.ViewLemmas.{left_counted}
use Rattle.pawk_record.proofs.record.Record.count_anew.Goals as goal

pub invariant_of-self : goal.invariant_of-self
invariant_of-self c =
    let r = c.self.inside in
    let text : c.line-text.result.now ≡ text_of r = c.line-text.ensures ∙ ap (λ t. line_of r.is_own t r.lent.now) c.as_slice.ensures.value in
    let sum : c.in-Some-checked_add.count ≡ c.in-Some.left + length r.here.ranges.items = search rules in
    record {
      splitter = c.self.invariant.splitter;
      place = c.self.invariant.place;
      counted = left_counted r c.line-text.result.now c.in-Some.left c.in-Some-checked_add.count text c.in-Some.ensures sum;
      joined = c.self.invariant.joined;
      own = c.self.invariant.own;
      done = c.self.invariant.done;
    }

pub returns-clause-count : goal.returns-clause-count
returns-clause-count c =
    let r = c.self.inside in
    let text : c.line-text.result.now ≡ text_of r = c.line-text.ensures ∙ ap (λ t. line_of r.is_own t r.lent.now) c.as_slice.ensures.value in
    let sum : c.in-Some-checked_add.count ≡ c.in-Some.left + length r.here.ranges.items = search rules in
    left_counted r c.line-text.result.now c.in-Some.left c.in-Some-checked_add.count text c.in-Some.ensures sum
