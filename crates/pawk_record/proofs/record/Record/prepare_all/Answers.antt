use Rattle.std.proofs.Common.{◌≡◌, ◌≤◌, ◌∙◌, false, rules, sym, true, length, subst, ap, arith}
use Rattle.std.specs.Option.{ForSome}
use Rattle.std.specs.Prelude.{is_none}
use Rattle.std.proofs.lemmas.Result.{on_ok_weaker}
use Rattle.pawk_record.specs.Records.{SplitRecord}
use Rattle.pawk_record.specs.Lines.{line_of}
use Rattle.pawk_record.specs.Splitting.{IsSplitter}
use Rattle.pawk_record.specs.Views.{text_of}
use Rattle.pawk_record.proofs.ViewLemmas.{counted_still, is_left, none_more, some_left}
use Rattle.pawk_record.proofs.record.Record.prepare_all.Goals as goal

pub returns-clause-ready : goal.returns-clause-ready
returns-clause-ready c = on_ok_weaker c.find_rest.result (λ none. sym (none_more (record c.self.inside { here = record c.self.inside.here { ranges = c.find_rest.new.ranges }; next = c.find_rest.new.next; splitter = c.find_rest.new.self }) none)) c.find_rest.ensures.none

pub returns-clause-more : goal.returns-clause-more
returns-clause-more c = let same = ap (λ (v : SplitRecord). v.found) c.self.view_is in omega (arith, same, c.find_rest.ensures.more)

pub invariant_of-self : goal.invariant_of-self
invariant_of-self c =
    let r = c.self.inside in
    let text : c.line-text.result.now ≡ text_of r = c.line-text.ensures ∙ ap (λ t. line_of r.is_own t r.lent.now) c.as_slice.ensures.value in
    let some : is_none r.next ≡ false = search rules in
    let never : r.here.is_joined ≡ true → ⊥ = λ e. some_left r.next (c.self.invariant.done e) some in
    record {
      splitter = subst IsSplitter (sym c.find_rest.ensures.splitter) c.self.invariant.splitter;
      place = subst (λ t. ForSome c.find_rest.new.next (λ p. p ≤ length t)) text c.find_rest.ensures.within;
      counted = counted_still r c.line-text.result.now c.find_rest.new.ranges.items c.find_rest.new.next c.find_rest.new.self text c.find_rest.ensures.same c.self.invariant.counted;
      joined = λ e. absurd (never e);
      own = c.self.invariant.own;
      done = λ e. absurd (never e);
    }

pub returns-then-is_none-clause-ready : goal.returns-then-is_none-clause-ready
returns-then-is_none-clause-ready c =
    let r = c.self.inside in
    let none : is_none r.next ≡ true = search rules in
    subst (λ (v : SplitRecord). v.found ≡ length v.record_now.fields) c.self.view_is (sym (none_more r (is_left r.next none)))
