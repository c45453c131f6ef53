use Rattle.std.proofs.Common.{◌+◌, [], ◌∷◌, length, refl, subst, sym}
use Rattle.pawk_fields.proofs.BetweenLemmas.{match_separates, newline_separates, end_separates, field_before, only_before, field_last, only_last, next_after}
use Rattle.pawk_fields.specs.Between.{AreBetween}
use Rattle.pawk_fields.proofs.cut.cut_at.Goals as goal

pub returns-in-Some-clause-cut : goal.returns-in-Some-clause-cut
returns-in-Some-clause-cut c = λ pattern n.
    let s = c.args.text.now in
    let stop = c.match_start-stop.result in
    let i = c.in-Some.newline in
    let first = c.in-Some.ensures.0 in
    let separator = newline_separates pattern s c.args.paragraph c.args.from c.args.found stop i n c.match_start-stop.ensures first c.in-Some.ensures.1 in
    record {
      field = field_before pattern s c.args.paragraph c.args.from i (i + 1) separator;
      only = only_before pattern s c.args.paragraph c.args.from i (i + 1) separator;
      known = next_after pattern s c.args.paragraph c.args.from c.args.found stop i n c.match_start-stop.ensures first.low first.high;
    }

pub returns-in-Some-found-clause-cut : goal.returns-in-Some-found-clause-cut
returns-in-Some-found-clause-cut c = λ pattern n.
    let s = c.args.text.now in
    let i = c.in-Some-found.start in
    let j = c.in-Some-found.end in
    let next = rw c.in-Some-found.is at n in
    let stop = rw c.in-Some-found.is at c.match_start-stop.ensures in
    let none = rw stop at c.in_default.ensures in
    let separator = match_separates pattern s c.args.paragraph c.args.from i j next none in
    record {
      field = field_before pattern s c.args.paragraph c.args.from i j separator;
      only = only_before pattern s c.args.paragraph c.args.from i j separator;
      known = tt;
    }

pub returns-in-None-clause-cut : goal.returns-in-None-clause-cut
returns-in-None-clause-cut c = λ pattern n.
    let s = c.args.text.now in
    let next = rw c.in-None.is at n in
    let stop = rw c.in-None.is at c.match_start-stop.ensures in
    let none = rw stop at c.in_default.ensures in
    let last = end_separates pattern s c.args.paragraph c.args.from next none in
    record {
      field = λ fields is. subst (λ l. AreBetween pattern c.args.paragraph s c.args.from ((c.args.from, length s) ∷ l)) (sym is) (field_last pattern s c.args.paragraph c.args.from last);
      only = λ fields b. ([], only_last pattern s c.args.paragraph c.args.from last fields b, refl);
      known = tt;
    }
