use Rattle.std.proofs.Common.{◌+◌, rules, arith, sym}
use Rattle.std.proofs.lemmas.List.{length-take-le, take_rest}
use Rattle.pawk_records.proofs.LineEndsLemmas.{end_within, ends_left, first_near, line_cut, lowest}
use Rattle.pawk_records.proofs.line_ends.LineEnds.cut_line.Goals as goal

pub overflow_sub-self : goal.overflow_sub-self
overflow_sub-self c =
    first_near c.args.separator c.args.text.now c.args.from c.args.self.now c.requires.within c.requires.none c.requires.ends c.requires.some

pub slice_bounds-result-end : goal.slice_bounds-result-end
slice_bounds-result-end c =
    let within = end_within c.args.separator c.args.text.now c.args.from c.args.self.now c.requires.within c.requires.none c.requires.ends c.requires.some in
    sym (length-take-le (c.args.from + lowest c.args.self.now.bits) c.args.text.now (omega (arith, within)))

pub slice_bounds-result-count : goal.slice_bounds-result-count
slice_bounds-result-count c =
    end_within c.args.separator c.args.text.now c.args.from c.args.self.now c.requires.within c.requires.none c.requires.ends c.requires.some

pub slice_bounds-result-start : goal.slice_bounds-result-start
slice_bounds-result-start c =
    let within = end_within c.args.separator c.args.text.now c.args.from c.args.self.now c.requires.within c.requires.none c.requires.ends c.requires.some in
    search rules

pub returns-clause-cut : goal.returns-clause-cut
returns-clause-cut c =
    rw take_rest (line_cut c.args.separator c.args.text.now c.args.from c.args.self.now c.requires.within c.requires.none c.requires.ends c.requires.some)

pub returns-clause-ends : goal.returns-clause-ends
returns-clause-ends c =
    rw take_rest (ends_left c.args.separator c.args.text.now c.args.from c.args.self.now c.requires.within c.requires.none c.requires.ends c.requires.some)
