use Rattle.std.proofs.Common.{◌+◌, ◌-◌, ap, ◌∙◌, arith}
use Rattle.pawk_records.specs.Begins.{begins_at}
use Rattle.pawk_records.specs.Separator.{rs_of}
use Rattle.pawk_records.proofs.PlaceLemmas.{length-places_where}
use Rattle.pawk_records.specs.Blocks.{joined}
use Rattle.pawk_input.proofs.SizeLemmas.{part_begins}
use Rattle.pawk_input.proofs.draft.Draft.add_part.Goals as goal

pub overflow_add-result : goal.overflow_add-result
overflow_add-result c =
    let few = length-places_where (begins_at (rs_of c.args.separator) (joined c.args.blocks.now)) c.args.range.start (c.args.range.end - c.args.range.start) in
    omega (arith, few, c.count_begins-count.ensures)

pub returns-clause-counted : goal.returns-clause-counted
returns-clause-counted c =
    ap (λ n. c.args.fnr + n) (c.count_begins-count.ensures ∙ part_begins (rs_of c.args.separator) (joined c.args.blocks.now) c.args.range.start c.args.range.end c.requires.begins c.requires.rising c.requires.within)
