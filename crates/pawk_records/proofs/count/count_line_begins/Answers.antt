use Rattle.std.proofs.Common.{◌+◌, ◌∷◌, [], length, ap, sym, ◌∙◌, arith}
use Rattle.pawk_records.specs.Begins.{begins_within}
use Rattle.pawk_records.proofs.CountLemmas.{count_from_start, count_from_later}
use Rattle.pawk_records.proofs.count.count_line_begins.Goals as goal

pub returns-then-start-eq0 : goal.returns-then-start-eq0
returns-then-start-eq0 c =
    let rs = c.args.separator ∷ [] in
    ap (λ n. 1 + n) c.count_byte.ensures
    ∙ sym (count_from_start c.args.separator c.args.bytes.now c.args.end (omega arith) c.requires.within)
    ∙ ap (λ p. length (begins_within rs c.args.bytes.now p c.args.end)) (sym c.if-start-eq0.true)

pub returns : goal.returns
returns c =
    c.count_byte-2.ensures
    ∙ sym (count_from_later c.args.separator c.args.bytes.now c.args.start c.args.end (omega arith) c.requires.rising c.requires.within)
