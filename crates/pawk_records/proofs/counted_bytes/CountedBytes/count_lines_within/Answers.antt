use Rattle.std.proofs.Common.{◌≡◌, ◌+◌, ◌-◌, ◌∷◌, [], length, take, ap, sym, ◌∙◌, arith}
use Rattle.std.specs.List.{count_by}
use Rattle.memchr.specs.Find.{is_byte}
use Rattle.pawk_records.specs.Records.{newline}
use Rattle.pawk_records.specs.Begins.{begins_within}
use Rattle.pawk_records.proofs.CountLemmas.{count_from_start, count_from_later}
use Rattle.pawk_records.proofs.counted_bytes.CountedBytes.count_lines_within.Goals as goal

pub returns-then-start-eq0 : goal.returns-then-start-eq0
returns-then-start-eq0 c =
    let rs = newline ∷ [] in
    let n : c.args.end - 1 - 0 ≡ c.args.end - 1 = omega arith in
    ap (λ n. 1 + n) (c.count_newlines_within.ensures ∙ ap (λ n. count_by (is_byte newline) (take n c.args.self.now)) n)
    ∙ sym (count_from_start newline c.args.self.now c.args.end (omega arith) c.requires.within)
    ∙ ap (λ p. length (begins_within rs c.args.self.now p c.args.end)) (sym c.if-start-eq0.true)

pub returns : goal.returns
returns c =
    c.count_newlines_within-2.ensures
    ∙ sym (count_from_later newline c.args.self.now c.args.start c.args.end (omega arith) c.requires.rising c.requires.within)
