use Rattle.std.proofs.Common.{◌≡◌, ◌<◌, length, ap, sym, ◌∙◌, rules, tests, arith}
use Rattle.std.proofs.lemmas.List.{nil_from_length}
use Rattle.std.specs.List.{prefix_len}
use Rattle.memchr.specs.Find.{is_byte}
use Rattle.pawk_records.specs.Records.{newline, paragraphs}
use Rattle.pawk_records.proofs.ParagraphLemmas.{paragraphs_past_newlines, no_newlines_left, first_paragraph, some_length}
use Rattle.pawk_records.proofs.paragraphs.split_paragraph.Goals as goal

pub returns-then-is_empty-clause-cut : goal.returns-then-is_empty-clause-cut
returns-then-is_empty-clause-cut c =
    let s = c.args.text.now in
    let rest = c.split_at.result.1.now in
    let none : length rest ≡ 0 = search (rules, tests) in
    let past : paragraphs rest ≡ paragraphs s = rw (c.split_at.ensures.back, c.newline_length.ensures.value) (paragraphs_past_newlines s) in
    sym past ∙ ap paragraphs (nil_from_length rest none)

pub returns-clause-cut : goal.returns-clause-cut
returns-clause-cut c =
    let s = c.args.text.now in
    let rest = c.split_at.result.1.now in
    let some : 0 < length rest = search (rules, tests) in
    let front : prefix_len (is_byte newline) rest ≡ 0 = rw (c.split_at.ensures.back, c.newline_length.ensures.value) (no_newlines_left s) in
    let past : paragraphs rest ≡ paragraphs s = rw (c.split_at.ensures.back, c.newline_length.ensures.value) (paragraphs_past_newlines s) in
    sym past ∙ rw (c.split_at-2.ensures.front, c.split_at-2.ensures.back, c.paragraph_length.ensures.value) (first_paragraph rest front some)

pub returns-clause-less : goal.returns-clause-less
returns-clause-less c =
    let s = c.args.text.now in
    let rest = c.split_at.result.1.now in
    let some : 0 < length rest = search (rules, tests) in
    let front : prefix_len (is_byte newline) rest ≡ 0 = rw (c.split_at.ensures.back, c.newline_length.ensures.value) (no_newlines_left s) in
    omega (arith, some_length rest front some, c.paragraph_length.ensures.value, c.split_at-2.ensures.back_len, c.split_at.ensures.back_len)
