use Rattle.std.proofs.Common.{◌+◌, length, ap, sym, ◌∙◌}
use Rattle.std.specs.List.{count_by}
use Rattle.memchr.specs.Find.{is_byte2}
use Rattle.pawk_fields.specs.Fields.{blank_fields}
use Rattle.pawk_fields.proofs.SplitLemmas.{count_byte_pieces, count_line_pieces, count_words_from}
use Rattle.pawk_fields.proofs.count.count_from.Goals as goal

pub returns-in-Blanks : goal.returns-in-Blanks
returns-in-Blanks c =
    rw (c.in-Blanks.is, c.in-Some.is) (c.count_fields.ensures ∙ ap (λ t. length (blank_fields t)) c.split_at.ensures.back ∙ sym (count_words_from c.args.text.now c.in-Some.place))

pub returns-in-Byte : goal.returns-in-Byte
returns-in-Byte c =
    let b = c.in-Byte.byte in
    rw (c.in-Byte.is, c.in-Some.is) (ap (λ n. n + 1) (c.count_bytes.ensures.value ∙ ap (count_by (is_byte2 b b)) c.split_at.ensures.back) ∙ sym (count_byte_pieces b c.args.text.now c.in-Some.place))

pub returns-in-ByteOrNewline : goal.returns-in-ByteOrNewline
returns-in-ByteOrNewline c =
    let b = c.in-ByteOrNewline.byte in
    rw (c.in-ByteOrNewline.is, c.in-Some.is) (ap (λ n. n + 1) (c.count_bytes-in-ByteOrNewline.ensures.value ∙ ap (count_by (is_byte2 b 10)) c.split_at.ensures.back) ∙ sym (count_line_pieces b c.args.text.now c.in-Some.place))
