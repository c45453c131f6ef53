use Rattle.std.proofs.Common.{◌+◌, ◌<◌, ◌∷◌, None, drop, refl, sym, ap, ◌∙◌, arith}
use Rattle.std.specs.List.{prefix_len}
use Rattle.pawk_value.specs.Bytes.{is_blank}
use Rattle.pawk_fields.specs.Fields.{is_not_blank}
use Rattle.pawk_fields.specs.Splits.{words_from}
use Rattle.pawk_fields.proofs.EndLanes.{within}
use Rattle.pawk_fields.proofs.SplitLemmas.{no_word_at, word_at, word_up}
use Rattle.pawk_fields.proofs.separator.next_word.Goals as goal

pub returns-then-start-text-clause-step : goal.returns-then-start-text-clause-step
returns-then-start-text-clause-step c =
    let s = c.args.text.now in
    let from = c.args.from in
    no_word_at s from c.blank_length.result (c.blank_length.ensures.value ∙ ap (prefix_len is_blank) c.split_at.ensures.back) (omega arith)

pub returns-clause-step : goal.returns-clause-step
returns-clause-step c =
    let s = c.args.text.now in
    let from = c.args.from in
    let n = c.blank_length.result in
    let word = prefix_len is_not_blank (drop (from + n) s) in
    word_at s from n (c.blank_length.ensures.value ∙ ap (prefix_len is_blank) c.split_at.ensures.back) (omega arith) word refl
    ∙ ap (λ end. (from + n, end) ∷ words_from None end (drop end s)) (sym c.word_end-end.ensures)

pub returns-clause-within : goal.returns-clause-within
returns-clause-within c =
    let s = c.args.text.now in
    let from = c.args.from in
    let n = c.blank_length.result in
    let word = prefix_len is_not_blank (drop (from + n) s) in
    let up : 0 < word = word_up s from n (c.blank_length.ensures.value ∙ ap (prefix_len is_blank) c.split_at.ensures.back) (omega arith) word refl in
    let end = c.word_end-end.ensures in
    (omega arith, omega (arith, end, up), omega (arith, end, within s (from + n) (omega arith)))
