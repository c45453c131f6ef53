use Rattle.std.proofs.Common.{◌≡◌, ◌+◌, [], ◌∷◌, length, drop, ap, ◌∙◌, arith}
use Rattle.std.proofs.lemmas.List.{drop-drop, length-drop}
use Rattle.pawk_fields.specs.Splits.{separates, pieces_from}
use Rattle.pawk_fields.proofs.SplitLemmas.{piece_to, last_piece}
use Rattle.pawk_fields.proofs.separator.next_piece.Goals as goal

pub returns-in-Some-clause-step : goal.returns-in-Some-clause-step
returns-in-Some-clause-step c =
    let test = separates c.args.byte c.args.paragraph in
    let s = c.args.text.now in
    let from = c.args.from in
    let i = c.in-Some.length in
    let first = rw c.split_at.ensures.back at c.in-Some.ensures in
    let e : from + (i + 1) ≡ from + i + 1 = omega arith in
    piece_to test (drop from s) from from i first.0 first.1
    ∙ ap (λ l. (from, from + i) ∷ pieces_from test (from + i + 1) (from + i + 1) l) (drop-drop (i + 1) from s ∙ ap (λ k. drop k s) e)

pub returns-in-None-clause-step : goal.returns-in-None-clause-step
returns-in-None-clause-step c =
    let test = separates c.args.byte c.args.paragraph in
    let s = c.args.text.now in
    let from = c.args.from in
    let none = rw c.split_at.ensures.back at c.in-None.ensures in
    let e : from + length (drop from s) ≡ length s = omega (arith, length-drop from s) in
    last_piece test (drop from s) from from none ∙ ap (λ p. (from, p) ∷ []) e
