use Rattle.std.proofs.Common.{sym, ap, ◌∙◌, ◌∷◌}
use Rattle.pawk_value.specs.Format.{Percent, Malformed}
use Rattle.pawk_value.specs.FormatViews.{cap_pieces_of}
use Rattle.pawk_value.proofs.FormatLemmas.{shorter_directive}
use Rattle.pawk_value.proofs.PieceLemmas as lemmas
use Rattle.pawk_value.proofs.pieces.place_in_front.Goals as goal

pub returns-then-begins_with_percent-clause-pieces : goal.returns-then-begins_with_percent-clause-pieces
returns-then-begins_with_percent-clause-pieces c =
    lemmas.front_percent c.args.text.now (sym c.begins_with_percent.ensures ∙ c.if-begins_with_percent.true)
    ∙ ap (λ l. Percent ∷ cap_pieces_of l) (sym c.past_byte.ensures)

pub returns-in-None-clause-pieces : goal.returns-in-None-clause-pieces
returns-in-None-clause-pieces c =
    lemmas.front_malformed c.args.text.now (sym c.begins_with_percent.ensures ∙ c.if-begins_with_percent.false) (sym c.in-None.ensures.form)
    ∙ ap (λ l. Malformed ∷ l) (sym lemmas.no_pieces_left)

pub returns-in-Some-clause-pieces : goal.returns-in-Some-clause-pieces
returns-in-Some-clause-pieces c =
    rw (c.in-Some.ensures.directive, c.in-Some.ensures.rest) (lemmas.front_place c.args.text.now (sym c.begins_with_percent.ensures ∙ c.if-begins_with_percent.false) (sym c.in-Some.ensures.form))

pub returns-in-Some-clause-shorter : goal.returns-in-Some-clause-shorter
returns-in-Some-clause-shorter c = rw c.in-Some.ensures.rest (shorter_directive c.args.text.now)
