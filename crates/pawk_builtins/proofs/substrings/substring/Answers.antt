use Rattle.std.proofs.Common.{arith, length, ap, ◌∙◌, ◌≡◌, ◌+ℤ◌}
use Rattle.std.proofs.lemmas.Int.{ints}
use mir.Syntax.{w128}
use mir.Val.{to_z, of_z}
use Rattle.pawk_builtins.specs.PlaceViews.{before}
use Rattle.pawk_builtins.proofs.PlaceLemmas.{substring_is, substring_none}
use Rattle.pawk_builtins.proofs.substrings.substring.Goals as goal

pub returns-then-begin-end : goal.returns-then-begin-end
returns-then-begin-end c =
    let s = c.args.text.now in
    let e : to_z w128 (of_z w128 c.from.result) ≡ c.args.from = omega (arith, ints) in
    let f : to_z w128 (of_z w128 (to_z w128 (of_z w128 c.from-2.result) +ℤ to_z w128 (of_z w128 c.from-3.result))) ≡ c.args.from +ℤ c.args.count = omega (arith, ints) in
    substring_is s c.args.from c.args.count c.count_before-begin.result c.count_before-end.result
    (c.count_before-begin.ensures ∙ ap (λ z. before z (length s)) e)
    (c.count_before-end.ensures ∙ ap (λ z. before z (length s)) f) c.if-begin-end.true

pub returns-else-begin-end : goal.returns-else-begin-end
returns-else-begin-end c =
    let s = c.args.text.now in
    let e : to_z w128 (of_z w128 c.from.result) ≡ c.args.from = omega (arith, ints) in
    let f : to_z w128 (of_z w128 (to_z w128 (of_z w128 c.from-2.result) +ℤ to_z w128 (of_z w128 c.from-3.result))) ≡ c.args.from +ℤ c.args.count = omega (arith, ints) in
    substring_none s c.args.from c.args.count c.count_before-begin.result c.count_before-end.result
    (c.count_before-begin.ensures ∙ ap (λ z. before z (length s)) e)
    (c.count_before-end.ensures ∙ ap (λ z. before z (length s)) f) c.if-begin-end.false
