use Rattle.std.proofs.Common.{arith, length, ap, ◌∙◌, ◌≡◌}
use Rattle.std.proofs.lemmas.Int.{ints}
use mir.Syntax.{w128}
use mir.Val.{to_z, of_z}
use Rattle.pawk_builtins.specs.PlaceViews.{before}
use Rattle.pawk_builtins.proofs.PlaceLemmas.{suffix_is}
use Rattle.pawk_builtins.proofs.substrings.suffix.Goals as goal

pub returns : goal.returns
returns c =
    let s = c.args.text.now in
    let e : to_z w128 (of_z w128 c.from.result) ≡ c.args.from = omega (arith, ints) in
    suffix_is s c.args.from c.count_before.result (c.count_before.ensures ∙ ap (λ z. before z (length s)) e)
