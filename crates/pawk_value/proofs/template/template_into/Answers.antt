use Rattle.std.proofs.Common.{List, map, subst}
use Rattle.pawk_value.specs.Value.{lent_value}
use Rattle.pawk_value.specs.Format.{Piece}
use Rattle.pawk_value.specs.FormatViews.{Writes}
use Rattle.pawk_value.proofs.CapLemmas as lemmas
use Rattle.pawk_value.proofs.template.template_into.Goals as goal

pub returns : goal.returns
returns c =
    let values = map lent_value c.args.values.now in
    let P : List Piece → Type 0 = λ ps. Writes {A = Unit {0}} ps values c.push_template.new.out.items c.push_template.result in
    λ format is. lemmas.without_caps (Unit {0}) format values _ _ (subst P is c.push_template.ensures)
