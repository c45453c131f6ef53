use Rattle.std.proofs.Common.{ap, ◌∙◌}
use Rattle.pawk_code.specs.Expressions.{to_element}
use Rattle.pawk_runtime.proofs.ElementShapes.{element_shape}
use Rattle.pawk_runtime.proofs.shapes.numeric_element.Goals as goal

pub returns : goal.returns
returns c =
    let is = element_shape c.args.place.now c.in-Element.array c.in-Element.keys c.deref.result.now c.in-Element.is c.deref.ensures.value in
    is ∙ ap (to_element c.in-Element.array) c.in_ok-only.ensures
