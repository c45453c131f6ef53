use Rattle.pawk_runtime.proofs.ElementShapes.{element_shape}
use Rattle.pawk_eval.proofs.places.element_parts.Goals as goal

pub returns-in-Element : goal.returns-in-Element
returns-in-Element c = element_shape c.args.place.now c.in-Element.array c.in-Element.keys c.as_slice.result.now c.in-Element.is c.as_slice.ensures.value
