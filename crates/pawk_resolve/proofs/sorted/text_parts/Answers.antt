use Rattle.std.proofs.Common.{ap, ◌∙◌, sym}
use Rattle.pawk_code.specs.Expressions.{textual}
use Rattle.pawk_code.specs.ExpressionViews.{textual_view}
use Rattle.pawk_resolve.specs.Sorted.{parts_of}
use Rattle.pawk_resolve.proofs.Joins.{parts-Join}
use Rattle.pawk_resolve.proofs.sorted.text_parts.Goals as goal

pub returns-in-Join : goal.returns-in-Join
returns-in-Join c = parts-Join c.in-Join.parts ∙ sym (ap (λ t. parts_of (textual (textual_view t))) c.in-Join.is)
