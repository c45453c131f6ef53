-- Programs of the code as the programs that they are.
use Rattle.std.specs.Prelude.{map}
use Rattle.std.specs.declared.vec.Vec.{Vec}
use Rattle.std.specs.declared.alloc.Global.{Global}
use Rattle.pawk_code.specs.declared.program.Selector.{Selector as CodeSelector}
use Rattle.pawk_code.specs.declared.program.Selector.TheVariants as code_selector
use Rattle.pawk_code.specs.declared.program.Rule.{Rule as CodeRule}
use Rattle.pawk_code.specs.declared.program.Function.{Function as CodeFunction}
use Rattle.pawk_code.specs.declared.program.Code.{Code as CodeCode}
use Rattle.pawk_code.specs.declared.statement.Statement.{Statement}
use Rattle.pawk_code.specs.ExpressionViews.{view}
use Rattle.pawk_code.specs.Statements.{Stmts}
use Rattle.pawk_code.specs.StatementViews.{seen}
use Rattle.pawk_code.specs.Programs.{Selector, always, matching, between, Rule, Function, Code}

abbrev pub selector_view : CodeSelector → Selector
selector_view code_selector.Always = always
selector_view (code_selector.When e) = matching (view e)
selector_view (code_selector.Range e f) = between (view e) (view f)

abbrev pub rule_view : CodeRule → Rule
rule_view r = record { selector = selector_view r.selector; body = seen r.body.items }

abbrev pub function_view : CodeFunction → Function
function_view f = record { kinds = f.kinds.items; body = seen f.body.items }

abbrev pub body_view : Vec Statement Global → Stmts
body_view v = seen v.items

abbrev pub code_view : CodeCode → Code
code_view c = record {
  begins = map body_view c.begins.items;
  rules = map rule_view c.rules.items;
  ends = map body_view c.ends.items;
  functions = map function_view c.functions.items;
  scalars = map (λ x. x.items) c.scalars.items;
  arrays = map (λ x. x.items) c.arrays.items;
  expressions = map (λ x. x.items) c.expressions.items;
}
