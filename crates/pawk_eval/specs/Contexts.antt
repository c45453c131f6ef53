-- What a part of a run looks at, as the definitions see it.
use Rattle.std.specs.Prelude.{ℕ, List, map, Option}
use Rattle.std.specs.Option.{option_map, option_copied}
use Rattle.std.specs.Borrow.{Bor}
use Rattle.pawk_value.specs.Value.{Val}
use Rattle.pawk_world.specs.Worlds.{Calls}
use Rattle.pawk_code.specs.declared.expression.Expr.{Expr as CodeExpr}
use Rattle.pawk_code.specs.declared.statement.Simple.{Simple as CodeSimple}
use Rattle.pawk_code.specs.Expressions.{Expr, Numeric, replace}
use Rattle.pawk_code.specs.ExpressionViews.{view, pattern_view, place_view}
use Rattle.pawk_code.specs.Statements.{Simple}
use Rattle.pawk_code.specs.StatementViews.{simple_view}
use Rattle.pawk_code.specs.Programs.{Function}
use Rattle.pawk_code.specs.ProgramViews.{function_view}
use Rattle.pawk_builtins.specs.ExpressionViews.{texts_of}
use Rattle.pawk_store.specs.Parts.{Hold, Part}
use Rattle.pawk_store.specs.Meaning.{call_at}
use Rattle.pawk_eval.specs.declared.context.Context.{Context}
use Rattle.pawk_eval.specs.declared.layer.Layer.{Layer}
use Rattle.pawk_eval.specs.declared.replacement.Replacement.{Replacement}

-- the functions of the program
abbrev pub functions_of : Context → List Function
functions_of context = map function_view context.code.now.functions.items

-- what is between the slashes of the program
abbrev pub eres_of : Context → List (List ℕ)
eres_of context = texts_of context.code.now.expressions.items

-- what is between the slashes of the program, and the call of a function, where as many more may be nested as the layer has
abbrev pub eres_in : Layer → List (List ℕ)
eres_in layer = eres_of layer.context

abbrev pub enter_in : {S : Type 0} → Calls S → Layer → ℕ → List Hold → Part S Val
enter_in calls layer = call_at calls (eres_of layer.context) (functions_of layer.context) layer.depth

-- an expression and a statement that may be missing
abbrev pub test_view : Option (Bor CodeExpr) → Option Expr
test_view test = option_map view (option_copied test)

abbrev pub last_view : Option (Bor CodeSimple) → Option Simple
last_view last = option_map simple_view (option_copied last)

-- `sub` and `gsub`, by their operands
abbrev pub replacement_view : Replacement → Numeric
replacement_view r = replace r.count (pattern_view r.pattern.now) (view r.text.now) (place_view r.place.now)
