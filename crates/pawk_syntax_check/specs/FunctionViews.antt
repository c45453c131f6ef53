-- Functions of the code, without their places.
use Rattle.std.specs.Prelude.{ℕ, List, Option}
use Rattle.std.specs.Option.{option_map}
use Rattle.std.specs.Ordering.{nat_cmp}
use Rattle.std.specs.Cmp.Lexicographic.{slice_cmp}
use Rattle.std.specs.BTreeMap.{get_by}
use Rattle.pawk_lex.specs.Bytes.{Text}
use Rattle.pawk_syntax_tree.specs.Item.{texts}
use Rattle.pawk_syntax_check.specs.declared.functions.FunctionHead.{FunctionHead}
use Rattle.pawk_syntax_check.specs.declared.functions.Functions.{Functions}

abbrev pub function_view : FunctionHead → ℕ × List Text
function_view f = (f.scope, texts f.parameters.now)

-- the function that is found under a name
abbrev pub function_under : Functions → Text → Option (ℕ × List Text)
function_under fs x = option_map function_view (get_by (λ k. slice_cmp nat_cmp x k.now) fs.map)
