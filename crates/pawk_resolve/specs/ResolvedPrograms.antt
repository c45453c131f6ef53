-- The code of a program (POSIX.1-2017, awk, "Overall Program Structure").
use Rattle.std.specs.Prelude.{ℕ, suc, Bool, not, ◌&&◌, if◌then◌else◌, List, [], ◌∷◌, ◌++◌, map, filter}
use Rattle.std.specs.List.{flat_map}
use Rattle.pawk_lex.specs.Bytes.{Text}
use Rattle.pawk_lex.specs.Vocabulary.{is_among, is_run_variable}
use Rattle.pawk_syntax_tree.specs.Item.{Part}
use Rattle.pawk_syntax_tree.specs.Item as item
use Rattle.pawk_syntax_tree.specs.Statement.{Stmts as TreeStmts}
use Rattle.pawk_syntax_check.specs.Mentions.{Mention, array, scalar, target, argument, of_part}
use Rattle.pawk_syntax_check.specs.Demands.{Kinds}
use Rattle.pawk_code.specs.declared.program.ParameterKind.{ParameterKind}
use Rattle.pawk_code.specs.declared.program.ParameterKind.TheVariants as kind
use Rattle.pawk_code.specs.FirstSlots.{first_scalars}
use Rattle.pawk_code.specs.Statements.{Stmts}
use Rattle.pawk_code.specs.Programs.{Selector, always, matching, between, Rule, Function, Code}
use Rattle.pawk_resolve.specs.Slots.{with_texts, distinct}
use Rattle.pawk_resolve.specs.Scopes.{Globals, Scope}
use Rattle.pawk_resolve.specs.Resolved.{resolved}
use Rattle.pawk_resolve.specs.ResolvedStatements.{resolved_body}

-- the name that is mentioned as a variable
abbrev pub mentioned : Mention → List Text
mentioned (array x) = x ∷ []
mentioned (scalar x) = x ∷ []
mentioned (target x) = x ∷ []
mentioned (argument x f place) = x ∷ []
mentioned _ = []

abbrev pub parameters : Part → List Text
parameters (item.define f ps a) = ps
parameters _ = []

-- the global names of an item, in the order of their mentions
abbrev pub global_names : Part → List Text
global_names p = filter (λ x. not (is_among (parameters p) x)) (flat_map mentioned (of_part p))

abbrev pub is_global_array : Kinds → Text → Bool
is_global_array k x = k (0, x)

abbrev pub is_global_scalar : Kinds → Text → Bool
is_global_scalar k x = not (k (0, x)) && not (is_run_variable x)

-- each in the order of first mention
abbrev pub scalar_names : Kinds → List Part → List Text
scalar_names k ps = with_texts first_scalars (filter (is_global_scalar k) (flat_map global_names ps))

abbrev pub array_names : Kinds → List Part → List Text
array_names k ps = distinct (filter (is_global_array k) (flat_map global_names ps))

abbrev pub function_name : Part → List Text
function_name (item.define f ps a) = f ∷ []
function_name _ = []

-- the names in force, by their slots; an expression between slashes has the number of the first one with its bytes among
-- different ones of these, which are those of the program in the order of its text
abbrev pub globals_of : Kinds → List Text → List Part → Globals
globals_of k eres ps = record {
  kinds = k;
  scalars = scalar_names k ps;
  arrays = array_names k ps;
  functions = flat_map function_name ps;
  expressions = distinct eres;
}

-- outside of functions
abbrev pub global_scope : Globals → Scope
global_scope g = record { globals = g; item = 0; parameters = [] }

abbrev pub function_scope : Globals → ℕ → List Text → Scope
function_scope g n ps = record { globals = g; item = n; parameters = ps }

abbrev pub begin_of : Globals → Part → List Stmts
begin_of g (item.begin a) = resolved_body (global_scope g) a ∷ []
begin_of g _ = []

abbrev pub end_of : Globals → Part → List Stmts
end_of g (item.end a) = resolved_body (global_scope g) a ∷ []
end_of g _ = []

abbrev pub rule : Globals → Selector → TreeStmts → Rule
rule g selector a = record { selector = selector; body = resolved_body (global_scope g) a }

abbrev pub rule_of : Globals → Part → List Rule
rule_of g (item.always a) = rule g always a ∷ []
rule_of g (item.matching e a) = rule g (matching (resolved (global_scope g) e)) a ∷ []
rule_of g (item.between e f a) =
    rule g (between (resolved (global_scope g) e) (resolved (global_scope g) f)) a ∷ []
rule_of g _ = []

abbrev pub kind_of : Bool → ParameterKind
kind_of is_array = if is_array then kind.Array else kind.Scalar

abbrev pub function : Globals → ℕ → List Text → TreeStmts → Function
function g n ps a = record { kinds = map (λ x. kind_of (g.kinds (n, x))) ps; body = resolved_body (function_scope g n ps) a }

-- the function in the item of this number, if it is one
abbrev pub function_at : Globals → ℕ → Part → List Function
function_at g n (item.define f ps a) = function g n ps a ∷ []
function_at g n _ = []

-- of items of which the first has this number
abbrev pub functions_from : Globals → ℕ → List Part → List Function
functions_from g n [] = []
functions_from g n (p ∷ ps) = function_at g n p ++ functions_from g (suc n) ps

abbrev pub resolved_items : Globals → List Part → Code
resolved_items g ps = record {
  begins = flat_map (begin_of g) ps;
  rules = flat_map (rule_of g) ps;
  ends = flat_map (end_of g) ps;
  functions = functions_from g 1 ps;
  scalars = g.scalars;
  arrays = g.arrays;
  expressions = g.expressions;
}

-- the code of a program whose names have these kinds, with these expressions between its slashes
abbrev pub resolved_program : Kinds → List Text → List Part → Code
resolved_program k eres ps = resolved_items (globals_of k eres ps) ps
