-- What an item mentions: each name by its use, each call, each word that leaves. No places.
use Rattle.std.specs.Prelude.{ℕ, suc, Bool, true, false, ◌==◌, if◌then◌else◌, List, [], ◌∷◌, ◌++◌, Option, Some, None}
use Rattle.pawk_lex.specs.Bytes.{Text}
use Rattle.pawk_lex.specs.declared.token.Builtin.{Builtin}
use Rattle.pawk_lex.specs.declared.token.Builtin.TheVariants as b
use Rattle.pawk_syntax_tree.specs.declared.tree.Single.{Single}
use Rattle.pawk_syntax_tree.specs.declared.tree.Single.TheVariants as single
use Rattle.pawk_syntax_tree.specs.declared.tree.Double.{Double}
use Rattle.pawk_syntax_tree.specs.declared.tree.Double.TheVariants as double
use Rattle.pawk_syntax_tree.specs.Tree.{Tree, number, string, ere, variable, element, unary, binary, choice, member, Trees, none, more}
use Rattle.pawk_syntax_tree.specs.Tree as tree
use Rattle.pawk_syntax_tree.specs.declared.statement.Jump.{Jump}
use Rattle.pawk_syntax_tree.specs.Statement.{Stmt, eval, print, printf, when, choose, repeat, do_while, loop, walk, go_out, exit_with, return_with, delete, clear, Stmts, done, next}
use Rattle.pawk_syntax_tree.specs.Item.{Part, begin, end, always, matching, between, define}

pub data Mention : Type 0 where
  -- a name as an array: with a subscript, after `in`, walked, deleted, filled by `split`
  array : Text → Mention
  -- a name whose value is read
  scalar : Text → Mention
  -- a name alone that is assigned
  target : Text → Mention
  -- a name alone as an argument of a function, at a place
  argument : Text → Text → ℕ → Mention
  -- an argument of a function, at a place, that is no name alone
  value : Text → ℕ → Mention
  -- a call of a function, with the number of its arguments
  call : Text → ℕ → Mention
  builtin : Builtin → Trees → Mention
  -- a word that leaves, and whether it is in a loop
  leave : Jump → Bool → Mention
  return : Mention

-- what becomes of a name that is alone
pub data Role : Type 0 where
  as_value : Role
  as_target : Role
  as_array : Role
  as_argument : Text → ℕ → Role

abbrev pub mention : Role → Text → Mention
mention as_value x = scalar x
mention as_target x = target x
mention as_array x = array x
mention (as_argument f place) x = argument x f place

-- anything but a name alone, in this role
abbrev pub beside : Role → List Mention
beside (as_argument f place) = value f place ∷ []
beside _ = []

-- what an expression in this role mentions; inside of it these are mentioned
abbrev pub in_role : Role → Tree → List Mention → List Mention
in_role role (variable x) inner = mention role x ∷ []
in_role role _ inner = beside role ++ inner

abbrev pub role_under : Single → Role
role_under single.Field = as_value
role_under single.Not = as_value
role_under single.Plus = as_value
role_under single.Minus = as_value
role_under _ = as_target

abbrev pub role_left : Double → Role
role_left double.Assign = as_target
role_left double.AddAssign = as_target
role_left double.SubtractAssign = as_target
role_left double.MultiplyAssign = as_target
role_left double.DivideAssign = as_target
role_left double.RemainderAssign = as_target
role_left double.PowerAssign = as_target
role_left _ = as_value

-- what a list of expressions belongs to
pub data Setting : Type 0 where
  plain : Setting
  of_call : Text → Setting
  of_builtin : Builtin → Setting

-- the role of an argument of a built-in function: sub and gsub assign their third, split fills its second
abbrev pub role_in_builtin : Builtin → ℕ → Role
role_in_builtin b.Sub place = if place == 2 then as_target else as_value
role_in_builtin b.Gsub place = if place == 2 then as_target else as_value
role_in_builtin b.Split place = if place == 1 then as_array else as_value
role_in_builtin _ place = as_value

abbrev pub role_at : Setting → ℕ → Role
role_at plain place = as_value
role_at (of_call f) place = as_argument f place
role_at (of_builtin f) place = role_in_builtin f place

abbrev pub count : Trees → ℕ
count none = 0
count (more a bs) = suc (count bs)

-- what is inside an expression
abbrev mutual
  pub inside : Tree → List Mention
  inside (number n) = []
  inside (string x) = []
  inside (ere x) = []
  inside (variable x) = []
  inside (element x as') = array x ∷ inside_all plain 0 as'
  inside (unary op a) = in_role (role_under op) a (inside a)
  inside (binary op a d) = in_role (role_left op) a (inside a) ++ in_role as_value d (inside d)
  inside (choice a d e) = in_role as_value a (inside a) ++ in_role as_value d (inside d) ++ in_role as_value e (inside e)
  inside (member as' x) = array x ∷ inside_all plain 0 as'
  inside (tree.call f as') = call f (count as') ∷ inside_all (of_call f) 0 as'
  inside (tree.builtin f as') = builtin f as' ∷ inside_all (of_builtin f) 0 as'

  -- the first of these is at this place of the list
  pub inside_all : Setting → ℕ → Trees → List Mention
  inside_all setting place none = []
  inside_all setting place (more a bs) = in_role (role_at setting place) a (inside a) ++ inside_all setting (suc place) bs

abbrev pub mentions : Role → Tree → List Mention
mentions role a = in_role role a (inside a)

-- of expressions whose values are read
abbrev pub of_value : Tree → List Mention
of_value = mentions as_value

abbrev pub of_values : Trees → List Mention
of_values = inside_all plain 0

abbrev pub of_option : Option Tree → List Mention
of_option None = []
of_option (Some a) = of_value a

-- of a statement, in a loop or not
abbrev mutual
  pub of_statement : Bool → Stmt → List Mention
  of_statement in_loop (eval e) = of_value e
  of_statement in_loop (print es) = of_values es
  of_statement in_loop (printf es) = of_values es
  of_statement in_loop (when e a) = of_value e ++ of_body in_loop a
  of_statement in_loop (choose e a d) = of_value e ++ of_body in_loop a ++ of_body in_loop d
  of_statement in_loop (repeat e a) = of_value e ++ of_body true a
  of_statement in_loop (do_while a e) = of_value e ++ of_body true a
  of_statement in_loop (loop a d e body) = of_option a ++ of_option d ++ of_option e ++ of_body true body
  of_statement in_loop (walk k a body) = target k ∷ array a ∷ of_body true body
  of_statement in_loop (go_out word) = leave word in_loop ∷ []
  of_statement in_loop (exit_with e) = of_option e
  of_statement in_loop (return_with e) = return ∷ of_option e
  of_statement in_loop (delete a es) = array a ∷ of_values es
  of_statement in_loop (clear a) = array a ∷ []

  pub of_body : Bool → Stmts → List Mention
  of_body in_loop done = []
  of_body in_loop (next x xs) = of_statement in_loop x ++ of_body in_loop xs

-- of an item; the head of a function is no mention
abbrev pub of_part : Part → List Mention
of_part (begin a) = of_body false a
of_part (end a) = of_body false a
of_part (always a) = of_body false a
of_part (matching e a) = of_value e ++ of_body false a
of_part (between e f a) = of_value e ++ of_value f ++ of_body false a
of_part (define f ps a) = of_body false a
