-- Which calls fit what they call (POSIX.1-2017, awk, "User-Defined Functions", "Arithmetic Functions" and "String
-- Functions").
use Rattle.std.specs.Prelude.{ℕ, Bool, true, false, ◌==◌, ◌&&◌, ◌||◌, nat_le, List, length, Option, Some, None}
use Rattle.pawk_lex.specs.Bytes.{Text}
use Rattle.pawk_lex.specs.declared.token.Builtin.{Builtin}
use Rattle.pawk_lex.specs.declared.token.Builtin.TheVariants as b
use Rattle.pawk_syntax_tree.specs.declared.tree.Single.TheVariants as single
use Rattle.pawk_syntax_tree.specs.Tree.{Tree, variable, element, unary, Trees, more}
use Rattle.pawk_syntax_check.specs.Mentions.{Mention, call, builtin, count}

-- what may be assigned
abbrev pub is_lvalue : Tree → Bool
is_lvalue (variable x) = true
is_lvalue (element x as') = true
is_lvalue (unary single.Field a) = true
is_lvalue _ = false

abbrev pub is_name : Tree → Bool
is_name (variable x) = true
is_name _ = false

-- how many arguments a built-in function takes; what the language completes is there already
abbrev pub takes : Builtin → ℕ → Bool
takes b.Length n = n == 1
takes b.Index n = n == 2
takes b.Substr n = n == 2 || n == 3
takes b.Split n = n == 2 || n == 3
takes b.Sub n = n == 3
takes b.Gsub n = n == 3
takes b.Match n = n == 2
takes b.Sprintf n = nat_le 1 n
takes b.Tolower n = n == 1
takes b.Toupper n = n == 1
takes b.Int n = n == 1

-- the third of the trees, if there is one, passes the test
abbrev pub third : (Tree → Bool) → Trees → Bool
third test (more a (more d (more e rest))) = test e
third test _ = true

-- the second of the trees, if there is one, passes the test
abbrev pub second : (Tree → Bool) → Trees → Bool
second test (more a (more d rest)) = test d
second test _ = true

-- sub and gsub assign their third argument, split fills the array that its second names
abbrev pub has_targets : Builtin → Trees → Bool
has_targets b.Sub as' = third is_lvalue as'
has_targets b.Gsub as' = third is_lvalue as'
has_targets b.Split as' = second is_name as'
has_targets _ as' = true

abbrev pub fits_builtin : Builtin → Trees → Bool
fits_builtin f as' = takes f (count as') && has_targets f as'

-- a function takes as many arguments as it has parameters, or fewer; one that is not there takes none at all
abbrev pub takes_arguments : Option (ℕ × List Text) → ℕ → Bool
takes_arguments None n = false
takes_arguments (Some f) n = nat_le n (length f.1)

-- with the functions of the program by their names
abbrev pub is_call : (Text → Option (ℕ × List Text)) → Mention → Bool
is_call functions (call f n) = takes_arguments (functions f) n
is_call functions (builtin f as') = fits_builtin f as'
is_call functions _ = true
