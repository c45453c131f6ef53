-- The code of an expression: names become slots, and what is given sorts it.
use Rattle.pawk_syntax_tree.specs.Tree.{Tree, Trees}
use Rattle.pawk_syntax_tree.specs.Tree as tree
use Rattle.pawk_code.specs.Expressions.{Expr, Exprs, Arguments, leaf, number, text, test, read, to_element, member, choice, call, none, more, no_arguments, more_arguments}
use Rattle.pawk_resolve.specs.Slots.{slot}
use Rattle.pawk_resolve.specs.Scopes.{Scope, leaf_of, array_of}
use Rattle.pawk_resolve.specs.Sorted.{nothing, numeral, unary_of, operation, binary_of, builtin_of, argument_of}

module _ (s : Scope) where
  -- an expression with no other inside; one between slashes that is no value occurs in no checked program
  abbrev pub resolved_small : Tree → Expr
  resolved_small (tree.number n) = leaf (number (numeral n))
  resolved_small (tree.string x) = leaf (text x)
  resolved_small (tree.variable x) = leaf (leaf_of s x)
  resolved_small t = nothing

  abbrev mutual
    pub resolved : Tree → Expr
    resolved (tree.element x ts) = read (to_element (array_of s x) (resolved_all ts))
    resolved (tree.unary op a) = unary_of op (resolved a)
    resolved (tree.binary op a b) = binary_of s (operation op) (resolved a) b (resolved b)
    resolved (tree.choice c a b) = choice (resolved c) (resolved a) (resolved b)
    resolved (tree.member ts x) = test (member (array_of s x) (resolved_all ts))
    resolved (tree.call f ts) = call (slot s.globals.functions f) (resolved_arguments ts)
    resolved (tree.builtin f ts) = builtin_of s f ts (resolved_all ts)
    resolved t = resolved_small t

    pub resolved_all : Trees → Exprs
    resolved_all tree.none = none
    resolved_all (tree.more t ts) = more (resolved t) (resolved_all ts)

    pub resolved_arguments : Trees → Arguments
    resolved_arguments tree.none = no_arguments
    resolved_arguments (tree.more t ts) = more_arguments (argument_of s t (resolved t)) (resolved_arguments ts)
