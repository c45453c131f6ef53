-- What the making of trees needs.
use Rattle.std.proofs.Common.{◌≡◌, ℕ, suc, max, true, false, List, [], ◌∷◌, ◌++◌, length, Some, None, refl, sym, arith}
use Rattle.std.specs.Prelude.{nat_le}
use Rattle.std.proofs.lemmas.Bool.{eqb-true, false≢true}
use Rattle.std.proofs.lemmas.List.{length-map}
use Rattle.pawk_syntax_tree.specs.declared.tree.ExpressionTree.{ExpressionTree}
use Rattle.pawk_lex.specs.declared.token.Builtin.{Builtin}
use Rattle.pawk_lex.specs.declared.token.Builtin.TheVariants as b
use Rattle.pawk_lex.specs.Tokens.{Tok}
use Rattle.pawk_syntax_tree.specs.declared.tree.Double.TheVariants as double
use Rattle.pawk_syntax_tree.specs.Tree.{Tree, ere, binary, trees, view, views, record_tree, value, complete}
use Rattle.pawk_syntax_tree.specs.Canonical.{height, highest}
use Rattle.pawk_syntax_tree.specs.Parse.{low}
use Rattle.pawk_syntax_parse.specs.Heights.{is_ere, lacks_record}

pub low_is : (a : Tree) (n : ℕ) (ts : List Tok) → nat_le n 200 ≡ true → n ≡ height a → low a ts ≡ Some (a, ts)
unfolding low
low_is a n ts e f = rw (← f, e) refl

pub low_none : (a : Tree) (n : ℕ) (ts : List Tok) → nat_le n 200 ≡ false → n ≡ height a → low a ts ≡ None
unfolding low
low_none a n ts e f = rw (← f, e) refl

pub ere_value : (a : Tree) → true ≡ is_ere a → value a ≡ binary double.Match record_tree a
ere_value (ere x) e = refl
ere_value _ e = absurd cc

pub other_value : (a : Tree) → false ≡ is_ere a → value a ≡ a
other_value (ere x) e = absurd cc
other_value _ e = refl

pub ere_height : (a : Tree) → true ≡ is_ere a → height a ≡ 1
ere_height (ere x) e = refl
ere_height _ e = absurd cc

pub highest_more : (as' : List Tree) (a : Tree) → highest (trees (as' ++ a ∷ [])) ≡ max (highest (trees as')) (height a)
highest_more [] a = omega arith
highest_more (x ∷ as') a = rw (highest_more as' a) (omega arith)

complete_true : (f : Builtin) (as' : List Tree) → lacks_record f (length as') ≡ true → complete f (trees as') ≡ trees (as' ++ record_tree ∷ [])
complete_true b.Length [] e = refl
complete_true b.Length (x ∷ as') e = absurd (let f : suc (length as') ≡ 0 = eqb-true _ _ e in omega arith)
complete_true b.Sub [] e = absurd (let f : 0 ≡ 2 = eqb-true _ _ e in omega arith)
complete_true b.Sub (x ∷ []) e = absurd (let f : 1 ≡ 2 = eqb-true _ _ e in omega arith)
complete_true b.Sub (x ∷ y ∷ []) e = refl
complete_true b.Sub (x ∷ y ∷ z ∷ as') e = absurd (let f : suc (suc (suc (length as'))) ≡ 2 = eqb-true _ _ e in omega arith)
complete_true b.Gsub [] e = absurd (let f : 0 ≡ 2 = eqb-true _ _ e in omega arith)
complete_true b.Gsub (x ∷ []) e = absurd (let f : 1 ≡ 2 = eqb-true _ _ e in omega arith)
complete_true b.Gsub (x ∷ y ∷ []) e = refl
complete_true b.Gsub (x ∷ y ∷ z ∷ as') e = absurd (let f : suc (suc (suc (length as'))) ≡ 2 = eqb-true _ _ e in omega arith)
complete_true _ as' e = absurd (false≢true e)

complete_false : (f : Builtin) (as' : List Tree) → lacks_record f (length as') ≡ false → complete f (trees as') ≡ trees as'
complete_false b.Length [] e = absurd (false≢true (sym e))
complete_false b.Length (x ∷ as') e = refl
complete_false b.Sub [] e = refl
complete_false b.Sub (x ∷ []) e = refl
complete_false b.Sub (x ∷ y ∷ []) e = absurd (false≢true (sym e))
complete_false b.Sub (x ∷ y ∷ z ∷ as') e = refl
complete_false b.Gsub [] e = refl
complete_false b.Gsub (x ∷ []) e = refl
complete_false b.Gsub (x ∷ y ∷ []) e = absurd (false≢true (sym e))
complete_false b.Gsub (x ∷ y ∷ z ∷ as') e = refl
complete_false _ as' e = refl

pub complete_more : (f : Builtin) (es : List ExpressionTree) → lacks_record f (length es) ≡ true → complete f (trees (views es)) ≡ trees (views es ++ record_tree ∷ [])
complete_more f es e = complete_true f (views es) (rw length-map e)

pub complete_same : (f : Builtin) (es : List ExpressionTree) → lacks_record f (length es) ≡ false → complete f (trees (views es)) ≡ trees (views es)
complete_same f es e = complete_false f (views es) (rw length-map e)

pub count_is : (es : List ExpressionTree) → length (views es) ≡ length es
count_is es = length-map es view
