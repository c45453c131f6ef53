-- What the making of items needs.
use Rattle.std.proofs.Common.{◌≡◌, ◌<◌, ℕ, Bool, true, false, List, [], ◌∷◌, length, drop, Some, None, refl, arith}
use Rattle.std.specs.Prelude.{nat_le}
use Rattle.std.proofs.lemmas.Bool.{false≢true}
use Rattle.pawk_lex.specs.Tokens.{Tok}
use Rattle.pawk_syntax_tree.specs.Parse.{sees}
use Rattle.pawk_syntax_tree.specs.Item.{Part, height_of_part}
use Rattle.pawk_syntax_tree.specs.ItemParse.{low_part, separates, skip_separators}

pub low_is : (closes : Bool) (x : Part) (n : ℕ) (ts : List Tok) → nat_le n 200 ≡ true → n ≡ height_of_part x → low_part closes x ts ≡ Some ((x, closes), ts)
unfolding low_part
low_is closes x n ts e f = rw (← f, e) refl

pub low_none : (closes : Bool) (x : Part) (n : ℕ) (ts : List Tok) → nat_le n 200 ≡ false → n ≡ height_of_part x → low_part closes x ts ≡ None
unfolding low_part
low_none closes x n ts e f = rw (← f, e) refl

pub one_separator : (ts : List Tok) → separates ts ≡ true → skip_separators ts ≡ skip_separators (drop 1 ts)
unfolding skip_separators
one_separator [] e = refl
one_separator (x ∷ ts) e = rw e refl

pub shorter : (ts : List Tok) → separates ts ≡ true → length (drop 1 ts) < length ts
unfolding separates sees
shorter [] e = absurd (false≢true e)
shorter (x ∷ ts) e = omega arith

pub no_separator : (ts : List Tok) → separates ts ≡ false → skip_separators ts ≡ ts
unfolding skip_separators
no_separator [] e = refl
no_separator (x ∷ ts) e = rw e refl
