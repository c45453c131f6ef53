-- The canonical tokens of a tree open at most two brackets a level.
use Rattle.std.proofs.Common.{◌≡◌, ◌≤◌, ℕ, suc, ◌+◌, ◌*◌, max, Bool, true, ◌&&◌, List, ◌∷◌, refl, arith}
use Rattle.std.specs.Prelude.{nat_le}
use Rattle.std.proofs.lemmas.Bool.{le-leb}
use Rattle.std.proofs.Math.Nat.{le-max_left, le-max_right}
use Rattle.pawk_lex.specs.declared.token.Mark.TheVariants as m
use Rattle.pawk_lex.specs.Tokens.{Tok}
use Rattle.pawk_lex.specs.Tokens as t
use Rattle.pawk_syntax_tree.specs.declared.tree.Single.{Single}
use Rattle.pawk_syntax_tree.specs.declared.tree.Single.TheVariants as single
use Rattle.pawk_syntax_tree.specs.declared.tree.Double.{Double}
use Rattle.pawk_syntax_tree.specs.declared.tree.Double.TheVariants as double
use Rattle.pawk_syntax_tree.specs.Tree.{Tree, number, string, ere, variable, element, unary, binary, choice, member, call, builtin, Trees, none, more}
use Rattle.pawk_syntax_tree.specs.Canonical.{canon, canon_keys, canon_first, canon_others, height, highest, opening, closing, around, between}
use Rattle.pawk_syntax_grammar.specs.Brackets.{are_few, open_after}

-- n open brackets, and two for each of h levels, are few
abbrev pub Fits : ℕ → ℕ → Type 0
Fits n h = n + 2 * h ≤ 500

-- tokens of which none opens too many, where n are open before them
abbrev pub Few : ℕ → List Tok → Type 0
Few n ts = are_few n ts ≡ true

-- the flag of one test and of those after it
both_true : (p q : Bool) → p ≡ true → q ≡ true → (p && q) ≡ true
both_true p q e f = rw (e, f) refl

-- a token after which k are open
pub opens_to : (n k : ℕ) (x : Tok) (rest : List Tok) → open_after n x ≡ k → k ≤ 500 → Few k rest → Few n (x ∷ rest)
unfolding are_few
opens_to n k x rest e low h = rw (e) (both_true (nat_le k 500) (are_few k rest) (le-leb k 500 low) h)

-- a token that is no bracket
pub passes : (n : ℕ) (x : Tok) (rest : List Tok) → open_after n x ≡ n → n ≤ 500 → Few n rest → Few n (x ∷ rest)
passes n = opens_to n n

pub opens : (n : ℕ) (ts : List Tok) → suc n ≤ 500 → Few (suc n) ts → Few n (opening ts)
opens n ts = opens_to n (suc n) (t.mark m.LeftParenthesis) ts refl

pub square_opens : (n : ℕ) (ts : List Tok) → suc n ≤ 500 → Few (suc n) ts → Few n (t.mark m.LeftBracket ∷ ts)
square_opens n ts = opens_to n (suc n) (t.mark m.LeftBracket) ts refl

pub brace_opens : (n : ℕ) (ts : List Tok) → suc n ≤ 500 → Few (suc n) ts → Few n (t.mark m.LeftBrace ∷ ts)
brace_opens n ts = opens_to n (suc n) (t.mark m.LeftBrace) ts refl

pub closes : (n : ℕ) (rest : List Tok) → n ≤ 500 → Few n rest → Few (suc n) (closing rest)
closes n rest = opens_to (suc n) n (t.mark m.RightParenthesis) rest (omega arith)

pub square_closes : (n : ℕ) (rest : List Tok) → n ≤ 500 → Few n rest → Few (suc n) (t.mark m.RightBracket ∷ rest)
square_closes n rest = opens_to (suc n) n (t.mark m.RightBracket) rest (omega arith)

pub brace_closes : (n : ℕ) (rest : List Tok) → n ≤ 500 → Few n rest → Few (suc n) (t.mark m.RightBrace ∷ rest)
brace_closes n rest = opens_to (suc n) n (t.mark m.RightBrace) rest (omega arith)

-- the sign between two operands is no bracket
no_bracket : (op : Double) (n : ℕ) (rest : List Tok) → n ≤ 500 → Few n rest → Few n (between op rest)
no_bracket double.Or n rest = passes n (t.mark m.Or) rest refl
no_bracket double.And n rest = passes n (t.mark m.And) rest refl
no_bracket double.Match n rest = passes n (t.mark m.Tilde) rest refl
no_bracket double.NotMatch n rest = passes n (t.mark m.NotMatch) rest refl
no_bracket double.Less n rest = passes n (t.mark m.Less) rest refl
no_bracket double.LessEqual n rest = passes n (t.mark m.LessEqual) rest refl
no_bracket double.Equal n rest = passes n (t.mark m.Equal) rest refl
no_bracket double.NotEqual n rest = passes n (t.mark m.NotEqual) rest refl
no_bracket double.Greater n rest = passes n (t.mark m.Greater) rest refl
no_bracket double.GreaterEqual n rest = passes n (t.mark m.GreaterEqual) rest refl
no_bracket double.Concatenate n rest = λ low h. h
no_bracket double.Add n rest = passes n (t.mark m.Plus) rest refl
no_bracket double.Subtract n rest = passes n (t.mark m.Minus) rest refl
no_bracket double.Multiply n rest = passes n (t.mark m.Star) rest refl
no_bracket double.Divide n rest = passes n (t.mark m.Slash) rest refl
no_bracket double.Remainder n rest = passes n (t.mark m.Percent) rest refl
no_bracket double.Power n rest = passes n (t.mark m.Caret) rest refl
no_bracket double.Assign n rest = passes n (t.mark m.Assign) rest refl
no_bracket double.AddAssign n rest = passes n (t.mark m.PlusAssign) rest refl
no_bracket double.SubtractAssign n rest = passes n (t.mark m.MinusAssign) rest refl
no_bracket double.MultiplyAssign n rest = passes n (t.mark m.StarAssign) rest refl
no_bracket double.DivideAssign n rest = passes n (t.mark m.SlashAssign) rest refl
no_bracket double.RemainderAssign n rest = passes n (t.mark m.PercentAssign) rest refl
no_bracket double.PowerAssign n rest = passes n (t.mark m.CaretAssign) rest refl

-- what is so of the tokens of an operand, is so of those of an operator around it
within : (op : Single) (a : List Tok → List Tok) (n : ℕ) (rest : List Tok) → suc n ≤ 500 →
    ((ts : List Tok) → Few (suc n) ts → Few (suc n) (a ts)) → Few n rest → Few n (around op a rest)
within single.Field a n rest low h k = passes n (t.mark m.Dollar) (opening (a (closing rest))) refl (omega arith) (opens n (a (closing rest)) low (h (closing rest) (closes n rest (omega arith) k)))
within single.Not a n rest low h k = opens n (t.mark m.Not ∷ a (closing rest)) low (passes (suc n) (t.mark m.Not) (a (closing rest)) refl low (h (closing rest) (closes n rest (omega arith) k)))
within single.Plus a n rest low h k = opens n (t.mark m.Plus ∷ a (closing rest)) low (passes (suc n) (t.mark m.Plus) (a (closing rest)) refl low (h (closing rest) (closes n rest (omega arith) k)))
within single.Minus a n rest low h k = opens n (t.mark m.Minus ∷ a (closing rest)) low (passes (suc n) (t.mark m.Minus) (a (closing rest)) refl low (h (closing rest) (closes n rest (omega arith) k)))
within single.IncrementBefore a n rest low h k = opens n (t.mark m.PlusPlus ∷ a (closing rest)) low (passes (suc n) (t.mark m.PlusPlus) (a (closing rest)) refl low (h (closing rest) (closes n rest (omega arith) k)))
within single.DecrementBefore a n rest low h k = opens n (t.mark m.MinusMinus ∷ a (closing rest)) low (passes (suc n) (t.mark m.MinusMinus) (a (closing rest)) refl low (h (closing rest) (closes n rest (omega arith) k)))
within single.IncrementAfter a n rest low h k = opens n (a (t.mark m.PlusPlus ∷ closing rest)) low (h (t.mark m.PlusPlus ∷ closing rest) (passes (suc n) (t.mark m.PlusPlus) (closing rest) refl low (closes n rest (omega arith) k)))
within single.DecrementAfter a n rest low h k = opens n (a (t.mark m.MinusMinus ∷ closing rest)) low (h (t.mark m.MinusMinus ∷ closing rest) (passes (suc n) (t.mark m.MinusMinus) (closing rest) refl low (closes n rest (omega arith) k)))

-- Whatever follows opens few, and so does the tree before it.
mutual
  pub few_canon : (a : Tree) (n : ℕ) (rest : List Tok) → Fits n (height a) → Few n rest → Few n (canon a rest)
  few_canon (number k) n rest low h = passes n (t.number k) rest refl (omega arith) h
  few_canon (string x) n rest low h = passes n (t.string x) rest refl (omega arith) h
  few_canon (ere x) n rest low h = passes n (t.ere x) rest refl (omega arith) h
  few_canon (variable x) n rest low h = passes n (t.name x) rest refl (omega arith) h
  few_canon (element x as') n rest low h =
      passes n (t.name x) (t.mark m.LeftBracket ∷ canon_first as' (t.mark m.RightBracket ∷ rest)) refl (omega arith)
      (square_opens n (canon_first as' (t.mark m.RightBracket ∷ rest)) (omega arith)
      (few_first as' (suc n) (t.mark m.RightBracket ∷ rest) (omega arith) (square_closes n rest (omega arith) h)))
  few_canon (unary op a) n rest low h =
      within op (canon a) n rest (omega arith) (λ ts k. few_canon a (suc n) ts (omega arith) k) h
  few_canon (binary op a d) n rest low h =
      let end : Few (suc n) (closing rest) = closes n rest (omega arith) h in
      let right : Few (suc n) (canon d (closing rest)) = few_canon d (suc n) (closing rest) (omega (arith, le-max_right (height a) (height d))) end in
      let sign : Few (suc n) (between op (canon d (closing rest))) = no_bracket op (suc n) (canon d (closing rest)) (omega arith) right in
      opens n (canon a (between op (canon d (closing rest)))) (omega arith)
      (few_canon a (suc n) (between op (canon d (closing rest))) (omega (arith, le-max_left (height a) (height d))) sign)
  few_canon (choice a d e) n rest low h =
      let q = le-max_left (height a) (max (height d) (height e)) in
      let r = le-max_right (height a) (max (height d) (height e)) in
      let s = le-max_left (height d) (height e) in
      let u = le-max_right (height d) (height e) in
      let end : Few (suc n) (closing rest) = closes n rest (omega arith) h in
      let last : Few (suc n) (canon e (closing rest)) = few_canon e (suc n) (closing rest) (omega (arith, r, u)) end in
      let colon : Few (suc n) (t.mark m.Colon ∷ canon e (closing rest)) = passes (suc n) (t.mark m.Colon) (canon e (closing rest)) refl (omega arith) last in
      let mid : Few (suc n) (canon d (t.mark m.Colon ∷ canon e (closing rest))) = few_canon d (suc n) (t.mark m.Colon ∷ canon e (closing rest)) (omega (arith, r, s)) colon in
      let ask : Few (suc n) (t.mark m.Question ∷ canon d (t.mark m.Colon ∷ canon e (closing rest))) = passes (suc n) (t.mark m.Question) (canon d (t.mark m.Colon ∷ canon e (closing rest))) refl (omega arith) mid in
      opens n (canon a (t.mark m.Question ∷ canon d (t.mark m.Colon ∷ canon e (closing rest)))) (omega arith)
      (few_canon a (suc n) (t.mark m.Question ∷ canon d (t.mark m.Colon ∷ canon e (closing rest))) (omega (arith, q)) ask)
  few_canon (member as' x) n rest low h =
      let end : Few (suc n) (closing rest) = closes n rest (omega arith) h in
      let name : Few (suc n) (t.name x ∷ closing rest) = passes (suc n) (t.name x) (closing rest) refl (omega arith) end in
      let sign : Few (suc n) (t.mark m.In ∷ t.name x ∷ closing rest) = passes (suc n) (t.mark m.In) (t.name x ∷ closing rest) refl (omega arith) name in
      opens n (canon_keys as' (t.mark m.In ∷ t.name x ∷ closing rest)) (omega arith)
      (few_keys as' n (t.mark m.In ∷ t.name x ∷ closing rest) (omega arith) sign)
  few_canon (call f as') n rest low h =
      passes n (t.function_name f) (opening (canon_first as' (closing rest))) refl (omega arith)
      (opens n (canon_first as' (closing rest)) (omega arith)
      (few_first as' (suc n) (closing rest) (omega arith) (closes n rest (omega arith) h)))
  few_canon (builtin f as') n rest low h =
      passes n (t.builtin f) (opening (canon_first as' (closing rest))) refl (omega arith)
      (opens n (canon_first as' (closing rest)) (omega arith)
      (few_first as' (suc n) (closing rest) (omega arith) (closes n rest (omega arith) h)))

  -- several keys are written in brackets of their own
  few_keys : (as' : Trees) (n : ℕ) (rest : List Tok) → Fits (suc (suc n)) (highest as') → Few (suc n) rest → Few (suc n) (canon_keys as' rest)
  few_keys none n rest low h = h
  few_keys (more a none) n rest low h = few_canon a (suc n) rest (omega (arith, le-max_left (height a) 0)) h
  few_keys (more a (more d bs)) n rest low h =
      let q = le-max_left (height a) (max (height d) (highest bs)) in
      let r = le-max_right (height a) (max (height d) (highest bs)) in
      let s = le-max_left (height d) (highest bs) in
      let u = le-max_right (height d) (highest bs) in
      let end : Few (suc (suc n)) (closing rest) = closes (suc n) rest (omega arith) h in
      let others : Few (suc (suc n)) (canon_others bs (closing rest)) = few_others bs (suc (suc n)) (closing rest) (omega (arith, r, u)) end in
      let second : Few (suc (suc n)) (canon d (canon_others bs (closing rest))) = few_canon d (suc (suc n)) (canon_others bs (closing rest)) (omega (arith, r, s)) others in
      let comma : Few (suc (suc n)) (t.mark m.Comma ∷ canon d (canon_others bs (closing rest))) = passes (suc (suc n)) (t.mark m.Comma) (canon d (canon_others bs (closing rest))) refl (omega arith) second in
      opens (suc n) (canon a (t.mark m.Comma ∷ canon d (canon_others bs (closing rest)))) (omega arith)
      (few_canon a (suc (suc n)) (t.mark m.Comma ∷ canon d (canon_others bs (closing rest))) (omega (arith, q)) comma)

  pub few_first : (as' : Trees) (n : ℕ) (rest : List Tok) → Fits n (highest as') → Few n rest → Few n (canon_first as' rest)
  few_first none n rest low h = h
  few_first (more a bs) n rest low h =
      few_canon a n (canon_others bs rest) (omega (arith, le-max_left (height a) (highest bs)))
      (few_others bs n rest (omega (arith, le-max_right (height a) (highest bs))) h)

  few_others : (as' : Trees) (n : ℕ) (rest : List Tok) → Fits n (highest as') → Few n rest → Few n (canon_others as' rest)
  few_others none n rest low h = h
  few_others (more a bs) n rest low h =
      passes n (t.mark m.Comma) (canon a (canon_others bs rest)) refl (omega arith)
      (few_canon a n (canon_others bs rest) (omega (arith, le-max_left (height a) (highest bs)))
      (few_others bs n rest (omega (arith, le-max_right (height a) (highest bs))) h))
