-- The canonical tokens of operators and choices are read as their trees.
use Rattle.std.proofs.Common.{◌≡◌, ◌≤◌, ℕ, zero, suc, ◌*◌, Bool, true, false, not, ◌&&◌, List, [], ◌∷◌, length, Option, Some, None, refl, sym, ap, ◌∙◌, arith, inl, inr, le-leb}
use Rattle.std.proofs.Math.Numerals.{add-one}
use Rattle.std.proofs.Math.Dec.{leb-zero}
use Rattle.std.proofs.lemmas.Bool.{cases_Bool, leb-true}
use Rattle.std.specs.Prelude.{nat_le}
use Rattle.pawk_lex.specs.declared.token.Mark.{Mark}
use Rattle.pawk_lex.specs.declared.token.Mark.TheVariants as m
use Rattle.pawk_lex.specs.declared.token.Builtin.{Builtin}
use Rattle.pawk_lex.specs.Bytes.{Text}
use Rattle.pawk_lex.specs.Tokens.{Tok}
use Rattle.pawk_lex.specs.Tokens as t
use Rattle.pawk_syntax_tree.specs.declared.tree.Single.{Single}
use Rattle.pawk_syntax_tree.specs.declared.tree.Single.TheVariants as single
use Rattle.pawk_syntax_tree.specs.declared.tree.Double.{Double}
use Rattle.pawk_syntax_tree.specs.declared.tree.Double.TheVariants as double
use Rattle.pawk_syntax_tree.specs.declared.levels.Turn.TheVariants.{Infix, Beside, Choosing, Postfix}
use Rattle.pawk_syntax_tree.specs.declared.levels.Row.{Row}
use Rattle.pawk_syntax_tree.specs.Tree.{Tree, number, string, ere, variable, element, unary, binary, choice, member, call, builtin, value, right_side}
use Rattle.pawk_syntax_tree.specs.Levels.{binding, sign_of, row_of_sign, joining, beside, choosing, stepping}
use Rattle.pawk_syntax_tree.specs.Canonical.{opening, closing, canon, IsLvalue, FitsSingle, FitsDouble, height}
use Rattle.pawk_syntax_tree.specs.Parse.{Parser, and_then, low, expect, sees, same_mark, row_at, climb_by, climb, turn, operand, phrase, expr, list_from, list_up_to, group, signed, step_before, field, after, skip_lines, after_op}
use Rattle.pawk_syntax_tree.proofs.Sound.{stops_by}

-- ---- what comes next

abbrev pub NoKey : List Tok → Type 0
NoKey rest = sees m.LeftBracket rest ≡ false

abbrev pub stops : Bool → ℕ → ℕ → List Tok → Bool
stops c least top rest = stops_by least top (row_at c top rest)

pub end_group : (rest : List Tok) → expect m.RightParenthesis (closing rest) ≡ Some (tt, rest)
unfolding expect sees same_mark
end_group rest = refl

pub end_keys : (rest : List Tok) → expect m.RightBracket (t.mark m.RightBracket ∷ rest) ≡ Some (tt, rest)
unfolding expect sees same_mark
end_keys rest = refl

no_key_closing : (rest : List Tok) → NoKey (closing rest)
unfolding sees same_mark
no_key_closing rest = refl

closed : (c : Bool) (least top : ℕ) (rest : List Tok) → stops c least top (closing rest) ≡ true
unfolding row_at
closed c least top rest = refl

pub low_is : (a : Tree) (ts : List Tok) → height a ≤ 200 → low a ts ≡ Some (a, ts)
unfolding low
low_is a ts h = rw (le-leb (height a) 200 h) refl

-- ---- levels

-- the level of a tree's canonical tokens
abbrev pub grade : Tree → ℕ
grade (variable x) = 14
grade (element x as') = 14
grade (unary single.Field a) = 14
grade _ = 13

pub lvalue_grade : (a : Tree) → IsLvalue a → grade a ≡ 14
lvalue_grade (variable x) h = refl
lvalue_grade (element x as') h = refl
lvalue_grade (unary single.Field a) h = refl
lvalue_grade _ h = absurd h

value_grade : (a : Tree) → nat_le 13 (grade a) ≡ true
value_grade (variable x) = refl
value_grade (element x as') = refl
value_grade (unary single.Field a) = refl
value_grade _ = refl

pub reaches : (k : ℕ) (a : Tree) → k ≤ 13 → nat_le k (grade a) ≡ true
reaches k a le = le-leb k (grade a) (omega (arith, leb-true 13 (grade a) (value_grade a)))

module _ (ex : Bool → ℕ → Parser Tree) where
  stop_by : (least top : ℕ) (left : Tree) (go : Row → Parser Tree) (rest : List Tok) (o : Option Row) → stops_by least top o ≡ true → climb_by ex least left go o top rest ≡ Some (left, rest)
  stop_by least top left go rest None e = refl
  stop_by least top left go rest (Some row) e = elim (cases_Bool (nat_le least row.level && nat_le row.left top)) [
    | inl f ↦ absurd (let g : not true ≡ true = rw f at e in cc)
    | inr f ↦ rw f refl
  ]

  pub stop : (c : Bool) (n least top : ℕ) (left : Tree) (rest : List Tok) → stops c least top rest ≡ true → climb ex c (suc n) least top left rest ≡ Some (left, rest)
  unfolding climb
  stop c n least top left rest e = stop_by least top left (λ row i. and_then (turn ex c row left i) (climb ex c n least row.level)) rest (row_at c top rest) e

  -- an operand and no operator
  alone : (c : Bool) (least top : ℕ) (a : Tree) (ts rest : List Tok) → operand ex c ts ≡ Some ((a, top), rest) → nat_le least top ≡ true → stops c least top rest ≡ true → phrase ex c least ts ≡ Some (a, rest)
  unfolding phrase
  alone c least top a ts rest e f g = rw (e, f, add-one (length rest)) (stop c (length rest) least top a rest g)

  -- an operand and one operator
  once : (c : Bool) (least top : ℕ) (a d : Tree) (ts mid rest : List Tok) (x : Tok) (row : Row) → operand ex c ts ≡ Some ((a, top), x ∷ mid) → nat_le least top ≡ true → row_at c top (x ∷ mid) ≡ Some row → (nat_le least row.level && nat_le row.left top) ≡ true → turn ex c row a (x ∷ mid) ≡ Some (d, rest) → stops c least row.level rest ≡ true → phrase ex c least ts ≡ Some (d, rest)
  unfolding phrase climb
  once c least top a d ts mid rest x row e f r applies done g =
      rw (e, f, add-one (suc (length mid)), r, applies, done) (stop c (length mid) least row.level d rest g)

  -- a list of one phrase, up to a bracket
  one_listed : (n : ℕ) (a : Tree) (ts rest : List Tok) → 1 ≤ n → ex true 0 ts ≡ Some (a, closing rest) → list_from ex true None n [] ts ≡ Some (value a ∷ [], closing rest)
  unfolding list_from after sees same_mark
  one_listed zero a ts rest some e = absurd (omega arith)
  one_listed (suc n) a ts rest some e = rw e refl

  bracketed : (a : Tree) (ts rest : List Tok) → 1 ≤ length ts → ex true 0 ts ≡ Some (a, closing rest) → group ex ts ≡ Some ((value a, 13), rest)
  unfolding group list_up_to
  bracketed a ts rest some e = rw (one_listed (length ts) a ts rest some e, end_group rest) refl

-- at every depth that is enough, the canonical tokens are read as the operand
abbrev pub Again : Tree → Type 0
Again a = (c : Bool) (n : ℕ) → 2 * height a ≤ suc n → height a ≤ 200 → (rest : List Tok) → NoKey rest → operand (expr n) c (canon a rest) ≡ Some ((a, grade a), rest)

pub height_pos : (a : Tree) → 1 ≤ height a
height_pos (number n) = omega arith
height_pos (string x) = omega arith
height_pos (ere x) = omega arith
height_pos (variable x) = omega arith
height_pos (element x as') = omega arith
height_pos (unary op a) = omega arith
height_pos (binary op a d) = omega arith
height_pos (choice a d e) = omega arith
height_pos (member as' x) = omega arith
height_pos (call f as') = omega arith
height_pos (builtin f as') = omega arith

-- as a whole phrase
pub whole : (a : Tree) → Again a → (c : Bool) (n : ℕ) → 2 * height a ≤ n → height a ≤ 200 → (least : ℕ) → nat_le least (grade a) ≡ true → (rest : List Tok) → NoKey rest → stops c least (grade a) rest ≡ true → expr n c least (canon a rest) ≡ Some (a, rest)
unfolding expr
whole a h c zero le low' least f rest k g = absurd (omega (arith, height_pos a))
whole a h c (suc n) le low' least f rest k g = alone (expr n) c least (grade a) a (canon a rest) rest (h c n le low' rest k) f g

-- up to a closing bracket
pub in_bracket : (a : Tree) → Again a → (c : Bool) (n : ℕ) → 2 * height a ≤ n → height a ≤ 200 → (least : ℕ) → nat_le least (grade a) ≡ true → (rest : List Tok) → expr n c least (canon a (closing rest)) ≡ Some (a, closing rest)
in_bracket a h c n le low' least f rest = whole a h c n le low' least f (closing rest) (no_key_closing rest) (closed c least (grade a) rest)

-- ---- phrases inside brackets

-- one operand, and the closing bracket
pub inside : (n top : ℕ) (a : Tree) (x : Tok) (ts rest : List Tok) → operand (expr n) true (x ∷ ts) ≡ Some ((a, top), closing rest) → group (expr (suc n)) (x ∷ ts) ≡ Some ((value a, 13), rest)
unfolding expr
inside n top a x ts rest e = bracketed (expr (suc n)) a (x ∷ ts) rest (omega arith) (alone (expr n) true 0 top a (x ∷ ts) (closing rest) e (leb-zero top) (closed true 0 top rest))

-- one operand, one operator, and the closing bracket
pub inside_once : (n top : ℕ) (a d : Tree) (ts mid rest : List Tok) (x : Tok) (row : Row) → 1 ≤ length ts → operand (expr n) true ts ≡ Some ((a, top), x ∷ mid) → row_at true top (x ∷ mid) ≡ Some row → nat_le row.left top ≡ true → turn (expr n) true row a (x ∷ mid) ≡ Some (d, closing rest) → group (expr (suc n)) ts ≡ Some ((value d, 13), rest)
unfolding expr
inside_once n top a d ts mid rest x row some e r fits done =
    let applies : (nat_le 0 row.level && nat_le row.left top) ≡ true = rw (leb-zero row.level, fits) refl in
    bracketed (expr (suc n)) d ts rest some (once (expr n) true 0 top a d ts mid (closing rest) x row e (leb-zero top) r applies done (closed true 0 row.level rest))

-- ---- how a tree's canonical tokens begin

pub data Opens : Tok → Type 0 where
  by_number : {n : ℕ} → Opens (t.number n)
  by_string : {x : Text} → Opens (t.string x)
  by_ere : {x : Text} → Opens (t.ere x)
  by_name : {x : Text} → Opens (t.name x)
  by_function : {f : Text} → Opens (t.function_name f)
  by_builtin : {f : Builtin} → Opens (t.builtin f)
  by_bracket : Opens (t.mark m.LeftParenthesis)
  by_dollar : Opens (t.mark m.Dollar)

pub record Begins (ts : List Tok) : Type 0 where
  pub head : Tok
  pub tail : List Tok
  pub cut : ts ≡ head ∷ tail
  pub opens : Opens head

pub begins : (a : Tree) (rest : List Tok) → Begins (canon a rest)
begins (number n) rest = record { head = t.number n; tail = rest; cut = refl; opens = by_number }
begins (string x) rest = record { head = t.string x; tail = rest; cut = refl; opens = by_string }
begins (ere x) rest = record { head = t.ere x; tail = rest; cut = refl; opens = by_ere }
begins (variable x) rest = record { head = t.name x; tail = rest; cut = refl; opens = by_name }
begins (element x as') rest = record { head = t.name x; tail = _; cut = refl; opens = by_name }
begins (unary single.Field a) rest = record { head = t.mark m.Dollar; tail = _; cut = refl; opens = by_dollar }
begins (unary single.Not a) rest = record { head = t.mark m.LeftParenthesis; tail = _; cut = refl; opens = by_bracket }
begins (unary single.Plus a) rest = record { head = t.mark m.LeftParenthesis; tail = _; cut = refl; opens = by_bracket }
begins (unary single.Minus a) rest = record { head = t.mark m.LeftParenthesis; tail = _; cut = refl; opens = by_bracket }
begins (unary single.IncrementBefore a) rest = record { head = t.mark m.LeftParenthesis; tail = _; cut = refl; opens = by_bracket }
begins (unary single.DecrementBefore a) rest = record { head = t.mark m.LeftParenthesis; tail = _; cut = refl; opens = by_bracket }
begins (unary single.IncrementAfter a) rest = record { head = t.mark m.LeftParenthesis; tail = _; cut = refl; opens = by_bracket }
begins (unary single.DecrementAfter a) rest = record { head = t.mark m.LeftParenthesis; tail = _; cut = refl; opens = by_bracket }
begins (binary op a d) rest = record { head = t.mark m.LeftParenthesis; tail = _; cut = refl; opens = by_bracket }
begins (choice a d e) rest = record { head = t.mark m.LeftParenthesis; tail = _; cut = refl; opens = by_bracket }
begins (member as' x) rest = record { head = t.mark m.LeftParenthesis; tail = _; cut = refl; opens = by_bracket }
begins (call f as') rest = record { head = t.function_name f; tail = _; cut = refl; opens = by_function }
begins (builtin f as') rest = record { head = t.builtin f; tail = _; cut = refl; opens = by_builtin }

-- no such token is this mark
abbrev pub opens_not : Mark → Bool
opens_not m.LeftParenthesis = false
opens_not m.Dollar = false
opens_not _ = true

opens_beside : {x : Tok} (c : Bool) (top : ℕ) (ts : List Tok) → Opens x → row_at c top (x ∷ ts) ≡ beside
unfolding row_at
opens_beside c top ts by_number = refl
opens_beside c top ts by_string = refl
opens_beside c top ts by_ere = refl
opens_beside c top ts by_name = refl
opens_beside c top ts by_function = refl
opens_beside c top ts by_builtin = refl
opens_beside c top ts by_bracket = refl
opens_beside c top ts by_dollar = refl

pub opens_no_end : {x : Tok} (ts : List Tok) → Opens x → sees m.RightParenthesis (x ∷ ts) ≡ false
unfolding sees same_mark
opens_no_end ts by_number = refl
opens_no_end ts by_string = refl
opens_no_end ts by_ere = refl
opens_no_end ts by_name = refl
opens_no_end ts by_function = refl
opens_no_end ts by_builtin = refl
opens_no_end ts by_bracket = refl
opens_no_end ts by_dollar = refl

opens_no_key : {x : Tok} (ts : List Tok) → Opens x → NoKey (x ∷ ts)
unfolding sees same_mark
opens_no_key ts by_number = refl
opens_no_key ts by_string = refl
opens_no_key ts by_ere = refl
opens_no_key ts by_name = refl
opens_no_key ts by_function = refl
opens_no_key ts by_builtin = refl
opens_no_key ts by_bracket = refl
opens_no_key ts by_dollar = refl

opens_no_line : {x : Tok} (ts : List Tok) → Opens x → skip_lines (x ∷ ts) ≡ x ∷ ts
unfolding skip_lines sees same_mark
opens_no_line ts by_number = refl
opens_no_line ts by_string = refl
opens_no_line ts by_ere = refl
opens_no_line ts by_name = refl
opens_no_line ts by_function = refl
opens_no_line ts by_builtin = refl
opens_no_line ts by_bracket = refl
opens_no_line ts by_dollar = refl

pub no_lines : (a : Tree) (rest : List Tok) → skip_lines (canon a rest) ≡ canon a rest
no_lines a rest = let z = begins a rest in ap skip_lines z.cut ∙ opens_no_line z.tail z.opens ∙ sym z.cut

no_gap : (op : Double) (a : Tree) (rest : List Tok) → after_op op (canon a rest) ≡ canon a rest
unfolding after_op
no_gap double.Or a rest = no_lines a rest
no_gap double.And a rest = no_lines a rest
no_gap _ a rest = refl

pub some_tokens : (a : Tree) (rest : List Tok) → 1 ≤ length (canon a rest)
some_tokens a rest = let z = begins a rest in rw z.cut (omega arith)

-- ---- operators with one operand

sign_again : (op : Single) (a : Tree) → value a ≡ a → Again a → (c : Bool) (n : ℕ) → 2 * height a ≤ n → suc (height a) ≤ 200 → height (unary op a) ≡ suc (height a) → (rest : List Tok) → signed (expr n) c op (canon a (closing rest)) ≡ Some ((unary op a, 9), closing rest)
unfolding signed
sign_again op a v h c n le low' hh rest = rw (in_bracket a h c n le (omega arith) 9 (reaches 9 a (omega arith)) rest, v, low_is (unary op a) (closing rest) (omega arith)) refl

before_again : (op : Single) (a : Tree) → IsLvalue a → Again a → (c : Bool) (n : ℕ) → 2 * height a ≤ n → suc (height a) ≤ 200 → (rest : List Tok) → step_before (expr n) c op (canon a (closing rest)) ≡ Some ((unary op a, 11), closing rest)
unfolding step_before
before_again op a place h c n le low' rest = rw (in_bracket a h c n le (omega arith) 14 (le-leb 14 (grade a) (omega (arith, lvalue_grade a place))) rest, low_is (unary op a) (closing rest) low') refl

after_again : (s : Mark) (op : Single) (a : Tree) → row_at true 14 (t.mark s ∷ []) ≡ stepping op → ((ts : List Tok) → row_at true 14 (t.mark s ∷ ts) ≡ stepping op) → ((ts : List Tok) → NoKey (t.mark s ∷ ts)) → IsLvalue a → Again a → (n : ℕ) → 2 * height a ≤ n → suc (height a) ≤ 200 → (rest : List Tok) → group (expr (suc n)) (canon a (t.mark s ∷ closing rest)) ≡ Some ((unary op a, 13), rest)
unfolding turn
after_again s op a r rows free place h n le low' rest =
    inside_once n 14 a (unary op a) (canon a (t.mark s ∷ closing rest)) (closing rest) rest (t.mark s) (record { turn = Postfix op; level = 11; left = 14; right = 0 }) (some_tokens a (t.mark s ∷ closing rest))
    (rw (lvalue_grade a place) at (h true n (omega arith) (omega arith) (t.mark s ∷ closing rest) (free (closing rest)))) (rows (closing rest)) refl (low_is (unary op a) (closing rest) low')

increment_row : (ts : List Tok) → row_at true 14 (t.mark m.PlusPlus ∷ ts) ≡ stepping single.IncrementAfter
unfolding row_at
increment_row ts = refl

decrement_row : (ts : List Tok) → row_at true 14 (t.mark m.MinusMinus ∷ ts) ≡ stepping single.DecrementAfter
unfolding row_at
decrement_row ts = refl

increment_no_key : (ts : List Tok) → NoKey (t.mark m.PlusPlus ∷ ts)
unfolding sees same_mark
increment_no_key ts = refl

decrement_no_key : (ts : List Tok) → NoKey (t.mark m.MinusMinus ∷ ts)
unfolding sees same_mark
decrement_no_key ts = refl

-- nothing goes on a phrase of the tightest levels
tight_mark : (c : Bool) (s : Mark) → stops_by 12 13 (row_of_sign c 13 s) ≡ true
tight_mark true m.Greater = refl
tight_mark false m.Greater = refl
tight_mark c _ = refl

tight : (c : Bool) (rest : List Tok) → stops c 12 13 rest ≡ true
unfolding row_at
tight c [] = refl
tight c (t.mark x ∷ ts) = tight_mark c x
tight c (_ ∷ ts) = refl

field_again : (a : Tree) → value a ≡ a → Again a → (c : Bool) (n : ℕ) → 2 * height a ≤ n → suc (height a) ≤ 200 → (rest : List Tok) → field (expr (suc n)) c (opening (canon a (closing rest))) ≡ Some ((unary single.Field a, 14), rest)
unfolding field after sees same_mark expr operand
field_again a v h c n le low' rest =
    let inner : group (expr n) (canon a (closing rest)) ≡ Some ((value a, 13), rest) = bracketed (expr n) a (canon a (closing rest)) rest (some_tokens a (closing rest)) (in_bracket a h true n le (omega arith) 0 (leb-zero (grade a)) rest) in
    let phrase_is : phrase (expr n) c 12 (opening (canon a (closing rest))) ≡ Some (value a, rest) = alone (expr n) c 12 13 (value a) (opening (canon a (closing rest))) rest inner refl (tight c rest) in
    rw (phrase_is, v, v, low_is (unary single.Field a) rest low') refl

pub unary_again : (op : Single) (a : Tree) → FitsSingle op a → value a ≡ a → Again a → Again (unary op a)
unfolding operand
unary_again op a fits v h c zero le low' rest k = absurd (omega (arith, height_pos a))
unary_again single.Field a fits v h c (suc n) le low' rest k = field_again a v h c n (omega arith) low' rest
unary_again single.Not a fits v h c (suc n) le low' rest k = inside n 9 (unary single.Not a) (t.mark m.Not) (canon a (closing rest)) rest (sign_again single.Not a v h true n (omega arith) low' refl rest)
unary_again single.Plus a fits v h c (suc n) le low' rest k = inside n 9 (unary single.Plus a) (t.mark m.Plus) (canon a (closing rest)) rest (sign_again single.Plus a v h true n (omega arith) low' refl rest)
unary_again single.Minus a fits v h c (suc n) le low' rest k = inside n 9 (unary single.Minus a) (t.mark m.Minus) (canon a (closing rest)) rest (sign_again single.Minus a v h true n (omega arith) low' refl rest)
unary_again single.IncrementBefore a fits v h c (suc n) le low' rest k = inside n 11 (unary single.IncrementBefore a) (t.mark m.PlusPlus) (canon a (closing rest)) rest (before_again single.IncrementBefore a fits h true n (omega arith) low' rest)
unary_again single.DecrementBefore a fits v h c (suc n) le low' rest k = inside n 11 (unary single.DecrementBefore a) (t.mark m.MinusMinus) (canon a (closing rest)) rest (before_again single.DecrementBefore a fits h true n (omega arith) low' rest)
unary_again single.IncrementAfter a fits v h c (suc n) le low' rest k = after_again m.PlusPlus single.IncrementAfter a (increment_row []) increment_row increment_no_key fits h n (omega arith) low' rest
unary_again single.DecrementAfter a fits v h c (suc n) le low' rest k = after_again m.MinusMinus single.DecrementAfter a (decrement_row []) decrement_row decrement_no_key fits h n (omega arith) low' rest

-- ---- operators with two operands

abbrev RowsOf : Double → Option Mark → Type 0
RowsOf op None = Unit {0}
RowsOf op (Some s) = (top : ℕ) → row_of_sign true top s ≡ joining op

rows_of : (op : Double) → RowsOf op (sign_of op)
rows_of double.Concatenate = tt
rows_of double.Or = λ top. refl
rows_of _ = λ top. refl

abbrev SignsNoKey : Option Mark → Type 0
SignsNoKey None = Unit {0}
SignsNoKey (Some s) = same_mark s m.LeftBracket ≡ false

signs_no_key : (op : Double) → SignsNoKey (sign_of op)
unfolding same_mark
signs_no_key double.Concatenate = tt
signs_no_key double.Or = refl
signs_no_key _ = refl

no_key_mark : (s : Mark) (rest : List Tok) → same_mark s m.LeftBracket ≡ false → NoKey (t.mark s ∷ rest)
unfolding sees
no_key_mark s rest e = e

left_reaches : (op : Double) (a : Tree) → FitsDouble op a → nat_le (binding op).left (grade a) ≡ true
left_reaches double.Assign a fits = le-leb 14 (grade a) (omega (arith, lvalue_grade a fits))
left_reaches double.AddAssign a fits = le-leb 14 (grade a) (omega (arith, lvalue_grade a fits))
left_reaches double.SubtractAssign a fits = le-leb 14 (grade a) (omega (arith, lvalue_grade a fits))
left_reaches double.MultiplyAssign a fits = le-leb 14 (grade a) (omega (arith, lvalue_grade a fits))
left_reaches double.DivideAssign a fits = le-leb 14 (grade a) (omega (arith, lvalue_grade a fits))
left_reaches double.RemainderAssign a fits = le-leb 14 (grade a) (omega (arith, lvalue_grade a fits))
left_reaches double.PowerAssign a fits = le-leb 14 (grade a) (omega (arith, lvalue_grade a fits))
left_reaches _ a fits = reaches _ a (omega arith)

right_reaches : (op : Double) (a : Tree) → nat_le (binding op).right (grade a) ≡ true
right_reaches double.Or a = reaches 2 a (omega arith)
right_reaches _ a = reaches _ a (omega arith)

-- an operator with a sign
joined_again : (op : Double) (sign : Mark) (a d : Tree) → sign_of op ≡ Some sign → FitsDouble op a → value a ≡ a → right_side op d ≡ d → Again a → Again d → (n : ℕ) → 2 * height a ≤ suc n → 2 * height d ≤ n → height (binary op a d) ≤ 200 → (rest : List Tok) → group (expr (suc n)) (canon a (t.mark sign ∷ canon d (closing rest))) ≡ Some ((binary op a d, 13), rest)
unfolding row_at turn
joined_again op sign a d is fits v w h k n below above low' rest =
    let y = canon d (closing rest) in
    let row : Row = record { turn = Infix op; level = (binding op).level; left = (binding op).left; right = (binding op).right } in
    let rows : RowsOf op (Some sign) = rw is at (rows_of op) in
    let free : SignsNoKey (Some sign) = rw is at (signs_no_key op) in
    inside_once n (grade a) a (binary op a d) (canon a (t.mark sign ∷ y)) y rest (t.mark sign) row (some_tokens a (t.mark sign ∷ y)) (h true n below (omega arith) (t.mark sign ∷ y) (no_key_mark sign y free)) (rows (grade a)) (left_reaches op a fits)
    (rw (no_gap op d (closing rest), in_bracket d k true n above (omega arith) (binding op).right (right_reaches op d) rest, v, w, low_is (binary op a d) (closing rest) low') refl)

beside_again : (a d : Tree) → value a ≡ a → value d ≡ d → Again a → Again d → (n : ℕ) → 2 * height a ≤ suc n → 2 * height d ≤ n → height (binary double.Concatenate a d) ≤ 200 → (rest : List Tok) → group (expr (suc n)) (canon a (canon d (closing rest))) ≡ Some ((binary double.Concatenate a d, 13), rest)
unfolding turn
beside_again a d v w h k n below above low' rest =
    let y = canon d (closing rest) in
    let z = begins d (closing rest) in
    let row : Row = record { turn = Beside; level = 6; left = 6; right = 7 } in
    let free : NoKey y = rw z.cut (opens_no_key z.tail z.opens) in
    inside_once n (grade a) a (binary double.Concatenate a d) (canon a y) z.tail rest z.head row (some_tokens a y) (h true n below (omega arith) y free ∙ ap (λ q. Some ((a, grade a), q)) z.cut) (opens_beside true (grade a) z.tail z.opens) (reaches 6 a (omega arith))
    (rw (← z.cut) (rw (in_bracket d k true n above (omega arith) 7 (reaches 7 d (omega arith)) rest, v, w, low_is (binary double.Concatenate a d) (closing rest) low') refl))

binary_by : (o : Option Mark) (op : Double) (a d : Tree) → sign_of op ≡ o → FitsDouble op a → value a ≡ a → right_side op d ≡ d → Again a → Again d → Again (binary op a d)
unfolding operand
binary_by o op a d is fits v w h k c zero le low' rest free = absurd (omega (arith, height_pos a))
binary_by (Some s) op a d is fits v w h k c (suc n) le low' rest free = rw is (joined_again op s a d is fits v w h k n (omega arith) (omega arith) low' rest)
binary_by None double.Concatenate a d is fits v w h k c (suc n) le low' rest free = beside_again a d v w h k n (omega arith) (omega arith) low' rest
binary_by None _ a d is fits v w h k c (suc n) le low' rest free = absurd cc

pub binary_again : (op : Double) (a d : Tree) → FitsDouble op a → value a ≡ a → right_side op d ≡ d → Again a → Again d → Again (binary op a d)
binary_again op a d fits v w h k = binary_by (sign_of op) op a d refl fits v w h k

-- ---- choice

question_row : (top : ℕ) (ts : List Tok) → row_at true top (t.mark m.Question ∷ ts) ≡ choosing
unfolding row_at
question_row top ts = refl

question_no_key : (ts : List Tok) → NoKey (t.mark m.Question ∷ ts)
unfolding sees same_mark
question_no_key ts = refl

colon_no_key : (ts : List Tok) → NoKey (t.mark m.Colon ∷ ts)
unfolding sees same_mark
colon_no_key ts = refl

colon_stops : (c : Bool) (top : ℕ) (ts : List Tok) → stops c 0 top (t.mark m.Colon ∷ ts) ≡ true
unfolding row_at
colon_stops c top ts = refl

pass_colon : (ts : List Tok) → expect m.Colon (t.mark m.Colon ∷ ts) ≡ Some (tt, ts)
unfolding expect sees same_mark
pass_colon ts = refl

pub choice_again : (a d e : Tree) → value a ≡ a → value d ≡ d → value e ≡ e → Again a → Again d → Again e → Again (choice a d e)
unfolding operand turn
choice_again a d e u v w h k l c zero le low' rest free = absurd (omega (arith, height_pos a))
choice_again a d e u v w h k l c (suc n) le low' rest free =
    let z = canon e (closing rest) in
    let y = canon d (t.mark m.Colon ∷ z) in
    inside_once n (grade a) a (choice a d e) (canon a (t.mark m.Question ∷ y)) y rest (t.mark m.Question) (record { turn = Choosing; level = 0; left = 1; right = 0 }) (some_tokens a (t.mark m.Question ∷ y)) (h true n (omega arith) (omega arith) (t.mark m.Question ∷ y) (question_no_key y)) (question_row (grade a) y) (reaches 1 a (omega arith))
    (rw (whole d k true n (omega arith) (omega arith) 0 (leb-zero (grade d)) (t.mark m.Colon ∷ z) (colon_no_key z) (colon_stops true (grade d) z), pass_colon z, in_bracket e l true n (omega arith) (omega arith) 0 (leb-zero (grade e)) rest, u, v, w, low_is (choice a d e) (closing rest) low') refl)
