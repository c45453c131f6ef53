-- No item that is read is too high.
use Rattle.std.proofs.Common.{◌≡◌, ◌≤◌, ℕ, zero, suc, Bool, true, false, List, [], ◌∷◌, ◌++◌, length, drop, Some, inl, inr}
use Rattle.std.specs.Prelude.{nat_le}
use Rattle.std.proofs.lemmas.Bool.{cases_Bool, leb-true}
use Rattle.pawk_lex.specs.declared.token.Mark.{Mark}
use Rattle.pawk_lex.specs.declared.token.Mark.TheVariants as m
use Rattle.pawk_lex.specs.Tokens.{Tok}
use Rattle.pawk_lex.specs.Tokens as t
use Rattle.pawk_syntax_tree.specs.Parse.{expect, sees, skip_lines, after, greatest_height}
use Rattle.pawk_syntax_tree.proofs.Tokens.{OnFound, on_bind, anything}
use Rattle.pawk_syntax_tree.specs.Statement.{Stmts}
use Rattle.pawk_syntax_tree.specs.StatementParse.{whole}
use Rattle.pawk_syntax_tree.specs.Item.{Part, begin, end, always, matching, between, define, print_record, height_of_part, AreLow}
use Rattle.pawk_syntax_tree.specs.ItemParse.{action, low_part, with_action, action_or_none, pattern, parameters, function_name, function_on, item_by, item, separated, items_from, program}

abbrev IsLow : Part × Bool → List Tok → Type 0
IsLow p rest = height_of_part p.0 ≤ greatest_height

low_is : (closes : Bool) (x : Part) (ts : List Tok) → OnFound IsLow (low_part closes x ts)
unfolding low_part
low_is closes x ts = elim (cases_Bool (nat_le (height_of_part x) greatest_height)) [
  | inl e ↦ rw e (leb-true (height_of_part x) greatest_height e)
  | inr e ↦ rw e tt
]

low_action : (make : Stmts → Part) (ts : List Tok) → OnFound IsLow (with_action make ts)
unfolding with_action
low_action make ts = on_bind (action ts) _ (λ _ _. Unit {0}) _ (anything (action ts)) (λ a rest _. low_is true (make a) rest)

low_or_none : (make : Stmts → Part) (ts : List Tok) → OnFound IsLow (action_or_none make ts)
unfolding action_or_none
low_or_none make ts = elim (cases_Bool (sees m.LeftBrace ts)) [
  | inl e ↦ rw e (low_action make ts)
  | inr e ↦ rw e (low_is false (make print_record) ts)
]

low_pattern : (ts : List Tok) → OnFound IsLow (pattern ts)
unfolding pattern after
low_pattern ts =
    on_bind (whole ts) _ (λ _ _. Unit {0}) _ (anything (whole ts)) (λ p mid _. elim (cases_Bool (sees m.Comma mid)) [
      | inl e ↦ rw e (
          let from = skip_lines (drop 1 mid) in
          on_bind (whole from) _ (λ _ _. Unit {0}) _ (anything (whole from)) (λ q rest _. low_or_none (between p q) rest))
      | inr e ↦ rw e (low_or_none (matching p) mid)
    ])

low_function : (ts : List Tok) → OnFound IsLow (function_on ts)
unfolding function_on
low_function ts =
    on_bind (function_name ts) _ (λ _ _. Unit {0}) _ (anything (function_name ts)) (λ f one _.
    on_bind (expect m.LeftParenthesis one) _ (λ _ _. Unit {0}) _ (anything (expect m.LeftParenthesis one)) (λ _ two _.
    on_bind (parameters two) _ (λ _ _. Unit {0}) _ (anything (parameters two)) (λ ps three _. low_action (define f ps) (skip_lines three))))

low_by : (s : Mark) (ts : List Tok) → OnFound IsLow (item_by s (t.mark s ∷ ts))
low_by m.Begin ts = low_action begin ts
low_by m.End ts = low_action end ts
low_by m.LeftBrace ts = low_action always (t.mark m.LeftBrace ∷ ts)
low_by m.Function ts = low_function ts
low_by s ts = low_pattern (t.mark s ∷ ts)

low_item : (ts : List Tok) → OnFound IsLow (item ts)
unfolding item
low_item [] = tt
low_item (t.mark s ∷ ts) = low_by s ts
low_item (x ∷ ts) = low_pattern (x ∷ ts)

one_more : (front : List Part) (x : Part) → AreLow front → height_of_part x ≤ greatest_height → AreLow (front ++ x ∷ [])
one_more [] x low h = (h, tt)
one_more (y ∷ front) x low h = (low.0, one_more front x low.1 h)

low_items : (n : ℕ) (front : List Part) (ts : List Tok) → AreLow front → OnFound (λ xs _. AreLow xs) (items_from n front ts)
unfolding items_from
low_items zero front ts low = tt
low_items (suc n) front [] low = low
low_items (suc n) front (x ∷ ts) low =
    on_bind (item (x ∷ ts)) _ IsLow _ (low_item (x ∷ ts)) (λ p mid h.
    on_bind (separated p.1 mid) _ (λ _ _. Unit {0}) _ (anything (separated p.1 mid)) (λ _ rest _.
    low_items n (front ++ p.0 ∷ []) rest (one_more front p.0 low h)))

low_program : (ts : List Tok) → OnFound (λ xs _. AreLow xs) (program ts)
unfolding program
low_program ts = let from = skip_lines ts in low_items (suc (length from)) [] from tt

pub read_is_low : (ts rest : List Tok) (xs : List Part) → program ts ≡ Some (xs, rest) → AreLow xs
read_is_low ts rest xs e = let found : OnFound (λ ys _. AreLow ys) (Some (xs, rest)) = rw e at (low_program ts) in found
