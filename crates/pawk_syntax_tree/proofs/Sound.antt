-- What is read is derived.
use Rattle.std.proofs.Common.{◌≡◌, ◌≤◌, ℕ, zero, suc, ◌+◌, Bool, true, false, ◌&&◌, ◌||◌, cond, List, [], ◌∷◌, ◌++◌, length, drop, Option, Some, None, refl, ap, ◌∙◌, arith, append_assoc, ◌⊎◌, inl, inr, not, le-leb}
use Rattle.std.proofs.lemmas.Bool.{cases_Bool, and_parts, leb-true, false≢true, eqb-true}
use Rattle.std.proofs.lemmas.Bool.Decides.{nat_tests}
use Rattle.std.specs.Prelude.{nat_le, ◌==◌}
use Rattle.pawk_lex.specs.declared.token.Mark.{Mark}
use Rattle.pawk_lex.specs.declared.token.Mark.TheVariants as m
use Rattle.pawk_lex.specs.declared.token.Builtin.{Builtin}
use Rattle.pawk_lex.specs.declared.token.Builtin.TheVariants as b
use Rattle.pawk_lex.specs.Bytes.{Text}
use Rattle.pawk_lex.specs.Tokens.{Tok}
use Rattle.pawk_lex.specs.Tokens as t
use Rattle.pawk_syntax_tree.specs.declared.tree.Single.{Single}
use Rattle.pawk_syntax_tree.specs.declared.tree.Single.TheVariants as single
use Rattle.pawk_syntax_tree.specs.declared.tree.Double.{Double}
use Rattle.pawk_syntax_tree.specs.declared.tree.Double.TheVariants as double
use Rattle.pawk_syntax_tree.specs.declared.levels.Turn.{Turn}
use Rattle.pawk_syntax_tree.specs.declared.levels.Turn.TheVariants.{Infix, Beside, Membership, Choosing, Postfix}
use Rattle.pawk_syntax_tree.specs.declared.levels.Row.{Row}
use Rattle.pawk_syntax_tree.specs.Tree.{Tree, element, unary, binary, choice, member, call, builtin, Trees, none, more, trees, value, right_side, argument, complete}
use Rattle.pawk_syntax_tree.specs.Levels.{binding, sign_of, row_of_sign, stepping, beside as beside_row}
use Rattle.pawk_syntax_tree.specs.Grammar.{MayAppear, Signs, not as is_not, plus, minus, StepsBefore, increment_before, decrement_before, StepsAfter, increment_after, decrement_after, IsUnsigned, IsNoStep, NoStep, NotNext, Derives, a_number, a_string, an_ere, a_group, a_call, a_builtin, a_length, a_variable, an_element, a_field, a_field_step, a_primary, no_lvalue, an_lvalue, a_step_before, a_step_after, a_sign, joined, beside, a_member, a_tuple_member, a_choice, wider, DerivesEach, one_phrase, one_more, DerivesAny, no_phrase, some}
use Rattle.pawk_syntax_tree.specs.Canonical.{height, IsSome}
use Rattle.pawk_syntax_tree.specs.Parse.{Parser, and_then, low, Operand, expect, expect_name, sees, row_at, bare, appended, climb_by, climb, turn, turn_by, operand, operand_by_mark, phrase, expr, list_from, list_up_to, arguments, called, built_in, named, group, group_of, signed, step_before, field_step, field, after, skip_lines, after_op, greatest_height}
use Rattle.pawk_syntax_tree.proofs.Tokens.{OnFound, on_bind, on_found, Expects, sees_sign, expects, names, not_next, skips, gaps}

-- a tree that is low is the tree itself
pub lows : (a : Tree) (ts : List Tok) → OnFound (λ d rest. (d ≡ a) × (rest ≡ ts)) (low a ts)
unfolding low
lows a ts = elim (cases_Bool (nat_le (height a) greatest_height)) [ inl e ↦ rw e (refl, refl) | inr e ↦ rw e tt ]

-- what holds of a tree at these tokens holds of it after the test of its height
pub on_low : {A : Type 0} (a : Tree) (ts : List Tok) (f : Tree → Parser A) (Q : A → List Tok → Type 0) → OnFound Q (f a ts) → OnFound Q (and_then (low a ts) f)
unfolding low
on_low a ts f Q h = elim (cases_Bool (nat_le (height a) greatest_height)) [ inl e ↦ rw e h | inr e ↦ rw e tt ]

pub is_low : (P : Tree → List Tok → Type 0) (a : Tree) (ts : List Tok) → P a ts → OnFound P (low a ts)
unfolding low
is_low P a ts h = elim (cases_Bool (nat_le (height a) greatest_height)) [ inl e ↦ rw e h | inr e ↦ rw e tt ]

-- ---- levels

-- the levels of operands and phrases, and those that are asked for
abbrev pub IsLevel : ℕ → Type 0
IsLevel top = (top ≤ 11) ⊎ ((top ≡ 13) ⊎ (top ≡ 14))

abbrev pub IsAsked : ℕ → Type 0
IsAsked least = (least ≤ 12) ⊎ (least ≡ 14)

primary_or_below : (c : Bool) (least top : ℕ) (all ts : List Tok) (a : Tree) → 13 ≤ top → Derives c top all ts a → Derives c 11 all ts a → least ≤ 12 → Derives c least all ts a
primary_or_below c least top all ts a high d e le = elim (cases_Bool (nat_le least 11)) [
  | inl f ↦ wider (leb-true least 11 f) (omega arith) e
  | inr f ↦ let twelve : least ≡ 12 = grind (arith, nat_tests) in rw twelve (a_primary high d)
]

lower : (c : Bool) (least top : ℕ) (all ts : List Tok) (a : Tree) → IsAsked least → IsLevel top → least ≤ top → (least ≤ 11 → top ≡ 14 → NoStep ts) → Derives c top all ts a → Derives c least all ts a
lower c least top all ts a asked (inl low) le free d = wider le low d
lower c least top all ts a (inl asked) (inr (inl thirteen)) le free d = primary_or_below c least top all ts a (omega arith) d (no_lvalue (rw thirteen at d)) asked
lower c least top all ts a (inl asked) (inr (inr fourteen)) le free d = elim (cases_Bool (nat_le least 11)) [
  | inl f ↦ let low : least ≤ 11 = leb-true least 11 f in wider low (omega arith) (an_lvalue (rw fourteen at d) (free low fourteen))
  | inr f ↦ let twelve : least ≡ 12 = grind (arith, nat_tests) in let high : 13 ≤ top = omega arith in rw twelve (a_primary high d)
]
lower c least top all ts a (inr asked) (inr (inl thirteen)) le free d = absurd (omega arith)
lower c least top all ts a (inr asked) (inr (inr fourteen)) le free d = rw asked (rw fourteen at d)

-- ---- what the row of an operator says of the tokens

abbrev pub Fits : Bool → ℕ → List Tok → ℕ → ℕ → ℕ → Turn → Type 0
Fits c top ts level left right (Infix op) = (s : Mark) × (rest : List Tok) × (ts ≡ t.mark s ∷ rest) × (sign_of op ≡ Some s) × MayAppear op c × (level ≡ (binding op).level) × (left ≡ (binding op).left) × (right ≡ (binding op).right)
Fits c top ts level left right Beside = IsUnsigned ts × (top ≡ 14 → NoStep ts) × (level ≡ 6) × (left ≡ 6) × (right ≡ 7)
Fits c top ts level left right Membership = (rest : List Tok) × (ts ≡ t.mark m.In ∷ rest) × (level ≡ 3) × (left ≡ 3)
Fits c top ts level left right Choosing = (rest : List Tok) × (ts ≡ t.mark m.Question ∷ rest) × (level ≡ 0) × (left ≡ 1)
Fits c top ts level left right (Postfix op) = (s : Mark) × (rest : List Tok) × (ts ≡ t.mark s ∷ rest) × StepsAfter s op × (level ≡ 11) × (left ≡ 14)

abbrev pub FitsRow : Bool → ℕ → List Tok → Option Row → Type 0
FitsRow c top ts None = Unit {0}
FitsRow c top ts (Some row) = Fits c top ts row.level row.left row.right row.turn

fits_increment : (c : Bool) (top : ℕ) (ts : List Tok) (q : Bool) → nat_le 14 top ≡ q → FitsRow c top (t.mark m.PlusPlus ∷ ts) (cond q (stepping single.IncrementAfter) beside_row)
fits_increment c top ts true e = (m.PlusPlus, ts, refl, increment_after, refl, refl)
fits_increment c top ts false e = (tt, (λ fourteen. absurd (grind (arith, nat_tests))), refl, refl, refl)

fits_decrement : (c : Bool) (top : ℕ) (ts : List Tok) (q : Bool) → nat_le 14 top ≡ q → FitsRow c top (t.mark m.MinusMinus ∷ ts) (cond q (stepping single.DecrementAfter) beside_row)
fits_decrement c top ts true e = (m.MinusMinus, ts, refl, decrement_after, refl, refl)
fits_decrement c top ts false e = (tt, (λ fourteen. absurd (grind (arith, nat_tests))), refl, refl, refl)

fits_sign : (c : Bool) (top : ℕ) (s : Mark) (ts : List Tok) → FitsRow c top (t.mark s ∷ ts) (row_of_sign c top s)
fits_sign c top m.Or ts = (m.Or, ts, refl, refl, tt, refl, refl, refl)
fits_sign c top m.And ts = (m.And, ts, refl, refl, tt, refl, refl, refl)
fits_sign c top m.Tilde ts = (m.Tilde, ts, refl, refl, tt, refl, refl, refl)
fits_sign c top m.NotMatch ts = (m.NotMatch, ts, refl, refl, tt, refl, refl, refl)
fits_sign c top m.Less ts = (m.Less, ts, refl, refl, tt, refl, refl, refl)
fits_sign c top m.LessEqual ts = (m.LessEqual, ts, refl, refl, tt, refl, refl, refl)
fits_sign c top m.Equal ts = (m.Equal, ts, refl, refl, tt, refl, refl, refl)
fits_sign c top m.NotEqual ts = (m.NotEqual, ts, refl, refl, tt, refl, refl, refl)
fits_sign true top m.Greater ts = (m.Greater, ts, refl, refl, tt, refl, refl, refl)
fits_sign false top m.Greater ts = tt
fits_sign c top m.GreaterEqual ts = (m.GreaterEqual, ts, refl, refl, tt, refl, refl, refl)
fits_sign c top m.Plus ts = (m.Plus, ts, refl, refl, tt, refl, refl, refl)
fits_sign c top m.Minus ts = (m.Minus, ts, refl, refl, tt, refl, refl, refl)
fits_sign c top m.Star ts = (m.Star, ts, refl, refl, tt, refl, refl, refl)
fits_sign c top m.Slash ts = (m.Slash, ts, refl, refl, tt, refl, refl, refl)
fits_sign c top m.Percent ts = (m.Percent, ts, refl, refl, tt, refl, refl, refl)
fits_sign c top m.Caret ts = (m.Caret, ts, refl, refl, tt, refl, refl, refl)
fits_sign c top m.Assign ts = (m.Assign, ts, refl, refl, tt, refl, refl, refl)
fits_sign c top m.PlusAssign ts = (m.PlusAssign, ts, refl, refl, tt, refl, refl, refl)
fits_sign c top m.MinusAssign ts = (m.MinusAssign, ts, refl, refl, tt, refl, refl, refl)
fits_sign c top m.StarAssign ts = (m.StarAssign, ts, refl, refl, tt, refl, refl, refl)
fits_sign c top m.SlashAssign ts = (m.SlashAssign, ts, refl, refl, tt, refl, refl, refl)
fits_sign c top m.PercentAssign ts = (m.PercentAssign, ts, refl, refl, tt, refl, refl, refl)
fits_sign c top m.CaretAssign ts = (m.CaretAssign, ts, refl, refl, tt, refl, refl, refl)
fits_sign c top m.In ts = (ts, refl, refl, refl)
fits_sign c top m.Question ts = (ts, refl, refl, refl)
fits_sign c top m.PlusPlus ts = fits_increment c top ts (nat_le 14 top) refl
fits_sign c top m.MinusMinus ts = fits_decrement c top ts (nat_le 14 top) refl
fits_sign c top m.Not ts = (tt, (λ _. tt), refl, refl, refl)
fits_sign c top m.Dollar ts = (tt, (λ _. tt), refl, refl, refl)
fits_sign c top m.LeftParenthesis ts = (tt, (λ _. tt), refl, refl, refl)
fits_sign c top _ ts = tt

fits : (c : Bool) (top : ℕ) (ts : List Tok) → FitsRow c top ts (row_at c top ts)
unfolding row_at
fits c top [] = tt
fits c top (t.mark s ∷ ts) = fits_sign c top s ts
fits c top (_ ∷ ts) = (tt, (λ _. tt), refl, refl, refl)

-- no operator of the level least or tighter goes on, after an operand of the level top
abbrev pub stops_by : ℕ → ℕ → Option Row → Bool
stops_by least top None = true
stops_by least top (Some row) = not (nat_le least row.level && nat_le row.left top)

-- where an lvalue is left alone, no `++` comes next
no_step_sign : (c : Bool) (least : ℕ) (s : Mark) → least ≤ 11 → stops_by least 14 (row_of_sign c 14 s) ≡ true → IsNoStep (t.mark s)
no_step_sign c least m.PlusPlus low e = let f : nat_le least 11 ≡ true = le-leb least 11 low in absurd (false≢true (rw f at e))
no_step_sign c least m.MinusMinus low e = let f : nat_le least 11 ≡ true = le-leb least 11 low in absurd (false≢true (rw f at e))
no_step_sign c least _ low e = tt

no_step : (c : Bool) (least : ℕ) (ts : List Tok) → least ≤ 11 → stops_by least 14 (row_at c 14 ts) ≡ true → NoStep ts
unfolding row_at
no_step c least [] low e = tt
no_step c least (t.mark s ∷ ts) low e = no_step_sign c least s low e
no_step c least (_ ∷ ts) low e = tt

-- ---- the levels of an operator's sides

abbrev SignNoStep : Option Mark → Type 0
SignNoStep None = Unit {0}
SignNoStep (Some s) = IsNoStep (t.mark s)

sign_no_step : (op : Double) → SignNoStep (sign_of op)
sign_no_step double.Or = tt
sign_no_step _ = tt

level_test : (op : Double) → nat_le (binding op).level 11 ≡ true
level_test double.Or = refl
level_test _ = refl

left_test : (op : Double) → (nat_le (binding op).left 12 || (binding op).left == 14) ≡ true
left_test double.Or = refl
left_test _ = refl

right_test : (op : Double) → nat_le (binding op).right 12 ≡ true
right_test double.Or = refl
right_test _ = refl

asked : (n : ℕ) → (nat_le n 12 || n == 14) ≡ true → IsAsked n
asked n e = elim (cases_Bool (nat_le n 12)) [
  | inl f ↦ inl (leb-true n 12 f)
  | inr f ↦ inr (eqb-true n 14 (rw f at e))
]

left_asked : (op : Double) → IsAsked (binding op).left
left_asked op = asked (binding op).left (left_test op)

right_asked : (op : Double) → IsAsked (binding op).right
right_asked op = inl (leb-true (binding op).right 12 (right_test op))

pub level_low : (op : Double) → (binding op).level ≤ 11
level_low op = leb-true (binding op).level 11 (level_test op)

no_step_after : (op : Double) (s : Mark) → sign_of op ≡ Some s → IsNoStep (t.mark s)
no_step_after op s e = let h : SignNoStep (Some s) = rw e at (sign_no_step op) in h

-- ---- phrases

abbrev pub ReadsOperand : Bool → List Tok → Operand → List Tok → Type 0
ReadsOperand c ts o rest = IsLevel o.1 × Derives c o.1 ts rest o.0

-- the trees after front
pub record ReadsEach (c : Bool) (f : Option Builtin) (front : List Tree) (ts : List Tok) (es : List Tree) (rest : List Tok) : Type 0 where
  pub others : List Tree
  pub all : es ≡ front ++ others
  pub derives : DerivesEach c f (length front) ts rest (trees others)

sole : (top : ℕ) → IsLevel top → 14 ≤ top → top ≡ 14
sole top (inl low) le = absurd (omega arith)
sole top (inr (inl thirteen)) le = absurd (omega arith)
sole top (inr (inr fourteen)) le = fourteen

pub each_some : {c : Bool} {f : Option Builtin} {place : ℕ} {ts rest : List Tok} {bs : Trees} → DerivesEach c f place ts rest bs → IsSome bs
each_some (one_phrase d) = tt
each_some (one_more d gap ds) = tt

pub record IsAlone (ts rest : List Tok) (a : Tree) : Type 0 where
  pub inner : Tree
  pub same : a ≡ value inner
  pub derives : Derives true 0 ts rest inner

pub alone : {ts rest : List Tok} {a : Tree} → DerivesEach true None 0 ts rest (more a none) → IsAlone ts rest a
alone (one_phrase {a = a} d) = record { inner = a; same = refl; derives = d }
alone (one_more d gap ds) = absurd (each_some ds)

pub longer_by_one : (front : List Tree) (a : Tree) → length (front ++ a ∷ []) ≡ suc (length front)
longer_by_one [] a = refl
longer_by_one (x ∷ front) a = ap suc (longer_by_one front a)

module _ (expr : Bool → ℕ → Parser Tree) (h : (c : Bool) (k : ℕ) → IsAsked k → (ts : List Tok) → OnFound (λ a rest. Derives c k ts rest a) (expr c k ts)) where
  pub sound_list : (c : Bool) (f : Option Builtin) (n : ℕ) (front : List Tree) (ts : List Tok) → OnFound (ReadsEach c f front ts) (list_from expr c f n front ts)
  unfolding list_from after
  sound_list c f zero front ts = tt
  sound_list c f (suc n) front ts =
      on_bind (expr c 0 ts) _ (λ a rest. Derives c 0 ts rest a) _ (h c 0 (inl (omega arith)) ts) (λ a rest d. elim (cases_Bool (sees m.Comma rest)) [
        | inl e ↦ rw e (on_found (list_from expr c f n (appended f front a) (skip_lines (drop 1 rest))) (sound_list c f n (appended f front a) (skip_lines (drop 1 rest))) (λ es end q.
            record {
              others = argument f (length front) a ∷ q.others;
              all = q.all ∙ append_assoc front (argument f (length front) a ∷ []) q.others;
              derives = one_more (rw (sees_sign m.Comma rest e) at d) (skips (drop 1 rest)) (rw (longer_by_one front (argument f (length front) a)) at q.derives);
            }))
        | inr e ↦ rw e (record { others = argument f (length front) a ∷ []; all = refl; derives = one_phrase d })
      ])

  pub sound_list_up_to : (close : Mark) (f : Option Builtin) (ts : List Tok) → OnFound (λ es rest. DerivesEach true f 0 ts (t.mark close ∷ rest) (trees es)) (list_up_to expr close f ts)
  unfolding list_up_to
  sound_list_up_to close f ts =
      on_bind (list_from expr true f (length ts) [] ts) _ (ReadsEach true f [] ts) _ (sound_list true f (length ts) [] ts) (λ es rest q.
      on_bind (expect close rest) _ (λ _ end. Expects close rest end) _ (expects close rest) (λ _ end e.
      rw (← e) (rw q.all q.derives)))

  sound_arguments : (f : Option Builtin) (ts : List Tok) → OnFound (λ es rest. (inner : List Tok) × (ts ≡ t.mark m.LeftParenthesis ∷ inner) × DerivesAny f inner (t.mark m.RightParenthesis ∷ rest) (trees es)) (arguments expr f ts)
  unfolding arguments after
  sound_arguments f ts =
      on_bind (expect m.LeftParenthesis ts) _ (λ _ rest. Expects m.LeftParenthesis ts rest) _ (expects m.LeftParenthesis ts) (λ _ mid g. elim (cases_Bool (sees m.RightParenthesis mid)) [
        | inl e ↦ rw e (mid, g, rw (← sees_sign m.RightParenthesis mid e) no_phrase)
        | inr e ↦ rw e (on_found (list_up_to expr m.RightParenthesis f mid) (sound_list_up_to m.RightParenthesis f mid) (λ es rest q. (mid, g, some q)))
      ])

  sound_called : (c : Bool) (f : Text) (ts : List Tok) → OnFound (ReadsOperand c (t.function_name f ∷ ts)) (called expr f ts)
  unfolding called
  sound_called c f ts =
      on_bind (arguments expr None ts) _ _ _ (sound_arguments None ts) (λ es rest q.
      on_low (call f (trees es)) rest _ _ (inr (inl refl), rw q.1 (a_call q.2)))

  sound_bare : (c : Bool) (f : Builtin) (ts : List Tok) → NotNext m.LeftParenthesis ts → OnFound (ReadsOperand c (t.builtin f ∷ ts)) (bare f ts)
  sound_bare c b.Length ts free = (inr (inl refl), a_length free)
  sound_bare c _ ts free = tt

  sound_built_in : (c : Bool) (f : Builtin) (ts : List Tok) → OnFound (ReadsOperand c (t.builtin f ∷ ts)) (built_in expr f ts)
  unfolding built_in
  sound_built_in c f ts = elim (cases_Bool (sees m.LeftParenthesis ts)) [
    | inl e ↦ rw e (on_bind (arguments expr (Some f) ts) _ _ _ (sound_arguments (Some f) ts) (λ es rest q.
        on_low (builtin f (complete f (trees es))) rest _ _ (inr (inl refl), rw q.1 (a_builtin q.2))))
    | inr e ↦ rw e (sound_bare c f ts (not_next m.LeftParenthesis ts e))
  ]

  sound_named : (c : Bool) (x : Text) (ts : List Tok) → OnFound (ReadsOperand c (t.name x ∷ ts)) (named expr x ts)
  unfolding named after
  sound_named c x ts = elim (cases_Bool (sees m.LeftBracket ts)) [
    | inl e ↦ rw e (on_bind (list_up_to expr m.RightBracket None (drop 1 ts)) _ _ _ (sound_list_up_to m.RightBracket None (drop 1 ts)) (λ es rest q.
        on_low (element x (trees es)) rest _ _ (inr (inr refl), rw (sees_sign m.LeftBracket ts e) (an_element q))))
    | inr e ↦ rw e (inr (inr refl), a_variable)
  ]

  pub sound_group_of : (c : Bool) (es : List Tree) (ts rest : List Tok) → DerivesEach true None 0 ts (t.mark m.RightParenthesis ∷ rest) (trees es) → OnFound (ReadsOperand c (t.mark m.LeftParenthesis ∷ ts)) (group_of expr es rest)
  sound_group_of c [] ts rest d = tt
  sound_group_of c (a ∷ []) ts rest d = let k = alone d in (inr (inl refl), rw k.same (a_group k.derives))
  sound_group_of c (a ∷ e ∷ es) ts rest d =
      on_bind (expect m.In rest) _ (λ _ end. Expects m.In rest end) _ (expects m.In rest) (λ _ mid g.
      on_bind (expect_name mid) _ (λ x end. mid ≡ t.name x ∷ end) _ (names mid) (λ x end k.
      on_low (member (trees (a ∷ e ∷ es)) x) end _ _ (inl (omega arith), a_tuple_member (rw (g, k) at d))))

  sound_group : (c : Bool) (ts : List Tok) → OnFound (ReadsOperand c (t.mark m.LeftParenthesis ∷ ts)) (group expr ts)
  unfolding group
  sound_group c ts =
      on_bind (list_up_to expr m.RightParenthesis None ts) _ _ _ (sound_list_up_to m.RightParenthesis None ts) (λ es rest d. sound_group_of c es ts rest d)

  sound_signed : (c : Bool) (s : Mark) (op : Single) → Signs s op → (ts : List Tok) → OnFound (ReadsOperand c (t.mark s ∷ ts)) (signed expr c op ts)
  unfolding signed
  sound_signed c s op is ts =
      on_bind (expr c 9 ts) _ (λ a rest. Derives c 9 ts rest a) _ (h c 9 (inl (omega arith)) ts) (λ a rest d.
      on_low (unary op (value a)) rest _ _ (inl (omega arith), a_sign is d))

  sound_step_before : (c : Bool) (s : Mark) (op : Single) → StepsBefore s op → (ts : List Tok) → OnFound (ReadsOperand c (t.mark s ∷ ts)) (step_before expr c op ts)
  unfolding step_before
  sound_step_before c s op is ts =
      on_bind (expr c 14 ts) _ (λ a rest. Derives c 14 ts rest a) _ (h c 14 (inr refl) ts) (λ a rest d.
      on_low (unary op a) rest _ _ (inl (omega arith), a_step_before is d))

  sound_field_step : (c : Bool) (s : Mark) (op : Single) → StepsBefore s op → (ts : List Tok) → OnFound (ReadsOperand c (t.mark m.Dollar ∷ t.mark s ∷ ts)) (field_step expr c op ts)
  unfolding field_step
  sound_field_step c s op is ts =
      on_bind (expr c 14 ts) _ (λ a rest. Derives c 14 ts rest a) _ (h c 14 (inr refl) ts) (λ a rest d.
      on_low (unary op a) rest _ _ (on_low (unary single.Field (unary op a)) rest _ _ (inr (inr refl), a_field_step is d)))

  sound_field : (c : Bool) (ts : List Tok) → OnFound (ReadsOperand c (t.mark m.Dollar ∷ ts)) (field expr c ts)
  unfolding field after
  sound_field c ts = elim (cases_Bool (sees m.PlusPlus ts)) [
    | inl e ↦ rw e (rw (sees_sign m.PlusPlus ts e) (sound_field_step c m.PlusPlus single.IncrementBefore increment_before (drop 1 ts)))
    | inr e ↦ rw e (elim (cases_Bool (sees m.MinusMinus ts)) [
      | inl f ↦ rw f (rw (sees_sign m.MinusMinus ts f) (sound_field_step c m.MinusMinus single.DecrementBefore decrement_before (drop 1 ts)))
      | inr f ↦ rw f (on_bind (expr c 12 ts) _ (λ a rest. Derives c 12 ts rest a) _ (h c 12 (inl (omega arith)) ts) (λ a rest d.
          on_low (unary single.Field (value a)) rest _ _ (inr (inr refl), a_field d)))
    ])
  ]

  sound_by_mark : (c : Bool) (s : Mark) (ts : List Tok) → OnFound (ReadsOperand c (t.mark s ∷ ts)) (operand_by_mark expr c s ts)
  sound_by_mark c m.LeftParenthesis ts = sound_group c ts
  sound_by_mark c m.Not ts = sound_signed c m.Not single.Not is_not ts
  sound_by_mark c m.Plus ts = sound_signed c m.Plus single.Plus plus ts
  sound_by_mark c m.Minus ts = sound_signed c m.Minus single.Minus minus ts
  sound_by_mark c m.PlusPlus ts = sound_step_before c m.PlusPlus single.IncrementBefore increment_before ts
  sound_by_mark c m.MinusMinus ts = sound_step_before c m.MinusMinus single.DecrementBefore decrement_before ts
  sound_by_mark c m.Dollar ts = sound_field c ts
  sound_by_mark c _ ts = tt

  pub sound_operand : (c : Bool) (ts : List Tok) → OnFound (ReadsOperand c ts) (operand expr c ts)
  unfolding operand
  sound_operand c [] = tt
  sound_operand c (t.number n ∷ ts) = (inr (inl refl), a_number)
  sound_operand c (t.string x ∷ ts) = (inr (inl refl), a_string)
  sound_operand c (t.ere x ∷ ts) = (inr (inl refl), an_ere)
  sound_operand c (t.name x ∷ ts) = sound_named c x ts
  sound_operand c (t.function_name f ∷ ts) = sound_called c f ts
  sound_operand c (t.builtin f ∷ ts) = sound_built_in c f ts
  sound_operand c (t.mark s ∷ ts) = sound_by_mark c s ts

  -- An operand of the level top was read from the tokens all, up to ts, and an operator takes it further.
  sound_turn : (c : Bool) (all ts : List Tok) (top : ℕ) (left : Tree) (row : Row) → Fits c top ts row.level row.left row.right row.turn → row.left ≤ top → IsLevel top → Derives c top all ts left → (row.level ≤ 11) × OnFound (λ a rest. Derives c row.level all rest a) (turn expr c row left ts)
  unfolding turn
  sound_turn c all ts top left row = go row.level row.left row.right row.turn
    where
      go : (level l right : ℕ) (x : Turn) → Fits c top ts level l right x → l ≤ top → IsLevel top → Derives c top all ts left → (level ≤ 11) × OnFound (λ a rest. Derives c level all rest a) (turn_by expr c left right x ts)
      go level l right (Infix op) (sign, mid, e, sign_is, may, level_is, left_is, right_is) le is d =
          let le' : (binding op).left ≤ top = rw left_is at le in
          let from : Derives c (binding op).left all (t.mark sign ∷ mid) left = lower c (binding op).left top all (t.mark sign ∷ mid) left (left_asked op) is le' (λ _ _. no_step_after op sign sign_is) (rw e at d) in (
            rw level_is (level_low op),
            rw (e, right_is) (on_bind (expr c (binding op).right (after_op op mid)) _ (λ a rest. Derives c (binding op).right (after_op op mid) rest a) _ (h c (binding op).right (right_asked op) (after_op op mid)) (λ a end q.
                is_low _ (binary op (value left) (right_side op a)) end (rw level_is (joined sign_is may from (gaps op mid) q)))),
          )
      go level l right Beside (free, apart, e, f, g) le is d = (
        omega arith,
        on_bind (expr c right ts) _ (λ a rest. Derives c right ts rest a) _ (h c right (inl (omega arith)) ts) (λ a end q.
            is_low _ (binary double.Concatenate (value left) (value a)) end (rw e (beside (lower c 6 top all ts left (inl (omega arith)) is (omega arith) (λ _. apart) d) free (rw g at q)))),
      )
      go level l right Membership (mid, e, f, g) le is d = (
        omega arith,
        rw e (on_bind (expect_name mid) _ (λ x end. mid ≡ t.name x ∷ end) _ (names mid) (λ x end k.
            let from : Derives c 3 all (t.mark m.In ∷ mid) left = lower c 3 top all (t.mark m.In ∷ mid) left (inl (omega arith)) is (omega arith) (λ _ _. tt) (rw e at d) in
            is_low _ (member (more (value left) none) x) end (rw f (a_member (rw k at from))))),
      )
      go level l right Choosing (mid, e, f, g) le is d =
          let from : Derives c 1 all (t.mark m.Question ∷ mid) left = lower c 1 top all (t.mark m.Question ∷ mid) left (inl (omega arith)) is (omega arith) (λ _ _. tt) (rw e at d) in (
            omega arith,
            rw e (on_bind (expr c 0 mid) _ (λ a rest. Derives c 0 mid rest a) _ (h c 0 (inl (omega arith)) mid) (λ a rest p.
                on_bind (expect m.Colon rest) _ (λ _ end. Expects m.Colon rest end) _ (expects m.Colon rest) (λ _ next k.
                on_bind (expr c 0 next) _ (λ a end. Derives c 0 next end a) _ (h c 0 (inl (omega arith)) next) (λ o end q.
                is_low _ (choice (value left) (value a) (value o)) end (rw f (a_choice from (rw k at p) q)))))),
          )
      go level l right (Postfix op) (sign, mid, e, is_step, f, g) le is d =
          let same : top ≡ 14 = sole top is (omega arith) in
          (omega arith, rw e (is_low _ (unary op left) mid (rw f (a_step_after is_step (rw (same, e) at d)))))

  pub sound_climb : (c : Bool) (n least top : ℕ) (left : Tree) (all ts : List Tok) → IsAsked least → least ≤ top → IsLevel top → Derives c top all ts left → OnFound (λ a rest. Derives c least all rest a) (climb expr c n least top left ts)
  unfolding climb
  sound_climb c zero least top left all ts asked le is d = tt
  sound_climb c (suc n) least top left all ts asked le is d = go (λ level a rest low below q. sound_climb c n least level a all rest asked below (inl low) q) (row_at c top ts) refl (fits c top ts)
    where
      here : stops_by least top (row_at c top ts) ≡ true → Derives c least all ts left
      here e = lower c least top all ts left asked is le (λ low fourteen. no_step c least ts low (rw fourteen at e)) d

      go : ((level : ℕ) (a : Tree) (rest : List Tok) → level ≤ 11 → least ≤ level → Derives c level all rest a → OnFound (λ b end. Derives c least all end b) (climb expr c n least level a rest)) → (o : Option Row) → row_at c top ts ≡ o → FitsRow c top ts o → OnFound (λ b end. Derives c least all end b) (climb_by expr least left (λ row. (λ i. and_then (turn expr c row left i) (climb expr c n least row.level))) o top ts)
      go again None e f = here (ap (stops_by least top) e)
      go again (Some row) e f = elim (cases_Bool (nat_le least row.level && nat_le row.left top)) [
        | inl g ↦ rw g (
            let both = and_parts (nat_le least row.level) (nat_le row.left top) g in
            let found = sound_turn c all ts top left row f (leb-true _ _ both.1) is d in
            on_bind (turn expr c row left ts) _ (λ a rest. Derives c row.level all rest a) _ found.1 (λ a rest q.
            again row.level a rest found.0 (leb-true _ _ both.0) q))
        | inr g ↦ rw g (here (ap (stops_by least top) e ∙ rw g refl))
      ]

  sound_phrase : (c : Bool) (least : ℕ) → IsAsked least → (ts : List Tok) → OnFound (λ a rest. Derives c least ts rest a) (phrase expr c least ts)
  unfolding phrase
  sound_phrase c least asked ts =
      on_bind (operand expr c ts) _ (ReadsOperand c ts) _ (sound_operand c ts) (λ o rest r. elim (cases_Bool (nat_le least o.1)) [
        | inl e ↦ rw e (sound_climb c (length rest + 1) least o.1 o.0 ts rest asked (leb-true _ _ e) r.0 r.1)
        | inr e ↦ rw e tt
      ])

-- what expr reads is derived
pub sound : (depth : ℕ) (c : Bool) (least : ℕ) → IsAsked least → (ts : List Tok) → OnFound (λ a rest. Derives c least ts rest a) (expr depth c least ts)
unfolding expr
sound zero c least asked ts = tt
sound (suc depth) c least asked ts = sound_phrase (expr depth) (sound depth) c least asked ts
