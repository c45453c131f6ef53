-- The grammar of expressions (POSIX.1-2017, awk, "Grammar"). Each relation reads: `ts` begins with such a phrase, which
-- has this tree, and `rest` is what follows it. Each rule has a production of the standard beside it.
use Rattle.std.specs.Prelude.{◌≡◌, ◌≤◌, ℕ, suc, Bool, true, false, List, [], ◌∷◌, Option, Some, None}
use Rattle.pawk_lex.specs.declared.token.Mark.{Mark}
use Rattle.pawk_lex.specs.declared.token.Mark.TheVariants as m
use Rattle.pawk_lex.specs.declared.token.Builtin.{Builtin}
use Rattle.pawk_lex.specs.declared.token.Builtin.TheVariants as b
use Rattle.pawk_lex.specs.Bytes.{Text}
use Rattle.pawk_lex.specs.Tokens.{Tok}
use Rattle.pawk_lex.specs.Tokens as t
use Rattle.pawk_syntax_tree.specs.declared.tree.Single.{Single}
use Rattle.pawk_syntax_tree.specs.declared.tree.Single.TheVariants as single
use Rattle.pawk_syntax_tree.specs.declared.tree.Double.{Double}
use Rattle.pawk_syntax_tree.specs.declared.tree.Double.TheVariants as double
use Rattle.pawk_syntax_tree.specs.Tree.{Tree, number, string, ere, variable, element, unary, binary, choice, member, call, builtin, Trees, none, more, record_tree, value, right_side, argument, complete}
use Rattle.pawk_syntax_tree.specs.Levels.{binding, sign_of}

-- newline_opt: any number of newlines
pub data Newlines : List Tok → List Tok → Type 0 where
  no_line : {ts : List Tok} → Newlines ts ts
  a_line : {ts rest : List Tok} → Newlines ts rest → Newlines (t.mark m.Newline ∷ ts) rest

-- what may come between an operator and its right side
abbrev pub Gap : Double → List Tok → List Tok → Type 0
Gap double.Or ts rest = Newlines ts rest
Gap double.And ts rest = Newlines ts rest
Gap _ ts rest = ts ≡ rest

-- In a list of print outside all brackets `>` is no comparison.
abbrev pub MayAppear : Double → Bool → Type 0
MayAppear double.Greater false = ⊥
MayAppear _ _ = Unit {0}

pub data Signs : Mark → Single → Type 0 where
  not : Signs m.Not single.Not
  plus : Signs m.Plus single.Plus
  minus : Signs m.Minus single.Minus

pub data StepsBefore : Mark → Single → Type 0 where
  increment_before : StepsBefore m.PlusPlus single.IncrementBefore
  decrement_before : StepsBefore m.MinusMinus single.DecrementBefore

pub data StepsAfter : Mark → Single → Type 0 where
  increment_after : StepsAfter m.PlusPlus single.IncrementAfter
  decrement_after : StepsAfter m.MinusMinus single.DecrementAfter

-- no operand that is set beside another begins so (the productions of non_unary_expr)
abbrev pub BeginsUnsigned : Tok → Type 0
BeginsUnsigned (t.mark m.Plus) = ⊥
BeginsUnsigned (t.mark m.Minus) = ⊥
BeginsUnsigned _ = Unit {0}

abbrev pub IsUnsigned : List Tok → Type 0
IsUnsigned [] = Unit {0}
IsUnsigned (x ∷ ts) = BeginsUnsigned x

-- a `++` or `--` after an lvalue is its postfix
abbrev pub IsNoStep : Tok → Type 0
IsNoStep (t.mark m.PlusPlus) = ⊥
IsNoStep (t.mark m.MinusMinus) = ⊥
IsNoStep _ = Unit {0}

abbrev pub NoStep : List Tok → Type 0
NoStep [] = Unit {0}
NoStep (x ∷ ts) = IsNoStep x

-- this sign does not come next
abbrev pub NotNext : Mark → List Tok → Type 0
NotNext s ts = (rest : List Tok) → ts ≡ t.mark s ∷ rest → ⊥

mutual
  -- the flag says that `>` is a comparison; the number is the level
  pub data Derives : Bool → ℕ → List Tok → List Tok → Tree → Type 0 where
    -- NUMBER, STRING, ERE
    a_number : {c : Bool} {n : ℕ} {ts : List Tok} → Derives c 13 (t.number n ∷ ts) ts (number n)
    a_string : {c : Bool} {x : Text} {ts : List Tok} → Derives c 13 (t.string x ∷ ts) ts (string x)
    an_ere : {c : Bool} {x : Text} {ts : List Tok} → Derives c 13 (t.ere x ∷ ts) ts (ere x)
    -- '(' expr ')'
    a_group : {c : Bool} {ts rest : List Tok} {a : Tree} → Derives true 0 ts (t.mark m.RightParenthesis ∷ rest) a →
        Derives c 13 (t.mark m.LeftParenthesis ∷ ts) rest (value a)
    -- FUNC_NAME '(' expr_list_opt ')'
    a_call : {c : Bool} {f : Text} {ts rest : List Tok} {bs : Trees} →
        DerivesAny None ts (t.mark m.RightParenthesis ∷ rest) bs →
        Derives c 13 (t.function_name f ∷ t.mark m.LeftParenthesis ∷ ts) rest (call f bs)
    -- BUILTIN_FUNC_NAME '(' expr_list_opt ')'
    a_builtin : {c : Bool} {f : Builtin} {ts rest : List Tok} {bs : Trees} →
        DerivesAny (Some f) ts (t.mark m.RightParenthesis ∷ rest) bs →
        Derives c 13 (t.builtin f ∷ t.mark m.LeftParenthesis ∷ ts) rest (builtin f (complete f bs))
    -- BUILTIN_FUNC_NAME alone, which only length may be
    a_length : {c : Bool} {ts : List Tok} → NotNext m.LeftParenthesis ts →
        Derives c 13 (t.builtin b.Length ∷ ts) ts (builtin b.Length (more record_tree none))
    -- lvalue: NAME
    a_variable : {c : Bool} {x : Text} {ts : List Tok} → Derives c 14 (t.name x ∷ ts) ts (variable x)
    -- lvalue: NAME '[' expr_list ']'
    an_element : {c : Bool} {x : Text} {ts rest : List Tok} {bs : Trees} →
        DerivesEach true None 0 ts (t.mark m.RightBracket ∷ rest) bs →
        Derives c 14 (t.name x ∷ t.mark m.LeftBracket ∷ ts) rest (element x bs)
    -- lvalue: '$' expr, of a primary or of an lvalue with `++` or `--` before it
    a_field : {c : Bool} {ts rest : List Tok} {a : Tree} → Derives c 12 ts rest a →
        Derives c 14 (t.mark m.Dollar ∷ ts) rest (unary single.Field (value a))
    a_field_step : {c : Bool} {s : Mark} {op : Single} {ts rest : List Tok} {a : Tree} → StepsBefore s op →
        Derives c 14 ts rest a → Derives c 14 (t.mark m.Dollar ∷ t.mark s ∷ ts) rest (unary single.Field (unary op a))
    a_primary : {c : Bool} {k : ℕ} {ts rest : List Tok} {a : Tree} → 13 ≤ k → Derives c k ts rest a →
        Derives c 12 ts rest a
    no_lvalue : {c : Bool} {ts rest : List Tok} {a : Tree} → Derives c 13 ts rest a → Derives c 11 ts rest a
    an_lvalue : {c : Bool} {ts rest : List Tok} {a : Tree} → Derives c 14 ts rest a → NoStep rest →
        Derives c 11 ts rest a
    -- INCR lvalue, DECR lvalue
    a_step_before : {c : Bool} {s : Mark} {op : Single} {ts rest : List Tok} {a : Tree} → StepsBefore s op →
        Derives c 14 ts rest a → Derives c 11 (t.mark s ∷ ts) rest (unary op a)
    -- lvalue INCR, lvalue DECR
    a_step_after : {c : Bool} {s : Mark} {op : Single} {ts rest : List Tok} {a : Tree} → StepsAfter s op →
        Derives c 14 ts (t.mark s ∷ rest) a → Derives c 11 ts rest (unary op a)
    -- '!' expr, '+' expr, '-' expr
    a_sign : {c : Bool} {s : Mark} {op : Single} {ts rest : List Tok} {a : Tree} → Signs s op →
        Derives c 9 ts rest a → Derives c 9 (t.mark s ∷ ts) rest (unary op (value a))
    -- expr '+' expr and so on, expr AND newline_opt expr, expr OR newline_opt expr, lvalue '=' expr and so on
    joined : {c : Bool} {s : Mark} {op : Double} {ts mid next rest : List Tok} {a d : Tree} → sign_of op ≡ Some s →
        MayAppear op c → Derives c (binding op).left ts (t.mark s ∷ mid) a → Gap op mid next →
        Derives c (binding op).right next rest d → Derives c (binding op).level ts rest (binary op (value a) (right_side op d))
    -- non_unary_expr non_unary_expr
    beside : {c : Bool} {ts mid rest : List Tok} {a d : Tree} → Derives c 6 ts mid a → IsUnsigned mid →
        Derives c 7 mid rest d → Derives c 6 ts rest (binary double.Concatenate (value a) (value d))
    -- expr In NAME
    a_member : {c : Bool} {x : Text} {ts rest : List Tok} {a : Tree} →
        Derives c 3 ts (t.mark m.In ∷ t.name x ∷ rest) a → Derives c 3 ts rest (member (more (value a) none) x)
    -- '(' multiple_expr_list ')' In NAME
    a_tuple_member : {c : Bool} {x : Text} {ts rest : List Tok} {a d : Tree} {bs : Trees} →
        DerivesEach true None 0 ts (t.mark m.RightParenthesis ∷ t.mark m.In ∷ t.name x ∷ rest) (more a (more d bs)) →
        Derives c 3 (t.mark m.LeftParenthesis ∷ ts) rest (member (more a (more d bs)) x)
    -- expr '?' expr ':' expr
    a_choice : {c : Bool} {ts mid next rest : List Tok} {a d e : Tree} → Derives c 1 ts (t.mark m.Question ∷ mid) a →
        Derives c 0 mid (t.mark m.Colon ∷ next) d → Derives c 0 next rest e →
        Derives c 0 ts rest (choice (value a) (value d) (value e))
    wider : {c : Bool} {j k : ℕ} {ts rest : List Tok} {a : Tree} → j ≤ k → k ≤ 11 → Derives c k ts rest a →
        Derives c j ts rest a

  -- expr_list: one or more with commas between, after each any number of newlines; they are arguments of this built-in
  -- function, or of none, from this place on
  pub data DerivesEach : Bool → Option Builtin → ℕ → List Tok → List Tok → Trees → Type 0 where
    one_phrase : {c : Bool} {f : Option Builtin} {place : ℕ} {ts rest : List Tok} {a : Tree} → Derives c 0 ts rest a →
        DerivesEach c f place ts rest (more (argument f place a) none)
    one_more : {c : Bool} {f : Option Builtin} {place : ℕ} {ts mid next rest : List Tok} {a : Tree} {bs : Trees} →
        Derives c 0 ts (t.mark m.Comma ∷ mid) a → Newlines mid next → DerivesEach c f (suc place) next rest bs →
        DerivesEach c f place ts rest (more (argument f place a) bs)

  -- expr_list_opt, inside brackets
  pub data DerivesAny : Option Builtin → List Tok → List Tok → Trees → Type 0 where
    no_phrase : {f : Option Builtin} {ts : List Tok} → DerivesAny f ts ts none
    some : {f : Option Builtin} {ts rest : List Tok} {bs : Trees} → DerivesEach true f 0 ts rest bs →
        DerivesAny f ts rest bs
