-- No operand is tighter than its first token lets it be.
use Rattle.std.proofs.Common.{◌≡◌, ◌≤◌, ◌<◌, ℕ, zero, suc, Bool, true, false, List, [], ◌∷◌, length, drop, Some, None, refl, sym, subst, ◌∙◌, inl, inr, arith, length-append}
use Rattle.std.specs.Prelude.{nat_le}
use Rattle.std.proofs.lemmas.Bool.{cases_Bool}
use Rattle.std.proofs.lemmas.Bool.Decides.{nat_tests}
use Rattle.std.proofs.lemmas.Option.{none-some}
use Rattle.pawk_lex.specs.declared.token.Mark.{Mark}
use Rattle.pawk_lex.specs.declared.token.Mark.TheVariants as m
use Rattle.pawk_lex.specs.declared.token.Builtin.{Builtin}
use Rattle.pawk_lex.specs.declared.token.Builtin.TheVariants as b
use Rattle.pawk_lex.specs.Bytes.{Text}
use Rattle.pawk_lex.specs.Tokens.{Tok}
use Rattle.pawk_lex.specs.Tokens as t
use Rattle.pawk_syntax_tree.specs.declared.tree.Single.{Single}
use Rattle.pawk_syntax_tree.specs.declared.tree.Single.TheVariants as single
use Rattle.pawk_syntax_tree.specs.Tree.{Tree, element, unary, member, call, builtin, trees, value, complete}
use Rattle.pawk_syntax_tree.specs.Parse.{Outcome, Parser, Operand, expect, expect_name, sees, after, skip_lines, same_mark, low, bare, list_from, list_up_to, arguments, called, built_in, named, group_of, group, signed, step_before, field_step, field, operand_by_mark, operand, phrase, appended, and_then, expr}
use Rattle.pawk_syntax_tree.proofs.Tokens.{OnFound, on_bind, on_found, anything, sees_sign}
use Rattle.pawk_syntax_parse.specs.Starts.{mark_level, tightest, tightest_next}
use Rattle.pawk_syntax_parse.specs.Reads.{IsBelow}

abbrev AtMost : ℕ → Operand → List Tok → Type 0
AtMost n o rest = o.1 ≤ n

module _ (ex : Bool → ℕ → Parser Tree) where
  most_called : (f : Text) (ts : List Tok) → OnFound (AtMost 13) (called ex f ts)
  unfolding called
  most_called f ts = on_bind (arguments ex None ts) _ (λ _ _. Unit {0}) _ (anything (arguments ex None ts)) (λ as' mid _.
      on_bind (low (call f (trees as')) mid) _ (λ _ _. Unit {0}) _ (anything (low (call f (trees as')) mid)) (λ a rest _. omega arith))

  most_bare : (f : Builtin) (ts : List Tok) → OnFound (AtMost 13) (bare f ts)
  most_bare b.Length ts = omega arith
  most_bare _ ts = tt

  most_built_in : (f : Builtin) (ts : List Tok) → OnFound (AtMost 13) (built_in ex f ts)
  unfolding built_in
  most_built_in f ts = elim (cases_Bool (sees m.LeftParenthesis ts)) [
    | inl e ↦ rw e (on_bind (arguments ex (Some f) ts) _ (λ _ _. Unit {0}) _ (anything (arguments ex (Some f) ts)) (λ as' mid _.
        on_bind (low (builtin f (complete f (trees as'))) mid) _ (λ _ _. Unit {0}) _ (anything (low (builtin f (complete f (trees as'))) mid)) (λ a rest _. omega arith)))
    | inr e ↦ rw e (most_bare f ts)
  ]

  most_named : (x : Text) (ts : List Tok) → OnFound (AtMost 14) (named ex x ts)
  unfolding named after
  most_named x ts = elim (cases_Bool (sees m.LeftBracket ts)) [
    | inl e ↦ rw e (on_bind (list_up_to ex m.RightBracket None (drop 1 ts)) _ (λ _ _. Unit {0}) _ (anything (list_up_to ex m.RightBracket None (drop 1 ts))) (λ as' mid _.
        on_bind (low (element x (trees as')) mid) _ (λ _ _. Unit {0}) _ (anything (low (element x (trees as')) mid)) (λ a rest _. omega arith)))
    | inr e ↦ rw e (omega arith)
  ]

  most_group_of : (as' : List Tree) (ts : List Tok) → OnFound (AtMost 13) (group_of ex as' ts)
  most_group_of [] ts = tt
  most_group_of (a ∷ []) ts = omega arith
  most_group_of (a ∷ d ∷ as') ts = on_bind (expect m.In ts) _ (λ _ _. Unit {0}) _ (anything (expect m.In ts)) (λ _ mid _.
      on_bind (expect_name mid) _ (λ _ _. Unit {0}) _ (anything (expect_name mid)) (λ x last _.
      on_bind (low (member (trees (a ∷ d ∷ as')) x) last) _ (λ _ _. Unit {0}) _ (anything (low (member (trees (a ∷ d ∷ as')) x) last)) (λ e rest _. omega arith)))

  most_group : (ts : List Tok) → OnFound (AtMost 13) (group ex ts)
  unfolding group
  most_group ts = on_bind (list_up_to ex m.RightParenthesis None ts) _ (λ _ _. Unit {0}) _ (anything (list_up_to ex m.RightParenthesis None ts)) (λ as' mid _. most_group_of as' mid)

  most_signed : (c : Bool) (op : Single) (ts : List Tok) → OnFound (AtMost 9) (signed ex c op ts)
  unfolding signed
  most_signed c op ts = on_bind (ex c 9 ts) _ (λ _ _. Unit {0}) _ (anything (ex c 9 ts)) (λ a mid _.
      on_bind (low (unary op (value a)) mid) _ (λ _ _. Unit {0}) _ (anything (low (unary op (value a)) mid)) (λ e rest _. omega arith))

  most_step : (c : Bool) (op : Single) (ts : List Tok) → OnFound (AtMost 11) (step_before ex c op ts)
  unfolding step_before
  most_step c op ts = on_bind (ex c 14 ts) _ (λ _ _. Unit {0}) _ (anything (ex c 14 ts)) (λ a mid _.
      on_bind (low (unary op a) mid) _ (λ _ _. Unit {0}) _ (anything (low (unary op a) mid)) (λ e rest _. omega arith))

  most_field_step : (c : Bool) (op : Single) (ts : List Tok) → OnFound (AtMost 14) (field_step ex c op ts)
  unfolding field_step
  most_field_step c op ts = on_bind (ex c 14 ts) _ (λ _ _. Unit {0}) _ (anything (ex c 14 ts)) (λ a mid _.
      on_bind (low (unary op a) mid) _ (λ _ _. Unit {0}) _ (anything (low (unary op a) mid)) (λ d next _.
      on_bind (low (unary single.Field d) next) _ (λ _ _. Unit {0}) _ (anything (low (unary single.Field d) next)) (λ e rest _. omega arith)))

  most_field : (c : Bool) (ts : List Tok) → OnFound (AtMost 14) (field ex c ts)
  unfolding field after
  most_field c ts = elim (cases_Bool (sees m.PlusPlus ts)) [
    | inl e ↦ rw e (most_field_step c single.IncrementBefore (drop 1 ts))
    | inr e ↦ rw e (elim (cases_Bool (sees m.MinusMinus ts)) [
      | inl f ↦ rw f (most_field_step c single.DecrementBefore (drop 1 ts))
      | inr f ↦ rw f (on_bind (ex c 12 ts) _ (λ _ _. Unit {0}) _ (anything (ex c 12 ts)) (λ a mid _.
          on_bind (low (unary single.Field (value a)) mid) _ (λ _ _. Unit {0}) _ (anything (low (unary single.Field (value a)) mid)) (λ e rest _. omega arith)))
    ])
  ]

  most_by_mark : (c : Bool) (s : Mark) (ts : List Tok) → OnFound (AtMost (mark_level s)) (operand_by_mark ex c s ts)
  most_by_mark c m.LeftParenthesis ts = most_group ts
  most_by_mark c m.Not ts = most_signed c single.Not ts
  most_by_mark c m.Plus ts = most_signed c single.Plus ts
  most_by_mark c m.Minus ts = most_signed c single.Minus ts
  most_by_mark c m.PlusPlus ts = most_step c single.IncrementBefore ts
  most_by_mark c m.MinusMinus ts = most_step c single.DecrementBefore ts
  most_by_mark c m.Dollar ts = most_field c ts
  most_by_mark c _ ts = tt

  most_operand : (c : Bool) (x : Tok) (ts : List Tok) → OnFound (AtMost (tightest x)) (operand ex c (x ∷ ts))
  unfolding operand
  most_operand c (t.number n) ts = omega arith
  most_operand c (t.string x) ts = omega arith
  most_operand c (t.ere x) ts = omega arith
  most_operand c (t.name x) ts = most_named x ts
  most_operand c (t.function_name f) ts = most_called f ts
  most_operand c (t.builtin f) ts = most_built_in f ts
  most_operand c (t.mark s) ts = most_by_mark c s ts

  below : (n least : ℕ) (o : Outcome Operand) → n < least → OnFound (AtMost n) o → IsBelow least o
  below n least (Some p) lt le = omega arith
  below n least None lt le = tt

  -- tokens that begin no operand so tight
  pub too_loose : (c : Bool) (least : ℕ) (ts : List Tok) → tightest_next ts < least → IsBelow least (operand ex c ts)
  unfolding operand
  too_loose c least [] lt = tt
  too_loose c least (x ∷ ts) lt = below (tightest x) least (operand ex c (x ∷ ts)) lt (most_operand c x ts)

  -- a phrase whose operand is too loose is none
  none_below : (least : ℕ) (o : Outcome Operand) (f : Operand → Parser Tree) → ((p : Operand) (i : List Tok) → p.1 < least → f p i ≡ None) → IsBelow least o → and_then o f ≡ None
  none_below least (Some p) f h lt = h p.0 p.1 lt
  none_below least None f h lt = refl

  pub no_phrase_of : (c : Bool) (least : ℕ) (ts : List Tok) → IsBelow least (operand ex c ts) → phrase ex c least ts ≡ None
  unfolding phrase
  no_phrase_of c least ts = none_below least (operand ex c ts) _ (λ p i lt. let e : nat_le least p.1 ≡ false = grind (arith, nat_tests) in rw e refl)

  -- ---- brackets

  pub no_group : (ts : List Tok) → ex true 0 ts ≡ None → group ex ts ≡ None
  unfolding group list_up_to list_from
  no_group [] e = refl
  no_group (x ∷ ts) e = rw e refl

  pub one_group : (x : Tok) (ts mid rest : List Tok) (a : Tree) → ex true 0 (x ∷ ts) ≡ Some (a, mid) → expect m.RightParenthesis mid ≡ Some (tt, rest) →
      sees m.Comma mid ≡ false → group ex (x ∷ ts) ≡ Some ((value a, 13), rest)
  unfolding group list_up_to list_from after
  one_group x ts mid rest a e f g = rw (e, g, f) refl

  longer : (n : ℕ) (front : List Tree) (ts : List Tok) → OnFound (λ as' _. length front < length as') (list_from ex true None n front ts)
  unfolding list_from after
  longer zero front ts = tt
  longer (suc n) front ts = on_bind (ex true 0 ts) _ (λ _ _. Unit {0}) _ (anything (ex true 0 ts)) (λ a mid _. elim (cases_Bool (sees m.Comma mid)) [
    | inl e ↦ rw e (on_found (list_from ex true None n (appended None front a) (skip_lines (drop 1 mid))) (longer n (appended None front a) (skip_lines (drop 1 mid))) (λ as' rest lt. omega (arith, lt, length-append front (value a ∷ []))))
    | inr e ↦ rw e (omega (arith, length-append front (value a ∷ [])))
  ])

  several : (as' : List Tree) (ts : List Tok) → 1 < length as' → OnFound (AtMost 3) (group_of ex as' ts)
  several [] ts lt = tt
  several (a ∷ []) ts lt = absurd (omega arith)
  several (a ∷ d ∷ as') ts lt = on_bind (expect m.In ts) _ (λ _ _. Unit {0}) _ (anything (expect m.In ts)) (λ _ mid _.
      on_bind (expect_name mid) _ (λ _ _. Unit {0}) _ (anything (expect_name mid)) (λ x last _.
      on_bind (low (member (trees (a ∷ d ∷ as')) x) last) _ (λ _ _. Unit {0}) _ (anything (low (member (trees (a ∷ d ∷ as')) x) last)) (λ e rest _. omega arith)))

  -- a list of several in brackets is loose
  many_group : (ts mid : List Tok) (a : Tree) → ex true 0 ts ≡ Some (a, mid) → sees m.Comma mid ≡ true → OnFound (AtMost 3) (group ex ts)
  unfolding group list_up_to list_from after
  many_group [] mid a e f = tt
  many_group (x ∷ ts) mid a e f = rw (e, f) (
      let more = list_from ex true None (length ts) (value a ∷ []) (skip_lines (drop 1 mid)) in
      on_bind (and_then more (λ as' i. and_then (expect m.RightParenthesis i) (λ _ k. Some (as', k)))) _ (λ as' _. 1 < length as') _
      (on_bind more _ (λ as' _. 1 < length as') _ (longer (length ts) (value a ∷ []) (skip_lines (drop 1 mid))) (λ as' next lt.
      on_bind (expect m.RightParenthesis next) _ (λ _ _. Unit {0}) _ (anything (expect m.RightParenthesis next)) (λ _ rest _. lt)))
      (λ as' next lt. several as' next lt))

  one_unclosed : (ts mid : List Tok) (a : Tree) → ex true 0 ts ≡ Some (a, mid) → expect m.RightParenthesis mid ≡ None → sees m.Comma mid ≡ false → group ex ts ≡ None
  unfolding group list_up_to list_from after
  one_unclosed [] mid a e f g = refl
  one_unclosed (x ∷ ts) mid a e f g = rw (e, g, f) refl

  pub unclosed : (least : ℕ) (ts mid : List Tok) (a : Tree) → 3 < least → ex true 0 ts ≡ Some (a, mid) → expect m.RightParenthesis mid ≡ None → IsBelow least (group ex ts)
  unclosed least ts mid a lt e f = elim (cases_Bool (sees m.Comma mid)) [
    | inl g ↦ below 3 least (group ex ts) lt (many_group ts mid a e g)
    | inr g ↦ let none : group ex ts ≡ None = one_unclosed ts mid a e f g in rw none tt
  ]

comma_stays : (ts : List Tok) → expect m.RightParenthesis (t.mark m.Comma ∷ ts) ≡ None
unfolding expect sees same_mark
comma_stays ts = refl

-- no comma closes
no_comma : (ts rest : List Tok) → expect m.RightParenthesis ts ≡ Some (tt, rest) → sees m.Comma ts ≡ false
no_comma ts rest e = elim (cases_Bool (sees m.Comma ts)) [
  | inl f ↦ absurd (none-some (tt, rest) (sym (subst (λ z. expect m.RightParenthesis z ≡ None) (sym (sees_sign m.Comma ts f)) (comma_stays (drop 1 ts))) ∙ e))
  | inr f ↦ f
]

-- nothing is read of nothing
no_token : (n : ℕ) (c : Bool) (least : ℕ) → expr n c least [] ≡ None
unfolding expr phrase operand
no_token zero c least = refl
no_token (suc n) c least = refl

pub closed : (n : ℕ) (ts mid rest : List Tok) (a : Tree) → expr n true 0 ts ≡ Some (a, mid) → expect m.RightParenthesis mid ≡ Some (tt, rest) → group (expr n) ts ≡ Some ((value a, 13), rest)
closed n [] mid rest a e f = absurd (none-some (a, mid) (sym (no_token n true 0) ∙ e))
closed n (x ∷ ts) mid rest a e f = one_group (expr n) x ts mid rest a e f (no_comma mid rest f)
