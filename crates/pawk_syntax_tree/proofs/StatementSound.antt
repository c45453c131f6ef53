-- What is read of statements is derived.
use Rattle.std.proofs.Common.{◌≡◌, ◌≤◌, ℕ, zero, suc, ◌+◌, Bool, true, false, List, [], ◌∷◌, ◌++◌, length, drop, Some, None, refl, sym, ap, ◌∙◌, arith, append_assoc, ◌⊎◌, inl, inr}
use Rattle.std.specs.Prelude.{nat_le}
use Rattle.std.proofs.lemmas.Bool.{cases_Bool}
use Rattle.std.proofs.lemmas.List.{append-nil}
use Rattle.pawk_lex.specs.declared.token.Mark.{Mark}
use Rattle.pawk_lex.specs.declared.token.Mark.TheVariants as m
use Rattle.pawk_lex.specs.Bytes.{Text}
use Rattle.pawk_lex.specs.Tokens.{Tok}
use Rattle.pawk_lex.specs.Tokens as t
use Rattle.pawk_syntax_tree.specs.Tree.{Tree, member, trees, value}
use Rattle.pawk_syntax_tree.specs.Grammar.{Newlines, Derives, a_group, a_tuple_member, DerivesEach, one_phrase, one_more}
use Rattle.pawk_syntax_tree.specs.Parse.{Outcome, Parser, and_then, expect, expect_name, sees, skip_lines, after, climb, appended, list_from, list_up_to, greatest_height, greatest_depth}
use Rattle.pawk_syntax_tree.proofs.Tokens.{OnFound, on_bind, on_found, Expects, expects, sees_sign, names, not_next, skips}
use Rattle.pawk_syntax_tree.proofs.Sound.{IsAsked, sound, sound_list, sound_list_up_to, sound_climb, alone, on_low}
use Rattle.pawk_syntax_tree.specs.declared.statement.Jump.TheVariants as leave
use Rattle.pawk_syntax_tree.specs.Statement.{Stmt, eval, when, choose, repeat, do_while, loop, walk, next, stmts, both, height_of}
use Rattle.pawk_syntax_tree.specs.StatementGrammar.{End, by_semicolon, by_line, by_brace, Maybe, missing, given, Printed, a_list, in_brackets, Simple, an_expression, a_bare_print, a_print, a_printf, a_leave, an_exit, a_return, a_delete, a_clear, Head, a_head, Means, a_simple, an_empty, a_block, an_if, an_else, a_while, a_do, a_for, a_walk, Lists, at_brace, further}
use Rattle.pawk_syntax_tree.specs.StatementParse.{nested, whole, low_stmt, ends, end, maybe, list_on, list_after, bracketed_by, bracketed, printed, deleted, print_on, simple_by, simple, head, walks, block_from, block, branch, looping, doing, walking, counting, for_by, for_on, other, by_mark, one, stmt}

sound_end : (ts : List Tok) → OnFound (λ _ rest. End ts rest) (end ts)
unfolding end
sound_end ts = elim (cases_Bool (sees m.Semicolon ts)) [
  | inl e ↦ rw e (rw (sees_sign m.Semicolon ts e) (by_semicolon (skips (drop 1 ts))))
  | inr e ↦ rw e (elim (cases_Bool (sees m.Newline ts)) [
    | inl f ↦ rw f (rw (sees_sign m.Newline ts f) (by_line (skips (drop 1 ts))))
    | inr f ↦ rw f (elim (cases_Bool (sees m.RightBrace ts)) [
      | inl g ↦ rw g (rw (sees_sign m.RightBrace ts g) by_brace)
      | inr g ↦ rw g tt
    ])
  ])
]

at : (c : Bool) (k : ℕ) → IsAsked k → (ts : List Tok) → OnFound (λ a rest. Derives c k ts rest a) (nested c k ts)
at = sound greatest_depth

-- the tree of an expression, as it counts
abbrev pub ReadsWhole : List Tok → Tree → List Tok → Type 0
ReadsWhole ts a rest = (inner : Tree) × (a ≡ value inner) × Derives true 0 ts rest inner

pub sound_whole : (ts : List Tok) → OnFound (ReadsWhole ts) (whole ts)
unfolding whole
sound_whole ts = on_bind (nested true 0 ts) _ (λ a rest. Derives true 0 ts rest a) _ (at true 0 (inl (omega arith)) ts) (λ a rest d. (a, refl, d))

sound_maybe : (none_here : Bool) (ts : List Tok) → OnFound (λ e rest. Maybe ts rest e) (maybe none_here ts)
unfolding maybe
sound_maybe true ts = missing
sound_maybe false ts = on_bind (whole ts) _ (ReadsWhole ts) _ (sound_whole ts) (λ a rest d. rw d.1 (given d.2))

on_low_stmt : (x : Stmt) (P : List Stmt → List Tok → Type 0) (ts : List Tok) → P (x ∷ []) ts → OnFound P (low_stmt x ts)
unfolding low_stmt
on_low_stmt x P ts h = elim (cases_Bool (nat_le (height_of x) greatest_height)) [ inl e ↦ rw e h | inr e ↦ rw e tt ]

-- ---- print

sound_list_on : (all ts : List Tok) (a : Tree) → Derives false 0 all ts a → OnFound (λ es rest. DerivesEach false None 0 all rest (trees es)) (list_on a ts)
unfolding list_on after
sound_list_on all ts a d = elim (cases_Bool (sees m.Comma ts)) [
  | inl e ↦ rw e (
      let from = skip_lines (drop 1 ts) in
      on_found (list_from nested false None (length from) (appended None [] a) from) (sound_list nested at false None (length from) (appended None [] a) from) (λ es rest q.
      rw q.all (one_more (rw (sees_sign m.Comma ts e) at d) (skips (drop 1 ts)) q.derives)))
  | inr e ↦ rw e (one_phrase d)
]

sound_list_after : (all ts : List Tok) (a : Tree) (top : ℕ) → (top ≤ 11) ⊎ ((top ≡ 13) ⊎ (top ≡ 14)) → Derives false top all ts a → OnFound (λ es rest. DerivesEach false None 0 all rest (trees es)) (list_after a top ts)
unfolding list_after
sound_list_after all ts a top is d =
    on_bind (climb nested false (length ts + 1) 0 top a ts) _ (λ e mid. Derives false 0 all mid e) _
    (sound_climb nested at false (length ts + 1) 0 top a all ts (inl (omega arith)) (omega arith) is d) (λ e mid q. sound_list_on all mid e q)

sound_bracketed_by : (ts rest : List Tok) (es : List Tree) → DerivesEach true None 0 ts (t.mark m.RightParenthesis ∷ rest) (trees es) → OnFound (λ fs end. Printed (t.mark m.LeftParenthesis ∷ ts) end (trees fs)) (bracketed_by es rest)
unfolding after
sound_bracketed_by ts rest [] d = tt
sound_bracketed_by ts rest (a ∷ []) d =
    let k = alone d in
    on_found (list_after a 13 rest) (sound_list_after (t.mark m.LeftParenthesis ∷ ts) rest a 13 (inr (inl refl)) (rw k.same (a_group k.derives))) (λ es end q. a_list q)
sound_bracketed_by ts rest (a ∷ e ∷ es) d = elim (cases_Bool (sees m.In rest)) [
  | inl f ↦ rw f (
      on_bind (expect_name (drop 1 rest)) _ (λ x end. drop 1 rest ≡ t.name x ∷ end) _ (names (drop 1 rest)) (λ x end k.
      on_low (member (trees (a ∷ e ∷ es)) x) end _ _ (
      on_found (list_after (member (trees (a ∷ e ∷ es)) x) 3 end) (sound_list_after (t.mark m.LeftParenthesis ∷ ts) end (member (trees (a ∷ e ∷ es)) x) 3 (inl (omega arith)) (a_tuple_member (rw (sees_sign m.In rest f, k) at d))) (λ fs stop q. a_list q))))
  | inr f ↦ rw f (in_brackets d)
]

sound_bracketed : (ts : List Tok) → OnFound (λ fs end. Printed (t.mark m.LeftParenthesis ∷ ts) end (trees fs)) (bracketed ts)
unfolding bracketed
sound_bracketed ts =
    on_bind (list_up_to nested m.RightParenthesis None ts) _ _ _ (sound_list_up_to nested at m.RightParenthesis None ts) (λ es rest d. sound_bracketed_by ts rest es d)

sound_printed : (ts : List Tok) → OnFound (λ fs end. Printed ts end (trees fs)) (printed ts)
unfolding printed after
sound_printed ts = elim (cases_Bool (sees m.LeftParenthesis ts)) [
  | inl f ↦ rw f (rw (sees_sign m.LeftParenthesis ts f) (sound_bracketed (drop 1 ts)))
  | inr f ↦ rw f (on_found (list_from nested false None (length ts) [] ts) (sound_list nested at false None (length ts) [] ts) (λ es rest q. rw q.all (a_list q.derives)))
]

-- ---- simple statements

sound_deleted : (ts : List Tok) → OnFound (λ x rest. Simple (t.mark m.Delete ∷ ts) rest x) (deleted ts)
unfolding deleted after
sound_deleted ts =
    on_bind (expect_name ts) _ (λ x end. ts ≡ t.name x ∷ end) _ (names ts) (λ a mid k. elim (cases_Bool (sees m.LeftBracket mid)) [
      | inl e ↦ rw e (on_bind (list_up_to nested m.RightBracket None (drop 1 mid)) _ _ _ (sound_list_up_to nested at m.RightBracket None (drop 1 mid)) (λ es rest d.
          rw (k, sees_sign m.LeftBracket mid e) (a_delete d)))
      | inr e ↦ rw e (rw k a_clear)
    ])

sound_print_on : (ts : List Tok) → OnFound (λ x rest. Simple (t.mark m.Print ∷ ts) rest x) (print_on ts)
unfolding print_on
sound_print_on ts = elim (cases_Bool (ends ts)) [
  | inl e ↦ rw e a_bare_print
  | inr e ↦ rw e (on_bind (printed ts) _ (λ fs rest. Printed ts rest (trees fs)) _ (sound_printed ts) (λ fs rest q. a_print q))
]

sound_eval : (ts : List Tok) → OnFound (λ x rest. Simple ts rest x) (and_then (whole ts) (λ e i. Some (eval e, i)))
sound_eval ts = on_bind (whole ts) _ (ReadsWhole ts) _ (sound_whole ts) (λ a rest d. rw d.1 (an_expression d.2))

sound_simple_by : (s : Mark) (ts : List Tok) → OnFound (λ x rest. Simple (t.mark s ∷ ts) rest x) (simple_by s (t.mark s ∷ ts))
sound_simple_by m.Print ts = sound_print_on ts
sound_simple_by m.Printf ts = on_bind (printed ts) _ (λ fs rest. Printed ts rest (trees fs)) _ (sound_printed ts) (λ fs rest q. a_printf q)
sound_simple_by m.Next ts = a_leave {l = leave.Next}
sound_simple_by m.NextFile ts = a_leave {l = leave.NextFile}
sound_simple_by m.Break ts = a_leave {l = leave.Break}
sound_simple_by m.Continue ts = a_leave {l = leave.Continue}
sound_simple_by m.Exit ts = on_bind (maybe (ends ts) ts) _ (λ e rest. Maybe ts rest e) _ (sound_maybe (ends ts) ts) (λ e rest q. an_exit q)
sound_simple_by m.Return ts = on_bind (maybe (ends ts) ts) _ (λ e rest. Maybe ts rest e) _ (sound_maybe (ends ts) ts) (λ e rest q. a_return q)
sound_simple_by m.Delete ts = sound_deleted ts
sound_simple_by s ts = sound_eval (t.mark s ∷ ts)

sound_simple : (ts : List Tok) → OnFound (λ x rest. Simple ts rest x) (simple ts)
unfolding simple
sound_simple [] = tt
sound_simple (t.mark s ∷ ts) = sound_simple_by s ts
sound_simple (x ∷ ts) = sound_eval (x ∷ ts)

sound_head : (ts : List Tok) → OnFound (λ a rest. Head ts rest a) (head ts)
unfolding head
sound_head ts =
    on_bind (expect m.LeftParenthesis ts) _ (λ _ rest. Expects m.LeftParenthesis ts rest) _ (expects m.LeftParenthesis ts) (λ _ from e.
    on_bind (whole from) _ (ReadsWhole from) _ (sound_whole from) (λ a mid d.
    on_bind (expect m.RightParenthesis mid) _ (λ _ rest. Expects m.RightParenthesis mid rest) _ (expects m.RightParenthesis mid) (λ _ rest f.
    rw (e, d.1) (a_head (rw f at d.2) (skips rest)))))

-- ---- statements

stmts-append : (a b : List Stmt) → stmts (a ++ b) ≡ both (stmts a) (stmts b)
stmts-append [] b = refl
stmts-append (x ∷ a) b = ap (next x) (stmts-append a b)

record ListsOn (front : List Stmt) (ts : List Tok) (all : List Stmt) (rest : List Tok) : Type 0 where
  others : List Stmt
  all_is : all ≡ front ++ others
  lists : Lists ts rest (stmts others)

abbrev Walks : List Tok → Text × Text → List Tok → Type 0
Walks ts names rest = ts ≡ t.name names.0 ∷ t.mark m.In ∷ t.name names.1 ∷ t.mark m.RightParenthesis ∷ rest

sound_walks : (ts : List Tok) → OnFound (Walks ts) (walks ts)
unfolding walks
sound_walks ts =
    on_bind (expect_name ts) _ (λ x end. ts ≡ t.name x ∷ end) _ (names ts) (λ k one' e.
    on_bind (expect m.In one') _ (λ _ rest. Expects m.In one' rest) _ (expects m.In one') (λ _ two f.
    on_bind (expect_name two) _ (λ x end. two ≡ t.name x ∷ end) _ (names two) (λ a three g.
    on_bind (expect m.RightParenthesis three) _ (λ _ rest. Expects m.RightParenthesis three rest) _ (expects m.RightParenthesis three) (λ _ rest q.
    rw (e, f, g, q) refl))))

module _ (stmt : Parser (List Stmt)) (h : (ts : List Tok) → OnFound (λ a rest. Means ts rest (stmts a)) (stmt ts)) where
  sound_block_from : (n : ℕ) (front : List Stmt) (ts : List Tok) → OnFound (ListsOn front ts) (block_from stmt n front ts)
  unfolding block_from after
  sound_block_from zero front ts = tt
  sound_block_from (suc n) front ts = elim (cases_Bool (sees m.RightBrace ts)) [
    | inl e ↦ rw e (record { others = []; all_is = sym (append-nil front); lists = rw (sees_sign m.RightBrace ts e) at_brace })
    | inr e ↦ rw e (on_bind (stmt ts) _ (λ a rest. Means ts rest (stmts a)) _ (h ts) (λ a mid d.
        on_found (block_from stmt n (front ++ a) mid) (sound_block_from n (front ++ a) mid) (λ all rest q.
        record { others = a ++ q.others; all_is = q.all_is ∙ append_assoc front a q.others; lists = rw (stmts-append a q.others) (further d q.lists) })))
  ]

  sound_branch : (ts : List Tok) → OnFound (λ a rest. Means (t.mark m.If ∷ ts) rest (stmts a)) (branch stmt ts)
  unfolding branch after
  sound_branch ts =
      on_bind (head ts) _ (λ a rest. Head ts rest a) _ (sound_head ts) (λ e mid d.
      on_bind (stmt mid) _ (λ a rest. Means mid rest (stmts a)) _ (h mid) (λ a rest k. elim (cases_Bool (sees m.Else rest)) [
        | inl f ↦ rw f (on_bind (stmt (skip_lines (drop 1 rest))) _ (λ b end. Means (skip_lines (drop 1 rest)) end (stmts b)) _ (h (skip_lines (drop 1 rest))) (λ b end q.
            on_low_stmt (choose e (stmts a) (stmts b)) _ end (an_else d (rw (sees_sign m.Else rest f) at k) (skips (drop 1 rest)) q)))
        | inr f ↦ rw f (on_low_stmt (when e (stmts a)) _ rest (an_if d k (not_next m.Else rest f)))
      ]))

  sound_looping : (ts : List Tok) → OnFound (λ a rest. Means (t.mark m.While ∷ ts) rest (stmts a)) (looping stmt ts)
  unfolding looping
  sound_looping ts =
      on_bind (head ts) _ (λ a rest. Head ts rest a) _ (sound_head ts) (λ e mid d.
      on_bind (stmt mid) _ (λ a rest. Means mid rest (stmts a)) _ (h mid) (λ a rest k. on_low_stmt (repeat e (stmts a)) _ rest (a_while d k)))

  sound_doing : (ts : List Tok) → OnFound (λ a rest. Means (t.mark m.Do ∷ ts) rest (stmts a)) (doing stmt ts)
  unfolding doing
  sound_doing ts =
      let first = skip_lines ts in
      on_bind (stmt first) _ (λ a rest. Means first rest (stmts a)) _ (h first) (λ a mid k.
      on_bind (expect m.While mid) _ (λ _ rest. Expects m.While mid rest) _ (expects m.While mid) (λ _ one' e.
      on_bind (expect m.LeftParenthesis one') _ (λ _ rest. Expects m.LeftParenthesis one' rest) _ (expects m.LeftParenthesis one') (λ _ from f.
      on_bind (whole from) _ (ReadsWhole from) _ (sound_whole from) (λ c two d.
      on_bind (expect m.RightParenthesis two) _ (λ _ rest. Expects m.RightParenthesis two rest) _ (expects m.RightParenthesis two) (λ _ last g.
      on_bind (end last) _ (λ _ rest. End last rest) _ (sound_end last) (λ _ rest q.
      on_low_stmt (do_while (stmts a) c) _ rest (rw d.1 (a_do (skips ts) (rw (e, f) at k) (rw g at d.2) q))))))))

  sound_counting : (ts : List Tok) → OnFound (λ a rest. Means (t.mark m.For ∷ t.mark m.LeftParenthesis ∷ ts) rest (stmts a)) (counting stmt ts)
  unfolding counting
  sound_counting ts =
      on_bind (maybe (sees m.Semicolon ts) ts) _ (λ e rest. Maybe ts rest e) _ (sound_maybe (sees m.Semicolon ts) ts) (λ a one' p.
      on_bind (expect m.Semicolon one') _ (λ _ rest. Expects m.Semicolon one' rest) _ (expects m.Semicolon one') (λ _ from e.
      on_bind (maybe (sees m.Semicolon from) from) _ (λ e rest. Maybe from rest e) _ (sound_maybe (sees m.Semicolon from) from) (λ b two q.
      on_bind (expect m.Semicolon two) _ (λ _ rest. Expects m.Semicolon two rest) _ (expects m.Semicolon two) (λ _ last f.
      on_bind (maybe (sees m.RightParenthesis last) last) _ (λ e rest. Maybe last rest e) _ (sound_maybe (sees m.RightParenthesis last) last) (λ c three r.
      on_bind (expect m.RightParenthesis three) _ (λ _ rest. Expects m.RightParenthesis three rest) _ (expects m.RightParenthesis three) (λ _ end' g.
      on_bind (stmt (skip_lines end')) _ (λ a rest. Means (skip_lines end') rest (stmts a)) _ (h (skip_lines end')) (λ body rest k.
      on_low_stmt (loop a b c (stmts body)) _ rest (a_for (rw e at p) (rw f at q) (rw g at r) (skips end') k))))))))

  sound_walking : (ts mid : List Tok) (names : Text × Text) → Walks ts names mid → OnFound (λ a rest. Means (t.mark m.For ∷ t.mark m.LeftParenthesis ∷ ts) rest (stmts a)) (walking stmt names mid)
  unfolding walking
  sound_walking ts mid names e =
      on_bind (stmt (skip_lines mid)) _ (λ a rest. Means (skip_lines mid) rest (stmts a)) _ (h (skip_lines mid)) (λ body rest k.
      on_low_stmt (walk names.0 names.1 (stmts body)) _ rest (rw e (a_walk (skips mid) k)))

  sound_for_by : (ts : List Tok) (o : Outcome (Text × Text)) → OnFound (Walks ts) o → OnFound (λ a rest. Means (t.mark m.For ∷ t.mark m.LeftParenthesis ∷ ts) rest (stmts a)) (for_by stmt o ts)
  sound_for_by ts (Some p) e = sound_walking ts p.1 p.0 e
  sound_for_by ts None e = sound_counting ts

  sound_for_on : (ts : List Tok) → OnFound (λ a rest. Means (t.mark m.For ∷ ts) rest (stmts a)) (for_on stmt ts)
  unfolding for_on
  sound_for_on ts =
      on_bind (expect m.LeftParenthesis ts) _ (λ _ rest. Expects m.LeftParenthesis ts rest) _ (expects m.LeftParenthesis ts) (λ _ mid e.
      rw e (sound_for_by mid (walks mid) (sound_walks mid)))

  sound_other : (ts : List Tok) → OnFound (λ a rest. Means ts rest (stmts a)) (other stmt ts)
  unfolding other
  sound_other ts =
      on_bind (simple ts) _ (λ x rest. Simple ts rest x) _ (sound_simple ts) (λ x mid d.
      on_bind (end mid) _ (λ _ rest. End mid rest) _ (sound_end mid) (λ _ rest e. on_low_stmt x _ rest (a_simple d e)))

  pub sound_block : (ts : List Tok) → OnFound (λ a rest. (from : List Tok) × Newlines ts from × Lists from rest (stmts a)) (block stmt ts)
  unfolding block
  sound_block ts =
      let from = skip_lines ts in
      on_found (block_from stmt (length from) [] from) (sound_block_from (length from) [] from) (λ a rest q. (from, skips ts, rw q.all_is q.lists))

  sound_by_mark : (x : Mark) (ts : List Tok) → OnFound (λ a rest. Means (t.mark x ∷ ts) rest (stmts a)) (by_mark stmt x (t.mark x ∷ ts))
  sound_by_mark m.Semicolon ts = an_empty (skips ts)
  sound_by_mark m.LeftBrace ts =
      on_bind (block stmt ts) _ (λ a rest. (from : List Tok) × Newlines ts from × Lists from rest (stmts a)) _ (sound_block ts) (λ a rest q. a_block q.1 q.2 (skips rest))
  sound_by_mark m.If ts = sound_branch ts
  sound_by_mark m.While ts = sound_looping ts
  sound_by_mark m.Do ts = sound_doing ts
  sound_by_mark m.For ts = sound_for_on ts
  sound_by_mark x ts = sound_other (t.mark x ∷ ts)

  sound_one : (ts : List Tok) → OnFound (λ a rest. Means ts rest (stmts a)) (one stmt ts)
  unfolding one
  sound_one [] = tt
  sound_one (t.mark x ∷ ts) = sound_by_mark x ts
  sound_one (x ∷ ts) = sound_other (x ∷ ts)

pub sound_stmt : (depth : ℕ) (ts : List Tok) → OnFound (λ a rest. Means ts rest (stmts a)) (stmt depth ts)
unfolding stmt
sound_stmt zero ts = tt
sound_stmt (suc depth) ts = sound_one (stmt depth) (sound_stmt depth) ts
