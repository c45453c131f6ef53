-- The canonical tokens of statements are read as those statements.
use Rattle.std.proofs.Common.{◌≡◌, ◌≤◌, ℕ, zero, suc, ◌*◌, Bool, true, false, List, [], ◌∷◌, ◌++◌, length, drop, Option, Some, None, refl, sym, ap, ◌∙◌, arith, append_assoc, inl, inr, le-leb}
use Rattle.std.proofs.Math.Numerals.{add-one}
use Rattle.std.proofs.Math.Dec.{leb-zero}
use Rattle.std.proofs.lemmas.Bool.{cases_Bool, leb-true}
use Rattle.std.proofs.lemmas.List.{append-nil}
use Rattle.pawk_lex.specs.declared.token.Mark.{Mark}
use Rattle.pawk_lex.specs.declared.token.Mark.TheVariants as m
use Rattle.pawk_lex.specs.Bytes.{Text}
use Rattle.pawk_lex.specs.Tokens.{Tok}
use Rattle.pawk_lex.specs.Tokens as t
use Rattle.pawk_syntax_tree.specs.declared.tree.Single.TheVariants as single
use Rattle.pawk_syntax_tree.specs.Tree.{Tree, number, string, ere, variable, element, unary, binary, choice, member, call, builtin, Trees, none, more, trees}
use Rattle.pawk_syntax_tree.specs.Canonical.{opening, closing, canon, canon_first, canon_others, IsSome, IsSound, AreSound, height, highest}
use Rattle.pawk_syntax_tree.specs.Parse.{Outcome, Parser, and_then, Operand, low, expect, expect_name, sees, same_mark, row_at, skip_lines, after, operand, group, group_of, list_up_to}
use Rattle.pawk_syntax_tree.proofs.Again as ag
use Rattle.pawk_syntax_tree.proofs.TreesAgain as tr
use Rattle.pawk_syntax_tree.proofs.Again.{NoKey, Again, grade, reaches, begins, Begins, Opens, by_number, by_string, by_ere, by_name, by_function, by_builtin, by_bracket, by_dollar, no_lines}
use Rattle.pawk_syntax_tree.proofs.TreesAgain.{Closes, list_of, trees-list_of, again, each_again, are_arguments, AreArguments, EachAgain, list_again, longer, longer_first, longer_others}
use Rattle.pawk_syntax_tree.proofs.Tokens.{sees_sign}
use Rattle.pawk_syntax_tree.specs.declared.statement.Jump.{Jump}
use Rattle.pawk_syntax_tree.specs.declared.statement.Jump.TheVariants as leave
use Rattle.pawk_syntax_tree.specs.Statement.{Stmt, eval, print, printf, when, choose, repeat, do_while, loop, walk, go_out, exit_with, return_with, delete, clear, Stmts, done, next, stmts, word_of, option_height, height_of, highest_of}
use Rattle.pawk_syntax_tree.specs.StatementCanonical.{in_braces, in_head, canon_maybe, canon_stmt, canon_lines, Counts, MayCount, AreListed, IsSoundStmt, AreSoundStmts}
use Rattle.pawk_syntax_tree.specs.StatementParse.{nested, whole, low_stmt, ends, end, maybe, list_on, list_after, bracketed, printed, deleted, print_on, simple, head, walks, block_from, block, branch, looping, doing, walking, counting, for_on, other, one, stmt}

-- ---- what comes next

opens_plain : {x : Tok} (ts : List Tok) → Opens x → (sees m.Else (x ∷ ts) ≡ false) × (sees m.RightBrace (x ∷ ts) ≡ false) × (ends (x ∷ ts) ≡ false) × (sees m.Semicolon (x ∷ ts) ≡ false) × (sees m.RightParenthesis (x ∷ ts) ≡ false)
unfolding sees same_mark ends
opens_plain ts by_number = (refl, refl, refl, refl, refl)
opens_plain ts by_string = (refl, refl, refl, refl, refl)
opens_plain ts by_ere = (refl, refl, refl, refl, refl)
opens_plain ts by_name = (refl, refl, refl, refl, refl)
opens_plain ts by_function = (refl, refl, refl, refl, refl)
opens_plain ts by_builtin = (refl, refl, refl, refl, refl)
opens_plain ts by_bracket = (refl, refl, refl, refl, refl)
opens_plain ts by_dollar = (refl, refl, refl, refl, refl)

opens_other : {x : Tok} (p : Parser (List Stmt)) (ts : List Tok) → Opens x → one p (x ∷ ts) ≡ other p (x ∷ ts)
unfolding one
opens_other p ts by_number = refl
opens_other p ts by_string = refl
opens_other p ts by_ere = refl
opens_other p ts by_name = refl
opens_other p ts by_function = refl
opens_other p ts by_builtin = refl
opens_other p ts by_bracket = refl
opens_other p ts by_dollar = refl

opens_simple : {x : Tok} (ts : List Tok) → Opens x → simple (x ∷ ts) ≡ and_then (whole (x ∷ ts)) (λ e i. Some (eval e, i))
unfolding simple
opens_simple ts by_number = refl
opens_simple ts by_string = refl
opens_simple ts by_ere = refl
opens_simple ts by_name = refl
opens_simple ts by_function = refl
opens_simple ts by_builtin = refl
opens_simple ts by_bracket = refl
opens_simple ts by_dollar = refl

-- what follows a statement's newline
pub record Follows (ts : List Tok) : Type 0 where
  pub no_line : skip_lines ts ≡ ts
  pub no_else : sees m.Else ts ≡ false

line_closes : (c : Bool) (ts : List Tok) → Closes c (t.mark m.Newline ∷ ts)
unfolding sees same_mark row_at
line_closes c ts = record { no_comma = refl; no_key = refl; stops = λ top. refl }

semicolon_closes : (c : Bool) (ts : List Tok) → Closes c (t.mark m.Semicolon ∷ ts)
unfolding sees same_mark row_at
semicolon_closes c ts = record { no_comma = refl; no_key = refl; stops = λ top. refl }

skip_one : (ts : List Tok) → skip_lines (t.mark m.Newline ∷ ts) ≡ skip_lines ts
unfolding skip_lines sees same_mark
skip_one ts = refl

ends_line : (ts : List Tok) → ends (t.mark m.Newline ∷ ts) ≡ true
unfolding ends sees same_mark
ends_line ts = refl

end_line : (ts : List Tok) → Follows ts → end (t.mark m.Newline ∷ ts) ≡ Some (tt, ts)
unfolding end sees same_mark skip_lines
end_line ts ok = rw ok.no_line refl

low_stmt_is : (x : Stmt) (ts : List Tok) → height_of x ≤ 200 → low_stmt x ts ≡ Some (x ∷ [], ts)
unfolding low_stmt
low_stmt_is x ts h = rw (le-leb (height_of x) 200 h) refl

phrase_again : (a : Tree) → IsSound a → height a ≤ 200 → (c : Bool) (rest : List Tok) → Closes c rest → nested c 0 (canon a rest) ≡ Some (a, rest)
phrase_again a h low' c rest ok = ag.whole a (again a h) c 1000 (omega arith) low' 0 (leb-zero (grade a)) rest ok.no_key (ok.stops (grade a))

pub whole_again : (a : Tree) → Counts a → height a ≤ 200 → (rest : List Tok) → Closes true rest → whole (canon a rest) ≡ Some (a, rest)
unfolding whole
whole_again a h low' rest ok = rw (phrase_again a h.1 low' true rest ok, h.0) refl

-- ---- lists of print

-- what `(` begins, where the whole is no `in` of several keys, is a list of one
group_list : (ex : Bool → ℕ → Parser Tree) (ts rest : List Tok) (a : Tree) (k : ℕ) → 13 ≤ k → group ex ts ≡ Some ((a, k), rest) → list_up_to ex m.RightParenthesis None ts ≡ Some (a ∷ [], rest)
unfolding group
group_list ex ts rest a k high e = go (list_up_to ex m.RightParenthesis None ts) refl e
  where
    low_at : (r : Outcome Tree) → and_then {B = Operand} r (λ d i. Some ((d, 3), i)) ≡ Some ((a, k), rest) → ⊥
    low_at None f = cc
    low_at (Some p) f = let g : 3 ≡ k = let h : ◌≡◌ {A = Operand × List Tok} ((p.0, 3), p.1) ((a, k), rest) = cc in ap (λ z. z.0.1) h in omega arith

    name_at : (as' : Trees) (r : Outcome Text) → and_then {B = Operand} r (λ x i. and_then {B = Operand} (low (member as' x) i) (λ d j. Some ((d, 3), j))) ≡ Some ((a, k), rest) → ⊥
    name_at as' None f = cc
    name_at as' (Some p) f = low_at (low (member as' p.0) p.1) f

    in_at : (as' : Trees) (r : Outcome (Unit {0})) → and_then {B = Operand} r (λ _ i. and_then {B = Operand} (expect_name i) (λ x j. and_then {B = Operand} (low (member as' x) j) (λ d q. Some ((d, 3), q)))) ≡ Some ((a, k), rest) → ⊥
    in_at as' None f = cc
    in_at as' (Some p) f = name_at as' (expect_name p.1) f

    go : (r : Outcome (List Tree)) → list_up_to ex m.RightParenthesis None ts ≡ r → and_then r (group_of ex) ≡ Some ((a, k), rest) → list_up_to ex m.RightParenthesis None ts ≡ Some (a ∷ [], rest)
    go None f g = absurd cc
    go (Some ([], mid)) f g = absurd cc
    go (Some (d ∷ [], mid)) f g =
        let h : ◌≡◌ {A = Operand × List Tok} ((d, 13), mid) ((a, k), rest) = cc in
        f ∙ ap (λ z. Some (z.0.0 ∷ [], z.1)) h
    go (Some (d ∷ e' ∷ as', mid)) f g = absurd (in_at (trees (d ∷ e' ∷ as')) (expect m.In mid) g)

list_on_again : (a : Tree) (bs : Trees) → AreSound None 0 (more a bs) → highest bs ≤ 200 → (rest : List Tok) → Closes false rest → list_on a (canon_others bs rest) ≡ Some (a ∷ list_of bs, rest)
unfolding list_on after
list_on_again a none h low' rest ok = rw (ok.no_comma, h.0) refl
list_on_again a (more d es) h low' rest ok =
    let y = canon d (canon_others es rest) in
    rw (tr.sees_comma y, h.0, no_lines d (canon_others es rest)) (list_again None es d (again d h.2.1) (each_again None 2 es h.2.2) false 1000 (length y) (omega arith) low' (a ∷ []) (are_arguments None 1 (more d es) h.2) rest ok (omega arith))

operand_group : (ex : Bool → ℕ → Parser Tree) (ts : List Tok) (r : Outcome Operand) → operand ex true (opening ts) ≡ r → group ex ts ≡ r
unfolding operand
operand_group ex ts r e = e

bracketed_again : (a : Tree) (bs : Trees) → AreSound None 0 (more a bs) → highest (more a bs) ≤ 200 → (ts rest : List Tok) → Closes false rest → NoKey (canon_others bs rest) → ((top : ℕ) → ag.stops false 0 top (canon_others bs rest) ≡ true) → canon a (canon_others bs rest) ≡ opening ts → bracketed ts ≡ Some (a ∷ list_of bs, rest)
unfolding bracketed list_after
bracketed_again a bs h low' ts rest ok free stop' e =
    let y = canon_others bs rest in
    let as_operand : operand nested true (opening ts) ≡ Some ((a, grade a), y) = ap (operand nested true) (sym e) ∙ again a h.1 true 1000 (omega arith) (omega arith) y free in
    let inner : list_up_to nested m.RightParenthesis None ts ≡ Some (a ∷ [], y) = group_list nested ts y a (grade a) (leb-true 13 (grade a) (reaches 13 a (omega arith))) (operand_group nested ts _ as_operand) in
    rw (inner, add-one (length y), ag.stop nested false (length y) 0 13 a y (stop' 13)) (list_on_again a bs h (omega arith) rest ok)

others_no_key : (bs : Trees) (rest : List Tok) → Closes false rest → NoKey (canon_others bs rest)
unfolding sees same_mark
others_no_key none rest ok = ok.no_key
others_no_key (more a bs) rest ok = refl

others_stop : (bs : Trees) (rest : List Tok) → Closes false rest → (top : ℕ) → ag.stops false 0 top (canon_others bs rest) ≡ true
unfolding row_at
others_stop none rest ok top = ok.stops top
others_stop (more a bs) rest ok top = refl

printed_again : (es : Trees) → AreListed es → highest es ≤ 200 → (rest : List Tok) → Closes false rest → printed (canon_first es rest) ≡ Some (list_of es, rest)
unfolding printed after
printed_again none h low' rest ok = absurd h.0
printed_again (more a bs) h low' rest ok =
    let x = canon a (canon_others bs rest) in
    elim (cases_Bool (sees m.LeftParenthesis x)) [
      | inl e ↦ rw e (bracketed_again a bs h.1 low' (drop 1 x) rest ok (others_no_key bs rest ok) (others_stop bs rest ok) (sees_sign m.LeftParenthesis x e))
      | inr e ↦ rw e (list_again None bs a (again a h.1.1) (each_again None 1 bs h.1.2) false 1000 (length x) (omega arith) low' [] (are_arguments None 0 (more a bs) h.1) rest ok (omega arith))
    ]

-- ---- simple statements

eval_again : (p : Parser (List Stmt)) (e : Tree) → Counts e → height e ≤ 200 → (rest : List Tok) → Follows rest → one p (canon e (t.mark m.Newline ∷ rest)) ≡ Some (eval e ∷ [], rest)
unfolding other
eval_again p e h low' rest ok =
    let x = canon e (t.mark m.Newline ∷ rest) in
    let z = begins e (t.mark m.Newline ∷ rest) in
    let as_other : one p x ≡ other p x = ap (one p) z.cut ∙ opens_other p z.tail z.opens ∙ ap (other p) (sym z.cut) in
    let as_eval : simple x ≡ and_then (whole x) (λ e i. Some (eval e, i)) = ap simple z.cut ∙ opens_simple z.tail z.opens ∙ ap (λ y. and_then (whole y) (λ e i. Some (eval e, i))) (sym z.cut) in
    as_other ∙ rw (as_eval, whole_again e h low' (t.mark m.Newline ∷ rest) (line_closes true rest), end_line rest ok, low_stmt_is (eval e) rest low') refl

some_ends : (es : Trees) → IsSome es → (rest : List Tok) → ends (canon_first es rest) ≡ false
some_ends none some rest = absurd some
some_ends (more a bs) some rest = let z = begins a (canon_others bs rest) in ap ends z.cut ∙ (opens_plain z.tail z.opens).2

print_again : (p : Parser (List Stmt)) (es : Trees) → AreListed es → height_of (print es) ≤ 200 → (rest : List Tok) → Follows rest → one p (t.mark m.Print ∷ canon_first es (t.mark m.Newline ∷ rest)) ≡ Some (print es ∷ [], rest)
unfolding one other simple print_on
print_again p es h low' rest ok =
    rw (some_ends es h.0 (t.mark m.Newline ∷ rest), printed_again es h (omega arith) (t.mark m.Newline ∷ rest) (line_closes false rest), end_line rest ok, trees-list_of es, low_stmt_is (print es) rest low') refl

printf_again : (p : Parser (List Stmt)) (es : Trees) → AreListed es → height_of (printf es) ≤ 200 → (rest : List Tok) → Follows rest → one p (t.mark m.Printf ∷ canon_first es (t.mark m.Newline ∷ rest)) ≡ Some (printf es ∷ [], rest)
unfolding one other simple
printf_again p es h low' rest ok =
    rw (printed_again es h (omega arith) (t.mark m.Newline ∷ rest) (line_closes false rest), end_line rest ok, trees-list_of es, low_stmt_is (printf es) rest low') refl

leave_again : (p : Parser (List Stmt)) (l : Jump) (rest : List Tok) → Follows rest → one p (t.mark (word_of l) ∷ t.mark m.Newline ∷ rest) ≡ Some (go_out l ∷ [], rest)
unfolding one other simple
leave_again p leave.Next rest ok = rw (end_line rest ok, low_stmt_is (go_out leave.Next) rest (omega arith)) refl
leave_again p leave.NextFile rest ok = rw (end_line rest ok, low_stmt_is (go_out leave.NextFile) rest (omega arith)) refl
leave_again p leave.Break rest ok = rw (end_line rest ok, low_stmt_is (go_out leave.Break) rest (omega arith)) refl
leave_again p leave.Continue rest ok = rw (end_line rest ok, low_stmt_is (go_out leave.Continue) rest (omega arith)) refl

-- an expression that may be missing, before a newline
maybe_line : (o : Option Tree) → MayCount o → option_height o ≤ 200 → (rest : List Tok) → maybe (ends (canon_maybe o (t.mark m.Newline ∷ rest))) (canon_maybe o (t.mark m.Newline ∷ rest)) ≡ Some (o, t.mark m.Newline ∷ rest)
unfolding maybe
maybe_line None h low' rest = rw (ends_line rest) refl
maybe_line (Some e) h low' rest =
    let z = begins e (t.mark m.Newline ∷ rest) in
    let no_end : ends (canon e (t.mark m.Newline ∷ rest)) ≡ false = ap ends z.cut ∙ (opens_plain z.tail z.opens).2 in
    rw (no_end, whole_again e h low' (t.mark m.Newline ∷ rest) (line_closes true rest)) refl

exit_again : (p : Parser (List Stmt)) (o : Option Tree) → MayCount o → height_of (exit_with o) ≤ 200 → (rest : List Tok) → Follows rest → one p (t.mark m.Exit ∷ canon_maybe o (t.mark m.Newline ∷ rest)) ≡ Some (exit_with o ∷ [], rest)
unfolding one other simple
exit_again p o h low' rest ok = rw (maybe_line o h (omega arith) rest, end_line rest ok, low_stmt_is (exit_with o) rest low') refl

return_again : (p : Parser (List Stmt)) (o : Option Tree) → MayCount o → height_of (return_with o) ≤ 200 → (rest : List Tok) → Follows rest → one p (t.mark m.Return ∷ canon_maybe o (t.mark m.Newline ∷ rest)) ≡ Some (return_with o ∷ [], rest)
unfolding one other simple
return_again p o h low' rest ok = rw (maybe_line o h (omega arith) rest, end_line rest ok, low_stmt_is (return_with o) rest low') refl

line_no_key : (ts : List Tok) → sees m.LeftBracket (t.mark m.Newline ∷ ts) ≡ false
unfolding sees same_mark
line_no_key ts = refl

sees_key : (ts : List Tok) → sees m.LeftBracket (t.mark m.LeftBracket ∷ ts) ≡ true
unfolding sees same_mark
sees_key ts = refl

delete_again : (p : Parser (List Stmt)) (a : Text) (es : Trees) → AreListed es → height_of (delete a es) ≤ 200 → (rest : List Tok) → Follows rest → one p (t.mark m.Delete ∷ t.name a ∷ t.mark m.LeftBracket ∷ canon_first es (t.mark m.RightBracket ∷ t.mark m.Newline ∷ rest)) ≡ Some (delete a es ∷ [], rest)
unfolding one other simple deleted after expect_name
delete_again p a none h low' rest ok = absurd h.0
delete_again p a (more d bs) h low' rest ok =
    let end' = t.mark m.RightBracket ∷ t.mark m.Newline ∷ rest in
    rw (sees_key (canon d (canon_others bs end')), tr.square_again bs d (again d h.1.1) (each_again None 1 bs h.1.2) 1000 (omega arith) (omega arith) (are_arguments None 0 (more d bs) h.1) (t.mark m.Newline ∷ rest), end_line rest ok, trees-list_of bs, low_stmt_is (delete a (more d bs)) rest low') refl

clear_again : (p : Parser (List Stmt)) (a : Text) (rest : List Tok) → Follows rest → one p (t.mark m.Delete ∷ t.name a ∷ t.mark m.Newline ∷ rest) ≡ Some (clear a ∷ [], rest)
unfolding one other simple deleted after expect_name
clear_again p a rest ok = rw (line_no_key rest, end_line rest ok, low_stmt_is (clear a) rest (omega arith)) refl

head_again : (e : Tree) → Counts e → height e ≤ 200 → (rest : List Tok) → head (in_head e rest) ≡ Some (e, skip_lines rest)
unfolding head
head_again e h low' rest = rw (tr.begin_arguments (canon e (closing rest)), whole_again e h low' (closing rest) (tr.bracket_closes rest), ag.end_group rest) refl

-- ---- bodies

abbrev pub StmtAgain : Stmt → Type 0
StmtAgain x = (n : ℕ) → 2 * height_of x ≤ n → (rest : List Tok) → Follows rest → one (stmt n) (canon_stmt x (t.mark m.Newline ∷ rest)) ≡ Some (x ∷ [], rest)

abbrev pub StmtsAgain : Stmts → Type 0
StmtsAgain done = Unit {0}
StmtsAgain (next x xs) = StmtAgain x × StmtsAgain xs

abbrev pub stmts_of : Stmts → List Stmt
stmts_of done = []
stmts_of (next x xs) = x ∷ stmts_of xs

pub stmts-stmts_of : (xs : Stmts) → stmts (stmts_of xs) ≡ xs
stmts-stmts_of done = refl
stmts-stmts_of (next x xs) = ap (next x) (stmts-stmts_of xs)

-- a line begins neither with a newline nor with `else` nor with `}`
record Line (ts : List Tok) : Type 0 where
  line : Follows ts
  no_end : sees m.RightBrace ts ≡ false

mark_line : (s : Mark) (ts : List Tok) → same_mark s m.Newline ≡ false → same_mark s m.Else ≡ false → same_mark s m.RightBrace ≡ false → Line (t.mark s ∷ ts)
unfolding sees skip_lines
mark_line s ts e f g = record { line = record { no_line = rw e refl; no_else = f }; no_end = g }

stmt_line : (x : Stmt) (rest : List Tok) → Line (canon_stmt x rest)
unfolding same_mark
stmt_line (eval e) rest =
    let z = begins e rest in
    let plain = opens_plain z.tail z.opens in
    record { line = record { no_line = no_lines e rest; no_else = ap (sees m.Else) z.cut ∙ plain.0 }; no_end = ap (sees m.RightBrace) z.cut ∙ plain.1 }
stmt_line (print es) rest = mark_line m.Print _ refl refl refl
stmt_line (printf es) rest = mark_line m.Printf _ refl refl refl
stmt_line (when e a) rest = mark_line m.If _ refl refl refl
stmt_line (choose e a b) rest = mark_line m.If _ refl refl refl
stmt_line (repeat e a) rest = mark_line m.While _ refl refl refl
stmt_line (do_while a e) rest = mark_line m.Do _ refl refl refl
stmt_line (loop a b c body) rest = mark_line m.For _ refl refl refl
stmt_line (walk k a body) rest = mark_line m.For _ refl refl refl
stmt_line (go_out leave.Next) rest = mark_line m.Next _ refl refl refl
stmt_line (go_out leave.NextFile) rest = mark_line m.NextFile _ refl refl refl
stmt_line (go_out leave.Break) rest = mark_line m.Break _ refl refl refl
stmt_line (go_out leave.Continue) rest = mark_line m.Continue _ refl refl refl
stmt_line (exit_with e) rest = mark_line m.Exit _ refl refl refl
stmt_line (return_with e) rest = mark_line m.Return _ refl refl refl
stmt_line (delete a es) rest = mark_line m.Delete _ refl refl refl
stmt_line (clear a) rest = mark_line m.Delete _ refl refl refl

end_follows : (rest : List Tok) → Follows (t.mark m.RightBrace ∷ rest)
unfolding sees same_mark skip_lines
end_follows rest = record { no_line = refl; no_else = refl }

lines_follow : (xs : Stmts) (rest : List Tok) → Follows (canon_lines xs (t.mark m.RightBrace ∷ rest))
lines_follow done rest = end_follows rest
lines_follow (next x xs) rest = (stmt_line x _).line

sees_end : (rest : List Tok) → sees m.RightBrace (t.mark m.RightBrace ∷ rest) ≡ true
unfolding sees same_mark
sees_end rest = refl

maybe_longer : (o : Option Tree) (rest : List Tok) → length rest ≤ length (canon_maybe o rest)
maybe_longer None rest = omega arith
maybe_longer (Some e) rest = omega (arith, longer e rest)

mutual
  stmt_longer : (x : Stmt) (rest : List Tok) → suc (length rest) ≤ length (canon_stmt x rest)
  stmt_longer (eval e) rest = longer e rest
  stmt_longer (print es) rest = omega (arith, longer_first es rest)
  stmt_longer (printf es) rest = omega (arith, longer_first es rest)
  stmt_longer (when e a) rest = omega (arith, longer e (closing (in_braces (canon_lines a) rest)), lines_longer a (t.mark m.RightBrace ∷ rest))
  stmt_longer (choose e a b) rest =
      let after' = t.mark m.Else ∷ in_braces (canon_lines b) rest in
      omega (arith, longer e (closing (in_braces (canon_lines a) after')), lines_longer a (t.mark m.RightBrace ∷ after'), lines_longer b (t.mark m.RightBrace ∷ rest))
  stmt_longer (repeat e a) rest = omega (arith, longer e (closing (in_braces (canon_lines a) rest)), lines_longer a (t.mark m.RightBrace ∷ rest))
  stmt_longer (do_while a e) rest =
      let after' = t.mark m.While ∷ in_head e rest in
      omega (arith, lines_longer a (t.mark m.RightBrace ∷ after'), longer e (closing rest))
  stmt_longer (loop a b c body) rest =
      let four = closing (in_braces (canon_lines body) rest) in
      let three = t.mark m.Semicolon ∷ canon_maybe c four in
      let two = t.mark m.Semicolon ∷ canon_maybe b three in
      omega (arith, maybe_longer a two, maybe_longer b three, maybe_longer c four, lines_longer body (t.mark m.RightBrace ∷ rest))
  stmt_longer (walk k a body) rest = omega (arith, lines_longer body (t.mark m.RightBrace ∷ rest))
  stmt_longer (go_out l) rest = omega arith
  stmt_longer (exit_with e) rest = omega (arith, maybe_longer e rest)
  stmt_longer (return_with e) rest = omega (arith, maybe_longer e rest)
  stmt_longer (delete a es) rest = omega (arith, longer_first es (t.mark m.RightBracket ∷ rest))
  stmt_longer (clear a) rest = omega arith

  pub lines_longer : (xs : Stmts) (rest : List Tok) → length rest ≤ length (canon_lines xs rest)
  lines_longer done rest = omega arith
  lines_longer (next x xs) rest = omega (arith, stmt_longer x (t.mark m.Newline ∷ canon_lines xs rest), lines_longer xs rest)

block_again : (xs : Stmts) → StmtsAgain xs → (n fuel : ℕ) → 2 * highest_of xs ≤ n → (front : List Stmt) (rest : List Tok) → length (canon_lines xs (t.mark m.RightBrace ∷ rest)) ≤ fuel → block_from (stmt (suc n)) fuel front (canon_lines xs (t.mark m.RightBrace ∷ rest)) ≡ Some (front ++ stmts_of xs, rest)
unfolding block_from after stmt
block_again xs hs n zero le front rest room = absurd (omega (arith, lines_longer xs (t.mark m.RightBrace ∷ rest)))
block_again done hs n (suc fuel) le front rest room = rw (sees_end rest, append-nil front) refl
block_again (next x xs) hs n (suc fuel) le front rest room =
    let y = canon_lines xs (t.mark m.RightBrace ∷ rest) in
    rw ((stmt_line x (t.mark m.Newline ∷ y)).no_end, hs.0 n (omega arith) y (lines_follow xs rest))
    (block_again xs hs.1 n fuel (omega arith) (front ++ x ∷ []) rest (omega (arith, stmt_longer x (t.mark m.Newline ∷ y))) ∙ ap (λ z. Some (z, rest)) (append_assoc front (x ∷ []) (stmts_of xs)))

-- the lines of a block, after `{`
pub inside_again : (xs : Stmts) → StmtsAgain xs → (n : ℕ) → 2 * highest_of xs ≤ n → (rest : List Tok) → block (stmt (suc n)) (t.mark m.Newline ∷ canon_lines xs (t.mark m.RightBrace ∷ rest)) ≡ Some (stmts_of xs, rest)
unfolding block
inside_again xs hs n le rest =
    let x = canon_lines xs (t.mark m.RightBrace ∷ rest) in
    rw (skip_one x, (lines_follow xs rest).no_line, block_again xs hs n (length x) le [] rest (omega arith)) refl

-- a body as a statement
body_again : (xs : Stmts) → StmtsAgain xs → (n : ℕ) → 2 * highest_of xs ≤ n → (rest : List Tok) → stmt (suc (suc n)) (in_braces (canon_lines xs) rest) ≡ Some (stmts_of xs, skip_lines rest)
unfolding stmt one
body_again xs hs n le rest = rw (inside_again xs hs n le rest) refl

no_line_brace : (rest : List Tok) → skip_lines (t.mark m.LeftBrace ∷ rest) ≡ t.mark m.LeftBrace ∷ rest
unfolding skip_lines sees same_mark
no_line_brace rest = refl

else_next : (rest : List Tok) → (skip_lines (t.mark m.Else ∷ rest) ≡ t.mark m.Else ∷ rest) × (sees m.Else (t.mark m.Else ∷ rest) ≡ true)
unfolding skip_lines sees same_mark
else_next rest = (refl, refl)

while_next : (rest : List Tok) → (skip_lines (t.mark m.While ∷ rest) ≡ t.mark m.While ∷ rest) × (expect m.While (t.mark m.While ∷ rest) ≡ Some (tt, rest))
unfolding skip_lines expect sees same_mark
while_next rest = (refl, refl)

-- ---- statements with bodies

when_again : (e : Tree) (a : Stmts) → Counts e → height_of (when e a) ≤ 200 → StmtsAgain a → StmtAgain (when e a)
unfolding one branch after
when_again e a h low' hs zero le rest ok = absurd (omega arith)
when_again e a h low' hs (suc zero) le rest ok = absurd (omega arith)
when_again e a h low' hs (suc (suc n)) le rest ok =
    let inside = in_braces (canon_lines a) (t.mark m.Newline ∷ rest) in
    rw (head_again e h (omega arith) inside, no_line_brace (t.mark m.Newline ∷ canon_lines a (t.mark m.RightBrace ∷ t.mark m.Newline ∷ rest)), body_again a hs n (omega arith) (t.mark m.Newline ∷ rest), skip_one rest, ok.no_line, ok.no_else, stmts-stmts_of a, low_stmt_is (when e a) rest low') refl

choose_again : (e : Tree) (a b : Stmts) → Counts e → height_of (choose e a b) ≤ 200 → StmtsAgain a → StmtsAgain b → StmtAgain (choose e a b)
unfolding one branch after
choose_again e a b h low' hs ks zero le rest ok = absurd (omega arith)
choose_again e a b h low' hs ks (suc zero) le rest ok = absurd (omega arith)
choose_again e a b h low' hs ks (suc (suc n)) le rest ok =
    let last = in_braces (canon_lines b) (t.mark m.Newline ∷ rest) in
    let inside = in_braces (canon_lines a) (t.mark m.Else ∷ last) in
    rw (head_again e h (omega arith) inside, no_line_brace (t.mark m.Newline ∷ canon_lines a (t.mark m.RightBrace ∷ t.mark m.Else ∷ last)), body_again a hs n (omega arith) (t.mark m.Else ∷ last), (else_next last).0, (else_next last).1, no_line_brace (t.mark m.Newline ∷ canon_lines b (t.mark m.RightBrace ∷ t.mark m.Newline ∷ rest)), body_again b ks n (omega arith) (t.mark m.Newline ∷ rest), skip_one rest, ok.no_line, stmts-stmts_of a, stmts-stmts_of b, low_stmt_is (choose e a b) rest low') refl

repeat_again : (e : Tree) (a : Stmts) → Counts e → height_of (repeat e a) ≤ 200 → StmtsAgain a → StmtAgain (repeat e a)
unfolding one looping
repeat_again e a h low' hs zero le rest ok = absurd (omega arith)
repeat_again e a h low' hs (suc zero) le rest ok = absurd (omega arith)
repeat_again e a h low' hs (suc (suc n)) le rest ok =
    let inside = in_braces (canon_lines a) (t.mark m.Newline ∷ rest) in
    rw (head_again e h (omega arith) inside, no_line_brace (t.mark m.Newline ∷ canon_lines a (t.mark m.RightBrace ∷ t.mark m.Newline ∷ rest)), body_again a hs n (omega arith) (t.mark m.Newline ∷ rest), skip_one rest, ok.no_line, stmts-stmts_of a, low_stmt_is (repeat e a) rest low') refl

do_again : (a : Stmts) (e : Tree) → Counts e → height_of (do_while a e) ≤ 200 → StmtsAgain a → StmtAgain (do_while a e)
unfolding one doing
do_again a e h low' hs zero le rest ok = absurd (omega arith)
do_again a e h low' hs (suc zero) le rest ok = absurd (omega arith)
do_again a e h low' hs (suc (suc n)) le rest ok =
    let last = t.mark m.Newline ∷ rest in
    rw (no_line_brace (t.mark m.Newline ∷ canon_lines a (t.mark m.RightBrace ∷ t.mark m.While ∷ in_head e last)), body_again a hs n (omega arith) (t.mark m.While ∷ in_head e last), (while_next (in_head e last)).0, (while_next (in_head e last)).1, tr.begin_arguments (canon e (closing last)), whole_again e h (omega arith) (closing last) (tr.bracket_closes last), ag.end_group last, end_line rest ok, stmts-stmts_of a, low_stmt_is (do_while a e) rest low') refl

-- ---- for

sees_semicolon : (rest : List Tok) → (sees m.Semicolon (t.mark m.Semicolon ∷ rest) ≡ true) × (expect m.Semicolon (t.mark m.Semicolon ∷ rest) ≡ Some (tt, rest))
unfolding expect sees same_mark
sees_semicolon rest = (refl, refl)

sees_closing : (rest : List Tok) → sees m.RightParenthesis (closing rest) ≡ true
unfolding sees same_mark
sees_closing rest = refl

maybe_semicolon : (o : Option Tree) → MayCount o → option_height o ≤ 200 → (rest : List Tok) → maybe (sees m.Semicolon (canon_maybe o (t.mark m.Semicolon ∷ rest))) (canon_maybe o (t.mark m.Semicolon ∷ rest)) ≡ Some (o, t.mark m.Semicolon ∷ rest)
unfolding maybe
maybe_semicolon None h low' rest = rw (sees_semicolon rest).0 refl
maybe_semicolon (Some e) h low' rest =
    let z = begins e (t.mark m.Semicolon ∷ rest) in
    let no_end : sees m.Semicolon (canon e (t.mark m.Semicolon ∷ rest)) ≡ false = ap (sees m.Semicolon) z.cut ∙ (opens_plain z.tail z.opens).3 in
    rw (no_end, whole_again e h low' (t.mark m.Semicolon ∷ rest) (semicolon_closes true rest)) refl

maybe_closing : (o : Option Tree) → MayCount o → option_height o ≤ 200 → (rest : List Tok) → maybe (sees m.RightParenthesis (canon_maybe o (closing rest))) (canon_maybe o (closing rest)) ≡ Some (o, closing rest)
unfolding maybe
maybe_closing None h low' rest = rw (sees_closing rest) refl
maybe_closing (Some e) h low' rest =
    let z = begins e (closing rest) in
    let no_end : sees m.RightParenthesis (canon e (closing rest)) ≡ false = ap (sees m.RightParenthesis) z.cut ∙ (opens_plain z.tail z.opens).4 in
    rw (no_end, whole_again e h low' (closing rest) (tr.bracket_closes rest)) refl

no_walk : (e : Tree) (rest : List Tok) → walks (canon e (t.mark m.Semicolon ∷ rest)) ≡ None
unfolding walks expect_name expect sees same_mark
no_walk (number n) rest = refl
no_walk (string x) rest = refl
no_walk (ere x) rest = refl
no_walk (variable x) rest = refl
no_walk (element x as') rest = refl
no_walk (unary single.Field a) rest = refl
no_walk (unary single.Not a) rest = refl
no_walk (unary single.Plus a) rest = refl
no_walk (unary single.Minus a) rest = refl
no_walk (unary single.IncrementBefore a) rest = refl
no_walk (unary single.DecrementBefore a) rest = refl
no_walk (unary single.IncrementAfter a) rest = refl
no_walk (unary single.DecrementAfter a) rest = refl
no_walk (binary op a d) rest = refl
no_walk (choice a d e) rest = refl
no_walk (member as' x) rest = refl
no_walk (call f as') rest = refl
no_walk (builtin f as') rest = refl

walks_none : (o : Option Tree) (rest : List Tok) → walks (canon_maybe o (t.mark m.Semicolon ∷ rest)) ≡ None
unfolding walks expect_name
walks_none None rest = refl
walks_none (Some e) rest = no_walk e rest

loop_again : (a b c : Option Tree) (body : Stmts) → MayCount a → MayCount b → MayCount c → height_of (loop a b c body) ≤ 200 → StmtsAgain body → StmtAgain (loop a b c body)
unfolding one for_on counting
loop_again a b c body h k l low' hs zero le rest ok = absurd (omega arith)
loop_again a b c body h k l low' hs (suc zero) le rest ok = absurd (omega arith)
loop_again a b c body h k l low' hs (suc (suc n)) le rest ok =
    let last = t.mark m.Newline ∷ rest in
    let four = in_braces (canon_lines body) last in
    let three = canon_maybe c (closing four) in
    let two = canon_maybe b (t.mark m.Semicolon ∷ three) in
    rw (tr.begin_arguments (canon_maybe a (t.mark m.Semicolon ∷ two)), walks_none a two, maybe_semicolon a h (omega arith) two, (sees_semicolon two).1, maybe_semicolon b k (omega arith) three, (sees_semicolon three).1, maybe_closing c l (omega arith) four, ag.end_group four, no_line_brace (t.mark m.Newline ∷ canon_lines body (t.mark m.RightBrace ∷ last)), body_again body hs n (omega arith) last, skip_one rest, ok.no_line, stmts-stmts_of body, low_stmt_is (loop a b c body) rest low') refl

walk_head : (k a : Text) (rest : List Tok) → walks (t.name k ∷ t.mark m.In ∷ t.name a ∷ closing rest) ≡ Some ((k, a), rest)
unfolding walks expect_name expect sees same_mark
walk_head k a rest = refl

walk_again : (k a : Text) (body : Stmts) → height_of (walk k a body) ≤ 200 → StmtsAgain body → StmtAgain (walk k a body)
unfolding one for_on walking
walk_again k a body low' hs zero le rest ok = absurd (omega arith)
walk_again k a body low' hs (suc zero) le rest ok = absurd (omega arith)
walk_again k a body low' hs (suc (suc n)) le rest ok =
    let last = t.mark m.Newline ∷ rest in
    let four = in_braces (canon_lines body) last in
    rw (tr.begin_arguments (t.name k ∷ t.mark m.In ∷ t.name a ∷ closing four), walk_head k a four, no_line_brace (t.mark m.Newline ∷ canon_lines body (t.mark m.RightBrace ∷ last)), body_again body hs n (omega arith) last, skip_one rest, ok.no_line, stmts-stmts_of body, low_stmt_is (walk k a body) rest low') refl

mutual
  pub stmt_again : (x : Stmt) → IsSoundStmt x → height_of x ≤ 200 → StmtAgain x
  stmt_again (eval e) h low' = λ n le rest ok. eval_again (stmt n) e h low' rest ok
  stmt_again (print es) h low' = λ n le rest ok. print_again (stmt n) es h low' rest ok
  stmt_again (printf es) h low' = λ n le rest ok. printf_again (stmt n) es h low' rest ok
  stmt_again (when e a) h low' = when_again e a h.0 low' (stmts_again a h.1 (omega arith))
  stmt_again (choose e a b) h low' = choose_again e a b h.0 low' (stmts_again a h.1 (omega arith)) (stmts_again b h.2 (omega arith))
  stmt_again (repeat e a) h low' = repeat_again e a h.0 low' (stmts_again a h.1 (omega arith))
  stmt_again (do_while a e) h low' = do_again a e h.0 low' (stmts_again a h.1 (omega arith))
  stmt_again (loop a b c body) h low' = loop_again a b c body h.0 h.1 h.2 low' (stmts_again body h.3 (omega arith))
  stmt_again (walk k a body) h low' = walk_again k a body low' (stmts_again body h (omega arith))
  stmt_again (go_out l) h low' = λ n le rest ok. leave_again (stmt n) l rest ok
  stmt_again (exit_with e) h low' = λ n le rest ok. exit_again (stmt n) e h low' rest ok
  stmt_again (return_with e) h low' = λ n le rest ok. return_again (stmt n) e h low' rest ok
  stmt_again (delete a es) h low' = λ n le rest ok. delete_again (stmt n) a es h low' rest ok
  stmt_again (clear a) h low' = λ n le rest ok. clear_again (stmt n) a rest ok

  pub stmts_again : (xs : Stmts) → AreSoundStmts xs → highest_of xs ≤ 200 → StmtsAgain xs
  stmts_again done h low' = tt
  stmts_again (next x xs) h low' = (stmt_again x h.0 (omega arith), stmts_again xs h.1 (omega arith))

-- the lines of a body, after `{`, up to and with its closing bracket
pub body_lines : (xs : Stmts) → AreSoundStmts xs → highest_of xs ≤ 200 → (rest : List Tok) → block (stmt 1000) (t.mark m.Newline ∷ canon_lines xs (t.mark m.RightBrace ∷ rest)) ≡ Some (stmts_of xs, rest)
body_lines xs h low' rest = inside_again xs (stmts_again xs h low') 999 (omega arith) rest
