-- The canonical tokens of statements, items and programs that are not too high open few brackets.
use Rattle.std.proofs.Common.{◌≡◌, ◌≤◌, ℕ, suc, ◌+◌, ◌*◌, max, true, List, [], ◌∷◌, Option, Some, None, refl, arith}
use Rattle.std.proofs.Math.Nat.{le-max_left, le-max_right}
use Rattle.pawk_lex.specs.declared.token.Mark.TheVariants as m
use Rattle.pawk_lex.specs.Bytes.{Text}
use Rattle.pawk_lex.specs.Tokens.{Tok}
use Rattle.pawk_lex.specs.Tokens as t
use Rattle.pawk_syntax_tree.specs.Tree.{Tree}
use Rattle.pawk_syntax_tree.specs.Canonical.{canon, canon_first, height, opening, closing}
use Rattle.pawk_syntax_tree.specs.declared.statement.Jump.{Jump}
use Rattle.pawk_syntax_tree.specs.declared.statement.Jump.TheVariants as leave
use Rattle.pawk_syntax_tree.specs.Statement.{Stmt, eval, print, printf, when, choose, repeat, do_while, loop, walk, go_out, exit_with, return_with, delete, clear, Stmts, done, next, word_of, option_height, height_of, highest_of}
use Rattle.pawk_syntax_tree.specs.StatementCanonical.{in_braces, in_head, canon_maybe, canon_stmt, canon_lines}
use Rattle.pawk_syntax_tree.specs.Item.{Part, begin, end, always, matching, between, define, height_of_part, AreLow}
use Rattle.pawk_syntax_tree.specs.ItemCanonical.{canon_names, canon_parameters, canon_part, canon_program}
use Rattle.pawk_syntax_grammar.specs.Brackets.{are_few}
use Rattle.pawk_syntax_grammar.proofs.TreeBrackets.{Fits, Few, passes, opens, closes, square_opens, square_closes, brace_opens, brace_closes, few_canon, few_first}

-- lines in braces
braced : (inside : List Tok → List Tok) (n : ℕ) (rest : List Tok) → suc n ≤ 500 →
    ((ts : List Tok) → Few (suc n) ts → Few (suc n) (inside ts)) → Few n rest → Few n (in_braces inside rest)
braced inside n rest low h k =
    brace_opens n (t.mark m.Newline ∷ inside (t.mark m.RightBrace ∷ rest)) low
    (passes (suc n) (t.mark m.Newline) (inside (t.mark m.RightBrace ∷ rest)) refl low
    (h (t.mark m.RightBrace ∷ rest) (brace_closes n rest (omega arith) k)))

headed : (e : Tree) (n : ℕ) (rest : List Tok) → suc n + 2 * height e ≤ 500 → Few n rest → Few n (in_head e rest)
headed e n rest low h =
    opens n (canon e (closing rest)) (omega arith) (few_canon e (suc n) (closing rest) low (closes n rest (omega arith) h))

maybe : (e : Option Tree) (n : ℕ) (rest : List Tok) → n + 2 * option_height e ≤ 500 → Few n rest → Few n (canon_maybe e rest)
maybe None n rest low h = h
maybe (Some e) n rest low h = few_canon e n rest low h

word : (l : Jump) (n : ℕ) (rest : List Tok) → n ≤ 500 → Few n rest → Few n (t.mark (word_of l) ∷ rest)
word leave.Next n rest = passes n (t.mark m.Next) rest refl
word leave.NextFile n rest = passes n (t.mark m.NextFile) rest refl
word leave.Break n rest = passes n (t.mark m.Break) rest refl
word leave.Continue n rest = passes n (t.mark m.Continue) rest refl

mutual
  few_stmt : (x : Stmt) (n : ℕ) (rest : List Tok) → Fits n (height_of x) → Few n rest → Few n (canon_stmt x rest)
  few_stmt (eval e) n rest low h = few_canon e n rest low h
  few_stmt (print es) n rest low h = passes n (t.mark m.Print) (canon_first es rest) refl (omega arith) (few_first es n rest (omega arith) h)
  few_stmt (printf es) n rest low h = passes n (t.mark m.Printf) (canon_first es rest) refl (omega arith) (few_first es n rest (omega arith) h)
  few_stmt (when e a) n rest low h =
      let q = le-max_left (height e) (highest_of a) in
      let r = le-max_right (height e) (highest_of a) in
      let body : Few n (in_braces (canon_lines a) rest) = braced (canon_lines a) n rest (omega (arith, r)) (λ ts k. few_lines a (suc n) ts (omega (arith, r)) k) h in
      passes n (t.mark m.If) (in_head e (in_braces (canon_lines a) rest)) refl (omega arith)
      (headed e n (in_braces (canon_lines a) rest) (omega (arith, q)) body)
  few_stmt (choose e a b) n rest low h =
      let q = le-max_left (height e) (max (highest_of a) (highest_of b)) in
      let r = le-max_right (height e) (max (highest_of a) (highest_of b)) in
      let s = le-max_left (highest_of a) (highest_of b) in
      let u = le-max_right (highest_of a) (highest_of b) in
      let second : Few n (in_braces (canon_lines b) rest) = braced (canon_lines b) n rest (omega (arith, r, u)) (λ ts k. few_lines b (suc n) ts (omega (arith, r, u)) k) h in
      let other : Few n (t.mark m.Else ∷ in_braces (canon_lines b) rest) = passes n (t.mark m.Else) (in_braces (canon_lines b) rest) refl (omega arith) second in
      let first : Few n (in_braces (canon_lines a) (t.mark m.Else ∷ in_braces (canon_lines b) rest)) =
      braced (canon_lines a) n (t.mark m.Else ∷ in_braces (canon_lines b) rest) (omega (arith, r, s)) (λ ts k. few_lines a (suc n) ts (omega (arith, r, s)) k) other in
      passes n (t.mark m.If) (in_head e (in_braces (canon_lines a) (t.mark m.Else ∷ in_braces (canon_lines b) rest))) refl (omega arith)
      (headed e n (in_braces (canon_lines a) (t.mark m.Else ∷ in_braces (canon_lines b) rest)) (omega (arith, q)) first)
  few_stmt (repeat e a) n rest low h =
      let q = le-max_left (height e) (highest_of a) in
      let r = le-max_right (height e) (highest_of a) in
      let body : Few n (in_braces (canon_lines a) rest) = braced (canon_lines a) n rest (omega (arith, r)) (λ ts k. few_lines a (suc n) ts (omega (arith, r)) k) h in
      passes n (t.mark m.While) (in_head e (in_braces (canon_lines a) rest)) refl (omega arith)
      (headed e n (in_braces (canon_lines a) rest) (omega (arith, q)) body)
  few_stmt (do_while a e) n rest low h =
      let q = le-max_left (highest_of a) (height e) in
      let r = le-max_right (highest_of a) (height e) in
      let test : Few n (in_head e rest) = headed e n rest (omega (arith, r)) h in
      let while : Few n (t.mark m.While ∷ in_head e rest) = passes n (t.mark m.While) (in_head e rest) refl (omega arith) test in
      passes n (t.mark m.Do) (in_braces (canon_lines a) (t.mark m.While ∷ in_head e rest)) refl (omega arith)
      (braced (canon_lines a) n (t.mark m.While ∷ in_head e rest) (omega (arith, q)) (λ ts k. few_lines a (suc n) ts (omega (arith, q)) k) while)
  few_stmt (loop a b c body) n rest low h =
      let heads = max (option_height a) (max (option_height b) (option_height c)) in
      let q = le-max_left heads (highest_of body) in
      let r = le-max_right heads (highest_of body) in
      let qa = le-max_left (option_height a) (max (option_height b) (option_height c)) in
      let qr = le-max_right (option_height a) (max (option_height b) (option_height c)) in
      let qb = le-max_left (option_height b) (option_height c) in
      let qc = le-max_right (option_height b) (option_height c) in
      let inner : List Tok = in_braces (canon_lines body) rest in
      let lines : Few n inner = braced (canon_lines body) n rest (omega (arith, r)) (λ ts k. few_lines body (suc n) ts (omega (arith, r)) k) h in
      let third : Few (suc n) (canon_maybe c (closing inner)) = maybe c (suc n) (closing inner) (omega (arith, q, qr, qc)) (closes n inner (omega arith) lines) in
      let semi : Few (suc n) (t.mark m.Semicolon ∷ canon_maybe c (closing inner)) = passes (suc n) (t.mark m.Semicolon) (canon_maybe c (closing inner)) refl (omega arith) third in
      let second : Few (suc n) (canon_maybe b (t.mark m.Semicolon ∷ canon_maybe c (closing inner))) = maybe b (suc n) (t.mark m.Semicolon ∷ canon_maybe c (closing inner)) (omega (arith, q, qr, qb)) semi in
      let semis : Few (suc n) (t.mark m.Semicolon ∷ canon_maybe b (t.mark m.Semicolon ∷ canon_maybe c (closing inner))) = passes (suc n) (t.mark m.Semicolon) (canon_maybe b (t.mark m.Semicolon ∷ canon_maybe c (closing inner))) refl (omega arith) second in
      let first : Few (suc n) (canon_maybe a (t.mark m.Semicolon ∷ canon_maybe b (t.mark m.Semicolon ∷ canon_maybe c (closing inner)))) = maybe a (suc n) (t.mark m.Semicolon ∷ canon_maybe b (t.mark m.Semicolon ∷ canon_maybe c (closing inner))) (omega (arith, q, qa)) semis in
      passes n (t.mark m.For) (opening (canon_maybe a (t.mark m.Semicolon ∷ canon_maybe b (t.mark m.Semicolon ∷ canon_maybe c (closing inner))))) refl (omega arith)
      (opens n (canon_maybe a (t.mark m.Semicolon ∷ canon_maybe b (t.mark m.Semicolon ∷ canon_maybe c (closing inner)))) (omega arith) first)
  few_stmt (walk k a body) n rest low h =
      let inner : List Tok = in_braces (canon_lines body) rest in
      let lines : Few n inner = braced (canon_lines body) n rest (omega arith) (λ ts z. few_lines body (suc n) ts (omega arith) z) h in
      let name : Few (suc n) (t.name a ∷ closing inner) = passes (suc n) (t.name a) (closing inner) refl (omega arith) (closes n inner (omega arith) lines) in
      let sign : Few (suc n) (t.mark m.In ∷ t.name a ∷ closing inner) = passes (suc n) (t.mark m.In) (t.name a ∷ closing inner) refl (omega arith) name in
      let key : Few (suc n) (t.name k ∷ t.mark m.In ∷ t.name a ∷ closing inner) = passes (suc n) (t.name k) (t.mark m.In ∷ t.name a ∷ closing inner) refl (omega arith) sign in
      passes n (t.mark m.For) (opening (t.name k ∷ t.mark m.In ∷ t.name a ∷ closing inner)) refl (omega arith)
      (opens n (t.name k ∷ t.mark m.In ∷ t.name a ∷ closing inner) (omega arith) key)
  few_stmt (go_out l) n rest low h = word l n rest (omega arith) h
  few_stmt (exit_with e) n rest low h = passes n (t.mark m.Exit) (canon_maybe e rest) refl (omega arith) (maybe e n rest (omega arith) h)
  few_stmt (return_with e) n rest low h = passes n (t.mark m.Return) (canon_maybe e rest) refl (omega arith) (maybe e n rest (omega arith) h)
  few_stmt (delete a es) n rest low h =
      passes n (t.mark m.Delete) (t.name a ∷ t.mark m.LeftBracket ∷ canon_first es (t.mark m.RightBracket ∷ rest)) refl (omega arith)
      (passes n (t.name a) (t.mark m.LeftBracket ∷ canon_first es (t.mark m.RightBracket ∷ rest)) refl (omega arith)
      (square_opens n (canon_first es (t.mark m.RightBracket ∷ rest)) (omega arith)
      (few_first es (suc n) (t.mark m.RightBracket ∷ rest) (omega arith) (square_closes n rest (omega arith) h))))
  few_stmt (clear a) n rest low h =
      passes n (t.mark m.Delete) (t.name a ∷ rest) refl (omega arith) (passes n (t.name a) rest refl (omega arith) h)

  few_lines : (xs : Stmts) (n : ℕ) (rest : List Tok) → Fits n (highest_of xs) → Few n rest → Few n (canon_lines xs rest)
  few_lines done n rest low h = h
  few_lines (next x xs) n rest low h =
      let q = le-max_left (height_of x) (highest_of xs) in
      let r = le-max_right (height_of x) (highest_of xs) in
      let lines : Few n (canon_lines xs rest) = few_lines xs n rest (omega (arith, r)) h in
      few_stmt x n (t.mark m.Newline ∷ canon_lines xs rest) (omega (arith, q))
      (passes n (t.mark m.Newline) (canon_lines xs rest) refl (omega arith) lines)

few_names : (xs : List Text) (n : ℕ) (rest : List Tok) → n ≤ 500 → Few n rest → Few n (canon_names xs rest)
few_names [] n rest low h = h
few_names (x ∷ xs) n rest low h =
    passes n (t.mark m.Comma) (t.name x ∷ canon_names xs rest) refl low
    (passes n (t.name x) (canon_names xs rest) refl low (few_names xs n rest low h))

few_parameters : (xs : List Text) (n : ℕ) (rest : List Tok) → n ≤ 500 → Few n rest → Few n (canon_parameters xs rest)
few_parameters [] n rest low h = h
few_parameters (x ∷ xs) n rest low h = passes n (t.name x) (canon_names xs rest) refl low (few_names xs n rest low h)

-- an action at the outermost level
action : (a : Stmts) (rest : List Tok) → 1 + 2 * highest_of a ≤ 500 → Few 0 rest → Few 0 (in_braces (canon_lines a) rest)
action a rest low h = braced (canon_lines a) 0 rest (omega arith) (λ ts k. few_lines a 1 ts low k) h

few_part : (x : Part) (rest : List Tok) → height_of_part x ≤ 200 → Few 0 rest → Few 0 (canon_part x rest)
few_part (begin a) rest low h = passes 0 (t.mark m.Begin) (in_braces (canon_lines a) rest) refl (omega arith) (action a rest (omega arith) h)
few_part (end a) rest low h = passes 0 (t.mark m.End) (in_braces (canon_lines a) rest) refl (omega arith) (action a rest (omega arith) h)
few_part (always a) rest low h = action a rest (omega arith) h
few_part (matching p a) rest low h =
    let q = le-max_left (height p) (highest_of a) in
    let r = le-max_right (height p) (highest_of a) in
    few_canon p 0 (in_braces (canon_lines a) rest) (omega (arith, q)) (action a rest (omega (arith, r)) h)
few_part (between p p' a) rest low h =
    let q = le-max_left (height p) (max (height p') (highest_of a)) in
    let r = le-max_right (height p) (max (height p') (highest_of a)) in
    let s = le-max_left (height p') (highest_of a) in
    let u = le-max_right (height p') (highest_of a) in
    let body : Few 0 (in_braces (canon_lines a) rest) = action a rest (omega (arith, r, u)) h in
    let second : Few 0 (canon p' (in_braces (canon_lines a) rest)) = few_canon p' 0 (in_braces (canon_lines a) rest) (omega (arith, r, s)) body in
    few_canon p 0 (t.mark m.Comma ∷ canon p' (in_braces (canon_lines a) rest)) (omega (arith, q))
    (passes 0 (t.mark m.Comma) (canon p' (in_braces (canon_lines a) rest)) refl (omega arith) second)
few_part (define f ps a) rest low h =
    let inner : List Tok = in_braces (canon_lines a) rest in
    let body : Few 0 inner = action a rest (omega arith) h in
    let names : Few 1 (canon_parameters ps (closing inner)) = few_parameters ps 1 (closing inner) (omega arith) (closes 0 inner (omega arith) body) in
    passes 0 (t.mark m.Function) (t.function_name f ∷ opening (canon_parameters ps (closing inner))) refl (omega arith)
    (passes 0 (t.function_name f) (opening (canon_parameters ps (closing inner))) refl (omega arith)
    (opens 0 (canon_parameters ps (closing inner)) (omega arith) names))

pub few_program : (xs : List Part) → AreLow xs → are_few 0 (canon_program xs) ≡ true
unfolding are_few
few_program [] low = refl
few_program (x ∷ xs) low =
    few_part x (t.mark m.Newline ∷ canon_program xs) low.0
    (passes 0 (t.mark m.Newline) (canon_program xs) refl (omega arith) (few_program xs low.1))
