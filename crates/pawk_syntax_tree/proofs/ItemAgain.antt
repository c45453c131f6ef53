-- The canonical tokens of items are read as those items.
use Rattle.std.proofs.Common.{◌≡◌, ◌≤◌, ℕ, zero, suc, Bool, true, false, List, [], ◌∷◌, ◌++◌, length, Some, refl, sym, ap, ◌∙◌, arith, append_assoc, le-leb}
use Rattle.std.proofs.lemmas.List.{append-nil}
use Rattle.std.proofs.Math.Dec.{leb-zero}
use Rattle.pawk_lex.specs.declared.token.Mark.TheVariants as m
use Rattle.pawk_lex.specs.Bytes.{Text}
use Rattle.pawk_lex.specs.Tokens.{Tok}
use Rattle.pawk_lex.specs.Tokens as t
use Rattle.pawk_syntax_tree.specs.Tree.{Tree}
use Rattle.pawk_syntax_tree.specs.Canonical.{closing, canon, height}
use Rattle.pawk_syntax_tree.specs.Parse.{expect, expect_name, sees, same_mark, row_at, skip_lines, after}
use Rattle.pawk_syntax_tree.proofs.Again as ag
use Rattle.pawk_syntax_tree.proofs.TreesAgain as tr
use Rattle.pawk_syntax_tree.proofs.Again.{begins, Begins, Opens, by_number, by_string, by_ere, by_name, by_function, by_builtin, by_bracket, by_dollar, no_lines}
use Rattle.pawk_syntax_tree.proofs.TreesAgain.{Closes, longer}
use Rattle.pawk_syntax_tree.specs.Statement.{Stmts, highest_of}
use Rattle.pawk_syntax_tree.specs.StatementCanonical.{in_braces, canon_lines, Counts, AreSoundStmts}
use Rattle.pawk_syntax_tree.specs.StatementParse.{whole}
use Rattle.pawk_syntax_tree.specs.Item.{Part, begin, end, always, matching, between, define, height_of_part, AreLow}
use Rattle.pawk_syntax_tree.specs.ItemCanonical.{canon_names, canon_parameters, canon_part, canon_program, IsSoundPart, AreSoundParts}
use Rattle.pawk_syntax_tree.specs.ItemParse.{action, low_part, with_action, action_or_none, pattern, parameters_from, parameters, function_name, function_on, item, separates, skip_separators, at_end, separated, items_from, program}
use Rattle.pawk_syntax_tree.proofs.StatementAgain.{stmts-stmts_of, body_lines, whole_again, lines_longer}

low_part_is : (closes : Bool) (x : Part) (ts : List Tok) → height_of_part x ≤ 200 → low_part closes x ts ≡ Some ((x, closes), ts)
unfolding low_part
low_part_is closes x ts h = rw (le-leb (height_of_part x) 200 h) refl

open_brace : (rest : List Tok) → (expect m.LeftBrace (t.mark m.LeftBrace ∷ rest) ≡ Some (tt, rest)) × (sees m.LeftBrace (t.mark m.LeftBrace ∷ rest) ≡ true) × (skip_lines (t.mark m.LeftBrace ∷ rest) ≡ t.mark m.LeftBrace ∷ rest)
unfolding expect sees same_mark skip_lines
open_brace rest = (refl, refl, refl)

brace_closes : (c : Bool) (ts : List Tok) → Closes c (t.mark m.LeftBrace ∷ ts)
unfolding sees same_mark row_at
brace_closes c ts = record { no_comma = refl; no_key = refl; stops = λ top. refl }

comma_closes_not : (ts : List Tok) → sees m.Comma (t.mark m.LeftBrace ∷ ts) ≡ false
unfolding sees same_mark
comma_closes_not ts = refl

action_again : (a : Stmts) → AreSoundStmts a → highest_of a ≤ 200 → (rest : List Tok) → action (in_braces (canon_lines a) rest) ≡ Some (a, rest)
unfolding action
action_again a h low' rest =
    let x = t.mark m.Newline ∷ canon_lines a (t.mark m.RightBrace ∷ rest) in
    rw ((open_brace x).0, body_lines a h low' rest, stmts-stmts_of a) refl

with_again : (make : Stmts → Part) (a : Stmts) → AreSoundStmts a → highest_of a ≤ 200 → height_of_part (make a) ≤ 200 → (rest : List Tok) → with_action make (in_braces (canon_lines a) rest) ≡ Some ((make a, true), rest)
unfolding with_action
with_again make a h low' low'' rest = rw (action_again a h low' rest, low_part_is true (make a) rest low'') refl

or_none_again : (make : Stmts → Part) (a : Stmts) → AreSoundStmts a → highest_of a ≤ 200 → height_of_part (make a) ≤ 200 → (rest : List Tok) → action_or_none make (in_braces (canon_lines a) rest) ≡ Some ((make a, true), rest)
unfolding action_or_none
or_none_again make a h low' low'' rest =
    let x = t.mark m.Newline ∷ canon_lines a (t.mark m.RightBrace ∷ rest) in
    rw ((open_brace x).1) (with_again make a h low' low'' rest)

opens_pattern : {x : Tok} (ts : List Tok) → Opens x → item (x ∷ ts) ≡ pattern (x ∷ ts)
unfolding item
opens_pattern ts by_number = refl
opens_pattern ts by_string = refl
opens_pattern ts by_ere = refl
opens_pattern ts by_name = refl
opens_pattern ts by_function = refl
opens_pattern ts by_builtin = refl
opens_pattern ts by_bracket = refl
opens_pattern ts by_dollar = refl

as_pattern : (p : Tree) (rest : List Tok) → item (canon p rest) ≡ pattern (canon p rest)
as_pattern p rest = let z = begins p rest in ap item z.cut ∙ opens_pattern z.tail z.opens ∙ ap pattern (sym z.cut)

comma_closes : (c : Bool) (ts : List Tok) → (sees m.Comma (t.mark m.Comma ∷ ts) ≡ true) × (sees m.LeftBracket (t.mark m.Comma ∷ ts) ≡ false) × ((top : ℕ) → ag.stops c 0 top (t.mark m.Comma ∷ ts) ≡ true)
unfolding sees same_mark row_at
comma_closes c ts = (refl, refl, λ top. refl)

-- an expression before a comma
before_comma : (p : Tree) → Counts p → height p ≤ 200 → (rest : List Tok) → whole (canon p (t.mark m.Comma ∷ rest)) ≡ Some (p, t.mark m.Comma ∷ rest)
unfolding whole
before_comma p h low' rest =
    let k = comma_closes true rest in
    rw (ag.whole p (tr.again p h.1) true 1000 (omega arith) low' 0 (leb-zero (ag.grade p)) (t.mark m.Comma ∷ rest) k.1 (k.2 (ag.grade p)), h.0) refl

matching_again : (p : Tree) (a : Stmts) → Counts p → AreSoundStmts a → height_of_part (matching p a) ≤ 200 → (rest : List Tok) → item (canon_part (matching p a) rest) ≡ Some ((matching p a, true), rest)
unfolding pattern after
matching_again p a h k low' rest =
    let x = in_braces (canon_lines a) rest in
    let inner = t.mark m.Newline ∷ canon_lines a (t.mark m.RightBrace ∷ rest) in
    as_pattern p x ∙ rw (whole_again p h (omega arith) x (brace_closes true inner), comma_closes_not inner) (or_none_again (matching p) a k (omega arith) low' rest)

between_again : (p q : Tree) (a : Stmts) → Counts p → Counts q → AreSoundStmts a → height_of_part (between p q a) ≤ 200 → (rest : List Tok) → item (canon_part (between p q a) rest) ≡ Some ((between p q a, true), rest)
unfolding pattern after
between_again p q a h l k low' rest =
    let x = in_braces (canon_lines a) rest in
    let inner = t.mark m.Newline ∷ canon_lines a (t.mark m.RightBrace ∷ rest) in
    let y = canon q x in
    as_pattern p (t.mark m.Comma ∷ y) ∙ rw (before_comma p h (omega arith) y, (comma_closes true y).0, no_lines q x, whole_again q l (omega arith) x (brace_closes true inner)) (or_none_again (between p q) a k (omega arith) low' rest)

-- ---- parameters

name_comma : (x : Text) (rest : List Tok) → (expect_name (t.name x ∷ rest) ≡ Some (x, rest)) × (skip_lines (t.name x ∷ rest) ≡ t.name x ∷ rest)
unfolding expect_name skip_lines sees
name_comma x rest = (refl, refl)

names_longer : (xs : List Text) (rest : List Tok) → length rest ≤ length (canon_names xs rest)
names_longer [] rest = omega arith
names_longer (x ∷ xs) rest = omega (arith, names_longer xs rest)

closing_no_comma : (rest : List Tok) → sees m.Comma (closing rest) ≡ false
unfolding sees same_mark
closing_no_comma rest = refl

names_again : (xs : List Text) (x : Text) (fuel : ℕ) (front : List Text) (rest : List Tok) → suc (length (canon_names xs (closing rest))) ≤ fuel → parameters_from fuel front (t.name x ∷ canon_names xs (closing rest)) ≡ Some (front ++ x ∷ xs, rest)
unfolding parameters_from after
names_again xs x zero front rest room = absurd (omega arith)
names_again [] x (suc fuel) front rest room = rw ((name_comma x (closing rest)).0, closing_no_comma rest, ag.end_group rest) refl
names_again (y ∷ ys) x (suc fuel) front rest room =
    let z = t.name y ∷ canon_names ys (closing rest) in
    rw ((name_comma x (t.mark m.Comma ∷ z)).0, (comma_closes true z).0, (name_comma y (canon_names ys (closing rest))).1)
    (names_again ys y fuel (front ++ x ∷ []) rest (omega arith) ∙ ap (λ q. Some (q, rest)) (append_assoc front (x ∷ []) (y ∷ ys)))

closing_ends : (rest : List Tok) → (sees m.RightParenthesis (closing rest) ≡ true)
unfolding sees same_mark
closing_ends rest = refl

name_goes_on : (x : Text) (rest : List Tok) → sees m.RightParenthesis (t.name x ∷ rest) ≡ false
unfolding sees
name_goes_on x rest = refl

parameters_again : (ps : List Text) (rest : List Tok) → parameters (canon_parameters ps (closing rest)) ≡ Some (ps, rest)
unfolding parameters after
parameters_again [] rest = rw (closing_ends rest) refl
parameters_again (x ∷ xs) rest = rw (name_goes_on x (canon_names xs (closing rest))) (names_again xs x (suc (length (canon_names xs (closing rest)))) [] rest (omega arith))

define_again : (f : Text) (ps : List Text) (a : Stmts) → AreSoundStmts a → height_of_part (define f ps a) ≤ 200 → (rest : List Tok) → item (canon_part (define f ps a) rest) ≡ Some ((define f ps a, true), rest)
unfolding item function_on function_name
define_again f ps a k low' rest =
    let x = in_braces (canon_lines a) rest in
    let inner = t.mark m.Newline ∷ canon_lines a (t.mark m.RightBrace ∷ rest) in
    rw (tr.begin_arguments (canon_parameters ps (closing x)), parameters_again ps x, (open_brace inner).2) (with_again (define f ps) a k (omega arith) low' rest)

begin_again : (a : Stmts) → AreSoundStmts a → height_of_part (begin a) ≤ 200 → (rest : List Tok) → item (canon_part (begin a) rest) ≡ Some ((begin a, true), rest)
unfolding item
begin_again a k low' rest = with_again begin a k (omega arith) low' rest

end_again : (a : Stmts) → AreSoundStmts a → height_of_part (end a) ≤ 200 → (rest : List Tok) → item (canon_part (end a) rest) ≡ Some ((end a, true), rest)
unfolding item
end_again a k low' rest = with_again end a k (omega arith) low' rest

always_again : (a : Stmts) → AreSoundStmts a → height_of_part (always a) ≤ 200 → (rest : List Tok) → item (canon_part (always a) rest) ≡ Some ((always a, true), rest)
unfolding item
always_again a k low' rest = with_again always a k (omega arith) low' rest

part_again : (x : Part) → IsSoundPart x → height_of_part x ≤ 200 → (rest : List Tok) → item (canon_part x rest) ≡ Some ((x, true), rest)
part_again (begin a) h low' rest = begin_again a h low' rest
part_again (end a) h low' rest = end_again a h low' rest
part_again (always a) h low' rest = always_again a h low' rest
part_again (matching p a) h low' rest = matching_again p a h.0 h.1 low' rest
part_again (between p q a) h low' rest = between_again p q a h.0 h.1 h.2 low' rest
part_again (define f ps a) h low' rest = define_again f ps a h low' rest

-- ---- programs

-- how an item's canonical tokens begin
pub data Heads : Tok → Type 0 where
  opens : {x : Tok} → Opens x → Heads x
  by_begin : Heads (t.mark m.Begin)
  by_end : Heads (t.mark m.End)
  by_brace : Heads (t.mark m.LeftBrace)
  by_keyword : Heads (t.mark m.Function)

record Fronts (ts : List Tok) : Type 0 where
  head : Tok
  tail : List Tok
  cut : ts ≡ head ∷ tail
  heads : Heads head

part_fronts : (x : Part) (rest : List Tok) → Fronts (canon_part x rest)
part_fronts (begin a) rest = record { head = t.mark m.Begin; tail = _; cut = refl; heads = by_begin }
part_fronts (end a) rest = record { head = t.mark m.End; tail = _; cut = refl; heads = by_end }
part_fronts (always a) rest = record { head = t.mark m.LeftBrace; tail = _; cut = refl; heads = by_brace }
part_fronts (matching p a) rest = let z = begins p (in_braces (canon_lines a) rest) in record { head = z.head; tail = z.tail; cut = z.cut; heads = opens z.opens }
part_fronts (between p q a) rest = let z = begins p (t.mark m.Comma ∷ canon q (in_braces (canon_lines a) rest)) in record { head = z.head; tail = z.tail; cut = z.cut; heads = opens z.opens }
part_fronts (define f ps a) rest = record { head = t.mark m.Function; tail = _; cut = refl; heads = by_keyword }

opens_unseparated : {x : Tok} (ts : List Tok) → Opens x → (separates (x ∷ ts) ≡ false) × (sees m.Newline (x ∷ ts) ≡ false)
unfolding separates sees same_mark
opens_unseparated ts by_number = (refl, refl)
opens_unseparated ts by_string = (refl, refl)
opens_unseparated ts by_ere = (refl, refl)
opens_unseparated ts by_name = (refl, refl)
opens_unseparated ts by_function = (refl, refl)
opens_unseparated ts by_builtin = (refl, refl)
opens_unseparated ts by_bracket = (refl, refl)
opens_unseparated ts by_dollar = (refl, refl)

heads_unseparated : {x : Tok} (ts : List Tok) → Heads x → (separates (x ∷ ts) ≡ false) × (sees m.Newline (x ∷ ts) ≡ false)
unfolding separates sees same_mark
heads_unseparated ts (opens h) = opens_unseparated ts h
heads_unseparated ts by_begin = (refl, refl)
heads_unseparated ts by_end = (refl, refl)
heads_unseparated ts by_brace = (refl, refl)
heads_unseparated ts by_keyword = (refl, refl)

still : {x : Tok} (ts : List Tok) → Heads x → (skip_separators (x ∷ ts) ≡ x ∷ ts) × (skip_lines (x ∷ ts) ≡ x ∷ ts)
unfolding skip_separators skip_lines
still {x} ts h = let k = heads_unseparated ts h in (rw (k.0) refl, rw (k.1) refl)

program_still : (xs : List Part) → (skip_separators (canon_program xs) ≡ canon_program xs) × (skip_lines (canon_program xs) ≡ canon_program xs)
unfolding skip_separators skip_lines
program_still [] = (refl, refl)
program_still (x ∷ xs) =
    let z = part_fronts x (t.mark m.Newline ∷ canon_program xs) in
    let k = still z.tail z.heads in
    (ap skip_separators z.cut ∙ k.0 ∙ sym z.cut, ap skip_lines z.cut ∙ k.1 ∙ sym z.cut)

separated_again : (xs : List Part) → separated true (t.mark m.Newline ∷ canon_program xs) ≡ Some (tt, canon_program xs)
unfolding separated skip_separators separates sees same_mark
separated_again xs = rw (program_still xs).0 refl

not_at_end : (x : Part) (rest : List Tok) → at_end (canon_part x rest) ≡ false
not_at_end x rest = let z = part_fronts x rest in rw z.cut refl

parameters_longer : (ps : List Text) (rest : List Tok) → length rest ≤ length (canon_parameters ps rest)
parameters_longer [] rest = omega arith
parameters_longer (x ∷ xs) rest = omega (arith, names_longer xs rest)

part_longer : (x : Part) (rest : List Tok) → length rest ≤ length (canon_part x rest)
part_longer (begin a) rest = omega (arith, lines_longer a (t.mark m.RightBrace ∷ rest))
part_longer (end a) rest = omega (arith, lines_longer a (t.mark m.RightBrace ∷ rest))
part_longer (always a) rest = omega (arith, lines_longer a (t.mark m.RightBrace ∷ rest))
part_longer (matching p a) rest = omega (arith, longer p (in_braces (canon_lines a) rest), lines_longer a (t.mark m.RightBrace ∷ rest))
part_longer (between p q a) rest =
    let x = in_braces (canon_lines a) rest in
    omega (arith, longer p (t.mark m.Comma ∷ canon q x), longer q x, lines_longer a (t.mark m.RightBrace ∷ rest))
part_longer (define f ps a) rest = omega (arith, parameters_longer ps (closing (in_braces (canon_lines a) rest)), lines_longer a (t.mark m.RightBrace ∷ rest))

program_longer : (xs : List Part) → length xs ≤ length (canon_program xs)
program_longer [] = omega arith
program_longer (x ∷ xs) = omega (arith, part_longer x (t.mark m.Newline ∷ canon_program xs), program_longer xs)

items_again : (xs : List Part) → AreSoundParts xs → AreLow xs → (fuel : ℕ) (front : List Part) → suc (length xs) ≤ fuel → items_from fuel front (canon_program xs) ≡ Some (front ++ xs, [])
unfolding items_from
items_again xs h low' zero front room = absurd (omega arith)
items_again [] h low' (suc fuel) front room = rw (append-nil front) refl
items_again (x ∷ xs) h low' (suc fuel) front room =
    let rest = t.mark m.Newline ∷ canon_program xs in
    rw (not_at_end x rest, part_again x h.0 low'.0 rest, separated_again xs) (items_again xs h.1 low'.1 fuel (front ++ x ∷ []) (omega arith) ∙ ap (λ q. Some (q, [])) (append_assoc front (x ∷ []) xs))

pub program_again : (xs : List Part) → AreSoundParts xs → AreLow xs → program (canon_program xs) ≡ Some (xs, [])
unfolding program
program_again xs h low' = rw (program_still xs).1 (items_again xs h low' (suc (length (canon_program xs))) [] (omega (arith, program_longer xs)))
