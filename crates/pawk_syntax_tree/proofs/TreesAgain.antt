-- The canonical tokens of lists, calls and all trees are read as those trees.
use Rattle.std.proofs.Common.{◌≡◌, ◌≤◌, ℕ, zero, suc, ◌*◌, max, Bool, true, false, List, [], ◌∷◌, ◌++◌, length, Option, Some, None, refl, ap, ◌∙◌, arith, append_assoc}
use Rattle.std.proofs.Math.Dec.{leb-zero}
use Rattle.pawk_lex.specs.declared.token.Mark.{Mark}
use Rattle.pawk_lex.specs.declared.token.Mark.TheVariants as m
use Rattle.pawk_lex.specs.declared.token.Builtin.{Builtin}
use Rattle.pawk_lex.specs.Bytes.{Text}
use Rattle.pawk_lex.specs.Tokens.{Tok}
use Rattle.pawk_lex.specs.Tokens as t
use Rattle.pawk_syntax_tree.specs.declared.tree.Single.{Single}
use Rattle.pawk_syntax_tree.specs.declared.tree.Single.TheVariants as single
use Rattle.pawk_syntax_tree.specs.declared.levels.Turn.TheVariants.{Membership}
use Rattle.pawk_syntax_tree.specs.Tree.{Tree, number, string, ere, variable, element, unary, binary, choice, member, call, builtin, Trees, none, more, trees, value, argument, complete}
use Rattle.pawk_syntax_tree.specs.Levels.{sign_of, membership}
use Rattle.pawk_syntax_tree.specs.Canonical.{opening, closing, around, between_by, between, canon, canon_keys, canon_first, canon_others, IsSome, IsSound, AreSound, height, highest}
use Rattle.pawk_syntax_tree.specs.Parse.{expect, expect_name, sees, same_mark, row_at, turn, operand, expr, list_from, list_up_to, arguments, called, built_in, named, group, after}
use Rattle.pawk_syntax_tree.proofs.Sound.{longer_by_one}
use Rattle.pawk_syntax_tree.proofs.Again.{NoKey, stops, end_group, end_keys, low_is, grade, reaches, Again, height_pos, whole, inside, inside_once, begins, opens_no_end, no_lines, some_tokens, unary_again, binary_again, choice_again}

-- ---- lists

abbrev pub EachAgain : Trees → Type 0
EachAgain none = Unit {0}
EachAgain (more a bs) = Again a × EachAgain bs

abbrev pub AreArguments : Option Builtin → ℕ → Trees → Type 0
AreArguments f place none = Unit {0}
AreArguments f place (more a bs) = (argument f place a ≡ a) × AreArguments f (suc place) bs

abbrev pub list_of : Trees → List Tree
list_of none = []
list_of (more a bs) = a ∷ list_of bs

pub trees-list_of : (bs : Trees) → trees (list_of bs) ≡ bs
trees-list_of none = refl
trees-list_of (more a bs) = ap (more a) (trees-list_of bs)

longer_by : (o : Option Mark) (rest : List Tok) → length rest ≤ length (between_by o rest)
longer_by (Some s) rest = omega arith
longer_by None rest = omega arith

longer_around : (op : Single) (a : List Tok → List Tok) → ((rest : List Tok) → suc (length rest) ≤ length (a rest)) → (rest : List Tok) → suc (length rest) ≤ length (around op a rest)
longer_around single.Field a h rest = omega (arith, h (closing rest))
longer_around single.Not a h rest = omega (arith, h (closing rest))
longer_around single.Plus a h rest = omega (arith, h (closing rest))
longer_around single.Minus a h rest = omega (arith, h (closing rest))
longer_around single.IncrementBefore a h rest = omega (arith, h (closing rest))
longer_around single.DecrementBefore a h rest = omega (arith, h (closing rest))
longer_around single.IncrementAfter a h rest = omega (arith, h (t.mark m.PlusPlus ∷ closing rest))
longer_around single.DecrementAfter a h rest = omega (arith, h (t.mark m.MinusMinus ∷ closing rest))

mutual
  pub longer : (a : Tree) (rest : List Tok) → suc (length rest) ≤ length (canon a rest)
  longer (number n) rest = omega arith
  longer (string x) rest = omega arith
  longer (ere x) rest = omega arith
  longer (variable x) rest = omega arith
  longer (element x as') rest = omega (arith, longer_first as' (t.mark m.RightBracket ∷ rest))
  longer (unary op a) rest = longer_around op (canon a) (longer a) rest
  longer (binary op a d) rest = omega (arith, longer a (between op (canon d (closing rest))), longer_by (sign_of op) (canon d (closing rest)), longer d (closing rest))
  longer (choice a d e) rest = omega (arith, longer a (t.mark m.Question ∷ canon d (t.mark m.Colon ∷ canon e (closing rest))), longer d (t.mark m.Colon ∷ canon e (closing rest)), longer e (closing rest))
  longer (member as' x) rest = omega (arith, longer_keys as' (t.mark m.In ∷ t.name x ∷ closing rest))
  longer (call f as') rest = omega (arith, longer_first as' (closing rest))
  longer (builtin f as') rest = omega (arith, longer_first as' (closing rest))

  longer_keys : (bs : Trees) (rest : List Tok) → length rest ≤ length (canon_keys bs rest)
  longer_keys none rest = omega arith
  longer_keys (more a none) rest = omega (arith, longer a rest)
  longer_keys (more a (more d bs)) rest = omega (arith, longer a (t.mark m.Comma ∷ canon d (canon_others bs (closing rest))), longer d (canon_others bs (closing rest)), longer_others bs (closing rest))

  pub longer_first : (bs : Trees) (rest : List Tok) → length rest ≤ length (canon_first bs rest)
  longer_first none rest = omega arith
  longer_first (more a bs) rest = omega (arith, longer a (canon_others bs rest), longer_others bs rest)

  pub longer_others : (bs : Trees) (rest : List Tok) → length rest ≤ length (canon_others bs rest)
  longer_others none rest = omega arith
  longer_others (more a bs) rest = omega (arith, longer a (canon_others bs rest), longer_others bs rest)

-- what may follow a list
pub record Closes (c : Bool) (rest : List Tok) : Type 0 where
  pub no_comma : sees m.Comma rest ≡ false
  pub no_key : NoKey rest
  pub stops : (top : ℕ) → stops c 0 top rest ≡ true

pub bracket_closes : (rest : List Tok) → Closes true (closing rest)
unfolding sees same_mark row_at
bracket_closes rest = record { no_comma = refl; no_key = refl; stops = λ top. refl }

pub key_closes : (rest : List Tok) → Closes true (t.mark m.RightBracket ∷ rest)
unfolding sees same_mark row_at
key_closes rest = record { no_comma = refl; no_key = refl; stops = λ top. refl }

pub sees_comma : (rest : List Tok) → sees m.Comma (t.mark m.Comma ∷ rest) ≡ true
unfolding sees same_mark
sees_comma rest = refl

comma_no_key : (rest : List Tok) → NoKey (t.mark m.Comma ∷ rest)
unfolding sees same_mark
comma_no_key rest = refl

comma_stops : (c : Bool) (top : ℕ) (rest : List Tok) → stops c 0 top (t.mark m.Comma ∷ rest) ≡ true
unfolding row_at
comma_stops c top rest = refl

pub list_again : (f : Option Builtin) (bs : Trees) (a : Tree) → Again a → EachAgain bs → (c : Bool) (n fuel : ℕ) → 2 * max (height a) (highest bs) ≤ n → max (height a) (highest bs) ≤ 200 → (front : List Tree) → AreArguments f (length front) (more a bs) → (rest : List Tok) → Closes c rest → length (canon a (canon_others bs rest)) ≤ fuel → list_from (expr n) c f fuel front (canon a (canon_others bs rest)) ≡ Some (front ++ a ∷ list_of bs, rest)
unfolding list_from after
list_again f bs a h hs c n zero le low' front is rest ok room = absurd (omega (arith, longer a (canon_others bs rest)))
list_again f none a h hs c n (suc fuel) le low' front is rest ok room =
    rw (whole a h c n (omega arith) (omega arith) 0 (leb-zero (grade a)) rest ok.no_key (ok.stops (grade a)), ok.no_comma, is.0) refl
list_again f (more d es) a h hs c n (suc fuel) le low' front is rest ok room =
    let y = canon d (canon_others es rest) in
    let later : AreArguments f (length (front ++ a ∷ [])) (more d es) = rw (longer_by_one front a) is.1 in
    rw (whole a h c n (omega arith) (omega arith) 0 (leb-zero (grade a)) (t.mark m.Comma ∷ y) (comma_no_key y) (comma_stops c (grade a) y), sees_comma y, is.0, no_lines d (canon_others es rest))
    (list_again f es d hs.0 hs.1 c n fuel (omega arith) (omega arith) (front ++ a ∷ []) later rest ok (omega (arith, longer a (t.mark m.Comma ∷ y))) ∙ ap (λ q. Some (q, rest)) (append_assoc front (a ∷ []) (d ∷ list_of es)))

-- a list up to a round bracket
round_again : (f : Option Builtin) (bs : Trees) (a : Tree) → Again a → EachAgain bs → (n : ℕ) → 2 * max (height a) (highest bs) ≤ n → max (height a) (highest bs) ≤ 200 → AreArguments f 0 (more a bs) → (rest : List Tok) → list_up_to (expr n) m.RightParenthesis f (canon a (canon_others bs (closing rest))) ≡ Some (a ∷ list_of bs, rest)
unfolding list_up_to
round_again f bs a h hs n le low' is rest =
    let x = canon a (canon_others bs (closing rest)) in
    rw (list_again f bs a h hs true n (length x) le low' [] is (closing rest) (bracket_closes rest) (omega arith), end_group rest) refl

pub square_again : (bs : Trees) (a : Tree) → Again a → EachAgain bs → (n : ℕ) → 2 * max (height a) (highest bs) ≤ n → max (height a) (highest bs) ≤ 200 → AreArguments None 0 (more a bs) → (rest : List Tok) → list_up_to (expr n) m.RightBracket None (canon a (canon_others bs (t.mark m.RightBracket ∷ rest))) ≡ Some (a ∷ list_of bs, rest)
unfolding list_up_to
square_again bs a h hs n le low' is rest =
    let x = canon a (canon_others bs (t.mark m.RightBracket ∷ rest)) in
    rw (list_again None bs a h hs true n (length x) le low' [] is (t.mark m.RightBracket ∷ rest) (key_closes rest) (omega arith), end_keys rest) refl

-- ---- elements and calls

sees_key : (rest : List Tok) → sees m.LeftBracket (t.mark m.LeftBracket ∷ rest) ≡ true
unfolding sees same_mark
sees_key rest = refl

element_again : (x : Text) (as' : Trees) → IsSome as' → EachAgain as' → AreArguments None 0 as' → Again (element x as')
unfolding operand named after
element_again x none some hs is c n le low' rest free = absurd some
element_again x (more a bs) some hs is c n le low' rest free =
    rw (sees_key (canon a (canon_others bs (t.mark m.RightBracket ∷ rest))), square_again bs a hs.0 hs.1 n (omega arith) (omega arith) is rest, trees-list_of bs, low_is (element x (more a bs)) rest low') refl

end_arguments : (rest : List Tok) → sees m.RightParenthesis (closing rest) ≡ true
unfolding sees same_mark
end_arguments rest = refl

pub begin_arguments : (rest : List Tok) → expect m.LeftParenthesis (opening rest) ≡ Some (tt, rest)
unfolding expect sees same_mark
begin_arguments rest = refl

sees_arguments : (rest : List Tok) → sees m.LeftParenthesis (opening rest) ≡ true
unfolding sees same_mark
sees_arguments rest = refl

arguments_again : (f : Option Builtin) (as' : Trees) → EachAgain as' → (n : ℕ) → 2 * highest as' ≤ n → highest as' ≤ 200 → AreArguments f 0 as' → (rest : List Tok) → arguments (expr n) f (opening (canon_first as' (closing rest))) ≡ Some (list_of as', rest)
unfolding arguments after
arguments_again f none hs n le low' is rest = rw (begin_arguments (closing rest), end_arguments rest) refl
arguments_again f (more a bs) hs n le low' is rest =
    let x = canon a (canon_others bs (closing rest)) in
    let z = begins a (canon_others bs (closing rest)) in
    let open' : sees m.RightParenthesis x ≡ false = ap (sees m.RightParenthesis) z.cut ∙ opens_no_end z.tail z.opens in
    rw (begin_arguments x, open') (round_again f bs a hs.0 hs.1 n (omega arith) (omega arith) is rest)

call_again : (f : Text) (as' : Trees) → EachAgain as' → AreArguments None 0 as' → Again (call f as')
unfolding operand called
call_again f as' hs is c n le low' rest free =
    rw (arguments_again None as' hs n (omega arith) (omega arith) is rest, trees-list_of as', low_is (call f as') rest low') refl

builtin_again : (f : Builtin) (as' : Trees) → complete f as' ≡ as' → EachAgain as' → AreArguments (Some f) 0 as' → Again (builtin f as')
unfolding operand built_in
builtin_again f as' whole' hs is c n le low' rest free =
    rw (sees_arguments (canon_first as' (closing rest)), arguments_again (Some f) as' hs n (omega arith) (omega arith) is rest, trees-list_of as', whole', low_is (builtin f as') rest low') refl

-- ---- membership

member_row : (top : ℕ) (ts : List Tok) → row_at true top (t.mark m.In ∷ ts) ≡ membership
unfolding row_at
member_row top ts = refl

in_no_key : (ts : List Tok) → NoKey (t.mark m.In ∷ ts)
unfolding sees same_mark
in_no_key ts = refl

pass_in : (ts : List Tok) → expect m.In (t.mark m.In ∷ ts) ≡ Some (tt, ts)
unfolding expect sees same_mark
pass_in ts = refl

pass_name : (x : Text) (ts : List Tok) → expect_name (t.name x ∷ ts) ≡ Some (x, ts)
unfolding expect_name
pass_name x ts = refl

one_key_again : (a : Tree) (x : Text) → Again a → value a ≡ a → (n : ℕ) → 2 * height a ≤ suc n → height (member (more a none) x) ≤ 200 → (rest : List Tok) → group (expr (suc n)) (canon a (t.mark m.In ∷ t.name x ∷ closing rest)) ≡ Some ((member (more a none) x, 13), rest)
unfolding turn
one_key_again a x h v n le low' rest =
    let y = t.name x ∷ closing rest in
    inside_once n (grade a) a (member (more a none) x) (canon a (t.mark m.In ∷ y)) y rest (t.mark m.In) (record { turn = Membership; level = 3; left = 3; right = 0 }) (some_tokens a (t.mark m.In ∷ y)) (h true n le (omega arith) (t.mark m.In ∷ y) (in_no_key y)) (member_row (grade a) y) (reaches 3 a (omega arith))
    (rw (pass_name x (closing rest), v, low_is (member (more a none) x) (closing rest) low') refl)

keys_again : (a d : Tree) (bs : Trees) (x : Text) → Again a → EachAgain (more d bs) → AreArguments None 0 (more a (more d bs)) → (n : ℕ) → 2 * max (height a) (highest (more d bs)) ≤ n → height (member (more a (more d bs)) x) ≤ 200 → (rest : List Tok) → group (expr n) (canon a (canon_others (more d bs) (closing (t.mark m.In ∷ t.name x ∷ closing rest)))) ≡ Some ((member (more a (more d bs)) x, 3), closing rest)
unfolding group
keys_again a d bs x h hs is n le low' rest =
    rw (round_again None (more d bs) a h hs n le (omega arith) is (t.mark m.In ∷ t.name x ∷ closing rest), pass_in (t.name x ∷ closing rest), pass_name x (closing rest), trees-list_of bs, low_is (member (more a (more d bs)) x) (closing rest) low') refl

member_again : (as' : Trees) (x : Text) → IsSome as' → EachAgain as' → AreArguments None 0 as' → Again (member as' x)
unfolding operand
member_again none x some hs is c n le low' rest free = absurd some
member_again (more a none) x some hs is c zero le low' rest free = absurd (omega (arith, height_pos a))
member_again (more a none) x some hs is c (suc n) le low' rest free = one_key_again a x hs.0 is.0 n (omega arith) low' rest
member_again (more a (more d bs)) x some hs is c zero le low' rest free = absurd (omega (arith, height_pos a))
member_again (more a (more d bs)) x some hs is c (suc n) le low' rest free =
    inside n 3 (member (more a (more d bs)) x) (t.mark m.LeftParenthesis) (canon a (canon_others (more d bs) (closing (t.mark m.In ∷ t.name x ∷ closing rest)))) rest (keys_again a d bs x hs.0 hs.1 is n (omega arith) low' rest)

-- ---- leaves, and all trees

number_again : (x : ℕ) → Again (number x)
unfolding operand
number_again x c n le low' rest free = refl

string_again : (x : Text) → Again (string x)
unfolding operand
string_again x c n le low' rest free = refl

ere_again : (x : Text) → Again (ere x)
unfolding operand
ere_again x c n le low' rest free = refl

variable_again : (x : Text) → Again (variable x)
unfolding operand named after
variable_again x c n le low' rest free = rw free refl

pub are_arguments : (f : Option Builtin) (place : ℕ) (bs : Trees) → AreSound f place bs → AreArguments f place bs
are_arguments f place none h = tt
are_arguments f place (more a bs) h = (h.0, are_arguments f (suc place) bs h.2)

mutual
  pub again : (a : Tree) → IsSound a → Again a
  again (number n) h = number_again n
  again (string x) h = string_again x
  again (ere x) h = ere_again x
  again (variable x) h = variable_again x
  again (element x as') h = element_again x as' h.0 (each_again None 0 as' h.1) (are_arguments None 0 as' h.1)
  again (unary op a) h = unary_again op a h.0 h.1 (again a h.2)
  again (binary op a d) h = binary_again op a d h.0 h.1 h.2 (again a h.3) (again d h.4)
  again (choice a d e) h = choice_again a d e h.0.0 h.1.0 h.2.0 (again a h.0.1) (again d h.1.1) (again e h.2.1)
  again (member as' x) h = member_again as' x h.0 (each_again None 0 as' h.1) (are_arguments None 0 as' h.1)
  again (call f as') h = call_again f as' (each_again None 0 as' h) (are_arguments None 0 as' h)
  again (builtin f as') h = builtin_again f as' h.0 (each_again (Some f) 0 as' h.1) (are_arguments (Some f) 0 as' h.1)

  pub each_again : (f : Option Builtin) (place : ℕ) (bs : Trees) → AreSound f place bs → EachAgain bs
  each_again f place none h = tt
  each_again f place (more a bs) h = (again a h.1, each_again f (suc place) bs h.2)

-- at a depth of twice the height, canonical tokens are read as their tree, whatever follows that no operator goes on with
pub read_again : (a : Tree) → IsSound a → height a ≤ 200 → (c : Bool) (depth : ℕ) → 2 * height a ≤ depth → (rest : List Tok) → NoKey rest → stops c 0 (grade a) rest ≡ true → expr depth c 0 (canon a rest) ≡ Some (a, rest)
read_again a h low' c depth le rest free g = whole a (again a h) c depth le low' 0 (leb-zero (grade a)) rest free g
