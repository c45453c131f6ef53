-- The canonical text of an expression is cut into its canonical tokens.
use Rattle.std.proofs.Common.{◌≡◌, ◌++◌, ℕ, suc, Bool, true, false, List, [], ◌∷◌, Option, Some, None, refl, sym, ◌∙◌, inl, inr}
use Rattle.std.specs.Prelude.{◌==◌, slice_index}
use Rattle.std.specs.Char.{is_ascii_digit}
use Rattle.std.specs.Fmt.{decimal}
use Rattle.std.proofs.lemmas.Bool.{cases_Bool, eqb-true, false≢true}
use Rattle.pawk_lex.specs.declared.token.Mark.{Mark}
use Rattle.pawk_lex.specs.declared.token.Mark.TheVariants as m
use Rattle.pawk_lex.specs.declared.token.Builtin.{Builtin}
use Rattle.pawk_lex.specs.declared.token.Builtin.TheVariants as b
use Rattle.pawk_lex.specs.Bytes.{Text, is_name_byte, BeginsBy}
use Rattle.pawk_lex.specs.Vocabulary.{mark_text, builtin_text, double}
use Rattle.pawk_lex.specs.Tokens.{Tok, mark_divides, divides_after}
use Rattle.pawk_lex.specs.Tokens as t
use Rattle.pawk_lex.specs.Next.{is_redirection}
use Rattle.pawk_lex.specs.Cut.{IsName, IsNumeralOf, no_gap, a_blank, MarkEnds, Ends, MarkMayOccur, MayOccur, CutFrom}
use Rattle.pawk_lex.specs.Canonical.{token_text, IsWritable}
use Rattle.pawk_lex.proofs.Numerals.{numeral, begins_digit}
use Rattle.pawk_lex.proofs.CutLaws.{token_first, gap_before, separator_ends, written_again}
use Rattle.pawk_syntax_tree.specs.declared.tree.Single.TheVariants as single
use Rattle.pawk_syntax_tree.specs.declared.tree.Double.{Double}
use Rattle.pawk_syntax_tree.specs.declared.tree.Double.TheVariants as double
use Rattle.pawk_syntax_tree.specs.Tree.{Tree, number, string, ere, variable, element, unary, binary, choice, member, call, builtin, Trees, none, more, value, right_side}
use Rattle.pawk_syntax_tree.specs.Levels.{sign_of}
use Rattle.pawk_syntax_tree.specs.Canonical.{opening, closing, between, canon, canon_keys, canon_first, canon_others, IsLvalue, IsSound, AreSound}
use Rattle.pawk_syntax_show.specs.TreeText.{between_text, tree_text, keys_text, list_text, others_text, closing_text}
use Rattle.pawk_syntax_show.proofs.WritableTree.{IsWritableTree, AreWritableTrees}

-- a cut before which any token may come
abbrev pub CutAnyhow : Text → List Tok → Type 0
CutAnyhow rest ts = (d : Bool) → CutFrom d rest ts

-- ---- tokens

pub space_cut : {d : Bool} {rest : Text} {ts : List Tok} → CutFrom d rest ts → CutFrom d (32 ∷ rest) ts
space_cut c = gap_before (a_blank refl no_gap) c

pub token_cut : {d : Bool} (x : Tok) (rest : Text) {ts : List Tok} → IsWritable x → Ends x (slice_index rest 0) → MayOccur d x → CutFrom (divides_after x) rest ts → CutFrom d (token_text x ++ rest) (x ∷ ts)
token_cut x rest w e s c = token_first (token_text x) (written_again x w) e s c

pub mark_cut : {d : Bool} (s : Mark) (rest : Text) {ts : List Tok} → MarkEnds (mark_text s) (slice_index rest 0) → MarkMayOccur d s → CutFrom (mark_divides s) rest ts → CutFrom d (mark_text s ++ rest) (t.mark s ∷ ts)
mark_cut s rest e st c = token_cut (t.mark s) rest tt e st c

-- a mark and a space
pub word_cut : {d : Bool} (s : Mark) (rest : Text) {ts : List Tok} → MarkMayOccur d s → CutFrom (mark_divides s) rest ts → CutFrom d (mark_text s ++ 32 ∷ rest) (t.mark s ∷ ts)
word_cut s rest st c = mark_cut s (32 ∷ rest) (separator_ends (t.mark s) 32 tt refl) st (space_cut c)

pub spaced_cut : {d : Bool} (s : Mark) (rest : Text) {ts : List Tok} → MarkMayOccur d s → CutFrom (mark_divides s) rest ts → CutFrom d (32 ∷ mark_text s ++ 32 ∷ rest) (t.mark s ∷ ts)
spaced_cut s rest st c = space_cut (word_cut s rest st c)

pub opening_cut : {d : Bool} {rest : Text} {ts : List Tok} → CutFrom false rest ts → CutFrom d (40 ∷ rest) (opening ts)
unfolding double is_redirection
opening_cut {rest = rest} c = mark_cut m.LeftParenthesis rest (refl, refl) tt c

pub closing_cut : {rest : Text} {ts : List Tok} → CutFrom true rest ts → CutAnyhow (41 ∷ rest) (closing ts)
unfolding double is_redirection
closing_cut {rest = rest} c d = mark_cut m.RightParenthesis rest (refl, refl) tt c

pub left_bracket_cut : {d : Bool} {rest : Text} {ts : List Tok} → CutFrom false rest ts → CutFrom d (91 ∷ rest) (t.mark m.LeftBracket ∷ ts)
unfolding double is_redirection
left_bracket_cut {rest = rest} c = mark_cut m.LeftBracket rest (refl, refl) tt c

pub right_bracket_cut : {rest : Text} {ts : List Tok} → CutFrom true rest ts → CutAnyhow (93 ∷ rest) (t.mark m.RightBracket ∷ ts)
unfolding double is_redirection
right_bracket_cut {rest = rest} c d = mark_cut m.RightBracket rest (refl, refl) tt c

dollar_cut : {d : Bool} {rest : Text} {ts : List Tok} → CutFrom false rest ts → CutFrom d (36 ∷ rest) (t.mark m.Dollar ∷ ts)
unfolding double is_redirection
dollar_cut {rest = rest} c = mark_cut m.Dollar rest (refl, refl) tt c

pub comma_cut : {d : Bool} {rest : Text} {ts : List Tok} → CutFrom false rest ts → CutFrom d (44 ∷ 32 ∷ rest) (t.mark m.Comma ∷ ts)
comma_cut {rest = rest} c = word_cut m.Comma rest tt c

-- ---- what may follow a name or a numeral

pub record Breaks (b : ℕ) : Type 0 where
  pub no_name : is_name_byte b ≡ false
  pub no_point : (b == 46) ≡ false
  pub no_call : (b == 40) ≡ false

pub space_breaks : Breaks 32
space_breaks = record { no_name = refl; no_point = refl; no_call = refl }

pub closing_breaks : Breaks 41
closing_breaks = record { no_name = refl; no_point = refl; no_call = refl }

pub comma_breaks : Breaks 44
comma_breaks = record { no_name = refl; no_point = refl; no_call = refl }

pub bracket_breaks : Breaks 93
bracket_breaks = record { no_name = refl; no_point = refl; no_call = refl }

plus_breaks : Breaks 43
plus_breaks = record { no_name = refl; no_point = refl; no_call = refl }

minus_breaks : Breaks 45
minus_breaks = record { no_name = refl; no_point = refl; no_call = refl }

others_break : (bs : Trees) (rest : Text) → Breaks (slice_index rest 0) → Breaks (slice_index (others_text bs rest) 0)
others_break none rest k = k
others_break (more a bs) rest k = comma_breaks

pub name_cut : {d : Bool} (x rest : Text) {ts : List Tok} → IsWritable (t.name x) → Breaks (slice_index rest 0) → CutFrom true rest ts → CutFrom d (x ++ rest) (t.name x ∷ ts)
name_cut x rest w k c = token_cut (t.name x) rest w (k.no_name, k.no_call) tt c

-- ---- how an expression begins

-- no sign of two bytes ends with the byte after a sign before an operand
record Starts (b : ℕ) : Type 0 where
  no_plus : (b == 43) ≡ false
  no_minus : (b == 45) ≡ false
  no_equal : (b == 61) ≡ false
  no_tilde : (b == 126) ≡ false

apart : (p : ℕ → Bool) (b k : ℕ) → p b ≡ true → p k ≡ false → (b == k) ≡ false
apart p b k e f = elim (cases_Bool (b == k)) [
  | inl g ↦ absurd (let same : b ≡ k = eqb-true b k g in let there = rw same at e in false≢true (sym f ∙ there))
  | inr g ↦ g
]

name_byte_starts : (b : ℕ) → is_name_byte b ≡ true → Starts b
name_byte_starts b e = record {
  no_plus = apart is_name_byte b 43 e refl;
  no_minus = apart is_name_byte b 45 e refl;
  no_equal = apart is_name_byte b 61 e refl;
  no_tilde = apart is_name_byte b 126 e refl;
}

digit_starts : (b : ℕ) → is_ascii_digit b ≡ true → Starts b
digit_starts b e = name_byte_starts b (rw e refl)

digits_start : (x rest : Text) → BeginsBy is_ascii_digit true x → Starts (slice_index (x ++ rest) 0)
digits_start [] rest h = absurd h
digits_start (b ∷ x) rest h = digit_starts b h

number_starts : (n : ℕ) (x rest : Text) → IsNumeralOf n x → Starts (slice_index (x ++ rest) 0)
number_starts n x rest h = digits_start x rest (begins_digit x h.digits.0 h.digits.1)

name_starts : (x rest : Text) → IsName x → Starts (slice_index (x ++ rest) 0)
name_starts [] rest h = absurd h.first
name_starts (b ∷ x) rest h = name_byte_starts b h.letters.0

bracket_starts : Starts 40
bracket_starts = record { no_plus = refl; no_minus = refl; no_equal = refl; no_tilde = refl }

dollar_starts : Starts 36
dollar_starts = record { no_plus = refl; no_minus = refl; no_equal = refl; no_tilde = refl }

quote_starts : Starts 34
quote_starts = record { no_plus = refl; no_minus = refl; no_equal = refl; no_tilde = refl }

slash_starts : Starts 47
slash_starts = record { no_plus = refl; no_minus = refl; no_equal = refl; no_tilde = refl }

builtin_starts : (f : Builtin) (rest : Text) → Starts (slice_index (builtin_text f ++ rest) 0)
builtin_starts b.Length rest = name_byte_starts 108 refl
builtin_starts b.Index rest = name_byte_starts 105 refl
builtin_starts b.Substr rest = name_byte_starts 115 refl
builtin_starts b.Split rest = name_byte_starts 115 refl
builtin_starts b.Sub rest = name_byte_starts 115 refl
builtin_starts b.Gsub rest = name_byte_starts 103 refl
builtin_starts b.Match rest = name_byte_starts 109 refl
builtin_starts b.Sprintf rest = name_byte_starts 115 refl
builtin_starts b.Tolower rest = name_byte_starts 116 refl
builtin_starts b.Toupper rest = name_byte_starts 116 refl
builtin_starts b.Int rest = name_byte_starts 105 refl

starts : (a : Tree) → IsWritableTree a → (rest : Text) → Starts (slice_index (tree_text a rest) 0)
starts (number n) h rest = number_starts n (decimal n) rest (numeral n h)
starts (string x) h rest = quote_starts
starts (ere x) h rest = slash_starts
starts (variable x) h rest = name_starts x rest h
starts (element x as') h rest = name_starts x _ h.0
starts (unary single.Field a) h rest = dollar_starts
starts (unary _ a) h rest = bracket_starts
starts (binary op a d) h rest = bracket_starts
starts (choice a d e) h rest = bracket_starts
starts (member as' x) h rest = bracket_starts
starts (call f as') h rest = name_starts f _ h.0
starts (builtin f as') h rest = builtin_starts f _

not_ends : (b : ℕ) → Starts b → MarkEnds (mark_text m.Not) b
unfolding double is_redirection
not_ends b k = rw (k.no_equal, k.no_tilde) (refl, refl)

plus_ends : (b : ℕ) → Starts b → MarkEnds (mark_text m.Plus) b
unfolding double is_redirection
plus_ends b k = rw (k.no_equal, k.no_plus) (refl, refl)

minus_ends : (b : ℕ) → Starts b → MarkEnds (mark_text m.Minus) b
unfolding double is_redirection
minus_ends b k = rw (k.no_equal, k.no_minus) (refl, refl)

-- ---- where an expression is allowed

-- an expression between slashes occurs only where a slash opens one
abbrev pub TreeMayOccur : Bool → Tree → Type 0
TreeMayOccur d (ere x) = d ≡ false
TreeMayOccur d _ = Unit {0}

pub tree_may_occur : (a : Tree) → TreeMayOccur false a
tree_may_occur (ere x) = refl
tree_may_occur _ = tt

value_may_occur : (a : Tree) → value a ≡ a → TreeMayOccur true a
value_may_occur (ere x) h = absurd cc
value_may_occur _ h = tt

lvalue_may_occur : (a : Tree) → IsLvalue a → TreeMayOccur true a
lvalue_may_occur (ere x) h = absurd h
lvalue_may_occur _ h = tt

-- whether a slash divides after what is between two operands
abbrev after_sign : Double → Bool
after_sign double.Concatenate = true
after_sign _ = false

right_may_occur : (op : Double) (a : Tree) → right_side op a ≡ a → TreeMayOccur (after_sign op) a
right_may_occur double.Concatenate a h = value_may_occur a h
right_may_occur _ a h = tree_may_occur a

between_cut : (op : Double) (rest : Text) {ts : List Tok} → CutFrom (after_sign op) rest ts → CutFrom true (between_text (sign_of op) rest) (between op ts)
between_cut double.Concatenate rest c = space_cut c
between_cut double.Or rest c = spaced_cut m.Or rest tt c
between_cut double.And rest c = spaced_cut m.And rest tt c
between_cut double.Match rest c = spaced_cut m.Tilde rest tt c
between_cut double.NotMatch rest c = spaced_cut m.NotMatch rest tt c
between_cut double.Less rest c = spaced_cut m.Less rest tt c
between_cut double.LessEqual rest c = spaced_cut m.LessEqual rest tt c
between_cut double.Equal rest c = spaced_cut m.Equal rest tt c
between_cut double.NotEqual rest c = spaced_cut m.NotEqual rest tt c
between_cut double.Greater rest c = spaced_cut m.Greater rest tt c
between_cut double.GreaterEqual rest c = spaced_cut m.GreaterEqual rest tt c
between_cut double.Add rest c = spaced_cut m.Plus rest tt c
between_cut double.Subtract rest c = spaced_cut m.Minus rest tt c
between_cut double.Multiply rest c = spaced_cut m.Star rest tt c
between_cut double.Divide rest c = spaced_cut m.Slash rest refl c
between_cut double.Remainder rest c = spaced_cut m.Percent rest tt c
between_cut double.Power rest c = spaced_cut m.Caret rest tt c
between_cut double.Assign rest c = spaced_cut m.Assign rest tt c
between_cut double.AddAssign rest c = spaced_cut m.PlusAssign rest tt c
between_cut double.SubtractAssign rest c = spaced_cut m.MinusAssign rest tt c
between_cut double.MultiplyAssign rest c = spaced_cut m.StarAssign rest tt c
between_cut double.DivideAssign rest c = spaced_cut m.SlashAssign rest refl c
between_cut double.RemainderAssign rest c = spaced_cut m.PercentAssign rest tt c
between_cut double.PowerAssign rest c = spaced_cut m.CaretAssign rest tt c

between_breaks : (op : Double) (rest : Text) → Breaks (slice_index (between_text (sign_of op) rest) 0)
between_breaks op rest = between_by_breaks (sign_of op) rest
  where
    between_by_breaks : (o : Option Mark) (rest : Text) → Breaks (slice_index (between_text o rest) 0)
    between_by_breaks (Some s) rest = space_breaks
    between_by_breaks None rest = space_breaks

-- ---- expressions

in_cut : (x : Text) → IsWritable (t.name x) → (rest : Text) (ts : List Tok) → CutFrom true rest ts → CutAnyhow (32 ∷ 105 ∷ 110 ∷ 32 ∷ x ++ closing_text rest) (t.mark m.In ∷ t.name x ∷ closing ts)
in_cut x w rest ts c d = spaced_cut m.In (x ++ closing_text rest) tt (name_cut x (closing_text rest) w closing_breaks (closing_cut c true))

mutual
  pub tree_cut : (a : Tree) → IsSound a → IsWritableTree a → (d : Bool) → TreeMayOccur d a → (rest : Text) (ts : List Tok) → Breaks (slice_index rest 0) → CutFrom true rest ts → CutFrom d (tree_text a rest) (canon a ts)
  tree_cut (number n) h w d o rest ts k c = token_cut (t.number n) rest w (k.no_name, k.no_point) tt c
  tree_cut (string x) h w d o rest ts k c = token_cut (t.string x) rest w tt tt c
  tree_cut (ere x) h w d o rest ts k c = token_cut (t.ere x) rest w tt o c
  tree_cut (variable x) h w d o rest ts k c = name_cut x rest w k c
  tree_cut (element x as') h w d o rest ts k c =
      let keys = list_cut None 0 as' h.1 w.1 (93 ∷ rest) (t.mark m.RightBracket ∷ ts) bracket_breaks (right_bracket_cut c) in
      token_cut (t.name x) (91 ∷ list_text as' (93 ∷ rest)) w.0 (refl, refl) tt (left_bracket_cut keys)
  tree_cut (unary single.Field a) h w d o rest ts k c =
      dollar_cut (opening_cut (tree_cut a h.2 w false (tree_may_occur a) (closing_text rest) (closing ts) closing_breaks (closing_cut c true)))
  tree_cut (unary single.Not a) h w d o rest ts k c =
      let after = tree_text a (closing_text rest) in
      let operand = tree_cut a h.2 w false (tree_may_occur a) (closing_text rest) (closing ts) closing_breaks (closing_cut c true) in
      opening_cut (mark_cut m.Not after (not_ends (slice_index after 0) (starts a w (closing_text rest))) tt operand)
  tree_cut (unary single.Plus a) h w d o rest ts k c =
      let after = tree_text a (closing_text rest) in
      let operand = tree_cut a h.2 w false (tree_may_occur a) (closing_text rest) (closing ts) closing_breaks (closing_cut c true) in
      opening_cut (mark_cut m.Plus after (plus_ends (slice_index after 0) (starts a w (closing_text rest))) tt operand)
  tree_cut (unary single.Minus a) h w d o rest ts k c =
      let after = tree_text a (closing_text rest) in
      let operand = tree_cut a h.2 w false (tree_may_occur a) (closing_text rest) (closing ts) closing_breaks (closing_cut c true) in
      opening_cut (mark_cut m.Minus after (minus_ends (slice_index after 0) (starts a w (closing_text rest))) tt operand)
  tree_cut (unary single.IncrementBefore a) h w d o rest ts k c =
      let operand = tree_cut a h.2 w true (lvalue_may_occur a h.0) (closing_text rest) (closing ts) closing_breaks (closing_cut c true) in
      opening_cut (mark_cut m.PlusPlus (tree_text a (closing_text rest)) tt tt operand)
  tree_cut (unary single.DecrementBefore a) h w d o rest ts k c =
      let operand = tree_cut a h.2 w true (lvalue_may_occur a h.0) (closing_text rest) (closing ts) closing_breaks (closing_cut c true) in
      opening_cut (mark_cut m.MinusMinus (tree_text a (closing_text rest)) tt tt operand)
  tree_cut (unary single.IncrementAfter a) h w d o rest ts k c =
      let after = mark_cut m.PlusPlus (closing_text rest) tt tt (closing_cut c true) in
      opening_cut (tree_cut a h.2 w false (tree_may_occur a) (43 ∷ 43 ∷ closing_text rest) (t.mark m.PlusPlus ∷ closing ts) plus_breaks after)
  tree_cut (unary single.DecrementAfter a) h w d o rest ts k c =
      let after = mark_cut m.MinusMinus (closing_text rest) tt tt (closing_cut c true) in
      opening_cut (tree_cut a h.2 w false (tree_may_occur a) (45 ∷ 45 ∷ closing_text rest) (t.mark m.MinusMinus ∷ closing ts) minus_breaks after)
  tree_cut (binary op a e) h w d o rest ts k c =
      let second = tree_cut e h.4 w.1 (after_sign op) (right_may_occur op e h.2) (closing_text rest) (closing ts) closing_breaks (closing_cut c true) in
      let after = tree_text e (closing_text rest) in
      opening_cut (tree_cut a h.3 w.0 false (tree_may_occur a) (between_text (sign_of op) after) (between op (canon e (closing ts))) (between_breaks op after) (between_cut op after second))
  tree_cut (choice a e f) h w d o rest ts k c =
      let third = tree_cut f h.2.1 w.2 false (tree_may_occur f) (closing_text rest) (closing ts) closing_breaks (closing_cut c true) in
      let after = tree_text f (closing_text rest) in
      let us = canon f (closing ts) in
      let second = tree_cut e h.1.1 w.1 false (tree_may_occur e) (32 ∷ 58 ∷ 32 ∷ after) (t.mark m.Colon ∷ us) space_breaks (spaced_cut m.Colon after tt third) in
      let next = tree_text e (32 ∷ 58 ∷ 32 ∷ after) in
      opening_cut (tree_cut a h.0.1 w.0 false (tree_may_occur a) (32 ∷ 63 ∷ 32 ∷ next) (t.mark m.Question ∷ canon e (t.mark m.Colon ∷ us)) space_breaks (spaced_cut m.Question next tt second))
  tree_cut (member as' x) h w d o rest ts k c =
      opening_cut (keys_cut as' h.1 w.0 (32 ∷ 105 ∷ 110 ∷ 32 ∷ x ++ closing_text rest) (t.mark m.In ∷ t.name x ∷ closing ts) space_breaks (in_cut x w.1 rest ts c))
  tree_cut (call f as') h w d o rest ts k c =
      let arguments = list_cut None 0 as' h w.1 (closing_text rest) (closing ts) closing_breaks (closing_cut c) in
      token_cut (t.function_name f) (40 ∷ list_text as' (closing_text rest)) w.0 refl tt (opening_cut arguments)
  tree_cut (builtin f as') h w d o rest ts k c =
      let arguments = list_cut (Some f) 0 as' h.1 w (closing_text rest) (closing ts) closing_breaks (closing_cut c) in
      token_cut (t.builtin f) (40 ∷ list_text as' (closing_text rest)) tt refl tt (opening_cut arguments)

  keys_cut : (as' : Trees) → AreSound None 0 as' → AreWritableTrees as' → (rest : Text) (ts : List Tok) → Breaks (slice_index rest 0) → CutAnyhow rest ts → CutFrom false (keys_text as' rest) (canon_keys as' ts)
  keys_cut none h w rest ts k c = c false
  keys_cut (more a none) h w rest ts k c = tree_cut a h.1 w.0 false (tree_may_occur a) rest ts k (c true)
  keys_cut (more a (more e bs)) h w rest ts k c =
      let others = others_cut None 2 bs h.2.2 w.1.1 (closing_text rest) (closing ts) closing_breaks (closing_cut (c true)) in
      let us = canon_others bs (closing ts) in
      let after = others_text bs (closing_text rest) in
      let second = tree_cut e h.2.1 w.1.0 false (tree_may_occur e) after us (others_break bs (closing_text rest) closing_breaks) others in
      opening_cut (tree_cut a h.1 w.0 false (tree_may_occur a) (44 ∷ 32 ∷ tree_text e after) (t.mark m.Comma ∷ canon e us) comma_breaks (comma_cut second))

  pub list_cut : (f : Option Builtin) (place : ℕ) (as' : Trees) → AreSound f place as' → AreWritableTrees as' → (rest : Text) (ts : List Tok) → Breaks (slice_index rest 0) → CutAnyhow rest ts → CutFrom false (list_text as' rest) (canon_first as' ts)
  list_cut f place none h w rest ts k c = c false
  list_cut f place (more a bs) h w rest ts k c =
      tree_cut a h.1 w.0 false (tree_may_occur a) (others_text bs rest) (canon_others bs ts) (others_break bs rest k) (others_cut f (suc place) bs h.2 w.1 rest ts k c)

  others_cut : (f : Option Builtin) (place : ℕ) (as' : Trees) → AreSound f place as' → AreWritableTrees as' → (rest : Text) (ts : List Tok) → Breaks (slice_index rest 0) → CutAnyhow rest ts → CutFrom true (others_text as' rest) (canon_others as' ts)
  others_cut f place none h w rest ts k c = c true
  others_cut f place (more a bs) h w rest ts k c =
      comma_cut (tree_cut a h.1 w.0 false (tree_may_occur a) (others_text bs rest) (canon_others bs ts) (others_break bs rest k) (others_cut f (suc place) bs h.2 w.1 rest ts k c))
