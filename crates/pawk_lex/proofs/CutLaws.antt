-- The laws of cutting a text into tokens.
use Rattle.std.proofs.Common.{◌≡◌, ◌≤◌, ◌<◌, ℕ, ◌+◌, ◌/◌, ◌%◌, Bool, true, false, ◌||◌, ◌&&◌, cond, List, [], ◌∷◌, ◌++◌, Option, Some, None, Ok, refl, sym, ap, subst, ◌∙◌, arith}
use Rattle.std.specs.Prelude.{◌==◌, nat_le, slice_index}
use Rattle.std.proofs.lemmas.Bool.{eqb-true}
use Rattle.std.proofs.lemmas.Bool.Decides.{nat_tests}
use Rattle.pawk_lex.specs.declared.token.Mark.{Mark}
use Rattle.pawk_lex.specs.declared.token.Mark.TheVariants as m
use Rattle.pawk_lex.specs.Bytes.{Text, is_name_byte, is_octal}
use Rattle.pawk_lex.specs.Vocabulary.{mark_text, double}
use Rattle.pawk_lex.specs.Strings.{simple_escape, three_digits}
use Rattle.pawk_lex.specs.Tokens.{Tok, number, string, ere, name, function_name, builtin, mark, divides_after}
use Rattle.pawk_lex.specs.Next.{Finding, finds, is_redirection, next}
use Rattle.pawk_lex.specs.Cut.{Gap, no_gap, a_blank, a_joined_line, a_comment, is_ordinary, Inside, at_quote, itself, by_escape, one_digit, two_octal, three_octal, MarkEnds, Ends, MayOccur, Writes, Takes, CutFrom, at_end, a_token}
use Rattle.pawk_lex.specs.Canonical.{byte_text, string_text, token_text, AreBytes, IsWritable, AreWritable, is_separator, MayEnd}
use Rattle.pawk_lex.proofs.Numerals.{numeral}
use Rattle.pawk_lex.proofs.Fronts.{takes_found, gap_none}

-- ---- a text has one cut

pub record IsSame (t u : Tok) (rest more : Text) : Type 0 where
  pub token : t ≡ u
  pub left : rest ≡ more

pub takes_unique : {d : Bool} {z rest more : Text} {t u : Tok} → Takes d z t rest → Takes d z u more → IsSame t u rest more
takes_unique {d} {z} {rest} {more} {t} {u} k l =
    let both : ◌≡◌ {A = Finding} (finds t rest) (finds u more) = sym (takes_found k) ∙ takes_found l in
    let same : ◌≡◌ {A = Tok × Text} (t, rest) (u, more) = cc in
    record { token = ap (λ (p : Tok × Text). p.0) same; left = ap (λ (p : Tok × Text). p.1) same }

pub no_more : (d : Bool) (z rest : Text) (t : Tok) → Gap z [] → Takes d z t rest → ⊥
no_more d z rest t g k = let bad : ◌≡◌ {A = Finding} (Ok None) (finds t rest) = sym (gap_none d z g) ∙ takes_found k in absurd cc

pub cut_unique : {d : Bool} {z : Text} {ts us : List Tok} → CutFrom d z ts → CutFrom d z us → ts ≡ us
cut_unique (at_end g) (at_end h) = refl
cut_unique {d} {z} (at_end g) (a_token {rest = rest} {t = t} k c) = absurd (no_more d z rest t g k)
cut_unique {d} {z} (a_token {rest = rest} {t = t} k c) (at_end h) = absurd (no_more d z rest t h k)
cut_unique (a_token {rest = rest} {t = t} {ts = ts} k c) (a_token {rest = more} {t = u} {ts = us} l e) = go (takes_unique k l) (λ f. cut_unique c f) e
  where
    go : IsSame t u rest more → (CutFrom (divides_after t) rest us → ts ≡ us) → CutFrom (divides_after u) more us → t ∷ ts ≡ u ∷ us
    go s again f =
        let same = again (rw (← s.token, ← s.left) at f) in
        rw (s.token, same) refl

-- ---- what separates tokens may come anywhere between them

pub gap_join : {x y z : Text} → Gap x y → Gap y z → Gap x z
gap_join no_gap h = h
gap_join (a_blank e g) h = a_blank e (gap_join g h)
gap_join (a_joined_line g) h = a_joined_line (gap_join g h)
gap_join (a_comment x is all e g) h = a_comment x is all e (gap_join g h)

pub gap_before : {d : Bool} {y z : Text} {ts : List Tok} → Gap y z → CutFrom d z ts → CutFrom d y ts
gap_before g (at_end h) = at_end (gap_join g h)
gap_before g (a_token k c) = a_token (record { text = k.text; gap = gap_join g k.gap; begins = k.begins }) c

blank_ends : (s : Mark) → MarkEnds (mark_text s) 32
unfolding double is_redirection
blank_ends m.Newline = (refl, refl)
blank_ends m.LeftBrace = (refl, refl)
blank_ends m.RightBrace = (refl, refl)
blank_ends m.LeftParenthesis = (refl, refl)
blank_ends m.RightParenthesis = (refl, refl)
blank_ends m.LeftBracket = (refl, refl)
blank_ends m.RightBracket = (refl, refl)
blank_ends m.Semicolon = (refl, refl)
blank_ends m.Comma = (refl, refl)
blank_ends m.Plus = (refl, refl)
blank_ends m.Minus = (refl, refl)
blank_ends m.Star = (refl, refl)
blank_ends m.Slash = (refl, refl)
blank_ends m.Percent = (refl, refl)
blank_ends m.Caret = (refl, refl)
blank_ends m.Not = (refl, refl)
blank_ends m.Greater = (refl, refl)
blank_ends m.Less = (refl, refl)
blank_ends m.Question = (refl, refl)
blank_ends m.Colon = (refl, refl)
blank_ends m.Tilde = (refl, refl)
blank_ends m.Dollar = (refl, refl)
blank_ends m.Assign = (refl, refl)
blank_ends m.PlusAssign = tt
blank_ends m.MinusAssign = tt
blank_ends m.StarAssign = tt
blank_ends m.SlashAssign = tt
blank_ends m.PercentAssign = tt
blank_ends m.CaretAssign = tt
blank_ends m.Equal = tt
blank_ends m.LessEqual = tt
blank_ends m.GreaterEqual = tt
blank_ends m.NotEqual = tt
blank_ends m.NotMatch = tt
blank_ends m.PlusPlus = tt
blank_ends m.MinusMinus = tt
blank_ends m.And = tt
blank_ends m.Or = tt
blank_ends m.Begin = refl
blank_ends m.End = refl
blank_ends m.Function = refl
blank_ends m.If = refl
blank_ends m.Else = refl
blank_ends m.While = refl
blank_ends m.For = refl
blank_ends m.Do = refl
blank_ends m.In = refl
blank_ends m.Break = refl
blank_ends m.Continue = refl
blank_ends m.Next = refl
blank_ends m.NextFile = refl
blank_ends m.Exit = refl
blank_ends m.Return = refl
blank_ends m.Delete = refl
blank_ends m.Print = refl
blank_ends m.Printf = refl

tab_ends : (s : Mark) → MarkEnds (mark_text s) 9
unfolding double is_redirection
tab_ends m.Newline = (refl, refl)
tab_ends m.LeftBrace = (refl, refl)
tab_ends m.RightBrace = (refl, refl)
tab_ends m.LeftParenthesis = (refl, refl)
tab_ends m.RightParenthesis = (refl, refl)
tab_ends m.LeftBracket = (refl, refl)
tab_ends m.RightBracket = (refl, refl)
tab_ends m.Semicolon = (refl, refl)
tab_ends m.Comma = (refl, refl)
tab_ends m.Plus = (refl, refl)
tab_ends m.Minus = (refl, refl)
tab_ends m.Star = (refl, refl)
tab_ends m.Slash = (refl, refl)
tab_ends m.Percent = (refl, refl)
tab_ends m.Caret = (refl, refl)
tab_ends m.Not = (refl, refl)
tab_ends m.Greater = (refl, refl)
tab_ends m.Less = (refl, refl)
tab_ends m.Question = (refl, refl)
tab_ends m.Colon = (refl, refl)
tab_ends m.Tilde = (refl, refl)
tab_ends m.Dollar = (refl, refl)
tab_ends m.Assign = (refl, refl)
tab_ends m.PlusAssign = tt
tab_ends m.MinusAssign = tt
tab_ends m.StarAssign = tt
tab_ends m.SlashAssign = tt
tab_ends m.PercentAssign = tt
tab_ends m.CaretAssign = tt
tab_ends m.Equal = tt
tab_ends m.LessEqual = tt
tab_ends m.GreaterEqual = tt
tab_ends m.NotEqual = tt
tab_ends m.NotMatch = tt
tab_ends m.PlusPlus = tt
tab_ends m.MinusMinus = tt
tab_ends m.And = tt
tab_ends m.Or = tt
tab_ends m.Begin = refl
tab_ends m.End = refl
tab_ends m.Function = refl
tab_ends m.If = refl
tab_ends m.Else = refl
tab_ends m.While = refl
tab_ends m.For = refl
tab_ends m.Do = refl
tab_ends m.In = refl
tab_ends m.Break = refl
tab_ends m.Continue = refl
tab_ends m.Next = refl
tab_ends m.NextFile = refl
tab_ends m.Exit = refl
tab_ends m.Return = refl
tab_ends m.Delete = refl
tab_ends m.Print = refl
tab_ends m.Printf = refl

backslash_ends : (s : Mark) → MarkEnds (mark_text s) 92
unfolding double is_redirection
backslash_ends m.Newline = (refl, refl)
backslash_ends m.LeftBrace = (refl, refl)
backslash_ends m.RightBrace = (refl, refl)
backslash_ends m.LeftParenthesis = (refl, refl)
backslash_ends m.RightParenthesis = (refl, refl)
backslash_ends m.LeftBracket = (refl, refl)
backslash_ends m.RightBracket = (refl, refl)
backslash_ends m.Semicolon = (refl, refl)
backslash_ends m.Comma = (refl, refl)
backslash_ends m.Plus = (refl, refl)
backslash_ends m.Minus = (refl, refl)
backslash_ends m.Star = (refl, refl)
backslash_ends m.Slash = (refl, refl)
backslash_ends m.Percent = (refl, refl)
backslash_ends m.Caret = (refl, refl)
backslash_ends m.Not = (refl, refl)
backslash_ends m.Greater = (refl, refl)
backslash_ends m.Less = (refl, refl)
backslash_ends m.Question = (refl, refl)
backslash_ends m.Colon = (refl, refl)
backslash_ends m.Tilde = (refl, refl)
backslash_ends m.Dollar = (refl, refl)
backslash_ends m.Assign = (refl, refl)
backslash_ends m.PlusAssign = tt
backslash_ends m.MinusAssign = tt
backslash_ends m.StarAssign = tt
backslash_ends m.SlashAssign = tt
backslash_ends m.PercentAssign = tt
backslash_ends m.CaretAssign = tt
backslash_ends m.Equal = tt
backslash_ends m.LessEqual = tt
backslash_ends m.GreaterEqual = tt
backslash_ends m.NotEqual = tt
backslash_ends m.NotMatch = tt
backslash_ends m.PlusPlus = tt
backslash_ends m.MinusMinus = tt
backslash_ends m.And = tt
backslash_ends m.Or = tt
backslash_ends m.Begin = refl
backslash_ends m.End = refl
backslash_ends m.Function = refl
backslash_ends m.If = refl
backslash_ends m.Else = refl
backslash_ends m.While = refl
backslash_ends m.For = refl
backslash_ends m.Do = refl
backslash_ends m.In = refl
backslash_ends m.Break = refl
backslash_ends m.Continue = refl
backslash_ends m.Next = refl
backslash_ends m.NextFile = refl
backslash_ends m.Exit = refl
backslash_ends m.Return = refl
backslash_ends m.Delete = refl
backslash_ends m.Print = refl
backslash_ends m.Printf = refl

hash_ends : (s : Mark) → MarkEnds (mark_text s) 35
unfolding double is_redirection
hash_ends m.Newline = (refl, refl)
hash_ends m.LeftBrace = (refl, refl)
hash_ends m.RightBrace = (refl, refl)
hash_ends m.LeftParenthesis = (refl, refl)
hash_ends m.RightParenthesis = (refl, refl)
hash_ends m.LeftBracket = (refl, refl)
hash_ends m.RightBracket = (refl, refl)
hash_ends m.Semicolon = (refl, refl)
hash_ends m.Comma = (refl, refl)
hash_ends m.Plus = (refl, refl)
hash_ends m.Minus = (refl, refl)
hash_ends m.Star = (refl, refl)
hash_ends m.Slash = (refl, refl)
hash_ends m.Percent = (refl, refl)
hash_ends m.Caret = (refl, refl)
hash_ends m.Not = (refl, refl)
hash_ends m.Greater = (refl, refl)
hash_ends m.Less = (refl, refl)
hash_ends m.Question = (refl, refl)
hash_ends m.Colon = (refl, refl)
hash_ends m.Tilde = (refl, refl)
hash_ends m.Dollar = (refl, refl)
hash_ends m.Assign = (refl, refl)
hash_ends m.PlusAssign = tt
hash_ends m.MinusAssign = tt
hash_ends m.StarAssign = tt
hash_ends m.SlashAssign = tt
hash_ends m.PercentAssign = tt
hash_ends m.CaretAssign = tt
hash_ends m.Equal = tt
hash_ends m.LessEqual = tt
hash_ends m.GreaterEqual = tt
hash_ends m.NotEqual = tt
hash_ends m.NotMatch = tt
hash_ends m.PlusPlus = tt
hash_ends m.MinusMinus = tt
hash_ends m.And = tt
hash_ends m.Or = tt
hash_ends m.Begin = refl
hash_ends m.End = refl
hash_ends m.Function = refl
hash_ends m.If = refl
hash_ends m.Else = refl
hash_ends m.While = refl
hash_ends m.For = refl
hash_ends m.Do = refl
hash_ends m.In = refl
hash_ends m.Break = refl
hash_ends m.Continue = refl
hash_ends m.Next = refl
hash_ends m.NextFile = refl
hash_ends m.Exit = refl
hash_ends m.Return = refl
hash_ends m.Delete = refl
hash_ends m.Print = refl
hash_ends m.Printf = refl

mark_ends : (s : Mark) (b : ℕ) → is_separator b ≡ true → MarkEnds (mark_text s) b
mark_ends s b e = go (b == 32) refl (b == 9) refl (b == 92) refl (b == 35) refl e
  where
    at : (k : ℕ) → (b == k) ≡ true → MarkEnds (mark_text s) k → MarkEnds (mark_text s) b
    at k f h = let same : b ≡ k = eqb-true b k f in rw same h

    go : (p : Bool) → (b == 32) ≡ p → (q : Bool) → (b == 9) ≡ q → (r : Bool) → (b == 92) ≡ r → (h : Bool) → (b == 35) ≡ h → (p || q || r || h) ≡ true → MarkEnds (mark_text s) b
    go true f q g r i h k o = at 32 f (blank_ends s)
    go false f true g r i h k o = at 9 g (tab_ends s)
    go false f false g true i h k o = at 92 i (backslash_ends s)
    go false f false g false i true k o = at 35 k (hash_ends s)
    go false f false g false i false k o = absurd cc

separator_free : (p : ℕ → Bool) (b : ℕ) → p 32 ≡ false → p 9 ≡ false → p 92 ≡ false → p 35 ≡ false → is_separator b ≡ true → p b ≡ false
separator_free p b h32 h9 h92 h35 e = go (b == 32) refl (b == 9) refl (b == 92) refl (b == 35) refl e
  where
    at : (k : ℕ) → (b == k) ≡ true → p k ≡ false → p b ≡ false
    at k f h = let same : b ≡ k = eqb-true b k f in rw same h

    go : (u : Bool) → (b == 32) ≡ u → (q : Bool) → (b == 9) ≡ q → (r : Bool) → (b == 92) ≡ r → (h : Bool) → (b == 35) ≡ h → (u || q || r || h) ≡ true → p b ≡ false
    go true f q g r i h k o = at 32 f h32
    go false f true g r i h k o = at 9 g h9
    go false f false g true i h k o = at 92 i h92
    go false f false g false i true k o = at 35 k h35
    go false f false g false i false k o = absurd cc

pub separator_ends : (t : Tok) (b : ℕ) → MayEnd t → is_separator b ≡ true → Ends t b
separator_ends (number n) b h e = (separator_free is_name_byte b refl refl refl refl e, separator_free (λ x. x == 46) b refl refl refl refl e)
separator_ends (string bytes) b h e = tt
separator_ends (ere bytes) b h e = tt
separator_ends (name w) b h e = (separator_free is_name_byte b refl refl refl refl e, separator_free (λ x. x == 40) b refl refl refl refl e)
separator_ends (function_name w) b h e = absurd h
separator_ends (builtin f) b h e = separator_free is_name_byte b refl refl refl refl e
separator_ends (mark s) b h e = mark_ends s b e

pub token_first : {d : Bool} (x : Text) {rest : Text} {t : Tok} {ts : List Tok} → Writes x t → Ends t (slice_index rest 0) → MayOccur d t → CutFrom (divides_after t) rest ts → CutFrom d (x ++ rest) (t ∷ ts)
token_first x {rest = rest} w e s c = a_token (record { text = x ++ rest; gap = no_gap; begins = record { lexeme = x; front = refl; writes = w; ends = e; may_occur = s } }) c

pub gap_after : {d : Bool} (x : Text) {y z : Text} {b : ℕ} {t : Tok} {ts : List Tok} → Writes x t → MayEnd t → MayOccur d t → is_separator b ≡ true → Gap (b ∷ y) z → CutFrom (divides_after t) z ts → CutFrom d (x ++ b ∷ y) (t ∷ ts)
gap_after x {b = b} {t = t} w h s e g c = token_first x w (separator_ends t b h e) s (gap_before g c)

-- ---- one way to write each token

quote_is : simple_escape 34 ≡ Some 34
unfolding simple_escape
quote_is = refl

backslash_is : simple_escape 92 ≡ Some 92
unfolding simple_escape
backslash_is = refl

printable_is : (b : ℕ) → (b == 34) ≡ false → (b == 92) ≡ false → nat_le 32 b ≡ true → is_ordinary b ≡ true
printable_is b e f g =
    let line : (b == 10) ≡ false = grind (arith, nat_tests) in
    rw (e, f, line) refl

octal_is : (n : ℕ) → n < 8 → is_octal (48 + n) ≡ true
octal_is n h =
    let low : nat_le 48 (48 + n) ≡ true = grind (arith, nat_tests) in
    let high : nat_le (48 + n) 55 ≡ true = grind (arith, nat_tests) in
    rw (low, high) refl

octal_inside : (b : ℕ) (z bytes : Text) → b < 256 → Inside z bytes [] → Inside (92 ∷ (48 + b / 64) ∷ (48 + b / 8 % 8) ∷ (48 + b % 8) ∷ z) (b ∷ bytes) []
octal_inside b z bytes h i =
    let whole : three_digits (48 + b / 64) (48 + b / 8 % 8) (48 + b % 8) ≡ b = omega arith in
    let small : three_digits (48 + b / 64) (48 + b / 8 % 8) (48 + b % 8) < 256 = omega arith in
    let first : b / 64 < 8 = omega arith in
    let second : b / 8 % 8 < 8 = omega arith in
    let third : b % 8 < 8 = omega arith in
    let P : ℕ → Type 0 = λ v. Inside (92 ∷ (48 + b / 64) ∷ (48 + b / 8 % 8) ∷ (48 + b % 8) ∷ z) (v ∷ bytes) [] in
    subst P whole (three_octal (octal_is (b / 64) first) (octal_is (b / 8 % 8) second) (octal_is (b % 8) third) small i)

byte_inside : (b : ℕ) (z bytes : Text) → b < 256 → Inside z bytes [] → Inside (byte_text b ++ z) (b ∷ bytes) []
byte_inside b z bytes h i = go (b == 34) refl (b == 92) refl (nat_le 32 b) refl (nat_le b 126) refl
  where
    go : (p : Bool) → (b == 34) ≡ p → (q : Bool) → (b == 92) ≡ q → (l : Bool) → nat_le 32 b ≡ l → (u : Bool) → nat_le b 126 ≡ u → Inside (cond (p || q) (92 ∷ b ∷ []) (cond (l && u) (b ∷ []) (92 ∷ (48 + b / 64) ∷ (48 + b / 8 % 8) ∷ (48 + b % 8) ∷ [])) ++ z) (b ∷ bytes) []
    go true e q f l g u k = let same : b ≡ 34 = eqb-true b 34 e in rw same (by_escape quote_is i)
    go false e true f l g u k = let same : b ≡ 92 = eqb-true b 92 f in rw same (by_escape backslash_is i)
    go false e false f true g true k = itself (printable_is b e f g) i
    go false e false f true g false k = octal_inside b z bytes h i
    go false e false f false g u k = octal_inside b z bytes h i

string_inside : (bytes : Text) → AreBytes bytes → Inside (string_text bytes) bytes []
string_inside [] h = at_quote
string_inside (b ∷ bytes) h = byte_inside b (string_text bytes) bytes h.0 (string_inside bytes h.1)

pub written_again : (t : Tok) → IsWritable t → Writes (token_text t) t
written_again (number n) h = numeral n h
written_again (string bytes) h = (string_text bytes, refl, string_inside bytes h)
written_again (ere bytes) h = (refl, h)
written_again (name w) h = (refl, h)
written_again (function_name w) h = (refl, h)
written_again (builtin f) h = refl
written_again (mark s) h = refl

-- ---- the tokens of a text can be written

bytes_front : (x rest : Text) → AreBytes (x ++ rest) → AreBytes x
bytes_front [] rest h = tt
bytes_front (b ∷ x) rest h = (h.0, bytes_front x rest h.1)

bytes_rest : (x rest : Text) → AreBytes (x ++ rest) → AreBytes rest
bytes_rest [] rest h = h
bytes_rest (b ∷ x) rest h = bytes_rest x rest h.1

bytes_after : {z y : Text} → Gap z y → AreBytes z → AreBytes y
bytes_after no_gap h = h
bytes_after (a_blank e g) h = bytes_after g h.1
bytes_after (a_joined_line g) h = bytes_after g h.1.1
bytes_after (a_comment {z = z} x is all e g) h = bytes_after g (bytes_rest x z (rw is at h.1))

chain : (e k v b : ℕ) (more : Option ℕ) → v < 256 → (more ≡ Some b → b < 256) → cond (e == k) (Some v) more ≡ Some b → b < 256
chain e k v b more h next g = go (e == k) g
  where
    go : (c : Bool) → cond c (Some v) more ≡ Some b → b < 256
    go true g' = let same : v ≡ b = cc in rw (← same) h
    go false g' = next g'

escape_small : (e b : ℕ) → simple_escape e ≡ Some b → b < 256
unfolding simple_escape
escape_small e b g =
    chain e 34 34 b _ (omega arith) (chain e 47 47 b _ (omega arith) (chain e 92 92 b _ (omega arith) (chain e 97 7 b _ (omega arith) (chain e 98 8 b _ (omega arith)
    (chain e 102 12 b _ (omega arith) (chain e 110 10 b _ (omega arith) (chain e 114 13 b _ (omega arith) (chain e 116 9 b _ (omega arith) (chain e 118 11 b None (omega arith) (λ h. absurd cc)))))))))) g

octal_high : (a : ℕ) → is_octal a ≡ true → a ≤ 55
octal_high a h = grind (arith, nat_tests)

inside_bytes : {y bytes rest : Text} → Inside y bytes rest → AreBytes y → AreBytes bytes
inside_bytes at_quote h = tt
inside_bytes (itself e i) h = (h.0, inside_bytes i h.1)
inside_bytes (by_escape {e} {b} s i) h = (escape_small e b s, inside_bytes i h.1.1)
inside_bytes (one_digit {a} e f i) h = (omega (arith, octal_high a e), inside_bytes i h.1.1)
inside_bytes (two_octal {a} {b} e f g i) h = (omega (arith, octal_high a e, octal_high b f), inside_bytes i h.1.1.1)
inside_bytes (three_octal e f g n i) h = (n, inside_bytes i h.1.1.1.1)

writes_writable : (t : Tok) (x : Text) → AreBytes x → Writes x t → IsWritable t
writes_writable (number n) x h w = w.small
writes_writable (string bytes) x h w = let k = rw w.1 at h in inside_bytes w.2 k.1
writes_writable (ere bytes) x h w = w.1
writes_writable (name y) x h w = w.1
writes_writable (function_name y) x h w = w.1
writes_writable (builtin f) x h w = tt
writes_writable (mark s) x h w = tt

pub cut_writable : {d : Bool} {z : Text} {ts : List Tok} → AreBytes z → CutFrom d z ts → AreWritable ts
cut_writable h (at_end g) = tt
cut_writable h (a_token {rest = rest} {t = t} k c) =
    let whole = rw k.begins.front at (bytes_after k.gap h) in
    (writes_writable t k.begins.lexeme (bytes_front k.begins.lexeme rest whole) k.begins.writes, cut_writable (bytes_rest k.begins.lexeme rest whole) c)
