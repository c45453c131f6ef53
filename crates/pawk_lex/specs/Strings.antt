-- The bytes inside strings and between slashes (POSIX.1-2017, awk, "Lexical Conventions": STRING
-- and ERE, with the
-- table "Escape Sequences in awk" and that of XBD 5, "File Format Notation").
use Rattle.std.specs.Prelude.{ℕ, zero, suc, ◌+◌, ◌-◌, ◌*◌, ◌&&◌, ◌||◌, if◌then◌else◌, ◌==◌, nat_lt, [], ◌∷◌, ◌++◌, Option, Some, None, slice_index}
use Rattle.pawk_lex.specs.Bytes.{Text, is_octal}

-- the byte that a backslash and this byte write
unfoldable pub simple_escape : ℕ → Option ℕ
simple_escape b =
    if b == 34 then Some 34 else (if b == 47 then Some 47 else (if b == 92 then Some 92
    else (if b == 97 then Some 7 else (if b == 98 then Some 8
    else (if b == 102 then Some 12 else (if b == 110 then Some 10 else (if b == 114 then Some 13
    else (if b == 116 then Some 9 else (if b == 118 then Some 11 else None)))))))))

-- with the count of the two bytes
abbrev pub by_two : Option ℕ → Option (ℕ × ℕ)
by_two None = None
by_two (Some byte) = Some (byte, 2)

abbrev pub two_digits : ℕ → ℕ → ℕ
two_digits a b = 8 * (a - 48) + (b - 48)

abbrev pub three_digits : ℕ → ℕ → ℕ → ℕ
three_digits a b c = 8 * two_digits a b + (c - 48)

-- the byte that a backslash and octal digits write, of which a is the first, and how many bytes write it:
-- the longest run of at most three digits whose value is a byte
unfoldable pub octal_escape : ℕ → ℕ → ℕ → Option (ℕ × ℕ)
octal_escape a b c =
    if is_octal b then (if is_octal c && nat_lt (three_digits a b c) 256 then Some (three_digits a b c, 4)
    else Some (two_digits a b, 3)) else Some (a - 48, 2)

-- the byte that the front of a string's text writes, and how many bytes write it;
-- none where the string ends: at a quote, a newline, the end of the text, or a backslash that
-- begins no escape
unfoldable pub string_byte : Text → Option (ℕ × ℕ)
string_byte [] = None
string_byte (b ∷ z) =
    if b == 34 || b == 10 then None
    else (if b == 92 then (if is_octal (slice_index z 0) then octal_escape (slice_index z 0) (slice_index z 1) (slice_index z 2)
    else by_two (simple_escape (slice_index z 0))) else Some (b, 1))

-- what is written up to the string's end, after the bytes of `front`, and the text from that end on
abbrev pub decode_by : Text → Text → (ℕ → Text → Text × Text) → Option (ℕ × ℕ) → Text × Text
decode_by front z more None = (front, z)
decode_by front z more (Some p) = more (p.1 - 1) (front ++ p.0 ∷ [])

abbrev pub decode : ℕ → Text → Text → Text × Text
decode left front [] = (front, [])
decode (suc left) front (b ∷ z) = decode left front z
decode zero front (b ∷ z) = decode_by front (b ∷ z) (λ n ds. decode n ds z) (string_byte (b ∷ z))

-- how many bytes at the front belong to an expression: a byte, or a backslash with the byte that it escapes
abbrev pub after_backslash : Text → ℕ
after_backslash [] = 0
after_backslash (c ∷ z) = if c == 10 then 0 else 2

unfoldable pub ere_length : Text → ℕ
ere_length [] = 0
ere_length (b ∷ z) = if b == 47 || b == 10 then 0 else (if b == 92 then after_backslash z else 1)
