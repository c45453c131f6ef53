-- Formatted text (POSIX.1-2017, XBD 5 "File Format Notation", and awk, "Formatted Output", without floating conversions).
use Rattle.std.specs.Prelude.{ℕ, ℤ, zero, suc, pos, negsuc, ◌+◌, ◌-◌, ◌==◌, ◌&&◌, ◌||◌, Bool, true, false, not, if◌then◌else◌, nat_lt, nat_le, List, [], ◌∷◌, ◌++◌, codes, length, take, drop, map, replicate, slice_index, Option, Some, None, is_some, Result, Ok, Err, decimal, unsigned_abs}
use Rattle.std.specs.List.{prefix_len, list_any}
use Rattle.std.specs.Int.Digits.{digits_of}
use Rattle.pawk_value.specs.declared.faults.Fault.{Fault}
use Rattle.pawk_value.specs.declared.faults.Fault.TheVariants.{Format, Negative, Length}
use Rattle.pawk_value.specs.Bytes.{is_digit, is_point}
use Rattle.pawk_value.specs.Limits.{length_limit}
use Rattle.pawk_value.specs.Numeral.{digits_value, after_while, begins}
use Rattle.pawk_value.specs.Value.{Val, Uninit, Num, Text, Maybe}
use Rattle.pawk_value.specs.Look.{looks}
use Rattle.pawk_value.specs.Conversion.{num_of, text_of}
use Rattle.pawk_value.specs.declared.directive.Conversion.{Conversion}
use Rattle.pawk_value.specs.declared.directive.Conversion.TheVariants as kind
use Rattle.pawk_value.specs.declared.directive.Flags.{Flags}
use Rattle.pawk_value.specs.declared.directive.Directive.{Directive}

-- ---- directives

-- a directive as it is written: its flags, the digits of its width, those of its precision if it has a point, its letter
pub record Spelling : Type 0 where
  pub flags : List ℕ
  pub width : List ℕ
  pub precision : Option (List ℕ)
  pub letter : ℕ

abbrev pub contains : List ℕ → ℕ → Bool
contains bytes b = list_any (λ x. x == b) bytes

abbrev pub is_flag : ℕ → Bool
is_flag b = contains (codes "-+ 0#") b

abbrev pub flags_in : List ℕ → Flags
flags_in bytes = record {
  left = contains bytes 45;
  plus = contains bytes 43;
  space = contains bytes 32;
  zero = contains bytes 48;
  alternate = contains bytes 35;
}

abbrev pub is_conversion : ℕ → Bool
is_conversion c = contains (codes "diouxXsc") c

-- what a letter of these converts to
abbrev pub conversion_of : ℕ → Conversion
conversion_of c =
    if (c == 100) || (c == 105) then kind.Signed else
    (if c == 117 then kind.Unsigned else
    (if c == 111 then kind.Octal else
    (if c == 120 then kind.Hexadecimal else
    (if c == 88 then kind.UpperHexadecimal else
    (if c == 115 then kind.Text else kind.Byte)))))

-- the flags that a conversion allows: `-`, and beside it `+`, space and `0` for signed numbers, `0` for numbers without sign, and `#` for octal and hexadecimal ones
abbrev pub allows : Conversion → Flags → Bool
allows kind.Signed f = not f.alternate
allows kind.Unsigned f = not (f.plus || (f.space || f.alternate))
allows kind.Octal f = not (f.plus || f.space)
allows kind.Hexadecimal f = not (f.plus || f.space)
allows kind.UpperHexadecimal f = not (f.plus || f.space)
allows kind.Text f = not (f.plus || (f.space || (f.zero || f.alternate)))
allows kind.Byte f = not (f.plus || (f.space || (f.zero || f.alternate)))

-- a byte has no precision
abbrev pub allows_precision : Conversion → Bool → Bool
allows_precision kind.Byte some = not some
allows_precision _ some = true

-- the letter is a conversion's, which allows the flags and the precision
abbrev pub is_proper : Spelling → Bool
is_proper d =
    is_conversion d.letter
    && (allows (conversion_of d.letter) (flags_in d.flags)
    && allows_precision (conversion_of d.letter) (is_some d.precision))

abbrev pub precision_value : Option (List ℕ) → Option ℕ
precision_value None = None
precision_value (Some p) = Some (digits_value p)

-- what is written
abbrev pub directive_of : Spelling → Directive
directive_of d = record {
  flags = flags_in d.flags;
  width = digits_value d.width;
  precision = precision_value d.precision;
  conversion = conversion_of d.letter;
}

abbrev pub precision_text : Option (List ℕ) → List ℕ
precision_text None = []
precision_text (Some p) = 46 ∷ p

-- the bytes of a directive after its `%`
abbrev pub bytes_of_spelling : Spelling → List ℕ
bytes_of_spelling d = d.flags ++ (d.width ++ (precision_text d.precision ++ d.letter ∷ []))

-- ---- the text that a directive writes

abbrev pub spaces : ℕ → List ℕ
spaces n = replicate n 32

abbrev pub zeros : ℕ → List ℕ
zeros n = replicate n 48

-- spaces fill the width, after the text where the flag `-` is given
abbrev pub with_spaces : Bool → ℕ → List ℕ → List ℕ
with_spaces left width text = if left then text ++ spaces (width - length text) else spaces (width - length text) ++ text

abbrev pub in_width : Directive → List ℕ → List ℕ
in_width d text = with_spaces d.flags.left d.width text

-- the zeros between what is before a number and its digits: the precision is the least number of digits; without one,
-- and without `-`, the flag `0` fills the width with zeros
abbrev pub zero_count : Bool → Option ℕ → ℕ → ℕ → ℕ → ℕ
zero_count fills (Some p) width before count = p - count
zero_count fills None width before count = if fills then width - (before + count) else 0

abbrev pub fills_zeros : Flags → Bool
fills_zeros f = f.zero && not f.left

-- a sign or a prefix, zeros, digits
abbrev pub number_body : Directive → List ℕ → List ℕ → List ℕ
number_body d prefix ds = prefix ++ (zeros (zero_count (fills_zeros d.flags) d.precision d.width (length prefix) (length ds)) ++ ds)

abbrev pub number_text : Directive → List ℕ → List ℕ → List ℕ
number_text d prefix ds = in_width d (number_body d prefix ds)

-- number 0 with a precision has no digits of its own
abbrev pub own_digits : Directive → ℕ → List ℕ → List ℕ
own_digits d n ds = if (n == 0) && is_some d.precision then [] else ds

abbrev pub is_negative : ℤ → Bool
is_negative (pos n) = false
is_negative (negsuc n) = true

-- the sign: `+` wins over the space
abbrev pub sign_text : Flags → ℤ → List ℕ
sign_text f z =
    if is_negative z then codes "-" else
    (if f.plus then codes "+" else
    (if f.space then codes " " else []))

abbrev pub signed_text : Directive → ℤ → List ℕ
signed_text d z = number_text d (sign_text d.flags z) (own_digits d (unsigned_abs z) (decimal (unsigned_abs z)))

-- the byte of a digit below 16
abbrev pub digit_byte : Bool → ℕ → ℕ
digit_byte upper k = if nat_lt k 10 then 48 + k else (if upper then 55 + k else 87 + k)

-- the digits of a number in a base
abbrev pub radix_text : ℕ → Bool → ℕ → List ℕ
radix_text base upper n = if n == 0 then codes "0" else map (digit_byte upper) (digits_of base n)

-- the digits of a number by the conversion
abbrev pub conversion_digits : Conversion → ℕ → List ℕ
conversion_digits kind.Octal n = radix_text 8 false n
conversion_digits kind.Hexadecimal n = radix_text 16 false n
conversion_digits kind.UpperHexadecimal n = radix_text 16 true n
conversion_digits _ n = decimal n

-- with `#` the first digit of an octal number is 0
abbrev pub with_zero : List ℕ → List ℕ
with_zero ds = if begins (λ b. b == 48) ds then ds else 48 ∷ ds

abbrev pub is_octal : Conversion → Bool
is_octal kind.Octal = true
is_octal _ = false

abbrev pub has_leading_zero : Directive → Bool
has_leading_zero d = is_octal d.conversion && d.flags.alternate

abbrev pub unsigned_digits : Directive → ℕ → List ℕ
unsigned_digits d n =
    let ds = own_digits d n (conversion_digits d.conversion n) in
    if has_leading_zero d then with_zero ds else ds

-- the prefix of a hexadecimal number
abbrev pub hexadecimal_prefix : Conversion → List ℕ
hexadecimal_prefix kind.Hexadecimal = codes "0x"
hexadecimal_prefix kind.UpperHexadecimal = codes "0X"
hexadecimal_prefix _ = []

-- it is written with `#`, where the number is not 0
abbrev pub unsigned_prefix : Directive → ℕ → List ℕ
unsigned_prefix d n = if d.flags.alternate && not (n == 0) then hexadecimal_prefix d.conversion else []

abbrev pub unsigned_text : Directive → ℕ → List ℕ
unsigned_text d n = number_text d (unsigned_prefix d n) (unsigned_digits d n)

-- the precision is the greatest number of bytes
abbrev pub beginning : Option ℕ → List ℕ → List ℕ
beginning None text = text
beginning (Some p) text = take p text

abbrev pub string_text : Directive → Val → List ℕ
string_text d v = in_width d (beginning d.precision (text_of v))

-- a number as a byte
abbrev pub byte_of : ℤ → Result (List ℕ) Fault
byte_of (pos n) = if nat_lt n 256 then Ok (n ∷ []) else Err Format
byte_of (negsuc n) = Err Format

abbrev pub and_then : {A B : Type 0} → Result A Fault → (A → Result B Fault) → Result B Fault
and_then (Ok x) f = f x
and_then (Err e) f = Err e

-- a number or a numeric candidate is a byte; of any other value it is the first byte of its text
abbrev pub character : Val → Result (List ℕ) Fault
character Uninit = Ok []
character (Num z) = byte_of z
character (Text s) = Ok (take 1 s)
character (Maybe s) = if looks s then and_then (num_of (Maybe s)) byte_of else Ok (take 1 s)

abbrev pub signed_result : Directive → ℤ → Result (List ℕ) Fault
signed_result d z = Ok (signed_text d z)

abbrev pub unsigned_result : Directive → ℤ → Result (List ℕ) Fault
unsigned_result d (pos n) = Ok (unsigned_text d n)
unsigned_result d (negsuc n) = Err Negative

abbrev pub character_result : Directive → List ℕ → Result (List ℕ) Fault
character_result d text = Ok (in_width d text)

-- what a conversion writes for a value
abbrev pub text_by : Conversion → Directive → Val → Result (List ℕ) Fault
text_by kind.Signed d v = and_then (num_of v) (signed_result d)
text_by kind.Text d v = Ok (string_text d v)
text_by kind.Byte d v = and_then (character v) (character_result d)
text_by _ d v = and_then (num_of v) (unsigned_result d)

-- what a directive writes for a value
abbrev pub directive_text : Directive → Val → Result (List ℕ) Fault
directive_text d v = text_by d.conversion d v

-- ---- the pieces of a format

abbrev pub within_limit : List ℕ → Result (List ℕ) Fault
within_limit text = if nat_le (length text) length_limit then Ok text else Err Length

abbrev pub is_percent : ℕ → Bool
is_percent b = b == 37

abbrev pub is_plain : ℕ → Bool
is_plain b = not (is_percent b)

-- what is read after a `%`: flags, digits, a point and digits, one byte (0 where none is left)
abbrev pub past_flags : List ℕ → List ℕ
past_flags s = after_while is_flag s

abbrev pub past_width : List ℕ → List ℕ
past_width s = after_while is_digit (past_flags s)

abbrev pub precision_in_front : List ℕ → Option (List ℕ)
precision_in_front s = if begins is_point s then Some (take (prefix_len is_digit (drop 1 s)) (drop 1 s)) else None

abbrev pub without_precision : List ℕ → List ℕ
without_precision s = if begins is_point s then after_while is_digit (drop 1 s) else s

abbrev pub spelling_in_front : List ℕ → Spelling
spelling_in_front s = record {
  flags = take (prefix_len is_flag s) s;
  width = take (prefix_len is_digit (past_flags s)) (past_flags s);
  precision = precision_in_front (past_width s);
  letter = slice_index (without_precision (past_width s)) 0;
}

abbrev pub past_directive : List ℕ → List ℕ
past_directive s = drop 1 (without_precision (past_width s))

-- a piece of a format: a byte that stays as it is, `%%`, a directive, or a `%` that begins neither with all that follows it
pub data Piece : Type 0 where
  Plain : ℕ → Piece
  Percent : Piece
  Place : Directive → Piece
  Malformed : Piece

-- the pieces of at most n bytes
unfoldable pub pieces_within : ℕ → List ℕ → List Piece
pieces_within zero s = []
pieces_within (suc n) [] = []
pieces_within (suc n) (b ∷ s) =
    if is_percent b
    then (if begins is_percent s then Percent ∷ pieces_within n (drop 1 s) else
    (if is_proper (spelling_in_front s)
    then Place (directive_of (spelling_in_front s)) ∷ pieces_within n (past_directive s)
    else Malformed ∷ []))
    else Plain b ∷ pieces_within n s

abbrev pub pieces_of : List ℕ → List Piece
pieces_of s = pieces_within (length s) s

-- ---- the text of a format

-- what the first value has in the place of a directive; the order of faults is a missing value, the value
abbrev pub value_text : Directive → List Val → Result (List ℕ) Fault
value_text d [] = Err Format
value_text d (v ∷ vs) = directive_text d v

-- the text of the pieces after the bytes so far: each directive takes the next value; the first fault decides, in a
-- directive its form, a missing value, the value, the length of all bytes up to its end; last the length of the whole
unfoldable pub text_of_pieces : List Piece → List Val → List ℕ → Result (List ℕ) Fault
text_of_pieces [] vs out = within_limit out
text_of_pieces (Plain b ∷ ps) vs out = text_of_pieces ps vs (out ++ b ∷ [])
text_of_pieces (Percent ∷ ps) vs out = and_then (within_limit (out ++ 37 ∷ [])) (λ all. text_of_pieces ps vs all)
text_of_pieces (Place d ∷ ps) vs out = and_then (and_then (value_text d vs) (λ text. within_limit (out ++ text))) (λ all. text_of_pieces ps (drop 1 vs) all)
text_of_pieces (Malformed ∷ ps) vs out = Err Format

-- the text of a format with its values, or the first fault
abbrev pub text_of_format : List ℕ → List Val → Result (List ℕ) Fault
text_of_format s vs = text_of_pieces (pieces_of s) vs []

-- ---- the first byte

abbrev pub has_bytes : List ℕ → Bool
has_bytes [] = false
has_bytes (b ∷ s) = true

abbrev pub bytes_or_later : Result (List ℕ) Fault → Bool → Bool
bytes_or_later (Ok text) later = has_bytes text || later
bytes_or_later (Err f) later = false

-- a byte is written before the first fault
unfoldable pub writes : List Piece → List Val → Bool
writes [] vs = false
writes (Plain b ∷ ps) vs = true
writes (Percent ∷ ps) vs = true
writes (Place d ∷ ps) vs = bytes_or_later (and_then (value_text d vs) within_limit) (writes ps (drop 1 vs))
writes (Malformed ∷ ps) vs = false
