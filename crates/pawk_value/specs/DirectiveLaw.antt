-- What a directive writes, in the words of the standard (XBD 5 "File Format Notation").
use Rattle.std.specs.Prelude.{◌≡◌, ◌⊎◌, ℕ, ℤ, pos, negsuc, ◌+◌, ◌<◌, ◌≤◌, ◌^◌, ◌||◌, Bool, true, false, List, [], ◌∷◌, ◌++◌, codes, take, length, min, All, Some, None, is_some, IfSome, Ok, Err, if◌then◌else◌, unsigned_abs}
use Rattle.std.specs.Str.Parse.{digits_value}
use Rattle.pawk_value.specs.declared.faults.Fault.{Fault}
use Rattle.pawk_value.specs.declared.faults.Fault.TheVariants.{Format, Negative}
use Rattle.pawk_value.specs.Value.{Val, Uninit, Num, Text, Maybe}
use Rattle.pawk_value.specs.Look.{looks}
use Rattle.pawk_value.specs.Conversion.{num_of, text_of}
use Rattle.pawk_value.specs.declared.directive.Conversion.{Conversion}
use Rattle.pawk_value.specs.declared.directive.Conversion.TheVariants as kind
use Rattle.pawk_value.specs.declared.directive.Flags.{Flags}
use Rattle.pawk_value.specs.declared.directive.Directive.{Directive}
use Rattle.pawk_value.specs.Format.{spaces, contains, directive_text}

-- the text is the body with spaces on one side, as long as the width, or the body alone where that is longer
pub record InWidth (d : Directive) (body text : List ℕ) : Type 0 where
  pub count : ℕ
  pub sides : text ≡ (if d.flags.left then body ++ spaces count else spaces count ++ body)
  pub wide : d.width ≤ length text
  pub tight : 0 < count → length text ≡ d.width

abbrev pub base_of : Conversion → ℕ
base_of kind.Octal = 8
base_of kind.Hexadecimal = 16
base_of kind.UpperHexadecimal = 16
base_of _ = 10

-- the digits of a conversion
abbrev pub alphabet : Conversion → List ℕ
alphabet kind.Octal = codes "01234567"
alphabet kind.Hexadecimal = codes "0123456789abcdef"
alphabet kind.UpperHexadecimal = codes "0123456789ABCDEF"
alphabet _ = codes "0123456789"

-- the flag `0` counts: there is no `-` and no precision
abbrev pub PadsWithZeros : Directive → Type 0
PadsWithZeros d = (d.precision ≡ None) × (d.flags.zero ≡ true) × (d.flags.left ≡ false)

-- an octal number with `#`
abbrev pub IsMarked : Directive → Type 0
IsMarked d = (d.conversion ≡ kind.Octal) × (d.flags.alternate ≡ true)

-- why the first of some digits is 0: the digits are as many as the precision, or fill the width, or it is the one 0 that
-- `#` puts before an octal number, or the number is 0
abbrev pub IsWanted : Directive → ℕ → ℕ → List ℕ → List ℕ → Type 0
IsWanted d before n digits rest =
    (d.precision ≡ Some (length digits))
    ⊎ (PadsWithZeros d × (before + length digits ≡ d.width))
    ⊎ (IsMarked d × ((more : List ℕ) → rest ≡ 48 ∷ more → ⊥))
    ⊎ ((n ≡ 0) × (d.precision ≡ None) × (rest ≡ []))

-- the text is a sign or a prefix and digits, which read as the number in the base and have no 0 in front but for a reason
pub record WritesNumber (d : Directive) (before : List ℕ) (n : ℕ) (text : List ℕ) : Type 0 where
  pub digits : List ℕ
  pub padded : InWidth d (before ++ digits) text
  pub written : All (λ b. contains (alphabet d.conversion) b ≡ true) digits
  pub reads : digits_value (base_of d.conversion) digits ≡ n
  pub many : IfSome d.precision (λ p. p ≤ length digits)
  pub some : d.precision ≡ None → 0 < length digits
  pub filled : PadsWithZeros d → d.width ≤ length before + length digits
  pub marked : IsMarked d → (rest : List ℕ) × (digits ≡ 48 ∷ rest)
  pub wanted : (rest : List ℕ) → digits ≡ 48 ∷ rest → IsWanted d (length before) n digits rest

-- a sign: `-` before a number below 0; before another one `+` by that flag, else a space by its flag, else nothing
pub record IsSign (f : Flags) (z : ℤ) (before : List ℕ) : Type 0 where
  pub minus : (n : ℕ) → z ≡ negsuc n → before ≡ codes "-"
  pub plus : (n : ℕ) → z ≡ pos n → f.plus ≡ true → before ≡ codes "+"
  pub space : (n : ℕ) → z ≡ pos n → f.plus ≡ false → f.space ≡ true → before ≡ codes " "
  pub bare : (n : ℕ) → z ≡ pos n → f.plus ≡ false → f.space ≡ false → before ≡ []

-- a prefix: 0x or 0X by `#` before a hexadecimal number that is not 0, and nothing else
pub record IsPrefix (d : Directive) (n : ℕ) (before : List ℕ) : Type 0 where
  pub small : d.conversion ≡ kind.Hexadecimal → d.flags.alternate ≡ true → 0 < n → before ≡ codes "0x"
  pub great : d.conversion ≡ kind.UpperHexadecimal → d.flags.alternate ≡ true → 0 < n → before ≡ codes "0X"
  pub bare : (base_of d.conversion < 16) ⊎ (d.flags.alternate ≡ false) ⊎ (n ≡ 0) → before ≡ []

-- a number is the byte with that code; a value that is a number, or looks like one, is taken as it
abbrev pub IsCode : ℤ → List ℕ → Type 0
IsCode z b = (n : ℕ) × (z ≡ pos n) × (n < 256) × (b ≡ n ∷ [])

-- any other value is the first byte of its text
abbrev pub IsByte : Val → List ℕ → Type 0
IsByte Uninit b = b ≡ []
IsByte (Num z) b = IsCode z b
IsByte (Text s) b = b ≡ take 1 s
IsByte (Maybe s) b = (looks s ≡ true → (z : ℤ) × (num_of (Maybe s) ≡ Ok z) × IsCode z b) × (looks s ≡ false → b ≡ take 1 s)

-- the text has a beginning of the value's: all of it, or as many bytes as the precision where that is less
pub record WritesText (d : Directive) (value text : List ℕ) : Type 0 where
  pub count : ℕ
  pub padded : InWidth d (take count value) text
  pub whole : d.precision ≡ None → count ≡ length value
  pub cut : IfSome d.precision (λ p. count ≡ min p (length value))

abbrev pub WritesBy : Conversion → Directive → Val → List ℕ → Type 0
WritesBy kind.Signed d v text = (z : ℤ) × (num_of v ≡ Ok z)
    × (unsigned_abs z < 2 ^ 64 → (before : List ℕ) × IsSign d.flags z before × WritesNumber d before (unsigned_abs z) text)
WritesBy kind.Text d v text = WritesText d (text_of v) text
WritesBy kind.Byte d v text = (b : List ℕ) × IsByte v b × InWidth d b text
WritesBy _ d v text = (n : ℕ) × (num_of v ≡ Ok (pos n))
    × (n < 2 ^ 64 → (before : List ℕ) × IsPrefix d n before × WritesNumber d before n text)

-- the number has no byte: it is below 0, or above 255
abbrev pub HasNoByte : ℤ → Type 0
HasNoByte z = (n : ℕ) → n < 256 → z ≡ pos n → ⊥

-- a value of which no byte can be written: a number without a byte, or one that looks like a number and does not convert
abbrev pub NoByte : Val → Fault → Type 0
NoByte Uninit f = ⊥
NoByte (Num z) f = (f ≡ Format) × HasNoByte z
NoByte (Text s) f = ⊥
NoByte (Maybe s) f = (looks s ≡ true) × ((num_of (Maybe s) ≡ Err f) ⊎ ((f ≡ Format) × (z : ℤ) × (num_of (Maybe s) ≡ Ok z) × HasNoByte z))

-- when a directive fails: the value does not convert, or a number without sign is below 0; a text never fails
abbrev pub FailsBy : Conversion → Val → Fault → Type 0
FailsBy kind.Signed v f = num_of v ≡ Err f
FailsBy kind.Text v f = ⊥
FailsBy kind.Byte v f = NoByte v f
FailsBy _ v f = (num_of v ≡ Err f) ⊎ ((f ≡ Negative) × (n : ℕ) × (num_of v ≡ Ok (negsuc n)))

-- what a directive writes
abbrev pub DirectiveLaw : Directive → Type 0
DirectiveLaw d = (v : Val) (text : List ℕ) → directive_text d v ≡ Ok text → WritesBy d.conversion d v text

-- and the one fault where it writes nothing
abbrev pub DirectiveFaults : Directive → Type 0
DirectiveFaults d = (v : Val) (f : Fault) → directive_text d v ≡ Err f → FailsBy d.conversion v f

abbrev pub with_flag_zero : Bool → Directive → Directive
with_flag_zero zero d = record {
  flags = record { left = d.flags.left; plus = d.flags.plus; space = d.flags.space; zero = zero; alternate = d.flags.alternate };
  width = d.width;
  precision = d.precision;
  conversion = d.conversion;
}

-- beside `-` or a precision the flag `0` changes nothing
abbrev pub ZeroIsIdle : Directive → Type 0
ZeroIsIdle d = (v : Val) (zero : Bool) → (d.flags.left || is_some d.precision) ≡ true → directive_text (with_flag_zero zero d) v ≡ directive_text d v
