-- What the code's pieces and values show, and what a call makes of the text so far.
use Rattle.std.specs.Prelude.{◌≡◌, ◌⊎◌, ℕ, ◌<◌, min, true, List, [], ◌∷◌, ◌++◌, map, drop, length, Option, Some, None, option_to_list, Result, Ok, Err}
use Rattle.pawk_value.specs.declared.faults.Fault.{Fault}
use Rattle.pawk_value.specs.declared.faults.Fault.TheVariants.{Format}
use Rattle.pawk_value.specs.declared.faults.Stop.{Stop}
use Rattle.pawk_value.specs.declared.faults.Stop.TheVariants as stop
use Rattle.pawk_value.specs.Value.{Val, shown, lent_value}
use Rattle.pawk_value.specs.declared.directive.Directive.{Directive}
use Rattle.pawk_value.specs.declared.directive.Conversion.{Conversion}
use Rattle.pawk_value.specs.declared.directive.Conversion.TheVariants as kind
use Rattle.pawk_value.specs.declared.pieces.Piece.{Piece}
use Rattle.pawk_value.specs.declared.pieces.Piece.TheVariants as code
use Rattle.pawk_value.specs.declared.arguments.Arguments.{Arguments}
use Rattle.pawk_value.specs.declared.arguments.Arguments.TheVariants as arguments
use Rattle.pawk_value.specs.Format.{and_then, within_limit, value_text, Plain, Percent, Place, Malformed, pieces_of}
use Rattle.pawk_value.specs.Format as format

-- counts above the limit of lengths are one
abbrev pub cap : ℕ → ℕ
cap n = min n 16777217

abbrev pub cap_precision : Option ℕ → Option ℕ
cap_precision None = None
cap_precision (Some n) = Some (cap n)

abbrev pub cap_directive : Directive → Directive
cap_directive d = record d { width = cap d.width; precision = cap_precision d.precision }

abbrev pub cap_piece : format.Piece → format.Piece
cap_piece (Plain b) = Plain b
cap_piece Percent = Percent
cap_piece (Place d) = Place (cap_directive d)
cap_piece Malformed = Malformed

-- the pieces of a format with counts as the code has them
abbrev pub cap_pieces_of : List ℕ → List format.Piece
cap_pieces_of s = map cap_piece (pieces_of s)

-- the pieces that a piece of the code shows
abbrev pub shown_pieces : Piece → List format.Piece
shown_pieces (code.Plain bytes) = map Plain bytes.now
shown_pieces code.Percent = Percent ∷ []
shown_pieces (code.Place d) = Place d ∷ []
shown_pieces code.Malformed = Malformed ∷ []

-- the values that arguments show
abbrev pub shown_values : Arguments → List Val
shown_values (arguments.Owned vs) = map shown vs.now
shown_values (arguments.Lent vs) = map lent_value vs.now

-- the values that are left after a piece
abbrev pub values_after : Piece → List Val → List Val
values_after (code.Place d) vs = drop 1 vs
values_after _ vs = vs

-- a text after the text so far, where the length allows it
abbrev pub text_after : List ℕ → Result (List ℕ) Fault → Result (List ℕ) Fault
text_after out text = and_then text (λ t. within_limit (out ++ t))

-- the text so far with that of a piece
abbrev pub piece_text : List ℕ → Piece → List Val → Result (List ℕ) Fault
piece_text out (code.Plain bytes) vs = Ok (out ++ bytes.now)
piece_text out code.Percent vs = within_limit (out ++ 37 ∷ [])
piece_text out (code.Place d) vs = text_after out (value_text d vs)
piece_text out code.Malformed vs = Err Format

-- octal or hexadecimal
abbrev pub IsRadix : Conversion → Type 0
IsRadix c = (c ≡ kind.Octal) ⊎ ((c ≡ kind.Hexadecimal) ⊎ (c ≡ kind.UpperHexadecimal))

abbrev pub IsUnsigned : Conversion → Type 0
IsUnsigned c = (c ≡ kind.Unsigned) ⊎ IsRadix c

-- a byte as a text
abbrev pub as_bytes : Result ℕ Fault → Result (List ℕ) Fault
as_bytes (Ok b) = Ok (b ∷ [])
as_bytes (Err f) = Err f

-- a byte or nothing, as a text
abbrev pub as_text : Result (Option ℕ) Fault → Result (List ℕ) Fault
as_text (Ok b) = Ok (option_to_list b)
as_text (Err f) = Err f

-- bytes are to be written after those that there are
abbrev pub Longer : List ℕ → Result (List ℕ) Fault → Type 0
Longer before (Ok text) = length before < length text
Longer before (Err f) = ⊥

-- the call made the bytes that are wanted, or reports the fault; a refused allocation is reported only where bytes are
-- to be written
abbrev pub Makes : {A : Type 0} → List ℕ → Result (List ℕ) Fault → List ℕ → Result A Stop → Type 0
Makes before wanted made (Ok u) = wanted ≡ Ok made
Makes before wanted made (Err (stop.Fault f)) = wanted ≡ Err f
Makes before wanted made (Err stop.Memory) = Longer before wanted

-- the bytes or the fault that are wanted; a refused allocation is reported only where a byte is written before the
-- first fault
abbrev pub Writes : {A : Type 0} → List format.Piece → List Val → List ℕ → Result A Stop → Type 0
Writes ps vs made (Ok u) = format.text_of_pieces ps vs [] ≡ Ok made
Writes ps vs made (Err (stop.Fault f)) = format.text_of_pieces ps vs [] ≡ Err f
Writes ps vs made (Err stop.Memory) = format.writes ps vs ≡ true
