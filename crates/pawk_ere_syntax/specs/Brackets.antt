-- Bracket expressions: XBD 9.3.5, RE Bracket Expression, in the POSIX locale.
use Rattle.std.specs.Prelude.{ℕ, zero, suc, ◌==◌, ◌||◌, ◌&&◌, Bool, true, false, not, Option, Some, None, List, [], ◌∷◌, codes, nat_le, if◌then◌else◌, length, drop}
use Rattle.pawk_ere_syntax.specs.declared.class.Class.{Class}
use Rattle.pawk_ere_syntax.specs.declared.class.Class.TheVariants.{Alpha, Digit, Alnum, Upper, Lower, Space, Blank, Punct, Print, Graph, Control, HexDigit}
use Rattle.pawk_ere_syntax.specs.declared.bracket.BracketItem.{BracketItem}
use Rattle.pawk_ere_syntax.specs.declared.bracket.BracketItem.TheVariants as item
use Rattle.pawk_ere_syntax.specs.Escapes.{escape_at}
use Rattle.pawk_ere_syntax.specs.Sets.{none, with_ranges, complement}

-- the bytes of a character class: XBD 7.3.1, LC_CTYPE
abbrev pub class_ranges : Class → List (ℕ × ℕ)
class_ranges Alpha = (65, 90) ∷ (97, 122) ∷ []
class_ranges Digit = (48, 57) ∷ []
class_ranges Alnum = (48, 57) ∷ (65, 90) ∷ (97, 122) ∷ []
class_ranges Upper = (65, 90) ∷ []
class_ranges Lower = (97, 122) ∷ []
class_ranges Space = (9, 13) ∷ (32, 32) ∷ []
class_ranges Blank = (9, 9) ∷ (32, 32) ∷ []
class_ranges Punct = (33, 47) ∷ (58, 64) ∷ (91, 96) ∷ (123, 126) ∷ []
class_ranges Print = (32, 126) ∷ []
class_ranges Graph = (33, 126) ∷ []
class_ranges Control = (0, 31) ∷ (127, 127) ∷ []
class_ranges HexDigit = (48, 57) ∷ (65, 70) ∷ (97, 102) ∷ []

-- the bytes of an item
abbrev pub item_ranges : BracketItem → List (ℕ × ℕ)
item_ranges (item.Range low high) = (low, high) ∷ []
item_ranges (item.Class c) = class_ranges c

-- whether the text begins with the byte
abbrev pub begins : ℕ → List ℕ → Bool
begins byte [] = false
begins byte (c ∷ rest) = c == byte

-- every class, and its name with what ends it
abbrev pub all_classes : List Class
all_classes = Alpha ∷ Digit ∷ Alnum ∷ Upper ∷ Lower ∷ Space ∷ Blank ∷ Punct ∷ Print ∷ Graph ∷ Control ∷ HexDigit ∷ []

abbrev pub class_name : Class → List ℕ
class_name Alpha = codes "alpha:]"
class_name Digit = codes "digit:]"
class_name Alnum = codes "alnum:]"
class_name Upper = codes "upper:]"
class_name Lower = codes "lower:]"
class_name Space = codes "space:]"
class_name Blank = codes "blank:]"
class_name Punct = codes "punct:]"
class_name Print = codes "print:]"
class_name Graph = codes "graph:]"
class_name Control = codes "cntrl:]"
class_name HexDigit = codes "xdigit:]"

-- what follows the name, if the text begins with it
abbrev pub rest_after : List ℕ → List ℕ → Option (List ℕ)
rest_after [] bytes = Some bytes
rest_after (n ∷ ns) [] = None
rest_after (n ∷ ns) (c ∷ rest) = if c == n then rest_after ns rest else None

-- the class, if its name was there, or else the other
abbrev pub class_or : Class → Option (List ℕ) → Option (Class × List ℕ) → Option (Class × List ℕ)
class_or c None other = other
class_or c (Some rest) other = Some (c, rest)

-- the first of these classes whose name the text begins with, and what follows
abbrev pub class_among : List Class → List ℕ → Option (Class × List ℕ)
class_among [] bytes = None
class_among (c ∷ cs) bytes = class_or c (rest_after (class_name c) bytes) (class_among cs bytes)

abbrev pub class_item : Option (Class × List ℕ) → Option (BracketItem × List ℕ)
class_item None = None
class_item (Some x) = Some (item.Class x.0, x.1)

-- the class after `[:`
unfoldable pub class_at : List ℕ → Option (BracketItem × List ℕ)
class_at bytes = class_item (class_among all_classes bytes)

-- a point: a byte itself, or one that an escape makes. `[` before `:`, `.` or `=` is none
unfoldable pub point_at : List ℕ → Option (ℕ × List ℕ)
point_at [] = None
point_at (c ∷ rest) =
    if c == 92 then escape_at rest
    else if (c == 91) && (begins 58 rest || begins 46 rest || begins 61 rest) then None
    else Some (c, rest)

-- whether a `-` is next that is not the last item
abbrev pub goes_on : List ℕ → Bool
goes_on [] = false
goes_on (c ∷ rest) = (c == 45) && not (begins 93 rest)

-- a range does not fall
abbrev pub range_to : ℕ → Option (ℕ × List ℕ) → Option (BracketItem × List ℕ)
range_to low None = None
range_to low (Some x) = if nat_le low x.0 then Some (item.Range low x.0, x.1) else None

-- a point, or a range from it
abbrev pub from_point : Option (ℕ × List ℕ) → Option (BracketItem × List ℕ)
from_point None = None
from_point (Some x) = if goes_on x.1 then range_to x.0 (point_at (drop 1 x.1)) else Some (item.Range x.0 x.0, x.1)

-- the last item may be a `-`
abbrev pub last_dash : List ℕ → Option (BracketItem × List ℕ)
last_dash rest = if begins 93 rest then Some (item.Range 45 45, rest) else None

-- an item: a class, or a range from point to point, or a point. A `-` is a point only first, last, or as the end of a range
unfoldable pub item_at : Bool → List ℕ → Option (BracketItem × List ℕ)
item_at first [] = None
item_at first (c ∷ rest) =
    if (c == 91) && begins 58 rest then class_at (drop 1 rest)
    else if (c == 45) && not first then last_dash rest
    else from_point (point_at (c ∷ rest))

abbrev pub and_then : (List Bool → List ℕ → Option (List Bool × List ℕ)) → List Bool → Option (BracketItem × List ℕ) → Option (List Bool × List ℕ)
and_then go members None = None
and_then go members (Some x) = go (with_ranges (item_ranges x.0) members) x.1

-- the items up to the `]` that ends them, which is not the first, as a set; a text has no more items than bytes
unfoldable pub items : ℕ → List Bool → Bool → List ℕ → Option (List Bool × List ℕ)
items zero members first bytes = None
items (suc n) members first bytes =
    if begins 93 bytes && not first then Some (members, drop 1 bytes)
    else and_then (λ more rest. items n more false rest) members (item_at first bytes)

abbrev pub outside : Option (List Bool × List ℕ) → Option (List Bool × List ℕ)
outside None = None
outside (Some x) = Some (complement x.0, x.1)

-- what is after `[`: the set, and what follows. A `^` at once takes the bytes that are not in it
unfoldable pub bracket_at : List ℕ → Option (List Bool × List ℕ)
bracket_at bytes =
    if begins 94 bytes then outside (items (length bytes) none true (drop 1 bytes))
    else items (length bytes) none true bytes
