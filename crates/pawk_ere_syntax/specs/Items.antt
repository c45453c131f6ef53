-- Which bracket expressions there are: the items up to the `]`, one by one, and the set that they make (XBD 9.3.5).
use Rattle.std.specs.Prelude.{◌≡◌, ◌≢◌, ℕ, ◌≤◌, ◌⊎◌, ◌&&◌, ◌||◌, Bool, true, false, not, List, [], ◌∷◌, ◌++◌, codes, drop}
use Rattle.pawk_ere_syntax.specs.declared.class.Class.{Class}
use Rattle.pawk_ere_syntax.specs.declared.class.Class.TheVariants.{Alpha, Digit, Alnum, Upper, Lower, Space, Blank, Punct, Print, Graph, Control, HexDigit}
use Rattle.pawk_ere_syntax.specs.declared.bracket.BracketItem.{BracketItem}
use Rattle.pawk_ere_syntax.specs.declared.bracket.BracketItem.TheVariants as item
use Rattle.pawk_ere_syntax.specs.Brackets.{begins, item_ranges}
use Rattle.pawk_ere_syntax.specs.Numerals.{IsEscape}
use Rattle.pawk_ere_syntax.specs.Sets.{none, with_ranges, complement}

-- a class as it is written
abbrev pub class_text : Class → List ℕ
class_text Alpha = codes "[:alpha:]"
class_text Digit = codes "[:digit:]"
class_text Alnum = codes "[:alnum:]"
class_text Upper = codes "[:upper:]"
class_text Lower = codes "[:lower:]"
class_text Space = codes "[:space:]"
class_text Blank = codes "[:blank:]"
class_text Punct = codes "[:punct:]"
class_text Print = codes "[:print:]"
class_text Graph = codes "[:graph:]"
class_text Control = codes "[:cntrl:]"
class_text HexDigit = codes "[:xdigit:]"

-- what makes a `[` before it more than a byte
abbrev pub opens : List ℕ → Bool
opens bytes = begins 58 bytes || begins 46 bytes || begins 61 bytes

-- the text begins with a point, and the rest follows: an escape for a byte, or a byte itself, which is no backslash and
-- no `[` before `:`, `.` or `=`
abbrev pub IsPoint : List ℕ → ℕ → List ℕ → Type 0
IsPoint bytes byte rest =
    ((more : List ℕ) × (bytes ≡ 92 ∷ more) × IsEscape more byte rest)
    ⊎ ((bytes ≡ byte ∷ rest) × (byte ≢ 92) × (byte ≡ 91 → opens rest ≡ false))

-- after a point: a `-` and the point at which a range ends, which is not below the first; or nothing more, where no `-`
-- follows but one before the `]`
abbrev pub GoesTo : ℕ → List ℕ → BracketItem → List ℕ → Type 0
GoesTo low bytes i rest =
    ((high : ℕ) × (more : List ℕ) × (bytes ≡ 45 ∷ more) × (begins 93 more ≡ false) × IsPoint more high rest × (low ≤ high) × (i ≡ item.Range low high))
    ⊎ (((more : List ℕ) → bytes ≡ 45 ∷ more → begins 93 more ≡ true) × (rest ≡ bytes) × (i ≡ item.Range low low))

-- the text begins with this item, and the rest follows: a class; a `-` before the `]`; or a point, or a range from it, where
-- a `-` may be the point if it is the first
abbrev pub IsItem : Bool → List ℕ → BracketItem → List ℕ → Type 0
IsItem first bytes i rest =
    ((c : Class) × (bytes ≡ class_text c ++ rest) × (i ≡ item.Class c))
    ⊎ ((first ≡ false) × (bytes ≡ 45 ∷ rest) × (begins 93 rest ≡ true) × (i ≡ item.Range 45 45))
    ⊎ (((first ≡ true) ⊎ (begins 45 bytes ≡ false)) × (low : ℕ) × (more : List ℕ) × IsPoint bytes low more × GoesTo low more i rest)

-- whether the `]` that ends a bracket expression is next: it is not the first
abbrev pub ends : Bool → List ℕ → Bool
ends first bytes = begins 93 bytes && not first

-- the text begins with these items and the `]` that ends them, and the rest follows
abbrev pub Items : Bool → List ℕ → List BracketItem → List ℕ → Type 0
Items first bytes [] rest = (ends first bytes ≡ true) × (rest ≡ drop 1 bytes)
Items first bytes (i ∷ is) rest = (ends first bytes ≡ false) × (more : List ℕ) × IsItem first bytes i more × Items false more is rest

-- a set with the bytes of each item added
abbrev pub with_items : List BracketItem → List Bool → List Bool
with_items [] members = members
with_items (i ∷ is) members = with_items is (with_ranges (item_ranges i) members)

-- what is after `[` is a bracket expression with these bytes, and the rest follows
abbrev pub IsBracket : List ℕ → List Bool → List ℕ → Type 0
IsBracket bytes members rest =
    ((begins 94 bytes ≡ true) × (is : List BracketItem) × Items true (drop 1 bytes) is rest × (members ≡ complement (with_items is none)))
    ⊎ ((begins 94 bytes ≡ false) × (is : List BracketItem) × Items true bytes is rest × (members ≡ with_items is none))
