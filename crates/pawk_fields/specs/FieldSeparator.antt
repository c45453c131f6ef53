-- What separates fields, and the fields by it.
use Rattle.std.specs.Prelude.{ℕ, List, [], ◌∷◌, Option, None, Some, drop, map, true, false}
use Rattle.std.specs.declared.ops.Range.{Range}
use Rattle.pawk_fields.specs.Splits.{pieces_after, words_from, bytes_of}
use Rattle.pawk_fields.specs.declared.separator.FieldSeparator.{FieldSeparator}
use Rattle.pawk_fields.specs.declared.separator.FieldSeparator.TheVariants.{Blanks, Byte, ByteOrNewline}

-- the ranges of the fields from a place on; from no place on there are none
abbrev pub ranges_from : FieldSeparator → List ℕ → Option ℕ → List (ℕ × ℕ)
ranges_from Blanks s None = []
ranges_from Blanks s (Some p) = words_from None p (drop p s)
ranges_from (Byte b) s next = pieces_after b false s next
ranges_from (ByteOrNewline b) s next = pieces_after b true s next

-- the ranges of a record's fields; an empty one has none
abbrev pub ranges_by : FieldSeparator → List ℕ → List (ℕ × ℕ)
ranges_by separator [] = []
ranges_by separator (b ∷ s) = ranges_from separator (b ∷ s) (Some 0)

-- a record's fields
abbrev pub fields_by : FieldSeparator → List ℕ → List (List ℕ)
fields_by separator s = map (bytes_of s) (ranges_by separator s)

-- the range of a pair of places
abbrev pub range_of : ℕ × ℕ → Range ℕ
range_of f = record { start = f.0; end = f.1 }
