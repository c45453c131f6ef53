-- Where the fields are in a line, and what they are.
use Rattle.std.specs.Prelude.{◌≡◌, ℕ, zero, suc, ◌+◌, ◌-◌, ◌^◌, ◌≤◌, ◌++◌, min, Bool, if◌then◌else◌, Option, None, Some, List, [], ◌∷◌, length, slice_range, slice_set, take, drop, map}
use Rattle.std.specs.declared.ops.Range.{Range}
use Rattle.pawk_value.specs.Conversion.{text_of}
use Rattle.pawk_value.specs.Value.{Val, Uninit, Num, Text, Maybe}
use Rattle.pawk_record.specs.declared.layout.Kind.{Kind}
use Rattle.pawk_record.specs.declared.layout.Kind.TheVariants as kinds
use Rattle.pawk_record.specs.declared.layout.Layout.{Layout}
use Rattle.pawk_record.specs.Records.{joined, joined_from}

-- the line: a text that is lent, or the record's own
abbrev pub line_of : Bool → List ℕ → List ℕ → List ℕ
line_of is_own own lent = if is_own then own else lent

-- the value of a kind with these bytes
abbrev pub value_of : Kind → List ℕ → Val
value_of kinds.Uninit bytes = Uninit
value_of (kinds.Num z) bytes = Num z
value_of kinds.Text bytes = Text bytes
value_of kinds.Maybe bytes = Maybe bytes

abbrev pub kind_of : Val → Kind
kind_of Uninit = kinds.Uninit
kind_of (Num z) = kinds.Num z
kind_of (Text s) = kinds.Text
kind_of (Maybe s) = kinds.Maybe

-- without a kind bytes came from outside
abbrev pub value_by : Option Kind → List ℕ → Val
value_by None bytes = Maybe bytes
value_by (Some k) bytes = value_of k bytes

abbrev pub bytes_in : List ℕ → Range ℕ → List ℕ
bytes_in text r = slice_range text r.start r.end

-- the values that are in ranges of a line; without a kind it is a candidate
unfoldable pub values : List ℕ → List (Range ℕ) → List Kind → List Val
values text [] ks = []
values text (r ∷ rs) [] = Maybe (bytes_in text r) ∷ values text rs []
values text (r ∷ rs) (k ∷ ks) = value_of k (bytes_in text r) ∷ values text rs ks

-- where the texts of values lie that are joined from a place on
abbrev pub places_from : ℕ → List ℕ → List ℕ → List Val → List (Range ℕ)
places_from at before ofs [] = []
places_from at before ofs (v ∷ vs) =
    record { start = at + length before; end = at + length before + length (text_of v) }
    ∷ places_from (at + length before + length (text_of v)) ofs ofs vs

-- the text before a value, by the values before it
abbrev pub before_at : ℕ → List ℕ → List ℕ
before_at zero ofs = []
before_at (suc n) ofs = ofs

-- a value was added after a text
pub record Adds (before : List ℕ) (v : Val) (old new : Layout) : Type 0 where
  pub text : new.text.items ≡ old.text.items ++ (before ++ text_of v)
  pub range : new.ranges.items ≡ old.ranges.items ++ record { start = length old.text.items + length before; end = length old.text.items + length before + length (text_of v) } ∷ []
  pub kind : new.kinds.items ≡ old.kinds.items ++ kind_of v ∷ []

-- the line is the values' texts with OFS between them, and they lie so in it
pub record IsLaidOut (ofs : List ℕ) (vs : List Val) (layout : Layout) : Type 0 where
  pub text : layout.text.items ≡ joined ofs vs
  pub ranges : layout.ranges.items ≡ places_from 0 [] ofs vs
  pub kinds : layout.kinds.items ≡ map kind_of vs

-- the same where the first n of the values are there
pub record IsLaidOutTo (ofs : List ℕ) (vs : List Val) (i : ℕ) (layout : Layout) : Type 0 where
  pub text : layout.text.items ++ joined_from (before_at i ofs) ofs (drop i vs) ≡ joined ofs vs
  pub ranges : layout.ranges.items ++ places_from (length layout.text.items) (before_at i ofs) ofs (drop i vs) ≡ places_from 0 [] ofs vs
  pub kinds : layout.kinds.items ++ map kind_of (drop i vs) ≡ map kind_of vs

-- the values of a line and its fields
abbrev pub values_of : Layout → List Val
values_of layout = values layout.text.items layout.ranges.items layout.kinds.items

-- the line is the texts of its fields with the OFS between them that it has
pub record IsJoined (layout : Layout) : Type 0 where
  pub laid : IsLaidOut layout.ofs.items (values_of layout) layout

-- a field is right after some bytes at a place
pub record IsAfter (text : List ℕ) (place : ℕ) (before : List ℕ) (r : Range ℕ) : Type 0 where
  pub start : r.start ≡ place + length before
  pub order : r.start ≤ r.end
  pub within : r.end ≤ length text
  pub bytes : slice_range text place r.start ≡ before

-- a line is the texts of fields that came from outside with OFS between them
pub record AreJoined (ofs line : List ℕ) (ranges : List (Range ℕ)) : Type 0 where
  pub text : line ≡ joined ofs (values line ranges [])
  pub places : ranges ≡ places_from 0 [] ofs (values line ranges [])

-- the same where that is so from a place and a field on
pub record AreJoinedTo (ofs line : List ℕ) (ranges : List (Range ℕ)) (i place : ℕ) : Type 0 where
  pub within : place ≤ length line
  pub text : drop place line ≡ joined_from (before_at i ofs) ofs (values line (drop i ranges) []) → line ≡ joined ofs (values line ranges [])
  pub places : drop i ranges ≡ places_from place (before_at i ofs) ofs (values line (drop i ranges) []) → ranges ≡ places_from 0 [] ofs (values line ranges [])

-- a text with other bytes in the place of a part
abbrev pub exchanged : List ℕ → ℕ → ℕ → List ℕ → List ℕ
exchanged text start end bytes = take start text ++ (bytes ++ drop end text)

-- a place that moved with another one, as far as there are numbers
abbrev pub moved_place : ℕ → ℕ → ℕ → ℕ
moved_place from to place = min (place - from + to) (2 ^ 64 - 1)

abbrev pub moved : ℕ → ℕ → Range ℕ → Range ℕ
moved from to r = record { start = moved_place from to r.start; end = moved_place from to r.end }

-- a field has another end, and those after it, which are joined, moved by as much
pub record MovesEnd (number : ℕ) (range : ℕ × ℕ) (end : ℕ) (old new : List (Range ℕ)) : Type 0 where
  pub moves : (ofs : List ℕ) (vs : List Val) → drop (number + 1) old ≡ places_from range.1 ofs ofs vs → end + length (joined_from ofs ofs vs) ≤ 2 ^ 64 - 1
      → new ≡ take number old ++ (record { start = range.0; end = end } ∷ places_from end ofs ofs vs)

-- a value was put in the place of another one
pub record Replaces (number : ℕ) (range : ℕ × ℕ) (v : Val) (old new : Layout) : Type 0 where
  pub text : new.text.items ≡ exchanged old.text.items range.0 range.1 (text_of v)
  pub ranges : MovesEnd number range (range.0 + length (text_of v)) old.ranges.items new.ranges.items
  pub kinds : new.kinds.items ≡ slice_set old.kinds.items number (kind_of v)
