-- The built-in functions on what their operands were converted to.
-- POSIX.1-2017, awk, "Functions": "Arithmetic Functions" (int) and "String Functions".
use Rattle.std.specs.Prelude.{ℕ, ℤ, zero, suc, pos, ◌+◌, ◌-◌, Bool, true, false, ◌&&◌, ◌||◌, ◌==◌, not, nat_le, nat_lt, if◌then◌else◌, List, [], ◌∷◌, ◌++◌, length, take, drop, map, slice_range, Option, Some, None, Result, Ok, Err, int_le, int_lt, ◌+ℤ◌, slice_get}
use Rattle.pawk_value.specs.declared.faults.Fault.{Fault}
use Rattle.pawk_value.specs.declared.faults.Fault.TheVariants as fault
use Rattle.pawk_value.specs.Limits.{length_limit}
use Rattle.pawk_ere_syntax.specs.Pattern.{Pattern}
use Rattle.pawk_ere_automaton.specs.Expand.{expand}
use Rattle.pawk_ere_automaton.specs.Regex.{Regex}
use Rattle.pawk_fields.specs.Search.{find, longest_end}
use Rattle.std.specs.Fmt.{signed_decimal}
use Rattle.std.specs.declared.cmp.Ordering.{Ordering}
use Rattle.std.specs.declared.cmp.Ordering.TheVariants.{Less, Equal, Greater}
use Rattle.pawk_value.specs.Value.{Val}
use Rattle.pawk_value.specs.Comparison.{comparison}
use Rattle.pawk_value.specs.Format.{pieces_of, text_of_pieces}
use Rattle.pawk_fields.specs.ReadEre.{read_ere}
use Rattle.pawk_fields.specs.FieldList.{fields_of, fields_between}
use Rattle.pawk_code.specs.declared.word.Relation.{Relation}
use Rattle.pawk_code.specs.declared.word.Relation.TheVariants as relation
use Rattle.pawk_code.specs.declared.word.Sign.{Sign}
use Rattle.pawk_code.specs.declared.word.Sign.TheVariants as sign
use Rattle.pawk_code.specs.declared.word.Step.{Step}
use Rattle.pawk_code.specs.declared.word.Step.TheVariants as step
use Rattle.pawk_code.specs.declared.word.Case.{Case}
use Rattle.pawk_code.specs.declared.word.Case.TheVariants as case
use Rattle.pawk_code.specs.declared.word.ReplacedMatches.{ReplacedMatches}
use Rattle.pawk_code.specs.declared.word.ReplacedMatches.TheVariants as count

-- a text that is not too long
abbrev pub within_limit : List ℕ → Result (List ℕ) Fault
within_limit s = if nat_le (length s) length_limit then Ok s else Err fault.Length

-- ---- index

-- whether s begins with t
abbrev pub begins_with : List ℕ → List ℕ → Bool
begins_with [] s = true
begins_with (c ∷ t) [] = false
begins_with (c ∷ t) (b ∷ s) = (c == b) && begins_with t s

-- the place of the first t in s, counted from this one, or 0
abbrev pub index_from : ℕ → List ℕ → List ℕ → ℕ
index_from place [] t = 0
index_from place (b ∷ s) t = if begins_with t (b ∷ s) then place else index_from (suc place) s t

-- the first place of t in s, counted from 1; 0 where it is not there, and for an empty t
abbrev pub index : List ℕ → List ℕ → ℕ
index s [] = 0
index s (c ∷ t) = index_from 1 s (c ∷ t)

-- ---- substr

-- the bytes whose places pass the test, of bytes of which the first has this place
abbrev pub bytes_where : (ℕ → Bool) → ℕ → List ℕ → List ℕ
bytes_where test place [] = []
bytes_where test place (b ∷ s) =
    if test place then b ∷ bytes_where test (suc place) s else bytes_where test (suc place) s

-- ---- tolower, toupper: ASCII letters alone change

abbrev pub lower : ℕ → ℕ
lower b = if nat_le 65 b && nat_le b 90 then b + 32 else b

abbrev pub upper : ℕ → ℕ
upper b = if nat_le 97 b && nat_le b 122 then b - 32 else b

abbrev pub letter_in : Case → ℕ → ℕ
letter_in case.Lower b = lower b
letter_in case.Upper b = upper b

abbrev pub letters_in : Case → List ℕ → List ℕ
letters_in c s = map (letter_in c) s

-- ---- sub, gsub

-- what stands for a match: in a replacement `&` is the match, `\&` an ampersand and `\\` a backslash
abbrev pub replacement : List ℕ → List ℕ → List ℕ
replacement match [] = []
replacement match (b ∷ []) = if b == 38 then match else b ∷ []
replacement match (b ∷ c ∷ r) =
    if b == 38 then match ++ replacement match (c ∷ r)
    else if (b == 92) && ((c == 38) || (c == 92)) then c ∷ replacement match r
    else b ∷ replacement match (c ∷ r)

-- a text with replacements, and how many there are
pub record Replaced : Type 0 where
  pub text : List ℕ
  pub count : ℕ

abbrev pub onto : List ℕ → Replaced → Replaced
onto front r = record { text = front ++ r.text; count = r.count }

abbrev pub one_more : List ℕ → Replaced → Replaced
one_more front r = record { text = front ++ r.text; count = suc r.count }

-- the first match replaced, if there is one
abbrev pub replaced_at : List ℕ → List ℕ → Option (ℕ × ℕ) → Replaced
replaced_at r s None = record { text = s; count = 0 }
replaced_at r s (Some m) =
    record { text = take m.0 s ++ (replacement (slice_range s m.0 m.1) r ++ drop m.1 s); count = 1 }

abbrev pub replace_first : Pattern → List ℕ → List ℕ → Replaced
replace_first e r s = replaced_at r s (find e s 0)

-- All matches replaced from left to right: the text goes on so from this place on, of which n bytes belong to
-- a match already. Where a match that is not empty ended here, an empty one is none.
module _ (e : Regex) (r : List ℕ) where
  -- after the last byte
  abbrev pub replace_end : Bool → Option ℕ → Replaced
  replace_end true end = record { text = []; count = 0 }
  replace_end false None = record { text = []; count = 0 }
  replace_end false (Some end) = record { text = replacement [] r; count = 1 }

  -- at a byte: `keep` goes on after it, `jump` after a match of n bytes
  abbrev pub replace_here : ℕ → Bool → ℕ → List ℕ → Replaced → (ℕ → Replaced) → Option ℕ → Replaced
  replace_here place behind b rest keep jump None = onto (b ∷ []) keep
  replace_here place behind b rest keep jump (Some end) =
      if nat_lt place end
      then one_more (replacement (take (end - place) (b ∷ rest)) r) (jump (end - place - 1))
      else if behind then onto (b ∷ []) keep
      else one_more (replacement [] r ++ b ∷ []) keep

  unfoldable pub replace_from : ℕ → ℕ → Bool → List ℕ → Replaced
  replace_from place skip behind [] = replace_end behind (longest_end e place [])
  replace_from place (suc skip) behind (b ∷ rest) = replace_from (suc place) skip true rest
  replace_from place zero behind (b ∷ rest) =
      replace_here place behind b rest (replace_from (suc place) 0 false rest)
      (λ skip. replace_from (suc place) skip true rest) (longest_end e place (b ∷ rest))

abbrev pub replaced : ReplacedMatches → Pattern → List ℕ → List ℕ → Replaced
replaced count.First e r s = replace_first e r s
replaced count.All e r s = replace_from (expand e) r 0 0 false s

-- ---- texts with a separator between

abbrev pub joined_after : List ℕ → List (List ℕ) → List ℕ
joined_after separator [] = []
joined_after separator (t ∷ ts) = separator ++ (t ++ joined_after separator ts)

abbrev pub joined_by : List ℕ → List (List ℕ) → List ℕ
joined_by separator [] = []
joined_by separator (t ∷ ts) = t ++ joined_after separator ts

-- ---- split

abbrev pub pieces_at : List ℕ → Result (List (ℕ × ℕ)) Fault → Result (List (List ℕ)) Fault
pieces_at s (Err f) = Err f
pieces_at s (Ok ranges) = Ok (map (λ (r : ℕ × ℕ). slice_range s r.0 r.1) ranges)

-- the pieces of a text as fields by an FS are cut, never at the newlines of paragraphs
abbrev pub pieces_by : List ℕ → List ℕ → Result (List (List ℕ)) Fault
pieces_by fs s = pieces_at s (fields_of fs false s)

-- the pieces between the matches of an expression that are not empty; an empty text has none
abbrev pub pieces_between : Result Pattern Fault → List ℕ → Result (List (List ℕ)) Fault
pieces_between (Err f) s = Err f
pieces_between (Ok e) [] = Ok []
pieces_between (Ok e) (b ∷ s) = pieces_at (b ∷ s) (fields_between (Some e) false (b ∷ s))

-- ---- expressions

abbrev pub pattern_or_fault : Option Pattern → Result Pattern Fault
pattern_or_fault None = Err fault.Ere
pattern_or_fault (Some e) = Ok e

-- the expression that a text spells
abbrev pub pattern_of_text : List ℕ → Result Pattern Fault
pattern_of_text s = pattern_or_fault (read_ere s)

abbrev pub pattern_at : Option (List ℕ) → Result Pattern Fault
pattern_at None = Err fault.Ere
pattern_at (Some s) = pattern_of_text s

-- the expression of this number, of the texts between slashes
abbrev pub fixed_at : List (List ℕ) → ℕ → Result Pattern Fault
fixed_at eres n = pattern_at (slice_get eres n)

-- what is found of an expression in a text, and the text with its matches replaced; or the fault of the expression
abbrev pub found_by : Result Pattern Fault → List ℕ → Result (Option (ℕ × ℕ)) Fault
found_by (Err f) s = Err f
found_by (Ok e) s = Ok (find e s 0)

abbrev pub replaced_by : ReplacedMatches → Result Pattern Fault → List ℕ → List ℕ → Result Replaced Fault
replaced_by c (Err f) r s = Err f
replaced_by c (Ok e) r s = Ok (replaced c e r s)

-- ---- operators

abbrev pub sign_of : Step → Sign
sign_of step.IncrementBefore = sign.Plus
sign_of step.DecrementBefore = sign.Minus
sign_of step.IncrementAfter = sign.Plus
sign_of step.DecrementAfter = sign.Minus

-- of the old and the new value the one that the step gives
abbrev pub side_of : Step → ℤ × ℤ → ℤ
side_of step.IncrementBefore z = z.1
side_of step.DecrementBefore z = z.1
side_of step.IncrementAfter z = z.0
side_of step.DecrementAfter z = z.0

abbrev pub holds_for : Relation → Ordering → Bool
holds_for relation.Less Less = true
holds_for relation.Less Equal = false
holds_for relation.Less Greater = false
holds_for relation.LessEqual Less = true
holds_for relation.LessEqual Equal = true
holds_for relation.LessEqual Greater = false
holds_for relation.Equal Less = false
holds_for relation.Equal Equal = true
holds_for relation.Equal Greater = false
holds_for relation.NotEqual Less = true
holds_for relation.NotEqual Equal = false
holds_for relation.NotEqual Greater = true
holds_for relation.Greater Less = false
holds_for relation.Greater Equal = false
holds_for relation.Greater Greater = true
holds_for relation.GreaterEqual Less = false
holds_for relation.GreaterEqual Equal = true
holds_for relation.GreaterEqual Greater = true

abbrev pub holds_by : Relation → Result Ordering Fault → Result Bool Fault
holds_by r (Err f) = Err f
holds_by r (Ok o) = Ok (holds_for r o)

abbrev pub related : Relation → Val → Val → Result Bool Fault
related r x y = holds_by r (comparison x y)

-- whether a match is wanted, or none
abbrev pub same_truth : Bool → Bool → Bool
same_truth true found = found
same_truth false found = not found

abbrev pub formatted_text : List ℕ → List Val → Result (List ℕ) Fault
formatted_text format vs = text_of_pieces (pieces_of format) vs []

abbrev pub decimal : ℕ → List ℕ
decimal n = signed_decimal (pos n)

-- the places of a text from one number on, as many as another says
abbrev pub is_from : ℤ → ℤ → ℕ → Bool
is_from from count place = int_le from (pos place) && int_lt (pos place) (from +ℤ count)
