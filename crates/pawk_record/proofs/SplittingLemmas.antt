-- The fields by a splitter are those of the definition.
use Rattle.std.proofs.Common.{◌≡◌, ℕ, ◌≤◌, arith, Bool, List, [], ◌∷◌, ◌++◌, length, map, Option, Some, None, Ok, Err, refl, sym, ap, ◌∙◌, subst, false, length-append}
use Rattle.std.specs.declared.ops.Range.{Range}
use Rattle.std.specs.Prelude.{is_none}
use Rattle.pawk_value.specs.Value.{Maybe}
use Rattle.pawk_value.specs.declared.faults.Fault.{Fault}
use Rattle.pawk_value.specs.declared.faults.Stop.{Stop}
use Rattle.pawk_value.specs.declared.faults.Stop.TheVariants as stops
use Rattle.pawk_ere_automaton.specs.Regex.{Regex}
use Rattle.pawk_fields.specs.FieldSeparator.{range_of, ranges_by, ranges_from}
use Rattle.pawk_fields.specs.declared.separator.FieldSeparator.{FieldSeparator}
use Rattle.pawk_fields.specs.declared.separator.FieldSeparator.TheVariants.{Blanks, Byte, ByteOrNewline}
use Rattle.pawk_fields.specs.FieldsOf.{AddsFields, IfFault, IsFaultOf}
use Rattle.pawk_fields.specs.FieldList.{fields_between, fields_of}
use Rattle.pawk_fields.specs.ReadEre.{read_ere}
use Rattle.pawk_fields.proofs.ReadLemmas.{read_law_lem}
use Rattle.pawk_fields.proofs.FieldLemmas.{fields_law_lem}
use Rattle.pawk_record.specs.declared.splitter.By.{By}
use Rattle.pawk_record.specs.declared.splitter.By.TheVariants.{Plain, Expression, Bad}
use Rattle.pawk_record.specs.declared.splitter.Splitter.{Splitter}
use Rattle.pawk_record.specs.Lines.{bytes_in, values}
use Rattle.pawk_record.specs.Records.{Record, candidate, read}
use Rattle.pawk_record.specs.Splitting.{IsBy, IsSplitter, first_place, left, ranges_left, ranges_or_none}

-- an empty record has no fields
no_fields : (fs : List ℕ) (paragraph : Bool) → fields_of fs paragraph [] ≡ Ok []
unfolding fields_of
no_fields [] paragraph = refl
no_fields (c ∷ []) paragraph = refl
no_fields (c ∷ d ∷ fs) paragraph = refl

pub empty_left : (s : Splitter) (text : List ℕ) → text ≡ [] → fields_of s.fs.items s.paragraph text ≡ Ok (left s text (first_place text))
unfolding left
empty_left s text h =
    let P : List ℕ → Type 0 = λ t. fields_of s.fs.items s.paragraph t ≡ Ok (ranges_left s.fs.items s.paragraph s.by t (first_place t)) in
    subst P (sym h) (no_fields s.fs.items s.paragraph)

plain_left : (fs : List ℕ) (paragraph : Bool) (separator : FieldSeparator) (text : List ℕ) → IsBy fs paragraph (Plain separator) → (text ≡ [] → ⊥) → fields_of fs paragraph text ≡ Ok (ranges_left fs paragraph (Plain separator) text (first_place text))
unfolding fields_of
plain_left fs paragraph separator [] by some = absurd (some refl)
plain_left [] paragraph separator (b ∷ s) by some = absurd by
plain_left (c ∷ []) paragraph separator (b ∷ s) by some = ap (λ x. Ok (ranges_by x (b ∷ s))) (sym by)
plain_left (c ∷ d ∷ fs) paragraph separator (b ∷ s) by some = absurd by

expression_left : (fs : List ℕ) (paragraph : Bool) (matcher : Regex) (text : List ℕ) → IsBy fs paragraph (Expression matcher) → (text ≡ [] → ⊥) → fields_of fs paragraph text ≡ Ok (ranges_or_none (fields_of fs paragraph text))
unfolding fields_of
expression_left fs paragraph matcher [] by some = absurd (some refl)
expression_left [] paragraph matcher (b ∷ s) by some = absurd by
expression_left (c ∷ []) paragraph matcher (b ∷ s) by some = absurd by
expression_left (c ∷ d ∷ fs) paragraph matcher (b ∷ s) by some =
    let read : read_ere (c ∷ d ∷ fs) ≡ Some by.pattern = ((read_law_lem (c ∷ d ∷ fs)).some by.pattern).1 by.spelled in
    let found : fields_of (c ∷ d ∷ fs) paragraph (b ∷ s) ≡ fields_between (Some by.pattern) paragraph (b ∷ s) = ap (λ o. fields_between o paragraph (b ∷ s)) read in
    found ∙ ap (λ r. Ok (ranges_or_none r)) (sym found)

pub text_first : (text : List ℕ) → (text ≡ [] → ⊥) → first_place text ≡ Some 0
text_first [] some = absurd (some refl)
text_first (b ∷ s) some = refl

pub plain_is_left : (s : Splitter) (text : List ℕ) (separator : FieldSeparator) → s.by ≡ Plain separator → IsSplitter s → (text ≡ [] → ⊥) → fields_of s.fs.items s.paragraph text ≡ Ok (left s text (first_place text))
unfolding left
plain_is_left s text separator is whole some =
    plain_left s.fs.items s.paragraph separator text (subst (IsBy s.fs.items s.paragraph) is whole.right) some
    ∙ ap (λ by. Ok (ranges_left s.fs.items s.paragraph by text (first_place text))) (sym is)

pub expression_is_left : (s : Splitter) (text : List ℕ) (matcher : Regex) → s.by ≡ Expression matcher → IsSplitter s → (text ≡ [] → ⊥) → fields_of s.fs.items s.paragraph text ≡ Ok (left s text (first_place text))
unfolding left
expression_is_left s text matcher is whole some =
    expression_left s.fs.items s.paragraph matcher text (subst (IsBy s.fs.items s.paragraph) is whole.right) some
    ∙ ap (λ o. Ok (ranges_left s.fs.items s.paragraph (Expression matcher) text o)) (sym (text_first text some))
    ∙ ap (λ by. Ok (ranges_left s.fs.items s.paragraph by text (first_place text))) (sym is)

bad_fault : (fs : List ℕ) (paragraph : Bool) (fault : Fault) (text : List ℕ) → IsBy fs paragraph (Bad fault) → (text ≡ [] → ⊥) → IsFaultOf fs text fault
bad_fault fs paragraph fault [] by some = absurd (some refl)
bad_fault [] paragraph fault (b ∷ s) by some = by
bad_fault (c ∷ []) paragraph fault (b ∷ s) by some = absurd by
bad_fault (c ∷ d ∷ fs) paragraph fault (b ∷ s) by some = by

pub bad_is_fault : (s : Splitter) (text : List ℕ) (fault : Fault) → s.by ≡ Bad fault → IsSplitter s → (text ≡ [] → ⊥) → fields_of s.fs.items s.paragraph text ≡ Err fault
bad_is_fault s text fault is whole some =
    ((fields_law_lem s.fs.items s.paragraph text).fault fault).1 (bad_fault s.fs.items s.paragraph fault text (subst (IsBy s.fs.items s.paragraph) is whole.right) some)

-- what was added is what the definition gives
pub added_all : (fs : List ℕ) (paragraph : Bool) (s : List ℕ) (old new : List (Range ℕ)) → AddsFields fs paragraph s old new → new ≡ old ++ map range_of (ranges_or_none (fields_of fs paragraph s))
added_all fs paragraph s old new a =
    let same = ((fields_law_lem fs paragraph s).fields a.fields).1 a.right in
    a.added ∙ ap (λ r. old ++ map range_of (ranges_or_none r)) (sym same)

-- what is longer by some is no shorter
pub longer : (old new more : List (Range ℕ)) → new ≡ old ++ more → length old ≤ length new
longer old new more h = omega (arith, length-append old more, ap length h)

-- ---- what is left

pub left_none : (s : Splitter) (text : List ℕ) → left s text None ≡ []
unfolding left
left_none s text = go s.by
  where
    go : (by : By) → ranges_left s.fs.items s.paragraph by text None ≡ []
    go (Plain separator) = refl
    go (Expression matcher) = refl
    go (Bad fault) = refl

from_none : (separator : FieldSeparator) (text : List ℕ) → ranges_from separator text None ≡ []
from_none Blanks text = refl
from_none (Byte b) text = refl
from_none (ByteOrNewline b) text = refl

pub left_plain : (s : Splitter) (separator : FieldSeparator) (text : List ℕ) (next : Option ℕ) → s.by ≡ Plain separator → left s text next ≡ ranges_from separator text next
unfolding left
left_plain s separator text next is = ap (λ by. ranges_left s.fs.items s.paragraph by text next) is ∙ go next
  where
    go : (next : Option ℕ) → ranges_left s.fs.items s.paragraph (Plain separator) text next ≡ ranges_from separator text next
    go None = sym (from_none separator text)
    go (Some place) = refl

pub left_expression : (s : Splitter) (matcher : Regex) (text : List ℕ) (next : Option ℕ) → s.by ≡ Expression matcher → is_none next ≡ false → left s text next ≡ ranges_or_none (fields_of s.fs.items s.paragraph text)
unfolding left
left_expression s matcher text next is some = ap (λ by. ranges_left s.fs.items s.paragraph by text next) is ∙ go next some
  where
    go : (next : Option ℕ) → is_none next ≡ false → ranges_left s.fs.items s.paragraph (Expression matcher) text next ≡ ranges_or_none (fields_of s.fs.items s.paragraph text)
    go None some = absurd cc
    go (Some place) some = refl

pub left_bad : (s : Splitter) (fault : Fault) (text : List ℕ) (next : Option ℕ) → s.by ≡ Bad fault → left s text next ≡ []
unfolding left
left_bad s fault text next is = ap (λ by. ranges_left s.fs.items s.paragraph by text next) is ∙ go next
  where
    go : (next : Option ℕ) → ranges_left s.fs.items s.paragraph (Bad fault) text next ≡ []
    go None = refl
    go (Some place) = refl

-- ---- candidates

pub candidates : (text : List ℕ) (fields : List (ℕ × ℕ)) → values text (map range_of fields) [] ≡ map (candidate text) fields
unfolding values
candidates text [] = refl
candidates text (f ∷ fs) = ap (λ vs. Maybe (bytes_in text (range_of f)) ∷ vs) (candidates text fs)

-- the record of fields that were found
pub record_read : (fs : List ℕ) (paragraph : Bool) (text : List ℕ) (fields : List (ℕ × ℕ)) → fields_of fs paragraph text ≡ Ok fields → read fs paragraph text ≡ (record { text = text; fields = values text (map range_of fields) [] }, None)
record_read fs paragraph text fields h =
    ap (λ r. Rattle.pawk_record.specs.Records.record_or_fault text r) h ∙ ap (λ vs. (record { text = text; fields = vs }, None)) (sym (candidates text fields))

-- ---- faults

-- what follows of a fault holds of a stop
pub fault_map : (stop : Stop) (P Q : Fault → Type 0) → ((fault : Fault) → P fault → Q fault) → IfFault stop P → IfFault stop Q
fault_map (stops.Fault fault) P Q f h = f fault h
fault_map stops.Memory P Q f h = tt
