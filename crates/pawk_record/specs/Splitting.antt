-- What separates the fields of a record, and which of them are left.
use Rattle.std.specs.Prelude.{◌≡◌, ℕ, Bool, List, [], ◌∷◌, Option, Some, None, Result, Ok, Err}
use Rattle.pawk_value.specs.declared.faults.Fault.{Fault}
use Rattle.pawk_value.specs.declared.faults.Fault.TheVariants.{Fs, Ere}
use Rattle.pawk_ere_syntax.specs.Tokens.{SpellsNone}
use Rattle.pawk_ere.specs.Caches.{IsOfText}
use Rattle.pawk_fields.specs.FieldSeparator.{ranges_from}
use Rattle.pawk_fields.specs.FieldsOf.{separator_of}
use Rattle.pawk_fields.specs.FieldList.{fields_of}
use Rattle.pawk_record.specs.declared.splitter.By.{By}
use Rattle.pawk_record.specs.declared.splitter.By.TheVariants.{Plain, Expression, Bad}
use Rattle.pawk_record.specs.declared.splitter.Splitter.{Splitter}

abbrev pub ranges_or_none : Result (List (ℕ × ℕ)) Fault → List (ℕ × ℕ)
ranges_or_none (Ok ranges) = ranges
ranges_or_none (Err fault) = []

-- the fields by what separates from a place on; an expression is asked for all of them at once
abbrev pub ranges_left : List ℕ → Bool → By → List ℕ → Option ℕ → List (ℕ × ℕ)
ranges_left fs paragraph by text None = []
ranges_left fs paragraph (Plain separator) text (Some place) = ranges_from separator text (Some place)
ranges_left fs paragraph (Expression matcher) text (Some place) = ranges_or_none (fields_of fs paragraph text)
ranges_left fs paragraph (Bad fault) text (Some place) = []

-- the fields that are left of a record, where the next one is looked for from a place on
unfoldable pub left : Splitter → List ℕ → Option ℕ → List (ℕ × ℕ)
left splitter text next = ranges_left splitter.fs.items splitter.paragraph splitter.by text next

-- where the first field of a record is looked for; an empty one has none
abbrev pub first_place : List ℕ → Option ℕ
first_place [] = None
first_place (b ∷ s) = Some 0

-- this is what separates by an FS
abbrev pub IsBy : List ℕ → Bool → By → Type 0
IsBy [] paragraph (Bad fault) = fault ≡ Fs
IsBy (c ∷ []) paragraph (Plain separator) = separator ≡ separator_of c paragraph
IsBy (c ∷ d ∷ fs) paragraph (Expression matcher) = IsOfText (c ∷ d ∷ fs) matcher
IsBy (c ∷ d ∷ fs) paragraph (Bad fault) = (fault ≡ Ere) × SpellsNone (c ∷ d ∷ fs)
IsBy fs paragraph by = ⊥

-- a splitter is one of its FS
pub record IsSplitter (splitter : Splitter) : Type 0 where
  pub right : IsBy splitter.fs.items splitter.paragraph splitter.by
