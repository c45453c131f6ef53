-- For which cause a bracket expression is refused: XBD 9.3.5, RE Bracket Expression; awk, "Escape Sequences in awk".
use Rattle.std.specs.Prelude.{◌≡◌, ℕ, ◌<◌, ◌⊎◌, Bool, true, false, List, [], ◌∷◌, ◌++◌, drop, if◌then◌else◌}
use Rattle.pawk_ere_syntax.specs.declared.bracket.BracketItem.{BracketItem}
use Rattle.pawk_ere_syntax.specs.declared.class.Class.{Class}
use Rattle.pawk_ere_syntax.specs.declared.refusal.EreRefusal.{EreRefusal}
use Rattle.pawk_ere_syntax.specs.declared.refusal.EreRefusal.TheVariants.{Bracket, Escape}
use Rattle.pawk_ere_syntax.specs.Brackets.{begins}
use Rattle.pawk_ere_syntax.specs.Items.{IsItem, IsPoint, class_text, ends, opens}
use Rattle.pawk_ere_syntax.specs.Numerals.{IsEscape}

-- the text begins with these items, up to no `]` that ends them, and the rest follows. Its next item is the first, or is not
abbrev pub ItemsBefore : Bool → List ℕ → List BracketItem → Bool → List ℕ → Type 0
ItemsBefore first bytes [] next_is_first rest = (first ≡ next_is_first) × (bytes ≡ rest)
ItemsBefore first bytes (i ∷ is) next_is_first rest =
    (ends first bytes ≡ false) × (more : List ℕ) × IsItem first bytes i more × ItemsBefore false more is next_is_first rest

-- a backslash that begins no escape
abbrev pub IsBareBackslash : List ℕ → Type 0
IsBareBackslash bytes = (more : List ℕ) × (bytes ≡ 92 ∷ more) × ((byte : ℕ) (rest : List ℕ) → IsEscape more byte rest → ⊥)

-- no point and no backslash is there: the text is over, or a class or the like begins
abbrev pub IsNoPoint : List ℕ → Type 0
IsNoPoint bytes = (bytes ≡ []) ⊎ ((more : List ℕ) × (bytes ≡ 91 ∷ more) × (opens more ≡ true))

-- the text begins with a point and a `-` after it that makes a range
abbrev pub BeginsRange : Bool → List ℕ → ℕ → List ℕ → Type 0
BeginsRange first bytes low behind =
    ((first ≡ true) ⊎ (begins 45 bytes ≡ false)) × IsPoint bytes low (45 ∷ behind) × (begins 93 behind ≡ false)

-- a range from this point has no end, or one below it
abbrev pub EndsBadly : ℕ → List ℕ → Type 0
EndsBadly low behind = IsNoPoint behind ⊎ ((high : ℕ) × (rest : List ℕ) × IsPoint behind high rest × (high < low))

-- a backslash that begins no escape stands as an item, or as the end of a range
abbrev pub LacksEscape : Bool → List ℕ → Type 0
LacksEscape first bytes =
    IsBareBackslash bytes ⊎ ((low : ℕ) × (behind : List ℕ) × BeginsRange first bytes low behind × IsBareBackslash behind)

-- there is no item: the text is over before the `]`; `[:` begins no class; `[.` and `[=` begin what the POSIX locale
-- has no use for; a `-` is neither first nor last, nor in a range; or a range ends badly
abbrev pub LacksItem : Bool → List ℕ → Type 0
LacksItem first bytes =
    (bytes ≡ [])
    ⊎ ((more : List ℕ) × (bytes ≡ 91 ∷ 58 ∷ more) × ((c : Class) (rest : List ℕ) → bytes ≡ class_text c ++ rest → ⊥))
    ⊎ ((more : List ℕ) × ((bytes ≡ 91 ∷ 46 ∷ more) ⊎ (bytes ≡ 91 ∷ 61 ∷ more)))
    ⊎ ((first ≡ false) × (more : List ℕ) × (bytes ≡ 45 ∷ more) × (begins 93 more ≡ false))
    ⊎ ((low : ℕ) × (behind : List ℕ) × BeginsRange first bytes low behind × EndsBadly low behind)

abbrev pub IsItemCause : Bool → List ℕ → EreRefusal → Type 0
IsItemCause first bytes why = (LacksEscape first bytes × (why ≡ Escape)) ⊎ (LacksItem first bytes × (why ≡ Bracket))

-- what is after `[` and a `^` at once
abbrev pub after_caret : List ℕ → List ℕ
after_caret bytes = if begins 94 bytes then drop 1 bytes else bytes

-- what is after `[` begins with items, and where the next should be, or the `]`, is neither, for this cause
abbrev pub IsBracketCause : List ℕ → EreRefusal → Type 0
IsBracketCause bytes why =
    (is : List BracketItem) × (first : Bool) × (rest : List ℕ) × ItemsBefore true (after_caret bytes) is first rest
    × (ends first rest ≡ false) × IsItemCause first rest why
