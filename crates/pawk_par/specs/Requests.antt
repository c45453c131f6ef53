-- Requests that are accepted, and why others are not.
use Rattle.std.specs.Prelude.{◌≡◌, ◌≢◌, ℕ, List, map, Some, None}
use Rattle.pawk_lex.specs.Bytes.{Text}
use Rattle.pawk_lex.specs.declared.refusal.SyntaxRefusal.TheVariants as syntax_refusal
use Rattle.pawk_lex.specs.Cut.{Cut}
use Rattle.pawk_syntax_tree.specs.Item.{Part}
use Rattle.pawk_syntax_tree.specs.ItemCanonical.{canon_program}
use Rattle.pawk_syntax_check.specs.Demands.{Kinds, AreKindsOf}
use Rattle.pawk_syntax.specs.Spells.{Spells}
use Rattle.pawk_settings.specs.declared.refusal.SettingsRefusal.{SettingsRefusal}
use Rattle.pawk_settings.specs.declared.refusal.SettingsRefusal.TheVariants as settings_refusal
use Rattle.pawk_settings.specs.Assignments.{is_no_target, settings_fault}
use Rattle.pawk_settings.specs.SettingsViews.{asked, asked_texts}
use Rattle.pawk_code.specs.Programs.{Code}
use Rattle.pawk_resolve_program.specs.Codes.{IsCodeOf}
use Rattle.pawk_par.specs.declared.request.Request.{Request}
use Rattle.pawk_par.specs.declared.refusal.StreamRefusal.{StreamRefusal}
use Rattle.pawk_par.specs.declared.refusal.StreamRefusal.TheVariants as refusal

-- the names that are asked for, each with what its value stands for
abbrev pub AreMade : List (Text × Text) → List (Text × Text) → Type 0
AreMade assigned made = map (λ a. (a.0, Some a.1)) made ≡ asked_texts assigned

-- nothing refuses these settings of a program, whatever the kinds of its names are, and by them these assignments are made
abbrev pub AreSettings : List Part → List (Text × Text) → ℕ → List (Text × Text) → Type 0
AreSettings program assigned budget made =
    (k : Kinds) → AreKindsOf program k → (settings_fault (is_no_target k program) assigned budget ≡ None) × AreMade assigned made

-- the text of a request is a program's, whose code this is, and its settings are accepted, by which these assignments are made
pub record IsAccepted (wanted : Request) (code : Code) (assignments : List (Text × Text)) : Type 0 where
  pub program : List Part
  pub spells : Spells wanted.text.now program
  pub coded : IsCodeOf program code
  pub settings : AreSettings program (asked wanted.assigns.now) wanted.budget assignments

-- the text has the tokens of the canonical text of a program that some text spells
abbrev pub IsCanonical : Text → Type 0
IsCanonical text = (other : Text) × (program : List Part) × Spells other program × Cut text (canon_program program)

-- why a text is not read
abbrev pub WhyNoProgram : Text → StreamRefusal → Type 0
WhyNoProgram text refusal.Memory = Unit {0}
WhyNoProgram text refusal.Thread = ⊥
WhyNoProgram text refusal.Cutting = ⊥
WhyNoProgram text (refusal.Program why) = (why ≢ syntax_refusal.Memory) × ¬ IsCanonical text
WhyNoProgram text (refusal.Settings why) = ⊥
WhyNoProgram text refusal.Read = ⊥
WhyNoProgram text (refusal.Write count) = ⊥
WhyNoProgram text refusal.Input = ⊥

-- this refuses the settings of a program, whatever the kinds of its names are
abbrev pub AreRefused : List Part → List (Text × Text) → ℕ → SettingsRefusal → Type 0
AreRefused program assigned budget why =
    (why ≢ settings_refusal.Memory)
    × ((k : Kinds) → AreKindsOf program k → settings_fault (is_no_target k program) assigned budget ≡ Some why)

-- why the settings of a program are not accepted
abbrev pub WhyNoSettings : List Part → List (Text × Text) → ℕ → StreamRefusal → Type 0
WhyNoSettings program assigned budget refusal.Memory = Unit {0}
WhyNoSettings program assigned budget refusal.Thread = ⊥
WhyNoSettings program assigned budget refusal.Cutting = ⊥
WhyNoSettings program assigned budget (refusal.Program why) = ⊥
WhyNoSettings program assigned budget (refusal.Settings why) = AreRefused program assigned budget why
WhyNoSettings program assigned budget refusal.Read = ⊥
WhyNoSettings program assigned budget (refusal.Write count) = ⊥
WhyNoSettings program assigned budget refusal.Input = ⊥

-- the text of a request is a program's, whose settings are refused
abbrev pub HasNoSettings : Request → SettingsRefusal → Type 0
HasNoSettings wanted why =
    (program : List Part) × Spells wanted.text.now program × AreRefused program (asked wanted.assigns.now) wanted.budget why

-- why a request is not accepted, by its text and its settings alone
abbrev pub WhyUnaccepted : Request → StreamRefusal → Type 0
WhyUnaccepted wanted refusal.Memory = Unit {0}
WhyUnaccepted wanted refusal.Thread = ⊥
WhyUnaccepted wanted refusal.Cutting = ⊥
WhyUnaccepted wanted (refusal.Program why) = (why ≢ syntax_refusal.Memory) × ¬ IsCanonical wanted.text.now
WhyUnaccepted wanted (refusal.Settings why) = HasNoSettings wanted why
WhyUnaccepted wanted refusal.Read = ⊥
WhyUnaccepted wanted (refusal.Write count) = ⊥
WhyUnaccepted wanted refusal.Input = ⊥
