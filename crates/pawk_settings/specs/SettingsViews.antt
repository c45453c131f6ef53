-- Settings of the code.
use Rattle.std.specs.Prelude.{◌≡◌, ◌≢◌, ℕ, List, map, Option, Some, None, Result, MatchResult, Vec, Bool, ◌||◌, is_some}
use Rattle.std.proofs.Common.{Global}
use Rattle.pawk_lex.specs.Bytes.{Text}
use Rattle.pawk_syntax_tree.specs.Item.{Part}
use Rattle.pawk_lex.specs.Vocabulary.{is_run_variable}
use Rattle.pawk_syntax_check.specs.declared.functions.Functions.{Functions}
use Rattle.pawk_syntax_check.specs.FunctionViews.{function_under}
use Rattle.pawk_syntax_check.specs.declared.kinds.Kinds.{Kinds as CodeKinds}
use Rattle.pawk_syntax_check.specs.Demands.{Kinds, AreKindsOf}
use Rattle.pawk_syntax_check.specs.KindViews.{kinds_in}
use Rattle.pawk_settings.specs.declared.refusal.SettingsRefusal.{SettingsRefusal}
use Rattle.pawk_settings.specs.declared.refusal.SettingsRefusal.TheVariants.{Memory}
use Rattle.pawk_settings.specs.declared.assignment.Assignment.{Assignment}
use Rattle.pawk_settings.specs.declared.settings.Settings.{Settings}
use Rattle.pawk_settings.specs.Escapes.{value_text}
use Rattle.pawk_settings.specs.Assignments.{is_word, is_no_target, assignment_fault, first_fault, settings_fault}

-- what is asked for: names, and what they are given
abbrev pub asked : List (Vec ℕ Global × Vec ℕ Global) → List (Text × Text)
asked xs = map (λ a. (a.0.items, a.1.items)) xs

-- names with what they stand for
abbrev pub accepted_texts : List Assignment → List (Text × Option Text)
accepted_texts xs = map (λ s. (s.name.items, Some s.value.items)) xs

abbrev pub asked_texts : List (Text × Text) → List (Text × Option Text)
asked_texts xs = map (λ a. (a.0, value_text a.1)) xs

-- these settings are those that are asked for, in their order
pub record AreAsked (assigned : List (Text × Text)) (n : ℕ) (s : Settings) : Type 0 where
  pub assignments : accepted_texts s.assignments.items ≡ asked_texts assigned
  pub budget : s.budget ≡ n

-- settings are accepted exactly where nothing refuses them, and then are what is asked for; otherwise the first fault
-- is reported, or out of memory
abbrev pub IsAnswerBy : (Text → Bool) → List (Text × Text) → ℕ → Result Settings SettingsRefusal → Type 0
IsAnswerBy is_refused assigned n r =
    MatchResult r (λ s. (settings_fault is_refused assigned n ≡ None) × AreAsked assigned n s)
    (λ e. e ≢ Memory → settings_fault is_refused assigned n ≡ Some e)

-- the same for a program, whatever its kinds of names are
abbrev pub IsAnswer : List Part → List (Text × Text) → ℕ → Result Settings SettingsRefusal → Type 0
IsAnswer ps assigned n r = (k : Kinds) → AreKindsOf ps k → IsAnswerBy (is_no_target k ps) assigned n r

-- what may not be assigned, by the tables of the code
abbrev pub is_refused_under : CodeKinds → Functions → Text → Bool
is_refused_under kinds functions x = is_run_variable x || is_word x || kinds_in kinds (0, x) || is_some (function_under functions x)

-- the answer for one assignment
abbrev pub IsReading : (Text → Bool) → Text × Text → Result Assignment SettingsRefusal → Type 0
IsReading is_refused a r =
    MatchResult r (λ s. (assignment_fault is_refused a ≡ None) × (s.name.items ≡ a.0) × (value_text a.1 ≡ Some s.value.items))
    (λ e. e ≢ Memory → assignment_fault is_refused a ≡ Some e)

-- the answer for all assignments
abbrev pub AreReadings : (Text → Bool) → List (Text × Text) → Result (Vec Assignment Global) SettingsRefusal → Type 0
AreReadings is_refused assigned r =
    MatchResult r (λ v. (first_fault is_refused assigned ≡ None) × (accepted_texts v.items ≡ asked_texts assigned))
    (λ e. e ≢ Memory → first_fault is_refused assigned ≡ Some e)
