-- Answers for settings.
use Rattle.std.proofs.Common.{◌≡◌, ℕ, Bool, true, false, List, Option, Some, None, refl, sym, ◌∙◌, ap, subst}
use Rattle.std.specs.Prelude.{◌||◌, ◌&&◌, nat_le, is_some, Result}
use Rattle.pawk_lex.specs.Bytes.{Text}
use Rattle.pawk_lex.specs.Vocabulary.{is_run_variable}
use Rattle.pawk_syntax_tree.specs.Item.{Part}
use Rattle.pawk_syntax_check.specs.Functions.{function_of, or_else}
use Rattle.pawk_syntax_check.specs.FunctionViews.{function_under}
use Rattle.pawk_syntax_check.specs.declared.functions.Functions.{Functions}
use Rattle.pawk_syntax_check.specs.declared.kinds.Kinds.{Kinds as CodeKinds}
use Rattle.pawk_syntax_check.specs.Demands.{Kinds, KindsFit, AreKindsOf}
use Rattle.pawk_syntax_check.specs.KindViews.{kinds_in}
use Rattle.pawk_settings.specs.declared.refusal.SettingsRefusal.{SettingsRefusal}
use Rattle.pawk_settings.specs.declared.refusal.SettingsRefusal.TheVariants.{Budget}
use Rattle.pawk_settings.specs.declared.settings.Settings.{Settings}
use Rattle.pawk_settings.specs.Limits.{budget_limit}
use Rattle.pawk_settings.specs.Assignments.{is_word, is_no_target, first_fault, budget_fault, settings_fault}
use Rattle.pawk_settings.specs.SettingsViews.{IsAnswer, IsAnswerBy, is_refused_under}

alike : (a b : Bool) → (a ≡ true → b ≡ true) → (b ≡ true → a ≡ true) → a ≡ b
alike true b f g = sym (f refl)
alike false true f g = g refl
alike false false f g = refl

-- the tables of the code refuse what the program's kinds of names and functions do
pub same_test : (kinds : CodeKinds) (functions : Functions) (ps : List Part) (k : Kinds) →
    ((x : Text) → function_under functions x ≡ function_of ps x) → (KindsFit ps → AreKindsOf ps (kinds_in kinds)) → AreKindsOf ps k →
    is_refused_under kinds functions ≡ is_no_target k ps
same_test kinds functions ps k same found are =
    let own = found (k, are.kinds) in
    let kind : (x : Text) → kinds_in kinds (0, x) ≡ k (0, x) = λ x.
    alike (kinds_in kinds (0, x)) (k (0, x)) (own.least k are.kinds (0, x)) (are.least (kinds_in kinds) own.kinds (0, x)) in
    λ i x. is_run_variable x || is_word x || kind x i || is_some (same x i)

-- so an answer by the tables is the answer
pub answer_by : (kinds : CodeKinds) (functions : Functions) (ps : List Part) (assigned : List (Text × Text)) (n : ℕ) (r : Result Settings SettingsRefusal) →
    ((x : Text) → function_under functions x ≡ function_of ps x) → (KindsFit ps → AreKindsOf ps (kinds_in kinds)) →
    IsAnswerBy (is_refused_under kinds functions) assigned n r → IsAnswer ps assigned n r
answer_by kinds functions ps assigned n r same found h = λ k are.
    let P : (Text → Bool) → Type 0 = λ t. IsAnswerBy t assigned n r in
    subst P (same_test kinds functions ps k same found are) h

pub fault_first : (t : Text → Bool) (assigned : List (Text × Text)) (n : ℕ) (e : SettingsRefusal) →
    first_fault t assigned ≡ Some e → settings_fault t assigned n ≡ Some e
fault_first t assigned n e h = ap (λ o. or_else o (budget_fault n)) h

pub fault_last : (t : Text → Bool) (assigned : List (Text × Text)) (n : ℕ) (o : Option SettingsRefusal) →
    first_fault t assigned ≡ None → budget_fault n ≡ o → settings_fault t assigned n ≡ o
fault_last t assigned n o h e = ap (λ f. or_else f (budget_fault n)) h ∙ e

pub budget_refused : (n : ℕ) (b : Bool) → b ≡ (nat_le 1 n && nat_le n budget_limit) → b ≡ false → budget_fault n ≡ Some Budget
budget_refused n b e f = rw (sym e ∙ f) refl

pub budget_accepted : (n : ℕ) (b : Bool) → b ≡ (nat_le 1 n && nat_le n budget_limit) → b ≡ true → budget_fault n ≡ None
budget_accepted n b e f = rw (sym e ∙ f) refl
