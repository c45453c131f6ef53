-- The settings of a program.
use Rattle.std.proofs.Common.{◌≡◌, ℕ, List, [], ◌∷◌, Ok, Some, map, refl, ap, subst, ◌∙◌}
use Rattle.pawk_lex.specs.Bytes.{Text}
use Rattle.pawk_syntax_tree.specs.Item.{Part}
use Rattle.pawk_settings.specs.declared.assignment.Assignment.{Assignment}
use Rattle.pawk_settings.specs.declared.settings.Settings.{Settings}
use Rattle.pawk_settings.specs.SettingsViews.{IsAnswer, accepted_texts}
use Rattle.pawk_store.specs.Openings.{pairs_of}
use Rattle.pawk_par.specs.Requests.{AreSettings}

-- assignments as names and what they stand for
pub as_made : (xs : List Assignment) → map (λ (a : Text × Text). (a.0, Some a.1)) (pairs_of xs) ≡ accepted_texts xs
as_made [] = refl
as_made (x ∷ xs) = ap (λ l. (x.name.items, Some x.value.items) ∷ l) (as_made xs)

-- what an answer with settings says of a program of the same items
pub settings_told : (ps qs : List Part) (assigned : List (Text × Text)) (n : ℕ) (s : Settings) → ps ≡ qs → IsAnswer ps assigned n (Ok s) →
    AreSettings qs assigned n (pairs_of s.assignments.items)
settings_told ps qs assigned n s same told = λ k kinds.
    let all : IsAnswer qs assigned n (Ok s) = subst (λ (xs : List Part). IsAnswer xs assigned n (Ok s)) same told in
    let at = all k kinds in
    (at.0, as_made s.assignments.items ∙ at.1.assignments)
