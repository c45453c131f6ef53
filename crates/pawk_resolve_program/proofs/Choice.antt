-- The code that kinds give, whichever kinds a program is said to have.
use Rattle.std.proofs.Common.{◌≡◌, List, [], ◌∷◌, map, Result, Ok, Err, refl, ap, ◌∙◌}
use Rattle.std.specs.Prelude.{IfOk}
use Rattle.pawk_lex.specs.Bytes.{Text}
use Rattle.pawk_syntax_tree.specs.declared.tree.Name.{Name as CodeName}
use Rattle.pawk_syntax_tree.specs.Item.{Part, texts as name_texts}
use Rattle.pawk_syntax_check.specs.Tables.{Name}
use Rattle.pawk_syntax_check.specs.Demands.{Kinds, KindsFit, AreKindsOf}
use Rattle.pawk_syntax_check.proofs.Finding.{one_choice}
use Rattle.pawk_syntax_grammar.specs.Expressions.{eres_of_program}
use Rattle.pawk_code.specs.declared.program.Code.{Code as Answer}
use Rattle.pawk_code.specs.Programs.{Code}
use Rattle.pawk_code.specs.ProgramViews.{code_view}
use Rattle.pawk_resolve.specs.Scopes.{Globals}
use Rattle.pawk_resolve.specs.ResolvedPrograms.{globals_of, resolved_items}
use Rattle.pawk_resolve_program.specs.Codes.{IsCodeOf}

pub kinds_of_texts : {X : Type 0} (f : Text → X) (ps : List CodeName) → map (λ p. f p.text.items) ps ≡ map f (name_texts ps)
kinds_of_texts f [] = refl
kinds_of_texts f (p ∷ ps) = ap (λ xs. f p.text.items ∷ xs) (kinds_of_texts f ps)

code_is : (ps : List Part) (c : Code) (g : Globals) (k : Kinds) (xs : List Text) →
    c ≡ resolved_items g ps → g ≡ globals_of k xs ps → xs ≡ eres_of_program ps → (KindsFit ps → AreKindsOf ps k) → IsCodeOf ps c
code_is ps c g k xs h e f fits other are =
    let eres = eres_of_program ps in
    let same : (v : Name) → k v ≡ other v = one_choice ps k other (fits (other, are.kinds)) are in
    h ∙ ap (λ names. resolved_items names ps) e ∙ ap (λ ys. resolved_items (globals_of k ys ps) ps) f
    ∙ (λ i. resolved_items (globals_of (λ v. same v i) eres ps) ps)

-- the same of a result
pub codes_are : {E : Type 0} (ps : List Part) (r : Result Answer E) (g : Globals) (k : Kinds) (xs : List Text) →
    IfOk r (λ c. code_view c ≡ resolved_items g ps) → g ≡ globals_of k xs ps → xs ≡ eres_of_program ps →
    (KindsFit ps → AreKindsOf ps k) → IfOk r (λ c. IsCodeOf ps (code_view c))
codes_are ps (Ok c) g k xs h e f fits = code_is ps (code_view c) g k xs h e f fits
codes_are ps (Err why) g k xs h e f fits = tt
