-- What looking at the next tokens shows.
use Rattle.std.proofs.Common.{◌≡◌, true, false, List, [], ◌∷◌, drop, Some, None, refl, sym, ap, ◌∙◌, inl, inr, rules}
use Rattle.std.proofs.lemmas.Bool.{cases_Bool, false≢true}
use denote.Enum.Bare.{same_true, true_same}
use Rattle.pawk_lex.specs.contracts.token.Mark.{the_type}
use Rattle.pawk_lex.specs.declared.token.Mark.{Mark}
use Rattle.pawk_lex.specs.declared.token.Mark.TheVariants as m
use Rattle.pawk_lex.specs.Tokens.{Tok}
use Rattle.pawk_lex.specs.Tokens as t
use Rattle.pawk_syntax_tree.specs.declared.tree.Double.{Double}
use Rattle.pawk_syntax_tree.specs.declared.tree.Double.TheVariants as double
use Rattle.pawk_syntax_tree.specs.Grammar.{Newlines, no_line, a_line, Gap, NotNext}
use Rattle.pawk_syntax_tree.specs.Parse.{Outcome, Parser, and_then, same_mark, sees, expect, expect_name, skip_lines, after_op}

-- what holds of what was found and of the rest
abbrev pub OnFound : {A : Type 0} → (A → List Tok → Type 0) → Outcome A → Type 0
OnFound P (Some p) = P p.0 p.1
OnFound P None = Unit {0}

pub on_bind : {A B : Type 0} (r : Outcome A) (f : A → Parser B) (P : A → List Tok → Type 0) (Q : B → List Tok → Type 0) → OnFound P r → ((a : A) (rest : List Tok) → P a rest → OnFound Q (f a rest)) → OnFound Q (and_then r f)
on_bind (Some p) f P Q h k = k p.0 p.1 h
on_bind None f P Q h k = tt

-- whatever is found, nothing is asked of it
pub anything : {A : Type 0} (r : Outcome A) → OnFound (λ _ _. Unit {0}) r
anything (Some p) = tt
anything None = tt

pub on_found : {A : Type 0} {P Q : A → List Tok → Type 0} (r : Outcome A) → OnFound P r → ((a : A) (rest : List Tok) → P a rest → Q a rest) → OnFound Q r
on_found (Some p) h k = k p.0 p.1 h
on_found None h k = tt

abbrev pub Expects : Mark → List Tok → List Tok → Type 0
Expects s ts rest = ts ≡ t.mark s ∷ rest

pub sees_sign : (s : Mark) (ts : List Tok) → sees s ts ≡ true → Expects s ts (drop 1 ts)
unfolding sees same_mark
sees_sign s [] e = absurd (false≢true e)
sees_sign s (t.mark x ∷ ts) e = ap (λ y. t.mark y ∷ ts) (same_true the_type (search rules) x s e)
sees_sign s (_ ∷ ts) e = absurd (false≢true e)

pub expects : (s : Mark) (ts : List Tok) → OnFound (λ _ rest. Expects s ts rest) (expect s ts)
unfolding expect
expects s ts = elim (cases_Bool (sees s ts)) [ inl e ↦ rw e (sees_sign s ts e) | inr e ↦ rw e tt ]

pub names : (ts : List Tok) → OnFound (λ x rest. ts ≡ t.name x ∷ rest) (expect_name ts)
unfolding expect_name
names [] = tt
names (t.name x ∷ ts) = refl
names (_ ∷ ts) = tt

pub same_sees : (s : Mark) (rest : List Tok) → sees s (t.mark s ∷ rest) ≡ true
unfolding sees same_mark
same_sees s rest = true_same the_type s s refl

pub not_next : (s : Mark) (ts : List Tok) → sees s ts ≡ false → NotNext s ts
not_next s ts e rest f = absurd (false≢true (sym (rw f at e) ∙ same_sees s rest))

pub skips : (ts : List Tok) → Newlines ts (skip_lines ts)
unfolding skip_lines
skips [] = no_line
skips (x ∷ ts) = elim (cases_Bool (sees m.Newline (x ∷ ts))) [
  | inl e ↦ rw e (rw (sees_sign m.Newline (x ∷ ts) e) (a_line (skips ts)))
  | inr e ↦ rw e no_line
]

pub gaps : (op : Double) (ts : List Tok) → Gap op ts (after_op op ts)
unfolding after_op
gaps double.Or ts = skips ts
gaps double.And ts = skips ts
gaps _ ts = refl
