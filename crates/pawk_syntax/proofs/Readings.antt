-- What the reading of a program text needs.
use Rattle.std.proofs.Common.{◌≡◌, ◌≢◌, rules, List, [], Option, Some, None, refl, sym, ap, subst, ◌∙◌}
use Rattle.pawk_syntax_check.specs.Fits.{Fits}
use Rattle.pawk_lex.specs.declared.refusal.SyntaxRefusal.{SyntaxRefusal}
use Rattle.pawk_lex.specs.declared.refusal.SyntaxRefusal.TheVariants as refusal
use Rattle.pawk_lex.specs.Bytes.{Text}
use Rattle.pawk_lex.specs.Tokens.{Tok}
use Rattle.pawk_lex.specs.TokenLists.{EndsBy}
use Rattle.pawk_syntax_tree.specs.Item.{Part}
use Rattle.pawk_syntax_tree.specs.ItemCanonical.{canon_program}
use Rattle.pawk_syntax_tree.specs.ItemParse.{program}
use Rattle.pawk_syntax_tree.proofs.ProgramLaws.{read_is_derived, derived_is_read}
use Rattle.pawk_syntax_tree.proofs.ItemLow.{read_is_low}
use Rattle.pawk_syntax_grammar.proofs.ProgramBrackets.{few_program}
use Rattle.pawk_syntax_grammar.specs.Expressions.{eres, eres_of_program}
use Rattle.pawk_syntax_grammar.specs.ExpressionReads.{AreExpressions, Denies}
use Rattle.pawk_syntax_grammar.proofs.DerivedPrograms.{derived_program}
use Rattle.pawk_syntax_grammar.proofs.CanonicalTokens.{of_program}
use Rattle.pawk_lex.specs.Canonical.{AreBytes}
use Rattle.pawk_lex.proofs.CutLaws.{cut_writable}
use Rattle.pawk_syntax_tree.proofs.ItemKept.{program_kept}
use Rattle.pawk_syntax_show.specs.ProgramText.{program_text}
use Rattle.pawk_syntax_show.proofs.WritableProgram.{program_writable}
use Rattle.pawk_syntax_show.proofs.ProgramCut.{program_cut}
use Rattle.pawk_syntax.specs.Spells.{Spells}
use Rattle.pawk_syntax.specs.Items.{AreRead}

-- a program is read of all tokens
pub whole_program : (ts rest : List Tok) (xs : List Part) → program ts ≡ Some (xs, rest) → program ts ≡ Some (xs, [])
whole_program ts rest xs e = let none : rest ≡ [] = (read_is_derived ts rest xs e).1 in subst (λ z. program ts ≡ Some (xs, z)) none e

-- the expressions of the tokens are those of the program
pub same_expressions : (ts : List Tok) (r : Option SyntaxRefusal) (xs : List Part) → AreRead ts r xs → eres ts ≡ eres_of_program xs
same_expressions ts r xs h = derived_program ts xs (read_is_derived ts [] xs h.items).0

pub spells : (text : Text) (ts : List Tok) (r : Option SyntaxRefusal) (xs : List Part) →
    EndsBy text ts r → AreRead ts r xs → AreExpressions (eres ts) → Fits xs → Spells text xs
spells text ts r xs cut h found fits' = record {
  tokens = ts;
  cut = subst (EndsBy text ts) h.whole cut;
  derived = (read_is_derived ts [] xs h.items).0;
  expressions = subst AreExpressions (same_expressions ts r xs h) found;
  fits = fits';
  low = read_is_low ts [] xs h.items;
  few = h.few;
}

-- the canonical tokens of a program that some text spells are read as that program
pub read_again : (other : Text) (xs : List Part) (ts : List Tok) (r : Option SyntaxRefusal) → Spells other xs →
    (ts ≡ canon_program xs) × (r ≡ None) → AreRead ts r xs
read_again other xs ts r s e = record {
  whole = e.1;
  few = rw (e.0) (few_program xs s.low);
  items = rw (e.0) (derived_is_read s.tokens xs s.derived s.low);
}

-- and what is between slashes are expressions
pub expressions_again : (other : Text) (xs : List Part) (ts : List Tok) (r : Option SyntaxRefusal) → Spells other xs →
    (ts ≡ canon_program xs) × (r ≡ None) → AreExpressions (eres ts)
expressions_again other xs ts r s e = rw (e.0, of_program xs) s.expressions

found_or : List Part → Option (List Part × List Tok) → List Part
found_or xs (Some p) = p.0
found_or xs None = xs

-- tokens are read as one program
pub same_parts : (ts : List Tok) (r : Option SyntaxRefusal) (xs ys : List Part) → AreRead ts r xs → AreRead ts r ys → xs ≡ ys
unfolding found_or
same_parts ts r xs ys h k = ap (found_or xs) (sym h.items ∙ k.items)

-- nothing but memory denies what holds
pub memory : (why : SyntaxRefusal) (P : Type 0) → Denies why P → P → why ≡ refusal.Memory
memory (refusal.At cause place) P h p = absurd (h p)
memory refusal.Memory P h p = refl

-- the canonical text of a program spells it
pub spells_again : (text : Text) (xs : List Part) → AreBytes text → Spells text xs → Spells (program_text xs) xs
spells_again text xs bytes s = record {
  tokens = canon_program xs;
  cut = program_cut xs (program_kept s.derived) (program_writable s.derived (cut_writable bytes s.cut));
  derived = (read_is_derived (canon_program xs) [] xs (derived_is_read s.tokens xs s.derived s.low)).0;
  expressions = s.expressions;
  fits = s.fits;
  low = s.low;
  few = few_program xs s.low;
}

-- of what holds, a check reports nothing but refused memory
pub no_fault : (why : SyntaxRefusal) (P : Type 0) → (why ≢ refusal.Memory → P → ⊥) → P → why ≡ refusal.Memory
no_fault (refusal.At cause place) P h p = absurd (h (λ e. search rules) p)
no_fault refusal.Memory P h p = refl
