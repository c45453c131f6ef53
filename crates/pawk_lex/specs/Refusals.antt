-- The numbers of refusals.
use Rattle.std.specs.Prelude.{ℕ, Bool, true, ◌==◌, List, [], ◌∷◌, Option, Some, None}
use Rattle.std.specs.List.{list_any}
use Rattle.pawk_lex.specs.declared.refusal.Cause.{Cause}
use Rattle.pawk_lex.specs.declared.refusal.Cause.TheVariants as cause
use Rattle.pawk_lex.specs.declared.refusal.SyntaxRefusal.{SyntaxRefusal}
use Rattle.pawk_lex.specs.declared.refusal.SyntaxRefusal.TheVariants.{At, Memory}

abbrev pub cause_number : Cause → ℕ
cause_number cause.Token = 1
cause_number cause.Unexpected = 2
cause_number cause.InputOutput = 3
cause_number cause.Assigned = 4
cause_number cause.Uses = 5
cause_number cause.Call = 6
cause_number cause.Misplaced = 7
cause_number cause.Numeral = 8
cause_number cause.Nesting = 9
cause_number cause.Expression = 10
cause_number cause.LeftOut = 11

abbrev pub refusal_number : SyntaxRefusal → ℕ
refusal_number (At why place) = cause_number why
refusal_number Memory = 12

-- the numbers that the lexer reports: tokens, input and output, numerals, names that are left out, memory
abbrev pub lexer_numbers : List ℕ
lexer_numbers = 1 ∷ 3 ∷ 8 ∷ 11 ∷ 12 ∷ []

abbrev pub is_lexer_number : ℕ → Bool
is_lexer_number n = list_any (λ m. n == m) lexer_numbers

abbrev pub is_lexer_refusal : SyntaxRefusal → Bool
is_lexer_refusal e = is_lexer_number (refusal_number e)

-- no refusal, or one of the lexer's
abbrev pub is_lexer_answer : Option SyntaxRefusal → Bool
is_lexer_answer None = true
is_lexer_answer (Some e) = is_lexer_refusal e

abbrev pub refusal_place : SyntaxRefusal → Option ℕ
refusal_place (At why place) = Some place
refusal_place Memory = None
