-- What a cache keeps, and what it answers.
use Rattle.std.specs.Prelude.{ℕ, List, Contains, Option, Vec}
use Rattle.std.proofs.Common.{Global}
use Rattle.pawk_ere.specs.Answers.{IsAnswer, IsFor}
use Rattle.pawk_ere.specs.declared.loan.Loan.{Loan}
use Rattle.pawk_ere_automaton.specs.Regex.{Regex}
use Rattle.pawk_ere_syntax.specs.Pattern.{Pattern}
use Rattle.pawk_ere_syntax.specs.Tokens.{SpellsEre}

-- the matcher is one of the expression that the text spells
pub record IsOfText (bytes : List ℕ) (matcher : Regex) : Type 0 where
  pub pattern : Pattern
  pub spelled : SpellsEre bytes pattern
  pub meaning : IsFor pattern matcher

-- the matcher that is lent is one of its text
abbrev pub IsOfItsText : Loan → Type 0
IsOfItsText loan = IsOfText loan.text.items loan.matcher

-- each matcher that is kept is one of its text
abbrev pub AreOfTexts : List (Vec ℕ Global × Regex) → Type 0
AreOfTexts entries = (e : Vec ℕ Global × Regex) → Contains entries e → IsOfText e.0.items e.1

-- the answer of reading the expression and searching for it
pub record IsAnswerOfText (bytes text : List ℕ) (start : ℕ) (found : Option (ℕ × ℕ)) : Type 0 where
  pub pattern : Pattern
  pub spelled : SpellsEre bytes pattern
  pub answer : IsAnswer pattern text start found
