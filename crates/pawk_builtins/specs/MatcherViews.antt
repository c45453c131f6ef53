-- What the matchers of a run keep, and what one of them answers.
use Rattle.std.specs.Prelude.{◌≡◌, ◌↔◌, ℕ, Bool, List, Option, Result, Ok, Err, IfSome, IsTrue, is_some, length, ◌≤◌}
use Rattle.std.specs.List.{All}
use Rattle.std.specs.declared.ops.Range.{Range}
use Rattle.pawk_ere.specs.Caches.{IsOfItsText}
use Rattle.pawk_ere.specs.declared.loan.Loan.{Loan}
use Rattle.pawk_ere_syntax.specs.Pattern.{Pattern, Matches, HasMatch}
use Rattle.pawk_ere_syntax.specs.Tokens.{SpellsEre}
use Rattle.pawk_code.specs.declared.word.ReplacedMatches.{ReplacedMatches}
use Rattle.pawk_store.specs.Builtins.{replaced, pieces_between}
use Rattle.pawk_fields.specs.Search.{find}
use Rattle.pawk_value.specs.declared.faults.Fault.{Fault}
use Rattle.pawk_builtins.specs.Pieces.{pieces_in}
use Rattle.pawk_builtins.specs.Replaces.{Left}

-- each matcher that is there is one of its text
abbrev pub AreOfTheirTexts : List (Option Loan) → Type 0
AreOfTheirTexts slots = All (λ slot. IfSome slot IsOfItsText) slots

-- Whether the expression matches anywhere in a text, or its fault. POSIX.1-2017, awk, "Regular Expressions": a text
-- matches where an expression matches any part of it.
abbrev pub matched_by : Result Pattern Fault → List ℕ → Result Bool Fault
matched_by (Err f) s = Err f
matched_by (Ok e) s = Ok (is_some (find e s 0))

-- whether the expression that the bytes spell matches in the text
pub record SaysWhetherMatches (bytes text : List ℕ) (holds : Bool) : Type 0 where
  pub pattern : Pattern
  pub spelled : SpellsEre bytes pattern
  pub answer : IsTrue holds ↔ HasMatch (Matches pattern text) 0

-- n matches of the expression that the bytes spell were replaced, and where there is one, the text is this
pub record IsReplaced (bytes : List ℕ) (count : ReplacedMatches) (r s out : List ℕ) (n : ℕ) : Type 0 where
  pub pattern : Pattern
  pub spelled : SpellsEre bytes pattern
  pub left : Left out n (Ok (replaced count pattern r s))

-- the ranges are those of the pieces between the matches of the expression that the bytes spell
pub record AreBetweenMatches (bytes s : List ℕ) (ranges : List (Range ℕ)) : Type 0 where
  pub pattern : Pattern
  pub spelled : SpellsEre bytes pattern
  pub pieces : pieces_between (Ok pattern) s ≡ Ok (pieces_in s ranges)

-- ranges within a text
abbrev pub AreInside : List ℕ → List (Range ℕ) → Type 0
AreInside s ranges = All (λ r. (r.start ≤ r.end) × (r.end ≤ length s)) ranges
