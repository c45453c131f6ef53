use Rattle.std.proofs.Common.{◌≡◌, ◌++◌, List, ℕ, length}
use Rattle.pawk_lex.specs.Canonical.{string_text}
use Rattle.pawk_syntax_show.proofs.writing.append_string.Given as goal

abbrev pub invariant-loop-left : goal.invariant-loop-left
invariant-loop-left l =
    (rest : List ℕ) → l.out.items ++ (string_text l.left ++ rest) ≡ l.initial.out.items ++ (string_text l.initial.left ++ rest)

abbrev pub decreases-loop-left : goal.decreases-loop-left
decreases-loop-left l = length l.left
