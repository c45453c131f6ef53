use Rattle.std.proofs.Common.{◌≡◌, ◌++◌, length}
use Rattle.pawk_explain.specs.Lines.{lines_as_lf, omissions}
use Rattle.pawk_explain.proofs.script.append_as_lf.Given as goal

-- what was read and what is left to read give the whole
abbrev pub invariant-loop-rest : goal.invariant-loop-rest
invariant-loop-rest l =
    (l.text.items ++ lines_as_lf l.rest ≡ l.initial.text.items ++ lines_as_lf l.bytes)
    × (l.places.items ++ omissions (length l.text.items) l.rest
    ≡ l.initial.places.items ++ omissions (length l.initial.text.items) l.bytes)

abbrev pub decreases-loop-rest : goal.decreases-loop-rest
decreases-loop-rest l = length l.rest
