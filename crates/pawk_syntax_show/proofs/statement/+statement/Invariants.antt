use Rattle.std.proofs.Common.{◌≡◌, ◌++◌, List, ℕ, drop}
use Rattle.pawk_syntax_tree.specs.Item.{seen}
use Rattle.pawk_syntax_show.specs.ProgramText.{lines_text}
use Rattle.pawk_syntax_show.proofs.statement.+statement.Given as goal

abbrev pub invariant-append_lines-loop-statement : goal.invariant-append_lines-loop-statement
invariant-append_lines-loop-statement l =
    (rest : List ℕ) → l.out.items ++ lines_text (seen (drop l.statement-index l.statements)) rest
    ≡ l.initial.out.items ++ lines_text (seen l.statements) rest
