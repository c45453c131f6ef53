use Rattle.std.proofs.Common.{◌≡◌, length}
use Rattle.pawk_syntax_tree.specs.Parse.{skip_lines}
use Rattle.pawk_syntax_parse.specs.Reads.{input}
use Rattle.pawk_syntax_parse.proofs.cursor.Cursor.skip_lines.Given as goal

abbrev pub invariant-loop-self : goal.invariant-loop-self
invariant-loop-self l = skip_lines (input l.fn.self) ≡ skip_lines (input l.self)

abbrev pub decreases-loop-self : goal.decreases-loop-self
decreases-loop-self l = length (input l.self)
