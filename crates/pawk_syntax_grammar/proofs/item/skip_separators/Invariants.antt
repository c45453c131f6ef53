use Rattle.std.proofs.Common.{◌≡◌, length}
use Rattle.pawk_syntax_tree.specs.ItemParse.{skip_separators}
use Rattle.pawk_syntax_parse.specs.Reads.{input}
use Rattle.pawk_syntax_grammar.proofs.item.skip_separators.Given as goal

abbrev pub invariant-loop-ts : goal.invariant-loop-ts
invariant-loop-ts l = skip_separators (input l.fn.ts) ≡ skip_separators (input l.ts)

abbrev pub decreases-loop-ts : goal.decreases-loop-ts
decreases-loop-ts l = length (input l.ts)
