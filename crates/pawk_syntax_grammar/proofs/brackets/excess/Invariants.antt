use Rattle.std.proofs.Common.{◌≡◌, ◌≤◌, length}
use Rattle.pawk_syntax_grammar.specs.Brackets.{are_few, values}
use Rattle.pawk_syntax_grammar.proofs.brackets.excess.Given as goal

abbrev pub invariant-loop-rest : goal.invariant-loop-rest
invariant-loop-rest l = (are_few 0 (values l.fn.tokens) ≡ are_few l.count (values l.rest)) × (l.count ≤ 500) × (length l.rest ≤ length l.fn.tokens)

abbrev pub decreases-loop-rest : goal.decreases-loop-rest
decreases-loop-rest l = length l.rest
