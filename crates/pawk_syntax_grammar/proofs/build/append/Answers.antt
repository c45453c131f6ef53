use Rattle.std.proofs.Common.{arith}
use Rattle.std.proofs.lemmas.List.{map-append}
use Rattle.pawk_syntax_grammar.proofs.Building.{highest_append}
use Rattle.pawk_syntax_grammar.proofs.build.append.Goals as goal

pub invariant_of-result : goal.invariant_of-result
invariant_of-result c = record {
  known = rw (c.in_ok-append.ensures.items, map-append, highest_append) (omega (arith, c.args.front.known, c.args.more.known, c.max-highest.ensures));
  low = omega (arith, c.args.front.low, c.args.more.low, c.max-highest.ensures);
}
