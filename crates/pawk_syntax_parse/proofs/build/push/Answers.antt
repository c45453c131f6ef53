use Rattle.std.proofs.Common.{arith}
use Rattle.std.proofs.lemmas.List.{map-append}
use Rattle.pawk_syntax_parse.proofs.Building.{highest_more}
use Rattle.pawk_syntax_parse.proofs.build.push.Goals as goal

pub invariant_of-result : goal.invariant_of-result
invariant_of-result c = record {
  known = rw (c.in_ok-add.ensures, map-append, highest_more) (omega (arith, c.args.phrases.known, c.args.phrase.known, c.max-highest.ensures));
  low = omega (arith, c.args.phrases.low, c.args.phrase.low, c.max-highest.ensures);
}
