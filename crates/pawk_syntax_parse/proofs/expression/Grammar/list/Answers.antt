use Rattle.std.proofs.Common.{arith}
use Rattle.std.proofs.lemmas.Grind.{common_steps}
use Rattle.pawk_syntax_tree.specs.Parse.{expr, list_from}
use Rattle.pawk_syntax_parse.specs.Reads.{input, trees_of}
use Rattle.pawk_syntax_parse.proofs.Turns.{one_more}
use Rattle.pawk_syntax_parse.proofs.expression.Grammar.list.Goals as goal

pub returns-in_err-phrase : goal.returns-in_err-phrase
unfolding list_from
returns-in_err-phrase g c =
    let e = one_more (λ n. list_from (expr c.args.self.now.depth) c.args.compares c.args.function n (trees_of c.loop-turn.all) (input c.loop-turn.ts)) _ c.loop-turn._turn c.loop-turn-test.true c.loop-turn.invariant in
    grind (arith, common_steps)

pub returns-then-not-eat : goal.returns-then-not-eat
unfolding list_from
returns-then-not-eat g c =
    let e = one_more (λ n. list_from (expr c.args.self.now.depth) c.args.compares c.args.function n (trees_of c.loop-turn.all) (input c.loop-turn.ts)) _ c.loop-turn._turn c.loop-turn-test.true c.loop-turn.invariant in
    grind (arith, common_steps)

pub loop-turn-preserved : goal.loop-turn-preserved
unfolding list_from
loop-turn-preserved g c =
    let e = one_more (λ n. list_from (expr c.args.self.now.depth) c.args.compares c.args.function n (trees_of c.loop-turn.all) (input c.loop-turn.ts)) _ c.loop-turn._turn c.loop-turn-test.true c.loop-turn.invariant in
    grind (arith, common_steps)
