use Rattle.std.proofs.Common.{arith}
use Rattle.std.proofs.lemmas.Grind.{common_steps}
use Rattle.pawk_syntax_tree.specs.Parse.{expr, climb}
use Rattle.pawk_syntax_parse.specs.Reads.{input, tree_of}
use Rattle.pawk_syntax_parse.proofs.Turns.{one_more, no_more}
use Rattle.pawk_syntax_parse.proofs.expression.Grammar.climb.Goals as goal

pub returns-in_default : goal.returns-in_default
unfolding climb
returns-in_default g c =
    let e = one_more (λ n. climb (expr c.args.self.now.depth) c.args.compares n c.args.least c.loop-turn.top (tree_of c.loop-turn.left) (input c.loop-turn.ts)) _ c.loop-turn._turn c.loop-turn-test.true c.loop-turn.invariant in
    grind (arith, common_steps)

pub returns-then-row-least : goal.returns-then-row-least
unfolding climb
returns-then-row-least g c =
    let e = one_more (λ n. climb (expr c.args.self.now.depth) c.args.compares n c.args.least c.loop-turn.top (tree_of c.loop-turn.left) (input c.loop-turn.ts)) _ c.loop-turn._turn c.loop-turn-test.true c.loop-turn.invariant in
    grind (arith, common_steps)

pub returns-in_err-left : goal.returns-in_err-left
unfolding climb
returns-in_err-left g c =
    let e = one_more (λ n. climb (expr c.args.self.now.depth) c.args.compares n c.args.least c.loop-turn.top (tree_of c.loop-turn.left) (input c.loop-turn.ts)) _ c.loop-turn._turn c.loop-turn-test.true c.loop-turn.invariant in
    grind (arith, common_steps)

pub loop-turn-preserved : goal.loop-turn-preserved
unfolding climb
loop-turn-preserved g c =
    let e = one_more (λ n. climb (expr c.args.self.now.depth) c.args.compares n c.args.least c.loop-turn.top (tree_of c.loop-turn.left) (input c.loop-turn.ts)) _ c.loop-turn._turn c.loop-turn-test.true c.loop-turn.invariant in
    grind (arith, common_steps)

pub returns : goal.returns
unfolding climb
returns g c =
    let e = no_more (λ n. climb (expr c.args.self.now.depth) c.args.compares n c.args.least c.loop-turn.top (tree_of c.loop-turn.left) (input c.loop-turn.ts)) _ c.loop-turn._turn c.loop-turn-test.false c.loop-turn.invariant in
    grind (arith, common_steps)
