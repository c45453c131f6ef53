use Rattle.std.proofs.Common.{arith}
use Rattle.std.proofs.lemmas.Grind.{common_steps}
use Rattle.pawk_syntax_tree.specs.StatementParse.{stmt, block_from}
use Rattle.pawk_syntax_parse.specs.Reads.{input}
use Rattle.pawk_syntax_parse.proofs.Turns.{one_more, no_more}
use Rattle.pawk_syntax_grammar.specs.Reads.{body_of}
use Rattle.pawk_syntax_grammar.proofs.statement.Statements.block_from.Goals as goal

pub returns-then-eat : goal.returns-then-eat
unfolding block_from
returns-then-eat g c =
    let e = one_more (λ n. block_from (stmt c.args.self.now.depth) n (body_of c.loop-turn.all) (input c.loop-turn.ts)) _ c.loop-turn._turn c.loop-turn-test.true c.loop-turn.invariant in
    grind (arith, common_steps)

pub returns-in_err-more : goal.returns-in_err-more
unfolding block_from
returns-in_err-more g c =
    let e = one_more (λ n. block_from (stmt c.args.self.now.depth) n (body_of c.loop-turn.all) (input c.loop-turn.ts)) _ c.loop-turn._turn c.loop-turn-test.true c.loop-turn.invariant in
    grind (arith, common_steps)

pub loop-turn-preserved : goal.loop-turn-preserved
unfolding block_from
loop-turn-preserved g c =
    let e = one_more (λ n. block_from (stmt c.args.self.now.depth) n (body_of c.loop-turn.all) (input c.loop-turn.ts)) _ c.loop-turn._turn c.loop-turn-test.true c.loop-turn.invariant in
    grind (arith, common_steps)

pub returns : goal.returns
unfolding block_from
returns g c =
    let e = no_more (λ n. block_from (stmt c.args.self.now.depth) n (body_of c.loop-turn.all) (input c.loop-turn.ts)) _ c.loop-turn._turn c.loop-turn-test.false c.loop-turn.invariant in
    grind (arith, common_steps)
