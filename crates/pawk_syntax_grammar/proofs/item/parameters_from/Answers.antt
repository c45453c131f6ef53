use Rattle.std.proofs.Common.{arith}
use Rattle.std.proofs.lemmas.Grind.{common_steps}
use Rattle.std.proofs.lemmas.List.{map-append}
use Rattle.pawk_syntax_tree.specs.ItemParse.{parameters_from}
use Rattle.pawk_syntax_parse.specs.Reads.{input}
use Rattle.pawk_syntax_parse.proofs.Turns.{one_more, no_more}
use Rattle.pawk_syntax_grammar.specs.ItemReads.{names_of}
use Rattle.pawk_syntax_grammar.proofs.item.parameters_from.Goals as goal

pub returns-in_err-expect_name : goal.returns-in_err-expect_name
unfolding parameters_from
returns-in_err-expect_name c =
    let e = one_more (λ n. parameters_from n (names_of c.loop-turn.all) (input c.loop-turn.ts)) _ c.loop-turn._turn c.loop-turn-test.true c.loop-turn.invariant in
    grind (arith, common_steps, map-append)

pub returns-in_err-expect : goal.returns-in_err-expect
unfolding parameters_from
returns-in_err-expect c =
    let e = one_more (λ n. parameters_from n (names_of c.loop-turn.all) (input c.loop-turn.ts)) _ c.loop-turn._turn c.loop-turn-test.true c.loop-turn.invariant in
    grind (arith, common_steps, map-append)

pub returns-then-not-eat : goal.returns-then-not-eat
unfolding parameters_from
returns-then-not-eat c =
    let e = one_more (λ n. parameters_from n (names_of c.loop-turn.all) (input c.loop-turn.ts)) _ c.loop-turn._turn c.loop-turn-test.true c.loop-turn.invariant in
    grind (arith, common_steps, map-append)

pub loop-turn-preserved : goal.loop-turn-preserved
unfolding parameters_from
loop-turn-preserved c =
    let e = one_more (λ n. parameters_from n (names_of c.loop-turn.all) (input c.loop-turn.ts)) _ c.loop-turn._turn c.loop-turn-test.true c.loop-turn.invariant in
    grind (arith, common_steps, map-append)

pub returns : goal.returns
unfolding parameters_from
returns c =
    let e = no_more (λ n. parameters_from n (names_of c.loop-turn.all) (input c.loop-turn.ts)) _ c.loop-turn._turn c.loop-turn-test.false c.loop-turn.invariant in
    grind (arith, common_steps)
