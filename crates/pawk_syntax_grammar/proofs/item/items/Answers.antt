use Rattle.std.proofs.Common.{arith}
use Rattle.std.proofs.lemmas.Grind.{common_steps}
use Rattle.std.proofs.lemmas.List.{map-append}
use Rattle.pawk_syntax_tree.specs.ItemParse.{items_from}
use Rattle.pawk_syntax_grammar.specs.ItemReads.{items_of}
use Rattle.pawk_syntax_parse.specs.Reads.{input}
use Rattle.pawk_syntax_parse.proofs.Turns.{one_more, no_more}
use Rattle.pawk_syntax_grammar.proofs.item.items.Goals as goal

pub returns-then-at_end : goal.returns-then-at_end
unfolding items_from
returns-then-at_end c =
    let e = one_more (λ n. items_from n (items_of c.loop-turn.all) (input c.loop-turn.ts)) _ c.loop-turn._turn c.loop-turn-test.true c.loop-turn.invariant in
    grind (arith, common_steps, map-append)

pub returns-in_err-part : goal.returns-in_err-part
unfolding items_from
returns-in_err-part c =
    let e = one_more (λ n. items_from n (items_of c.loop-turn.all) (input c.loop-turn.ts)) _ c.loop-turn._turn c.loop-turn-test.true c.loop-turn.invariant in
    grind (arith, common_steps, map-append)

pub loop-turn-preserved : goal.loop-turn-preserved
unfolding items_from
loop-turn-preserved c =
    let e = one_more (λ n. items_from n (items_of c.loop-turn.all) (input c.loop-turn.ts)) _ c.loop-turn._turn c.loop-turn-test.true c.loop-turn.invariant in
    grind (arith, common_steps, map-append)

pub returns : goal.returns
unfolding items_from
returns c =
    let e = no_more (λ n. items_from n (items_of c.loop-turn.all) (input c.loop-turn.ts)) _ c.loop-turn._turn c.loop-turn-test.false c.loop-turn.invariant in
    grind (arith, common_steps)

pub returns-in_err-separated : goal.returns-in_err-separated
unfolding items_from
returns-in_err-separated c =
    let e = one_more (λ n. items_from n (items_of c.loop-turn.all) (input c.loop-turn.ts)) _ c.loop-turn._turn c.loop-turn-test.true c.loop-turn.invariant in
    grind (arith, common_steps, map-append)
