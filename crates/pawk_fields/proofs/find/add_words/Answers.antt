use Rattle.std.proofs.Common.{◌<◌, ◌-◌, ◌++◌, bit_and, map, refl, ap, sym, ◌∙◌, arith}
use Rattle.pawk_fields.specs.Blocks.{block_from}
use Rattle.pawk_fields.specs.FieldSeparator.{range_of}
use Rattle.pawk_fields.proofs.BlockBits.{bits_fit, length-block}
use Rattle.pawk_fields.proofs.WordBits.{changes_here, end_high, end_near, end_on, left_after, left_there, on_there, one_added, some_left, word_there}
use Rattle.pawk_fields.proofs.find.add_words.Goals as goal

pub overflow_add-changes : goal.overflow_add-changes
overflow_add-changes c =
    let few = bits_fit (block_from c.args.text.now c.args.place.now) 32 (length-block c.args.text.now c.args.place.now) in
    record { fits = omega (arith, few, c.requires.right) }

pub overflow_add-changes-2 : goal.overflow_add-changes-2
overflow_add-changes-2 c =
    let few = bits_fit (block_from c.args.text.now c.args.place.now) 32 (length-block c.args.text.now c.args.place.now) in
    record { fits = omega (arith, few, c.requires.right) }

pub loop-start-init : goal.loop-start-init
loop-start-init c = record {
  low = omega arith;
  high = c.requires.within;
  near = omega arith;
  left = changes_here c.args.text.now c.args.place.now c.args.blanks c.requires.right;
  same = refl;
  more = omega arith;
  moved = omega arith;
}

pub overflow_sub-changes : goal.overflow_sub-changes
overflow_sub-changes c =
    let old = c.loop-start.invariant in
    let some = some_left c.args.text.now c.args.place.now c.loop-start.place c.loop-start.changes old.low old.high old.near old.left in
    omega (arith, some)

pub returns-then-changes-eq0-clause-same : goal.returns-then-changes-eq0-clause-same
returns-then-changes-eq0-clause-same c =
    let old = c.loop-start.invariant in
    ap (λ l. c.loop-start.ranges.items ++ map range_of l) (sym (left_there c.args.text.now c.args.place.now c.loop-start.place c.loop-start.changes old.low old.high old.near old.left)) ∙ old.same

pub returns-then-changes-eq0-clause-on : goal.returns-then-changes-eq0-clause-on
returns-then-changes-eq0-clause-on c =
    let old = c.loop-start.invariant in
    on_there c.args.text.now c.args.place.now c.loop-start.place c.loop-start.changes old.low old.high old.near old.left c.if-changes-eq0.true (omega (arith, c.requires.right, c.requires.some))

pub loop-start-smaller : goal.loop-start-smaller
loop-start-smaller c =
    let old = c.loop-start.invariant in
    let n = c.loop-start.changes in
    let some : 0 < bit_and n (n - 1) = omega (arith, c.if-changes-eq0.false) in
    let on = end_on c.args.text.now c.args.place.now c.loop-start.place n old.low old.high old.near old.left some in
    let near = end_near c.args.text.now c.args.place.now c.loop-start.place n old.low old.high old.near old.left some in
    omega (arith, on, near)

pub loop-start-preserved : goal.loop-start-preserved
loop-start-preserved c =
    let old = c.loop-start.invariant in
    let s = c.args.text.now in
    let block = c.args.place.now in
    let place = c.loop-start.place in
    let n = c.loop-start.changes in
    let some : 0 < bit_and n (n - 1) = omega (arith, c.if-changes-eq0.false) in
    let on = end_on s block place n old.low old.high old.near old.left some in
    let longer = c.in_ok-push.ensures.len in
    record {
      low = omega (arith, on, old.low);
      high = end_high s block place n old.low old.high old.near old.left some;
      near = end_near s block place n old.low old.high old.near old.left some;
      left = left_after s block place n old.low old.high old.near old.left some _ refl;
      same = one_added _ _ _ _ _ c.in_ok-push.ensures.items (word_there s block place n old.low old.high old.near old.left some) ∙ old.same;
      more = omega (arith, old.more, longer);
      moved = omega (arith, old.moved, longer, on);
    }
