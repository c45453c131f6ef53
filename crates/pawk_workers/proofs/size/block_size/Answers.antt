use Rattle.std.proofs.Common.{◌<◌, ◌≤◌, ◌^◌, arith}
use Rattle.pawk_input.specs.Input.{files_of}
use Rattle.pawk_workers.specs.Sizes.{blocks_in, most_blocks}
use Rattle.pawk_workers.proofs.SizeLemmas.{blocks_large, still_small, doubled_more}
use Rattle.pawk_workers.proofs.size.block_size.Goals as goal

pub returns-then-block_number-gt-MOST_BLOCKS-clause-size : goal.returns-then-block_number-gt-MOST_BLOCKS-clause-size
returns-then-block_number-gt-MOST_BLOCKS-clause-size c =
    let files = files_of c.args.input.now in
    let all = blocks_large (2 ^ 62) (omega arith) files c.block_number.ensures.limited in
    omega (arith, all, c.block_number.ensures.number)

pub overflow_mul-size : goal.overflow_mul-size
overflow_mul-size c =
    let files = files_of c.args.input.now in
    let many : most_blocks < blocks_in c.loop-size.size files = omega (arith, c.block_number-in-loop-size.ensures.number) in
    let few : blocks_in (2 ^ 62) files ≤ most_blocks = omega (arith, c.block_number.ensures.number) in
    let small = still_small (2 ^ 62) c.loop-size.size most_blocks (omega arith) c.loop-size.invariant.some files c.block_number.ensures.limited few many in
    omega (arith, small)

pub loop-size-smaller : goal.loop-size-smaller
loop-size-smaller c =
    let files = files_of c.args.input.now in
    let many : most_blocks < blocks_in c.loop-size.size files = omega (arith, c.block_number-in-loop-size.ensures.number) in
    let few : blocks_in (2 ^ 62) files ≤ most_blocks = omega (arith, c.block_number.ensures.number) in
    let small = still_small (2 ^ 62) c.loop-size.size most_blocks (omega arith) c.loop-size.invariant.some files c.block_number.ensures.limited few many in
    omega (arith, small, c.loop-size.invariant.some)

pub loop-size-preserved : goal.loop-size-preserved
loop-size-preserved c =
    let files = files_of c.args.input.now in
    let many : most_blocks < blocks_in c.loop-size.size files = omega (arith, c.block_number-in-loop-size.ensures.number) in
    record {
      some = omega (arith, c.loop-size.invariant.some);
      doubled = doubled_more files c.loop-size.size c.loop-size.invariant.doubled many;
    }
