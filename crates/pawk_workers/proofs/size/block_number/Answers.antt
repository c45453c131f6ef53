use Rattle.std.proofs.Common.{◌+◌, ◌<◌, length, arith}
use Rattle.pawk_input.specs.Input.{files_of}
use Rattle.pawk_workers.proofs.SizeLemmas.{blocks_more, blocks_front, few_in_files}
use Rattle.pawk_workers.proofs.size.block_number.Goals as goal

pub overflow_add-number : goal.overflow_add-number
overflow_add-number c =
    let files = files_of c.args.input.now in
    let block = c.args.block in
    let file = c.loop-file.file in
    let exists : file < length files = omega (arith, c.files-file-end.ensures.count) in
    omega (arith, c.loop-file.invariant, c.blocks_of_file-number.ensures, blocks_more block files file exists, blocks_front block files (file + 1), few_in_files block c.requires.some files, c.files-file-end.ensures.limited)
