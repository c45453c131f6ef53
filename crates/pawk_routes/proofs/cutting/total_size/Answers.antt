use Rattle.std.proofs.Common.{◌≡◌, ◌+◌, ◌<◌, ◌≤◌, length, take, arith}
use Rattle.pawk_input.specs.Input.{files_of, total_size}
use Rattle.pawk_routes.proofs.TotalLemmas.{total_next, total_most, total_all}
use Rattle.pawk_routes.proofs.cutting.total_size.Goals as goal

pub loop-file-preserved : goal.loop-file-preserved
loop-file-preserved c =
    let files = files_of c.args.input.now in
    let file = c.loop-file.file in
    let within : file < length files = omega (arith, c.loop-file-test.true, c.files-file-end.ensures.count) in
    let next = total_next files file within in
    let most = total_most files (file + 1) in
    let is : c.loop-file.total ≡ total_size (take file files) = c.loop-file.invariant in
    let limited : total_size files ≤ 4611686018427387904 = c.files-file-end.ensures.limited in
    let size = c.size.ensures in
    let sum = c.saturating_add-total.ensures in
    grind (arith)

pub returns : goal.returns
returns c =
    let files = files_of c.args.input.now in
    let file = c.loop-file.file in
    let is : c.loop-file.total ≡ total_size (take file files) = c.loop-file.invariant in
    let all = total_all files file (omega (arith, c.files-file-end.ensures.count, c.loop-file-test.false)) in
    omega arith
