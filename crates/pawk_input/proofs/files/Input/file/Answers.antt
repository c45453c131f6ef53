use Rattle.std.proofs.Common.{◌≡◌, Some, length, slice_get, ap, sym, arith}
use Rattle.pawk_input.specs.Lent.{lent_file}
use Rattle.pawk_input.proofs.ItemsLemmas.{file_read, length_files, ready_read}
use Rattle.pawk_input.proofs.files.Input.file.Goals as goal

pub file-requires : goal.file-requires
file-requires c = omega (arith, c.requires, length_files c.args.self.now, ap length c.self.view_is, ap length c.lend.ensures)

pub returns-clause-value : goal.returns-clause-value
returns-clause-value c =
    let at : slice_get c.args.self.now c.args.place ≡ Some (lent_file c.file.result) = rw (c.lend.ensures, c.self.view_is) at c.file.ensures in
    sym (file_read c.args.self.now c.args.place (lent_file c.file.result) at)

pub returns-clause-mended : goal.returns-clause-mended
returns-clause-mended c = λ rs h. (
    let at : slice_get c.args.self.now c.args.place ≡ Some (lent_file c.file.result) = rw (c.lend.ensures, c.self.view_is) at c.file.ensures in
    ready_read rs c.args.self.now c.args.place (lent_file c.file.result) at h)
