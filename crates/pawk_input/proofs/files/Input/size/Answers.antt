use Rattle.std.proofs.Common.{ap, length, arith}
use Rattle.pawk_input.specs.Input.{File, files_of}
use Rattle.pawk_input.proofs.ItemsLemmas.{length-file_at}
use Rattle.pawk_input.proofs.files.Input.size.Goals as goal

pub size-requires : goal.size-requires
size-requires c =
    omega (arith, length-file_at (files_of c.args.self.now) c.args.file, c.file.ensures.limited, ap (λ (f : File). length f.bytes) c.file.ensures.value)
