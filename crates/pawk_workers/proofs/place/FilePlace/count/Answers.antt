use Rattle.std.proofs.Common.{◌≡◌, ◌+◌, ◌-◌, ◌*◌, length, min, Some, sym, ap, ◌∙◌, arith}
use Rattle.pawk_input.specs.Begins.{begins_within}
use Rattle.pawk_input.specs.Input.{file_at, files_of}
use Rattle.pawk_workers.proofs.PlaceLemmas.{count_at}
use Rattle.pawk_workers.proofs.place.FilePlace.count.Goals as goal

pub overflow_mul-start : goal.overflow_mul-start
overflow_mul-start c =
    let files = files_of c.args.input.now in
    let p = c.args.self in
    let at = c.requires.place in
    let here = count_at c.args.block c.requires.some c.args.rs.now files p.file (c.args.number - p.before) c.args.number at.exists (omega (arith, at.low, at.high)) (omega (arith, at.low, at.before)) in
    omega (arith, here.0, c.size-size.ensures, c.size-size.type_inv)

pub returns : goal.returns
returns c =
    let files = files_of c.args.input.now in
    let rs = c.args.rs.now in
    let p = c.args.self in
    let at = c.requires.place in
    let bytes = (file_at files p.file).bytes in
    let start = (c.args.number - p.before) * c.args.block in
    let here = count_at c.args.block c.requires.some rs files p.file (c.args.number - p.before) c.args.number at.exists (omega (arith, at.low, at.high)) (omega (arith, at.low, at.before)) in
    let end : c.min-end.result ≡ min (start + c.args.block) (length bytes) = omega (arith, c.min-end.ensures, c.saturating_add.ensures, c.size-size.ensures, c.size-size.type_inv) in
    here.1 ∙ ap Some (sym (c.count_block.ensures ∙ ap (λ e. length (begins_within rs bytes start e)) end))
