use Rattle.std.proofs.Common.{◌≡◌, ◌-◌, length, get_or, ap, sym, ◌∙◌, arith}
use Rattle.std.proofs.lemmas.Option.{get_or_from_slice_get}
use Rattle.pawk_records.specs.Records.{records_by}
use Rattle.pawk_records.proofs.BlocksLemmas.{records_of_blocks}
use Rattle.pawk_input.specs.Input.{files_of}
use Rattle.pawk_input.specs.Plan.{chunk_bytes}
use Rattle.pawk_input.specs.Walk.{block_records}
use Rattle.pawk_input.proofs.ItemsLemmas.{length-part}
use Rattle.pawk_input.proofs.plan.Plan.walk.Goals as goal

pub of_part-requires-clause-counted : goal.of_part-requires-clause-counted
of_part-requires-clause-counted c =
    let rs = c.args.rs.now in
    let files = files_of c.args.input.now in
    let chunk = c.chunk-chunk.result.now in
    let is : get_or c.args.self.now c.args.i chunk ≡ chunk = get_or_from_slice_get c.args.self.now c.args.i chunk chunk c.chunk-chunk.ensures in
    let placed = rw is at (c.placed_law.ensures c.args.i chunk c.requires.chunk) in
    let mended = c.pieces.ensures.mended rs (c.blocks-blocks.ensures.mended rs c.requires.ready) in
    let held : block_records rs c.pieces.result ≡ records_by rs (chunk_bytes files chunk) =
    sym (records_of_blocks rs c.pieces.result mended) ∙ ap (records_by rs) (rw c.blocks-blocks.ensures.value at c.pieces.ensures.bytes) in
    rw c.of.ensures (omega (arith, placed.fits, ap length held))

pub of_part-requires-clause-in_file : goal.of_part-requires-clause-in_file
of_part-requires-clause-in_file c =
    let chunk = c.chunk-chunk.result.now in
    let is : get_or c.args.self.now c.args.i chunk ≡ chunk = get_or_from_slice_get c.args.self.now c.args.i chunk chunk c.chunk-chunk.ensures in
    let placed = rw is at (c.placed_law.ensures c.args.i chunk c.requires.chunk) in
    placed.in_file

pub of_part-requires-clause-short : goal.of_part-requires-clause-short
of_part-requires-clause-short c =
    let files = files_of c.args.input.now in
    let chunk = c.chunk-chunk.result.now in
    let part = length-part files chunk.file chunk.range.start (chunk.range.end - chunk.range.start) in
    let held = ap length (rw c.blocks-blocks.ensures.value at c.pieces.ensures.bytes) in
    omega (arith, part, held)

pub returns : goal.returns
returns c =
    let rs = c.args.rs.now in
    let files = files_of c.args.input.now in
    let chunk = c.chunk-chunk.result.now in
    let mended = c.pieces.ensures.mended rs (c.blocks-blocks.ensures.mended rs c.requires.ready) in
    let held : block_records rs c.pieces.result ≡ records_by rs (chunk_bytes files chunk) =
    sym (records_of_blocks rs c.pieces.result mended) ∙ ap (records_by rs) (rw c.blocks-blocks.ensures.value at c.pieces.ensures.bytes) in
    rw c.chunk-chunk.ensures
    (rw (c.of.ensures, held, c.name.ensures) at c.of_part.ensures)
