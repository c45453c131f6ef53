use Rattle.std.proofs.Common.{◌≡◌, ◌-◌, Some, length, slice_get, slice_range, ap, sym, ◌∙◌, arith}
use Rattle.pawk_records.specs.Records.{records_by}
use Rattle.pawk_records.proofs.BlocksLemmas.{records_of_blocks}
use Rattle.pawk_input.specs.Input.{file_at, files_of}
use Rattle.pawk_input.specs.Walk.{block_records}
use Rattle.pawk_input.proofs.ItemsLemmas.{length-part}
use Rattle.pawk_input.proofs.PlacedLemmas.{run_from}
use Rattle.pawk_input.proofs.plan.Plan.walk_from.Goals as goal

pub overflow_sub-end : goal.overflow_sub-end
overflow_sub-end c =
    let last : slice_get c.args.self.now (length c.args.self.now - 1) ≡ Some c.chunk.result.now = rw c.len.ensures at c.chunk.ensures in
    let run = run_from c.args.rs.now (files_of c.args.input.now) c.args.self.now c.args.i c.chunk-first.result.now c.chunk.result.now c.requires.chunk c.chunk-first.ensures last c.requires.plan c.requires.consecutive in
    omega (arith, run.rises)

pub of_part-requires-clause-counted : goal.of_part-requires-clause-counted
of_part-requires-clause-counted c =
    let rs = c.args.rs.now in
    let files = files_of c.args.input.now in
    let first = c.chunk-first.result.now in
    let end = c.chunk.result.now.range.end in
    let last : slice_get c.args.self.now (length c.args.self.now - 1) ≡ Some c.chunk.result.now = rw c.len.ensures at c.chunk.ensures in
    let run = run_from rs files c.args.self.now c.args.i first c.chunk.result.now c.requires.chunk c.chunk-first.ensures last c.requires.plan c.requires.consecutive in
    let mended = c.pieces.ensures.mended rs (c.blocks-blocks.ensures.mended rs c.requires.ready) in
    let held : block_records rs c.pieces.result ≡ records_by rs (slice_range (file_at files first.file).bytes first.range.start end) =
    sym (records_of_blocks rs c.pieces.result mended) ∙ ap (records_by rs) (rw c.blocks-blocks.ensures.value at c.pieces.ensures.bytes) in
    rw c.of.ensures (omega (arith, run.fits, ap length held))

pub of_part-requires-clause-in_file : goal.of_part-requires-clause-in_file
of_part-requires-clause-in_file c =
    let last : slice_get c.args.self.now (length c.args.self.now - 1) ≡ Some c.chunk.result.now = rw c.len.ensures at c.chunk.ensures in
    let run = run_from c.args.rs.now (files_of c.args.input.now) c.args.self.now c.args.i c.chunk-first.result.now c.chunk.result.now c.requires.chunk c.chunk-first.ensures last c.requires.plan c.requires.consecutive in
    run.in_file

pub of_part-requires-clause-short : goal.of_part-requires-clause-short
of_part-requires-clause-short c =
    let files = files_of c.args.input.now in
    let first = c.chunk-first.result.now in
    let part = length-part files first.file first.range.start (c.chunk.result.now.range.end - first.range.start) in
    let held = ap length (rw c.blocks-blocks.ensures.value at c.pieces.ensures.bytes) in
    omega (arith, part, held)

pub returns : goal.returns
returns c =
    let rs = c.args.rs.now in
    let files = files_of c.args.input.now in
    let first = c.chunk-first.result.now in
    let end = c.chunk.result.now.range.end in
    let last : slice_get c.args.self.now (length c.args.self.now - 1) ≡ Some c.chunk.result.now = rw c.len.ensures at c.chunk.ensures in
    let run = run_from rs files c.args.self.now c.args.i first c.chunk.result.now c.requires.chunk c.chunk-first.ensures last c.requires.plan c.requires.consecutive in
    let mended = c.pieces.ensures.mended rs (c.blocks-blocks.ensures.mended rs c.requires.ready) in
    let held : block_records rs c.pieces.result ≡ records_by rs (slice_range (file_at files first.file).bytes first.range.start end) =
    sym (records_of_blocks rs c.pieces.result mended) ∙ ap (records_by rs) (rw c.blocks-blocks.ensures.value at c.pieces.ensures.bytes) in
    rw (c.of.ensures, held, c.name.ensures) at c.of_part.ensures ∙ sym run.items
