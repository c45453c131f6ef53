use Rattle.std.proofs.Common.{◌≡◌, ◌≤◌, [], ◌∷◌, length, ap, sym, ◌∙◌, arith}
use Rattle.pawk_records.specs.Separator.{rs_of}
use Rattle.pawk_records.specs.Blocks.{joined}
use Rattle.pawk_records.proofs.BlocksLemmas.{parts_all}
use Rattle.pawk_input.specs.Limits.{most_bytes}
use Rattle.pawk_input.specs.Input.{files_of, total_size}
use Rattle.pawk_input.specs.Lent.{lent_file}
use Rattle.pawk_input.specs.Walk.{items_ahead, items_in_blocks}
use Rattle.pawk_input.proofs.ItemsLemmas.{length-items_in_blocks, first_file}
use Rattle.pawk_input.proofs.walk.Records.of_files.Goals as goal

pub invariant_of-result-2 : goal.invariant_of-result-2
invariant_of-result-2 c =
    let rs = rs_of c.args.separator in
    let f = lent_file c.in-Some.first in
    let later = c.next_file.new.self in
    let all = c.pieces.ensures.value in
    let first : items_ahead rs 0 f.name 0 0 ([] ∷ c.pieces.result) later ≡ items_in_blocks rs 0 0 (f ∷ later) =
    rw all (first_file rs f later c.size.result (omega (arith, c.size.ensures))) in
    let few = length-items_in_blocks rs 0 0 (f ∷ later) in
    let limited : total_size (files_of (f ∷ later)) ≤ most_bytes = rw c.in-Some.ensures at c.requires.limited in
    let count = ap length c.in-Some.ensures in
    let held = ap (λ l. length (joined l)) (all ∙ parts_all c.size.result _ (omega (arith, c.size.ensures))) in
    (omega (arith, ap length first, few, limited), omega arith, omega (arith, count), omega (arith, held, limited), c.none-2.ensures rs [])

pub returns : goal.returns
returns c =
    let rs = rs_of c.args.separator in
    let f = lent_file c.in-Some.first in
    let later = c.next_file.new.self in
    let first : items_ahead rs 0 f.name 0 0 ([] ∷ c.pieces.result) later ≡ items_in_blocks rs 0 0 (f ∷ later) =
    rw c.pieces.ensures.value (first_file rs f later c.size.result (omega (arith, c.size.ensures))) in
    first ∙ ap (items_in_blocks rs 0 0) (sym c.in-Some.ensures)
