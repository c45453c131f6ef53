use Rattle.std.proofs.Common.{◌≡◌, [], Err, ap}
use Rattle.std.proofs.lemmas.Result.{err_from_is_err_and}
use Rattle.pawk_lines.specs.Lines.{BeginsLine}
use Rattle.pawk_lines.specs.Lines as lines
use Rattle.pawk_parts.specs.declared.refusal.TableRefusal.TheVariants.{Damage}
use Rattle.pawk_tables.proofs.SectionLemmas.{head, item_first, not_empty, part_none, records_last, section_from_part}
use Rattle.pawk_tables.proofs.section.read_section.Goals as goal

pub returns-in_err-line-clause-damage : goal.returns-in_err-line-clause-damage
returns-in_err-line-clause-damage c d i q b =
    let f = item_first c.args.shape.scalars c.args.shape.arrays c.args.bytes.now q i b in
    c.in_err-line.ensures (head i) f.0 f.1

pub returns-in_err-output-in-Part-clause-damage : goal.returns-in_err-output-in-Part-clause-damage
returns-in_err-output-in-Part-clause-damage c d i q b =
    let p = err_from_is_err_and c.from_residual-in_err-output-in-Part.result c.from_residual-in_err-output-in-Part.ensures.1 in
    let refusal : c.in_err-output-in-Part.field-0.0 ≡ Damage = cc (p.1, p.2) in
    let bytes = c.args.bytes.now in
    let rest = c.in_ok-line.rest.now in
    let here : BeginsLine bytes (lines.part c.in-Part.records) rest = rw c.in-Part.is at c.in_ok-line.ensures in
    part_none c.args.shape.scalars c.args.shape.arrays c.in-Part.records bytes rest q i here (c.in_err-output-in-Part.ensures.damage (ap Err refusal)) b

pub returns-in_ok-output-in-Part-clause-found : goal.returns-in_ok-output-in-Part-clause-found
returns-in_ok-output-in-Part-clause-found c =
    let bytes = c.args.bytes.now in
    let rest = c.in_ok-line.rest.now in
    let here : BeginsLine bytes (lines.part c.in-Part.records) rest = rw c.in-Part.is at c.in_ok-line.ensures in
    section_from_part c.args.shape.scalars c.args.shape.arrays c.in-Part.records bytes rest c.in_ok-output-in-Part.rest.now c.in_ok-output-in-Part.output.now c.in_ok-output-in-Part.table here c.in_ok-output-in-Part.ensures.found

pub returns-else-is_empty-clause-damage : goal.returns-else-is_empty-clause-damage
returns-else-is_empty-clause-damage c d i q b =
    let bytes = c.args.bytes.now in
    let rest = c.in_ok-line.rest.now in
    let here : BeginsLine bytes (lines.records c.in-Records.records) rest = rw c.in-Records.is at c.in_ok-line.ensures in
    let none : rest ≡ [] = records_last c.args.shape.scalars c.args.shape.arrays c.in-Records.records bytes rest q i here b in
    not_empty rest none c.if-is_empty.ensures
