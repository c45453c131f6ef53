use Rattle.std.proofs.Common.{◌≡◌, drop, subst, sym}
use Rattle.std.proofs.lemmas.List.{take_rest}
use Rattle.std.proofs.lemmas.Result.{err_from_is_err_and}
use Rattle.pawk_parts.specs.declared.refusal.TableRefusal.TheVariants.{Damage}
use Rattle.pawk_tables.specs.Reading.{IsPartAfter}
use Rattle.pawk_tables.proofs.SectionLemmas.{marked, marked_from_part, part_from_marked, table_in_front}
use Rattle.pawk_tables.proofs.section.read_part.Goals as goal

pub returns-in_err-read-clause-damage : goal.returns-in_err-read-clause-damage
returns-in_err-read-clause-damage c d output t q b =
    let p = err_from_is_err_and c.from_residual-in_err-read.result c.from_residual-in_err-read.ensures.1 in
    let refusal : c.in_err-read.field-0.0 ≡ Damage = cc (p.1, p.2) in
    let m = c.args.shape.scalars in
    let n = c.args.shape.arrays in
    let rest = c.in_ok-output.rest.now in
    let k = table_in_front m n rest q t (marked_from_part m n c.args.bytes.now rest q c.in_ok-output.output.now output t c.in_ok-output.ensures b) in
    c.in_err-read.ensures.damage refusal t k.0 k.1

pub returns-clause-found : goal.returns-clause-found
returns-clause-found c =
    let m = c.args.shape.scalars in
    let n = c.args.shape.arrays in
    let bytes = c.args.bytes.now in
    let rest = c.in_ok-output.rest.now in
    let read = c.in_ok-read.read in
    let output = c.in_ok-output.output.now in
    subst (λ q. IsPartAfter m n bytes output read.table q) (sym (take_rest rest read.length)) (part_from_marked m n bytes rest (drop read.length rest) output read.table c.in_ok-output.ensures (marked m n rest read.table read.length c.in_ok-read.ensures.found))
