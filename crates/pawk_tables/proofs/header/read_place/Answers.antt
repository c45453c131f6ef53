use Rattle.std.proofs.lemmas.Result.{err_from_is_err_and}
use Rattle.pawk_lines.specs.Lines.{BeginsLine, shard}
use Rattle.pawk_tables.proofs.HeaderLemmas.{place_first, place_none}
use Rattle.pawk_tables.proofs.header.read_place.Goals as goal

pub returns-in_err-first : goal.returns-in_err-first
returns-in_err-first c =
    let p = err_from_is_err_and c.from_residual.result c.from_residual.ensures.1 in
    rw p.1 (λ o n q b. let f = place_first c.args.bytes.now q o n b in c.in_err-first.ensures f.0 f.1 f.2)

pub returns-in_err-before-in-Shard-default : goal.returns-in_err-before-in-Shard-default
returns-in_err-before-in-Shard-default c =
    let p = err_from_is_err_and c.from_residual-in_err-before-in-Shard-default.result c.from_residual-in_err-before-in-Shard-default.ensures.1 in
    let bytes = c.args.bytes.now in
    let k = c.in-Shard-default.first in
    let j = c.in-Shard-default.last in
    let i = c.in-Shard-default.of in
    let rest = c.in_ok-first.field-0.1.now in
    let here : BeginsLine bytes (shard k j i) rest = rw c.in-Shard-default.is-0 at c.in_ok-first.ensures in
    rw p.1 (λ o n q b. place_none bytes rest q k j i o n here c.in_err-before-in-Shard-default.ensures b)
