use Rattle.std.proofs.lemmas.Result.{err_from_is_err_and}
use Rattle.pawk_parts.specs.Reading.{noted_by}
use Rattle.pawk_parts.proofs.FrontLemmas.{no_table, read_same, reading_within, table_from_reading}
use Rattle.pawk_parts.proofs.RefusalLemmas.{at_damage, only_memory}
use Rattle.pawk_parts.proofs.read.read_table.Goals as goal

pub returns-in_err-length-clause-again : goal.returns-in_err-length-clause-again
returns-in_err-length-clause-again c table count h =
    let r = c.from_residual-in_err-length in
    let p = err_from_is_err_and r.result r.ensures.1 in
    rw (p.1, p.2)
    (only_memory c.in_err-length.field-0.0 c.in_err-length.ensures
    (λ none. no_table c.args.scalars c.args.arrays c.args.bytes.now (noted_by c.in_ok-reader.reader) c.in_ok-reader.ensures none table count h))

pub returns-in_err-length-clause-damage : goal.returns-in_err-length-clause-damage
returns-in_err-length-clause-damage c =
    let r = c.from_residual-in_err-length in
    let p = err_from_is_err_and r.result r.ensures.1 in
    rw (p.1, p.2)
    (λ damage. no_table c.args.scalars c.args.arrays c.args.bytes.now (noted_by c.in_ok-reader.reader) c.in_ok-reader.ensures
    (at_damage c.in_err-length.field-0.0 c.in_err-length.ensures damage))

pub returns-clause-found : goal.returns-clause-found
returns-clause-found c =
    let reading = rw c.in_ok-reader.ensures at c.in_ok-length.ensures in
    table_from_reading c.args.scalars c.args.arrays c.args.bytes.now (noted_by c.read_marks.new.self) c.in_ok-length.length reading

pub returns-clause-again : goal.returns-clause-again
returns-clause-again c table count h =
    read_same c.args.scalars c.args.arrays c.args.bytes.now (noted_by c.in_ok-reader.reader) (noted_by c.read_marks.new.self) table c.in_ok-length.length count
    c.in_ok-reader.ensures c.in_ok-length.ensures h

pub returns-clause-within : goal.returns-clause-within
returns-clause-within c = reading_within c.args.bytes.now (noted_by c.in_ok-reader.reader) (noted_by c.read_marks.new.self) c.in_ok-length.length c.in_ok-length.ensures
