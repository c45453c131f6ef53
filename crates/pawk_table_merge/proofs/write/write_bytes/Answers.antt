use Rattle.std.proofs.Common.{take, drop, sym, take-append-drop}
use Rattle.pawk_table_merge.proofs.write.write_bytes.Goals as goal

pub returns-in-Err-clause-some : goal.returns-in-Err-clause-some
returns-in-Err-clause-some g c =
    let n = c.in-Err.field-0 in
    let bytes = c.args.bytes.now in
    record { wrote = take n bytes; appends = c.in-Err.ensures.part.1; is = (drop n bytes, sym (take-append-drop n bytes)) }
