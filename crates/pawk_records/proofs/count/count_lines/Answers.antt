use Rattle.std.proofs.Common.{◌≡◌, ◌≢◌, ◌+◌, ◌-◌, ◌<◌, length, get_or, ap, sym, ◌∙◌, rules, tests, arith}
use Rattle.std.proofs.lemmas.List.Sums.{count_by-le-length}
use Rattle.memchr.specs.Find.{is_byte}
use Rattle.pawk_records.proofs.LineLemmas.{length-records-ended, length-records-open}
use Rattle.pawk_records.proofs.count.count_lines.Goals as goal

pub returns-then-bytes-separator : goal.returns-then-bytes-separator
returns-then-bytes-separator c =
    let e = c.args.separator in
    let s = c.args.bytes.now in
    let some : 0 < length s = search (rules, tests) in
    let last : get_or s (length s - 1) 0 ≡ e = search (rules, tests) in
    c.count_byte-ends.ensures ∙ sym (length-records-ended e s some last)

pub overflow_add-result : goal.overflow_add-result
overflow_add-result c = omega (arith, c.count_byte-ends.ensures, count_by-le-length (is_byte c.args.separator) c.args.bytes.now)

pub returns-else-bytes-separator : goal.returns-else-bytes-separator
returns-else-bytes-separator c =
    let e = c.args.separator in
    let s = c.args.bytes.now in
    let some : 0 < length s = search (rules, tests) in
    let last : get_or s (length s - 1) 0 ≢ e = search (rules, tests) in
    ap (λ n. n + 1) c.count_byte-ends.ensures ∙ sym (length-records-open e s some last)
