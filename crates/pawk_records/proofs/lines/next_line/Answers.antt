use Rattle.std.proofs.Common.{◌+◌, ◌-◌, ◌<◌, [], length, arith}
use Rattle.std.proofs.lemmas.List.{length-drop}
use Rattle.pawk_records.proofs.FindLemmas.{no_line, line_at}
use Rattle.pawk_records.proofs.lines.next_line.Goals as goal

pub returns-in-Some : goal.returns-in-Some
returns-in-Some c =
    let s = c.args.bytes.now in
    let e = c.args.separator in
    let from = c.args.from in
    let i = c.in-Some.end in
    let some : 0 < from = omega arith in
    let first = rw c.split_at.ensures.back at c.in-Some.ensures in (
      record {
        low = omega arith;
        high = omega arith;
        before = no_line e [] s from some (from + i) (omega arith) (λ k low high at. first.0.before k low (omega arith) at);
      },
      line_at e [] s from some i first.1,
    )

pub returns-in_default : goal.returns-in_default
returns-in_default c =
    let s = c.args.bytes.now in
    let first = rw c.split_at.ensures.back at c.in-Some.ensures in
    no_line c.args.separator [] s c.args.from (omega arith) (length s) (omega arith) (λ k low high at. first.0.before k low (omega arith) at)

pub returns-in_default-2 : goal.returns-in_default-2
returns-in_default-2 c =
    let s = c.args.bytes.now in
    let none = rw c.split_at.ensures.back at c.in_default.ensures in
    no_line c.args.separator [] s c.args.from (omega arith) (length s) (omega arith) (λ k low high at. none k low (omega (arith, length-drop (c.args.from - 1) s)) at)
