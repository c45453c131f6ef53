use Rattle.std.proofs.Common.{drop}
use Rattle.pawk_lines.specs.Lines.{shown}
use Rattle.pawk_parts.proofs.read.Reader.read_mark.Goals as goal

pub returns-else-branch : goal.returns-else-branch
returns-else-branch c =
    let line = c.in-Some.found.line in
    let front = rw c.in-Some.is at c.in_ok-found.ensures.found in
    let noted = rw c.if-branch.false at c.in_ok-note.ensures in (
      noted.1,
      record { line = shown line; rest = drop c.in-Some.found.length c.args.bytes.now; begins = front.begins; other = noted.0 },
    )
