use Rattle.std.proofs.Common.{◌∙◌}
use Rattle.pawk_lines.specs.Lines.{shown}
use Rattle.pawk_lines.proofs.LineLaws.{line_same, line_drop, line_in_front, lines_none}
use Rattle.pawk_lines.proofs.read.read_line.Goals as goal

pub returns-in-Ok-clause-found : goal.returns-in-Ok-clause-found
returns-in-Ok-clause-found c = line_in_front c.args.bytes.now c.in-Ok.rest.now (shown c.in-Ok.line) c.in-Ok.ensures

pub returns-in-Ok-clause-again : goal.returns-in-Ok-clause-again
returns-in-Ok-clause-again c l rest b =
    let same = line_same c.args.bytes.now (shown c.in-Ok.line) l c.in-Ok.rest.now rest c.in-Ok.ensures b in
    (same.line, line_drop c.args.bytes.now c.in-Ok.rest.now (shown c.in-Ok.line) c.in-Ok.ensures ∙ same.left)

pub returns-in-Err-Damage-clause-again : goal.returns-in-Err-Damage-clause-again
returns-in-Err-Damage-clause-again c l rest b = lines_none c.args.bytes.now l rest (rw c.in-Err-Damage.field-0-is at c.in-Err-Damage.ensures) b
