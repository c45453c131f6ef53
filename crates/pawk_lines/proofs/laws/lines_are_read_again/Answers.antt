use Rattle.std.proofs.Common.{refl}
use Rattle.pawk_lines.specs.Lines.{line_bytes}
use Rattle.std.proofs.Common.{◌++◌}
use Rattle.pawk_lines.proofs.LineLaws.{line_same}
use Rattle.pawk_lines.proofs.laws.lines_are_read_again.Goals as goal

pub returns-clause-begins : goal.returns-clause-begins
returns-clause-begins c l rest h = record { line = h; front = refl }

pub returns-clause-line : goal.returns-clause-line
returns-clause-line c l k rest others h j e =
    let same = line_same (line_bytes l ++ rest) l k rest others (record { line = h; front = refl }) (record { line = j; front = e }) in
    (same.line, same.left)
