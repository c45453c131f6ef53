use Rattle.std.proofs.Common.{rules}
use Rattle.pawk_fields.proofs.separator.find_separator.Goals as goal

pub returns-then-byte-ne-NEWLINE : goal.returns-then-byte-ne-NEWLINE
returns-then-byte-ne-NEWLINE c = search rules depth 3
