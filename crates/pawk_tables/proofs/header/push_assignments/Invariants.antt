use Rattle.std.proofs.Common.{◌≡◌, ◌++◌, take, length}
use Rattle.std.specs.Prelude.{All}
use Rattle.pawk_lines.specs.Lines.{IsLine}
use Rattle.pawk_parts.specs.Parts.{all_bytes}
use Rattle.pawk_store.specs.Openings.{pairs_of}
use Rattle.pawk_tables.specs.Layout.{assign_lines}
use Rattle.pawk_tables.proofs.header.push_assignments.Given as goal

abbrev pub invariant-loop-assignment : goal.invariant-loop-assignment
invariant-loop-assignment l = record {
  written : l.out.items ≡ l.initial.out.items ++ all_bytes (assign_lines (pairs_of (take l.assignment-index l.assignments)));
  lines : All IsLine (assign_lines (pairs_of (take l.assignment-index l.assignments)));
  kept : take (length l.initial.out.items) l.out.items ≡ l.initial.out.items;
}
