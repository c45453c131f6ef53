use Rattle.std.proofs.Common.{◌≡◌, ◌≤◌, ◌++◌, length}
use Rattle.std.specs.List.{flat_map}
use Rattle.pawk_value.specs.FormatViews.{cap_pieces_of}
use Rattle.pawk_value.specs.TemplateViews.{part_pieces}
use Rattle.pawk_value.proofs.template.read_template.Given as goal

abbrev pub invariant-loop-rest : goal.invariant-loop-rest
invariant-loop-rest l = record {
  pieces : flat_map part_pieces l.parts.items ++ cap_pieces_of l.rest ≡ cap_pieces_of l.format;
  within : length l.rest ≤ length l.format;
}

abbrev pub decreases-loop-rest : goal.decreases-loop-rest
decreases-loop-rest l = length l.rest
