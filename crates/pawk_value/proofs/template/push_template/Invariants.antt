use Rattle.std.proofs.Common.{◌≡◌, ◌||◌, drop, []}
use Rattle.std.specs.List.{flat_map}
use Rattle.pawk_value.specs.Format.{text_of_pieces, has_bytes, writes}
use Rattle.pawk_value.specs.FormatViews.{shown_values}
use Rattle.pawk_value.specs.TemplateViews.{part_pieces}
use Rattle.pawk_value.proofs.template.push_template.Given as goal

abbrev pub invariant-loop-part : goal.invariant-loop-part
invariant-loop-part l = record {
  text : text_of_pieces (flat_map part_pieces (drop l.part-index l.template.parts.items)) (shown_values l.left) l.out.items ≡ text_of_pieces (flat_map part_pieces l.template.parts.items) (shown_values l.arguments) [];
  first : (has_bytes l.out.items || writes (flat_map part_pieces (drop l.part-index l.template.parts.items)) (shown_values l.left)) ≡ writes (flat_map part_pieces l.template.parts.items) (shown_values l.arguments);
}
