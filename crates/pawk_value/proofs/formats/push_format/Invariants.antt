use Rattle.std.proofs.Common.{◌≡◌, ◌||◌, length, []}
use Rattle.pawk_value.specs.Format.{text_of_pieces, has_bytes, writes}
use Rattle.pawk_value.specs.FormatViews.{cap_pieces_of, shown_values}
use Rattle.pawk_value.proofs.formats.push_format.Given as goal

abbrev pub invariant-loop-rest : goal.invariant-loop-rest
invariant-loop-rest l = record {
  text : text_of_pieces (cap_pieces_of l.rest) (shown_values l.left) l.out.items ≡ text_of_pieces (cap_pieces_of l.format) (shown_values l.arguments) [];
  first : (has_bytes l.out.items || writes (cap_pieces_of l.rest) (shown_values l.left)) ≡ writes (cap_pieces_of l.format) (shown_values l.arguments);
}

abbrev pub decreases-loop-rest : goal.decreases-loop-rest
decreases-loop-rest l = length l.rest
