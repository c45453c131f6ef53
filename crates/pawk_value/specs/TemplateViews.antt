-- What a format that was read once shows.
use Rattle.std.specs.Prelude.{◌≡◌, ℕ, List, [], ◌∷◌, map}
use Rattle.std.specs.List.{flat_map}
use Rattle.pawk_value.specs.declared.template.FormatPart.{FormatPart}
use Rattle.pawk_value.specs.declared.template.FormatPart.TheVariants as part
use Rattle.pawk_value.specs.declared.template.Template.{Template}
use Rattle.pawk_value.specs.Format.{Piece, Plain, Percent, Place, Malformed}
use Rattle.pawk_value.specs.FormatViews.{cap_pieces_of}

-- the pieces that a part shows
abbrev pub part_pieces : FormatPart → List Piece
part_pieces (part.Plain bytes) = map Plain bytes.items
part_pieces part.Percent = Percent ∷ []
part_pieces (part.Place d) = Place d ∷ []
part_pieces part.Malformed = Malformed ∷ []

-- the template has the pieces of the format
abbrev pub IsTemplateOf : Template → List ℕ → Type 0
IsTemplateOf template format = flat_map part_pieces template.parts.items ≡ cap_pieces_of format
