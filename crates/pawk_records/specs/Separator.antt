-- The separator that the bytes of RS name.
use Rattle.std.specs.Prelude.{ℕ, List, [], ◌∷◌}
use Rattle.pawk_records.specs.declared.separator.Separator.{Separator}
use Rattle.pawk_records.specs.declared.separator.Separator.TheVariants.{Byte, Paragraph}

-- the bytes of RS
abbrev pub rs_of : Separator → List ℕ
rs_of (Byte b) = b ∷ []
rs_of Paragraph = []
