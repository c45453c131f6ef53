-- The heights of items that the code holds.
use Rattle.std.specs.Prelude.{ℕ}
use Rattle.pawk_syntax_tree.specs.declared.item.ProgramItem.{ProgramItem}
use Rattle.pawk_syntax_tree.specs.Item.{part, height_of_part}

abbrev pub height_in : ProgramItem → ℕ
height_in x = height_of_part (part x)
