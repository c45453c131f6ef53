-- The items of a program that was read, without where they lie.
use Rattle.std.specs.Prelude.{List, map}
use Rattle.pawk_syntax_tree.specs.Item.{Part, part}
use Rattle.pawk_syntax.specs.declared.program.Program.{Program}

abbrev pub parts : Program → List Part
parts p = map part p.items.items
