-- What the functions that read items ensure.
use Rattle.std.specs.Prelude.{Bool, List, map, Vec, Box}
use Rattle.std.specs.declared.alloc.Global.{Global}
use Rattle.pawk_lex.specs.Bytes.{Text}
use Rattle.pawk_syntax_tree.specs.Tree.{Tree}
use Rattle.pawk_syntax_tree.specs.declared.tree.Name.{Name}
use Rattle.pawk_syntax_parse.specs.declared.phrase.Phrase.{Phrase}
use Rattle.pawk_syntax_parse.specs.Reads.{tree_of}
use Rattle.pawk_syntax_tree.specs.declared.item.ProgramItem.{ProgramItem}
use Rattle.pawk_syntax_tree.specs.Statement.{Stmts, stmts}
use Rattle.pawk_syntax_tree.specs.Item.{Part as Shape, part, texts}
use Rattle.pawk_syntax_grammar.specs.declared.body.Body.{Body}
use Rattle.pawk_syntax_grammar.specs.Reads.{body_of}
use Rattle.pawk_syntax_grammar.specs.declared.part.ProgramPart.{ProgramPart}

abbrev pub action_of : Body → Stmts
action_of b = stmts (body_of b)

-- the tree of a phrase in a box
abbrev pub tree_in : Box Phrase Global → Tree
tree_in p = tree_of p.value

abbrev pub part_of : ProgramPart → Shape × Bool
part_of p = (part p.item, p.closes)

abbrev pub names_of : Vec Name Global → List Text
names_of v = texts v.items

abbrev pub items_of : Vec ProgramItem Global → List Shape
items_of v = map part v.items
