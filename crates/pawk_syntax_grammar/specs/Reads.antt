-- What the functions that make statements ensure.
use Rattle.std.specs.Prelude.{List, Option, Some, None, Box}
use Rattle.std.specs.declared.alloc.Global.{Global}
use Rattle.pawk_lex.specs.Bytes.{Text}
use Rattle.pawk_syntax_tree.specs.Tree.{Tree}
use Rattle.pawk_syntax_tree.specs.declared.tree.Name.{Name}
use Rattle.pawk_syntax_parse.specs.declared.phrase.Phrase.{Phrase}
use Rattle.pawk_syntax_parse.specs.Reads.{tree_of}
use Rattle.pawk_syntax_tree.specs.Statement.{Stmt, stmt_view}
use Rattle.pawk_syntax_grammar.specs.declared.body.Body.{Body}
use Rattle.pawk_syntax_grammar.specs.declared.body.BodyStatement.{BodyStatement}
use Rattle.pawk_syntax_grammar.specs.Views.{stmt_views}

abbrev pub body_of : Body → List Stmt
body_of b = stmt_views b.list.items

abbrev pub option_of : Option (Box Phrase Global) → Option Tree
option_of None = None
option_of (Some p) = Some (tree_of p.value)

abbrev pub stmt_of : BodyStatement → Stmt
stmt_of l = stmt_view l.statement.value

abbrev pub names_of : Name × Name → Text × Text
names_of p = (p.0.text.items, p.1.text.items)
