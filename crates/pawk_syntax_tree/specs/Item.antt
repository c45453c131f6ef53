-- Items without where they lie in memory.
use Rattle.std.specs.Prelude.{◌≤◌, ℕ, suc, max, List, [], ◌∷◌, map}
use Rattle.pawk_lex.specs.Bytes.{Text}
use Rattle.pawk_syntax_tree.specs.declared.tree.Name.{Name}
use Rattle.pawk_syntax_tree.specs.Tree.{Tree, none, more, record_tree, view}
use Rattle.pawk_syntax_tree.specs.Canonical.{height}
use Rattle.pawk_syntax_tree.specs.Parse.{greatest_height}
use Rattle.pawk_syntax_tree.specs.declared.item.ProgramItem.{ProgramItem as Code}
use Rattle.pawk_syntax_tree.specs.declared.item.ProgramItem.TheVariants as code
use Rattle.pawk_syntax_tree.specs.declared.statement.StatementTree.{StatementTree}
use Rattle.pawk_syntax_tree.specs.Statement.{Stmts, done, next, print, stmts, stmt_view, highest_of}

pub data Part : Type 0 where
  begin : Stmts → Part
  end : Stmts → Part
  always : Stmts → Part
  matching : Tree → Stmts → Part
  between : Tree → Tree → Stmts → Part
  define : Text → List Text → Stmts → Part

abbrev pub seen : List StatementTree → Stmts
seen xs = stmts (map stmt_view xs)

abbrev pub texts : List Name → List Text
texts = map (λ x. x.text.items)

abbrev pub part : Code → Part
part (code.Begin v) = begin (seen v.items)
part (code.End v) = end (seen v.items)
part (code.Always v) = always (seen v.items)
part (code.When e v) = matching (view e) (seen v.items)
part (code.Range e f v) = between (view e) (view f) (seen v.items)
part (code.Function f ps v) = define f.text.items (texts ps.items) (seen v.items)

-- the action of a rule that has none
abbrev pub print_record : Stmts
print_record = next (print (more record_tree none)) done

-- a rule and a function are one node
abbrev pub height_of_part : Part → ℕ
height_of_part (begin a) = suc (highest_of a)
height_of_part (end a) = suc (highest_of a)
height_of_part (always a) = suc (highest_of a)
height_of_part (matching e a) = suc (max (height e) (highest_of a))
height_of_part (between e f a) = suc (max (height e) (max (height f) (highest_of a)))
height_of_part (define f ps a) = suc (highest_of a)

-- no item is too high
abbrev pub AreLow : List Part → Type 0
AreLow [] = Unit {0}
AreLow (x ∷ xs) = (height_of_part x ≤ greatest_height) × AreLow xs
