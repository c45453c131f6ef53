-- What statements are seen as: one that clears an array, and one of code with no body.
use Rattle.std.proofs.Common.{◌≡◌, sym, ap, ◌∙◌}
use Rattle.pawk_syntax_tree.specs.declared.tree.Name.{Name}
use Rattle.pawk_syntax_tree.specs.declared.statement.StatementTree.TheVariants as code
use Rattle.pawk_syntax_tree.specs.declared.statement.StatementTree.TheVariants.{rolls-DeleteArray}
use Rattle.pawk_syntax_tree.specs.declared.statement.StatementTree.TheOpen.{StatementTree-F}
use Rattle.pawk_syntax_tree.specs.declared.statement.StatementTree.TheFolds.{fold-roll-StatementTree}
use Rattle.pawk_syntax_tree.specs.Statement.{Stmt, stmt_view, stmt_step, clear}
use Rattle.pawk_code.specs.declared.statement.Simple.{Simple}
use Rattle.pawk_code.specs.declared.statement.Statement.TheVariants as new
use Rattle.pawk_code.specs.declared.statement.Statement.TheVariants.{rolls-Simple}
use Rattle.pawk_code.specs.declared.statement.Statement.TheOpen.{Statement-F as Code-F}
use Rattle.pawk_code.specs.declared.statement.Statement.TheFolds.{fold-roll-Statement as fold-roll-Code}
use Rattle.pawk_code.specs.Statements.{Stmt as Code, simple}
use Rattle.pawk_code.specs.StatementViews.{simple_view, stmt_view as code_view, stmt_step as code_step}

pub view-Simple : (x : Simple) → code_view (new.Simple x) ≡ simple (simple_view x)
view-Simple x = ap code_view (sym (rolls-Simple x)) ∙ fold-roll-Code Code code_step (Code-F.Simple x)

pub view-DeleteArray : (x : Name) → stmt_view (code.DeleteArray x) ≡ clear x.text.items
view-DeleteArray x = ap stmt_view (sym (rolls-DeleteArray x)) ∙ fold-roll-StatementTree Stmt stmt_step (StatementTree-F.DeleteArray x)
