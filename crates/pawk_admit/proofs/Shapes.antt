-- What statements are seen as that hold several parts.
use Rattle.std.proofs.Common.{◌≡◌, sym, ap, ◌∙◌}
use Rattle.std.specs.declared.vec.Vec.{Vec}
use Rattle.std.specs.declared.alloc.Global.{Global}
use Rattle.pawk_code.specs.declared.expression.Expr.{Expr}
use Rattle.pawk_code.specs.declared.name.Array.{Array}
use Rattle.pawk_code.specs.declared.name.Variable.{Variable}
use Rattle.pawk_code.specs.declared.statement.Head.{Head}
use Rattle.pawk_code.specs.declared.statement.Statement.{Statement}
use Rattle.pawk_code.specs.declared.statement.Statement.TheVariants as code
use Rattle.pawk_code.specs.declared.statement.Statement.TheVariants.{rolls-Choose, rolls-For, rolls-ForIn}
use Rattle.pawk_code.specs.declared.statement.Statement.TheOpen.{Statement-F}
use Rattle.pawk_code.specs.declared.statement.Statement.TheFolds.{fold-roll-Statement}
use Rattle.pawk_code.specs.ExpressionViews.{view}
use Rattle.pawk_code.specs.Statements.{Stmt, choose, loop, walk}
use Rattle.pawk_code.specs.StatementViews.{stmt_view, stmt_step, head_view, seen}

pub view-Choose : (e : Expr) (v w : Vec Statement Global) → stmt_view (code.Choose e v w) ≡ choose (view e) (seen v.items) (seen w.items)
view-Choose e v w = ap stmt_view (sym (rolls-Choose e v w)) ∙ fold-roll-Statement Stmt stmt_step (Statement-F.Choose e v w)

pub view-For : (h : Head) (v : Vec Statement Global) → stmt_view (code.For h v) ≡ loop (head_view h) (seen v.items)
view-For h v = ap stmt_view (sym (rolls-For h v)) ∙ fold-roll-Statement Stmt stmt_step (Statement-F.For h v)

pub view-ForIn : (k : Variable) (a : Array) (v : Vec Statement Global) → stmt_view (code.ForIn k a v) ≡ walk k a (seen v.items)
view-ForIn k a v = ap stmt_view (sym (rolls-ForIn k a v)) ∙ fold-roll-Statement Stmt stmt_step (Statement-F.ForIn k a v)
