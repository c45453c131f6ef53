-- What a node with a list is seen as.
use Rattle.std.proofs.Common.{◌≡◌, ℕ, sym, ap, ◌∙◌, Option}
use Rattle.std.specs.declared.vec.Vec.{Vec}
use Rattle.std.specs.declared.alloc.Global.{Global}
use Rattle.pawk_lex.specs.declared.token.Builtin.{Builtin}
use Rattle.pawk_syntax_tree.specs.declared.tree.Name.{Name}
use Rattle.pawk_syntax_tree.specs.declared.tree.ExpressionTree.{ExpressionTree}
use Rattle.pawk_syntax_tree.specs.declared.tree.ExpressionTree.TheVariants as expr
use Rattle.pawk_syntax_tree.specs.declared.tree.ExpressionTree.TheVariants.{rolls-Call, rolls-Builtin, rolls-Element, rolls-Member}
use Rattle.pawk_syntax_tree.specs.declared.tree.ExpressionTree.TheOpen.{ExpressionTree-F}
use Rattle.pawk_syntax_tree.specs.declared.tree.ExpressionTree.TheFolds.{fold-roll-ExpressionTree}
use Rattle.pawk_syntax_tree.specs.Tree.{Tree, trees, view, views, view_step}
use Rattle.pawk_syntax_tree.specs.Tree as tree
use Rattle.pawk_syntax_tree.specs.declared.statement.StatementTree.{StatementTree}
use Rattle.pawk_syntax_tree.specs.declared.statement.StatementTree.TheVariants as code
use Rattle.pawk_syntax_tree.specs.declared.statement.StatementTree.TheVariants.{rolls-Delete, rolls-Return, rolls-ForIn, rolls-For, rolls-IfElse}
use Rattle.pawk_syntax_tree.specs.declared.statement.StatementTree.TheOpen.{StatementTree-F}
use Rattle.pawk_syntax_tree.specs.declared.statement.StatementTree.TheFolds.{fold-roll-StatementTree}
use Rattle.pawk_syntax_tree.specs.Statement.{Stmt, stmt_view, stmt_step, option_view}
use Rattle.pawk_syntax_tree.specs.Statement as stmt
use Rattle.pawk_syntax_tree.specs.Item.{seen as statements_seen}

pub view-Call : (f : Name) (v : Vec ExpressionTree Global) → view (expr.Call f v) ≡ tree.call f.text.items (trees (views v.items))
view-Call f v = ap view (sym (rolls-Call f v)) ∙ fold-roll-ExpressionTree Tree view_step (ExpressionTree-F.Call f v)

pub view-Builtin : (f : Builtin) (start : ℕ) (v : Vec ExpressionTree Global) → view (expr.Builtin f start v) ≡ tree.builtin f (trees (views v.items))
view-Builtin f start v = ap view (sym (rolls-Builtin f start v)) ∙ fold-roll-ExpressionTree Tree view_step (ExpressionTree-F.Builtin f start v)

pub view-Element : (x : Name) (v : Vec ExpressionTree Global) → view (expr.Element x v) ≡ tree.element x.text.items (trees (views v.items))
view-Element x v = ap view (sym (rolls-Element x v)) ∙ fold-roll-ExpressionTree Tree view_step (ExpressionTree-F.Element x v)

pub view-Member : (v : Vec ExpressionTree Global) (x : Name) → view (expr.Member v x) ≡ tree.member (trees (views v.items)) x.text.items
view-Member v x = ap view (sym (rolls-Member v x)) ∙ fold-roll-ExpressionTree Tree view_step (ExpressionTree-F.Member v x)

pub view-Delete : (x : Name) (v : Vec ExpressionTree Global) → stmt_view (code.Delete x v) ≡ stmt.delete x.text.items (trees (views v.items))
view-Delete x v = ap stmt_view (sym (rolls-Delete x v)) ∙ fold-roll-StatementTree Stmt stmt_step (StatementTree-F.Delete x v)

pub view-Return : (e : Option ExpressionTree) (start : ℕ) → stmt_view (code.Return e start) ≡ stmt.return_with (option_view e)
view-Return e start = ap stmt_view (sym (rolls-Return e start)) ∙ fold-roll-StatementTree Stmt stmt_step (StatementTree-F.Return e start)

pub view-ForIn : (k x : Name) (v : Vec StatementTree Global) → stmt_view (code.ForIn k x v) ≡ stmt.walk k.text.items x.text.items (statements_seen v.items)
view-ForIn k x v = ap stmt_view (sym (rolls-ForIn k x v)) ∙ fold-roll-StatementTree Stmt stmt_step (StatementTree-F.ForIn k x v)

pub view-For : (a b c : Option ExpressionTree) (v : Vec StatementTree Global) →
    stmt_view (code.For a b c v) ≡ stmt.loop (option_view a) (option_view b) (option_view c) (statements_seen v.items)
view-For a b c v = ap stmt_view (sym (rolls-For a b c v)) ∙ fold-roll-StatementTree Stmt stmt_step (StatementTree-F.For a b c v)

pub view-IfElse : (e : ExpressionTree) (v w : Vec StatementTree Global) →
    stmt_view (code.IfElse e v w) ≡ stmt.choose (view e) (statements_seen v.items) (statements_seen w.items)
view-IfElse e v w = ap stmt_view (sym (rolls-IfElse e v w)) ∙ fold-roll-StatementTree Stmt stmt_step (StatementTree-F.IfElse e v w)
