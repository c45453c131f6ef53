use Rattle.std.proofs.Common.{◌≡◌, ◌++◌, drop}
use Rattle.pawk_syntax_tree.specs.Tree.{trees, views}
use Rattle.pawk_syntax_check.specs.Mentions.{inside_all}
use Rattle.pawk_syntax_check.specs.Views.{seen, setting_view}
use Rattle.pawk_syntax_check.proofs.expression.+expression.Given as goal

abbrev pub invariant-list-loop-place : goal.invariant-list-loop-place
invariant-list-loop-place l =
    seen l.mentions ++ inside_all (setting_view l.setting) l.place (trees (views (drop l.place l.list)))
    ≡ seen l.fn.mentions ++ inside_all (setting_view l.setting) 0 (trees (views l.list))
