use Rattle.std.proofs.Common.{◌≡◌, ◌++◌, List, ℕ, drop}
use Rattle.pawk_syntax_tree.specs.Tree.{trees, views}
use Rattle.pawk_syntax_show.specs.TreeText.{others_text}
use Rattle.pawk_syntax_show.proofs.expression.+expr.Given as goal

abbrev pub invariant-append_list-loop-other : goal.invariant-append_list-loop-other
invariant-append_list-loop-other l =
    (rest : List ℕ) → l.out.items ++ others_text (trees (views (drop l.other-index l.others))) rest
    ≡ l.initial.out.items ++ others_text (trees (views l.others)) rest
