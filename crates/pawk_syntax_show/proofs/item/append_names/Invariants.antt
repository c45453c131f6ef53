use Rattle.std.proofs.Common.{◌≡◌, ◌++◌, List, ℕ, drop}
use Rattle.pawk_syntax_tree.specs.Item.{texts}
use Rattle.pawk_syntax_show.specs.ProgramText.{other_names_text}
use Rattle.pawk_syntax_show.proofs.item.append_names.Given as goal

abbrev pub invariant-loop-other : goal.invariant-loop-other
invariant-loop-other l =
    (rest : List ℕ) → l.out.items ++ other_names_text (texts (drop l.other-index l.others)) rest
    ≡ l.initial.out.items ++ other_names_text (texts l.others) rest
