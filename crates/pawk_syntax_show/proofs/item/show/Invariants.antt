use Rattle.std.proofs.Common.{◌≡◌, ◌++◌, drop}
use Rattle.std.specs.Prelude.{map}
use Rattle.pawk_syntax_tree.specs.Item.{part}
use Rattle.pawk_syntax_show.specs.ProgramText.{program_text}
use Rattle.pawk_syntax_show.proofs.item.show.Given as goal

abbrev pub invariant-loop-item : goal.invariant-loop-item
invariant-loop-item l = l.text.items ++ program_text (map part (drop l.item-index l.items)) ≡ program_text (map part l.items)
