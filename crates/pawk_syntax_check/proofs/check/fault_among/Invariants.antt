use Rattle.std.proofs.Common.{◌≡◌, take}
use Rattle.std.specs.Option.{is_none}
use Rattle.std.specs.List.{list_all}
use Rattle.pawk_syntax_tree.specs.Item.{part}
use Rattle.pawk_syntax_check.specs.Views.{mention_view}
use Rattle.pawk_syntax_check.specs.FunctionViews.{function_under}
use Rattle.pawk_syntax_check.specs.Fits.{fits}
use Rattle.pawk_syntax_check.proofs.check.fault_among.Given as goal

abbrev pub invariant-loop-mention : goal.invariant-loop-mention
invariant-loop-mention l =
    is_none l.first ≡ list_all (λ m. fits (function_under l.functions) (part l.item) (mention_view m)) (take l.mention-index l.mentions)
