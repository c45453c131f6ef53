use Rattle.std.proofs.Common.{sym, ◌∙◌, ap}
use Rattle.pawk_frozen.specs.Marks.{mark_or_blank}
use Rattle.pawk_frozen.specs.MarkViews.{mark_view}
use Rattle.pawk_compose.specs.Compositions.{may_follow}
use Rattle.pawk_compose.proofs.MarkLemmas.{follows_nothing}
use Rattle.pawk_compose.proofs.array.ArrayMarks.takes_mark.Goals as goal

pub returns-in-Some : goal.returns-in-Some
returns-in-Some c =
    c.may_follow.ensures ∙ ap (λ o. may_follow (mark_or_blank o) (mark_view c.args.mark.now)) c.in-Some.ensures

pub returns-in-None : goal.returns-in-None
returns-in-None c =
    sym (follows_nothing (mark_view c.args.mark.now)) ∙ ap (λ o. may_follow (mark_or_blank o) (mark_view c.args.mark.now)) c.in-None.ensures
