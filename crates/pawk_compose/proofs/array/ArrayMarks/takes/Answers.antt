use Rattle.std.proofs.Common.{◌≡◌, true, false, refl, sym, ◌∙◌}
use Rattle.pawk_keyed_map.specs.Keys.{text_of}
use Rattle.pawk_frozen.specs.Marks.{mark_found}
use Rattle.pawk_frozen.specs.MarkViews.{mark_view}
use Rattle.pawk_compose.specs.Compositions.{may_follow}
use Rattle.pawk_compose.proofs.KeyLemmas.{all_follow, fewer_left, first_follows, none_left, rest_follow}
use Rattle.pawk_compose.proofs.array.ArrayMarks.takes.Goals as goal

pub loop-key-smaller : goal.loop-key-smaller
loop-key-smaller c =
    fewer_left (text_of c.in-Some.key.now) (mark_view c.in-Some.mark.now) c.loop-key.pairs c.next.new.self c.in-Some.ensures.0 c.in-Some.ensures.1

pub loop-key-preserved : goal.loop-key-preserved
loop-key-preserved c =
    let es = c.args.self.now in
    let k = text_of c.in-Some.key.now in
    let m = mark_view c.in-Some.mark.now in
    let may : may_follow (mark_found k es) m ≡ true = rw c.text.ensures at (sym c.takes_mark.ensures ∙ c.if-not-takes_mark.false) in (
      λ h. c.loop-key.invariant.0 (all_follow k m c.loop-key.pairs c.next.new.self c.in-Some.ensures.0 c.in-Some.ensures.1 es may h),
      λ h. rest_follow k m c.loop-key.pairs c.next.new.self c.in-Some.ensures.0 c.in-Some.ensures.1 es (c.loop-key.invariant.1 h),
    )

pub returns-then-not-takes_mark : goal.returns-then-not-takes_mark
returns-then-not-takes_mark c =
    let es = c.args.self.now in
    let k = text_of c.in-Some.key.now in
    let m = mark_view c.in-Some.mark.now in
    let refused : may_follow (mark_found k es) m ≡ false = rw c.text.ensures at (sym c.takes_mark.ensures ∙ c.if-not-takes_mark.true) in (
      λ h. cc,
      λ h.
          let may = first_follows k m c.loop-key.pairs c.next.new.self c.in-Some.ensures.0 c.in-Some.ensures.1 es (c.loop-key.invariant.1 h) in
          cc,
    )

pub returns : goal.returns
returns c = (λ h. c.loop-key.invariant.0 (none_left c.args.self.now c.loop-key.pairs c.in_default.ensures.0), λ h. refl)
