use Rattle.std.proofs.Common.{◌≡◌, ◌∷◌, List, sym, ◌∙◌, ap, subst}
use Rattle.pawk_keyed_map.specs.declared.key.Key.{Key}
use Rattle.pawk_keyed_map.specs.Keyed.{Rise}
use Rattle.pawk_keyed_map.specs.Keys.{text_of}
use Rattle.pawk_keyed_map.specs.Pairs.{OccurOnce}
use Rattle.pawk_keyed_map.proofs.PairsLemmas.{occur_once, rise-seen_by}
use Rattle.pawk_frozen.specs.declared.mark.CellMark.{CellMark}
use Rattle.pawk_frozen.specs.Marks.{Marks}
use Rattle.pawk_frozen.specs.MarkViews.{mark_view, marks_of}
use Rattle.pawk_compose.proofs.NotingLemmas.{AreWriting, all_written, none_written, one_written}
use Rattle.pawk_compose.proofs.array.ArrayMarks.note.Goals as goal

pub loop-key-init : goal.loop-key-init
loop-key-init c =
    let t = c.args.table.now in
    let given = c.into_iter-pairs.ensures.into_iter_gives in
    record {
      once = rw given.0 (occur_once mark_view c.self.inside.map.entries given.4);
      writing =
          subst (λ (left : Marks). AreWriting t t c.args.slot c.args.self left) (sym (ap marks_of given.0 ∙ c.self.view_is))
          (none_written t c.args.slot c.args.self c.requires.none);
    }

-- for a short key, and for a long one, whose memory is freed
pub loop-key-preserved : goal.loop-key-preserved
loop-key-preserved c =
    let k = text_of c.in-Some.key in
    let m = mark_view c.in-Some.mark in
    let rest = c.next.new.self in
    let one : c.loop-key.pairs ≡ (c.in-Some.key, c.in-Some.mark) ∷ rest = c.in-Some.ensures.steps in
    let once = subst (λ (es : List (Key × CellMark)). OccurOnce mark_view es) one c.loop-key.invariant.once in
    let says = rw c.text.ensures at c.in_ok-note_element.ensures in
    record {
      once = once.1;
      writing =
          one_written c.args.table.now c.loop-key.table c.note_element.new.self c.args.slot c.args.self (marks_of c.loop-key.pairs) (marks_of rest) k m
          c.requires.within (ap marks_of one) once.0 c.loop-key.invariant.writing c.in_ok-note_element.field-0 says;
    }

pub loop-key-preserved-in_ok-note_element : goal.loop-key-preserved-in_ok-note_element
loop-key-preserved-in_ok-note_element c =
    let k = text_of c.in-Some.key in
    let m = mark_view c.in-Some.mark in
    let rest = c.next.new.self in
    let one : c.loop-key.pairs ≡ (c.in-Some.key, c.in-Some.mark) ∷ rest = c.in-Some.ensures.steps in
    let once = subst (λ (es : List (Key × CellMark)). OccurOnce mark_view es) one c.loop-key.invariant.once in
    let says = rw c.text.ensures at c.in_ok-note_element.ensures in
    record {
      once = once.1;
      writing =
          one_written c.args.table.now c.loop-key.table c.note_element.new.self c.args.slot c.args.self (marks_of c.loop-key.pairs) (marks_of rest) k m
          c.requires.within (ap marks_of one) once.0 c.loop-key.invariant.writing c.in_ok-note_element.field-0 says;
    }

pub returns : goal.returns
returns c =
    let rise = subst Rise c.self.view_is (rise-seen_by mark_view c.self.inside.map.entries) in
    all_written c.args.table.now c.loop-key.table c.args.slot c.args.self (marks_of c.loop-key.pairs) rise (ap marks_of c.in_default.ensures.steps.0) c.loop-key.invariant.writing
