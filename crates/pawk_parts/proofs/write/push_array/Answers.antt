use Rattle.std.proofs.Common.{◌≡◌, [], set, Some, refl, sym, ◌∙◌, ap, subst, rules}
use Rattle.std.proofs.lemmas.List.{set-get_or}
use Rattle.std.proofs.lemmas.Result.{err_from_is_err_and}
use Rattle.pawk_keyed_map.specs.Keys.{text_of}
use Rattle.pawk_frozen.specs.Marks.{put_mark}
use Rattle.pawk_frozen.specs.MarkViews.{mark_view}
use Rattle.pawk_lines.specs.Lines.{IsLine, array}
use Rattle.pawk_parts.specs.Writing.{Appends}
use Rattle.pawk_parts.proofs.ArrayLemmas.{WritesElement, whole_array}
use Rattle.pawk_parts.proofs.LineLemmas.{appends_line, appends_none, array_said}
use Rattle.pawk_parts.proofs.MarkLemmas.{first_unsaid, later_unsaid}
use Rattle.pawk_parts.proofs.RefusalLemmas.{on_damage_weaker}
use Rattle.pawk_parts.proofs.write.push_array.Goals as goal

pub returns-in_ok-push_elements-clause-written : goal.returns-in_ok-push_elements-clause-written
returns-in_ok-push_elements-clause-written c n within empty =
    let slot = c.args.slot in
    let old = c.args.out.now.items in
    let begun = c.push_line.new.out.items in
    let first = c.push_element.new.out.items in
    let new = c.push_elements.new.out.items in
    let k = text_of c.in-Some.key.now in
    let m = mark_view c.in-Some.mark.now in
    let rest = c.next.new.self in
    let is : c.args.marks.now ≡ put_mark k m rest = sym c.pairs-pairs.ensures ∙ c.in-Some.ensures.0 in
    let is_line : IsLine (array slot) = search rules in
    let line : Appends old begun n (record n { array = Some slot }) =
    appends_line old begun (array slot) n (record n { array = Some slot }) c.in_ok-push_line.ensures.written is_line refl (array_said slot n within) in
    let element : WritesElement begun first k m = rw c.text.ensures at c.in_ok-push_element.ensures.written in
    whole_array old begun first new n slot c.args.marks.now rest k m within empty is c.in-Some.ensures.1 line element c.in_ok-push_elements.ensures.written

pub returns-in_default-clause-written : goal.returns-in_default-clause-written
returns-in_default-clause-written c n within empty =
    let slot = c.args.slot in
    let old = c.args.out.now.items in
    let none : [] ≡ c.args.marks.now = sym c.in_default.ensures.0 ∙ c.pairs-pairs.ensures in
    let same : n.table.arrays ≡ set n.table.arrays slot c.args.marks.now =
    sym (set-get_or n.table.arrays slot []) ∙ ap (set n.table.arrays slot) (empty ∙ none) in
    (n.array, subst (λ xs. Appends old old n (record n { table = record n.table { arrays = xs } })) same (appends_none old n))

pub returns-in_err-push_element-clause-damage : goal.returns-in_err-push_element-clause-damage
returns-in_err-push_element-clause-damage c =
    let p = err_from_is_err_and c.from_residual-in_err-push_element.result c.from_residual-in_err-push_element.ensures.1 in
    let is : c.args.marks.now ≡ put_mark (text_of c.in-Some.key.now) (mark_view c.in-Some.mark.now) c.next.new.self = sym c.pairs-pairs.ensures ∙ c.in-Some.ensures.0 in
    rw (p.1, p.2)
    (on_damage_weaker c.in_err-push_element.field-0.0
    (λ h. first_unsaid (text_of c.in-Some.key.now) (mark_view c.in-Some.mark.now) c.args.marks.now c.next.new.self is h)
    c.in_err-push_element.ensures.damage)

pub returns-in_err-push_elements-clause-damage : goal.returns-in_err-push_elements-clause-damage
returns-in_err-push_elements-clause-damage c =
    let p = err_from_is_err_and c.from_residual-in_err-push_elements.result c.from_residual-in_err-push_elements.ensures.1 in
    let is : c.args.marks.now ≡ put_mark (text_of c.in-Some.key.now) (mark_view c.in-Some.mark.now) c.next.new.self = sym c.pairs-pairs.ensures ∙ c.in-Some.ensures.0 in
    rw (p.1, p.2)
    (on_damage_weaker c.in_err-push_elements.field-0.0
    (λ h. later_unsaid (text_of c.in-Some.key.now) (mark_view c.in-Some.mark.now) c.args.marks.now c.next.new.self is c.in-Some.ensures.1 h)
    c.in_err-push_elements.ensures.damage)
