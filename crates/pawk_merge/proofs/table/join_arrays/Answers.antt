use Rattle.std.proofs.Common.{◌≡◌, ◌<◌, ◌≤◌, ◌∷◌, [], ℕ, true, drop, length, get_or, set, refl, sym, ◌∙◌, ap, arith}
use Rattle.std.proofs.lemmas.List.{get_or_past}
use Rattle.std.specs.Vec.Iter.{into_iter_items}
use Rattle.pawk_array.specs.Entries.{Entries}
use Rattle.pawk_store.specs.Globals.{Globals, array_at}
use Rattle.pawk_merge.specs.Tables.{array_marks, array_takes, arrays_take, join_array}
use Rattle.pawk_merge.specs.Tables as spec
use Rattle.pawk_merge.proofs.SlotLemmas.{done_more, done_all, later_slot, each_below_more, each_below_fewer, each_below_false, left_within, left_at, left_after, same_globals}
use Rattle.pawk_merge.proofs.StopLemmas.{stops_too}
use Rattle.pawk_merge.proofs.table.join_arrays.Goals as goal

pub loop-of_elements-preserved : goal.loop-of_elements-preserved
loop-of_elements-preserved c =
    let i = c.loop-of_elements.slot in
    let ms = c.args.marks.items in
    let f = λ (n : ℕ) (es : Entries). join_array (array_marks ms n) es in
    let old = c.args.globals.now.arrays in
    let now = c.loop-of_elements.globals.arrays in
    let rest = into_iter_items c.next.new.self in
    let left : drop i ms ≡ c.in-Some.of_elements ∷ rest = sym c.loop-of_elements.invariant.left ∙ c.in-Some.ensures.steps.0 in
    let mark : array_marks ms i ≡ c.in-Some.of_elements = left_at i ms rest c.in-Some.of_elements left [] in
    let value : c.take_array-elements.result ≡ get_or old i [] = c.take_array-elements.ensures.elements ∙ later_slot [] f i old now c.loop-of_elements.invariant.arrays in
    let taken : array_takes (array_marks ms i) (get_or old i []) ≡ true = rw (mark, ← value) c.in_ok-join_array.ensures.0 in
    let joined : c.join_array.new.elements ≡ f i c.take_array-elements.result = rw mark c.in_ok-join_array.ensures.1 in
    let change = done_more [] f i old now c.take_array-elements.result c.join_array.new.elements c.loop-of_elements.invariant.arrays c.take_array-elements.ensures.elements joined in
    record {
      size = omega (arith, c.loop-of_elements.invariant.size, c.in-Some.ensures.steps.1);
      left = sym (left_after i ms rest c.in-Some.of_elements left);
      taken = each_below_more i (λ n. array_takes (array_marks ms n) (array_at c.args.globals.now n)) c.loop-of_elements.invariant.taken taken;
      arrays = ap (λ (g : Globals). g.arrays) c.put_array.ensures ∙ ap (λ (g : Globals). set g.arrays i c.join_array.new.elements) c.take_array-elements.ensures.globals ∙ change;
      scalars = ap (λ (g : Globals). g.scalars) c.put_array.ensures ∙ ap (λ (g : Globals). g.scalars) c.take_array-elements.ensures.globals ∙ c.loop-of_elements.invariant.scalars;
    }

pub returns : goal.returns
returns c =
    let i = c.loop-of_elements.slot in
    let ms = c.args.marks.items in
    let f = λ (n : ℕ) (es : Entries). join_array (array_marks ms n) es in
    let old = c.args.globals.now in
    let all : length ms ≤ i = omega (arith, c.loop-of_elements.invariant.size, c.in-None.ensures.steps.0) in
    let stays : (k : ℕ) (es : Entries) → i ≤ k → f k es ≡ es = λ k es h.
    let none : array_marks ms k ≡ [] = get_or_past ms k [] (omega (arith, all, h)) in rw none refl in (
      each_below_fewer (length ms) i (λ n. array_takes (array_marks ms n) (array_at old n)) all c.loop-of_elements.invariant.taken,
      same_globals c.loop-of_elements.globals (spec.join_arrays ms old) c.loop-of_elements.invariant.scalars (c.loop-of_elements.invariant.arrays ∙ done_all [] f i old.arrays stays),
    )

pub returns-in_err-join_array : goal.returns-in_err-join_array
returns-in_err-join_array c =
    let i = c.loop-of_elements.slot in
    let ms = c.args.marks.items in
    let f = λ (n : ℕ) (es : Entries). join_array (array_marks ms n) es in
    let old = c.args.globals.now.arrays in
    let now = c.loop-of_elements.globals.arrays in
    let rest = into_iter_items c.next.new.self in
    let left : drop i ms ≡ c.in-Some.of_elements ∷ rest = sym c.loop-of_elements.invariant.left ∙ c.in-Some.ensures.steps.0 in
    let mark : array_marks ms i ≡ c.in-Some.of_elements = left_at i ms rest c.in-Some.of_elements left [] in
    let value : c.take_array-elements.result ≡ get_or old i [] = c.take_array-elements.ensures.elements ∙ later_slot [] f i old now c.loop-of_elements.invariant.arrays in
    let within : i < length ms = left_within i ms rest c.in-Some.of_elements left in
    let m = c.in-Some.of_elements in
    let es = c.take_array-elements.result in
    stops_too {T = Unit {0}} {U = Unit {0}} (array_takes m es) (arrays_take ms c.args.globals.now)
    (λ _. c.join_array.new.elements ≡ join_array m es)
    (λ _. c.take_array-elements.new.self ≡ spec.join_arrays ms c.args.globals.now)
    c.in_err-join_array.field-0.0 c.from_residual.result c.in_err-join_array.ensures c.from_residual.ensures.1
    (λ refused. each_below_false (length ms) i (λ n. array_takes (array_marks ms n) (array_at c.args.globals.now n)) within (rw (mark, ← value) refused))
