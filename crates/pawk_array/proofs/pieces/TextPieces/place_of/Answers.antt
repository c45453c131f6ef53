use Rattle.std.proofs.Common.{◌≡◌, ◌+◌, ◌-◌, ◌<◌, true, false, [], length, sym, ◌∙◌, ap, arith}
use Rattle.std.specs.Prelude.{slice_range}
use Rattle.std.specs.Fmt.{decimal}
use Rattle.std.proofs.lemmas.List.{length-map}
use Rattle.std.proofs.lemmas.Option.{get_or_from_slice_get}
use Rattle.std.proofs.lemmas.Slice.Eq.{bytes_eq-Decides}
use Rattle.pawk_array.proofs.NumbersLemmas.{key_number}
use Rattle.pawk_array.proofs.pieces.TextPieces.place_of.Goals as goal
use Rattle.pawk_array.proofs.pieces.TextPieces.place_of.Goals.{then-number-eq0-via-then-number-eq0, then-number-eq0-via-else-number-eq0+then-number-len}

pub returns-then-number-eq0-clause-place : goal.returns-then-number-eq0-clause-place
returns-then-number-eq0-clause-place c =
    let a = c.self.inside in
    let size : length c.args.self.now ≡ a.ranges.len =
    ap length (sym c.self.view_is) ∙ length-map a.ranges.items (λ r. slice_range a.text.items r.start r.end) ∙ sym a.ranges.ok.0 in
    λ i below same.
    let read = key_number c.args.key.now c.leading_digits-number.result.value (i + 1) c.leading_digits-number.ensures.value same (omega (arith, below, size)) in
    elim c.then-number-eq0.branch [
      | then-number-eq0-via-then-number-eq0 w ↦ omega (arith, read, w.if-number-eq0.true)
      | then-number-eq0-via-else-number-eq0+then-number-len w ↦ omega (arith, read, below, size, w.len.ensures, w.if-number-len.true)
    ]

pub returns-then-eq-clause-place : goal.returns-then-eq-clause-place
returns-then-eq-clause-place c =
    let a = c.self.inside in
    let place = c.leading_digits-number.result.value - 1 in
    let size : length c.args.self.now ≡ a.ranges.len =
    ap length (sym c.self.view_is) ∙ length-map a.ranges.items (λ r. slice_range a.text.items r.start r.end) ∙ sym a.ranges.ok.0 in
    let within : place < length c.args.self.now = omega (arith, size, c.if-number-eq0.false, c.len.ensures, c.if-number-len.false) in
    let numbered : place < length a.numbers = omega (arith, within, size, a.ranges.ok.0, c.self.invariant.enough) in
    let same = (bytes_eq-Decides c.text.result.now c.args.key.now).0 (sym c.eq.ensures ∙ c.if-eq.true) in
    (within, sym same ∙ sym (get_or_from_slice_get a.numbers place c.text.result.now [] c.text.ensures) ∙ c.self.invariant.numbers place [] numbered)

pub returns-else-eq-clause-place : goal.returns-else-eq-clause-place
returns-else-eq-clause-place c =
    let a = c.self.inside in
    let place = c.leading_digits-number.result.value - 1 in
    let size : length c.args.self.now ≡ a.ranges.len =
    ap length (sym c.self.view_is) ∙ length-map a.ranges.items (λ r. slice_range a.text.items r.start r.end) ∙ sym a.ranges.ok.0 in
    λ i below same.
    let read = key_number c.args.key.now c.leading_digits-number.result.value (i + 1) c.leading_digits-number.ensures.value same (omega (arith, below, size)) in
    let at : place ≡ i = omega (arith, read) in
    let numbered : place < length a.numbers = omega (arith, at, below, size, a.ranges.ok.0, c.self.invariant.enough) in
    let text = sym (get_or_from_slice_get a.numbers place c.text.result.now [] c.text.ensures) ∙ c.self.invariant.numbers place [] numbered in
    let yes = (bytes_eq-Decides c.text.result.now c.args.key.now).1 (text ∙ ap (λ n. decimal (n + 1)) at ∙ sym same) in
    let no : true ≡ false = sym yes ∙ sym c.eq.ensures ∙ c.if-eq.false in
    cc
