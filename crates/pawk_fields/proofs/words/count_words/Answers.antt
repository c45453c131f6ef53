use mir.Val.{bool_byte}
use Rattle.std.proofs.Common.{◌<◌, not, true, length, get_or, refl, ap, ◌∙◌, arith, rules, tests, zero-add}
use Rattle.pawk_value.specs.Bytes.{is_blank}
use Rattle.pawk_fields.specs.Fields.{blank_fields}
use Rattle.pawk_fields.proofs.FieldWalkLemmas.{count_on, one_at_most}
use Rattle.pawk_fields.proofs.WordLanes.{place_on}
use Rattle.pawk_fields.proofs.words.count_words.Goals as goal

pub loop-place-init : goal.loop-place-init
loop-place-init c =
    let s = c.args.text.now in
    let total = length (blank_fields s) in
    let some : 0 < length s = search (rules, tests) in
    let most = one_at_most _ c.from-count.result c.from-count.ensures in
    let on = count_on total s 0 0 c.from-count.result true (is_blank (get_or s 0 0)) some refl (c.from-count.ensures ∙ ap (λ b. bool_byte (not b)) c.is_blank_byte.ensures) (zero-add total) in
    record { low = omega arith; high = omega (arith, some); few = most; left = omega (arith, on) }

pub loop-place-preserved : goal.loop-place-preserved
loop-place-preserved c =
    let old = c.loop-place.invariant in
    let test = c.loop-place-test.true in
    record {
      low = omega (arith, old.low);
      high = omega (arith, test, old.high);
      few = omega (arith, old.few, c.count_begins-count.ensures.bound);
      left = place_on (length (blank_fields c.args.text.now)) c.args.text.now c.loop-place.place c.loop-place.count c.count_begins-count.result 16 old.low (omega (arith, test, old.high)) c.count_begins-count.ensures.value old.left;
    }
