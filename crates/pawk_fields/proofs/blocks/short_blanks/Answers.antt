use Rattle.std.proofs.Common.{◌≤◌, [], ◌∷◌, ◌++◌, length, drop, arith}
use Rattle.std.proofs.lemmas.List.{length-append, length-drop}
use Rattle.pawk_fields.proofs.BlockBits.{bits_fit}
use Rattle.pawk_fields.proofs.FieldWalkLemmas.{one_at_most}
use Rattle.pawk_fields.proofs.blocks.short_blanks.Goals as goal

pub overflow_add-bits : goal.overflow_add-bits
overflow_add-bits c =
    let left = drop c.loop-place.place c.args.text.now ++ 32 ∷ [] in
    let few : length left ≤ 16 = omega (arith, length-append (drop c.loop-place.place c.args.text.now) (32 ∷ []), length-drop c.loop-place.place c.args.text.now, c.requires) in
    record { fits = omega (arith, c.loop-place.invariant.right, bits_fit left 16 few) }

pub overflow_add-bits-in-loop-place : goal.overflow_add-bits-in-loop-place
overflow_add-bits-in-loop-place c =
    let left = drop c.loop-place.place c.args.text.now ++ 32 ∷ [] in
    let few : length left ≤ 16 = omega (arith, length-append (drop c.loop-place.place c.args.text.now) (32 ∷ []), length-drop c.loop-place.place c.args.text.now, c.requires) in
    let one = one_at_most c.is_blank_byte.result c.from.result c.from.ensures in
    record { fits = omega (arith, c.loop-place.invariant.right, bits_fit left 16 few, one) }
