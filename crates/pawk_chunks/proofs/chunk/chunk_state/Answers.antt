use Rattle.std.proofs.Common.{◌≡◌, ◌∙◌, w64, arith}
use Rattle.std.proofs.lemmas.Int.{ints}
use mir.Val.{to_z, of_z}
use Rattle.pawk_chunks.proofs.StateLemmas.{same_state}
use Rattle.pawk_chunks.proofs.chunk.chunk_state.Goals as goal

pub returns : goal.returns
returns c =
    let s = c.args.state.now in
    let rstart : to_z w64 (of_z w64 s.rstart) ≡ s.rstart = omega (arith, ints) in
    let rlength : to_z w64 (of_z w64 s.rlength) ≡ s.rlength = omega (arith, ints) in
    same_state c.args.nr s c.new.result _ _ c.in_ok-copy_text.field-0 c.in_ok-from_slice.field-0 c.new.ensures.text c.new.ensures.fields rstart rlength c.in_ok-copy_text.ensures
    (c.in_ok-from_slice.ensures.items ∙ c.as_slice.ensures.value)
