use Rattle.std.proofs.Common.{◌≤◌, ◌+◌, ◌∷◌, ap, subst, arith}
use Rattle.pawk_records.specs.Separator.{rs_of}
use Rattle.pawk_records.proofs.RecordsLemmas.{length-records}
use Rattle.pawk_input.specs.Walk.{items_ahead}
use Rattle.pawk_input.specs.Passing.{PassesOver}
use Rattle.pawk_input.proofs.PassingLemmas.{length_ahead, passes}
use Rattle.pawk_input.proofs.walk.Records.pass_over.Goals as goal

pub overflow_add-self : goal.overflow_add-self
overflow_add-self c = omega (arith, c.self.invariant, length-records c.in-Byte.byte c.split_at.result.0.now)

pub overflow_add-self-2 : goal.overflow_add-self-2
overflow_add-self-2 c = omega (arith, c.self.invariant, length-records c.in-Byte.byte c.split_at.result.0.now)

pub invariant_of-self : goal.invariant_of-self
invariant_of-self c =
    let s = c.self.inside in
    let n = c.passed_length-length.result in
    let ensures = c.passed_length-length.ensures in
    let some : 1 ≤ n = omega arith in
    let ahead = length_ahead (rs_of s.separator) c.in-Byte.byte s.file s.nr s.fnr n c.count_records-count.result s.name.now s.rest.now c.split_at.result.0.now c.split_at.result.1.now s.pieces s.later
    (ap rs_of c.in-Byte.is) some (ensures.within some) (ensures.ends some) c.split_at.ensures.front c.split_at.ensures.back c.count_records-count.ensures in (
      omega (arith, ahead, c.self.invariant.0),
      omega (arith, c.self.invariant.1),
      c.self.invariant.2,
      omega (arith, ensures.within some, c.split_at.ensures.back_len, c.self.invariant.3),
      c.none-self-inside.ensures (rs_of s.separator) c.split_at.result.1.now,
    )

pub returns : goal.returns
returns c =
    let s = c.self.inside in
    let n = c.passed_length-length.result in
    let ensures = c.passed_length-length.ensures in
    let some : 1 ≤ n = omega arith in
    let count = c.count_records-count.result in
    let over = passes (rs_of s.separator) c.in-Byte.byte s.file s.nr s.fnr n count s.name.now s.rest.now c.split_at.result.0.now c.split_at.result.1.now s.pieces s.later
    (ap rs_of c.in-Byte.is) some (ensures.within some) (ensures.ends some) c.split_at.ensures.front c.split_at.ensures.back c.count_records-count.ensures
    c.args.words.now (ensures.none some) in
    subst (λ l. PassesOver c.args.words.now l (items_ahead (rs_of s.separator) s.file s.name.now (s.nr + count) (s.fnr + count) (c.split_at.result.1.now ∷ s.pieces) s.later) count) c.self.view_is over
