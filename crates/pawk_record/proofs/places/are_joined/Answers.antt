use Rattle.std.proofs.Common.{ℕ, List, arith, subst}
use Rattle.std.specs.Prelude.{slice_index_or}
use Rattle.std.specs.declared.ops.Range.{Range}
use Rattle.pawk_record.specs.Lines.{IsAfter}
use Rattle.pawk_record.proofs.JoinLemmas.{joined_end, joined_more, joined_start, there}
use Rattle.pawk_record.proofs.places.are_joined.Goals as goal

pub loop-number-init : goal.loop-number-init
loop-number-init c = joined_start c.args.ofs.now c.args.text.now c.args.ranges.now

pub loop-number-preserved : goal.loop-number-preserved
loop-number-preserved c =
    let i = c.loop-number.number in
    let none : Range ℕ = record { start = 0; end = 0 } in
    let range = slice_index_or c.args.ranges.now i none in
    let behind = subst (λ (b : List ℕ). IsAfter c.args.text.now c.loop-number.place b range) c.before_at.ensures (c.is_field_after.ensures c.if-not-is_field_after.false) in
    joined_more c.args.ofs.now c.args.text.now c.args.ranges.now i c.loop-number.place range (there c.args.ranges.now i none (omega arith)) behind c.loop-number.invariant

pub returns : goal.returns
returns c = λ _. joined_end c.args.ofs.now c.args.text.now c.args.ranges.now c.loop-number.number c.loop-number.place (omega arith) (omega arith) c.loop-number.invariant
