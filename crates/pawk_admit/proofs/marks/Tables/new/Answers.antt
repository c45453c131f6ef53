use Rattle.std.proofs.Common.{◌≡◌, ◌∙◌, replicate, ap, arith}
use Rattle.pawk_admit.specs.declared.marks.Tables.{Tables}
use Rattle.pawk_admit.specs.Marks.{nothing, marks_from}
use Rattle.pawk_admit.proofs.MarkTables.{fresh}
use Rattle.pawk_admit.proofs.marks.Tables.new.Goals as goal

pub loop-occurrence-init : goal.loop-occurrence-init
loop-occurrence-init c =
    let m = c.args.scalars in
    let n = c.args.arrays in
    let tables : Tables = record { scalars = c.in_ok-vec.field-0; arrays = c.in_ok-vec-2.field-0 } in
    let first : tables.scalars.items ≡ replicate m nothing =
    c.in_ok-vec.ensures.items_if_clones_equal (λ y e. e) ∙ ap (replicate m) c.none.ensures in
    let second : tables.arrays.items ≡ replicate n nothing =
    c.in_ok-vec-2.ensures.items_if_clones_equal (λ y e. e) ∙ ap (replicate n) c.none-2.ensures in (
      omega (arith, c.in_ok-vec.ensures.len),
      omega (arith, c.in_ok-vec-2.ensures.len),
      λ name. ap (λ m. marks_from m c.args.list.now name) (fresh tables m n first second name),
    )
