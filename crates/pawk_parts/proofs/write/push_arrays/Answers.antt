use Rattle.std.proofs.Common.{◌≡◌, ◌<◌, [], length, get_or, refl, ◌∙◌, subst, arith}
use Rattle.std.proofs.lemmas.List.{get_or_default, take_all}
use Rattle.std.proofs.lemmas.Result.{err_from_is_err_and}
use Rattle.pawk_parts.specs.Writing.{Appends, AppendsTable, HasUnsaid}
use Rattle.pawk_parts.proofs.ArrayLemmas.{one_array}
use Rattle.pawk_parts.proofs.LineLemmas.{appends_none, kept-kept}
use Rattle.pawk_parts.proofs.SlotLemmas.{filled_until}
use Rattle.pawk_parts.proofs.RefusalLemmas.{on_damage_weaker}
use Rattle.pawk_parts.proofs.write.push_arrays.Goals as goal

pub loop-slot-init : goal.loop-slot-init
loop-slot-init c =
    let old = c.args.out.now.items in
    record {
      written = λ n e. (n.array, subst (λ (xs : _). Appends old old n (record n { table = record n.table { arrays = xs } })) e (appends_none old n));
      kept = take_all (length old) old (omega arith);
      within = omega arith;
      ends = refl;
    }

pub loop-slot-preserved : goal.loop-slot-preserved
loop-slot-preserved c =
    let i = c.loop-slot.slot in
    let xs = c.args.arrays.now in
    let ms = c.index-arrays-slot.result in
    let old = c.args.out.now.items in
    let now = c.loop-slot.out.items in
    let new = c.push_array.new.out.items in
    let below : i < length xs = c.loop-slot-test.true in
    let at : ms ≡ get_or xs i [] = c.index-arrays-slot.is ∙ get_or_default xs i ms [] below in
    record {
      written = λ n e. one_array old now new n i xs ms below at (c.loop-slot.invariant.written n e) c.in_ok-push_array.ensures.written;
      kept = kept-kept old now new c.loop-slot.invariant.kept c.in_ok-push_array.ensures.kept;
      within = omega (arith, below);
      ends = refl;
    }

pub returns-clause-written : goal.returns-clause-written
returns-clause-written c n e =
    let xs = c.args.arrays.now in
    let all : length xs ≡ c.loop-slot.slot = omega arith in
    subst (λ ys. AppendsTable c.args.out.now.items c.loop-slot.out.items n (record n.table { arrays = ys })) (filled_until [] c.loop-slot.slot xs all)
    (c.loop-slot.invariant.written n e)

pub returns-in_err-push_array-clause-damage : goal.returns-in_err-push_array-clause-damage
returns-in_err-push_array-clause-damage c =
    let p = err_from_is_err_and c.from_residual.result c.from_residual.ensures.1 in
    let i = c.loop-slot.slot in
    let xs = c.args.arrays.now in
    let ms = c.index-arrays-slot.result in
    let below : i < length xs = c.loop-slot-test.true in
    let at : ms ≡ get_or xs i [] = c.index-arrays-slot.is ∙ get_or_default xs i ms [] below in
    rw (p.1, p.2) (on_damage_weaker c.in_err-push_array.field-0.0 (λ h. (i, subst HasUnsaid at h)) c.in_err-push_array.ensures.damage)
