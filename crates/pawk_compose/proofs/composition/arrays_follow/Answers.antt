use Rattle.std.proofs.Common.{◌≡◌, ◌<◌, [], true, false, length, get_or, refl, sym, subst, arith, below_more}
use Rattle.pawk_frozen.specs.Marks.{Marks}
use Rattle.pawk_compose.specs.Compositions.{AllFollow}
use Rattle.pawk_compose.proofs.TableLemmas.{marks_at_slot}
use Rattle.pawk_compose.proofs.composition.arrays_follow.Goals as goal

pub loop-slot-preserved : goal.loop-slot-preserved
loop-slot-preserved c =
    let i = c.loop-slot.slot in
    let es = c.args.first.now in
    let fs = c.args.second.now in
    let within : i < length es = omega (arith, c.loop-slot-test.true, c.loop-slot.invariant.ends) in
    let inside : i < length fs = omega (arith, within, c.requires) in
    let may : AllFollow (get_or es i []) (get_or fs i []) =
    subst (λ (x : Marks). AllFollow x (get_or fs i [])) (marks_at_slot es i c.index-first-slot.result c.index-first-slot.is within)
    (subst (λ (x : Marks). AllFollow c.index-first-slot.result x) (marks_at_slot fs i c.index-second-slot.result c.index-second-slot.is inside)
    (c.takes.ensures.0 c.if-not-takes.false)) in
    record {
      follow = below_more (λ k. AllFollow (get_or es k []) (get_or fs k [])) i c.loop-slot.invariant.follow may;
      within = omega (arith, within);
      ends = c.loop-slot.invariant.ends;
    }

pub returns-then-not-takes : goal.returns-then-not-takes
returns-then-not-takes c =
    let i = c.loop-slot.slot in
    let es = c.args.first.now in
    let fs = c.args.second.now in
    let within : i < length es = omega (arith, c.loop-slot-test.true, c.loop-slot.invariant.ends) in
    let inside : i < length fs = omega (arith, within, c.requires) in (
      λ h. cc,
      λ h.
          let taken : c.takes.result ≡ true = c.takes.ensures.1
          (subst (λ (x : Marks). AllFollow x c.index-second-slot.result) (sym (marks_at_slot es i c.index-first-slot.result c.index-first-slot.is within))
          (subst (λ (x : Marks). AllFollow (get_or es i []) x) (sym (marks_at_slot fs i c.index-second-slot.result c.index-second-slot.is inside)) (h i within))) in
          let refused : c.takes.result ≡ false = c.if-not-takes.true in
          cc,
    )

pub returns : goal.returns
returns c = (λ h n lt. c.loop-slot.invariant.follow n (omega (arith, lt, c.loop-slot.invariant.ends)), λ h. refl)
