use Rattle.std.proofs.Common.{◌≡◌, ◌∙◌, Bool, true, false, IsTrue, refl, arith, sym}
use Rattle.pawk_ere_automaton.specs.Members.{members_of}
use Rattle.pawk_ere_automaton.proofs.Copies.{run_pushed, run_pushed_none, blanks}
use Rattle.pawk_ere_automaton.proofs.marks.push_run.Goals as goal

absent : (r b : Bool) → r ≡ false → (b ≡ true → IsTrue r) → b ≡ false
absent r false e f = refl
absent r true e f = let x : r ≡ true = f refl in let y = sym e ∙ x in cc

pub returns-then-not-contains : goal.returns-then-not-contains
returns-then-not-contains c = λ first.
    run_pushed_none c.args.count (members_of c.args.set.now) c.args.marks.now c.args.enter c.args.byte first c.args.out.now.items _ _ (absent c.contains.result _ c.if-not-contains.true c.contains.ensures.1) c.in_ok-extend_from_slice.ensures.items (blanks c.args.count 255 (omega arith))

pub returns : goal.returns
returns c = λ first. run_pushed c.args.count (members_of c.args.set.now) c.args.marks.now c.args.enter c.args.byte first c.args.out.now.items _ _ c.requires.some c.requires.within (c.contains.ensures.0 c.if-not-contains.false) c.in_ok-push.ensures.items c.in_ok-extend_from_slice-2.ensures.items
