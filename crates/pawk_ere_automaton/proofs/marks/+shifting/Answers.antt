use Rattle.std.proofs.Common.{ℕ, append_assoc, ◌≡◌, ◌+◌, ◌-◌, ◌++◌, ◌&&◌, ◌||◌, List, Bool, drop, ap, ◌∙◌, sym, arith, false}
use Rattle.pawk_ere_automaton.specs.Tree.{regex_of}
use Rattle.pawk_ere_automaton.specs.Regex.{Regex, Either, copies}
use Rattle.pawk_ere_automaton.specs.Marks.{final, nullable, places, turns, shift}
use Rattle.pawk_ere_automaton.proofs.Copies.{left_start, left_step, left_ends, left_empty, left_rest, turns_left_start, turns_left_split, turns_left_end, pushed_start, pushed_step, pushed_end, run_turns_left, run_ends, run_rest}
use Rattle.pawk_ere_automaton.proofs.marks.+shifting.Goals as goal

pub push_copies-loop-i-init : goal.push_copies-loop-i-init
push_copies-loop-i-init t c = record {
  left = left_start (regex_of c.args.a.now) c.args.count c.args.source.marks.now c.args.step.first false;
  left_turns = λ more h. turns_left_start (regex_of c.args.a.now) c.args.count c.args.step.first c.args.source.marks.now c.args.source.turns.now more h;
  pushed = λ more h. pushed_start (regex_of c.args.a.now) c.args.count c.args.enter c.args.step.byte c.args.step.first c.args.source.marks.now c.args.out.now.items;
}

pub push_copies-loop-i-preserved : goal.push_copies-loop-i-preserved
push_copies-loop-i-preserved t c =
    let i = c.loop-i.invariant in
    let a = regex_of c.args.a.now in
    let n = c.args.count in
    let k = c.loop-i._i in
    let lt = c.loop-i-test.true in
    let e = c.in_ok-turn.ensures in
    let s = c.in_sequence.ensures in
    let o = c.source.ensures in
    let first = c.args.step.first in
    let rest = c.loop-i.front.view.rest.now in
    let on : c.in_sequence.result.rest.now ≡ drop (places a) rest = s.rest ∙ e.marks ∙ ap (λ m. drop (places a) m) o.marks in
    let ends : c.in_ok-turn.turn.view.ends ≡ final a rest first false = e.ends ∙ ap (λ m. final a m first false) o.marks in
    let given : (more : List Bool) → c.args.source.turns.now ≡ turns (copies n a) c.args.source.marks.now first ++ more → c.source.result.turns.now ≡ turns a c.source.result.marks.now first ++ (turns (copies (n - (k + 1)) a) (drop (places a) rest) first ++ more) = λ more h.
    o.turns ∙ turns_left_split a n k first rest c.loop-i.front.turns.now more lt (i.left_turns more h) ∙ ap (λ m. turns a m first ++ (turns (copies (n - (k + 1)) a) (drop (places a) rest) first ++ more)) (sym o.marks) in
    record {
      left = left_step a n k c.args.source.marks.now rest c.loop-i.front.view.ends c.loop-i.front.view.nullable first false
          c.in_ok-turn.turn.view.ends c.in_ok-turn.turn.view.nullable c.in_ok-turn.turn.view.rest.now c.in_sequence.result.ends c.in_sequence.result.nullable c.in_sequence.result.rest.now
          lt i.left ends e.nullable (e.marks ∙ ap (λ m. drop (places a) m) o.marks) s.ends s.nullable s.rest;
      left_turns = λ more h. e.turns _ (given more h) ∙ ap (λ m. turns (copies (n - (k + 1)) a) m first ++ more) (sym on);
      pushed = λ more h. pushed_step a n k c.args.enter c.loop-i.enter c.enters_next-enter.result c.args.step.byte first c.args.source.marks.now rest c.in_sequence.result.rest.now c.args.out.now.items c.loop-i.out.items c.push_shifted.new.out.items
          lt (i.pushed more h)
          (e.out _ (given more h) ∙ ap (λ m. c.loop-i.out.items ++ shift a c.loop-i.enter m c.args.step.byte first) o.marks)
          (c.enters_next-enter.ensures ∙ ap (λ u. (c.loop-i.enter && u) || c.in_ok-turn.turn.view.ends) e.nullable ∙ ap (λ u. (c.loop-i.enter && nullable a first false) || u) ends)
          on;
    }

pub push_copies-returns-clause-out : goal.push_copies-returns-clause-out
push_copies-returns-clause-out t c = λ more h. pushed_end (regex_of c.args.a.now) c.args.count c.loop-i._i c.args.enter c.loop-i.enter c.args.step.byte c.args.step.first c.args.source.marks.now c.loop-i.front.view.rest.now c.args.out.now.items c.loop-i.out.items (omega arith) (c.loop-i.invariant.pushed more h)

pub push_copies-returns-clause-turns : goal.push_copies-returns-clause-turns
push_copies-returns-clause-turns t c = λ more h. turns_left_end (regex_of c.args.a.now) c.args.count c.loop-i._i c.args.step.first c.loop-i.front.view.rest.now c.loop-i.front.turns.now more (omega arith) (c.loop-i.invariant.left_turns more h)

pub push_copies-returns-clause-ends : goal.push_copies-returns-clause-ends
push_copies-returns-clause-ends t c = left_ends (regex_of c.args.a.now) c.args.count c.loop-i._i _ _ _ _ _ _ (omega arith) c.loop-i.invariant.left

pub push_copies-returns-clause-nullable : goal.push_copies-returns-clause-nullable
push_copies-returns-clause-nullable t c = left_empty (regex_of c.args.a.now) c.args.count c.loop-i._i _ _ _ _ _ _ (omega arith) c.loop-i.invariant.left

pub push_copies-returns-clause-marks : goal.push_copies-returns-clause-marks
push_copies-returns-clause-marks t c = left_rest (regex_of c.args.a.now) c.args.count c.loop-i._i _ _ _ _ _ _ (omega arith) c.loop-i.invariant.left

pub push_copies-returns-then-count-source-clause-turns : goal.push_copies-returns-then-count-source-clause-turns
push_copies-returns-then-count-source-clause-turns t c = λ more h.
    run_turns_left c.args.count _ c.args.source.marks.now c.args.step.first c.args.source.turns.now more (h ∙ ap (λ n. turns (copies c.args.count (regex_of n)) c.args.source.marks.now c.args.step.first ++ more) c.in-Bytes.is)

pub push_copies-returns-then-count-source-clause-ends : goal.push_copies-returns-then-count-source-clause-ends
push_copies-returns-then-count-source-clause-ends t c =
    c.look_run.ensures.ends ∙ run_ends c.args.count _ c.args.source.marks.now c.args.step.first false (omega arith) ∙ ap (λ n. final (copies c.args.count (regex_of n)) c.args.source.marks.now c.args.step.first false) (sym c.in-Bytes.is)

pub push_copies-returns-then-count-source-clause-marks : goal.push_copies-returns-then-count-source-clause-marks
push_copies-returns-then-count-source-clause-marks t c =
    c.look_run.ensures.rest ∙ run_rest c.args.count _ c.args.source.marks.now ∙ ap (λ n. drop (places (copies c.args.count (regex_of n))) c.args.source.marks.now) (sym c.in-Bytes.is)

-- the turns of the second of two, where those of both are given
second_turns : (a b : Regex) (first : Bool) (marks rest old new more : List Bool) → rest ≡ drop (places a) marks → ((m : List Bool) → old ≡ turns a marks first ++ m → new ≡ m) → old ≡ turns (Either a b) marks first ++ more → new ≡ turns b rest first ++ more
second_turns a b first marks rest old new more on left h =
    left (turns b (drop (places a) marks) first ++ more) (h ∙ append_assoc (turns a marks first) (turns b (drop (places a) marks) first) more)
    ∙ ap (λ m. turns b m first ++ more) (sym on)

either_out : (a b : Regex) (enter : Bool) (byte : ℕ) (first : Bool) (marks rest before between after : List Bool) → rest ≡ drop (places a) marks
    → between ≡ before ++ shift a enter marks byte first → after ≡ between ++ shift b enter rest byte first → after ≡ before ++ shift (Either a b) enter marks byte first
either_out a b enter byte first marks rest before between after on left right =
    right
    ∙ ap (λ m. between ++ shift b enter m byte first) on
    ∙ ap (λ m. m ++ shift b enter (drop (places a) marks) byte first) left
    ∙ append_assoc before (shift a enter marks byte first) (shift b enter (drop (places a) marks) byte first)

pub push_shifted-returns-in_ok-right-in-Either-clause-out : goal.push_shifted-returns-in_ok-right-in-Either-clause-out
push_shifted-returns-in_ok-right-in-Either-clause-out t c = λ more h.
    let a = regex_of c.deref-in-Either.result.now in
    let b = regex_of c.deref-in-Either-2.result.now in
    let first = c.args.step.first in
    let marks = c.args.source.marks.now in
    let l = c.in_ok-left-in-Either.ensures in
    let r = c.in_ok-right-in-Either.ensures in
    let o = c.source-in-Either.ensures in
    let is : regex_of c.args.node.now ≡ Either a b = ap regex_of c.in-Either.is
    ∙ ap (λ x. Either (regex_of x) (regex_of c.in-Either.b.value)) (sym c.deref-in-Either.ensures)
    ∙ ap (λ x. Either a (regex_of x)) (sym c.deref-in-Either-2.ensures) in
    let on : c.source-in-Either.result.marks.now ≡ drop (places a) marks = o.marks ∙ l.marks in
    let given : c.args.source.turns.now ≡ turns (Either a b) marks first ++ more = h ∙ ap (λ e. turns e marks first ++ more) is in
    let split : c.args.source.turns.now ≡ turns a marks first ++ (turns b (drop (places a) marks) first ++ more) =
    given ∙ append_assoc (turns a marks first) (turns b (drop (places a) marks) first) more in
    either_out a b c.args.enter c.args.step.byte first marks c.source-in-Either.result.marks.now c.args.out.now.items c.push_shifted-in-Either.new.out.items c.push_shifted-in-Either-2.new.out.items on
    (l.out _ split)
    (r.out more (second_turns a b first marks c.source-in-Either.result.marks.now c.args.source.turns.now c.source-in-Either.result.turns.now more on (λ m e. o.turns ∙ l.turns m e) given))
    ∙ ap (λ e. c.args.out.now.items ++ shift e c.args.enter marks c.args.step.byte first) (sym is)
