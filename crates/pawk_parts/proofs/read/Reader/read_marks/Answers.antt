use Rattle.std.proofs.Common.{◌≡◌, ◌≤◌, ◌-◌, ℕ, List, length, take, drop, sym, subst, arith}
use Rattle.std.proofs.lemmas.List.{length-drop, take_rest}
use Rattle.std.proofs.lemmas.Result.{err_from_is_err_and}
use Rattle.pawk_parts.specs.Reading.{noted_by, SaysMark}
use Rattle.pawk_parts.proofs.FrontLemmas.{Reached, reached_none, reached_end, reached_more, reached_stop}
use Rattle.pawk_parts.proofs.RefusalLemmas.{on_damage_weaker}
use Rattle.pawk_parts.proofs.read.Reader.read_marks.Goals as goal

pub loop-count-init : goal.loop-count-init
loop-count-init c = record { reached = reached_none c.args.bytes.now (noted_by c.args.self.now); within = omega arith }

pub returns-in_err-count : goal.returns-in_err-count
returns-in_err-count c =
    let p = err_from_is_err_and c.from_residual.result c.from_residual.ensures.1 in
    rw (p.1, p.2)
    (on_damage_weaker c.in_err-count.field-0.0
    (λ nothing after count h. reached_stop c.args.bytes.now c.loop-count.rest.now (noted_by c.args.self.now) (noted_by c.loop-count.self) after count c.loop-count.invariant.reached nothing h)
    c.in_err-count.ensures)

pub loop-count-preserved : goal.loop-count-preserved
loop-count-preserved c =
    let bytes = c.args.bytes.now in
    let rest : List ℕ = c.loop-count.rest.now in
    let count = c.in-Some.count in
    let before = noted_by c.args.self.now in
    let here = noted_by c.loop-count.self in
    let after = noted_by c.read_mark.new.self in
    let mark : SaysMark rest here after count = rw c.in-Some.is at c.in_ok-count.ensures in
    let left : take (length rest - count) (drop count rest) ≡ drop count rest = take_rest rest count in
    record {
      reached = subst (λ (xs : List ℕ). Reached bytes before xs after) (sym left) (reached_more bytes rest before here after count c.loop-count.invariant.reached mark);
      within = subst (λ (xs : List ℕ). length xs ≤ length bytes) (sym left) (omega (arith, length-drop count rest));
    }

pub returns : goal.returns
returns c =
    let bytes = c.args.bytes.now in
    let rest : List ℕ = c.loop-count.rest.now in
    let before = noted_by c.args.self.now in
    let ends = rw c.in_default.is at c.in_ok-count.ensures in
    rw ends.0 (reached_end bytes rest before (noted_by c.loop-count.self) c.loop-count.invariant.reached ends.1)
