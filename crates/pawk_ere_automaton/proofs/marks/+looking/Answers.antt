use Rattle.std.proofs.Common.{drop, ap, ◌∙◌, sym, arith}
use Rattle.pawk_ere_automaton.specs.Tree.{regex_of}
use Rattle.pawk_ere_automaton.specs.Regex.{copies}
use Rattle.pawk_ere_automaton.specs.Marks.{final, nullable, places}
use Rattle.pawk_ere_automaton.proofs.Copies.{left_start, left_step, left_ends, left_empty, left_rest, run_ends, run_empty, run_rest}
use Rattle.pawk_ere_automaton.proofs.marks.+looking.Goals as goal

pub look_copies-loop-i-init : goal.look_copies-loop-i-init
look_copies-loop-i-init t c = left_start (regex_of c.args.a.now) c.args.count c.args.marks.now c.args.first c.args.last

pub look_copies-loop-i-preserved : goal.look_copies-loop-i-preserved
look_copies-loop-i-preserved t c =
    let e = c.look-turn.ensures in
    let s = c.in_sequence-front.ensures in
    left_step (regex_of c.args.a.now) c.args.count c.loop-i._i c.args.marks.now c.loop-i.front.rest.now c.loop-i.front.ends c.loop-i.front.nullable c.args.first c.args.last
    c.look-turn.result.ends c.look-turn.result.nullable c.look-turn.result.rest.now c.in_sequence-front.result.ends c.in_sequence-front.result.nullable c.in_sequence-front.result.rest.now
    c.loop-i-test.true c.loop-i.invariant e.ends e.nullable e.rest s.ends s.nullable s.rest

pub look_copies-returns-clause-ends : goal.look_copies-returns-clause-ends
look_copies-returns-clause-ends t c = left_ends (regex_of c.args.a.now) c.args.count c.loop-i._i _ _ _ _ _ _ (omega arith) c.loop-i.invariant

pub look_copies-returns-clause-nullable : goal.look_copies-returns-clause-nullable
look_copies-returns-clause-nullable t c = left_empty (regex_of c.args.a.now) c.args.count c.loop-i._i _ _ _ _ _ _ (omega arith) c.loop-i.invariant

pub look_copies-returns-clause-rest : goal.look_copies-returns-clause-rest
look_copies-returns-clause-rest t c = left_rest (regex_of c.args.a.now) c.args.count c.loop-i._i _ _ _ _ _ _ (omega arith) c.loop-i.invariant

pub look_copies-returns-then-count-gt0-clause-ends : goal.look_copies-returns-then-count-gt0-clause-ends
look_copies-returns-then-count-gt0-clause-ends t c =
    c.look_run.ensures.ends ∙ run_ends c.args.count _ c.args.marks.now c.args.first c.args.last (omega arith) ∙ ap (λ n. final (copies c.args.count (regex_of n)) c.args.marks.now c.args.first c.args.last) (sym c.in-Bytes.is)

pub look_copies-returns-then-count-gt0-clause-nullable : goal.look_copies-returns-then-count-gt0-clause-nullable
look_copies-returns-then-count-gt0-clause-nullable t c =
    c.look_run.ensures.nullable ∙ run_empty c.args.count _ c.args.first c.args.last (omega arith) ∙ ap (λ n. nullable (copies c.args.count (regex_of n)) c.args.first c.args.last) (sym c.in-Bytes.is)

pub look_copies-returns-then-count-gt0-clause-rest : goal.look_copies-returns-then-count-gt0-clause-rest
look_copies-returns-then-count-gt0-clause-rest t c =
    c.look_run.ensures.rest ∙ run_rest c.args.count _ c.args.marks.now ∙ ap (λ n. drop (places (copies c.args.count (regex_of n))) c.args.marks.now) (sym c.in-Bytes.is)
