use Rattle.std.proofs.Common.{◌++◌, ap, ◌∙◌, sym, arith, false}
use Rattle.pawk_ere_automaton.specs.Tree.{regex_of}
use Rattle.pawk_ere_automaton.specs.Regex.{copies}
use Rattle.pawk_ere_automaton.specs.Marks.{turns}
use Rattle.pawk_ere_automaton.proofs.Copies.{left_step, noted_step, noted_turn, run_noted}
use Rattle.pawk_ere_automaton.proofs.marks.+noting.Goals as goal

pub note_copies-returns-in-Bytes-clause-out : goal.note_copies-returns-in-Bytes-clause-out
note_copies-returns-in-Bytes-clause-out t c =
    run_noted c.args.count _ c.args.marks.now c.args.first c.args.out.now.items ∙ ap (λ n. c.args.out.now.items ++ turns (copies c.args.count (regex_of n)) c.args.marks.now c.args.first) (sym c.in-Bytes.is)

pub note_copies-loop-i-preserved : goal.note_copies-loop-i-preserved
note_copies-loop-i-preserved t c =
    let i = c.loop-i.invariant in
    let e = c.in_ok-turn.ensures in
    let s = c.in_sequence-front.ensures in
    record {
      left = left_step (regex_of c.args.a.now) c.args.count c.loop-i._i c.args.marks.now c.loop-i.front.rest.now c.loop-i.front.ends c.loop-i.front.nullable c.args.first false
          c.in_ok-turn.turn.ends c.in_ok-turn.turn.nullable c.in_ok-turn.turn.rest.now c.in_sequence-front.result.ends c.in_sequence-front.result.nullable c.in_sequence-front.result.rest.now
          c.loop-i-test.true i.left e.ends e.nullable e.rest s.ends s.nullable s.rest;
      noted = noted_step (regex_of c.args.a.now) c.args.count c.loop-i._i c.args.first c.args.marks.now c.loop-i.front.rest.now c.in_sequence-front.result.rest.now c.args.out.now.items c.loop-i.out.items c.note_turns.new.out.items
          c.loop-i-test.true i.noted e.out (s.rest ∙ e.rest);
    }

pub note_turn-returns-clause-out : goal.note_turn-returns-clause-out
note_turn-returns-clause-out t c =
    noted_turn c.args.out.now.items _ c.note_turns.new.out.items (turns (regex_of c.args.a.now) c.args.marks.now c.args.first) c.len-place.result c.in_ok-inside.inside.ends _ (omega (arith, c.args.out.now.ok.0)) c.in_ok-push.ensures.items c.in_ok-inside.ensures.out c.in_ok-inside.ensures.ends
