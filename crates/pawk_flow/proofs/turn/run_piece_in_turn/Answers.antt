use Rattle.pawk_flow.proofs.turn.run_piece_in_turn.Goals as goal

pub run_piece_over-requires-clause-numbers : goal.run_piece_over-requires-clause-numbers
run_piece_over-requires-clause-numbers c = c.numbers_alike.ensures.numbers tt

pub run_piece_over-requires-clause-fnr : goal.run_piece_over-requires-clause-fnr
run_piece_over-requires-clause-fnr c = c.numbers_alike.ensures.fnr tt

pub returns-clause-runs : goal.returns-clause-runs
returns-clause-runs c = record { ends = c.in_ok-state.ensures.ends; counts = c.in_ok-state.ensures.counts }
