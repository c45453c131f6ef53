use Rattle.std.proofs.Common.{refl, length, arith}
use Rattle.std.proofs.lemmas.Option.{slice_get_read}
use Rattle.pawk_ere_automaton.proofs.table.position_of.Goals as goal

pub returns-then-has_key : goal.returns-then-has_key
returns-then-has_key c = (c.index-state.result.now, slice_get_read c.args.table.now.states.items (length c.args.table.now.states.items) c.unwrap_or-hint.result c.index-state.result.now refl (omega (arith, c.args.table.now.states.ok.0)) c.index-state.ensures, c.has_key.ensures c.if-has_key.true)
