use Rattle.std.proofs.Common.{◌≡◌, unwrap_or, drop}
use Rattle.std.specs.Option.{option_map}
use Rattle.pawk_value.specs.Value.{Val, Maybe}
use Rattle.pawk_store.specs.Openings.{pairs_of, value_after}
use Rattle.pawk_pieces.proofs.operands.last_value.Given as goal

abbrev pub invariant-loop-assignment : goal.invariant-loop-assignment
invariant-loop-assignment l = (v : Val) → value_after (pairs_of l.assignments) l.name v ≡ value_after (pairs_of (drop l.assignment-index l.assignments)) l.name (unwrap_or (option_map (λ text. Maybe text.now) l.last) v)
