use Rattle.std.proofs.Common.{◌≡◌, ◌+◌, length, take, drop}
use Rattle.std.specs.Io.KnownBytes.{Appends}
use Rattle.pawk_store.specs.Outputs.{in_a_row}
use Rattle.pawk_par.proofs.writing.write_parts.Given as goal

abbrev pub invariant-loop-part : goal.invariant-loop-part
invariant-loop-part g l = record {
  size : l.done + length (in_a_row l.part-iterator.rest.items) ≡ length (in_a_row l.fn.parts.items);
  rest : drop l.done (in_a_row l.fn.parts.items) ≡ in_a_row l.part-iterator.rest.items;
  took : Appends (g.K.Sink.taken l.initial.sink) (g.K.Sink.taken l.sink) (take l.done (in_a_row l.fn.parts.items));
  no_failure : g.K.Sink.failures l.sink ≡ g.K.Sink.failures l.initial.sink;
}
