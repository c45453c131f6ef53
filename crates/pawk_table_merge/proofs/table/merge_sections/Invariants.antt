use Rattle.pawk_table_merge.specs.Sections.{IsReady, MergesSome}
use Rattle.pawk_table_merge.proofs.table.merge_sections.Given as goal

abbrev pub invariant-loop : goal.invariant-loop
invariant-loop g l = record {
  merges : MergesSome l.fn.setting l.fn.shape l.fn.sections l.rest (g.K.Sink.taken l.initial.sink) (g.K.Sink.taken l.sink) l.fn.flow l.progress;
  ready : IsReady l.fn.setting l.progress.flow l.progress.is_ready;
}
