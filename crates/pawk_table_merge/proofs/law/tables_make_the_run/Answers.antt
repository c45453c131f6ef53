use Rattle.pawk_admit.specs.Roles.{roles_view}
use Rattle.pawk_merge_law.specs.Phases.{Phase}
use Rattle.pawk_flow.specs.Pieces.{end_between}
use Rattle.pawk_table_merge.specs.TableMerges.{phase_from}
use Rattle.pawk_table_merge.proofs.RunLemmas.{Laws, concludes}
use Rattle.pawk_table_merge.proofs.WholeLemmas as wholes
use Rattle.pawk_table_merge.proofs.law.tables_make_the_run.Goals as goal

pub returns : goal.returns
returns c = λ code budget assignments first taken begun merged now_taken m x tables left end begin told merges ends.
    let p : Phase = phase_from code (roles_view m.roles) budget (end_between m.flow) in
    let whole : wholes.Laws = record {
      opening = c.run_begins.ensures;
      one = c.chunks_merge_apart.ensures.one;
      turn = c.records_go_on.ensures.turn;
      later = c.records_go_on.ensures.later;
      renumbered = c.numbers_are_own.ensures.renumbered;
      none = c.records_may_be_numbered_from_none.ensures p;
    } in
    let law : Laws = record {
      whole = whole;
      opening = c.run_begins.ensures;
      later = c.records_go_on.ensures.later;
      renumbered = c.numbers_are_own.ensures.renumbered;
      files = c.numbers_are_own.ensures.files;
      follow = c.files_follow.ensures.files tt;
      behind = c.output_is_appended.ensures.behind tt;
      assigned = c.assignments_follow.ensures;
    } in
    concludes law code budget assignments first taken begun merged now_taken m x tables left end begin told merges ends
