use Rattle.pawk_merge_law.specs.Phases.{Phase}
use Rattle.pawk_shards.proofs.TurnLemmas.{Laws, goes_on, may_run_there, stays_bad, ended}
use Rattle.pawk_shards.proofs.law.records_go_on.Goals as goal

pub returns : goal.returns
returns c =
    let law : (p : Phase) → Laws p = λ p. record {
      keep = c.records_keep.ensures p;
      follow = c.records_follow.ensures p;
      follow_traced = c.records_follow-2.ensures p;
      anew = c.reads_anew.ensures p;
      anew_traced = c.reads_anew-2.ensures p;
      traces = c.trace_changes_nothing.ensures;
      run_on = c.may_run_on.ensures;
      parting = c.parts_tell.ensures;
    } in
    record {
      turn = λ p may items e come more has. goes_on p may (law p) items e come more has;
      may_run = λ p may items e come. may_run_there p may (law p) items e come;
      later = λ p may items more. (λ h. stays_bad p may (law p) items more h, λ closed. ended p may (law p) items more closed);
    }
