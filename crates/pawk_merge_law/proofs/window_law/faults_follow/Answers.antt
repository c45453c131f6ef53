use Rattle.pawk_merge_law.specs.Phases.{opening}
use Rattle.pawk_merge_law.proofs.RedoneLemmas.{Laws, fault_numbers, turns_output, file_output, files_bad, pieces_bad}
use Rattle.pawk_merge_law.proofs.window_law.faults_follow.Goals as goal

pub returns-clause-numbers : goal.returns-clause-numbers
returns-clause-numbers c = λ p file name nr fnr records. fault_numbers p file name nr fnr records

pub returns-clause-output : goal.returns-clause-output
returns-clause-output c = λ make p rs e out ts.
    let appended = c.output_is_appended.ensures.records tt in
    let appended_traced = c.output_is_appended-2.ensures.records p in (
      turns_output make p rs appended appended_traced out ts e,
      λ name fnr records. file_output make p rs appended appended_traced out ts e name fnr records,
    )

pub returns-clause-files : goal.returns-clause-files
returns-clause-files c = λ make keeps p rs files may.
    let law : Laws = record {
      traces = c.trace_changes_nothing.ensures;
      longer = c.trace_is_appended.ensures;
      follow = c.records_follow.ensures;
    } in
    files_bad law make p rs may keeps files 0 0 (opening p)

pub returns-clause-pieces : goal.returns-clause-pieces
returns-clause-pieces c = λ make p rs e name fnr records more ts may.
    let law : Laws = record {
      traces = c.trace_changes_nothing.ensures;
      longer = c.trace_is_appended.ensures;
      follow = c.records_follow.ensures;
    } in
    pieces_bad law make p rs may e name fnr records more ts
