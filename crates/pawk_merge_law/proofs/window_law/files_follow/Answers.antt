use Rattle.pawk_merge_law.proofs.FlowLemmas.{files_follow, piece_follows, turns_output, file_output}
use Rattle.pawk_merge_law.proofs.window_law.files_follow.Goals as goal

pub returns-clause-files : goal.returns-clause-files
returns-clause-files g c = λ i make keeps eres code budget rs e files on. files_follow (g.P.Policy.calls i) eres code budget make rs keeps 0 0 files e on

pub returns-clause-pieces : goal.returns-clause-pieces
returns-clause-pieces g c = λ i make last eres code budget rs e name fnr records more ts on. piece_follows (g.P.Policy.calls i) eres code budget make rs last name fnr records more ts e on

pub returns-clause-output : goal.returns-clause-output
returns-clause-output g c = λ i make last eres code budget rs e out ts.
    let appended = c.output_is_appended.ensures.records i in
    let stays = c.output_is_appended.ensures.behind i in (
      turns_output (g.P.Policy.calls i) eres code budget make rs last appended stays out ts e,
      λ name fnr records. file_output (g.P.Policy.calls i) eres code budget make rs last appended stays out ts e name fnr records,
    )
