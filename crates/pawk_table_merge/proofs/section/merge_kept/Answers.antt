use Rattle.std.proofs.Common.{true, refl}
use Rattle.std.proofs.KnownBytes.{Keeps-refl}
use Rattle.std.specs.Prelude.{not}
use Rattle.pawk_code.specs.ProgramViews.{code_view}
use Rattle.pawk_admit.specs.Roles.{roles_view}
use Rattle.pawk_store.specs.LeftViews.{left_view}
use Rattle.pawk_store.specs.Outputs.{in_a_row}
use Rattle.pawk_flow.specs.Piece.{Piece}
use Rattle.pawk_tables.specs.Layout.{kept}
use Rattle.pawk_table_merge.specs.declared.section.Progress.{Progress}
use Rattle.pawk_table_merge.proofs.KeptLemmas.{Laws, kept_section, last_so}
use Rattle.pawk_table_merge.proofs.RefusalLemmas.{if_err, section_unwritten, kept_refused}
use Rattle.pawk_table_merge.proofs.RefusalLemmas as refusals
use Rattle.pawk_table_merge.proofs.CarryLemmas.{kept_goes_on}
use Rattle.pawk_table_merge.proofs.section.merge_kept.Goals as goal

pub returns-clause-merges : goal.returns-clause-merges
returns-clause-merges g c =
    let s = c.args.setting in
    let old = c.args.progress in
    let x = c.in_ok-flow.end in
    let new : Progress = record { flow = c.in_ok-flow.flow; name = old.name; has_record = true; is_ready = not x.is_stopped } in
    let piece : Piece = record { rs = s.rs; name = old.name; fnr = c.args.fnr; bytes = c.in_ok-from_slice.field-0 } in
    let law : Laws = record {
      turn = c.records_go_on.ensures.turn;
      later = c.records_go_on.ensures.later;
      output = c.output_is_appended.ensures.records tt;
      fault = c.faults_follow.ensures.output;
    } in
    record {
      wrote = in_a_row x.outputs.items;
      appends = c.in_ok-write_parts.ensures.all;
      last = last_so (left_view x.left) x.is_stopped c.records_in.result s.come new.flow.state.nr c.records_in.ensures c.end_of-end.result c.end_of-end.ensures;
      is = λ b may items output is_in ss chunks told.
          kept_section law (code_view s.job.code.now) (roles_view s.roles.now) s.job.budget b may s.rs.now items output old new is_in ss piece x c.in_ok-flow.ensures.runs
          c.args.fnr c.args.bytes.now refl refl refl c.in_ok-from_slice.ensures.items c.in_ok-flow.ensures.goes refl c.records_in.result c.end_of-end.result c.end_of-end.ensures chunks told;
    }

pub returns-clause-ready : goal.returns-clause-ready
returns-clause-ready g c = λ ready.
    let s = c.args.setting in
    let old = c.args.progress in
    let x = c.in_ok-flow.end in
    let piece : Piece = record { rs = s.rs; name = old.name; fnr = c.args.fnr; bytes = c.in_ok-from_slice.field-0 } in
    kept_goes_on (code_view s.job.code.now) (roles_view s.roles.now) s.job.budget piece old.flow c.in_ok-flow.flow x.is_stopped c.in_ok-flow.ensures.goes ready

pub returns-in_err-from_slice-clause-refused : goal.returns-in_err-from_slice-clause-refused
returns-in_err-from_slice-clause-refused g c =
    let law : refusals.Laws = record { pieces = c.pieces_follow.ensures.pieces tt; output = c.output_is_appended.ensures.records tt } in
    if_err _ _ (section_unwritten law c.args.setting (kept c.args.fnr c.args.bytes.now) _ _ c.args.progress (Keeps-refl _))

pub returns-in_err-flow-clause-refused : goal.returns-in_err-flow-clause-refused
returns-in_err-flow-clause-refused g c =
    let law : refusals.Laws = record { pieces = c.pieces_follow.ensures.pieces tt; output = c.output_is_appended.ensures.records tt } in
    if_err _ _ (section_unwritten law c.args.setting (kept c.args.fnr c.args.bytes.now) _ _ c.args.progress (Keeps-refl _))

pub returns-in_err-write_parts-clause-refused : goal.returns-in_err-write_parts-clause-refused
returns-in_err-write_parts-clause-refused g c =
    let s = c.args.setting in
    let old = c.args.progress in
    let piece : Piece = record { rs = s.rs; name = old.name; fnr = c.args.fnr; bytes = c.in_ok-from_slice.field-0 } in
    let law : refusals.Laws = record { pieces = c.pieces_follow.ensures.pieces tt; output = c.output_is_appended.ensures.records tt } in
    let laws : Laws = record {
      turn = c.records_go_on.ensures.turn;
      later = c.records_go_on.ensures.later;
      output = c.output_is_appended.ensures.records tt;
      fault = c.faults_follow.ensures.output;
    } in
    if_err _ _ (kept_refused law laws s _ _ old c.in_ok-flow.flow c.args.fnr c.args.bytes.now piece c.in_ok-flow.end c.in_ok-flow.ensures.runs refl refl refl c.in_ok-from_slice.ensures.items
    c.in_err-write_parts.ensures.some)
