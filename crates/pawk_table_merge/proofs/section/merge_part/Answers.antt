use Rattle.std.proofs.Common.{false, [], refl, sym, ◌∙◌}
use Rattle.std.proofs.KnownBytes.{Appends-nil, Keeps-refl}
use Rattle.pawk_code.specs.ProgramViews.{code_view}
use Rattle.pawk_admit.specs.Roles.{roles_view}
use Rattle.pawk_tables.specs.Layout.{part}
use Rattle.pawk_table_merge.specs.Sections.{phase_of}
use Rattle.pawk_table_merge.specs.declared.section.Progress.{Progress}
use Rattle.pawk_table_merge.proofs.PartLemmas.{PartLaws, part_section_stops, part_section_goes}
use Rattle.pawk_table_merge.proofs.RefusalLemmas.{Laws, if_err, section_unwritten, part_refused}
use Rattle.pawk_table_merge.proofs.CarryLemmas.{joined_goes_on}
use Rattle.pawk_table_merge.proofs.section.merge_part.Goals as goal

pub returns-then-not-takes_table-clause-merges : goal.returns-then-not-takes_table-clause-merges
returns-then-not-takes_table-clause-merges g c =
    let s = c.args.setting in
    let old = c.args.progress in
    let parts : PartLaws = record { says = c.parts_are_chunks.ensures.says; apart = c.parts_are_chunks.ensures.apart } in
    record {
      wrote = [];
      appends = Appends-nil _;
      last = c.records_in.ensures;
      is = λ b may items output is_in ss chunks told.
          part_section_stops (phase_of s b) may parts s.rs.now items output old is_in c.args.records c.args.output.now c.args.table ss
          c.records_go_on.ensures.later (sym c.takes_table.ensures ∙ c.if-not-takes_table.true) chunks told;
    }

pub returns-clause-merges : goal.returns-clause-merges
returns-clause-merges g c =
    let s = c.args.setting in
    let old = c.args.progress in
    let new : Progress = record { flow = c.take_part.new.flow; name = old.name; has_record = false; is_ready = c.stays_ready-is_ready.result } in
    let parts : PartLaws = record { says = c.parts_are_chunks.ensures.says; apart = c.parts_are_chunks.ensures.apart } in
    record {
      wrote = c.args.output.now;
      appends = c.in_ok-write_bytes.ensures.all;
      last = tt;
      is = λ b may items output is_in ss chunks told.
          part_section_goes (phase_of s b) may parts s.rs.now items output old is_in c.args.records c.args.output.now c.args.table ss
          new (sym c.takes_table.ensures ∙ c.if-not-takes_table.false) c.in_ok-take_part.ensures refl refl chunks told;
    }

pub returns-clause-ready : goal.returns-clause-ready
returns-clause-ready g c = λ known.
    let s = c.args.setting in
    let stays = c.stays_ready-is_ready.ensures known in
    joined_goes_on (code_view s.job.code.now) (roles_view s.roles.now) c.args.records c.args.table c.args.progress.flow c.take_part.new.flow
    (c.requires stays.0) stays.1 (sym c.takes_table.ensures ∙ c.if-not-takes_table.false) c.in_ok-take_part.ensures

pub returns-in_err-take_part-clause-refused : goal.returns-in_err-take_part-clause-refused
returns-in_err-take_part-clause-refused g c =
    let law : Laws = record { pieces = c.pieces_follow.ensures.pieces tt; output = c.output_is_appended.ensures.records tt } in
    if_err _ _ (section_unwritten law c.args.setting (part c.args.records c.args.output.now c.args.table) _ _ c.args.progress (Keeps-refl _))

pub returns-in_err-write_bytes-clause-refused : goal.returns-in_err-write_bytes-clause-refused
returns-in_err-write_bytes-clause-refused g c =
    let law : Laws = record { pieces = c.pieces_follow.ensures.pieces tt; output = c.output_is_appended.ensures.records tt } in
    let parts : PartLaws = record { says = c.parts_are_chunks.ensures.says; apart = c.parts_are_chunks.ensures.apart } in
    if_err _ _ (part_refused law parts c.args.setting _ _ c.args.progress c.take_part.new.flow c.args.records c.args.output.now c.args.table
    (sym c.takes_table.ensures ∙ c.if-not-takes_table.false) c.in_ok-take_part.ensures c.in_err-write_bytes.ensures.some)
