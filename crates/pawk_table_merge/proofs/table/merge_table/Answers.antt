use Rattle.std.proofs.Common.{◌≡◌, ℕ, ◌+◌, ◌-◌, true, List, [], length, ap, sym, ◌∙◌, subst}
use Rattle.std.proofs.KnownBytes.{Appends-nil}
use Rattle.pawk_code.specs.ProgramViews.{code_view}
use Rattle.pawk_admit.specs.Roles.{roles_view}
use Rattle.pawk_merge_law.specs.Phases.{Phase}
use Rattle.pawk_merge_law.specs.ChunkedRuns.{all_of}
use Rattle.pawk_numbered.specs.Mentions.{reads_number}
use Rattle.pawk_shards.specs.Told.{Tell}
use Rattle.pawk_table_merge.specs.TableMerges.{phase_from, end_at, IsCounted, IsWhole, RefusesTable}
use Rattle.pawk_table_merge.proofs.TableLemmas.{told_there}
use Rattle.pawk_table_merge.proofs.RefusalLemmas.{Laws, if_err, come_unwritten}
use Rattle.pawk_table_merge.proofs.table.merge_table.Goals as goal

pub returns-clause-merges : goal.returns-clause-merges
returns-clause-merges g c =
    let merged = c.in_ok-flow.ensures.merges in
    let m = c.args.merging in
    let code = code_view c.args.job.code.now in
    let known : reads_number code ≡ true → c.args.before ≡ m.flow.state.nr - m.opened =
    λ reads. c.in_ok-check_before.ensures reads ∙ c.saturating_sub.ensures ∙ ap (λ n. n - m.opened) c.count-come.ensures in
    record {
      wrote = merged.wrote;
      appends = merged.appends;
      numbered = known;
      whole = λ sections count turn. subst (λ (n : ℕ). IsWhole n c.in_ok-flow.flow.state.nr count c.in_ok-flow.end) c.count-come.ensures (merged.whole sections count turn);
      counted = subst (λ (n : ℕ). IsCounted n c.in_ok-flow.flow.state.nr c.in_ok-flow.end) c.count-come.ensures merged.counted;
      is = λ b may opened items output at sections count turn chunks told.
          let p : Phase = phase_from code (roles_view m.roles) c.args.job.budget b in
          let here = told_there c.sections_tell_later.ensures p m.rs.items c.args.before m.opened opened items (end_at m.flow output) at.come known sections chunks told in
          merged.is b may items output at sections count turn chunks
          (subst (λ (r : List ℕ). Tell p r (p.state.nr + length items) [] sections chunks) (sym c.deref.ensures.value) here);
    }

pub returns-clause-of : goal.returns-clause-of
returns-clause-of g c = record {
  one_byte = c.requires.one_byte;
  admissible = c.requires.admissible;
  roles = c.requires.roles;
  ready = c.in_ok-flow.ensures.ready;
}

pub returns-in_err-check_before-clause-refused : goal.returns-in_err-check_before-clause-refused
returns-in_err-check_before-clause-refused g c =
    let law : Laws = record { pieces = c.pieces_follow.ensures.pieces tt; output = c.output_is_appended.ensures.records tt } in
    let m = c.args.merging in
    let taken = g.K.Sink.taken c.args.sink.now in
    let refused : RefusesTable (code_view c.args.job.code.now) c.args.job.budget c.args.before c.args.sections.now taken taken m = record {
      wrote = [];
      appends = Appends-nil taken;
      is = λ b may opened items output at sections count turn chunks told.
          come_unwritten law (phase_from (code_view c.args.job.code.now) (roles_view m.roles) c.args.job.budget b) items (all_of chunks) m.flow output at.come;
    } in
    if_err _ _ refused

pub returns-in_err-flow-clause-refused : goal.returns-in_err-flow-clause-refused
returns-in_err-flow-clause-refused g c =
    let refuses = c.in_err-flow.ensures.refused in
    let m = c.args.merging in
    let code = code_view c.args.job.code.now in
    let known : reads_number code ≡ true → c.args.before ≡ m.flow.state.nr - m.opened =
    λ reads. c.in_ok-check_before.ensures reads ∙ c.saturating_sub.ensures ∙ ap (λ n. n - m.opened) c.count-come.ensures in
    let refused : RefusesTable code c.args.job.budget c.args.before c.args.sections.now (g.K.Sink.taken c.args.sink.now) (g.K.Sink.taken c.merge_sections.new.sink) m = record {
      wrote = refuses.wrote;
      appends = refuses.appends;
      is = λ b may opened items output at sections count turn chunks told.
          let p : Phase = phase_from code (roles_view m.roles) c.args.job.budget b in
          let here = told_there c.sections_tell_later.ensures p m.rs.items c.args.before m.opened opened items (end_at m.flow output) at.come known sections chunks told in
          refuses.is b may items output at sections count turn chunks
          (subst (λ (r : List ℕ). Tell p r (p.state.nr + length items) [] sections chunks) (sym c.deref.ensures.value) here);
    } in
    if_err _ _ refused
