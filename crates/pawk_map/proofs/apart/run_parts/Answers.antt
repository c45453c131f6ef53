use Rattle.std.proofs.Common.{◌≡◌, ◌∙◌, false, true, ap, sym}
use Rattle.pawk_code.specs.ProgramViews.{code_view}
use Rattle.pawk_input.specs.Input.{files_of}
use Rattle.pawk_admit.specs.Roles.{roles_view}
use Rattle.pawk_store.specs.StateViews.{state_of}
use Rattle.pawk_merge_law.specs.Chunks.{Opening}
use Rattle.pawk_map.specs.Parted.{all_through}
use Rattle.pawk_map.proofs.RanLemmas.{parts_said, parts_stopped}
use Rattle.pawk_map.proofs.apart.run_parts.Goals as goal

pub returns-then-not-are_through : goal.returns-then-not-are_through
returns-then-not-are_through g c =
    let s = c.args.setting in
    let o : Opening = record { code = code_view s.job.code.now; budget = s.job.budget; globals = s.globals.now; roles = roles_view s.roles.now; state = state_of s.state.now } in
    let off : all_through c.in_ok-results.results.items ≡ false =
    sym (c.are_through.ensures ∙ ap all_through c.deref.ensures.value) ∙ c.if-not-are_through.true in
    parts_stopped o c.args.source.rs.now (files_of c.args.source.input.now) c.requires.ready c.args.source.plan.now c.requires.placed
    c.in_ok-results.results.items c.args.nr c.requires.numbered c.in_ok-results.ensures off

pub returns : goal.returns
returns g c =
    let s = c.args.setting in
    let o : Opening = record { code = code_view s.job.code.now; budget = s.job.budget; globals = s.globals.now; roles = roles_view s.roles.now; state = state_of s.state.now } in
    let on : all_through c.in_ok-results.results.items ≡ true =
    sym (c.are_through.ensures ∙ ap all_through c.deref.ensures.value) ∙ c.if-not-are_through.false in
    parts_said o c.args.source.rs.now (files_of c.args.source.input.now) c.requires.ready c.args.source.plan.now c.requires.placed
    c.in_ok-results.results.items c.args.nr c.requires.numbered c.in_ok-results.ensures
    c.chunks_merge_apart.ensures.leaves c.neighbours_are_joined.ensures.notes c.in_ok-parts_of.field-0.items on c.in_ok-parts_of.ensures
