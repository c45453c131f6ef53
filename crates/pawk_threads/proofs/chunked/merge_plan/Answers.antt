use Rattle.std.proofs.Common.{◌≡◌, Ok, Err, map, sym, ap, ◌∙◌}
use Rattle.std.proofs.lemmas.Result.{err_from_is_err_and}
use Rattle.pawk_code.specs.ProgramViews.{code_view}
use Rattle.pawk_input.specs.Input.{files_of}
use Rattle.pawk_store.specs.StateViews.{state_of}
use Rattle.pawk_admit.specs.Roles.{roles_view}
use Rattle.pawk_merge.specs.Merges.{merge, before_chunks}
use Rattle.pawk_merge.specs.MergeViews.{chunk_of, end_view}
use Rattle.pawk_routes.specs.Prologue.{end_of}
use Rattle.pawk_threads.proofs.MergedLemmas.{law_of, merged, no_cutting, stopped, stop_told}
use Rattle.pawk_threads.proofs.chunked.merge_plan.Goals as goal

pub returns-in_err-new-clause-refused : goal.returns-in_err-new-clause-refused
returns-in_err-new-clause-refused g c =
    let p = err_from_is_err_and c.from_residual-in_err-new.result c.from_residual-in_err-new.ensures.1 in
    rw (p.1, p.2) no_cutting

pub returns-in_err-results-clause-refused : goal.returns-in_err-results-clause-refused
returns-in_err-results-clause-refused g c =
    let p = err_from_is_err_and c.from_residual-in_err-results.result c.from_residual-in_err-results.ensures.1 in
    rw p.1 p.2

pub returns-in-Ok-clause-went : goal.returns-in-Ok-clause-went
returns-in-Ok-clause-went g c =
    let code = code_view c.args.job.code.now in
    let roles = roles_view c.args.roles.now in
    let budget = c.args.job.budget in
    let rs = c.args.source.rs.now in
    let files = files_of c.args.source.input.now in
    let e = end_of c.args.prologue.now in
    let results = c.in_ok-results.results.items in
    let may = c.in_ok-may_run.ensures.ready c.if-not-branch.false in
    let law = law_of code roles budget rs files e c.requires.taken c.results_merge.ensures may c.requires.admissible c.requires.roles c.args.source.plan.now c.requires.planned results c.in_ok-results.ensures in
    let x = end_view c.merge.new.globals c.in-Ok.merged in
    let r = merge (map chunk_of results) (before_chunks e.world e.state) in
    let is : r ≡ Ok x = ap (λ s. merge (map chunk_of results) (before_chunks e.world (state_of s))) (sym c.replace-state.ensures.value) ∙ c.in-Ok.ensures in
    let told = merged code roles budget rs files e c.requires.taken r x c.requires.chunked.one_byte law is in
    told

pub returns-else-lacks_memory-clause-went : goal.returns-else-lacks_memory-clause-went
returns-else-lacks_memory-clause-went g c =
    let code = code_view c.args.job.code.now in
    let roles = roles_view c.args.roles.now in
    let budget = c.args.job.budget in
    let rs = c.args.source.rs.now in
    let files = files_of c.args.source.input.now in
    let e = end_of c.args.prologue.now in
    let results = c.in_ok-results.results.items in
    let may = c.in_ok-may_run.ensures.ready c.if-not-branch.false in
    let law = law_of code roles budget rs files e c.requires.taken c.results_merge.ensures may c.requires.admissible c.requires.roles c.args.source.plan.now c.requires.planned results c.in_ok-results.ensures in
    let stop = stop_told c.lacks_memory.result c.in-Err.stop c.if-lacks_memory.false c.lacks_memory.ensures.1 in
    let r = merge (map chunk_of results) (before_chunks e.world e.state) in
    let is : r ≡ Err stop.0 = ap (λ s. merge (map chunk_of results) (before_chunks e.world (state_of s))) (sym c.replace-state.ensures.value) ∙ c.in-Err.ensures stop.0 stop.1 in
    stopped code roles budget rs files e c.requires.taken r stop.0 law is
