use Rattle.std.proofs.Common.{◌≡◌, ◌∙◌, ℕ, Vec, Global, length, sym, ap, subst, rules}
use Rattle.std.proofs.lemmas.List.{length-map}
use Rattle.pawk_code.specs.ProgramViews.{code_view}
use Rattle.pawk_input.specs.Input.{files_of}
use Rattle.pawk_store.specs.Globals.{Globals, calls}
use Rattle.pawk_store.specs.Openings.{opened, pairs_of, texts_of}
use Rattle.pawk_store.specs.RecordStates.{opening}
use Rattle.pawk_store.specs.StateViews.{state_of}
use Rattle.pawk_store.specs.Runs.{Finish}
use Rattle.pawk_store.specs.Runs as spec
use Rattle.pawk_sequential.specs.RunEnds.{Finishes}
use Rattle.pawk_sequential.proofs.FinishLemmas.{answers}
use Rattle.pawk_sequential.proofs.outcome.run_one.Goals as goal

pub returns-clause-outcome : goal.returns-clause-outcome
returns-clause-outcome c =
    let code = code_view c.args.job.code.now in
    let many : c.len-arrays.result ≡ length c.args.job.code.now.arrays.items = search rules in
    let opens : c.in_ok-globals.globals ≡ opened code.scalars (length code.arrays) (pairs_of c.args.assignments.now) =
    c.in_ok-globals.ensures
    ∙ (λ i. opened (texts_of (c.as_slice-names.ensures.value i)) (many i) (pairs_of c.args.assignments.now))
    ∙ ap (λ n. opened code.scalars n (pairs_of c.args.assignments.now)) (sym (length-map c.args.job.code.now.arrays.items (λ (name : Vec ℕ Global). name.items))) in
    let same : spec.run calls code.expressions code c.args.job.budget (files_of c.args.input.now) c.in_ok-globals.globals (state_of c.in_ok-run.run'.state) ≡ spec.run calls code.expressions code c.args.job.budget (files_of c.args.input.now) (opened code.scalars (length code.arrays) (pairs_of c.args.assignments.now)) (opening (length code.rules)) = λ i. spec.run calls code.expressions code c.args.job.budget (files_of c.args.input.now) (opens i) (c.in_ok-run.ensures.1 i) in
    let world = c.run_program.new.world in
    let finish = c.in_ok-finish.finish in
    answers _ world finish c.of.result (subst (λ (meant : Finish Globals). Finishes meant world finish) same c.in_ok-finish.ensures.ends) c.of.ensures
