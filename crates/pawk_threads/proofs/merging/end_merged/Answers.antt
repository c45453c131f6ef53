use Rattle.std.proofs.Common.{◌≡◌, ◌∙◌, ◌++◌, refl, sym, ap}
use Rattle.pawk_code.specs.ProgramViews.{code_view}
use Rattle.pawk_store.specs.Globals.{Globals}
use Rattle.pawk_store.specs.RecordStates.{special_value}
use Rattle.pawk_store.specs.StateViews.{state_of}
use Rattle.pawk_store.specs.LeftViews.{left_view}
use Rattle.pawk_store.specs.Outputs.{in_a_row}
use Rattle.pawk_store.specs.Records.{End}
use Rattle.pawk_store.specs.Runs.{Finish}
use Rattle.pawk_merge.specs.MergeViews as merges
use Rattle.pawk_sequential.specs.RunEnds.{finish_view}
use Rattle.pawk_merge_law.specs.Gathered.{after_output}
use Rattle.pawk_threads.proofs.OutputLemmas.{gone_on}
use Rattle.pawk_threads.proofs.merging.end_merged.Goals as goal

pub returns : goal.returns
returns c =
    let code = code_view c.args.job.code.now in
    let texts = in_a_row c.args.merged.outputs.items in
    let out = c.args.run.now.output.items ++ texts in
    let e : End Globals = record {
      world = c.args.globals.now;
      state = state_of c.args.merged.state;
      output = c.replace-before.new.dest.items;
      left = left_view c.args.merged.left;
    } in
    let f : Finish Globals = finish_view c.run_after_records.new.world c.run_after_records.new.run c.in_ok-ending.ending in
    let x : End Globals = after_output c.args.run.now.output.items (merges.end_view c.args.globals.now c.args.merged) in
    let none = ap (λ v. v.items) c.replace-before.ensures.after ∙ c.new.ensures.items in
    let told = gone_on code c.args.job.budget out e x f refl none c.in_ok-ending.ensures in
    let parts = c.in_ok-output_of.ensures
    ∙ (λ i. ((c.replace-before.ensures.value i).items ++ texts) ++ (c.replace-behind.ensures.value i).items) in
    record {
      world = ap (λ (y : Finish Globals). y.world) told;
      output = ap (λ (y : Finish Globals). y.output) told ∙ sym parts;
      specials = λ v. c.in_ok-specials.ensures.values v ∙ sym (ap (λ (y : Finish Globals). special_value v y.state) told);
      ending = ap (λ (y : Finish Globals). y.ending) told;
    }
