use Rattle.std.proofs.Common.{◌∷◌, [], length, refl, sym, ◌∙◌, ap, length-append}
use Rattle.pawk_store.specs.LeftViews.{left_view}
use Rattle.pawk_merge.specs.ExtentViews.{extent_view}
use Rattle.pawk_merge.specs.MergeViews.{chunk_of}
use Rattle.pawk_merge.specs.Tables.{all_take}
use Rattle.pawk_merge.proofs.ExtentLemmas.{merged_too, no_stop, not_merged, takes_all}
use Rattle.pawk_merge.proofs.MergeLemmas.{same_end}
use Rattle.pawk_merge.proofs.extent.Extent.add.Goals as goal

pub returns-then-is_some : goal.returns-then-is_some
returns-then-is_some c =
    not_merged c.args.globals.now c.args.self.now.merged c.args.self.now.stop c.stop_at-self.result (chunk_of c.args.chunk) (sym c.is_some.ensures ∙ c.if-is_some.true) c.stop_at-self.ensures

pub join_taken-requires : goal.join_taken-requires
join_taken-requires c =
    let none = no_stop c.stop_at-self.result (sym c.is_some.ensures ∙ c.if-is_some.false) in
    takes_all (all_take c.args.chunk.table c.args.globals.now) (left_view c.args.chunk.left) (sym c.stop_at-self.ensures ∙ none)

pub returns : goal.returns
returns c =
    let chunk = chunk_of c.args.chunk in
    let old = extent_view c.args.globals.now c.args.self.now in
    let none = no_stop c.stop_at-self.result (sym c.is_some.ensures ∙ c.if-is_some.false) in
    let texts = c.args.self.now.merged.outputs.items in
    let text = c.args.chunk.output in
    let count = ap length c.in_ok-push.ensures.items ∙ length-append texts (text ∷ []) in
    let end = same_end chunk old.end c.join_taken.new.globals c.push.new.self.items texts text c.in_ok-join_taken.ensures c.in_ok-push.ensures.items refl refl in
    merged_too old (extent_view c.join_taken.new.globals record { merged = record { outputs = c.push.new.self; left = c.args.chunk.left; state = c.args.chunk.state }; stop = c.stop_at-self.result; noted = 0 }) chunk
    c.is_through.result (sym c.stop_at-self.ensures ∙ none) c.is_through.ensures count end none
