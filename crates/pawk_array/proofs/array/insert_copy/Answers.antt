use Rattle.std.proofs.Common.{◌∙◌, ap}
use Rattle.pawk_value.specs.Value.{shown}
use Rattle.pawk_array.specs.Entries.{put}
use Rattle.pawk_keyed_map.specs.Keys.{text_of}
use Rattle.pawk_array.specs.ArrayViews.{entries_of}
use Rattle.pawk_keyed_map.proofs.PairsLemmas.{put_updated}
use Rattle.pawk_array.proofs.array.insert_copy.Goals as goal

pub returns : goal.returns
returns c =
    let u = c.in_ok-insert.ensures.updates in
    let old = entries_of c.args.map.now.entries in
    put_updated shown (text_of c.in_ok-key.key) c.args.map.now.entries c.insert.new.self.entries c.in_ok-value.value u.1 u.3
    ∙ ap (λ k. put k (shown c.in_ok-value.value) old) c.in_ok-key.ensures
    ∙ ap (λ v. put c.args.key.now v old) c.in_ok-value.ensures.copy
