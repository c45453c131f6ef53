use Rattle.std.proofs.Common.{List, ℕ, ◌∙◌, ap, subst}
use Rattle.pawk_keyed_map.specs.Keyed.{put}
use Rattle.pawk_keyed_map.specs.Keys.{text_of}
use Rattle.pawk_keyed_map.specs.Pairs.{by_key, HasKeyAt}
use Rattle.pawk_keyed_map.proofs.PairsLemmas.{place_inserted, put_updated}
use Rattle.pawk_keyed_map.proofs.place.add_key.Goals as goal

pub returns-clause-place : goal.returns-clause-place
returns-clause-place g c =
    let k = c.in_ok-key.key in
    let u = c.in_ok-place.ensures in
    let P : List ℕ → Type 0 = HasKeyAt c.insert_full.new.self.entries c.in_ok-place.place in
    subst P c.in_ok-key.ensures (rw (u.index, u.entries) (place_inserted k _ c.args.map.now.entries))

pub returns-clause-added : goal.returns-clause-added
returns-clause-added g c =
    let k = c.in_ok-key.key in
    let u = c.in_ok-place.ensures.updates in
    put_updated (λ v. v) (text_of k) c.args.map.now.entries c.insert_full.new.self.entries c.args.value u.1 u.3
    ∙ ap (λ q. put q c.args.value (by_key c.args.map.now.entries)) c.in_ok-key.ensures
