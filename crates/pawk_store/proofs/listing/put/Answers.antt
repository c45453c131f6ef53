use Rattle.std.proofs.Common.{◌∙◌, ap}
use Rattle.std.specs.FinMap.Entries.{put}
use Rattle.pawk_array.specs.Entries.{order}
use Rattle.pawk_store.specs.ListingViews.{content_of, globals_in}
use Rattle.pawk_store.proofs.ListingLemmas.{seen, put_seen}
use Rattle.pawk_store.proofs.listing.put.Goals as goal

pub returns : goal.returns
returns c =
    let old = globals_in c.args.globals.now in
    ap seen c.in_ok-insert.ensures.entries
    ∙ put_seen c.args.globals.now.entries c.in_ok-name.name c.args.content
    ∙ ap (λ k. put order k (content_of c.args.content) old) c.in_ok-name.ensures.items
