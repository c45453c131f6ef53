use Rattle.std.proofs.Common.{◌≡◌, ◌+◌, drop}
use Rattle.pawk_store.specs.Openings.{texts_of}
use Rattle.pawk_store.specs.Listings.{with_all, scalars_from}
use Rattle.pawk_store.specs.ListingViews.{globals_in}
use Rattle.pawk_store.proofs.listing.put_scalars.Given as goal

abbrev pub invariant-loop-index : goal.invariant-loop-index
invariant-loop-index l =
    with_all (scalars_from (l.first + l.index) (texts_of (drop l.index l.names)) l.globals) (globals_in l.all)
    ≡ with_all (scalars_from l.first (texts_of l.names) l.globals) (globals_in l.fn.all)
