use Rattle.std.proofs.Common.{◌≡◌, drop}
use Rattle.pawk_store.specs.Openings.{texts_of}
use Rattle.pawk_store.specs.Listings.{with_all, arrays_from}
use Rattle.pawk_store.specs.ListingViews.{globals_in}
use Rattle.pawk_store.proofs.listing.put_arrays.Given as goal

abbrev pub invariant-loop-index : goal.invariant-loop-index
invariant-loop-index l =
    with_all (arrays_from l.index (texts_of (drop l.index l.names)) l.globals) (globals_in l.all)
    ≡ with_all (arrays_from 0 (texts_of l.names) l.globals) (globals_in l.fn.all)
