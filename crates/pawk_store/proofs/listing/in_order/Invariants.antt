use Rattle.std.proofs.Common.{◌≡◌, map}
use Rattle.pawk_store.specs.ListingViews.{content_of, named_of}
use Rattle.pawk_store.proofs.listing.in_order.Given as goal

abbrev pub invariant-loop-name : goal.invariant-loop-name
invariant-loop-name l = map named_of l.all.items ≡ map (λ e. (e.0.items, content_of e.1)) l.yielded
