use Rattle.pawk_store.proofs.ListingLawLemmas.{listing_holds}
use Rattle.pawk_store.proofs.listing_law.listing_law.Goals as goal

pub returns : goal.returns
returns c = listing_holds
