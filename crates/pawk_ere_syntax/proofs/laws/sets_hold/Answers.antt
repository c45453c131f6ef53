use Rattle.pawk_ere_syntax.proofs.Sets.{with_ranges_holds, complement_holds, only_holds, none_holds, all_holds}
use Rattle.pawk_ere_syntax.proofs.laws.sets_hold.Goals as goal

pub returns : goal.returns
returns c = record { all = all_holds; none = none_holds; one = only_holds; ranges = with_ranges_holds; outside = complement_holds }
