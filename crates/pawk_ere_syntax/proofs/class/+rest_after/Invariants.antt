use Rattle.std.proofs.Common.{length}
use Rattle.pawk_ere_syntax.proofs.class.+rest_after.Given as goal

abbrev pub decreases-rest_after : goal.decreases-rest_after
decreases-rest_after l = length l.name.now
