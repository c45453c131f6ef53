use Rattle.std.proofs.Common.{length}
use Rattle.pawk_ere_syntax.proofs.class.+class_among.Given as goal

abbrev pub decreases-class_among : goal.decreases-class_among
decreases-class_among l = length l.classes.now
