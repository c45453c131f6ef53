use Rattle.std.proofs.Common.{◌-◌}
use Rattle.pawk_records.proofs.count.+count_paragraph_begins.Given as goal

abbrev pub decreases-count_paragraph_begins : goal.decreases-count_paragraph_begins
decreases-count_paragraph_begins l = l.end - l.start
