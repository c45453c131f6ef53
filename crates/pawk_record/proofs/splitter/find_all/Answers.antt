use Rattle.pawk_record.proofs.SplittingLemmas.{added_all, longer}
use Rattle.pawk_record.proofs.splitter.find_all.Goals as goal

pub returns-in-Ok-clause-same : goal.returns-in-Ok-clause-same
returns-in-Ok-clause-same c = added_all c.args.fs.now c.args.paragraph c.args.text.now c.args.ranges.now.items c.append_fields.new.ranges.items c.in-Ok.ensures.added

pub returns-in-Ok-clause-more : goal.returns-in-Ok-clause-more
returns-in-Ok-clause-more c = let more = added_all c.args.fs.now c.args.paragraph c.args.text.now c.args.ranges.now.items c.append_fields.new.ranges.items c.in-Ok.ensures.added in longer _ _ _ more
