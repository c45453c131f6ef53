use Rattle.pawk_ere.proofs.Keeping.{kept_of}
use Rattle.pawk_ere.proofs.cache.keep.Goals as goal

pub returns-clause-others : goal.returns-clause-others
returns-clause-others c = kept_of c.put.result c.args.others.now c.put.new.self c.args.loan.text c.args.loan.matcher c.put.ensures.entries c.put.ensures.err c.requires.others c.requires.loan
