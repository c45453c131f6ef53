use Rattle.pawk_builtins.proofs.SplitLemmas.{split_settles, split_inside}
use Rattle.pawk_builtins.proofs.matchers.Matchers.split_by.Goals as goal

pub returns-clause-pieces : goal.returns-clause-pieces
returns-clause-pieces c = split_settles c.args.fs.now c.args.text.now c.split_fields_with.result c.split_fields_with.ensures.fields c.split_fields_with.ensures.fault

pub returns-clause-within : goal.returns-clause-within
returns-clause-within c = split_inside c.args.fs.now c.args.text.now c.split_fields_with.result c.split_fields_with.ensures.fields
