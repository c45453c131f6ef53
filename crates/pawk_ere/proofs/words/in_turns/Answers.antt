use Rattle.std.proofs.Common.{refl}
use Rattle.pawk_ere.proofs.Needed.{features_of_turns}
use Rattle.pawk_ere.proofs.words.in_turns.Goals as goal

pub returns : goal.returns
returns c = λ a f. features_of_turns a c.args.turn _ f refl refl refl
