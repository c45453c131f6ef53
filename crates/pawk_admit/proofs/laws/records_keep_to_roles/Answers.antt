use Rattle.pawk_admit.proofs.Suiting.{keep_to_roles}
use Rattle.pawk_admit.proofs.laws.records_keep_to_roles.Goals as goal

pub returns : goal.returns
returns c = keep_to_roles
