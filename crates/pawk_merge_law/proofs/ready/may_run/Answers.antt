use Rattle.std.proofs.Common.{[]}
use Rattle.pawk_admit.specs.Roles.{roles_view}
use Rattle.pawk_merge_law.proofs.ReadyLemmas.{in_order, numbers}
use Rattle.pawk_merge_law.proofs.ready.may_run.Goals as goal

pub returns-clause-ready : goal.returns-clause-ready
returns-clause-ready c = λ may code is are eres budget state output.
    let g = c.args.globals.now in
    let roles = roles_view c.args.roles.now in
    record {
      allows = c.admission_allows.ensures (record { code = code; roles = roles; fixed = g; start = g; written = [] }) is are;
      role_slots = c.fit_slots.ensures.0 may;
      in_order = in_order g c.order_law.ensures;
      numbers = numbers roles g c.read_scalars.ensures c.in_ok-read_adders.ensures;
    }
