use Rattle.pawk_noted.proofs.NotingLemmas.{noted_changed}
use Rattle.pawk_noted.proofs.noted.NotedGlobals.report.Goals as goal

pub invariant_of-self : goal.invariant_of-self
invariant_of-self c =
    let w = c.self.inside in
    rw c.with-self-inside.ensures (noted_changed w.arrays.items w.trail.events c.args.change.now c.requires c.self.invariant)
