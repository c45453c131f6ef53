use Rattle.std.proofs.Common.{◌++◌}
use Rattle.pawk_value.specs.Value.{Text}
use Rattle.pawk_value.specs.Conversion.{text_of}
use Rattle.pawk_world.specs.Worlds.{scalar}
use Rattle.pawk_store.specs.Globals.{value_at}
use Rattle.pawk_noted.proofs.NotingLemmas.{noted_put}
use Rattle.pawk_noted.proofs.noted.NotedGlobalsWorld.append_scalar.Goals as goal

pub invariant_of-self : goal.invariant_of-self
invariant_of-self c =
    let w = c.self.inside in
    let cell = scalar c.args.slot in
    rw c.with-self-inside.ensures (noted_put w.arrays.items w.trail.events cell (Text (text_of (value_at cell w.globals) ++ c.args.more.now)) c.self.invariant)
