use Rattle.std.proofs.Common.{ap, sym, ◌∙◌}
use Rattle.pawk_value.specs.Value.{Uninit}
use Rattle.pawk_builtins.specs.Pieces.{pieces_in}
use Rattle.pawk_store.specs.Parts.{gives}
use Rattle.pawk_runtime.specs.Moments.{moment}
use Rattle.pawk_runtime.proofs.Filling.{fill_nothing, fill_yields, fill_local}
use Rattle.pawk_runtime.proofs.arrays.fill_array.Goals as goal

pub returns-in-None-clause-outcome : goal.returns-in-None-clause-outcome
returns-in-None-clause-outcome g c =
    let m = moment (g.W.World.state c.args.world.now) c.args.run.now in
    rw c.in-None.is (fill_nothing g.W.World.calls Uninit 1 (pieces_in c.args.text.now c.args.pieces.items) m)

pub returns-in-Global-clause-outcome : goal.returns-in-Global-clause-outcome
returns-in-Global-clause-outcome g c =
    let m = moment (g.W.World.state c.args.world.now) c.args.run.now in
    rw c.in-Global.is
    (fill_yields g.W.World.calls c.in-Global.slot (pieces_in c.args.text.now c.args.pieces.items) c.fill.result (g.W.World.state c.fill.new.self) m c.fill.ensures)

pub returns-in_ok-fill_array-in-Local-clause-outcome : goal.returns-in_ok-fill_array-in-Local-clause-outcome
returns-in_ok-fill_array-in-Local-clause-outcome g c =
    let m = moment (g.W.World.state c.args.world.now) c.args.run.now in
    rw c.in-Local.is
    (fill_local g.W.World.calls c.in-Local.number c.args.text.now c.args.pieces.items m
    ∙ ap (λ xs. gives tt (record m { arrays = xs })) (sym c.in_ok-fill_array-in-Local.ensures))
