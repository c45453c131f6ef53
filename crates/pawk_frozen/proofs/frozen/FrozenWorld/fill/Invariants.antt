use Rattle.std.proofs.Common.{◌≡◌, drop}
use Rattle.pawk_array.specs.Texts.{texts_in}
use Rattle.pawk_world.specs.Writings.{fill_after}
use Rattle.pawk_frozen.specs.Frozens.{calls}
use Rattle.pawk_frozen.proofs.frozen.FrozenWorld.fill.Given as goal

abbrev pub invariant-loop-index : goal.invariant-loop-index
invariant-loop-index l =
    fill_after calls l.array l.index (texts_in l.text (drop l.index l.fn.pieces.items)) l.self ≡ fill_after calls l.array 0 (texts_in l.text l.fn.pieces.items) l.fn.self
