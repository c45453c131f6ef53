use Rattle.std.proofs.Common.{◌≡◌, drop}
use Rattle.pawk_store.specs.Parts.{entry_of, with_locals}
use Rattle.pawk_runtime.specs.Moments.{holds_of}
use Rattle.pawk_runtime.proofs.run.fill_frame.Given as goal

abbrev pub invariant-loop-kind : goal.invariant-loop-kind
invariant-loop-kind l =
    with_locals (drop l.kind-index l.kind-items) (record { frame = holds_of l.frame.items; arrays = l.arrays.items })
    ≡ entry_of l.fn.kinds (holds_of l.fn.arguments.items) l.fn.arrays.items
