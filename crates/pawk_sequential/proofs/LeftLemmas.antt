-- What a part leaves that halted.
use Rattle.std.proofs.Common.{◌≡◌, Some, subst, ap}
use Rattle.pawk_world.specs.declared.halt.Halt.{Halt as Code}
use Rattle.pawk_world.specs.Halts.{Halt, halt_of}
use Rattle.pawk_store.specs.Parts.{Moment, Outcome}
use Rattle.pawk_store.specs.Records.{end_of, end_of_halt}
use Rattle.pawk_sequential.specs.Ends.{HaltsBy}

-- the end of a part that halted so
pub end_of_halt_by : {S : Type 0} (outcome : Outcome S (Unit {0})) (r e : Code) (h : Halt) (m : Moment S) → r ≡ e → halt_of e ≡ Some h → HaltsBy outcome r m → end_of outcome ≡ end_of_halt h m.world m.state m.output
end_of_halt_by outcome r e h m is some y = ap end_of (subst (λ r. HaltsBy outcome r m) is y h some)
