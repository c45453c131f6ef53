-- Why a run halts.
use Rattle.std.specs.Prelude.{ℕ, Option, Some, None}
use Rattle.pawk_value.specs.declared.faults.Fault.{Fault}
use Rattle.pawk_value.specs.declared.faults.Stop.{Stop}
use Rattle.pawk_value.specs.declared.faults.Stop.TheVariants as stop
use Rattle.pawk_world.specs.declared.halt.Halt.{Halt as Code}
use Rattle.pawk_world.specs.declared.halt.Halt.TheVariants as code

-- a fault; a clash with what the world allows; the end of a record, of a file, of the run with a status
pub data Halt : Type 0 where
  fault : Fault → Halt
  clash : Halt
  next : Halt
  next_file : Halt
  exit : ℕ → Halt

-- the reason, or nothing where memory was refused
abbrev pub halt_of : Code → Option Halt
halt_of (code.Fault f) = Some (fault f)
halt_of code.Clash = Some clash
halt_of code.Next = Some next
halt_of code.NextFile = Some next_file
halt_of (code.Exit status) = Some (exit status)
halt_of code.Memory = None

-- why a run halts where a call gave no value
abbrev pub halt_by : Stop → Code
halt_by (stop.Fault f) = code.Fault f
halt_by stop.Memory = code.Memory
