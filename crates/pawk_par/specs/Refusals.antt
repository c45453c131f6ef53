-- The numbers of refusals, and the refusals of runs.
use Rattle.std.specs.Prelude.{ℕ}
use Rattle.pawk_routes.specs.declared.report.Refusal.{Refusal}
use Rattle.pawk_routes.specs.declared.report.Refusal.TheVariants as of_run
use Rattle.pawk_par.specs.declared.refusal.StreamRefusal.{StreamRefusal}
use Rattle.pawk_par.specs.declared.refusal.StreamRefusal.TheVariants.{Memory, Thread, Cutting, Program, Settings, Read, Write, Input}

abbrev pub refusal_number : StreamRefusal → ℕ
refusal_number Memory = 1
refusal_number Thread = 2
refusal_number Cutting = 3
refusal_number (Program why) = 4
refusal_number (Settings why) = 5
refusal_number Read = 6
refusal_number (Write count) = 7
refusal_number Input = 8

-- the refusal of a run over an input
abbrev pub refusal_of : Refusal → StreamRefusal
refusal_of of_run.Memory = Memory
refusal_of of_run.Thread = Thread
refusal_of of_run.Cutting = Cutting
