-- What a call of a world answers.
use Rattle.std.specs.Prelude.{◌≡◌, Some, Result, Ok, Err}
use Rattle.pawk_world.specs.declared.halt.Halt.{Halt as Code}
use Rattle.pawk_world.specs.Halts.{Halt, halt_of}
use Rattle.pawk_world.specs.Worlds.{Answer, gives, halts}

-- the result is the answer, with the state afterwards; where memory was refused nothing is said
abbrev pub Answers : {S T X : Type 0} → (T → X) → Answer S X → Result T Code → S → Type 0
Answers view answer (Ok t) s = answer ≡ gives (view t) s
Answers view answer (Err e) s = (h : Halt) → halt_of e ≡ Some h → answer ≡ halts h s
