-- What a call that may fault answers.
use Rattle.std.specs.Prelude.{◌≡◌, Result, Ok, Err}
use Rattle.pawk_value.specs.declared.faults.Fault.{Fault}
use Rattle.pawk_value.specs.declared.faults.Stop.{Stop}
use Rattle.pawk_fields.specs.FieldsOf.{IfFault}

-- the result or the fault of its definition; where memory was refused nothing is said
abbrev pub Settles : {T X : Type 0} → (T → X) → Result X Fault → Result T Stop → Type 0
Settles view meant (Ok t) = meant ≡ Ok (view t)
Settles view meant (Err stop) = IfFault stop (λ fault. meant ≡ Err fault)
