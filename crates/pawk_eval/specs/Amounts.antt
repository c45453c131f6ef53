-- By what a place changes.
use Rattle.std.specs.Prelude.{ℕ, ℤ, pos, List, Result, Ok}
use Rattle.pawk_value.specs.Value.{Val}
use Rattle.pawk_value.specs.declared.faults.Fault.{Fault}
use Rattle.pawk_world.specs.Worlds.{Calls}
use Rattle.pawk_code.specs.ExpressionViews.{view}
use Rattle.pawk_store.specs.Parts.{Hold, Part, as_number, give}
use Rattle.pawk_store.specs.Meaning.{eval}
use Rattle.pawk_eval.specs.declared.amount.Amount.{Amount}
use Rattle.pawk_eval.specs.declared.amount.Amount.TheVariants as amount

-- the number of an amount: 1, or that of an expression
abbrev pub amount_of : {S : Type 0} → Calls S → List (List ℕ) → (ℕ → List Hold → Part S Val) → Amount → Part S (Result ℤ Fault)
amount_of calls eres enter amount.One = give (Ok (pos 1))
amount_of calls eres enter (amount.Of e) = as_number (eval calls eres enter (view e.now))
