-- What a run asks of the globals, and what a world is.
use Rattle.std.specs.Prelude.{ℕ, ℤ, Bool, List, Result}
use Rattle.pawk_value.specs.declared.faults.Fault.{Fault}
use Rattle.pawk_value.specs.Value.{Val}
use Rattle.pawk_code.specs.declared.word.Sign.{Sign}
use Rattle.pawk_world.specs.Halts.{Halt}

-- a global scalar by its slot, or an element of a global array by the array's slot and its key
pub data Cell : Type 0 where
  scalar : ℕ → Cell
  element : ℕ → List ℕ → Cell

-- what a run asks that may halt it or change a global
pub data Request : Type 0 where
  -- the value of an element, which creates it
  read : ℕ → List ℕ → Request
  -- the old value of an element that is assigned, which creates it too
  old : ℕ → List ℕ → Request
  write : Cell → Val → Request
  -- an amount, or the fault of its conversion, is added to a cell or taken from it
  add : Sign → Cell → Result ℤ Fault → Request
  -- whether an array has a key
  test : ℕ → List ℕ → Request
  remove : ℕ → List ℕ → Request
  clear : ℕ → Request
  -- all keys of an array in byte order
  keys : ℕ → Request

-- what is answered to it
abbrev pub Reply : Request → Type 0
Reply (read array key) = Val
Reply (old array key) = Val
Reply (write cell v) = Unit {0}
Reply (add sign cell amount) = Unit {0}
Reply (test array key) = Bool
Reply (remove array key) = Unit {0}
Reply (clear array) = Unit {0}
Reply (keys array) = List (List ℕ)

-- an answer and the state then, or a halt and the state then
pub data Answer (S X : Type 0) : Type 0 where
  gives : X → S → Answer S X
  halts : Halt → S → Answer S X

-- a world whose states are S: the value of a scalar, and the answer to each request
pub record Calls (S : Type 0) : Type 0 where
  pub look : ℕ → S → Val
  pub ask : (q : Request) → S → Answer S (Reply q)
