-- Two worlds in lockstep, and runs over them that go in step. What a parting is, the pair says.
use Rattle.std.specs.Prelude.{◌≡◌, ℕ, List, [], ◌∷◌, ◌++◌, ◌⊎◌, Option, Some, None, Bool, true}
use Rattle.pawk_value.specs.declared.faults.Fault.{Fault}
use Rattle.pawk_code.specs.declared.word.Sign.{Sign}
use Rattle.pawk_world.specs.Halts.{Halt}
use Rattle.pawk_world.specs.Halts as halt
use Rattle.pawk_world.specs.Worlds.{Cell, Request, Answer, Calls}
use Rattle.pawk_world.specs.Worlds as world
use Rattle.pawk_store.specs.RecordStates.{RecordState}
use Rattle.pawk_store.specs.Parts.{Hold, value, global_array, local_array, Moment, Outcome, gives, halts}

-- What a text may be allowed to touch. Global scalars, global arrays and functions have slots of their own.
pub data Resource : Type 0 where
  variable_slot : ℕ → Resource
  array_slot : ℕ → Resource
  function_slot : ℕ → Resource
  -- RSTART and RLENGTH
  last_match : Resource
  -- for each rule whether its range has begun and not ended
  rule_ranges : Resource
  -- the records of a file that are not read yet
  rest_of_file : Resource

-- the kinds of what a text does to a resource
pub data Access : Type 0 where
  -- the value of a scalar, which no world refuses
  looks : Access
  reads : Access
  -- the old value of an element that is assigned
  olds : Access
  writes : Access
  -- an amount is added, or taken away
  changes : Sign → Access
  tests : Access
  removes : Access
  clears : Access
  walks : Access
  -- a function is called
  runs : Access

abbrev pub resource_of_cell : Cell → Resource
resource_of_cell (world.scalar n) = variable_slot n
resource_of_cell (world.element n key) = array_slot n

abbrev pub access_of : Request → Access
access_of (world.read n key) = reads
access_of (world.old n key) = olds
access_of (world.write c v) = writes
access_of (world.add sign c amount) = changes sign
access_of (world.test n key) = tests
access_of (world.remove n key) = removes
access_of (world.clear n) = clears
access_of (world.keys n) = walks

abbrev pub resource_of : Request → Resource
resource_of (world.read n key) = array_slot n
resource_of (world.old n key) = array_slot n
resource_of (world.write c v) = resource_of_cell c
resource_of (world.add sign c amount) = resource_of_cell c
resource_of (world.test n key) = array_slot n
resource_of (world.remove n key) = array_slot n
resource_of (world.clear n) = array_slot n
resource_of (world.keys n) = array_slot n

-- one is a beginning of the other
abbrev pub IsPrefix : List ℕ → List ℕ → Type 0
IsPrefix a b = (rest : List ℕ) × (b ≡ a ++ rest)

-- Two worlds: the meaning of each one's calls, a relation of their states, for each an order of states in which calls
-- go on, what is permitted, the partings at a request, and what the output of the first run has in front of the second's.
pub record Pair (S T : Type 0) : Type 1 where
  pub first_calls : Calls S
  pub second_calls : Calls T
  pub alike : S → T → Type 0
  pub before : S → S → Type 0
  pub before_second : T → T → Type 0
  pub permits : Access → Resource → Type 0
  pub parts : Request → S → T → Type 0
  pub ahead : List ℕ

-- what a parameter may hold: a global array only where everything is permitted of it
module _ (permits : Access → Resource → Type 0) where
  abbrev pub IsHeld : Hold → Type 0
  IsHeld (value v) = Unit {0}
  IsHeld (global_array n) = (access : Access) → permits access (array_slot n)
  IsHeld (local_array n) = Unit {0}

  abbrev pub AllHeld : List Hold → Type 0
  AllHeld [] = Unit {0}
  AllHeld (h ∷ hs) = IsHeld h × AllHeld hs

module _ {S X : Type 0} where
  -- how an answer refuses
  abbrev pub refusal_of : Answer S X → Option (Halt × S)
  refusal_of (world.gives x s) = None
  refusal_of (world.halts h s) = Some (h, s)

  abbrev pub state_of : Answer S X → S
  state_of (world.gives x s) = s
  state_of (world.halts h s) = s

  abbrev pub world_of : Outcome S X → S
  world_of (gives x m) = m.world
  world_of (halts h s state out) = s

  abbrev pub output_of : Outcome S X → List ℕ
  output_of (gives x m) = m.output
  output_of (halts h s state out) = out

  abbrev pub record_state_of : Outcome S X → RecordState
  record_state_of (gives x m) = m.state
  record_state_of (halts h s state out) = state

-- where one run is after a request that may have been refused: halted there, or somewhere later
abbrev pub Reaches :
    {S X : Type 0} → (S → S → Type 0) → Option (Halt × S) → S → RecordState → List ℕ → Outcome S X → Type 0
Reaches before (Some r) s state out o = o ≡ halts r.0 r.1 state out
Reaches before None s state out o = before s (world_of o) × IsPrefix out (output_of o)

-- under a relation of the states
module _ {S T : Type 0} (alike : S → T → Type 0) where
  -- the same answer, and related states
  abbrev pub SameAnswer : {X : Type 0} → Answer S X → Answer T X → Type 0
  SameAnswer (world.gives x s) (world.gives y t) = (x ≡ y) × alike s t
  SameAnswer (world.halts h s) (world.halts i t) = (h ≡ i) × alike s t
  SameAnswer _ _ = ⊥

module _ {S T : Type 0} (w : Pair S T) where
  -- the same moment but for the worlds, which are related, and for what the first output has in front
  pub record SameMoment (m : Moment S) (n : Moment T) : Type 0 where
    pub worlds : w.alike m.world n.world
    pub states : m.state ≡ n.state
    pub frames : m.frame ≡ n.frame
    pub arrays : m.arrays ≡ n.arrays
    pub outputs : m.output ≡ w.ahead ++ n.output
    pub lefts : m.left ≡ n.left

  -- the same end
  abbrev pub SameOutcome : {X : Type 0} → Outcome S X → Outcome T X → Type 0
  SameOutcome (gives x m) (gives y n) = (x ≡ y) × SameMoment m n
  SameOutcome (halts h s state out) (halts i t state' out') = (h ≡ i) × w.alike s t × (state ≡ state') × (out ≡ w.ahead ++ out')
  SameOutcome _ _ = ⊥

  -- each permitted call answers equally and keeps the relation, or is a parting
  pub record AreInLockstep : Type 0 where
    pub look : (n : ℕ) → w.permits looks (variable_slot n) → (s : S) (t : T) → w.alike s t →
        w.first_calls.look n s ≡ w.second_calls.look n t
    pub ask : (q : Request) → w.permits (access_of q) (resource_of q) → (s : S) (t : T) → w.alike s t →
        SameAnswer w.alike (w.first_calls.ask q s) (w.second_calls.ask q t) ⊎ w.parts q s t

  -- both came in step to a request at which they part
  pub record Parting {X : Type 0} (o : Outcome S X) (p : Outcome T X) : Type 0 where
    pub request : Request
    pub permitted : w.permits (access_of request) (resource_of request)
    pub first : S
    pub second : T
    pub state : RecordState
    pub output : List ℕ
    pub second_output : List ℕ
    pub outputs : output ≡ w.ahead ++ second_output
    pub related : w.alike first second
    pub parts_there : w.parts request first second
    pub first_then :
        let a = w.first_calls.ask request first in
        Reaches w.before (refusal_of a) (state_of a) state output o
    pub second_then :
        let b = w.second_calls.ask request second in
        Reaches w.before_second (refusal_of b) (state_of b) state second_output p

  -- the same end, or both came in step to a request at which they part
  abbrev pub InStep : {X : Type 0} → Outcome S X → Outcome T X → Type 0
  InStep o p = SameOutcome o p ⊎ Parting o p

-- a refusal is one of these
abbrev pub RefusesIn : {S : Type 0} → (Halt → Type 0) → Option (Halt × S) → Type 0
RefusesIn ends None = Unit {0}
RefusesIn ends (Some r) = ends r.0

-- The order of states is one, and each permitted call goes on in it. `ends` is how runs over this world may halt: by each
-- fault, `next` and `exit`, by `nextfile` where it is permitted, and as permitted calls refuse.
pub record GoesOn {S : Type 0} (permits : Access → Resource → Type 0) (before : S → S → Type 0) (calls : Calls S) : Type 0 where
  pub here : (s : S) → before s s
  pub then : (s t u : S) → before s t → before t u → before s u
  pub ask : (q : Request) → permits (access_of q) (resource_of q) → (s : S) → before s (state_of (calls.ask q s))
  pub ends : Halt → Bool
  pub at_fault : (f : Fault) → ends (halt.fault f) ≡ true
  pub at_next : ends halt.next ≡ true
  pub at_next_file : permits clears rest_of_file → ends halt.next_file ≡ true
  pub at_exit : (n : ℕ) → ends (halt.exit n) ≡ true
  pub refuses : (q : Request) → permits (access_of q) (resource_of q) → (s : S) →
      RefusesIn (λ h. ends h ≡ true) (refusal_of (calls.ask q s))

abbrev pub EndsBy :
    {S : Type 0} {permits : Access → Resource → Type 0} {before : S → S → Type 0} {calls : Calls S} →
    GoesOn permits before calls → Halt → Type 0
EndsBy on h = on.ends h ≡ true

-- both worlds go on
abbrev pub FirstGoesOn : {S T : Type 0} → Pair S T → Type 0
FirstGoesOn w = GoesOn w.permits w.before w.first_calls

abbrev pub SecondGoesOn : {S T : Type 0} → Pair S T → Type 0
SecondGoesOn w = GoesOn w.permits w.before_second w.second_calls
