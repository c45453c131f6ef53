-- One record, and the actions of BEGIN and END (POSIX.1-2017, awk, "Overall Program Structure" and "Patterns").
use Rattle.std.specs.Prelude.{ℕ, suc, Bool, true, false, not, if◌then◌else◌, List, [], ◌∷◌, Option, Some, None, Err, slice_index_or, slice_set}
use Rattle.pawk_value.specs.declared.faults.Fault.{Fault}
use Rattle.pawk_value.specs.Value.{Maybe}
use Rattle.pawk_record.specs.Records.{read}
use Rattle.pawk_world.specs.Worlds.{Calls}
use Rattle.pawk_world.specs.Halts.{Halt}
use Rattle.pawk_world.specs.Halts as halt
use Rattle.pawk_store.specs.RecordStates.{RecordState, is_paragraph}
use Rattle.pawk_store.specs.Slots.{fs_slot}
use Rattle.pawk_code.specs.Expressions.{Expr}
use Rattle.pawk_code.specs.Statements.{Stmts}
use Rattle.pawk_code.specs.Programs.{Selector, always, matching, between, Rule, Function}
use Rattle.pawk_input.specs.Input.{Item}
use Rattle.pawk_store.specs.Limits.{greatest_calls}
use Rattle.pawk_store.specs.Parts.{Outcome, gives, halts, Moment, Part, give, settle, bind, as_truth}
use Rattle.pawk_store.specs.Places.{text_at}
use Rattle.pawk_store.specs.Meaning.{eval, execs, call_at}

-- how a part of a run is left
pub data Left : Type 0 where
  through : Left
  next_file : Left
  exit : ℕ → Left
  fault : Fault → Left
  clash : Left

-- whether the range of this rule has begun and not ended
abbrev pub is_inside : ℕ → RecordState → Bool
is_inside n state = slice_index_or state.ranges n false

-- what a part of a run leaves
pub record End (S : Type 0) : Type 0 where
  pub world : S
  pub state : RecordState
  pub output : List ℕ
  pub left : Left

module _ {S : Type 0} where
  -- `exit` gives the last status
  abbrev pub end_of_halt : Halt → S → RecordState → List ℕ → End S
  end_of_halt (halt.fault f) s state out = record { world = s; state = state; output = out; left = fault f }
  end_of_halt halt.clash s state out = record { world = s; state = state; output = out; left = clash }
  end_of_halt halt.next s state out = record { world = s; state = state; output = out; left = through }
  end_of_halt halt.next_file s state out = record { world = s; state = state; output = out; left = next_file }
  end_of_halt (halt.exit n) s state out =
      record { world = s; state = record state { status = n }; output = out; left = exit n }

  abbrev pub end_of : {X : Type 0} → Outcome S X → End S
  end_of (gives x m) = record { world = m.world; state = m.state; output = m.output; left = through }
  end_of (halts h s state out) = end_of_halt h s state out

  -- the moment at which a part begins that may take a given number of steps
  abbrev pub opening_moment : ℕ → S → RecordState → List ℕ → Moment S
  opening_moment budget s state out =
      record { world = s; state = state; frame = []; arrays = []; output = out; left = budget }

  -- a part run from a world, a record state and an output, with a given number of steps
  abbrev pub run_part : {X : Type 0} → Part S X → ℕ → S → RecordState → List ℕ → End S
  run_part part budget s state out = end_of (part (opening_moment budget s state out))

  abbrev pub after_read : Option Fault → Part S (Unit {0})
  after_read None = give tt
  after_read (Some f) = settle (Err f)

  abbrev pub stays_inside : ℕ → Bool → Part S Bool
  stays_inside n inside m = gives true (record m { state = record m.state { ranges = slice_set m.state.ranges n inside } })

module _ {S : Type 0} (calls : Calls S) (eres : List (List ℕ)) (functions : List Function) where
  abbrev pub holds : Expr → Part S Bool
  holds e = bind (as_truth (eval calls eres (call_at calls eres functions greatest_calls) e)) settle

  abbrev pub does : Stmts → Part S (Unit {0})
  does body = bind (execs calls eres (call_at calls eres functions greatest_calls) body) (λ _. give tt)

  -- the record is read: NR, FNR, FILENAME, $0 and then the fields by the FS of that moment
  abbrev pub reads : Item → Part S (Unit {0})
  reads i m =
      let r = read (text_at calls fs_slot m) (is_paragraph m.state) i.bytes in
      after_read r.1 (record m { state = record m.state { line = r.0; nr = suc m.state.nr; fnr = i.fnr; name = Maybe i.name } })

  -- a range: outside of it the first pattern begins it, and on each record of it the second may end it
  abbrev pub begins : ℕ → Expr → Part S Bool
  begins n p m = if is_inside n m.state then give true m else holds p m

  abbrev pub in_range : ℕ → Expr → Bool → Part S Bool
  in_range n q true = bind (holds q) (λ ends. stays_inside n (not ends))
  in_range n q false = give false

  -- whether the rule of this number is for the record
  abbrev pub selects : ℕ → Selector → Part S Bool
  selects n always = give true
  selects n (matching e) = holds e
  selects n (between p q) = bind (begins n p) (in_range n q)

  -- the rule of this number, where it is for the record
  abbrev pub does_rule : ℕ → Rule → Part S (Unit {0})
  does_rule n r = bind (selects n r.selector) (λ h. if h then does r.body else give tt)

  -- the rules in order, of which the first has this number
  abbrev pub rules_from : ℕ → List Rule → Part S (Unit {0})
  rules_from n [] = give tt
  rules_from n (r ∷ rs) = bind (does_rule n r) (λ _. rules_from (suc n) rs)

  abbrev pub one_record : List Rule → Item → Part S (Unit {0})
  one_record rules i = bind (reads i) (λ _. rules_from 0 rules)

  -- actions one after the other
  abbrev pub actions : List Stmts → Part S (Unit {0})
  actions [] = give tt
  actions (a ∷ rest) = bind (does a) (λ _. actions rest)
