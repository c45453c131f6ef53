-- The lockstep law: runs over two worlds that answer what a program may ask equally, or part there, go in step.
use Rattle.std.specs.Prelude.{◌≡◌, ℕ, List, [], ◌++◌, ◌⊎◌, Option, Some, None}
use Rattle.pawk_world.specs.Halts.{Halt}
use Rattle.pawk_world.specs.Halts as halt
use Rattle.pawk_world.specs.Worlds.{Request, Calls}
use Rattle.pawk_store.specs.RecordStates.{RecordState}
use Rattle.pawk_code.specs.Statements.{Stmts}
use Rattle.pawk_code.specs.Programs.{Rule, Function, Code}
use Rattle.pawk_input.specs.Input.{File, Item}
use Rattle.pawk_store.specs.Parts.{Moment}
use Rattle.pawk_store.specs.Meaning.{execs, call_at}
use Rattle.pawk_store.specs.Records.{Left, through, next_file, exit, fault, clash, End, end_of_halt, one_record, actions}
use Rattle.pawk_store.specs.Runs.{Place, in_begin, at_record, in_end, Ending, status, fault_at, disallowed, Finish, records_from, run}
use Rattle.pawk_store.specs.Lockstep.{access_of, resource_of, IsPrefix, Pair, AllHeld, refusal_of, state_of, SameMoment, InStep, AreInLockstep, EndsBy, FirstGoesOn, SecondGoesOn}
use Rattle.pawk_store.specs.Allows.{AllowsStmts, AllowsFunctions, AllowsMain, AllowsActions, AllowsCode}

-- statements: the same end, or a parting
abbrev pub StatementsLaw : {S T : Type 0} → Pair S T → Type 0
StatementsLaw {S} {T} w =
    AreInLockstep w → FirstGoesOn w → SecondGoesOn w →
    (eres : List (List ℕ)) (functions : List Function) (body : Stmts) →
    AllowsFunctions w.permits functions → AllowsStmts w.permits body →
    (depth : ℕ) (m : Moment S) (n : Moment T) → SameMoment w m n → AllHeld w.permits m.frame →
    InStep w
    (execs w.first_calls eres (call_at w.first_calls eres functions depth) body m)
    (execs w.second_calls eres (call_at w.second_calls eres functions depth) body n)

-- one record
abbrev pub RecordLaw : {S T : Type 0} → Pair S T → Type 0
RecordLaw {S} {T} w =
    AreInLockstep w → FirstGoesOn w → SecondGoesOn w →
    (eres : List (List ℕ)) (functions : List Function) (rules : List Rule) → AllowsMain w.permits functions rules →
    (i : Item) (m : Moment S) (n : Moment T) → SameMoment w m n → AllHeld w.permits m.frame →
    InStep w
    (one_record w.first_calls eres functions rules i m)
    (one_record w.second_calls eres functions rules i n)

-- the actions of BEGIN, or those of END
abbrev pub ActionsLaw : {S T : Type 0} → Pair S T → Type 0
ActionsLaw {S} {T} w =
    AreInLockstep w → FirstGoesOn w → SecondGoesOn w →
    (eres : List (List ℕ)) (functions : List Function) (bodies : List Stmts) →
    AllowsFunctions w.permits functions → AllowsActions w.permits bodies →
    (m : Moment S) (n : Moment T) → SameMoment w m n → AllHeld w.permits m.frame →
    InStep w
    (actions w.first_calls eres functions bodies m)
    (actions w.second_calls eres functions bodies n)

-- where the records of one world are after a request that may have been refused: ended there, or somewhere later
abbrev pub EndReaches : {S : Type 0} → (S → S → Type 0) → Option (Halt × S) → S → RecordState → List ℕ → End S → Type 0
EndReaches before (Some r) s state out e = e ≡ end_of_halt r.0 r.1 state out
EndReaches before None s state out e = before s e.world × IsPrefix out e.output

-- a refusal ends the run
abbrev pub IsFinal : {S : Type 0} → Option (Halt × S) → Type 0
IsFinal None = Unit {0}
IsFinal (Some (halt.fault f, s)) = Unit {0}
IsFinal (Some (halt.clash, s)) = Unit {0}
IsFinal (Some (halt.next, s)) = ⊥
IsFinal (Some (halt.next_file, s)) = ⊥
IsFinal (Some (halt.exit n, s)) = Unit {0}

abbrev pub RefusalsAreFinal : {S : Type 0} → Calls S → Type 0
RefusalsAreFinal {S} calls = (q : Request) (s : S) → IsFinal (refusal_of (calls.ask q s))

-- left by one of these halts, or by none
abbrev pub LeftBy : (Halt → Type 0) → Left → Type 0
LeftBy ends through = Unit {0}
LeftBy ends next_file = ends halt.next_file
LeftBy ends (exit n) = ends (halt.exit n)
LeftBy ends (fault f) = ends (halt.fault f)
LeftBy ends clash = ends halt.clash

module _ {S T : Type 0} (w : Pair S T) where
  pub record SameEnd (e : End S) (f : End T) : Type 0 where
    pub worlds : w.alike e.world f.world
    pub states : e.state ≡ f.state
    pub outputs : e.output ≡ w.ahead ++ f.output
    pub lefts : e.left ≡ f.left

  -- both came in step to a request at which they part
  pub record EndParting (e : End S) (f : End T) : Type 0 where
    pub request : Request
    pub permitted : w.permits (access_of request) (resource_of request)
    pub first : S
    pub second : T
    pub state : RecordState
    pub output : List ℕ
    pub second_output : List ℕ
    pub outputs : output ≡ w.ahead ++ second_output
    pub related : w.alike first second
    pub parts_there : w.parts request first second
    pub first_then :
        let a = w.first_calls.ask request first in
        EndReaches w.before (refusal_of a) (state_of a) state output e
    pub second_then :
        let b = w.second_calls.ask request second in
        EndReaches w.before_second (refusal_of b) (state_of b) state second_output f

  abbrev pub EndsInStep : End S → End T → Type 0
  EndsInStep e f = SameEnd e f ⊎ EndParting e f

-- a list of records; and the run over each world is left as runs over it may be
abbrev pub RecordsLaw : {S T : Type 0} → Pair S T → Type 0
RecordsLaw {S} {T} w =
    AreInLockstep w → (on : FirstGoesOn w) → (on' : SecondGoesOn w) →
    RefusalsAreFinal w.first_calls → RefusalsAreFinal w.second_calls →
    (eres : List (List ℕ)) (code : Code) → AllowsMain w.permits code.functions code.rules →
    (budget : ℕ) (skip : Option ℕ) (items : List Item) (e : End S) (f : End T) → SameEnd w e f →
    LeftBy (EndsBy on) e.left → LeftBy (EndsBy on') f.left →
    EndsInStep w
    (records_from w.first_calls eres code budget skip e items)
    (records_from w.second_calls eres code budget skip f items)
    × LeftBy (EndsBy on) (records_from w.first_calls eres code budget skip e items).left
    × LeftBy (EndsBy on') (records_from w.second_calls eres code budget skip f items).left

-- ---- whole runs

-- a run may be at this place when this is its record state
abbrev pub IsAt : RecordState → Place → Type 0
IsAt state in_begin = Unit {0}
IsAt state (at_record n) = n ≡ state.nr
IsAt state in_end = Unit {0}

-- Where the run of one world is after a request at this place that may have been refused: ended there by the fault or the
-- clash, or somewhere later, as a run goes on with END after an `exit`.
abbrev pub FinishReaches :
    {S : Type 0} → (S → S → Type 0) → Option (Halt × S) → S → RecordState → List ℕ → Place → Finish S → Type 0
FinishReaches before None s state out place x = before s x.world × IsPrefix out x.output
FinishReaches before (Some (halt.fault f, q)) s state out place x =
    x ≡ record { world = q; state = state; output = out; ending = fault_at f place }
FinishReaches before (Some (halt.clash, q)) s state out place x =
    x ≡ record { world = q; state = state; output = out; ending = disallowed }
FinishReaches before (Some (halt.next, q)) s state out place x = before q x.world × IsPrefix out x.output
FinishReaches before (Some (halt.next_file, q)) s state out place x = before q x.world × IsPrefix out x.output
FinishReaches before (Some (halt.exit n, q)) s state out place x = before q x.world × IsPrefix out x.output

-- ended by one of these halts, or by none
abbrev pub EndingBy : (Halt → Type 0) → Ending → Type 0
EndingBy ends (status n) = Unit {0}
EndingBy ends (fault_at f place) = ends (halt.fault f)
EndingBy ends disallowed = ends halt.clash

module _ {S T : Type 0} (w : Pair S T) where
  pub record SameFinish (x : Finish S) (y : Finish T) : Type 0 where
    pub worlds : w.alike x.world y.world
    pub states : x.state ≡ y.state
    pub outputs : x.output ≡ w.ahead ++ y.output
    pub endings : x.ending ≡ y.ending

  -- both came in step to a request at which they part
  pub record FinishParting (x : Finish S) (y : Finish T) : Type 0 where
    pub request : Request
    pub permitted : w.permits (access_of request) (resource_of request)
    pub first : S
    pub second : T
    pub state : RecordState
    pub output : List ℕ
    pub second_output : List ℕ
    pub outputs : output ≡ w.ahead ++ second_output
    pub place : Place
    pub is_at : IsAt state place
    pub related : w.alike first second
    pub parts_there : w.parts request first second
    pub first_then :
        let a = w.first_calls.ask request first in
        FinishReaches w.before (refusal_of a) (state_of a) state output place x
    pub second_then :
        let b = w.second_calls.ask request second in
        FinishReaches w.before_second (refusal_of b) (state_of b) state second_output place y

  abbrev pub FinishInStep : Finish S → Finish T → Type 0
  FinishInStep x y = SameFinish x y ⊎ FinishParting x y

-- a whole run; and the run over each world ends as runs over it may
abbrev pub RunLaw : {S T : Type 0} → Pair S T → Type 0
RunLaw {S} {T} w =
    w.ahead ≡ [] → AreInLockstep w → (on : FirstGoesOn w) → (on' : SecondGoesOn w) →
    RefusalsAreFinal w.first_calls → RefusalsAreFinal w.second_calls →
    (eres : List (List ℕ)) (code : Code) → AllowsCode w.permits code →
    (budget : ℕ) (files : List File) (s : S) (t : T) (state : RecordState) → w.alike s t →
    FinishInStep w
    (run w.first_calls eres code budget files s state)
    (run w.second_calls eres code budget files t state)
    × EndingBy (EndsBy on) (run w.first_calls eres code budget files s state).ending
    × EndingBy (EndsBy on') (run w.second_calls eres code budget files t state).ending

-- ---- one world

-- no clash
abbrev pub IsNoClash : {S : Type 0} → Option (Halt × S) → Type 0
IsNoClash None = Unit {0}
IsNoClash (Some (halt.fault f, s)) = Unit {0}
IsNoClash (Some (halt.clash, s)) = ⊥
IsNoClash (Some (halt.next, s)) = Unit {0}
IsNoClash (Some (halt.next_file, s)) = Unit {0}
IsNoClash (Some (halt.exit n, s)) = Unit {0}

-- a world that answers no request with a clash disallows no program
abbrev pub NeverDisallowsLaw : {S : Type 0} → Calls S → Type 0
NeverDisallowsLaw {S} calls =
    ((q : Request) (s : S) → IsNoClash (refusal_of (calls.ask q s))) →
    (eres : List (List ℕ)) (code : Code) (budget : ℕ) (files : List File) (s : S) (state : RecordState) →
    (run calls eres code budget files s state).ending ≡ disallowed → ⊥
