-- Records of a text that does not use `match`, ranges of patterns or `nextfile`, over one world: what they do to the record
-- state, and what they read of it.
use Rattle.std.specs.Prelude.{◌≡◌, ℕ, suc, ◌+◌, List, ◌∷◌, ◌++◌, length, None}
use Rattle.pawk_value.specs.Value.{Maybe}
use Rattle.pawk_record.specs.Records.{Record}
use Rattle.pawk_world.specs.Halts.{Halt}
use Rattle.pawk_world.specs.Halts as halt
use Rattle.pawk_world.specs.Worlds.{Calls}
use Rattle.pawk_store.specs.RecordStates.{RecordState}
use Rattle.pawk_code.specs.Programs.{Rule, Function, Code}
use Rattle.pawk_input.specs.Input.{Item}
use Rattle.pawk_store.specs.Parts.{Moment, Outcome, gives, halts}
use Rattle.pawk_store.specs.Records.{Left, through, next_file, exit, fault, clash, End, one_record}
use Rattle.pawk_store.specs.Runs.{records_from}
use Rattle.pawk_store.specs.Lockstep.{Resource, last_match, rule_ranges, rest_of_file, Access, writes, clears, AllHeld, record_state_of}
use Rattle.pawk_store.specs.Allows.{AllowsMain}
use Rattle.pawk_store.specs.Laws.{RefusalsAreFinal, LeftBy}

-- a text may not set RSTART and RLENGTH, nor the ranges of rules, nor leave the rest of a file unread
pub record IsSteady (permits : Access → Resource → Type 0) : Type 0 where
  pub no_match : permits writes last_match → ⊥
  pub no_range : permits writes rule_ranges → ⊥
  pub no_next_file : permits clears rest_of_file → ⊥

-- any halt but `nextfile`
abbrev pub StaysInFile : Halt → Type 0
StaysInFile (halt.fault f) = Unit {0}
StaysInFile halt.clash = Unit {0}
StaysInFile halt.next = Unit {0}
StaysInFile halt.next_file = ⊥
StaysInFile (halt.exit n) = Unit {0}

-- halts by one of these, or by none
abbrev pub HaltsBy : {S X : Type 0} → (Halt → Type 0) → Outcome S X → Type 0
HaltsBy ends (gives x m) = Unit {0}
HaltsBy ends (halts h s state out) = ends h

-- ---- one record

-- the state after a record, which is this line by then: NR is one more, FNR and FILENAME are the record's
abbrev pub state_after_record : Record → Item → RecordState → RecordState
state_after_record line i before = record before { line = line; nr = suc before.nr; fnr = i.fnr; name = Maybe i.name }

-- A record changes nothing else of the record state, and does not leave its file. (`exit` gives the status at the end.)
abbrev pub RecordKeepsLaw : {S : Type 0} → (Access → Resource → Type 0) → Calls S → Type 0
RecordKeepsLaw {S} permits calls =
    IsSteady permits → RefusalsAreFinal calls →
    (eres : List (List ℕ)) (functions : List Function) (rules : List Rule) → AllowsMain permits functions rules →
    (i : Item) (m : Moment S) → AllHeld permits m.frame →
    let o = one_record calls eres functions rules i m in
    (record_state_of o ≡ state_after_record (record_state_of o).line i m.state) × HaltsBy StaysInFile o

-- ---- records

-- the status after records: what `exit` gave, if they were left by it
abbrev pub status_after : ℕ → Left → ℕ
status_after before through = before
status_after before next_file = before
status_after before (exit n) = n
status_after before (fault f) = before
status_after before clash = before

-- the state after n records that were left so, of which only the record, FNR and FILENAME are as they are now
abbrev pub state_after_records : ℕ → Left → RecordState → RecordState → RecordState
state_after_records count left before now =
    record before {
      line = now.line;
      nr = before.nr + count;
      fnr = now.fnr;
      name = now.name;
      status = status_after before.status left;
    }

-- The end of records: they were read up to one that ended the run, or all of them; NR counts what was read, and nothing
-- else of the record state is changed.
pub record RecordsKeep {S : Type 0} (calls : Calls S) (eres : List (List ℕ)) (code : Code) (budget : ℕ) (e : End S) (items : List Item) : Type 0 where
  pub read : List Item
  pub unread : List Item
  pub in_order : items ≡ read ++ unread
  pub of_read : records_from calls eres code budget None e items ≡ records_from calls eres code budget None e read
  pub all_read : (records_from calls eres code budget None e items).left ≡ through → items ≡ read
  pub state :
      let f = records_from calls eres code budget None e items in
      f.state ≡ state_after_records (length read) f.left e.state f.state
  pub in_file : LeftBy StaysInFile (records_from calls eres code budget None e items).left

abbrev pub RecordsKeepLaw : {S : Type 0} → (Access → Resource → Type 0) → Calls S → Type 0
RecordsKeepLaw {S} permits calls =
    IsSteady permits → RefusalsAreFinal calls →
    (eres : List (List ℕ)) (code : Code) → AllowsMain permits code.functions code.rules →
    (budget : ℕ) (items : List Item) (e : End S) → e.left ≡ through →
    RecordsKeep calls eres code budget e items

-- how a run goes on from an end through which it came
abbrev pub onward : {S : Type 0} → (End S → End S) → Left → End S → End S
onward go through e = go e
onward go next_file e = e
onward go (exit n) e = e
onward go (fault f) e = e
onward go clash e = e

-- records in two parts: the second follows where the first is not left
abbrev pub RecordsFollowLaw : {S : Type 0} → (Access → Resource → Type 0) → Calls S → Type 0
RecordsFollowLaw {S} permits calls =
    IsSteady permits → RefusalsAreFinal calls →
    (eres : List (List ℕ)) (code : Code) → AllowsMain permits code.functions code.rules →
    (budget : ℕ) (items more : List Item) (e : End S) → e.left ≡ through →
    let f = records_from calls eres code budget None e items in
    records_from calls eres code budget None e (items ++ more)
    ≡ onward (λ g. records_from calls eres code budget None g more) f.left f

-- After a first part the second one, of which there is a record, may be run from the record state before the first,
-- with NR moved on by as many records.
abbrev pub RecordsResumeLaw : {S : Type 0} → (Access → Resource → Type 0) → Calls S → Type 0
RecordsResumeLaw {S} permits calls =
    IsSteady permits → RefusalsAreFinal calls →
    (eres : List (List ℕ)) (code : Code) → AllowsMain permits code.functions code.rules →
    (budget : ℕ) (items : List Item) (i : Item) (more : List Item) (e : End S) → e.left ≡ through →
    let f = records_from calls eres code budget None e items in
    f.left ≡ through →
    records_from calls eres code budget None f (i ∷ more)
    ≡ records_from calls eres code budget None
    (record f { state = record e.state { nr = e.state.nr + length items } })
    (i ∷ more)

-- ---- what a record reads

-- the same but for the record, FNR and FILENAME
abbrev pub AreSameButRecord : RecordState → RecordState → Type 0
AreSameButRecord s t = t ≡ record s { line = t.line; fnr = t.fnr; name = t.name }

-- a record reads its own line, FNR and FILENAME, of any program and any world; so do records, of which there are some
abbrev pub ReadsAnewLaw : {S : Type 0} → Calls S → Type 0
ReadsAnewLaw {S} calls =
    (eres : List (List ℕ)) (code : Code) (i : Item) (s t : RecordState) → AreSameButRecord s t →
    ((m : Moment S) →
    one_record calls eres code.functions code.rules i (record m { state = s })
    ≡ one_record calls eres code.functions code.rules i (record m { state = t }))
    × ((budget : ℕ) (items : List Item) (e : End S) →
    records_from calls eres code budget None (record e { state = s }) (i ∷ items)
    ≡ records_from calls eres code budget None (record e { state = t }) (i ∷ items))
