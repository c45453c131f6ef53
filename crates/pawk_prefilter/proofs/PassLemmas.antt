-- Records for which no rule is, one after the other.
use Rattle.std.proofs.Common.{◌≡◌, ℕ, zero, suc, ◌+◌, List, [], ◌∷◌, ◌++◌, length, None, refl, ap, ◌∙◌, Bool, true, false, arith}
use Rattle.std.specs.Prelude.{All}
use Rattle.std.proofs.lemmas.List.Elements.{All-head, All-tail}
use Rattle.pawk_value.specs.Value.{Val, Maybe}
use Rattle.pawk_value.specs.Conversion.{text_of}
use Rattle.pawk_fields.specs.FieldList.{fields_of}
use Rattle.pawk_record.specs.Records.{read}
use Rattle.pawk_world.specs.Worlds.{Calls}
use Rattle.pawk_store.specs.RecordStates.{RecordState, is_paragraph}
use Rattle.pawk_store.specs.Slots.{fs_slot}
use Rattle.pawk_ere.specs.Words.{HoldsNone}
use Rattle.pawk_code.specs.Programs.{Code}
use Rattle.pawk_input.specs.Input.{Item}
use Rattle.pawk_store.specs.Parts.{then_do}
use Rattle.pawk_store.specs.Records.{through, is_inside, End, end_of, opening_moment, run_part, after_read, one_record, rules_from}
use Rattle.pawk_store.specs.Runs.{after_leaving, records_from}
use Rattle.pawk_prefilter.specs.Needs.{IsIdleRule, any_resets, reset_if, past, PassLaw}
use Rattle.pawk_prefilter.proofs.IdleLemmas.{same_ranges, rules_idle}

-- ---- a record is read

-- the fields of a record, where an FS gives some and no fault
abbrev Reads : List ℕ → Bool → List ℕ → Type 0
Reads fs paragraph s = (fields : List Val) × (read fs paragraph s ≡ (record { text = s; fields = fields }, None))

-- an FS of one byte gives no fault
one_byte : (fs : List ℕ) (paragraph : Bool) (s : List ℕ) → length fs ≡ 1 → Reads fs paragraph s
unfolding fields_of
one_byte [] paragraph s one = absurd (omega arith)
one_byte (c ∷ []) paragraph [] one = ([], refl)
one_byte (c ∷ []) paragraph (b ∷ s) one = (_, refl)
one_byte (c ∷ d ∷ fs) paragraph s one = absurd (omega arith)

-- the record state after an item with these fields
abbrev with_fields : List Val → Item → RecordState → RecordState
with_fields fields i s =
    record s { line = record { text = i.bytes; fields = fields }; nr = suc s.nr; fnr = i.fnr; name = Maybe i.name }

-- ---- NR

one_more : (n : ℕ) → suc n ≡ n + 1
one_more n = omega arith

some_more : (n k : ℕ) → suc n + suc k ≡ n + suc (suc k)
some_more n k = omega arith

-- ---- one record

module _ {S : Type 0} where
  -- the end after an item with these fields for which no rule is
  abbrev end_after_item : Bool → List Val → Item → End S → End S
  end_after_item reset fields i e =
      record { world = e.world; state = reset_if reset (with_fields fields i e.state); output = e.output; left = through }

  same_outside : (reset : Bool) (fields : List Val) (i : Item) (e : End S) → ((n : ℕ) → is_inside n e.state ≡ false) → (n : ℕ) → is_inside n (end_after_item reset fields i e).state ≡ false
  same_outside reset fields i e outside = same_ranges reset (with_fields fields i e.state) outside

-- ---- a list of records

module _ {S : Type 0} (calls : Calls S) (code : Code) (budget : ℕ) (words : List (List ℕ)) (idle : All (IsIdleRule code.expressions words) code.rules) where
  abbrev goes_on : End S → List Item → End S
  goes_on e is' = records_from calls code.expressions code budget None e is'

  -- a record for which no rule is
  one_passed : (i : Item) (e : End S) (fields : List Val) → read (text_of (calls.look fs_slot e.world)) (is_paragraph e.state) i.bytes ≡ (record { text = i.bytes; fields = fields }, None) → ((n : ℕ) → is_inside n e.state ≡ false) → HoldsNone i.bytes words → run_part (one_record calls code.expressions code.functions code.rules i) budget e.world e.state e.output ≡ end_after_item (any_resets code.rules) fields i e
  one_passed i e fields is outside none =
      let m = opening_moment budget e.world e.state e.output in
      let n = opening_moment budget e.world (with_fields fields i e.state) e.output in
      ap (λ r. end_of (then_do (after_read r.1 (record m { state = record m.state { line = r.0; nr = suc m.state.nr; fnr = i.fnr; name = Maybe i.name } })) (λ _. rules_from calls code.expressions code.functions 0 code.rules))) is
      ∙ ap end_of (rules_idle calls code.expressions words code.functions 0 code.rules n idle none outside)

  -- what the next record sets again does not count
  after_item : (reset : Bool) (fields : List Val) (i : Item) (n : ℕ) (e : End S) (j : Item) (js : List Item) → goes_on (past reset n (end_after_item reset fields i e)) (j ∷ js) ≡ goes_on (past reset (suc n) e) (j ∷ js)
  after_item true fields i zero e j js =
      ap (λ k. goes_on (record e { state = reset_if true (record e.state { nr = k }) }) (j ∷ js)) (one_more e.state.nr)
  after_item true fields i (suc n) e j js =
      ap (λ k. goes_on (record e { state = reset_if true (record e.state { nr = k }) }) (j ∷ js)) (some_more e.state.nr n)
  after_item false fields i zero e j js =
      ap (λ k. goes_on (record e { state = record e.state { nr = k } }) (j ∷ js)) (one_more e.state.nr)
  after_item false fields i (suc n) e j js =
      ap (λ k. goes_on (record e { state = record e.state { nr = k } }) (j ∷ js)) (some_more e.state.nr n)

  records_passed : (passed : List Item) (e : End S) (j : Item) (js : List Item) → length (text_of (calls.look fs_slot e.world)) ≡ 1 → ((n : ℕ) → is_inside n e.state ≡ false) → All (λ (i : Item). HoldsNone i.bytes words) passed → goes_on e (passed ++ j ∷ js) ≡ goes_on (past (any_resets code.rules) (length passed) e) (j ∷ js)
  records_passed [] e j js one outside none = refl
  records_passed (i ∷ is') e j js one outside none =
      let reset = any_resets code.rules in
      let r = one_byte (text_of (calls.look fs_slot e.world)) (is_paragraph e.state) i.bytes one in
      let here = All-head (λ (i : Item). HoldsNone i.bytes words) i is' none in
      let there = All-tail (λ (i : Item). HoldsNone i.bytes words) i is' none in
      ap (λ (x : End S). after_leaving (λ skip y. records_from calls code.expressions code budget skip y (is' ++ j ∷ js)) i.file x.left x) (one_passed i e r.0 r.1 outside here)
      ∙ records_passed is' (end_after_item reset r.0 i e) j js one (same_outside reset r.0 i e outside) there
      ∙ after_item reset r.0 i (length is') e j js

pub passes : {S : Type 0} (calls : Calls S) → PassLaw calls
passes calls code budget words passed [] e idle one outside none more = absurd (omega arith)
passes calls code budget words passed (j ∷ js) e idle one outside none more = records_passed calls code budget words idle passed e j js one outside none
