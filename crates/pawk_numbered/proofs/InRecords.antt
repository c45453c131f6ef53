-- Records of a program whose rules and functions do not read NR do not look at it.
use Rattle.std.proofs.Common.{◌≡◌, ℕ, suc, ◌+◌, List, [], ◌∷◌, Option, Some, None, refl, ap, ◌∙◌, Bool, true, false, if◌then◌else◌, arith}
use Rattle.pawk_value.specs.declared.faults.Fault.{Fault}
use Rattle.pawk_value.specs.Value.{Maybe}
use Rattle.pawk_record.specs.Records.{read as read_record}
use Rattle.pawk_world.specs.Halts.{Halt}
use Rattle.pawk_world.specs.Halts as halt
use Rattle.pawk_world.specs.Worlds.{Calls}
use Rattle.pawk_store.specs.RecordStates.{RecordState, is_paragraph}
use Rattle.pawk_store.specs.Slots.{fs_slot}
use Rattle.pawk_code.specs.Expressions.{Expr}
use Rattle.pawk_code.specs.Statements.{Stmts}
use Rattle.pawk_code.specs.Programs.{Selector, always, matching, between, Rule, Function, Code}
use Rattle.pawk_input.specs.Input.{Item}
use Rattle.pawk_store.specs.Limits.{greatest_calls}
use Rattle.pawk_store.specs.Parts.{Moment, Outcome, gives, halts, Part, give}
use Rattle.pawk_store.specs.Places.{text_at}
use Rattle.pawk_store.specs.Meaning.{call_at}
use Rattle.pawk_store.specs.Records.{Left, through, clash, is_inside, End, end_of_halt, end_of, run_part, after_read, holds, does, reads, begins, in_range, selects, does_rule, rules_from, one_record}
use Rattle.pawk_store.specs.Records as records
use Rattle.pawk_store.specs.Runs.{is_skipped, after_leaving, records_from}
use Rattle.pawk_numbered.specs.Mentions.{in_expression, in_body, in_selector, in_rules, in_functions, reads_number}
use Rattle.pawk_numbered.specs.Laws.{with_records_before, with_number}
use Rattle.pawk_numbered.proofs.Blind.{later_state, later_outcome, IsBlind, neither, none_of_three, bind_blind, give_blind, settle_blind, truth_blind, dropped_blind, if_blind}
use Rattle.pawk_numbered.proofs.InExpressions.{eval_blind}
use Rattle.pawk_numbered.proofs.InStatements.{execs_blind, call_blind}

one_more : (before n : ℕ) → suc (before + n) ≡ before + suc n
one_more before n = omega arith

module _ {S : Type 0} {before : ℕ} (calls : Calls S) (eres : List (List ℕ)) (functions : List Function) (free : in_functions functions ≡ false) where
  holds_blind : (e : Expr) → in_expression e ≡ false → IsBlind before (holds calls eres functions e)
  holds_blind e h = bind_blind (truth_blind (eval_blind calls eres (call_at calls eres functions greatest_calls) (call_blind calls eres functions free greatest_calls) e h)) (λ r. settle_blind r)

  does_blind : (body : Stmts) → in_body body ≡ false → IsBlind before (does calls eres functions body)
  does_blind body h = dropped_blind (execs_blind calls eres (call_at calls eres functions greatest_calls) (call_blind calls eres functions free greatest_calls) body h)

  after_read_blind : (f : Option Fault) → IsBlind {S = S} before (after_read f)
  after_read_blind None = record { same = λ m. refl }
  after_read_blind (Some f) = record { same = λ m. refl }

  reads_blind : (i : Item) → IsBlind before (reads calls eres functions i)
  reads_blind i = record {
    same = λ m.
        let r = read_record (text_at calls fs_slot m) (is_paragraph m.state) i.bytes in
        let numbered : ℕ → Moment S = λ n. record m { state = record m.state { line = r.0; nr = n; fnr = i.fnr; name = Maybe i.name } } in
        ap (λ n. after_read r.1 (numbered n)) (one_more before m.state.nr) ∙ (after_read_blind r.1).same (numbered (suc m.state.nr));
  }

  begins_if : (b : Bool) (p : Expr) → in_expression p ≡ false → IsBlind before (λ m. if b then give true m else holds calls eres functions p m)
  begins_if true p h = give_blind true
  begins_if false p h = holds_blind p h

  begins_blind : (n : ℕ) (p : Expr) → in_expression p ≡ false → IsBlind before (begins calls eres functions n p)
  begins_blind n p h = record { same = λ m. (begins_if (is_inside n m.state) p h).same m }

  in_range_blind : (n : ℕ) (q : Expr) → in_expression q ≡ false → (b : Bool) → IsBlind before (in_range calls eres functions n q b)
  in_range_blind n q h true = bind_blind (holds_blind q h) (λ ends. record { same = λ m. refl })
  in_range_blind n q h false = give_blind false

  selects_blind : (n : ℕ) (s : Selector) → in_selector s ≡ false → IsBlind before (selects calls eres functions n s)
  selects_blind n always h = give_blind true
  selects_blind n (matching e) h = holds_blind e h
  selects_blind n (between p q) h =
      let parts = neither (in_expression p) (in_expression q) h in
      bind_blind (begins_blind n p parts.0) (λ b. in_range_blind n q parts.1 b)

  rule_blind : (n : ℕ) (r : Rule) → in_selector r.selector ≡ false → in_body r.body ≡ false → IsBlind before (does_rule calls eres functions n r)
  rule_blind n r h k = bind_blind (selects_blind n r.selector h) (λ t. if_blind t (does_blind r.body k) (give_blind (tt {0})))

  rules_blind : (n : ℕ) (rules : List Rule) → in_rules rules ≡ false → IsBlind before (rules_from calls eres functions n rules)
  rules_blind n [] h = give_blind (tt {0})
  rules_blind n (r ∷ rs) h =
      let parts = none_of_three (in_selector r.selector) (in_body r.body) (in_rules rs) h in
      bind_blind (rule_blind n r parts.0 parts.1) (λ _. rules_blind (suc n) rs parts.2)

  record_blind : (rules : List Rule) → in_rules rules ≡ false → (i : Item) → IsBlind before (one_record calls eres functions rules i)
  record_blind rules h i = bind_blind (reads_blind i) (λ _. rules_blind 0 rules h)

-- ---- ends

module _ {S : Type 0} (before : ℕ) where
  halt_end_later : (h : Halt) (s : S) (state : RecordState) (o : List ℕ) → end_of_halt h s (later_state before state) o ≡ with_records_before before (end_of_halt h s state o)
  halt_end_later (halt.fault f) s state o = refl
  halt_end_later halt.clash s state o = refl
  halt_end_later halt.next s state o = refl
  halt_end_later halt.next_file s state o = refl
  halt_end_later (halt.exit n) s state o = refl

  end_later : {X : Type 0} (o : Outcome S X) → end_of (later_outcome before o) ≡ with_records_before before (end_of o)
  end_later (gives x m) = refl
  end_later (halts h s state o) = halt_end_later h s state o

  part_later : {X : Type 0} {part : Part S X} → IsBlind before part → (budget : ℕ) (e : End S) → let f = with_records_before before e in run_part part budget f.world f.state f.output ≡ with_records_before before (run_part part budget e.world e.state e.output)
  part_later {part = part} h budget e =
      let m : Moment S = record { world = e.world; state = e.state; frame = []; arrays = []; output = e.output; left = budget } in
      ap end_of (h.same m) ∙ end_later (part m)

  after_later : (go : Option ℕ → End S → End S) (file : ℕ) (left : Left) (e : End S) → ((skip : Option ℕ) → go skip (with_records_before before e) ≡ with_records_before before (go skip e)) → after_leaving go file left (with_records_before before e) ≡ with_records_before before (after_leaving go file left e)
  after_later go file through e h = h None
  after_later go file records.next_file e h = h (Some file)
  after_later go file (records.exit n) e h = refl
  after_later go file (records.fault f) e h = refl
  after_later go file clash e h = refl

  skip_later : (b : Bool) (e f e' f' : End S) → e ≡ with_records_before before e' → f ≡ with_records_before before f' → (if b then e else f) ≡ with_records_before before (if b then e' else f')
  skip_later true e f e' f' h k = h
  skip_later false e f e' f' h k = k

  module _ (calls : Calls S) (eres : List (List ℕ)) (program : Code) (budget : ℕ) (free : reads_number program ≡ false) where
    pub records_later : (skip : Option ℕ) (items : List Item) (e : End S) → records_from calls eres program budget skip (with_records_before before e) items ≡ with_records_before before (records_from calls eres program budget skip e items)
    records_later skip [] e = refl
    records_later skip (i ∷ is') e =
        let parts = neither (in_rules program.rules) (in_functions program.functions) free in
        let one : End S → End S = λ x. run_part (one_record calls eres program.functions program.rules i) budget x.world x.state x.output in
        let go : Option ℕ → End S → End S = λ s x. records_from calls eres program budget s x is' in
        let f = with_records_before before e in
        skip_later (is_skipped skip i)
        (records_from calls eres program budget skip f is') (after_leaving go i.file (one f).left (one f))
        (records_from calls eres program budget skip e is') (after_leaving go i.file (one e).left (one e))
        (records_later skip is' e)
        (ap (λ x. after_leaving go i.file x.left x) (part_later (record_blind calls eres program.functions parts.1 program.rules parts.0 i) budget e)
        ∙ after_later go i.file (one e).left (one e) (λ s. records_later s is' (one e)))

    pub from_none : (skip : Option ℕ) (items : List Item) (e : End S) → records_from calls eres program budget skip (with_number before e) items ≡ with_records_before before (records_from calls eres program budget skip (with_number 0 e) items)
    from_none skip items e =
        let none_more : before ≡ before + 0 = omega arith in
        ap (λ n. records_from calls eres program budget skip (with_number n e) items) none_more
        ∙ records_later skip items (with_number 0 e)
