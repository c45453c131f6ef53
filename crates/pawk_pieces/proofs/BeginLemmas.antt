-- What BEGIN leaves of a run whose input flows.
use Rattle.std.proofs.Common.{◌≡◌, ◌∙◌, ℕ, ◌<◌, ◌≤◌, Bool, true, false, nat_le, if◌then◌else◌, List, [], ◌∷◌, length, Result, Ok, Err, refl, ap, sym, subst, inl, inr, arith}
use Rattle.std.specs.Prelude.{◌⊎◌, ◌↔◌, MatchResult}
use Rattle.std.proofs.lemmas.Bool.Decides.{nat_tests}
use Rattle.std.proofs.lemmas.List.{append-nil}
use Rattle.pawk_value.specs.declared.faults.Fault.TheVariants as faults
use Rattle.pawk_records.specs.Records.{records_by}
use Rattle.pawk_code.specs.Programs.{Code}
use Rattle.pawk_input.specs.Input.{File, file_items}
use Rattle.pawk_store.specs.Globals.{Globals, calls}
use Rattle.pawk_store.specs.RecordStates.{RecordState}
use Rattle.pawk_admit.specs.Admission.{IsAdmissible, IsFirst, IsReader, IsRole, AreRoles}
use Rattle.pawk_admit.specs.Reaches.{Occurs}
use Rattle.pawk_admit.specs.Roles.{Roles, role_of_array, roles_view}
use Rattle.pawk_admit.specs.declared.occurrence.GlobalName.{GlobalName}
use Rattle.pawk_admit.specs.declared.occurrence.GlobalName.TheVariants.{Array}
use Rattle.pawk_admit.specs.declared.occurrence.Occurrence.{Occurrence}
use Rattle.pawk_admit.specs.declared.occurrence.Touch.TheVariants.{Look}
use Rattle.pawk_admit.specs.declared.reason.Reason.{Reason}
use Rattle.pawk_admit.specs.declared.role.Role.{Role}
use Rattle.pawk_admit.specs.declared.role.Role.TheVariants.{Fixed, Adder, Setter, Reader}
use Rattle.pawk_admit.specs.declared.role.Roles.{Roles as CodeRoles}
use Rattle.pawk_store.specs.Records.{Left, through, next_file, exit, fault, clash, End}
use Rattle.pawk_store.specs.Runs.{Finish, reads_records, take_separator, records_by_rs, ends_from, after_begin, finish_of, fault_at, at_record}
use Rattle.pawk_store.specs.Outputs.{with_output_before, finish_with_output_before}
use Rattle.pawk_merge_law.specs.Phases.{Phase, opening, in_order, FaultsOrCreates}
use Rattle.pawk_merge_law.specs.Ready.{MayRunFrom}
use Rattle.pawk_sequential.specs.RunEnds.{Answers}
use Rattle.pawk_sequential.specs.declared.outcome.Outcome.{Outcome}
use Rattle.pawk_sequential.proofs.FinishLemmas.{rs_faults}
use Rattle.pawk_merge_law.specs.Windows.{phase_at}
use Rattle.pawk_merge_law.specs.Flows.{Pairs, Turn, after_assignments, RestOutputLaw}
use Rattle.pawk_merge_law.specs.Redone.{TurnsFaultOrCreate, FaultOutputLaw}
use Rattle.pawk_routes.specs.Routes.{HasRecords, begin_end, phase_after, separator_of}
use Rattle.pawk_routes.specs.declared.report.Route.{Route}
use Rattle.pawk_routes.specs.declared.report.Route.TheVariants.{NotAdmitted, Redo, Parallel}
use Rattle.pawk_routes.proofs.EndLemmas.{chosen}
use Rattle.pawk_pieces.specs.Operands.{Operands, assigned, rest_over, files_over, after_first, after_begin_over, IsRedoneOver, IsRouteFrom}
use Rattle.pawk_pieces.specs.Pieces.{end_between, phase_between}
use Rattle.pawk_pieces.specs.Begins.{AreRolesFrom, IsStart}
use Rattle.pawk_pieces.specs.declared.begin.Start.{Start}
use Rattle.pawk_pieces.specs.declared.flow.Flow.{Flow}

-- The records may be run in chunks, with these roles, or may not, for this reason.
abbrev pub AreFound : Code → Globals → Result CodeRoles Reason → Type 0
AreFound code g found =
    MatchResult found
    (λ roles. IsAdmissible code × AreRoles (Occurs code) (roles_view roles) × MayRunFrom (roles_view roles) g)
    (λ reason. IsFirst (Occurs code) reason)

-- ---- what does not tell whether records fault or create an element

-- Whether records of files fault or create an element is not told by the globals, the state and the output of the phase.
same_turns : (make : Pairs → Globals → Globals) (p : Phase) (g : Globals) (s : RecordState) (out : List ℕ) (rs : List ℕ) (turns : List Turn) (e : End Globals) →
    TurnsFaultOrCreate make p rs e turns ≡ TurnsFaultOrCreate make (record p { globals = g; state = s; output = out }) rs e turns
same_turns make p g s out rs [] e = refl
same_turns make p g s out rs (t ∷ ts) e =
    let b = after_assignments make t.before e in
    let is = file_items 0 t.file.name 0 0 (records_by rs t.file.bytes) in
    let x = in_order (phase_at p b) is in
    ap (λ T. FaultsOrCreates (phase_at p b) is ⊎ ((x.left ≡ through) × T)) (same_turns make p g s out rs ts x)

-- A reader array has no other role.
only_reader : (Stands : Occurrence → Type 0) (name : GlobalName) (role : Role) → IsReader Stands name → IsRole Stands role name → role ≡ Reader
only_reader Stands name Fixed reads is = absurd (is.2 reads)
only_reader Stands name Adder reads is = let bad = is.1 Look reads.1.0 in absurd cc
only_reader Stands name Setter reads is = let bad = is.0.1 Look reads.1.0 in absurd cc
only_reader Stands name Reader reads is = refl

same_reader : (Stands : Occurrence → Type 0) (roles others : Roles) → AreRoles Stands roles → AreRoles Stands others → (n : ℕ) → role_of_array roles n ≡ Reader → role_of_array others n ≡ Reader
same_reader Stands roles others are are' n is =
    only_reader Stands (Array n) (role_of_array others n) (subst (λ r. IsRole Stands r (Array n)) is (are (Array n))) (are' (Array n))

-- Nor is it told by roles of which the reader arrays are readers.
other_turns : (make : Pairs → Globals → Globals) (p : Phase) (roles : Roles) → ((n : ℕ) → role_of_array roles n ≡ Reader → role_of_array p.roles n ≡ Reader) →
    (rs : List ℕ) (turns : List Turn) (e : End Globals) → TurnsFaultOrCreate make p rs e turns → TurnsFaultOrCreate make (record p { roles = roles }) rs e turns
other_turns make p roles readers rs [] e h = h
other_turns make p roles readers rs (t ∷ ts) e (inl (inl faults)) = inl (inl faults)
other_turns make p roles readers rs (t ∷ ts) e (inl (inr creates)) = inl (inr (creates.0, creates.1, λ is. creates.2 (readers creates.0 is), creates.3))
other_turns make p roles readers rs (t ∷ ts) e (inr h) =
    let b = after_assignments make t.before e in
    let is = file_items 0 t.file.name 0 0 (records_by rs t.file.bytes) in
    inr (h.0, other_turns make p roles readers rs ts (in_order (phase_at p b) is) h.1)

module _ (code : Code) (budget : ℕ) where
  abbrev after : List File → End Globals → Finish Globals
  after files e = after_begin calls code.expressions code budget files e.left e

  abbrev over : Operands → End Globals → Finish Globals
  over o e = after_begin_over code budget o e.left e

  -- By whether records are read, two runs go on alike that do so where none are.
  unread_by : (b : Bool) (x y z : Finish Globals) → (b ≡ true → ⊥) → (if b then x else z) ≡ (if b then y else z)
  unread_by true x y z none = absurd (none refl)
  unread_by false x y z none = refl

  -- Where no record is read the files are not looked at, and nothing is assigned among them.
  unread_after : (files : List File) (o : Operands) (l : Left) (e : End Globals) → (l ≡ through → reads_records code ≡ true → ⊥) →
      after_begin calls code.expressions code budget files l e ≡ after_begin_over code budget o l e
  unread_after files o through e none = unread_by (reads_records code) _ _ _ (none refl)
  unread_after files o next_file e none = refl
  unread_after files o (exit n) e none = refl
  unread_after files o (fault f) e none = refl
  unread_after files o clash e none = refl

  -- A run that reads no record answers so whatever its files are, and what is assigned among them.
  pub unread : (e : End Globals) (files : List File) (outcome : Outcome) → (HasRecords code e → ⊥) → Answers (after files e) outcome → (o : Operands) → Answers (over o e) outcome
  unread e files outcome none told o =
      subst (λ f. Answers f outcome) (unread_after files o e.left e (λ on reads. none (on, reads))) told

  -- Where records are read, they are read by RS.
  by_records : (e : End Globals) (files : List File) → HasRecords code e → after files e ≡ records_by_rs calls code.expressions code budget (separator_of e) files e
  by_records e files records =
      ap (λ l. after_begin calls code.expressions code budget files l e) records.0
      ∙ chosen (reads_records code) (records_by_rs calls code.expressions code budget (separator_of e) files e) (ends_from calls code.expressions code budget e) records.1

  -- An RS of several bytes is a fault at the first record, whatever the files are.
  several_after : (e : End Globals) (files : List File) → HasRecords code e → 1 < length (separator_of e) →
      after files e ≡ finish_of (fault_at faults.Rs (at_record 1)) (take_separator (separator_of e) e)
  several_after e files records long =
      by_records e files records ∙ rs_faults calls code.expressions code budget (separator_of e) (separator_of e) files e (take_separator (separator_of e) e) refl long refl

  -- The first assignments are made, and then the records are read by RS.
  by_operands : (e : End Globals) (o : Operands) → HasRecords code e → over o e ≡ files_over code budget (separator_of (after_first code budget o e)) o (after_first code budget o e)
  by_operands e o records =
      let d = after_first code budget o e in
      ap (λ l. after_begin_over code budget o l e) records.0
      ∙ chosen (reads_records code) (files_over code budget (separator_of d) o d) (ends_from calls code.expressions code budget e) records.1

  abbrev by_size : Operands → List ℕ → End Globals → Bool → Finish Globals
  by_size o rs d is_short =
      if is_short then rest_over code budget rs o.last (take_separator rs d) o.turns else finish_of (fault_at faults.Rs (at_record 1)) (take_separator rs d)

  -- Then an RS of several bytes is a fault, too.
  several_over : (e : End Globals) (o : Operands) → HasRecords code e → let d = after_first code budget o e in 1 < length (separator_of d) →
      over o e ≡ finish_of (fault_at faults.Rs (at_record 1)) (take_separator (separator_of d) d)
  several_over e o records long =
      let d = after_first code budget o e in
      let rs = separator_of d in
      by_operands e o records ∙ ap (by_size o rs d) (many (length rs) long)
    where
      many : (n : ℕ) → 1 < n → nat_le n 1 ≡ false
      many n h = grind (arith, nat_tests, h)

  -- By a shorter one the files are run.
  short_over : (e : End Globals) (o : Operands) → HasRecords code e → let d = after_first code budget o e in length (separator_of d) ≤ 1 →
      over o e ≡ rest_over code budget (separator_of d) o.last (take_separator (separator_of d) d) o.turns
  short_over e o records short =
      let d = after_first code budget o e in
      let rs = separator_of d in
      by_operands e o records ∙ ap (by_size o rs d) (few (length rs) short)
    where
      few : (n : ℕ) → n ≤ 1 → nat_le n 1 ≡ true
      few n h = grind (arith, nat_tests, h)

  -- From an end of BEGIN, after which these assignments are made and RS is taken.
  module _ (first : Pairs) (e t : End Globals) where
    -- the end after the first assignments
    abbrev d : End Globals
    d = after_assignments (assigned code.scalars) first e

    abbrev operands : List Turn → Pairs → Operands
    operands turns last = record { first = first; turns = turns; last = last }

    module _ (taken : take_separator (separator_of d) d ≡ t) (records : HasRecords code e) where
      -- With an RS of several bytes taken, a run answers what it answers from the end of BEGIN, whatever its files are.
      pub several : (others : List File) (outcome : Outcome) → 1 < length (separator_of d) → Answers (after others t) outcome → (turns : List Turn) (last : Pairs) → Answers (over (operands turns last) e) outcome
      several others outcome long told turns last =
          let same : after others t ≡ over (operands turns last) e = ap (after others) (sym taken)
          ∙ several_after (take_separator (separator_of d) d) others records long ∙ sym (several_over e (operands turns last) records long) in
          subst (λ f. Answers f outcome) same told

      -- It goes the way of a run that is run again, or that may not be run in chunks.
      pub route_several : (g : Globals) (found : Result CodeRoles Reason) (route : Route) → 1 < length (separator_of d) → AreFound code g found →
          MatchResult found (λ _. route ≡ Redo) (λ reason. route ≡ NotAdmitted reason) → (turns : List Turn) → IsRouteFrom code budget turns d route
      route_several g (Ok roles) route long are is turns = subst (IsRouteFrom code budget turns d) (sym is) (records, are.0, inl long)
      route_several g (Err reason) route long are is turns = subst (IsRouteFrom code budget turns d) (sym is) (records, are)

      module _ (flow : Flow) (out : List ℕ) (globals : flow.globals ≡ t.world) (state : flow.state ≡ t.state) (output : out ≡ t.output) (short : length (separator_of d) ≤ 1) where
        abbrev between : End Globals
        between = end_between flow

        -- BEGIN was left through.
        on : t.left ≡ through
        on = ap (λ (x : End Globals). x.left) (sym taken) ∙ records.0

        -- The run with RS taken is the one between two pieces, with what BEGIN wrote in front.
        opens : t ≡ with_output_before out between
        opens = λ i. record {
          world = sym globals i;
          state = sym state i;
          output = (sym output ∙ sym (append-nil out)) i;
          left = on i;
        }

        -- The rest of the run is what BEGIN wrote and the rest from there.
        pub rest : RestOutputLaw calls → (turns : List Turn) (last : Pairs) →
            over (operands turns last) e ≡ finish_with_output_before out (rest_over code budget (separator_of d) last between turns)
        rest outputs turns last =
            let rs = separator_of d in
            short_over e (operands turns last) records short
            ∙ ap (λ x. rest_over code budget rs last x turns) (taken ∙ opens)
            ∙ (outputs (assigned code.scalars) last code.expressions code budget rs between out turns).0

        module _ (roles : CodeRoles) (admissible : IsAdmissible code) (are : AreRoles (Occurs code) (roles_view roles)) (outputs : FaultOutputLaw) (turns : List Turn) where
          abbrev later : Roles → Phase
          later others = phase_after code others budget d

          abbrev here : Phase
          here = phase_between code (roles_view roles) budget flow

          abbrev Stops : Roles → Type 0
          Stops others = TurnsFaultOrCreate (assigned code.scalars) (later others) (separator_of d) (opening (later others)) turns

          -- The records after BEGIN fault or create an element exactly where they do from between the pieces.
          stops : Stops (roles_view roles) ↔ TurnsFaultOrCreate (assigned code.scalars) here (separator_of d) between turns
          stops =
              let make = assigned code.scalars in
              let rs = separator_of d in
              let p = later (roles_view roles) in
              let begins : opening p ≡ with_output_before out between = ap (λ (x : End Globals). record x { left = through }) (taken ∙ opens) in
              let front = (outputs make p rs between out turns).0 in
              let same = same_turns make p flow.globals flow.state [] rs turns between in (
                λ h. subst (λ T. T) same (front.0 (subst (λ x. TurnsFaultOrCreate make p rs x turns) begins h)),
                λ h. subst (λ x. TurnsFaultOrCreate make p rs x turns) (sym begins) (front.1 (subst (λ T. T) (sym same) h)),
              )

          -- By an RS of at most one byte the records are not run again where they do not stop.
          not_redone : (Stops (roles_view roles) → ⊥) → IsRedoneOver code budget turns d → ⊥
          not_redone goes (inl long) = absurd (omega (arith, short, long))
          not_redone goes (inr h) =
              let readers : (n : ℕ) → role_of_array (roles_view roles) n ≡ Reader → role_of_array h.0 n ≡ Reader = same_reader (Occurs code) (roles_view roles) h.0 are h.1 in
              goes (other_turns (assigned code.scalars) (later h.0) (roles_view roles) readers (separator_of d) turns (opening (later h.0)) h.2)

          -- So the run is one that is run again exactly there.
          pub redone : TurnsFaultOrCreate (assigned code.scalars) here (separator_of d) between turns → IsRouteFrom code budget turns d Redo
          redone h = (records, admissible, inr (roles_view roles, are, stops.1 h))

          -- It is one whose chunks are merged where they do not.
          pub parallel : (TurnsFaultOrCreate (assigned code.scalars) here (separator_of d) between turns → ⊥) → IsRouteFrom code budget turns d Parallel
          parallel h = (records, admissible, not_redone (λ k. h (stops.0 k)))

-- From the end of BEGIN, with the first assignments made and RS of at most one byte taken, the run begins so whatever its files
-- are, and what is assigned among them.
module _ (code : Code) (budget : ℕ) (assignments first : Pairs) (e t : End Globals) (is : begin_end code budget assignments ≡ e)
    (taken : take_separator (separator_of (after_assignments (assigned code.scalars) first e)) (after_assignments (assigned code.scalars) first e) ≡ t)
    (records : HasRecords code e) where
  abbrev b : End Globals
  b = begin_end code budget assignments

  -- the end after the first assignments
  abbrev assigned_to : End Globals → End Globals
  assigned_to x = after_assignments (assigned code.scalars) first x

  -- RS is taken from there.
  taken_there : take_separator (separator_of (assigned_to b)) (assigned_to b) ≡ t
  taken_there = ap (λ x. take_separator (separator_of (assigned_to x)) (assigned_to x)) is ∙ taken

  -- Records are read after it.
  records_there : HasRecords code b
  records_there = subst (HasRecords code) (sym is) records

  module _ (rest_output : RestOutputLaw calls) (fault_output : FaultOutputLaw) where
    -- What the records do with each global, or why they may not be run in chunks, says which way the run goes.
    roles_by : (flow : Flow) (out : List ℕ) → flow.globals ≡ t.world → flow.state ≡ t.state → out ≡ t.output → length (separator_of (assigned_to b)) ≤ 1 →
        (found : Result CodeRoles Reason) → AreFound code flow.globals found → AreRolesFrom code budget assignments first (separator_of (assigned_to b)) flow found
    roles_by flow out globals state output short (Ok roles) are = (
      are.0,
      are.1,
      are.2 code are.0 are.1 code.expressions budget flow.state [],
      λ turns last. (
        redone code budget first b t taken_there records_there flow out globals state output short roles are.0 are.1 fault_output turns,
        parallel code budget first b t taken_there records_there flow out globals state output short roles are.0 are.1 fault_output turns,
      ),
    )
    roles_by flow out globals state output short (Err reason) are = λ turns last. (records_there, are)

    -- The run before its first piece begins so.
    pub is_start : (start : Start) → start.flow.globals ≡ t.world → start.flow.state ≡ t.state → start.output.items ≡ t.output → start.rs.items ≡ separator_of (assigned_to e) →
        length start.rs.items ≤ 1 → AreFound code start.flow.globals start.roles → IsStart code budget assignments first start
    is_start start globals state output rs few are =
        let text : separator_of (assigned_to b) ≡ start.rs.items = ap (λ x. separator_of (assigned_to x)) is ∙ sym rs in
        let short : length (separator_of (assigned_to b)) ≤ 1 = subst (λ s. length s ≤ 1) (sym text) few in
        record {
          one_byte = few;
          rest = λ turns last. rest code budget first b t taken_there records_there start.flow start.output.items globals state output short rest_output turns last
              ∙ ap (λ s. finish_with_output_before start.output.items (rest_over code budget s last (end_between start.flow) turns)) text;
          roles = subst (λ s. AreRolesFrom code budget assignments first s start.flow start.roles) text (roles_by start.flow start.output.items globals state output short start.roles are);
        }
