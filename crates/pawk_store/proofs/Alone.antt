-- Records over one world, by the lockstep of the world with itself.
use Rattle.std.proofs.Common.{◌≡◌, ℕ, suc, ◌+◌, List, [], ◌∷◌, ◌++◌, length, Option, Some, None, refl, ap, sym, ◌∙◌, subst, inl, Bool, true, false, arith}
use Rattle.std.proofs.Math.Numerals.{suc-eq-add-one}
use Rattle.std.proofs.Math.Nat.{add-zero}
use Rattle.pawk_value.specs.Value.{Maybe}
use Rattle.pawk_record.specs.Records.{read}
use Rattle.pawk_world.specs.Halts.{Halt}
use Rattle.pawk_world.specs.Halts as halt
use Rattle.pawk_world.specs.Worlds.{Request, Answer, Calls}
use Rattle.pawk_world.specs.Worlds as world
use Rattle.pawk_store.specs.RecordStates.{RecordState, is_paragraph, with_item}
use Rattle.pawk_store.specs.Slots.{fs_slot}
use Rattle.pawk_code.specs.Programs.{Rule, Function, Code}
use Rattle.pawk_input.specs.Input.{File, Item}
use Rattle.pawk_store.specs.Parts.{Moment, Outcome, gives, halts}
use Rattle.pawk_store.specs.Places.{text_at}
use Rattle.pawk_store.specs.Records.{Left, through, next_file, exit, fault, clash, End, end_of_halt, end_of, run_part, one_record}
use Rattle.pawk_store.specs.Runs.{Ending, disallowed, after_leaving, records_from, run}
use Rattle.pawk_store.specs.Lockstep.{Access, Resource, Pair, AllHeld, refusal_of, record_state_of, SameAnswer, AreInLockstep, RefusesIn, GoesOn}
use Rattle.pawk_store.specs.Allows.{AllowsMain}
use Rattle.pawk_store.specs.Laws.{IsFinal, RefusalsAreFinal, LeftBy, EndingBy, IsNoClash}
use Rattle.pawk_store.specs.Steady.{IsSteady, StaysInFile, HaltsBy, state_after_record, status_after, state_after_records, RecordsKeep, onward, ReadsAnewLaw}
use Rattle.pawk_store.proofs.Later.{Any, Order, Meets}
use Rattle.pawk_store.proofs.Going.{Track, track, goes_bind}
use Rattle.pawk_store.proofs.InRecords.{goes_after_read, goes_rules}
use Rattle.pawk_store.proofs.InRuns.{Program, first_ended}
use Rattle.pawk_store.proofs.Everything.{everything, any_code}

-- ---- a world with itself

abbrev itself : {S : Type 0} → (Access → Resource → Type 0) → Calls S → Pair S S
itself permits calls = record {
  first_calls = calls;
  second_calls = calls;
  alike = λ s t. s ≡ t;
  before = λ s t. Unit {0};
  before_second = λ s t. Unit {0};
  permits = permits;
  parts = λ q s t. ⊥;
  ahead = [];
}

same_answer : {S X : Type 0} (a : Answer S X) → SameAnswer (λ s t. s ≡ t) a a
same_answer (world.gives x s) = (refl, refl)
same_answer (world.halts h s) = (refl, refl)

lockstep_itself : {S : Type 0} (permits : Access → Resource → Type 0) (calls : Calls S) → AreInLockstep (itself permits calls)
lockstep_itself permits calls = record {
  look = λ n may s t e. ap (calls.look n) e;
  ask = λ q may s t e. inl (subst (λ u. SameAnswer (λ x y. x ≡ y) (calls.ask q s) (calls.ask q u)) e (same_answer (calls.ask q s)));
}

abbrev stays : Halt → Bool
stays (halt.fault f) = true
stays halt.clash = true
stays halt.next = true
stays halt.next_file = false
stays (halt.exit n) = true

refused : {S : Type 0} (r : Option (Halt × S)) → IsFinal r → RefusesIn (λ h. stays h ≡ true) r
refused None final = tt
refused (Some (halt.fault f, s)) final = refl
refused (Some (halt.clash, s)) final = refl
refused (Some (halt.next, s)) final = absurd final
refused (Some (halt.next_file, s)) final = absurd final
refused (Some (halt.exit n, s)) final = refl

stays_in_file : (h : Halt) → stays h ≡ true → StaysInFile h
stays_in_file (halt.fault f) e = tt
stays_in_file halt.clash e = tt
stays_in_file halt.next e = tt
stays_in_file halt.next_file e = let bad : false ≡ true = e in absurd cc
stays_in_file (halt.exit n) e = tt

abbrev goes_itself : {S : Type 0} (permits : Access → Resource → Type 0) (calls : Calls S) → IsSteady permits → RefusalsAreFinal calls → GoesOn permits (λ (s t : S). Unit {0}) calls
goes_itself permits calls steady final = record {
  here = λ s. tt;
  then = λ s t u h k. tt;
  ask = λ q may s. tt;
  ends = stays;
  at_fault = λ f. refl;
  at_next = refl;
  at_next_file = λ may. absurd (steady.no_next_file may);
  at_exit = λ n. refl;
  refuses = λ q may s. refused (refusal_of (calls.ask q s)) (final q s);
}

-- of two record states of which the second has another record alone
abbrev line_order : (permits : Access → Resource → Type 0) → IsSteady permits → Order permits
line_order permits steady = record {
  keeps = λ s t. t ≡ record s { line = t.line };
  here = λ s. refl;
  then = λ s t u h k. k ∙ ap (λ (x : RecordState). record x { line = u.line }) h;
  line = λ s r. refl;
  match = λ may s start size. absurd (steady.no_match may);
  ranges = λ may s inside. absurd (steady.no_range may);
}

abbrev alone : {S : Type 0} (permits : Access → Resource → Type 0) (calls : Calls S) → IsSteady permits → RefusalsAreFinal calls → Track S S
alone permits calls steady final = record {
  pair = itself permits calls;
  lockstep = lockstep_itself permits calls;
  first = goes_itself permits calls steady final;
  second = goes_itself permits calls steady final;
  order = line_order permits steady;
}

-- ---- no clash

abbrev no_clash : Halt → Bool
no_clash (halt.fault f) = true
no_clash halt.clash = false
no_clash halt.next = true
no_clash halt.next_file = true
no_clash (halt.exit n) = true

unclashed : {S : Type 0} (r : Option (Halt × S)) → IsNoClash r → RefusesIn (λ h. no_clash h ≡ true) r
unclashed None h = tt
unclashed (Some (halt.fault f, s)) h = refl
unclashed (Some (halt.clash, s)) h = absurd h
unclashed (Some (halt.next, s)) h = refl
unclashed (Some (halt.next_file, s)) h = refl
unclashed (Some (halt.exit n, s)) h = refl

allowed : (ending : Ending) → EndingBy (λ h. no_clash h ≡ true) ending → ending ≡ disallowed → ⊥
allowed ending h e = let bad : false ≡ true = subst (EndingBy (λ h. no_clash h ≡ true)) e h in absurd cc

module _ {S : Type 0} (calls : Calls S) (never : (q : Request) (s : S) → IsNoClash (refusal_of (calls.ask q s))) where
  abbrev unclashing : GoesOn everything (λ (s t : S). Unit {0}) calls
  unclashing = record {
    here = λ s. tt;
    then = λ s t u h k. tt;
    ask = λ q may s. tt;
    ends = no_clash;
    at_fault = λ f. refl;
    at_next = refl;
    at_next_file = λ may. refl;
    at_exit = λ n. refl;
    refuses = λ q may s. unclashed (refusal_of (calls.ask q s)) (never q s);
  }

  pub never_disallows : (p : Program) (files : List File) (s : S) (state : RecordState) → (run calls p.eres p.code p.budget files s state).ending ≡ disallowed → ⊥
  never_disallows p files s state =
      allowed (run calls p.eres p.code p.budget files s state).ending
      (first_ended (track (itself everything calls) (lockstep_itself everything calls) unclashing unclashing) (λ fs x i. tt) p (any_code p.code) files s s state)

-- ---- one record

halts_in_file : {S X : Type 0} (permits : Access → Resource → Type 0) (o : Outcome S X) → Meets permits (λ h. stays h ≡ true) Any o → HaltsBy StaysInFile o
halts_in_file permits (gives x m) h = tt
halts_in_file permits (halts i s state out) h = stays_in_file i h

module _ {S : Type 0} (permits : Access → Resource → Type 0) (calls : Calls S) (steady : IsSteady permits) (final : RefusalsAreFinal calls) (eres : List (List ℕ)) where
  pub record_keeps : (functions : List Function) (rules : List Rule) → AllowsMain permits functions rules → (i : Item) (m : Moment S) → AllHeld permits m.frame → let o = one_record calls eres functions rules i m in (record_state_of o ≡ state_after_record (record_state_of o).line i m.state) × HaltsBy StaysInFile o
  record_keeps functions rules may i m held =
      let t = alone permits calls steady final in
      let fs = text_at calls fs_slot m in
      let r = read fs (is_paragraph m.state) i.bytes in
      let l = (goes_bind (goes_after_read {t = t} r.1) (λ _ _. goes_rules {t = t} eres functions may.1 0 rules may.2)).first (record m { state = with_item fs i m.state }) held in
      (l.state, halts_in_file permits (one_record calls eres functions rules i m) l.meets)

-- ---- records

-- the record state at the end of a record, and how it is left
abbrev EndKeeps : {S : Type 0} → RecordState → End S → Type 0
EndKeeps before e = (e.state ≡ state_after_records 1 e.left before e.state) × LeftBy StaysInFile e.left

one_later : (i : Item) (before now : RecordState) → now ≡ state_after_record now.line i before → now ≡ record before { line = now.line; nr = before.nr + 1; fnr = now.fnr; name = now.name }
one_later i before now e =
    e ∙ ap (λ n. record before { line = now.line; nr = n; fnr = i.fnr; name = Maybe i.name }) (suc-eq-add-one before.nr)
    ∙ ap (λ (x : RecordState). record before { line = now.line; nr = before.nr + 1; fnr = x.fnr; name = x.name }) (sym e)

halt_keeps : {S : Type 0} (i : Item) (before : RecordState) (h : Halt) (s : S) (state : RecordState) (out : List ℕ) → state ≡ state_after_record state.line i before → StaysInFile h → EndKeeps before (end_of_halt h s state out)
halt_keeps i before (halt.fault f) s state out e stay = (one_later i before state e, tt)
halt_keeps i before halt.clash s state out e stay = (one_later i before state e, tt)
halt_keeps i before halt.next s state out e stay = (one_later i before state e, tt)
halt_keeps i before halt.next_file s state out e stay = absurd stay
halt_keeps i before (halt.exit n) s state out e stay = (ap (λ (x : RecordState). record x { status = n }) (one_later i before state e), tt)

end_keeps : {S X : Type 0} (i : Item) (before : RecordState) (o : Outcome S X) → record_state_of o ≡ state_after_record (record_state_of o).line i before → HaltsBy StaysInFile o → EndKeeps before (end_of o)
end_keeps i before (gives x m) e stay = (one_later i before m.state e, tt)
end_keeps i before (halts h s state out) e stay = halt_keeps i before h s state out e stay

none_later : (s : RecordState) → s ≡ record s { nr = s.nr + 0 }
none_later s = ap (λ n. record s { nr = n }) (sym (add-zero s.nr))

one_and : (n k : ℕ) → n + 1 + k ≡ n + suc k
one_and n k = omega arith

module _ {S : Type 0} (permits : Access → Resource → Type 0) (calls : Calls S) (steady : IsSteady permits) (final : RefusalsAreFinal calls) (eres : List (List ℕ)) (code : Code) (may : AllowsMain permits code.functions code.rules) (budget : ℕ) where
  abbrev after_one : Item → End S → End S
  after_one i e = run_part (one_record calls eres code.functions code.rules i) budget e.world e.state e.output

  abbrev all_from : End S → List Item → End S
  all_from e items = records_from calls eres code budget None e items

  abbrev go_on : List Item → Option ℕ → End S → End S
  go_on items skip e = records_from calls eres code budget skip e items

  one_keeps : (i : Item) (e : End S) → EndKeeps e.state (after_one i e)
  one_keeps i e =
      let m : Moment S = record { world = e.world; state = e.state; frame = []; arrays = []; output = e.output; left = budget } in
      let k = record_keeps permits calls steady final eres code.functions code.rules may i m tt in
      end_keeps i e.state (one_record calls eres code.functions code.rules i m) k.0 k.1

  keep_none : (e : End S) → e.left ≡ through → RecordsKeep calls eres code budget e []
  keep_none e h = record {
    read = [];
    unread = [];
    in_order = refl;
    of_read = refl;
    all_read = λ _. refl;
    state = subst (λ x. e.state ≡ state_after_records 0 x e.state e.state) (sym h) (none_later e.state);
    in_file = subst (LeftBy StaysInFile) (sym h) tt;
  }

  -- the run ends after a record
  keep_last : (i : Item) (items : List Item) (e : End S) → ((go : Option ℕ → End S → End S) → after_leaving go i.file (after_one i e).left (after_one i e) ≡ after_one i e) → ((after_one i e).left ≡ through → ⊥) → RecordsKeep calls eres code budget e (i ∷ items)
  keep_last i items e is stops =
      let r = after_one i e in
      let f = all_from e (i ∷ items) in
      let k = one_keeps i e in
      let there : f ≡ r = is (go_on items) in
      record {
        read = i ∷ [];
        unread = items;
        in_order = refl;
        of_read = there ∙ sym (is (go_on []));
        all_read = λ h. absurd (stops (subst (λ (x : End S). x.left ≡ through) there h));
        state = subst (λ (x : End S). x.state ≡ state_after_records 1 x.left e.state x.state) (sym there) k.0;
        in_file = subst (λ (x : End S). LeftBy StaysInFile x.left) (sym there) k.1;
      }

  -- the run goes on after a record
  keep_more : (i : Item) (items : List Item) (e : End S) → (after_one i e).left ≡ through → RecordsKeep calls eres code budget (after_one i e) items → RecordsKeep calls eres code budget e (i ∷ items)
  keep_more i items e on k =
      let r = after_one i e in
      let f = all_from e (i ∷ items) in
      let g = all_from r items in
      let there : f ≡ g = ap (λ x. after_leaving (go_on items) i.file x r) on in
      let state : r.state ≡ state_after_records 1 through e.state r.state = subst (λ x. r.state ≡ state_after_records 1 x e.state r.state) on (one_keeps i e).0 in
      record {
        read = i ∷ k.read;
        unread = k.unread;
        in_order = ap (λ l. i ∷ l) k.in_order;
        of_read = there ∙ k.of_read ∙ ap (λ x. after_leaving (go_on k.read) i.file x r) (sym on);
        all_read = λ h. ap (λ l. i ∷ l) (k.all_read (subst (λ (x : End S). x.left ≡ through) there h));
        state = subst (λ (x : End S). x.state ≡ state_after_records (suc (length k.read)) x.left e.state x.state) (sym there)
            (k.state ∙ ap (λ x. state_after_records (length k.read) g.left x g.state) state
            ∙ ap (λ n. record e.state { line = g.state.line; nr = n; fnr = g.state.fnr; name = g.state.name; status = status_after e.state.status g.left }) (one_and e.state.nr (length k.read)));
        in_file = subst (λ (x : End S). LeftBy StaysInFile x.left) (sym there) k.in_file;
      }

  -- an end of a record, by how it is left
  keep_after : (i : Item) (items : List Item) (e : End S) (left : Left) → (after_one i e).left ≡ left → ((after_one i e).left ≡ through → RecordsKeep calls eres code budget (after_one i e) items) → RecordsKeep calls eres code budget e (i ∷ items)
  keep_after i items e through is more = keep_more i items e is (more is)
  keep_after i items e next_file is more = absurd (subst (LeftBy StaysInFile) is (one_keeps i e).1)
  keep_after i items e (exit n) is more = keep_last i items e (λ go. ap (λ x. after_leaving go i.file x (after_one i e)) is) (λ h. let bad : exit n ≡ through = sym is ∙ h in absurd cc)
  keep_after i items e (fault f) is more = keep_last i items e (λ go. ap (λ x. after_leaving go i.file x (after_one i e)) is) (λ h. let bad : fault f ≡ through = sym is ∙ h in absurd cc)
  keep_after i items e clash is more = keep_last i items e (λ go. ap (λ x. after_leaving go i.file x (after_one i e)) is) (λ h. let bad : clash ≡ through = sym is ∙ h in absurd cc)

  pub records_keep : (items : List Item) (e : End S) → e.left ≡ through → RecordsKeep calls eres code budget e items
  records_keep [] e h = keep_none e h
  records_keep (i ∷ items) e h = keep_after i items e (after_one i e).left refl (λ on. records_keep items (after_one i e) on)

  -- ---- records in two parts

  abbrev Follows : List Item → List Item → End S → Type 0
  Follows items more e = all_from e (items ++ more) ≡ onward (λ g. all_from g more) (all_from e items).left (all_from e items)

  follow_none : (more : List Item) (e : End S) → e.left ≡ through → Follows [] more e
  follow_none more e h = subst (λ x. all_from e more ≡ onward (λ g. all_from g more) x e) (sym h) refl

  follow_after : (i : Item) (items more : List Item) (e : End S) (left : Left) → (after_one i e).left ≡ left → ((after_one i e).left ≡ through → Follows items more (after_one i e)) → let r = after_one i e in let f = after_leaving (go_on items) i.file left r in after_leaving (go_on (items ++ more)) i.file left r ≡ onward (λ g. all_from g more) f.left f
  follow_after i items more e through is on = on is
  follow_after i items more e next_file is on = absurd (subst (LeftBy StaysInFile) is (one_keeps i e).1)
  follow_after i items more e (exit n) is on = ap (λ x. onward (λ g. all_from g more) x (after_one i e)) (sym is)
  follow_after i items more e (fault f) is on = ap (λ x. onward (λ g. all_from g more) x (after_one i e)) (sym is)
  follow_after i items more e clash is on = ap (λ x. onward (λ g. all_from g more) x (after_one i e)) (sym is)

  pub records_follow : (items more : List Item) (e : End S) → e.left ≡ through → Follows items more e
  records_follow [] more e h = follow_none more e h
  records_follow (i ∷ items) more e h = follow_after i items more e (after_one i e).left refl (λ on. records_follow items more (after_one i e) on)

-- ---- what a record reads

pub reads_anew : {S : Type 0} (calls : Calls S) → ReadsAnewLaw calls
reads_anew calls eres code i s t same = (
  λ m. ap (λ x. one_record calls eres code.functions code.rules i (record m { state = x })) (sym same),
  λ budget items e. ap (λ x. records_from calls eres code budget None (record e { state = x }) (i ∷ items)) (sym same),
)

-- ---- a second part from the state before the first

module _ {S : Type 0} (permits : Access → Resource → Type 0) (calls : Calls S) (steady : IsSteady permits) (final : RefusalsAreFinal calls) (eres : List (List ℕ)) (code : Code) (may : AllowsMain permits code.functions code.rules) (budget : ℕ) where
  pub records_resume : (items : List Item) (i : Item) (more : List Item) (e : End S) → e.left ≡ through → let f = records_from calls eres code budget None e items in f.left ≡ through → records_from calls eres code budget None f (i ∷ more) ≡ records_from calls eres code budget None (record f { state = record e.state { nr = e.state.nr + length items } }) (i ∷ more)
  records_resume items i more e h on =
      let f = records_from calls eres code budget None e items in
      let k = records_keep permits calls steady final eres code may budget items e h in
      let kept : f.state ≡ state_after_records (length k.read) f.left e.state f.state = k.state in
      let through_it : f.state ≡ state_after_records (length k.read) through e.state f.state = kept ∙ ap (λ x. state_after_records (length k.read) x e.state f.state) on in
      let all : f.state ≡ state_after_records (length items) through e.state f.state = through_it ∙ ap (λ (l : List Item). state_after_records (length l) through e.state f.state) (sym (k.all_read on)) in
      sym ((reads_anew calls eres code i (record e.state { nr = e.state.nr + length items }) f.state all).1 budget more f)
