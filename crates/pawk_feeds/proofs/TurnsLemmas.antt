-- Turns of feeds, in order.
use Rattle.std.proofs.Common.{◌≡◌, ℕ, ◌+◌, ◌<◌, ◌≤◌, true, false, List, [], ◌∷◌, ◌++◌, length, get_or, take, drop, Option, Some, None, IfSome, refl, ap, sym, ◌∙◌, subst, append_assoc, append-nil, take-append-drop}
use Rattle.std.proofs.KnownBytes.{Appends-nil, Appends-trans, Keeps-refl}
use Rattle.pawk_records.specs.Records.{records_by}
use Rattle.pawk_input.specs.Input.{File}
use Rattle.pawk_admit.specs.declared.role.Roles.{Roles}
use Rattle.pawk_store.specs.Records.{Left, through, next_file, exit, fault, clash, End}
use Rattle.pawk_store.specs.Runs.{Finish, after_records}
use Rattle.pawk_store.specs.Outputs.{finish_with_output_before}
use Rattle.pawk_store.specs.Globals.{Globals, calls}
use Rattle.pawk_store.specs.Openings.{pairs_of}
use Rattle.pawk_merge_law.specs.Flows.{Pairs, Turn, after_assignments, rest_in_file}
use Rattle.pawk_merge_law.specs.Redone.{FileFaultsOrCreates}
use Rattle.pawk_flow.specs.Operands.{assigned, ReadyLaw}
use Rattle.std.specs.Prelude.{◌↔◌}
use Rattle.pawk_window.specs.Feeds.{IsFileOf}
use Rattle.pawk_window.specs.declared.feed.Feed.{Feed}
use Rattle.pawk_window.proofs.PlaceLemmas.{whole_at, take_at, take_all}
use Rattle.pawk_feeds.specs.Feeds.{AreTurnsOf, WroteSome}
use Rattle.pawk_feeds.specs.declared.stream.Stream.{Stream}
use Rattle.pawk_feeds.specs.Streams.{Course, IsReady, RunsFile, RunsFiles, RunsOver, Tells, phase_of, file_left, file_fault, turns_fault, file_left_faults, is_over, with_file, with_turns}
use Rattle.pawk_feeds.proofs.RouteLemmas.{tells_then, tells_same, tells_iff, goes_fault, ends_fault, same_file}
use Rattle.pawk_merge_law.specs.Phases.{MayRun}
use Rattle.pawk_flow.specs.Pieces.{end_between}
use Rattle.pawk_flow.specs.Flow.{Flow}
use Rattle.pawk_feeds.proofs.StreamLemmas.{both_front, known, known_is, wrote_none, wrote_after}

-- ---- turns of feeds

module _ {S : Type 0} (left : S → Option (List ℕ)) where
  -- Turns of feeds, and then turns of others, are turns of both.
  pub turns_append : (xs ys : List (Feed S)) (ts us : List Turn) → AreTurnsOf left xs ts → AreTurnsOf left ys us → AreTurnsOf left (xs ++ ys) (ts ++ us)
  turns_append [] ys [] us h k = k
  turns_append [] ys (t ∷ ts) us h k = absurd h
  turns_append (x ∷ xs) ys [] us h k = absurd h
  turns_append (x ∷ xs) ys (t ∷ ts) us h k = (h.0, turns_append xs ys ts us h.1 k)

  -- All feeds have turns.
  pub some_turns : (feeds : List (Feed S)) → (turns : List Turn) × AreTurnsOf left feeds turns
  some_turns [] = ([], tt)
  some_turns (x ∷ xs) =
      let rest = some_turns xs in
      let file : File = record { name = x.name.items; bytes = known (left x.source) } in (
        record { before = pairs_of x.before.now; file = file } ∷ rest.0,
        (record { before = refl; file = record { name = refl; bytes = known_is (left x.source) } }, rest.1),
      )

-- ---- runs over files

-- No file was run.
pub over_none : (u : Course) (taken : Option (List ℕ)) (s : Stream) → RunsOver u taken taken [] s s
over_none u taken s = record { wrote = []; appends = Appends-nil taken; is = λ ts. refl; tells = λ ts. tells_same (turns_fault u s.flow ts) s.roles }

-- After a file that does not end a run, the next follow.
file_goes : (u : Course) (how : Left) (flow : Flow) (ts : List Turn) → is_over how ≡ false → file_left u how flow ts ≡ with_turns u flow ts
file_goes u through flow ts h = refl
file_goes u next_file flow ts h = refl
file_goes u (exit n) flow ts h = absurd cc
file_goes u (fault f) flow ts h = absurd cc
file_goes u clash flow ts h = absurd cc

-- After one that ends it, none does.
file_ends : (u : Course) (how : Left) (flow : Flow) (ts : List Turn) → is_over how ≡ true → file_left u how flow ts ≡ after_records calls u.code.expressions u.code u.budget how (end_between flow)
file_ends u through flow ts h = absurd cc
file_ends u next_file flow ts h = absurd cc
file_ends u (exit n) flow ts h = refl
file_ends u (fault f) flow ts h = refl
file_ends u clash flow ts h = refl

-- One stream is the other after these assignments.
pub record IsAfter (u : Course) (pairs : Pairs) (old new : Stream) : Type 0 where
  pub end : end_between new.flow ≡ after_assignments (assigned u.code.scalars) pairs (end_between old.flow)
  pub roles : new.roles ≡ old.roles

-- a stream with these globals
abbrev pub with_globals : Stream → Globals → Stream
with_globals s g = record s { flow = record s.flow { globals = g } }

module _ (u : Course) (s : Stream) (g : Globals) (pairs : Pairs) where
  -- With the globals that assignments make it is the stream after them.
  pub is_after : g ≡ assigned u.code.scalars pairs s.flow.globals → IsAfter u pairs s (with_globals s g)
  is_after is = record { end = λ j. record { world = is j; state = s.flow.state; output = []; left = through }; roles = refl }

  -- Its next piece may be run in chunks where it might before.
  pub ready_after : ReadyLaw → g ≡ assigned u.code.scalars pairs s.flow.globals → IsReady u s → IsReady u (with_globals s g)
  ready_after law is ready = record {
    by_rs = ready.by_rs;
    may_run = some_ready s.roles ready.may_run;
  }
    where
      some_ready : (roles : Option Roles) → IfSome roles (λ r. MayRun (phase_of u s.flow r)) → IfSome roles (λ r. MayRun (phase_of u (with_globals s g).flow r))
      some_ready None h = tt
      some_ready (Some r) h =
          subst (λ (x : Globals). MayRun (phase_of u (with_globals s x).flow r)) (sym is) (law (phase_of u s.flow r) pairs h)

module _ (u : Course) (mid ready : Stream) (pairs : Pairs) (after : IsAfter u pairs mid ready) (file : File) (ts : List Turn) where
  -- a file after these assignments
  abbrev turn : Turn
  turn = record { before = pairs; file = file }

  -- With a turn a run goes on as with its file after its assignments.
  pub turn_is : with_turns u mid.flow (turn ∷ ts) ≡ with_file u ready.flow file ts
  turn_is =
      ap (λ (e : End Globals). rest_in_file calls u.code.expressions u.code u.budget (assigned u.code.scalars) u.last u.rs e file.name 0 (records_by u.rs file.bytes) ts)
      (sym after.end)

  -- It faults or creates where that does.
  pub turn_faults : (r : Roles) → turns_fault u mid.flow (turn ∷ ts) r ↔ file_fault u ready.flow file ts r
  turn_faults r =
      let make = assigned u.code.scalars in
      let records = records_by u.rs file.bytes in
      let e : turns_fault u mid.flow (turn ∷ ts) r ≡ file_fault u ready.flow file ts r =
      same_file u r mid.flow ready.flow (after_assignments make pairs (end_between mid.flow)) file.name 0 records ts
      ∙ ap (λ (x : End Globals). FileFaultsOrCreates make (phase_of u ready.flow r) u.rs x file.name 0 records ts) (sym after.end) in
      (λ h. subst (λ T. T) e h, λ h. subst (λ T. T) (sym e) h)

module _ (u : Course) (taken mid_taken now_taken : Option (List ℕ)) (old mid ready new : Stream) (done : List Turn) (over : RunsOver u taken mid_taken done old mid)
    (pairs : Pairs) (after : IsAfter u pairs mid ready) where
  abbrev turn_of : File → Turn
  turn_of file = record { before = pairs; file = file }

  -- What a file tells after its assignments, it tells before them.
  turn_tells : (file : File) (ts : List Turn) (C : Roles → Type 0) → Tells (file_fault u ready.flow file ts) C ready.roles new.roles → Tells (turns_fault u mid.flow (turn_of file ∷ ts)) C mid.roles new.roles
  turn_tells file ts C told =
      subst (λ (o : Option Roles). Tells (turns_fault u mid.flow (turn_of file ∷ ts)) C o new.roles) after.roles
      (tells_then (turns_fault u mid.flow (turn_of file ∷ ts)) (file_fault u ready.flow file ts) C ready.roles ready.roles new.roles
      (tells_iff (turns_fault u mid.flow (turn_of file ∷ ts)) (file_fault u ready.flow file ts) ready.roles (turn_faults u mid ready pairs after file ts)) told)

  -- One more file was run.
  pub over_file : (file : File) (how : Left) → RunsFile u mid_taken now_taken file ready how new → is_over how ≡ false → RunsOver u taken now_taken (done ++ (turn_of file ∷ [])) old new
  over_file file how run goes = record {
    wrote = over.wrote ++ run.wrote;
    appends = Appends-trans taken mid_taken now_taken over.wrote run.wrote over.appends run.appends;
    tells = λ ts.
        subst (λ (l : List Turn). Tells (turns_fault u old.flow l) (turns_fault u new.flow ts) old.roles new.roles) (sym (append_assoc done (turn_of file ∷ []) ts))
        (tells_then (turns_fault u old.flow (done ++ (turn_of file ∷ ts))) (turns_fault u mid.flow (turn_of file ∷ ts)) (turns_fault u new.flow ts) old.roles mid.roles new.roles (over.tells (turn_of file ∷ ts))
        (turn_tells file ts (turns_fault u new.flow ts)
        (tells_then (file_fault u ready.flow file ts) (file_left_faults u how new.flow ts) (turns_fault u new.flow ts) ready.roles new.roles new.roles (run.tells ts)
        (tells_iff (file_left_faults u how new.flow ts) (turns_fault u new.flow ts) new.roles (goes_fault u how new.flow ts goes)))));
    is = λ ts.
        ap (with_turns u old.flow) (append_assoc done (turn_of file ∷ []) ts)
        ∙ over.is (turn_of file ∷ ts)
        ∙ ap (finish_with_output_before over.wrote) (turn_is u mid ready pairs after file ts ∙ run.is ts ∙ ap (finish_with_output_before run.wrote) (file_goes u how new.flow ts goes))
        ∙ both_front over.wrote run.wrote (with_turns u new.flow ts);
  }

  -- The last file was run that is read.
  pub over_end : (file : File) (rest : List Turn) (how : Left) → RunsFile u mid_taken now_taken file ready how new → is_over how ≡ true → RunsFiles u taken now_taken (done ++ (turn_of file ∷ rest)) old how new
  over_end file rest how run ends = record {
    wrote = over.wrote ++ run.wrote;
    appends = Appends-trans taken mid_taken now_taken over.wrote run.wrote over.appends run.appends;
    tells =
        tells_then (turns_fault u old.flow (done ++ (turn_of file ∷ rest))) (turns_fault u mid.flow (turn_of file ∷ rest)) (λ r. ⊥) old.roles mid.roles new.roles (over.tells (turn_of file ∷ rest))
        (turn_tells file rest (λ r. ⊥)
        (tells_then (file_fault u ready.flow file rest) (file_left_faults u how new.flow rest) (λ r. ⊥) ready.roles new.roles new.roles (run.tells rest)
        (tells_iff (file_left_faults u how new.flow rest) (λ r. ⊥) new.roles (ends_fault u how new.flow rest ends))));
    is =
        over.is (turn_of file ∷ rest)
        ∙ ap (finish_with_output_before over.wrote) (turn_is u mid ready pairs after file rest ∙ run.is rest ∙ ap (finish_with_output_before run.wrote) (file_ends u how new.flow rest ends))
        ∙ both_front over.wrote run.wrote (after_records calls u.code.expressions u.code u.budget how (end_between new.flow));
  }

  -- A run was refused in a file.
  pub over_refuses : (file : File) (rest : List Turn) → ((ts : List Turn) → WroteSome mid_taken now_taken (with_file u ready.flow file ts).output) →
      WroteSome taken now_taken (with_turns u old.flow (done ++ (turn_of file ∷ rest))).output
  over_refuses file rest some =
      subst (λ (f : Finish Globals). WroteSome taken now_taken f.output) (sym (over.is (turn_of file ∷ rest) ∙ ap (finish_with_output_before over.wrote) (turn_is u mid ready pairs after file rest)))
      (wrote_after taken mid_taken now_taken over.wrote _ over.appends (some rest))

module _ {S : Type 0} (left : S → Option (List ℕ)) (u : Course) (taken mid_taken now_taken : Option (List ℕ)) (old mid ready new : Stream) (feeds now : List (Feed S)) (i : ℕ) (d : Feed S)
    (small : i < length now) (same : drop i now ≡ drop i feeds)
    (ran : (done : List Turn) × AreTurnsOf left (take i feeds) done × RunsOver u taken mid_taken done old mid)
    (after : IsAfter u (pairs_of (get_or now i d).before.now) mid ready) where
  abbrev pairs : Pairs
  pairs = pairs_of (get_or now i d).before.now

  abbrev turn_at : File → Turn
  turn_at file = record { before = pairs; file = file }

  -- The turns of all feeds, where those of the feeds before a place and the one there are known.
  around : (file : File) → IsFileOf left (get_or now i d) file → AreTurnsOf left feeds (ran.0 ++ (turn_at file ∷ (some_turns left (drop (i + 1) feeds)).0))
  around file is =
      let rest = some_turns left (drop (i + 1) feeds) in
      subst (λ (fs : List (Feed S)). AreTurnsOf left fs (ran.0 ++ (turn_at file ∷ rest.0))) (whole_at now feeds i d small same)
      (turns_append left (take i feeds) (get_or now i d ∷ drop (i + 1) feeds) ran.0 (turn_at file ∷ rest.0) ran.1 (record { before = refl; file = is }, rest.1))

  -- One more file was run.
  pub feeds_go : (how : Left) → ((file : File) × IsFileOf left (get_or now i d) file × RunsFile u mid_taken now_taken file ready how new) → is_over how ≡ false →
      (done : List Turn) × AreTurnsOf left (take (i + 1) feeds) done × RunsOver u taken now_taken done old new
  feeds_go how last goes = (
    ran.0 ++ (turn_at last.0 ∷ []),
    subst (λ (fs : List (Feed S)). AreTurnsOf left fs (ran.0 ++ (turn_at last.0 ∷ []))) (take_at now feeds i d small same)
        (turns_append left (take i feeds) (get_or now i d ∷ []) ran.0 (turn_at last.0 ∷ []) ran.1 (record { before = refl; file = last.1 }, tt)),
    over_file u taken mid_taken now_taken old mid ready new ran.0 ran.2 pairs after last.0 how last.2 goes,
  )

  -- The last file was run that is read.
  pub feeds_end : (how : Left) → ((file : File) × IsFileOf left (get_or now i d) file × RunsFile u mid_taken now_taken file ready how new) → is_over how ≡ true →
      (turns : List Turn) × AreTurnsOf left feeds turns × RunsFiles u taken now_taken turns old how new
  feeds_end how last ends =
      let rest = some_turns left (drop (i + 1) feeds) in
      (ran.0 ++ (turn_at last.0 ∷ rest.0), around last.0 last.1, over_end u taken mid_taken now_taken old mid ready new ran.0 ran.2 pairs after last.0 rest.0 how last.2 ends)

  -- A run was refused in a file.
  pub feeds_refuse : ((file : File) × IsFileOf left (get_or now i d) file × ((ts : List Turn) → WroteSome mid_taken now_taken (with_file u ready.flow file ts).output)) →
      (turns : List Turn) × AreTurnsOf left feeds turns × WroteSome taken now_taken (with_turns u old.flow turns).output
  feeds_refuse why =
      let rest = some_turns left (drop (i + 1) feeds) in
      (ran.0 ++ (turn_at why.0 ∷ rest.0), around why.0 why.1, over_refuses u taken mid_taken now_taken old mid ready new ran.0 ran.2 pairs after why.0 rest.0 why.2)

-- A run was refused after some files, before more was written.
pub feeds_stay : {S : Type 0} (left : S → Option (List ℕ)) (u : Course) (taken mid_taken : Option (List ℕ)) (old mid : Stream) (feeds : List (Feed S)) (i : ℕ) →
    ((done : List Turn) × AreTurnsOf left (take i feeds) done × RunsOver u taken mid_taken done old mid) →
    (turns : List Turn) × AreTurnsOf left feeds turns × WroteSome taken mid_taken (with_turns u old.flow turns).output
feeds_stay {S} left u taken mid_taken old mid feeds i ran =
    let rest = some_turns left (drop i feeds) in (
      ran.0 ++ rest.0,
      subst (λ (fs : List (Feed S)). AreTurnsOf left fs (ran.0 ++ rest.0)) (take-append-drop i feeds) (turns_append left (take i feeds) (drop i feeds) ran.0 rest.0 ran.1 rest.1),
      subst (λ (f : Finish Globals). WroteSome taken mid_taken f.output) (sym (ran.2.is rest.0))
          (wrote_after taken mid_taken mid_taken ran.2.wrote _ ran.2.appends (wrote_none mid_taken mid_taken _ (Keeps-refl mid_taken))),
    )

-- All files were run, and the last assignments made.
pub over_all : (u : Course) (taken now_taken : Option (List ℕ)) (old mid new : Stream) (done : List Turn) → RunsOver u taken now_taken done old mid → IsAfter u u.last mid new → RunsFiles u taken now_taken done old through new
over_all u taken now_taken old mid new done over after = record {
  wrote = over.wrote;
  appends = over.appends;
  is = ap (with_turns u old.flow) (sym (append-nil done)) ∙ over.is []
      ∙ ap (λ (e : End Globals). finish_with_output_before over.wrote (after_records calls u.code.expressions u.code u.budget through e)) (sym after.end);
  tells = subst (λ (o : Option Roles). Tells (turns_fault u old.flow done) (λ r. ⊥) old.roles o) (sym after.roles)
      (subst (λ (l : List Turn). Tells (turns_fault u old.flow l) (λ r. ⊥) old.roles mid.roles) (append-nil done) (over.tells []));
}

-- The files of all feeds were run.
pub feeds_all : {S : Type 0} (left : S → Option (List ℕ)) (u : Course) (taken now_taken : Option (List ℕ)) (old mid new : Stream) (feeds : List (Feed S)) (i : ℕ) → length feeds ≤ i →
    ((done : List Turn) × AreTurnsOf left (take i feeds) done × RunsOver u taken now_taken done old mid) → IsAfter u u.last mid new →
    (turns : List Turn) × AreTurnsOf left feeds turns × RunsFiles u taken now_taken turns old through new
feeds_all {S} left u taken now_taken old mid new feeds i all ran after = (
  ran.0,
  subst (λ (fs : List (Feed S)). AreTurnsOf left fs ran.0) (take_all i feeds all) ran.1,
  over_all u taken now_taken old mid new ran.0 ran.2 after,
)
