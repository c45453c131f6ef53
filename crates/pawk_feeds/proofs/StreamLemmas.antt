-- How a run goes on after a piece of a file.
use Rattle.std.proofs.Common.{◌≡◌, ℕ, ◌+◌, Bool, true, false, List, [], ◌++◌, length, take, drop, Option, Some, None, IfSome, Result, Ok, Err, IfErr, refl, ap, sym, ◌∙◌, subst, append_assoc, append-nil, take-append-drop}
use Rattle.std.proofs.KnownBytes.{Appends-nil, Appends-trans, Consumes-nil, Consumes-trans, Keeps-refl}
use Rattle.std.specs.Io.KnownBytes.{Appends, Consumes, IsAtEnd, Keeps, append_known}
use Rattle.pawk_records.specs.Records.{records_by}
use Rattle.pawk_records.proofs.BlocksLemmas.{no_records}
use Rattle.pawk_input.specs.Input.{File, file_items}
use Rattle.pawk_store.specs.Globals.{Globals, calls}
use Rattle.pawk_store.specs.Records.{Left, through, next_file, exit, fault, clash, End}
use Rattle.pawk_store.specs.Runs.{Finish, records_from, after_records}
use Rattle.pawk_store.specs.Outputs.{in_a_row, with_output_before, finish_with_output_before, OutputStaysLaw}
use Rattle.pawk_store.specs.LeftViews.{left_view}
use Rattle.pawk_store.specs.declared.left.Left.{Left as CodeLeft}
use Rattle.pawk_store.specs.declared.left.Left.TheVariants as left
use Rattle.pawk_window.specs.Windows.{Contents, HaveCome, HoldsRecords, HasEnded}
use Rattle.pawk_merge_law.specs.Flows.{Turn, after_piece, rest_in_file, PieceFollowsLaw, RestOutputLaw}
use Rattle.pawk_flow.specs.Operands.{assigned, rest_over}
use Rattle.pawk_flow.specs.Pieces.{end_between, piece_end, piece_items, piece_records, RunsPiece}
use Rattle.pawk_flow.specs.Flow.{Flow}
use Rattle.pawk_flow.specs.Piece.{Piece}
use Rattle.pawk_flow.specs.PieceEnd.{PieceEnd}
use Rattle.pawk_par.specs.Streams.{WhyUnwritten}
use Rattle.pawk_par.specs.declared.refusal.StreamRefusal.{StreamRefusal}
use Rattle.pawk_par.specs.declared.refusal.StreamRefusal.TheVariants as refusal
use Rattle.pawk_feeds.specs.Feeds.{WroteSome}
use Rattle.pawk_window.specs.Feeds.{IsFileOf}
use Rattle.pawk_window.specs.declared.feed.Feed.{Feed}
use Rattle.pawk_feeds.specs.declared.stream.Stream.{Stream}
use Rattle.pawk_feeds.specs.Streams.{Course, RunsOn, RefusesIn, RunsFile, with_bytes, with_file, as_left, file_left, Tells, phase_of, file_fault, bytes_fault, left_faults, file_left_faults}
use Rattle.pawk_store.specs.Steady.{RecordsKeepLaw}
use Rattle.pawk_commute.specs.Settings.{PermitsFor}
use Rattle.pawk_merge_law.specs.Phases.{Phase, MayRun, FaultsOrCreates}
use Rattle.pawk_merge_law.specs.Redone.{FileFaultsOrCreates, FaultOutputLaw, PieceFaultsLaw}
use Rattle.pawk_feeds.proofs.RouteLemmas.{tells_then, tells_same, tells_iff, piece_tells, end_faults}

-- ---- what was written

-- What is so is so of a refusal.
pub if_err : {X E : Type 0} (r : Result X E) (C : Type 0) → C → IfErr r (λ _. C)
if_err (Ok x) C h = tt
if_err (Err e) C h = h

-- Where nothing was taken, that is a beginning.
pub wrote_none : (old new : Option (List ℕ)) (output : List ℕ) → Keeps old new → WroteSome old new output
wrote_none None new output h = record { taken = []; rest = output; appends = tt; is = refl }
wrote_none (Some x) None output h = absurd h
wrote_none (Some x) (Some y) output h = record { taken = []; rest = output; appends = h ∙ sym (append-nil x); is = refl }

-- An output that was not written to its end was written in part.
pub wrote_some : (output : List ℕ) (old new : Option (List ℕ)) (failures now : ℕ) (e : StreamRefusal) → WhyUnwritten output old new failures now e → WroteSome old new output
wrote_some output old new failures now refusal.Memory why = wrote_none old new output why.0
wrote_some output old new failures now refusal.Thread why = absurd why
wrote_some output old new failures now refusal.Cutting why = absurd why
wrote_some output old new failures now (refusal.Program r) why = absurd why
wrote_some output old new failures now (refusal.Settings r) why = absurd why
wrote_some output old new failures now refusal.Read why = absurd why
wrote_some output old new failures now (refusal.Write count) why =
    record { taken = take count output; rest = drop count output; appends = why.1.1; is = sym (take-append-drop count output) }
wrote_some output old new failures now refusal.Input why = absurd why

-- What was written of the beginning of an output is written of the output.
pub wrote_more : (old new : Option (List ℕ)) (output more : List ℕ) → WroteSome old new output → WroteSome old new (output ++ more)
wrote_more old new output more h =
    record { taken = h.taken; rest = h.rest ++ more; appends = h.appends; is = ap (λ l. l ++ more) h.is ∙ append_assoc h.taken h.rest more }

-- What was written after all of a first part is written after both.
pub wrote_after : (old mid new : Option (List ℕ)) (wrote output : List ℕ) → Appends old mid wrote → WroteSome mid new output → WroteSome old new (wrote ++ output)
wrote_after old mid new wrote output first h =
    record { taken = wrote ++ h.taken; rest = h.rest; appends = Appends-trans old mid new wrote h.taken first h.appends; is = ap (λ l. wrote ++ l) h.is ∙ sym (append_assoc wrote h.taken h.rest) }

-- Known bytes, and then an output, are they with the output appended.
pub appends_known : (taken : Option (List ℕ)) (output : List ℕ) → Appends taken (append_known taken output) output
appends_known None output = tt
appends_known (Some x) output = refl

-- ---- what is left of a source

-- The bytes that a source has left, and none where it does not say.
pub known : Option (List ℕ) → List ℕ
known None = []
known (Some bytes) = bytes

-- They are what it says.
pub known_is : (left : Option (List ℕ)) → IfSome left (λ all. known left ≡ all)
unfolding known
known_is None = tt
known_is (Some bytes) = refl

-- At its end there are none.
pub known_end : (left : Option (List ℕ)) → IsAtEnd left → known left ≡ []
unfolding known
known_end None h = refl
known_end (Some bytes) h = h

-- What was read and what is left are all that there was.
pub read_all : (left now : Option (List ℕ)) (read : List ℕ) → Consumes left now read → IfSome left (λ all. read ++ known now ≡ all)
unfolding known
read_all None now read h = tt
read_all (Some s) None read h = absurd h
read_all (Some s) (Some t) read h = sym h

-- ---- outputs in front

-- Two outputs in front are both of them in front.
pub both_front : (p o : List ℕ) (f : Finish Globals) → finish_with_output_before p (finish_with_output_before o f) ≡ finish_with_output_before (p ++ o) f
both_front p o f = λ j. record { world = f.world; state = f.state; output = (sym (append_assoc p o f.output)) j; ending = f.ending }

-- ---- records that have come

-- Whatever follows, the records of the bytes are those of the whole records, and then those of the rest.
come_by : (b : Bool) (a : Contents) (tail read more : List ℕ) → a.ended ≡ b → tail ++ read ≡ a.whole ++ a.tail → HoldsRecords a → (a.ended ≡ true → a.tail ≡ []) → (a.ended ≡ true → more ≡ []) →
    records_by a.rs (tail ++ (read ++ more)) ≡ records_by a.rs a.whole ++ records_by a.rs (a.tail ++ more)
come_by false a tail read more is parts holds end none =
    ap (records_by a.rs) (sym (append_assoc tail read more) ∙ ap (λ l. l ++ more) parts) ∙ holds is more
come_by true a tail read more is parts holds end none =
    ap (λ l. records_by a.rs (tail ++ (read ++ l))) (none is) ∙ ap (λ l. records_by a.rs (tail ++ l)) (append-nil read)
    ∙ ap (records_by a.rs) (parts ∙ ap (λ l. a.whole ++ l) (end is) ∙ append-nil a.whole)
    ∙ sym (append-nil (records_by a.rs a.whole)) ∙ ap (λ l. records_by a.rs a.whole ++ l) (sym (no_records a.rs))
    ∙ sym (ap (λ l. records_by a.rs a.whole ++ records_by a.rs (l ++ more)) (end is) ∙ ap (λ l. records_by a.rs a.whole ++ records_by a.rs l) (none is))

-- Such are the records of a window that was filled.
pub records_come : (a : Contents) (tail read more : List ℕ) → tail ++ read ≡ a.whole ++ a.tail → HoldsRecords a → (a.ended ≡ true → a.tail ≡ []) → (a.ended ≡ true → more ≡ []) →
    records_by a.rs (tail ++ (read ++ more)) ≡ records_by a.rs a.whole ++ records_by a.rs (a.tail ++ more)
records_come a tail read more = come_by a.ended a tail read more refl

-- ---- refusals

-- How records are left is through only where the code has it so.
pub not_through : (l : CodeLeft) → (l ≡ left.Through → ⊥) → left_view l ≡ through → ⊥
not_through left.Through off on = off refl
not_through left.NextFile off on = let bad : next_file ≡ through = on in absurd cc
not_through (left.Exit n) off on = let bad : exit n ≡ through = on in absurd cc
not_through (left.Fault f) off on = let bad : fault f ≡ through = on in absurd cc
not_through left.Clash off on = let bad : clash ≡ through = on in absurd cc

-- A run was refused before anything of a piece was written.
pub refuses_unwritten : (u : Course) (left taken : Option (List ℕ)) (name : List ℕ) (s : Stream) (fnr : ℕ) → RefusesIn u left taken taken name s fnr
refuses_unwritten u left taken name s fnr = record {
  bytes = known left;
  all = known_is left;
  wrote = λ ts. wrote_none taken taken _ (Keeps-refl taken);
}

-- A run was refused when some of the output was written.
pub refuses_written : (u : Course) (left now_left taken now_taken all_taken : Option (List ℕ)) (name : List ℕ) (old : Stream) (fnr : ℕ) (how : Left) (new : Stream) (now_fnr : ℕ) →
    (r : RunsOn u left now_left taken all_taken name old fnr how new now_fnr) → WroteSome taken now_taken r.wrote → RefusesIn u left taken now_taken name old fnr
refuses_written u left now_left taken now_taken all_taken name old fnr how new now_fnr r some = record {
  bytes = r.read ++ known now_left;
  all = read_all left now_left r.read r.consumes;
  wrote = λ ts. subst (λ (f : Finish Globals). WroteSome taken now_taken f.output) (sym (r.is (known now_left) ts (λ e. known_end now_left (r.ended e).1)))
      (wrote_more taken now_taken r.wrote _ some);
}

-- ---- one piece

module _ (u : Course) (pieces : PieceFollowsLaw calls) (rest_output : RestOutputLaw calls) (behind : OutputStaysLaw calls) where
  abbrev after : (End Globals → Finish Globals) → (End Globals → Finish Globals) → Left → End Globals → Finish Globals
  after more later l e = after_piece calls u.code.expressions u.code u.budget more later l e

  -- an end of a flow, with some output and left so
  abbrev flow_end : Flow → List ℕ → Left → End Globals
  flow_end flow out l = record { world = flow.globals; state = flow.state; output = out; left = l }

  -- With an output it is the end between pieces, with that in front.
  front : (flow : Flow) (out : List ℕ) → flow_end flow out through ≡ with_output_before out (end_between flow)
  front flow out = λ j. record { world = flow.globals; state = flow.state; output = (sym (append-nil out)) j; left = through }

  -- What a piece wrote stays in front of what follows it, which goes on between the pieces.
  after_front : (more later : End Globals → Finish Globals) → ((out : List ℕ) (e : End Globals) → more (with_output_before out e) ≡ finish_with_output_before out (more e)) → ((out : List ℕ) (e : End Globals) → later (with_output_before out e) ≡ finish_with_output_before out (later e)) →
      (flow : Flow) (out : List ℕ) (l : Left) → after more later l (flow_end flow out l) ≡ finish_with_output_before out (after more later l (end_between flow))
  after_front more later h k flow out through = ap more (front flow out) ∙ h out (end_between flow)
  after_front more later h k flow out next_file = ap later (front flow out) ∙ k out (end_between flow)
  after_front more later h k flow out (exit n) = ap (λ e. after_records calls u.code.expressions u.code u.budget (exit n) e) (front flow out) ∙ behind u.code.expressions u.code u.budget (exit n) out (end_between flow)
  after_front more later h k flow out (fault f) = ap (λ e. after_records calls u.code.expressions u.code u.budget (fault f) e) (front flow out) ∙ behind u.code.expressions u.code u.budget (fault f) out (end_between flow)
  after_front more later h k flow out clash = ap (λ e. after_records calls u.code.expressions u.code u.budget clash e) (front flow out) ∙ behind u.code.expressions u.code u.budget clash out (end_between flow)

  -- What would follow matters only where records were left through.
  after_more : (more other later : End Globals → Finish Globals) (l : Left) (e : End Globals) → (l ≡ through → more e ≡ other e) → after more later l e ≡ after other later l e
  after_more more other later through e h = h refl
  after_more more other later next_file e h = refl
  after_more more other later (exit n) e h = refl
  after_more more other later (fault f) e h = refl
  after_more more other later clash e h = refl

  -- A file goes on after a piece of it as it does from the flow that the piece leaves, with what the piece wrote in front.
  piece_goes_on : (name : List ℕ) (fnr : ℕ) (records more : List (List ℕ)) (ts : List Turn) (flow now : Flow) (x : PieceEnd) →
      records_from calls u.code.expressions u.code u.budget None (end_between flow) (file_items 0 name 0 fnr records) ≡ piece_end now x → (left_view x.left ≡ through → x.fnr ≡ fnr + length records) →
      rest_in_file calls u.code.expressions u.code u.budget (assigned u.code.scalars) u.last u.rs (end_between flow) name fnr (records ++ more) ts
      ≡ finish_with_output_before (in_a_row x.outputs.items)
      (after (λ y. rest_in_file calls u.code.expressions u.code u.budget (assigned u.code.scalars) u.last u.rs y name x.fnr more ts) (λ y. rest_over u.code u.budget u.rs u.last y ts) (left_view x.left) (end_between now))
  piece_goes_on name fnr records more ts flow now x ends counts =
      let make = assigned u.code.scalars in
      let out = in_a_row x.outputs.items in
      let next : End Globals → Finish Globals = λ y. rest_in_file calls u.code.expressions u.code u.budget make u.last u.rs y name (fnr + length records) more ts in
      let same : End Globals → Finish Globals = λ y. rest_in_file calls u.code.expressions u.code u.budget make u.last u.rs y name x.fnr more ts in
      let later : End Globals → Finish Globals = λ y. rest_over u.code u.budget u.rs u.last y ts in
      pieces make u.last u.code.expressions u.code u.budget u.rs (end_between flow) name fnr records more ts refl
      ∙ ap (λ (r : End Globals). after next later r.left r) ends
      ∙ after_front next later (λ o e. (rest_output make u.last u.code.expressions u.code u.budget u.rs e o ts).1 name (fnr + length records) more) (λ o e. (rest_output make u.last u.code.expressions u.code u.budget u.rs e o ts).0) now out (left_view x.left)
      ∙ ap (finish_with_output_before out) (after_more next same later (left_view x.left) (end_between now) (λ on. ap (λ n. rest_in_file calls u.code.expressions u.code u.budget make u.last u.rs (end_between now) name n more ts) (sym (counts on))))

  -- A piece that was read, run and written.
  pub piece_runs : (left now_left taken now_taken : Option (List ℕ)) (name : List ℕ) (old new : Stream) (fnr : ℕ) (a : Contents) (piece : Piece) (x : PieceEnd) →
      HaveCome left now_left old.window a → HoldsRecords a → HasEnded now_left a → a.rs ≡ u.rs →
      RunsPiece u.code u.budget piece old.flow new.flow x → piece.rs.now ≡ u.rs → piece.name.now ≡ name → piece.fnr ≡ fnr → piece.bytes.items ≡ a.whole →
      new.window.tail ≡ a.tail → new.window.ended ≡ a.ended → Appends taken now_taken (in_a_row x.outputs.items) →
      PieceFaultsLaw → FaultOutputLaw → ((p : Phase) → RecordsKeepLaw (PermitsFor p.code p.roles) calls) → IfSome old.roles (λ r. MayRun (phase_of u old.flow r)) → Tells (λ r. FaultsOrCreates (phase_of u old.flow r) (piece_items piece)) (λ r. ⊥) old.roles new.roles →
      RunsOn u left now_left taken now_taken name old fnr (left_view x.left) new x.fnr
  piece_runs left now_left taken now_taken name old new fnr a piece x come holds ends by_rs runs rs_is name_is fnr_is bytes_is tail_is ended_is appends faults fault_out keep may told =
      let make = assigned u.code.scalars in
      let records = records_by u.rs a.whole in
      let o = in_a_row x.outputs.items in
      let same_records : piece_records piece ≡ records = λ j. records_by (rs_is j) (bytes_is j) in
      let run : records_from calls u.code.expressions u.code u.budget None (end_between old.flow) (file_items 0 name 0 fnr records) ≡ piece_end new.flow x =
      (λ j. records_from calls u.code.expressions u.code u.budget None (end_between old.flow) (file_items 0 ((sym name_is) j) 0 ((sym fnr_is) j) ((sym same_records) j))) ∙ runs.ends in
      let counts : left_view x.left ≡ through → x.fnr ≡ fnr + length records = λ on. runs.counts on ∙ (λ j. fnr_is j + length (same_records j)) in
      let come_at : (more : List ℕ) → (new.window.ended ≡ true → more ≡ []) → records_by u.rs (old.window.tail ++ (come.read ++ more)) ≡ records ++ records_by u.rs (a.tail ++ more) =
      λ more nothing. subst (λ (r : List ℕ). records_by r (old.window.tail ++ (come.read ++ more)) ≡ records_by r a.whole ++ records_by r (a.tail ++ more)) by_rs
      (records_come a old.window.tail come.read more come.parts holds (λ e. (ends e).0) (λ e. nothing (ended_is ∙ e))) in
      let items_told : Tells (λ r. FaultsOrCreates (phase_of u old.flow r) (file_items 0 name 0 fnr records)) (λ r. ⊥) old.roles new.roles =
      subst (λ T. T) (λ j. Tells (λ r. FaultsOrCreates (phase_of u old.flow r) (file_items 0 (name_is j) 0 (fnr_is j) (same_records j))) (λ r. ⊥) old.roles new.roles) told in
      record {
        read = come.read;
        tells = λ more ts nothing.
            subst (λ (l : List (List ℕ)). Tells (λ r. FileFaultsOrCreates make (phase_of u old.flow r) u.rs (end_between old.flow) name fnr l ts) (left_faults u (left_view x.left) new.flow name x.fnr (new.window.tail ++ more) ts) old.roles new.roles) (sym (come_at more nothing))
            (subst (λ (t : List ℕ). Tells (λ r. FileFaultsOrCreates make (phase_of u old.flow r) u.rs (end_between old.flow) name fnr (records ++ records_by u.rs (a.tail ++ more)) ts) (left_faults u (left_view x.left) new.flow name x.fnr (t ++ more) ts) old.roles new.roles) (sym tail_is)
            (piece_tells u faults fault_out keep old.flow new.flow name fnr records x run counts old.roles new.roles may items_told (a.tail ++ more) ts));
        consumes = come.consumes;
        wrote = o;
        appends = appends;
        ended = λ e. let h = ends (sym ended_is ∙ e) in (tail_is ∙ h.0, h.1);
        is = λ more ts nothing.
            ap (λ l. rest_in_file calls u.code.expressions u.code u.budget make u.last u.rs (end_between old.flow) name fnr l ts) (come_at more nothing)
            ∙ piece_goes_on name fnr records (records_by u.rs (a.tail ++ more)) ts old.flow new.flow x run counts
            ∙ ap (λ t. finish_with_output_before o (as_left u (left_view x.left) new.flow name x.fnr (t ++ more) ts)) (sym tail_is);
      }

  -- A piece that was read and run, and written in part.
  pub piece_refuses : (left now_left taken now_taken : Option (List ℕ)) (name : List ℕ) (old new : Stream) (fnr : ℕ) (a : Contents) (piece : Piece) (x : PieceEnd) →
      HaveCome left now_left old.window a → HoldsRecords a → HasEnded now_left a → a.rs ≡ u.rs →
      RunsPiece u.code u.budget piece old.flow new.flow x → piece.rs.now ≡ u.rs → piece.name.now ≡ name → piece.fnr ≡ fnr → piece.bytes.items ≡ a.whole →
      new.window.tail ≡ a.tail → new.window.ended ≡ a.ended → WroteSome taken now_taken (in_a_row x.outputs.items) →
      PieceFaultsLaw → FaultOutputLaw → ((p : Phase) → RecordsKeepLaw (PermitsFor p.code p.roles) calls) → IfSome old.roles (λ r. MayRun (phase_of u old.flow r)) → Tells (λ r. FaultsOrCreates (phase_of u old.flow r) (piece_items piece)) (λ r. ⊥) old.roles new.roles →
      RefusesIn u left taken now_taken name old fnr
  unfolding piece_runs
  piece_refuses left now_left taken now_taken name old new fnr a piece x come holds ends by_rs runs rs_is name_is fnr_is bytes_is tail_is ended_is some faults fault_out keep may told =
      let o = in_a_row x.outputs.items in
      let all_taken = append_known taken o in
      refuses_written u left now_left taken now_taken all_taken name old fnr (left_view x.left) new x.fnr
      (piece_runs left now_left taken all_taken name old new fnr a piece x come holds ends by_rs runs rs_is name_is fnr_is bytes_is tail_is ended_is (appends_known taken o) faults fault_out keep may told) some

-- ---- pieces of a file, one after the other

-- A part of a file that was left through, before its end, and what follows it.
pub runs_then : (u : Course) (left mid_left now_left taken mid_taken now_taken : Option (List ℕ)) (name : List ℕ) (old : Stream) (fnr : ℕ) (mid : Stream) (mid_fnr : ℕ) (how : Left) (new : Stream) (now_fnr : ℕ) →
    RunsOn u left mid_left taken mid_taken name old fnr through mid mid_fnr → mid.window.ended ≡ false → RunsOn u mid_left now_left mid_taken now_taken name mid mid_fnr how new now_fnr →
    RunsOn u left now_left taken now_taken name old fnr how new now_fnr
runs_then u left mid_left now_left taken mid_taken now_taken name old fnr mid mid_fnr how new now_fnr first goes second = record {
  read = first.read ++ second.read;
  consumes = Consumes-trans left mid_left now_left first.read second.read first.consumes second.consumes;
  wrote = first.wrote ++ second.wrote;
  appends = Appends-trans taken mid_taken now_taken first.wrote second.wrote first.appends second.appends;
  tells = λ more ts nothing.
      subst (λ (l : List ℕ). Tells (bytes_fault u old.flow name fnr (old.window.tail ++ l) ts) (left_faults u how new.flow name now_fnr (new.window.tail ++ more) ts) old.roles new.roles) (sym (append_assoc first.read second.read more))
      (tells_then (bytes_fault u old.flow name fnr (old.window.tail ++ (first.read ++ (second.read ++ more))) ts) (bytes_fault u mid.flow name mid_fnr (mid.window.tail ++ (second.read ++ more)) ts) (left_faults u how new.flow name now_fnr (new.window.tail ++ more) ts) old.roles mid.roles new.roles
      (first.tells (second.read ++ more) ts (λ e. let bad : true ≡ false = sym e ∙ goes in absurd cc)) (second.tells more ts nothing));
  ended = second.ended;
  is = λ more ts nothing.
      ap (λ l. with_bytes u old.flow name fnr (old.window.tail ++ l) ts) (append_assoc first.read second.read more)
      ∙ first.is (second.read ++ more) ts (λ e. let bad : true ≡ false = sym e ∙ goes in absurd cc)
      ∙ ap (finish_with_output_before first.wrote) (second.is more ts nothing)
      ∙ both_front first.wrote second.wrote (as_left u how new.flow name now_fnr (new.window.tail ++ more) ts);
}

-- Nothing of a file.
pub runs_none : (u : Course) (left taken : Option (List ℕ)) (name : List ℕ) (s : Stream) (fnr : ℕ) → s.window.ended ≡ false → RunsOn u left left taken taken name s fnr through s fnr
runs_none u left taken name s fnr goes = record {
  read = [];
  consumes = Consumes-nil left;
  wrote = [];
  appends = Appends-nil taken;
  ended = λ e. let bad : true ≡ false = sym e ∙ goes in absurd cc;
  is = λ more ts nothing. refl;
  tells = λ more ts nothing. tells_same (bytes_fault u s.flow name fnr (s.window.tail ++ more) ts) s.roles;
}

-- What follows a refusal in the second part of a file, of which the first is written.
pub refuses_then : (u : Course) (left mid_left taken mid_taken now_taken : Option (List ℕ)) (name : List ℕ) (old : Stream) (fnr : ℕ) (mid : Stream) (mid_fnr : ℕ) →
    RunsOn u left mid_left taken mid_taken name old fnr through mid mid_fnr → mid.window.ended ≡ false → RefusesIn u mid_left mid_taken now_taken name mid mid_fnr →
    RefusesIn u left taken now_taken name old fnr
refuses_then u left mid_left taken mid_taken now_taken name old fnr mid mid_fnr first goes second = record {
  bytes = first.read ++ second.bytes;
  all = all_then left mid_left first.read second.bytes first.consumes second.all;
  wrote = λ ts. subst (λ (f : Finish Globals). WroteSome taken now_taken f.output) (sym (first.is second.bytes ts (λ e. let bad : true ≡ false = sym e ∙ goes in absurd cc)))
      (wrote_after taken mid_taken now_taken first.wrote _ first.appends (second.wrote ts));
}
  where
    -- What was read, and all that is left, are all.
    all_then : (left now : Option (List ℕ)) (read rest : List ℕ) → Consumes left now read → IfSome now (λ all. rest ≡ all) → IfSome left (λ all. read ++ rest ≡ all)
    all_then None now read rest h k = tt
    all_then (Some s) None read rest h k = absurd h
    all_then (Some s) (Some t) read rest h k = ap (λ l. read ++ l) k ∙ sym h

-- ---- a file

-- A file whose end has come goes on with the files after it.
end_of_file : (u : Course) (how : Left) (flow : Flow) (name : List ℕ) (fnr : ℕ) (bytes : List ℕ) (ts : List Turn) → (how ≡ through → bytes ≡ []) → as_left u how flow name fnr bytes ts ≡ file_left u how flow ts
end_of_file u through flow name fnr bytes ts none =
    ap (λ l. rest_in_file calls u.code.expressions u.code u.budget (assigned u.code.scalars) u.last u.rs (end_between flow) name fnr (records_by u.rs l) ts) (none refl)
    ∙ ap (λ l. rest_in_file calls u.code.expressions u.code u.budget (assigned u.code.scalars) u.last u.rs (end_between flow) name fnr l ts) (no_records u.rs)
end_of_file u next_file flow name fnr bytes ts none = refl
end_of_file u (exit n) flow name fnr bytes ts none = refl
end_of_file u (fault f) flow name fnr bytes ts none = refl
end_of_file u clash flow name fnr bytes ts none = refl

module _ {S : Type 0} (source_left : S → Option (List ℕ)) (u : Course) (feed : Feed S) (taken now_taken : Option (List ℕ)) (s : Stream) where
  -- All that was run of a file, to its end or to where it was left.
  pub file_runs : (now_left : Option (List ℕ)) (old : Stream) (how : Left) (new : Stream) (now_fnr : ℕ) →
      old.flow ≡ s.flow → old.roles ≡ s.roles → old.window.tail ≡ [] →
      RunsOn u (source_left feed.source) now_left taken now_taken feed.name.items old 0 how new now_fnr → (how ≡ through → new.window.ended ≡ true) →
      (file : File) × IsFileOf source_left feed file × RunsFile u taken now_taken file s how new
  file_runs now_left old how new now_fnr flow_is roles_is none run all =
      let rest = known now_left in
      let file : File = record { name = feed.name.items; bytes = run.read ++ rest } in
      let no_more : new.window.ended ≡ true → rest ≡ [] = λ e. known_end now_left (run.ended e).1 in (
        file,
        record { name = refl; bytes = read_all (source_left feed.source) now_left run.read run.consumes },
        record {
          wrote = run.wrote;
          appends = run.appends;
          tells = λ ts.
              tells_then (file_fault u s.flow file ts) (left_faults u how new.flow feed.name.items now_fnr (new.window.tail ++ rest) ts) (file_left_faults u how new.flow ts) s.roles new.roles new.roles
              (subst (λ T. T) (λ j. Tells (bytes_fault u (flow_is j) feed.name.items 0 (none j ++ (run.read ++ rest)) ts) (left_faults u how new.flow feed.name.items now_fnr (new.window.tail ++ rest) ts) (roles_is j) new.roles) (run.tells rest ts no_more))
              (tells_iff (left_faults u how new.flow feed.name.items now_fnr (new.window.tail ++ rest) ts) (file_left_faults u how new.flow ts) new.roles
              (end_faults u how new.flow feed.name.items now_fnr (new.window.tail ++ rest) ts (λ on. let e = all on in (λ j. (run.ended e).0 j ++ no_more e j))));
          is = λ ts.
              (λ j. with_bytes u ((sym flow_is) j) feed.name.items 0 ((sym none) j ++ (run.read ++ rest)) ts)
              ∙ run.is rest ts no_more
              ∙ ap (finish_with_output_before run.wrote)
              (end_of_file u how new.flow feed.name.items now_fnr (new.window.tail ++ rest) ts (λ on. let e = all on in (λ j. (run.ended e).0 j ++ no_more e j)));
        },
      )

  -- A refusal in a file.
  pub file_refuses : (old : Stream) → old.flow ≡ s.flow → old.window.tail ≡ [] → RefusesIn u (source_left feed.source) taken now_taken feed.name.items old 0 →
      (file : File) × IsFileOf source_left feed file × ((ts : List Turn) → WroteSome taken now_taken (with_file u s.flow file ts).output)
  file_refuses old flow_is none refuses = (
    record { name = feed.name.items; bytes = refuses.bytes },
    record { name = refl; bytes = refuses.all },
    λ ts. subst (λ (f : Finish Globals). WroteSome taken now_taken f.output)
        (λ j. with_bytes u (flow_is j) feed.name.items 0 (none j ++ refuses.bytes) ts)
        (refuses.wrote ts),
  )
