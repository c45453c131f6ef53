-- What was written where a table is refused.
use Rattle.std.proofs.Common.{◌≡◌, ℕ, ◌+◌, true, List, [], ◌∷◌, ◌++◌, length, take, drop, Option, None, Result, Ok, Err, IfErr, refl, ap, sym, ◌∙◌, subst, append_assoc, append-nil, take-append-drop}
use Rattle.std.proofs.KnownBytes.{Appends-nil, Appends-trans, Appends-kept}
use Rattle.std.specs.Io.KnownBytes.{Keeps}
use Rattle.pawk_code.specs.ProgramViews.{code_view}
use Rattle.pawk_input.specs.Input.{Item}
use Rattle.pawk_store.specs.Globals.{Globals, calls}
use Rattle.pawk_store.specs.Records.{Left, through, next_file, exit, fault, clash, End}
use Rattle.pawk_store.specs.Runs.{records_from}
use Rattle.pawk_store.specs.Outputs.{with_output_before, OutputIsAppendedLaw, in_a_row}
use Rattle.pawk_merge_law.specs.Phases.{Phase, MayRun, opening, in_order}
use Rattle.pawk_merge_law.specs.ChunkedRuns.{all_of}
use Rattle.pawk_merge_law.specs.Pieces.{Progress as Place, PiecesLaw, progress_after, if_open}
use Rattle.pawk_flow.specs.Flow.{Flow}
use Rattle.pawk_shards.specs.Apart.{HasCome}
use Rattle.pawk_par.specs.Streams.{WhyUnwritten}
use Rattle.pawk_par.specs.declared.refusal.StreamRefusal.{StreamRefusal}
use Rattle.pawk_par.specs.declared.refusal.StreamRefusal.TheVariants as refusal
use Rattle.pawk_admit.specs.Roles.{roles_view}
use Rattle.pawk_frozen.specs.Marks.{Table}
use Rattle.pawk_merge.specs.Tables.{all_take}
use Rattle.pawk_flow.specs.Pieces.{RunsPiece, piece_items}
use Rattle.pawk_flow.specs.Piece.{Piece}
use Rattle.pawk_flow.specs.PieceEnd.{PieceEnd}
use Rattle.pawk_shards.specs.Told.{Tell, kept_records}
use Rattle.pawk_tables.specs.Layout.{Section, part, kept}
use Rattle.pawk_tables.specs.Reading.{IsInFront, section}
use Rattle.pawk_tables.specs.declared.section.Shape.{Shape}
use Rattle.pawk_table_merge.specs.declared.section.Setting.{Setting}
use Rattle.pawk_table_merge.specs.declared.section.Progress.{Progress}
use Rattle.pawk_table_merge.specs.TableMerges.{end_at, IsBeginning, WroteSome}
use Rattle.pawk_table_merge.specs.Sections.{phase_of, JoinsPart, IsIn, MergesSome, RefusesSection, RefusesSections}
use Rattle.pawk_table_merge.proofs.PartLemmas.{PartLaws, chunk_first, part_comes}
use Rattle.pawk_table_merge.proofs.KeptLemmas.{all_end}
use Rattle.pawk_table_merge.proofs.KeptLemmas as kept_lemmas
use Rattle.pawk_table_merge.proofs.TableLemmas.{OneInFront, after_first}

-- What is so is so of a refusal.
pub if_err : {X E : Type 0} (r : Result X E) (C : Type 0) → C → IfErr r (λ _. C)
if_err (Ok x) C h = tt
if_err (Err e) C h = h

-- ---- beginnings

pub begins_then : (a b c : List ℕ) → IsBeginning a b → IsBeginning b c → IsBeginning a c
begins_then a b c h k = (h.0 ++ k.0, k.1 ∙ ap (λ l. l ++ k.0) h.1 ∙ append_assoc a h.0 k.0)

pub begins_itself : (a : List ℕ) → IsBeginning a a
begins_itself a = ([], sym (append-nil a))

-- after the same bytes
pub begins_after : (o a b : List ℕ) → IsBeginning a b → IsBeginning (o ++ a) (o ++ b)
begins_after o a b h = (h.0, ap (λ l. o ++ l) h.1 ∙ sym (append_assoc o a h.0))

-- ---- what was written

pub wrote_none : (old new : Option (List ℕ)) (output : List ℕ) → Keeps old new → WroteSome old new output
wrote_none old new output h = record { wrote = []; appends = Appends-kept old old new [] (Appends-nil old) h; is = (output, refl) }

-- An output that was not written to its end was written in part.
pub wrote_part : (output : List ℕ) (old new : Option (List ℕ)) (failures now : ℕ) (e : StreamRefusal) → WhyUnwritten output old new failures now e → WroteSome old new output
wrote_part output old new failures now refusal.Memory why = wrote_none old new output why.0
wrote_part output old new failures now refusal.Thread why = absurd why
wrote_part output old new failures now refusal.Cutting why = absurd why
wrote_part output old new failures now (refusal.Program r) why = absurd why
wrote_part output old new failures now (refusal.Settings r) why = absurd why
wrote_part output old new failures now refusal.Read why = absurd why
wrote_part output old new failures now (refusal.Write count) why =
    record { wrote = take count output; appends = why.1.1; is = (drop count output, sym (take-append-drop count output)) }
wrote_part output old new failures now refusal.Input why = absurd why

-- ---- what records write after others

-- the laws that these stand on
pub record Laws : Type 0 where
  pub pieces : PiecesLaw calls
  pub output : OutputIsAppendedLaw calls

module _ (law : Laws) (p : Phase) where
  -- from an end on
  appended : (skip : Option ℕ) (e : End Globals) (more : List Item) → IsBeginning e.output (records_from calls p.eres p.code p.budget skip e more).output
  appended skip e more =
      let bare : End Globals = record e { output = [] } in
      let same : with_output_before e.output bare ≡ e = ap (λ (o : List ℕ). record e { output = o }) (append-nil e.output) in
      let after = law.output p.eres p.code p.budget skip more e.output bare in (
        (records_from calls p.eres p.code p.budget skip bare more).output,
        ap (λ (f : End Globals). (records_from calls p.eres p.code p.budget skip f more).output) (sym same) ∙ ap (λ (f : End Globals). f.output) after,
      )

  -- from a place on, where it is left so
  resumed : (l : Left) (b : Place Globals) (more : List Item) → IsBeginning b.end.output (if_open l (records_from calls p.eres p.code p.budget b.skip b.end more) b.end).output
  resumed through b more = appended b.skip b.end more
  resumed next_file b more = appended b.skip b.end more
  resumed (exit n) b more = begins_itself b.end.output
  resumed (fault f) b more = begins_itself b.end.output
  resumed clash b more = begins_itself b.end.output

  -- What records write is a beginning of what they and others write.
  pub writes_more : (items more : List Item) → IsBeginning (in_order p items).output (in_order p (items ++ more)).output
  writes_more items more =
      let b = progress_after calls p.eres p.code p.budget None (opening p) items in
      let two = law.pieces p.eres p.code p.budget None (opening p) items more tt in
      subst (λ T. T) (λ j. IsBeginning ((sym two.0) j).output ((sym two.1) j).output) (resumed b.end.left b more)

  -- Where a run has come, what it wrote is a beginning of what all write.
  pub come_writes : (items more : List Item) (flow : Flow) (output : List ℕ) → HasCome p items (end_at flow output) → IsBeginning output (in_order p (items ++ more)).output
  come_writes items more flow output come =
      subst (λ (o : List ℕ). IsBeginning o (in_order p (items ++ more)).output) (sym (ap (λ (e : End Globals). e.output) come.ends)) (writes_more items more)

  -- The same, where nothing more was written.
  pub come_unwritten : (items more : List Item) (flow : Flow) (output : List ℕ) → HasCome p items (end_at flow output) → IsBeginning (output ++ []) (in_order p (items ++ more)).output
  come_unwritten items more flow output come = subst (λ (o : List ℕ). IsBeginning o (in_order p (items ++ more)).output) (sym (append-nil output)) (come_writes items more flow output come)

  -- A beginning of what the first of some chunks writes after this was written.
  pub chunk_written : (items c : List Item) (cs : List (List Item)) (output out some : List ℕ) → IsBeginning (output ++ out) (in_order p (items ++ c)).output → IsBeginning some out →
      IsBeginning (output ++ some) (in_order p (items ++ all_of (c ∷ cs))).output
  chunk_written items c cs output out some h k =
      let all : IsBeginning (in_order p (items ++ c)).output (in_order p (items ++ all_of (c ∷ cs))).output =
      subst (λ (is : List Item). IsBeginning (in_order p (items ++ c)).output (in_order p is).output) (sym (chunk_first items c cs)) (writes_more (items ++ c) (all_of cs)) in
      begins_then (output ++ some) (in_order p (items ++ c)).output (in_order p (items ++ all_of (c ∷ cs))).output
      (begins_then (output ++ some) (output ++ out) (in_order p (items ++ c)).output (begins_after output some out k) h) all

-- ---- sections

-- A section was refused before anything of it was written.
pub section_unwritten : Laws → (s : Setting) (t : Section) (taken now_taken : Option (List ℕ)) (old : Progress) → Keeps taken now_taken → RefusesSection s t taken now_taken old
section_unwritten law s t taken now_taken old keeps = record {
  wrote = [];
  appends = Appends-kept taken taken now_taken [] (Appends-nil taken) keeps;
  is = λ b may items output is_in ss chunks told. come_unwritten law (phase_of s b) items (all_of chunks) old.flow output is_in.come;
}

-- A part that was joined was written in part.
pub part_refused : Laws → PartLaws → (s : Setting) (taken now_taken : Option (List ℕ)) (old : Progress) (new : Flow) (count : ℕ) (out : List ℕ) (table : Table) →
    all_take table old.flow.globals ≡ true → JoinsPart count table old.flow new → WroteSome taken now_taken out → RefusesSection s (part count out table) taken now_taken old
part_refused law parts s taken now_taken old new count out table takes joins some = record {
  wrote = some.wrote;
  appends = some.appends;
  is = λ b may items output is_in ss chunks told. writes b may items output is_in ss chunks told;
}
  where
    writes : (b : End Globals) → MayRun (phase_of s b) → (items : List Item) (output : List ℕ) → IsIn (phase_of s b) items output old → (ss : List Section) (chunks : List (List Item)) →
        Tell (phase_of s b) s.rs.now ((phase_of s b).state.nr + length items) old.name.now (part count out table ∷ ss) chunks →
        IsBeginning (output ++ some.wrote) (in_order (phase_of s b) (items ++ all_of chunks)).output
    writes b may items output is_in ss [] told = absurd told
    writes b may items output is_in ss (c ∷ cs) told =
        let p = phase_of s b in
        let come = part_comes p may parts items output old.flow is_in.come c count out table told.0 new takes joins in
        let all : (in_order p (items ++ c)).output ≡ output ++ out ++ [] = sym (ap (λ (e : End Globals). e.output) come.ends) ∙ sym (append-nil (output ++ out)) in
        chunk_written law p items c cs output out some.wrote ([], all) some.is

-- Records that were run here were written in part.
pub kept_refused : Laws → kept_lemmas.Laws → (s : Setting) (taken now_taken : Option (List ℕ)) (old : Progress) (new : Flow) (fnr : ℕ) (bytes : List ℕ) (piece : Piece) (x : PieceEnd) →
    RunsPiece (code_view s.job.code.now) s.job.budget piece old.flow new x → piece.rs.now ≡ s.rs.now → piece.name.now ≡ old.name.now → piece.fnr ≡ fnr → piece.bytes.items ≡ bytes →
    WroteSome taken now_taken (in_a_row x.outputs.items) → RefusesSection s (kept fnr bytes) taken now_taken old
kept_refused law laws s taken now_taken old new fnr bytes piece x runs rs_is name_is fnr_is bytes_is some = record {
  wrote = some.wrote;
  appends = some.appends;
  is = λ b may items output is_in ss chunks told. writes b may items output is_in ss chunks told;
}
  where
    writes : (b : End Globals) → MayRun (phase_of s b) → (items : List Item) (output : List ℕ) → IsIn (phase_of s b) items output old → (ss : List Section) (chunks : List (List Item)) →
        Tell (phase_of s b) s.rs.now ((phase_of s b).state.nr + length items) old.name.now (kept fnr bytes ∷ ss) chunks →
        IsBeginning (output ++ some.wrote) (in_order (phase_of s b) (items ++ all_of chunks)).output
    writes b may items output is_in ss [] told = absurd told
    writes b may items output is_in ss (c ∷ cs) told =
        let p = phase_of s b in
        let out = in_a_row x.outputs.items in
        let same : piece_items piece ≡ kept_records s.rs.now old.name.now fnr bytes = λ j. kept_records (rs_is j) (name_is j) (fnr_is j) (bytes_is j) in
        let ends = all_end laws (code_view s.job.code.now) (roles_view s.roles.now) s.job.budget b may items output old.flow new is_in.come piece x runs c told.0 (same ∙ told.1) in
        let all : (in_order p (items ++ c)).output ≡ output ++ out ++ [] = ap (λ (e : End Globals). e.output) ends ∙ sym (append-nil (output ++ out)) in
        chunk_written law p items c cs output out some.wrote ([], all) some.is

-- ---- tables

-- A table was refused before its first section.
pub table_unwritten : Laws → (s : Setting) (shape : Shape) (bytes : List ℕ) (taken : Option (List ℕ)) (old : Flow) → RefusesSections s shape bytes taken taken old
table_unwritten law s shape bytes taken old = record {
  wrote = [];
  appends = Appends-nil taken;
  is = λ b may items output at sections count turn chunks told. come_unwritten law (phase_of s b) items (all_of chunks) old output at.come;
}

module _ (law : Laws) (s : Setting) (shape : Shape) (bytes rest : List ℕ) (taken mid_taken : Option (List ℕ)) (old : Flow) (x : Progress) (so_far : MergesSome s shape bytes rest taken mid_taken old x) where
  -- It was refused after some sections.
  pub sections_refused : RefusesSections s shape bytes taken mid_taken old
  sections_refused = record {
    wrote = so_far.wrote;
    appends = so_far.appends;
    is = λ b may items output at sections count turn chunks told.
        let p = phase_of s b in
        let goes = (so_far.is b may items output at sections count turn chunks told).goes in
        subst (λ (is : List Item). IsBeginning (output ++ so_far.wrote) (in_order p is).output) (sym goes.parts)
        (come_writes law p goes.done (all_of goes.more) x.flow (output ++ so_far.wrote) goes.is_in.come);
  }

  -- It was refused in a section.
  pub section_refused : OneInFront → (now_taken : Option (List ℕ)) (t : Section) (after : List ℕ) → IsInFront shape.scalars shape.arrays rest (section t) after → RefusesSection s t mid_taken now_taken x →
      RefusesSections s shape bytes taken now_taken old
  section_refused one now_taken t after here refuses = record {
    wrote = so_far.wrote ++ refuses.wrote;
    appends = Appends-trans taken mid_taken now_taken so_far.wrote refuses.wrote so_far.appends refuses.appends;
    is = λ b may items output at sections count turn chunks told.
        let p = phase_of s b in
        let r = so_far.is b may items output at sections count turn chunks told in
        let goes = r.goes in
        let first = after_first one shape.scalars shape.arrays rest t after r.sections count here r.in_turn in
        let told_first = subst (λ (l : List Section). Tell p s.rs.now (p.state.nr + length goes.done) x.name.now l goes.more) first.are goes.told in
        let h : IsBeginning (output ++ so_far.wrote ++ refuses.wrote) (in_order p (goes.done ++ all_of goes.more)).output = refuses.is b may goes.done (output ++ so_far.wrote) goes.is_in first.others goes.more told_first in
        subst (λ T. T) (λ j. IsBeginning (append_assoc output so_far.wrote refuses.wrote j) (in_order p ((sym goes.parts) j)).output) h;
  }
