-- Windows one after the other.
use Rattle.std.proofs.Common.{◌≡◌, ℕ, Bool, true, false, if◌then◌else◌, List, [], ◌∷◌, ◌++◌, Option, None, Result, Ok, Err, refl, ap, sym, ◌∙◌, subst, append_assoc}
use Rattle.std.specs.Prelude.{flat_map, MatchResult}
use Rattle.std.proofs.lemmas.List.{append-nil}
use Rattle.pawk_input.specs.Input.{Item}
use Rattle.pawk_store.specs.Globals.{Globals, calls}
use Rattle.pawk_store.specs.Records.{Left, through, next_file, exit, fault, clash, End}
use Rattle.pawk_store.specs.Outputs.{with_output_before, OutputIsAppendedLaw}
use Rattle.pawk_store.specs.Runs.{records_from}
use Rattle.pawk_merge.specs.Tables.{all_take}
use Rattle.pawk_merge.specs.Merges.{Chunk, Stop, at_cell, with_chunk, after_leaving, merge}
use Rattle.pawk_merge_law.specs.Phases.{Phase, opening, in_order, FaultsOrCreates}
use Rattle.pawk_merge_law.specs.ChunkedRuns.{all_of, ChunksLaw}
use Rattle.pawk_merge_law.specs.Pieces.{Progress, IsOpen, if_open, progress_after, resume}
use Rattle.pawk_merge_law.specs.Windows.{phase_at, Window, in_chunks, in_turn, records_in, IsMerged, RunsTo, without_output, WhereOpen, RunsInWindows}
use Rattle.pawk_merge_law.proofs.PiecesLemmas.{open_is, closed_is, same, skips_none, pieces}

-- ---- a merge does not leave the rest of a file unread

abbrev NotNext : Result (End Globals) Stop → Type 0
NotNext (Ok e) = e.left ≡ next_file → ⊥
NotNext (Err s) = Unit {0}

pick_next : (b : Bool) (r : Result (End Globals) Stop) (s : Stop) → NotNext r → NotNext (if b then r else Err s)
pick_next true r s h = h
pick_next false r s h = tt

never_next_after : (l : Left) (go : End Globals → Result (End Globals) Stop) (e : End Globals) → e.left ≡ l → ((e.left ≡ next_file → ⊥) → NotNext (go e)) → NotNext (after_leaving l go e)
never_next_after through go e on h = h (λ k. let bad : through ≡ next_file = sym on ∙ k in absurd cc)
never_next_after next_file go e on h = tt
never_next_after (exit n) go e on h = λ k. let bad : exit n ≡ next_file = sym on ∙ k in absurd cc
never_next_after (fault f) go e on h = tt
never_next_after clash go e on h = tt

never_next : (results : List Chunk) (e : End Globals) → (e.left ≡ next_file → ⊥) → NotNext (merge results e)
never_next [] e h = h
never_next (c ∷ cs) e h =
    pick_next (all_take c.table e.world) (after_leaving c.left (λ x. merge cs x) (with_chunk c e)) at_cell
    (never_next_after c.left (λ x. merge cs x) (with_chunk c e) refl (λ k. never_next cs (with_chunk c e) k))

-- ---- one window

by_left : {X : Type 0} (l : Left) (x y z : X) → (l ≡ through → x ≡ y) → (l ≡ next_file → ⊥) → if_open l x z ≡ if_open l y z
by_left through x y z h k = h refl
by_left next_file x y z h k = absurd (k refl)
by_left (exit n) x y z h k = refl
by_left (fault f) x y z h k = refl
by_left clash x y z h k = refl

module _ (p : Phase) where
  abbrev records : Option ℕ → End Globals → List Item → End Globals
  records skip e items = records_from calls p.eres p.code p.budget skip e items

  abbrev progress : Option ℕ → End Globals → List Item → Progress Globals
  progress skip e items = progress_after calls p.eres p.code p.budget skip e items

  abbrev resume_with : List Item → Progress Globals → End Globals
  resume_with more b = resume calls p.eres p.code p.budget b more

  -- two places from which a run goes on alike
  go_alike : (more : List Item) (t b : Progress Globals) → t.end ≡ b.end → (b.end.left ≡ through → t.skip ≡ b.skip) → (b.end.left ≡ next_file → ⊥) → resume_with more t ≡ resume_with more b
  go_alike more t b ends skips never =
      ap (λ (x : End Globals). if_open x.left (records t.skip x more) x) ends
      ∙ by_left b.end.left (records t.skip b.end more) (records b.skip b.end more) b.end (λ k. ap (λ s. records s b.end more) (skips k)) never

  ends_so : (items : List Item) (r : Result (End Globals) Stop) (q : Phase) (e : End Globals) → MatchResult r (λ e. (in_order q items ≡ e) × ¬ FaultsOrCreates q items) (λ stop. FaultsOrCreates q items) → r ≡ Ok e → in_order q items ≡ e
  ends_so items r q e h k =
      let P : Result (End Globals) Stop → Type 0 = λ r. MatchResult r (λ e. (in_order q items ≡ e) × ¬ FaultsOrCreates q items) (λ stop. FaultsOrCreates q items) in
      (subst P k h).0

  merges_to : ChunksLaw → (a : Progress Globals) (chunks : List (List Item)) (results : List Chunk) (b : Progress Globals) (more : List Item) → IsMerged p a chunks results b → records a.skip a.end (all_of chunks ++ more) ≡ resume_with more b
  merges_to law a chunks results b more m =
      let q = phase_at p a.end in
      let start = opening q in
      let t = progress None start (all_of chunks) in
      let whole : in_order q (all_of chunks) ≡ b.end = ends_so (all_of chunks) (merge results start) q b.end (law q m.may_run chunks results m.each m.runs) m.merges in
      let ends : t.end ≡ b.end = sym (same calls p.eres p.code p.budget (all_of chunks) None start) ∙ whole in
      let never : b.end.left ≡ next_file → ⊥ = subst NotNext m.merges (never_next results start (λ k. let bad : through ≡ next_file = k in absurd cc)) in
      let opens : a.end ≡ start = λ j. record { world = a.end.world; state = a.end.state; output = a.end.output; left = m.left j } in
      ap (λ s. records s a.end (all_of chunks ++ more)) m.skip
      ∙ ap (λ e. records None e (all_of chunks ++ more)) opens
      ∙ pieces calls p.eres p.code p.budget more (all_of chunks) None start tt
      ∙ go_alike more t b ends
      (λ k. skips_none calls p.eres p.code p.budget (all_of chunks) None start (λ _. refl) (ap (λ (e : End Globals). e.left) ends ∙ k) ∙ sym m.skip_after)
      never

  pub runs_to : ChunksLaw → (a : Progress Globals) (w : Window) (b : Progress Globals) (more : List Item) → IsOpen a.end.left → RunsTo p a w b → records a.skip a.end (records_in w ++ more) ≡ resume_with more b
  runs_to law a (in_chunks chunks results) b more is_open m = merges_to law a chunks results b more m
  runs_to law a (in_turn items) b more is_open h =
      pieces calls p.eres p.code p.budget more items a.skip a.end is_open ∙ ap (λ t. resume_with more t) h

  -- ---- all windows

  -- what is written stands in front of what follows
  pub output_stands : OutputIsAppendedLaw calls → (m : Progress Globals) (more : List Item) → records m.skip m.end more ≡ with_output_before m.end.output (records m.skip (without_output m).end more)
  output_stands law m more =
      let e = (without_output m).end in
      let whole : m.end ≡ with_output_before m.end.output e = λ j. record { world = m.end.world; state = m.end.state; output = sym (append-nil m.end.output) j; left = m.end.left } in
      ap (λ x. records m.skip x more) whole ∙ law p.eres p.code p.budget m.skip more m.end.output e

  pub twice : (out rest : List ℕ) (e : End Globals) → with_output_before out (with_output_before rest e) ≡ with_output_before (out ++ rest) e
  twice out rest e = λ j. record { world = e.world; state = e.state; output = sym (append_assoc out rest e.output) j; left = e.left }

  module _ (law : ChunksLaw) (appended : OutputIsAppendedLaw calls) (b : Progress Globals) (more : List Item) where
    abbrev Ends : Progress Globals → List Window → List ℕ → Type 0
    Ends a ws out = records a.skip a.end (flat_map records_in ws ++ more) ≡ with_output_before out (resume_with more b)

    -- the run ended in the last window
    ends_here : (m : Progress Globals) (out : List ℕ) (l : Left) → m.end.left ≡ l → (IsOpen l → ⊥) → (out ≡ m.end.output) → without_output m ≡ b → m.end ≡ with_output_before out (resume_with more b)
    ends_here m out l is closed writes there =
        let e = (without_output m).end in
        (λ j. record { world = m.end.world; state = m.end.state; output = (sym writes ∙ sym (append-nil out)) j; left = m.end.left })
        ∙ ap (λ x. with_output_before out x) (subst (λ k. e ≡ if_open k (records m.skip e more) e) (sym is) (closed_is l closed (records m.skip e more) e))
        ∙ ap (λ t. with_output_before out (resume_with more t)) there

    -- the run goes on after a window
    goes_on : (ws : List Window) (out : List ℕ) (m : Progress Globals) → IsOpen m.end.left
        → ((rest : List ℕ) → IsOpen m.end.left → RunsInWindows p (without_output m) ws rest b → Ends (without_output m) ws rest)
        → ((rest : List ℕ) × (out ≡ m.end.output ++ rest) × RunsInWindows p (without_output m) ws rest b)
        → records m.skip m.end (flat_map records_in ws ++ more) ≡ with_output_before out (resume_with more b)
    goes_on ws out m is_open next h =
        output_stands appended m (flat_map records_in ws ++ more)
        ∙ ap (λ x. with_output_before m.end.output x) (next h.0 is_open h.2)
        ∙ twice m.end.output h.0 (resume_with more b)
        ∙ ap (λ o. with_output_before o (resume_with more b)) (sym h.1)

    -- how windows go on after one that was left so
    goes : (ws : List Window) (out : List ℕ) (m : Progress Globals) (l : Left) → m.end.left ≡ l
        → ((rest : List ℕ) → IsOpen m.end.left → RunsInWindows p (without_output m) ws rest b → Ends (without_output m) ws rest)
        → WhereOpen l ((rest : List ℕ) × (out ≡ m.end.output ++ rest) × RunsInWindows p (without_output m) ws rest b) ((out ≡ m.end.output) × (without_output m ≡ b))
        → if_open l (records m.skip m.end (flat_map records_in ws ++ more)) m.end ≡ with_output_before out (resume_with more b)
    goes ws out m through is next h = goes_on ws out m (subst IsOpen (sym is) tt) next h
    goes ws out m next_file is next h = goes_on ws out m (subst IsOpen (sym is) tt) next h
    goes ws out m (exit n) is next h = ends_here m out (exit n) is (λ k. k) h.0 h.1
    goes ws out m (fault f) is next h = ends_here m out (fault f) is (λ k. k) h.0 h.1
    goes ws out m clash is next h = ends_here m out clash is (λ k. k) h.0 h.1

    pub follow : (ws : List Window) (a : Progress Globals) (out : List ℕ) → IsOpen a.end.left → RunsInWindows p a ws out b → Ends a ws out
    follow [] a out is_open h =
        open_is a.end.left is_open (records a.skip a.end more) a.end
        ∙ ap (λ t. resume_with more t) h.1
        ∙ ap (λ o. with_output_before o (resume_with more b)) (sym h.0)
    follow (w ∷ ws) a out is_open h =
        let m = h.0 in
        let rest = flat_map records_in ws ++ more in
        ap (λ is. records a.skip a.end is) (append_assoc (records_in w) (flat_map records_in ws) more)
        ∙ runs_to law a w m rest is_open h.1
        ∙ goes ws out m m.end.left refl (λ o is_open k. follow ws (without_output m) o is_open k) h.2

-- ---- one window more

module _ (p : Phase) (w : Window) (b m : Progress Globals) (step : RunsTo p b w m) where
  last_only : (l : Left) (out : List ℕ) → out ≡ m.end.output → WhereOpen l ((rest : List ℕ) × (out ≡ m.end.output ++ rest) × RunsInWindows p (without_output m) [] rest (without_output m)) ((out ≡ m.end.output) × (without_output m ≡ without_output m))
  last_only through out h = ([], h ∙ sym (append-nil m.end.output), (refl, refl))
  last_only next_file out h = ([], h ∙ sym (append-nil m.end.output), (refl, refl))
  last_only (exit n) out h = (h, refl)
  last_only (fault f) out h = (h, refl)
  last_only clash out h = (h, refl)

  one_last : (a : Progress Globals) (out : List ℕ) → a ≡ b → out ≡ m.end.output → RunsInWindows p a (w ∷ []) out (without_output m)
  one_last a out is writes = (m, subst (λ x. RunsTo p x w m) (sym is) step, last_only m.end.left out writes)

  module _ (ws : List Window) (n : Progress Globals) (out : List ℕ) where
    abbrev Next : List ℕ → Type 0
    Next rest = RunsInWindows p (without_output n) (ws ++ w ∷ []) (rest ++ m.end.output) (without_output m)

    one_more_after : (l : Left) → n.end.left ≡ l → IsOpen b.end.left
        → ((rest : List ℕ) → RunsInWindows p (without_output n) ws rest b → Next rest)
        → WhereOpen l ((rest : List ℕ) × (out ≡ n.end.output ++ rest) × RunsInWindows p (without_output n) ws rest b) ((out ≡ n.end.output) × (without_output n ≡ b))
        → WhereOpen l ((rest : List ℕ) × ((out ++ m.end.output) ≡ n.end.output ++ rest) × RunsInWindows p (without_output n) (ws ++ w ∷ []) rest (without_output m)) (((out ++ m.end.output) ≡ n.end.output) × (without_output n ≡ without_output m))
    one_more_after through is goes next h = (h.0 ++ m.end.output, ap (λ o. o ++ m.end.output) h.1 ∙ append_assoc n.end.output h.0 m.end.output, next h.0 h.2)
    one_more_after next_file is goes next h = (h.0 ++ m.end.output, ap (λ o. o ++ m.end.output) h.1 ∙ append_assoc n.end.output h.0 m.end.output, next h.0 h.2)
    one_more_after (exit k) is goes next h = absurd (subst IsOpen (ap (λ (x : Progress Globals). x.end.left) (sym h.1) ∙ is) goes)
    one_more_after (fault f) is goes next h = absurd (subst IsOpen (ap (λ (x : Progress Globals). x.end.left) (sym h.1) ∙ is) goes)
    one_more_after clash is goes next h = absurd (subst IsOpen (ap (λ (x : Progress Globals). x.end.left) (sym h.1) ∙ is) goes)

  pub one_more : (ws : List Window) (a : Progress Globals) (out : List ℕ) → RunsInWindows p a ws out b → IsOpen b.end.left → RunsInWindows p a (ws ++ w ∷ []) (out ++ m.end.output) (without_output m)
  one_more [] a out h goes = one_last a (out ++ m.end.output) h.1 (ap (λ o. o ++ m.end.output) h.0)
  one_more (v ∷ ws) a out h goes = (h.0, h.1, one_more_after ws h.0 out h.0.end.left refl goes (λ rest k. one_more ws (without_output h.0) rest k goes) h.2)
