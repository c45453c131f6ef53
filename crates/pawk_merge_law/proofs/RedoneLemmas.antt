-- Which records of files fault or create an element, file by file and piece by piece.
use Rattle.std.proofs.Common.{◌≡◌, ℕ, ◌+◌, List, [], ◌∷◌, ◌++◌, length, None, refl, ap, sym, ◌∙◌, subst, inl, inr, ⊎_elim, arith}
use Rattle.std.specs.Prelude.{◌⊎◌, ◌↔◌, map}
use Rattle.pawk_records.specs.Records.{records_by}
use Rattle.pawk_input.specs.Input.{File, Item, file_items, items_from}
use Rattle.pawk_input.proofs.PlanLemmas.{file_items-append}
use Rattle.pawk_store.specs.Globals.{Globals, calls}
use Rattle.pawk_store.specs.Records.{Left, through, next_file, exit, fault, clash, End}
use Rattle.pawk_store.specs.Runs.{records_from}
use Rattle.pawk_store.specs.Outputs.{with_output_before, OutputIsAppendedLaw}
use Rattle.pawk_store.specs.Steady.{onward, RecordsFollowLaw}
use Rattle.pawk_commute.specs.Traces.{Traced, traced}
use Rattle.pawk_commute.specs.TracedRuns.{plain, TracedLaw, TraceIsAppendedLaw}
use Rattle.pawk_commute.specs.Settings.{PermitsFor}
use Rattle.pawk_commute.proofs.OrderLemmas.{store_final}
use Rattle.pawk_merge_law.specs.Phases.{Phase, opening, in_order, traced_opening, in_order_traced, IsFault, CreatesElement, FaultsOrCreates}
use Rattle.pawk_merge_law.proofs.OpeningLemmas.{steady}
use Rattle.pawk_merge_law.specs.Windows.{phase_at}
use Rattle.pawk_merge_law.specs.Flows.{Pairs, Turn, plain_turn, after_assignments, KeepsWithout}
use Rattle.pawk_merge_law.specs.Redone.{PieceFaultsOr, TurnsFaultOrCreate, FileFaultsOrCreates, IsAllowed}
use Rattle.pawk_merge_law.proofs.FlowLemmas.{unassigned, alike}
use Rattle.pawk_merge_law.proofs.PartingLemmas.{parting}

-- Types that are equal are equivalent.
same_iff : {A B : Type 0} → A ≡ B → A ↔ B
same_iff e = (λ a. subst (λ T. T) e a, λ b. subst (λ T. T) (sym e) b)

-- Equivalences follow one another.
then_iff : {A B C : Type 0} → A ↔ B → B ↔ C → A ↔ C
then_iff h k = (λ a. k.0 (h.0 a), λ c. h.1 (k.1 c))

-- Records are left through or not.
through_or_not : (l : Left) → (l ≡ through) ⊎ (l ≡ through → ⊥)
through_or_not through = inl refl
through_or_not next_file = inr (λ h. let bad : next_file ≡ through = h in absurd cc)
through_or_not (exit n) = inr (λ h. let bad : exit n ≡ through = h in absurd cc)
through_or_not (fault f) = inr (λ h. let bad : fault f ≡ through = h in absurd cc)
through_or_not clash = inr (λ h. let bad : clash ≡ through = h in absurd cc)

-- Where records are not left through, nothing follows them.
onward_not : (go : End Traced → End Traced) (l : Left) (x : End Traced) → (l ≡ through → ⊥) → onward go l x ≡ x
onward_not go through x off = absurd (off refl)
onward_not go next_file x off = refl
onward_not go (exit n) x off = refl
onward_not go (fault f) x off = refl
onward_not go clash x off = refl

-- A phase's records end in a fault or create an element; or M holds of their end, where they were left through.
abbrev Piece : Phase → (End Globals → Type 0) → List Item → Type 0
Piece q M items = FaultsOrCreates q items ⊎ (((in_order q items).left ≡ through) × M (in_order q items))

module _ (q : Phase) where
  -- Records that end alike fault or create alike.
  same_bad : (items others : List Item) → in_order q items ≡ in_order q others → in_order_traced q items ≡ in_order_traced q others → FaultsOrCreates q items ≡ FaultsOrCreates q others
  same_bad items others h k = λ j. IsFault ((h j).left) ⊎ CreatesElement q.roles ((k j).world.trace)

  -- So do they, with what follows them.
  same_piece : (M : End Globals → Type 0) (items others : List Item) → in_order q items ≡ in_order q others → in_order_traced q items ≡ in_order_traced q others → Piece q M items ≡ Piece q M others
  same_piece M items others h k = λ j. (IsFault ((h j).left) ⊎ CreatesElement q.roles ((k j).world.trace)) ⊎ (((h j).left ≡ through) × M (h j))

  -- No record does neither.
  none_bad : FaultsOrCreates q [] → ⊥
  none_bad h = ⊎_elim (λ k. k) (λ k. absurd (omega (arith, k.3.1))) h

  module _ (file there : ℕ) (name : List ℕ) (nr nr' fnr : ℕ) (rs : List (List ℕ)) where
    -- Records of a file end alike, whatever their numbers.
    plain_alike : in_order q (file_items file name nr fnr rs) ≡ in_order q (file_items there name nr' fnr rs)
    plain_alike = alike calls q.eres q.code q.budget file there name nr nr' fnr rs (opening q)

    -- They do so with a trace.
    traced_alike : in_order_traced q (file_items file name nr fnr rs) ≡ in_order_traced q (file_items there name nr' fnr rs)
    traced_alike = alike (traced calls) q.eres q.code q.budget file there name nr nr' fnr rs (traced_opening q)

    -- They fault or create alike.
    pub bad_alike : FaultsOrCreates q (file_items file name nr fnr rs) ≡ FaultsOrCreates q (file_items there name nr' fnr rs)
    bad_alike = same_bad (file_items file name nr fnr rs) (file_items there name nr' fnr rs) plain_alike traced_alike

    -- They do so with what follows them.
    piece_alike : (M : End Globals → Type 0) → Piece q M (file_items file name nr fnr rs) ≡ Piece q M (file_items there name nr' fnr rs)
    piece_alike M = same_piece M (file_items file name nr fnr rs) (file_items there name nr' fnr rs) plain_alike traced_alike

-- The numbers of records do not matter.
pub fault_numbers : (p : Phase) (file : ℕ) (name : List ℕ) (nr fnr : ℕ) (records : List (List ℕ)) → FaultsOrCreates p (file_items file name nr fnr records) ↔ FaultsOrCreates p (file_items 0 name 0 fnr records)
fault_numbers p file name nr fnr records = same_iff (bad_alike p file 0 name nr 0 fnr records)

-- ---- what was written before

module _ (make : Pairs → Globals → Globals) (p : Phase) (rs : List ℕ) (appended : OutputIsAppendedLaw calls) (appended_traced : OutputIsAppendedLaw (traced calls)) (out : List ℕ) where
  module _ (e : End Globals) (items : List Item) where
    abbrev with_more : Phase
    with_more = phase_at p (with_output_before out e)

    abbrev without : Phase
    without = phase_at p e

    -- What was written before stays in front of what records write.
    more_plain : in_order with_more items ≡ with_output_before out (in_order without items)
    more_plain = appended p.eres p.code p.budget None items out (opening without)

    -- It does so where they keep a trace.
    more_traced : in_order_traced with_more items ≡ with_output_before out (in_order_traced without items)
    more_traced = appended_traced p.eres p.code p.budget None items out (traced_opening without)

    -- They fault or create alike with it and without.
    more_bad : FaultsOrCreates with_more items ≡ FaultsOrCreates without items
    more_bad = λ j. IsFault ((more_plain j).left) ⊎ CreatesElement p.roles ((more_traced j).world.trace)

    -- They are left alike.
    more_left : (in_order with_more items).left ≡ (in_order without items).left
    more_left = ap (λ (x : End Globals). x.left) more_plain

    -- So is it with what follows them, which does not look at it.
    more_piece : (M : End Globals → Type 0) → ((x : End Globals) → M (with_output_before out x) ↔ M x) → Piece with_more M items ↔ Piece without M items
    more_piece M h = (
      λ k. ⊎_elim (λ b. inl (subst (λ T. T) more_bad b)) (λ b. inr (sym more_left ∙ b.0, (h (in_order without items)).0 (subst M more_plain b.1))) k,
      λ k. ⊎_elim (λ b. inl (subst (λ T. T) (sym more_bad) b)) (λ b. inr (more_left ∙ b.0, subst M (sym more_plain) ((h (in_order without items)).1 b.1))) k,
    )

  -- What was written before files does not matter, whatever is assigned between them.
  pub turns_output : (ts : List Turn) (e : End Globals) → TurnsFaultOrCreate make p rs (with_output_before out e) ts ↔ TurnsFaultOrCreate make p rs e ts
  turns_output [] e = (λ k. k, λ k. k)
  turns_output (t ∷ ts) e = more_piece (after_assignments make t.before e) (file_items 0 t.file.name 0 0 (records_by rs t.file.bytes)) (λ x. TurnsFaultOrCreate make p rs x ts) (λ x. turns_output ts x)

  -- What was written before does not matter inside a file.
  pub file_output : (ts : List Turn) (e : End Globals) (name : List ℕ) (fnr : ℕ) (records : List (List ℕ)) → FileFaultsOrCreates make p rs (with_output_before out e) name fnr records ts ↔ FileFaultsOrCreates make p rs e name fnr records ts
  file_output ts e name fnr records = more_piece e (file_items 0 name 0 fnr records) (λ x. TurnsFaultOrCreate make p rs x ts) (λ x. turns_output ts x)

-- ---- records in two parts

-- The laws that these stand on.
pub record Laws : Type 0 where
  pub traces : TracedLaw
  pub longer : TraceIsAppendedLaw
  pub follow : (p : Phase) → RecordsFollowLaw (PermitsFor p.code p.roles) (traced calls)

module _ (law : Laws) where
  module _ (q : Phase) (may : IsAllowed q) (items more : List Item) where
    abbrev x : End Globals
    x = in_order q items

    abbrev y : End Traced
    y = in_order_traced q items

    abbrev go : End Traced → End Traced
    go e = records_from (traced calls) q.eres q.code q.budget None e more

    -- The records with a trace are those without.
    plain_is : (is : List Item) → plain (in_order_traced q is) ≡ in_order q is
    plain_is is = law.traces q.eres q.code q.budget None is (traced_opening q)

    -- Both are left alike.
    left_is : y.left ≡ x.left
    left_is = ap (λ (e : End Globals). e.left) (plain_is items)

    -- The second part follows where the first is not left.
    traced_both : in_order_traced q (items ++ more) ≡ onward go y.left y
    traced_both = law.follow q (steady q) store_final q.eres q.code may q.budget items more (traced_opening q) refl

    -- Where the first part was left through, both end as the second from there.
    on_both : x.left ≡ through → in_order q (items ++ more) ≡ in_order (phase_at q x) more
    on_both on =
        let opens : x ≡ opening (phase_at q x) = λ j. record { world = x.world; state = x.state; output = x.output; left = on j } in
        sym (plain_is (items ++ more)) ∙ ap plain traced_both ∙ ap (λ l. plain (onward go l y)) (left_is ∙ on)
        ∙ law.traces q.eres q.code q.budget None more y
        ∙ ap (λ e. records_from calls q.eres q.code q.budget None e more) (plain_is items ∙ opens)

    -- Where it was not, both end as the first.
    off_traced : (x.left ≡ through → ⊥) → in_order_traced q (items ++ more) ≡ y
    off_traced off = traced_both ∙ onward_not go y.left y (λ h. off (sym left_is ∙ h))

    -- They do so without a trace.
    off_plain : (x.left ≡ through → ⊥) → in_order q (items ++ more) ≡ x
    off_plain off = sym (plain_is (items ++ more)) ∙ ap plain (off_traced off) ∙ plain_is items

    -- Both fault or create exactly where the first does, or was left through and M holds of its end, which the second has to tell.
    pub parts_bad : (M : End Globals → Type 0) → (x.left ≡ through → FaultsOrCreates (phase_at q x) more ↔ M x) → FaultsOrCreates q (items ++ more) ↔ Piece q M items
    parts_bad M h = ⊎_elim
        (λ on. let parts = parting q law.traces law.longer items more on in (
          λ k. ⊎_elim (λ b. inl b) (λ b. inr (on, (h on).0 b)) (parts.0 k),
          λ k. parts.1 (⊎_elim (λ b. inl b) (λ b. inr ((h on).1 b.1)) k),
        ))
        (λ off. let same = same_bad q (items ++ more) items (off_plain off) (off_traced off) in (
          λ k. inl (subst (λ T. T) same k),
          λ k. ⊎_elim (λ b. subst (λ T. T) (sym same) b) (λ b. absurd (off b.0)) k,
        ))
        (through_or_not x.left)

    -- With what follows both it is the same.
    pub parts_piece : (M : End Globals → Type 0) → Piece q M (items ++ more) ↔ Piece q (λ e. Piece (phase_at q e) M more) items
    parts_piece M = ⊎_elim
        (λ on. let parts = parting q law.traces law.longer items more on in let both = on_both on in (
          λ k. ⊎_elim
              (λ b. ⊎_elim (λ c. inl c) (λ c. inr (on, inl c)) (parts.0 b))
              (λ b. inr (on, inr (ap (λ (e : End Globals). e.left) (sym both) ∙ b.0, subst M both b.1)))
              k,
          λ k. ⊎_elim
              (λ b. inl (parts.1 (inl b)))
              (λ b. ⊎_elim
              (λ c. inl (parts.1 (inr c)))
              (λ c. inr (ap (λ (e : End Globals). e.left) both ∙ c.0, subst M (sym both) c.1))
              b.1)
              k,
        ))
        (λ off. let same = same_bad q (items ++ more) items (off_plain off) (off_traced off) in (
          λ k. ⊎_elim (λ b. inl (subst (λ T. T) same b)) (λ b. absurd (off (ap (λ (e : End Globals). e.left) (sym (off_plain off)) ∙ b.0))) k,
          λ k. ⊎_elim (λ b. inl (subst (λ T. T) (sym same) b)) (λ b. absurd (off b.0)) k,
        ))
        (through_or_not x.left)

  module _ (make : Pairs → Globals → Globals) (p : Phase) (rs : List ℕ) (may : IsAllowed p) where
    -- Without assignments the records of files in order fault or create exactly where they do file by file.
    pub files_bad : KeepsWithout make → (fs : List File) (file nr : ℕ) (e : End Globals) → FaultsOrCreates (phase_at p e) (items_from rs file nr fs) ↔ TurnsFaultOrCreate make p rs e (map plain_turn fs)
    files_bad keeps [] file nr e = (λ k. none_bad (phase_at p e) k, λ k. absurd k)
    files_bad keeps (f ∷ fs) file nr e =
        let q = phase_at p e in
        let all = records_by rs f.bytes in
        let M : End Globals → Type 0 = λ x. TurnsFaultOrCreate make p rs x (map plain_turn fs) in
        let items = file_items file f.name nr 0 all in
        then_iff
        (parts_bad q may items (items_from rs (file + 1) (nr + length all) fs) M (λ on. files_bad keeps fs (file + 1) (nr + length all) (in_order q items)))
        (same_iff (piece_alike q file 0 f.name nr 0 0 all M ∙ sym (ap (λ y. PieceFaultsOr M p y f.name 0 all) (unassigned make keeps e))))

    -- The records of a file in two pieces do exactly where the first does, or was left through and the second does.
    pub pieces_bad : (e : End Globals) (name : List ℕ) (fnr : ℕ) (records more : List (List ℕ)) (ts : List Turn) → FileFaultsOrCreates make p rs e name fnr (records ++ more) ts ↔ PieceFaultsOr (λ x. FileFaultsOrCreates make p rs x name (fnr + length records) more ts) p e name fnr records
    pieces_bad e name fnr records more ts =
        let q = phase_at p e in
        let M : End Globals → Type 0 = λ x. TurnsFaultOrCreate make p rs x ts in
        let items = file_items 0 name 0 fnr records in
        let n = 0 + length records in
        let rest = file_items 0 name n (fnr + length records) more in
        then_iff
        (same_iff (ap (λ is. Piece q M is) (file_items-append 0 name 0 fnr records more)))
        (then_iff
        (parts_piece q may items rest M)
        (same_iff (λ j. Piece q (λ x. piece_alike (phase_at p x) 0 0 name n 0 (fnr + length records) more M j) items)))
