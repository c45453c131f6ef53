-- What the roles of a run tell of its records.
use Rattle.std.proofs.Common.{◌≡◌, ℕ, ◌+◌, List, [], ◌∷◌, ◌++◌, length, Option, Some, None, IfSome, refl, ap, sym, ◌∙◌, subst, append-nil, inl, inr, ⊎_elim, true, false, arith}
use Rattle.std.specs.Prelude.{◌⊎◌, ◌↔◌}
use Rattle.pawk_records.specs.Records.{records_by}
use Rattle.pawk_input.specs.Input.{file_items}
use Rattle.pawk_store.specs.Globals.{Globals, calls}
use Rattle.pawk_admit.specs.declared.role.Roles.{Roles}
use Rattle.pawk_store.specs.Records.{Left, through, next_file, exit, fault, clash, End}
use Rattle.pawk_store.specs.Runs.{records_from}
use Rattle.pawk_store.specs.Outputs.{in_a_row, with_output_before}
use Rattle.pawk_store.specs.LeftViews.{left_view}
use Rattle.pawk_store.specs.Laws.{LeftBy}
use Rattle.pawk_store.specs.Steady.{RecordsKeepLaw, StaysInFile}
use Rattle.pawk_commute.specs.Settings.{PermitsFor}
use Rattle.pawk_commute.proofs.TracedLemmas.{plain_final}
use Rattle.pawk_merge_law.specs.Phases.{Phase, MayRun, in_order, FaultsOrCreates}
use Rattle.pawk_merge_law.proofs.OpeningLemmas.{steady}
use Rattle.pawk_merge_law.specs.Windows.{phase_at}
use Rattle.pawk_merge_law.specs.Flows.{Turn, after_assignments}
use Rattle.pawk_merge_law.specs.Redone.{FileFaultsOrCreates, TurnsFaultOrCreate, FaultOutputLaw, PieceFaultsLaw}
use Rattle.pawk_flow.specs.Operands.{assigned}
use Rattle.pawk_flow.specs.Pieces.{end_between, piece_end}
use Rattle.pawk_flow.specs.Flow.{Flow}
use Rattle.pawk_flow.specs.PieceEnd.{PieceEnd}
use Rattle.pawk_feeds.specs.Streams.{Course, Tells, phase_of, turns_fault, bytes_fault, left_faults, file_left_faults, is_over}
use Rattle.pawk_records.proofs.BlocksLemmas.{no_records}

-- What is told of one part, and then of what follows it, is told of both.
pub tells_then : (A B C : Roles → Type 0) (a b c : Option Roles) → Tells A B a b → Tells B C b c → Tells A C a c
tells_then A B C None None None h k = tt
tells_then A B C None None (Some t) h k = absurd k
tells_then A B C None (Some s) c h k = absurd h
tells_then A B C (Some r) None None h k = h
tells_then A B C (Some r) None (Some t) h k = absurd k
tells_then A B C (Some r) (Some s) None h k = h.1.1 (subst B h.0 k)
tells_then A B C (Some r) (Some s) (Some t) h k =
    let at : B r ↔ C r = subst (λ x. B x ↔ C x) h.0 k.1 in
    (k.0 ∙ h.0, (λ x. at.0 (h.1.0 x), λ x. h.1.1 (at.1 x)))

-- Nothing follows.
pub tells_same : (A : Roles → Type 0) (a : Option Roles) → Tells A A a a
tells_same A None = tt
tells_same A (Some r) = (refl, (λ x. x, λ x. x))

module _ (u : Course) (r : Roles) (flow now : Flow) where
  -- From which flow a phase comes does not matter, file by file.
  same_turns : (ts : List Turn) (e : End Globals) → TurnsFaultOrCreate (assigned u.code.scalars) (phase_of u flow r) u.rs e ts ≡ TurnsFaultOrCreate (assigned u.code.scalars) (phase_of u now r) u.rs e ts
  same_turns [] e = refl
  same_turns (t ∷ ts) e =
      let q = phase_at (phase_of u flow r) (after_assignments (assigned u.code.scalars) t.before e) in
      let is = file_items 0 t.file.name 0 0 (records_by u.rs t.file.bytes) in
      λ j. FaultsOrCreates q is ⊎ (((in_order q is).left ≡ through) × same_turns ts (in_order q is) j)

  -- It does not inside a file.
  pub same_file : (e : End Globals) (name : List ℕ) (fnr : ℕ) (records : List (List ℕ)) (ts : List Turn) →
      FileFaultsOrCreates (assigned u.code.scalars) (phase_of u flow r) u.rs e name fnr records ts ≡ FileFaultsOrCreates (assigned u.code.scalars) (phase_of u now r) u.rs e name fnr records ts
  same_file e name fnr records ts =
      let q = phase_at (phase_of u flow r) e in
      let is = file_items 0 name 0 fnr records in
      λ j. FaultsOrCreates q is ⊎ (((in_order q is).left ≡ through) × same_turns ts (in_order q is) j)

module _ (u : Course) (faults : PieceFaultsLaw) (fault_output : FaultOutputLaw) (keep : (p : Phase) → RecordsKeepLaw (PermitsFor p.code p.roles) calls)
    (r : Roles) (flow now : Flow) (may : MayRun (phase_of u flow r)) (name : List ℕ) (fnr : ℕ) (records : List (List ℕ)) (x : PieceEnd)
    (ends : records_from calls u.code.expressions u.code u.budget None (end_between flow) (file_items 0 name 0 fnr records) ≡ piece_end now x)
    (counts : left_view x.left ≡ through → x.fnr ≡ fnr + length records) (bytes : List ℕ) (ts : List Turn) where
  abbrev p : Phase
  p = phase_of u flow r

  abbrev more : List (List ℕ)
  more = records_by u.rs bytes

  abbrev whole : Type 0
  whole = FileFaultsOrCreates (assigned u.code.scalars) p u.rs (end_between flow) name fnr (records ++ more) ts

  abbrev items_fault : Type 0
  items_fault = FaultsOrCreates p (file_items 0 name 0 fnr records)

  -- A piece that faults or creates an element makes its file do so.
  pub piece_faults : items_fault → whole
  piece_faults bad = (faults (assigned u.code.scalars) p u.rs (end_between flow) name fnr records more ts may.allows).1 (inl bad)

  abbrev Next : End Globals → Type 0
  Next e = FileFaultsOrCreates (assigned u.code.scalars) p u.rs e name (fnr + length records) more ts

  -- What follows a piece that was left through, from the flow that it leaves.
  next_is : left_view x.left ≡ through → Next (piece_end now x) ↔ bytes_fault u now name x.fnr bytes ts r
  next_is on =
      let out = in_a_row x.outputs.items in
      let e : piece_end now x ≡ with_output_before out (end_between now) = λ j. record { world = now.globals; state = now.state; output = (sym (append-nil out)) j; left = on j } in
      let o = (fault_output (assigned u.code.scalars) p u.rs (end_between now) out ts).1 name (fnr + length records) more in
      let s : Next (end_between now) ≡ bytes_fault u now name x.fnr bytes ts r =
      (λ j. FileFaultsOrCreates (assigned u.code.scalars) p u.rs (end_between now) name ((sym (counts on)) j) more ts) ∙ same_file u r flow now (end_between now) name x.fnr more ts in
      (λ h. subst (λ T. T) s (o.0 (subst Next e h)), λ h. subst Next (sym e) (o.1 (subst (λ T. T) (sym s) h)))

  -- A piece is not left by `nextfile`.
  in_file : left_view x.left ≡ next_file → ⊥
  in_file off =
      let k = (keep p (steady p) plain_final u.code.expressions u.code may.allows u.budget (file_items 0 name 0 fnr records) (end_between flow) refl).in_file in
      subst (λ l. LeftBy StaysInFile l) off (subst (λ (e : End Globals). LeftBy StaysInFile e.left) ends k)

  -- How its records were left.
  left_is : (in_order p (file_items 0 name 0 fnr records)).left ≡ left_view x.left
  left_is = ap (λ (e : End Globals). e.left) ends

  -- A file of which a piece neither faults nor creates an element does so exactly where what follows the piece does.
  by_left : (items_fault → ⊥) → (l : Left) → left_view x.left ≡ l → whole ↔ left_faults u l now name x.fnr bytes ts r
  by_left good through is =
      let law = faults (assigned u.code.scalars) p u.rs (end_between flow) name fnr records more ts may.allows in
      let n = next_is is in (
        λ h. ⊎_elim (λ b. absurd (good b)) (λ k. n.0 (subst Next ends k.1)) (law.0 h),
        λ h. law.1 (inr (left_is ∙ is, subst Next (sym ends) (n.1 h))),
      )
  by_left good next_file is = (λ h. absurd (in_file is), λ h. absurd (in_file is))
  by_left good (exit n) is =
      let law = faults (assigned u.code.scalars) p u.rs (end_between flow) name fnr records more ts may.allows in
      (λ h. ⊎_elim (λ b. good b) (λ k. let bad : exit n ≡ through = sym (left_is ∙ is) ∙ k.0 in absurd cc) (law.0 h), λ h. absurd h)
  by_left good (fault f) is =
      let law = faults (assigned u.code.scalars) p u.rs (end_between flow) name fnr records more ts may.allows in
      (λ h. ⊎_elim (λ b. good b) (λ k. let bad : fault f ≡ through = sym (left_is ∙ is) ∙ k.0 in absurd cc) (law.0 h), λ h. absurd h)
  by_left good clash is =
      let law = faults (assigned u.code.scalars) p u.rs (end_between flow) name fnr records more ts may.allows in
      (λ h. ⊎_elim (λ b. good b) (λ k. let bad : clash ≡ through = sym (left_is ∙ is) ∙ k.0 in absurd cc) (law.0 h), λ h. absurd h)

  pub piece_good : (items_fault → ⊥) → whole ↔ left_faults u (left_view x.left) now name x.fnr bytes ts r
  piece_good good = by_left good (left_view x.left) refl

-- What a piece tells of its file.
pub piece_tells : (u : Course) → PieceFaultsLaw → FaultOutputLaw → ((p : Phase) → RecordsKeepLaw (PermitsFor p.code p.roles) calls) →
    (flow now : Flow) (name : List ℕ) (fnr : ℕ) (records : List (List ℕ)) (x : PieceEnd) →
    records_from calls u.code.expressions u.code u.budget None (end_between flow) (file_items 0 name 0 fnr records) ≡ piece_end now x → (left_view x.left ≡ through → x.fnr ≡ fnr + length records) →
    (roles after : Option Roles) → IfSome roles (λ r. MayRun (phase_of u flow r)) → Tells (λ r. FaultsOrCreates (phase_of u flow r) (file_items 0 name 0 fnr records)) (λ r. ⊥) roles after → (bytes : List ℕ) (ts : List Turn) →
    Tells (λ r. FileFaultsOrCreates (assigned u.code.scalars) (phase_of u flow r) u.rs (end_between flow) name fnr (records ++ records_by u.rs bytes) ts) (left_faults u (left_view x.left) now name x.fnr bytes ts) roles after
piece_tells u faults out keep flow now name fnr records x ends counts None None may t bytes ts = tt
piece_tells u faults out keep flow now name fnr records x ends counts None (Some s) may t bytes ts = absurd t
piece_tells u faults out keep flow now name fnr records x ends counts (Some r) None may t bytes ts = piece_faults u faults out keep r flow now may name fnr records x ends counts bytes ts t
piece_tells u faults out keep flow now name fnr records x ends counts (Some r) (Some s) may t bytes ts = (t.0, piece_good u faults out keep r flow now may name fnr records x ends counts bytes ts t.1.0)

-- What is the same tells the same.
pub tells_iff : (A B : Roles → Type 0) (a : Option Roles) → ((r : Roles) → A r ↔ B r) → Tells A B a a
tells_iff A B None h = tt
tells_iff A B (Some r) h = (refl, h r)

-- No record faults or creates an element.
none_faults : (q : Phase) → FaultsOrCreates q [] → ⊥
none_faults q h = ⊎_elim (λ k. k) (λ k. absurd (omega (arith, k.3.1))) h

-- At the end of a file what is told is told of the files after it.
pub end_faults : (u : Course) (how : Left) (flow : Flow) (name : List ℕ) (fnr : ℕ) (bytes : List ℕ) (ts : List Turn) → (how ≡ through → bytes ≡ []) → (r : Roles) →
    left_faults u how flow name fnr bytes ts r ↔ file_left_faults u how flow ts r
end_faults u through flow name fnr bytes ts none r =
    let q = phase_of u flow r in
    let e : bytes_fault u flow name fnr bytes ts r ≡ FileFaultsOrCreates (assigned u.code.scalars) q u.rs (end_between flow) name fnr [] ts =
    ap (λ l. FileFaultsOrCreates (assigned u.code.scalars) q u.rs (end_between flow) name fnr (records_by u.rs l) ts) (none refl)
    ∙ ap (λ l. FileFaultsOrCreates (assigned u.code.scalars) q u.rs (end_between flow) name fnr l ts) (no_records u.rs) in (
      λ h. ⊎_elim (λ b. absurd (none_faults q b)) (λ k. k.1) (subst (λ T. T) e h),
      λ h. subst (λ T. T) (sym e) (inr (refl, h)),
    )
end_faults u next_file flow name fnr bytes ts none r = (λ h. h, λ h. h)
end_faults u (exit n) flow name fnr bytes ts none r = (λ h. h, λ h. h)
end_faults u (fault f) flow name fnr bytes ts none r = (λ h. h, λ h. h)
end_faults u clash flow name fnr bytes ts none r = (λ h. h, λ h. h)

-- After a file that does not end a run, what is told is told of the next.
pub goes_fault : (u : Course) (how : Left) (flow : Flow) (ts : List Turn) → is_over how ≡ false → (r : Roles) → file_left_faults u how flow ts r ↔ turns_fault u flow ts r
goes_fault u through flow ts h r = (λ k. k, λ k. k)
goes_fault u next_file flow ts h r = (λ k. k, λ k. k)
goes_fault u (exit n) flow ts h r = absurd cc
goes_fault u (fault f) flow ts h r = absurd cc
goes_fault u clash flow ts h r = absurd cc

-- After one that ends it, nothing is.
pub ends_fault : (u : Course) (how : Left) (flow : Flow) (ts : List Turn) → is_over how ≡ true → (r : Roles) → file_left_faults u how flow ts r ↔ ⊥
ends_fault u through flow ts h r = absurd cc
ends_fault u next_file flow ts h r = absurd cc
ends_fault u (exit n) flow ts h r = (λ k. k, λ k. k)
ends_fault u (fault f) flow ts h r = (λ k. k, λ k. k)
ends_fault u clash flow ts h r = (λ k. k, λ k. k)
