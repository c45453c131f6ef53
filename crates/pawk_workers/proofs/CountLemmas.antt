-- What the workers counted, all together.
use Rattle.std.proofs.Common.{◌≡◌, ◌≢◌, ◌⊎◌, inl, inr, ⊎_elim, ℕ, zero, suc, ◌<◌, ◌≤◌, true≢false, List, [], ◌∷◌, ◌++◌, length, map, set, take, drop, All, Contains, IsOk, Ok, Err, Result, IfOk, Option, Some, refl, sym, ap, ◌∙◌, subst, arith}
use native.Mathlib.Decide.{dec_le}
use Rattle.std.specs.List.{flat_map, slice_get}
use Rattle.std.specs.Option.{unwrap_or}
use Rattle.std.specs.declared.vec.Vec.{Vec}
use Rattle.std.specs.declared.alloc.Global.{Global}
use Rattle.std.specs.declared.alloc.AllocError.{AllocError}
use Rattle.std.proofs.lemmas.Grind.{same_number_lists}
use Rattle.std.proofs.lemmas.List.{append-nil, drop_all, map-append, map_push, take_all}
use Rattle.std.proofs.lemmas.List.Elements.{All-head, All-tail, All-nil, All-append, All-weaker, Contains-append_left, Contains-append_right, Contains-append_cases, Contains-push, Contains-push_cases}
use Rattle.std.proofs.lemmas.Option.{slice_get_within, unwrap_or-slice_get}
use Rattle.pawk_board.proofs.Cuts.{all_front, all_back}
use Rattle.pawk_board.specs.declared.hand.Hand.{Hand}
use Rattle.pawk_board.specs.History.{drawn_by, DoneMeansAll}
use Rattle.pawk_board.specs.Views.{SeatView}
use Rattle.pawk_workers.specs.Counting.{Numbered, numbers, IsCountIn, HasDrawn, numbered_in, numbered_of, Enters, EntersMore}
use Rattle.pawk_workers.specs.declared.shifts.CountShift.{CountShift}

-- ---- a count is put at its number

set_here : (xs : List ℕ) (i x : ℕ) → i < length xs → slice_get (set xs i x) i ≡ Some x
set_here [] i x lt = absurd (omega arith)
set_here (y ∷ ys) zero x lt = refl
set_here (y ∷ ys) (suc i) x lt = set_here ys i x (omega arith)

set_elsewhere : (xs : List ℕ) (i j x : ℕ) → j ≢ i → slice_get (set xs i x) j ≡ slice_get xs j
set_elsewhere [] i j x other = refl
set_elsewhere (y ∷ ys) zero zero x other = absurd (other refl)
set_elsewhere (y ∷ ys) zero (suc j) x other = refl
set_elsewhere (y ∷ ys) (suc i) zero x other = refl
set_elsewhere (y ∷ ys) (suc i) (suc j) x other = set_elsewhere ys i j x (λ e. other (ap suc e))

same_or_not : (m n : ℕ) → Dec (m ≤ n) → Dec (n ≤ m) → Dec (m ≡ n)
same_or_not m n (yes le) (yes ge) = yes (omega arith)
same_or_not m n (no gt) d = no (λ e. gt (omega arith))
same_or_not m n (yes le) (no lt) = no (λ e. lt (omega arith))

pub enters_none : (counts : List ℕ) → EntersMore [] counts counts
enters_none counts wanted all n known = ⊎_elim (λ here. here) (λ (c : Contains [] n). absurd (let h : c.0 < 0 = c.1 in omega arith)) known

pub enters_next : (rs : List Numbered) (r : Numbered) (before counts : List ℕ) → r.0 < length counts → EntersMore rs before counts → EntersMore (rs ++ r ∷ []) before (set counts r.0 r.1)
enters_next rs r before counts lt more wanted all n known = by_test (same_or_not n r.0 (dec_le n r.0) (dec_le r.0 n))
  where
    true_here : IsCountIn wanted r
    true_here = All-head (IsCountIn wanted) r [] (all_back (IsCountIn wanted) rs (r ∷ []) all)

    earlier : n ≢ r.0 → (slice_get before n ≡ slice_get wanted n) ⊎ Contains (numbers rs) n
    earlier other = ⊎_elim
        (λ (was : slice_get before n ≡ slice_get wanted n). inl was)
        (λ (c : Contains (numbers (rs ++ r ∷ [])) n).
        ⊎_elim (λ (front : Contains (numbers rs) n). inr front) (λ (e : r.0 ≡ n). absurd (other (sym e)))
        (Contains-push_cases (numbers rs) r.0 n (subst (λ (l : List ℕ). Contains l n) (map_push (λ (x : Numbered). x.0) rs r) c)))
        known

    by_test : Dec (n ≡ r.0) → slice_get (set counts r.0 r.1) n ≡ slice_get wanted n
    by_test (yes e) =
        ap (slice_get (set counts r.0 r.1)) e ∙ (set_here counts r.0 r.1 lt ∙ (sym true_here ∙ ap (slice_get wanted) (sym e)))
    by_test (no other) =
        set_elsewhere counts r.0 n r.1 other ∙ more wanted (all_front (IsCountIn wanted) rs (r ∷ []) all) n (earlier other)

-- the counts of one more shift
pub enters_shift : (ss rs : List Numbered) (before counts : List ℕ) → Enters ss before → EntersMore rs before counts → Enters (ss ++ rs) counts
enters_shift ss rs before counts enters more wanted all n c =
    more wanted (all_back (IsCountIn wanted) ss rs all) n
    (⊎_elim
    (λ (front : Contains (numbers ss) n). inl (enters wanted (all_front (IsCountIn wanted) ss rs all) n front))
    (λ (back : Contains (numbers rs) n). inr back)
    (Contains-append_cases (numbers ss) (numbers rs) n (subst (λ (l : List ℕ). Contains l n) (map-append (λ (x : Numbered). x.0) ss rs) c)))

pub enters_nothing : (counts : List ℕ) → Enters [] counts
enters_nothing counts wanted all n c = absurd (let h : c.0 < 0 = c.1 in omega arith)

-- counts that were written over as many
pub written_back : (n : ℕ) (new old : List ℕ) → length new ≡ n → length old ≡ n → take n (new ++ drop (length new) old) ≡ new
written_back n new old here there =
    let none : drop (length new) old ≡ [] = drop_all (length new) old (omega arith) in
    let all : new ++ drop (length new) old ≡ new = ap (λ l. new ++ l) none ∙ append-nil new in
    ap (take n) all ∙ take_all n new (omega arith)

-- ---- all shifts

abbrev pub Counts : Type 0
Counts = Result (Vec Numbered Global) AllocError

abbrev pub hands : List CountShift → List Hand
hands shifts = map (λ (s : CountShift). s.seat.hand) shifts

pub hands_of_seats : (shifts : List CountShift) → map (λ (s : SeatView). s.hand) (map (λ (s : CountShift). s.seat) shifts) ≡ hands shifts
hands_of_seats [] = refl
hands_of_seats (s ∷ ss) = ap (λ l. s.seat.hand ∷ l) (hands_of_seats ss)

module _ (C : ℕ) (wanted : List ℕ) where
  -- a worker's shift, in which each count is true
  abbrev pub Does : CountShift → Type 0
  Does s = IfOk s.counts (λ v. HasDrawn C s.seat.hand (numbers v.items) × All (IsCountIn wanted) v.items)

  abbrev Met : CountShift → Type 0
  Met s = IsOk s.counts

  one_true : (seat : SeatView) (counts : Counts) → Does (record { seat = seat; counts = counts }) → All (IsCountIn wanted) (numbered_in counts)
  one_true seat (Err e) does = All-nil (IsCountIn wanted)
  one_true seat (Ok v) does = does.1

  pub true_of : (s : CountShift) → Does s → All (IsCountIn wanted) (numbered_of s)
  true_of s does = one_true s.seat s.counts does

  pub all_true : (shifts : List CountShift) → All Does shifts → All (IsCountIn wanted) (flat_map numbered_of shifts)
  all_true [] does = All-nil (IsCountIn wanted)
  all_true (s ∷ ss) does =
      All-append (IsCountIn wanted) (numbered_of s) (flat_map numbered_of ss) (true_of s (All-head Does s ss does)) (all_true ss (All-tail Does s ss does))

  -- the numbers of true counts are those of blocks
  pub within_of : length wanted ≡ C → (shifts : List CountShift) → All Does shifts → All (λ (s : CountShift). All (λ (r : Numbered). r.0 < C) (numbered_of s)) shifts
  within_of len shifts does =
      All-weaker Does (λ (s : CountShift). All (λ (r : Numbered). r.0 < C) (numbered_of s))
      (λ s d. All-weaker (IsCountIn wanted) (λ (r : Numbered). r.0 < C) (λ r t. subst (λ (k : ℕ). r.0 < k) len (slice_get_within wanted r.0 r.1 t)) (numbered_of s) (true_of s d))
      shifts does

  one_counted : (seat : SeatView) (counts : Counts) → Does (record { seat = seat; counts = counts }) → IsOk counts → (n : ℕ) → n < C → Contains seat.hand.drawn n → Contains (numbers (numbered_in counts)) n
  one_counted seat (Err e) does ok n lt c = absurd (true≢false (sym ok))
  one_counted seat (Ok v) does ok n lt c =
      let last : ℕ = does.0.0 in
      let past : C ≤ last = does.0.2 in
      ⊎_elim (λ (here : Contains (numbers v.items) n). here) (λ (e : last ≡ n). absurd (omega arith))
      (Contains-push_cases (numbers v.items) last n (subst (λ (l : List ℕ). Contains l n) does.0.1 c))

  all_counted : (shifts : List CountShift) → All Does shifts → All Met shifts → (n : ℕ) → n < C → Contains (drawn_by (hands shifts)) n → Contains (numbers (flat_map numbered_of shifts)) n
  all_counted [] does ok n lt c = absurd (let h : c.0 < 0 = c.1 in omega arith)
  all_counted (s ∷ ss) does ok n lt c =
      let joined : numbers (flat_map numbered_of (s ∷ ss)) ≡ numbers (numbered_of s) ++ numbers (flat_map numbered_of ss) = map-append (λ (r : Numbered). r.0) (numbered_of s) (flat_map numbered_of ss) in
      subst (λ (l : List ℕ). Contains l n) (sym joined)
      (⊎_elim
      (λ (here : Contains s.seat.hand.drawn n).
      Contains-append_left (numbers (numbered_of s)) (numbers (flat_map numbered_of ss)) n (one_counted s.seat s.counts (All-head Does s ss does) (All-head Met s ss ok) n lt here))
      (λ (there : Contains (drawn_by (hands ss)) n).
      Contains-append_right (numbers (numbered_of s)) (numbers (flat_map numbered_of ss)) n (all_counted ss (All-tail Does s ss does) (All-tail Met s ss ok) n lt there))
      (Contains-append_cases s.seat.hand.drawn (drawn_by (hands ss)) n c))

  -- the first worker was told that no block is left
  one_past : (seat : SeatView) (counts : Counts) → Does (record { seat = seat; counts = counts }) → IsOk counts → (past : ℕ) × Contains seat.hand.drawn past × (C ≤ past)
  one_past seat (Err e) does ok = absurd (true≢false (sym ok))
  one_past seat (Ok v) does ok =
      (does.0.0, subst (λ (l : List ℕ). Contains l does.0.0) (sym does.0.1) (Contains-push (numbers v.items) does.0.0), does.0.2)

  -- so each block was counted, and the counts are those wanted
  pub counts_all : length wanted ≡ C → (shifts : List CountShift) → All Does shifts → All Met shifts → 0 < length shifts → DoneMeansAll C (hands shifts)
      → (counts : List ℕ) → length counts ≡ C → Enters (flat_map numbered_of shifts) counts → counts ≡ wanted
  counts_all len [] does ok some done counts long enters = absurd (omega arith)
  counts_all len (s ∷ ss) does ok some done counts long enters =
      let p = one_past s.seat s.counts (All-head Does s ss does) (All-head Met s ss ok) in
      let told : Contains (drawn_by (hands (s ∷ ss))) p.0 = Contains-append_left s.seat.hand.drawn (drawn_by (hands ss)) p.0 p.1 in
      same_number_lists counts wanted (long ∙ sym len)
      (λ k lt.
      let small : k < C = subst (λ (m : ℕ). k < m) long lt in
      let drawn : Contains (drawn_by (hands (s ∷ ss))) k = done k p.0 told p.2 small in
      let same : slice_get counts k ≡ slice_get wanted k = enters wanted (all_true (s ∷ ss) does) k (all_counted (s ∷ ss) does ok k small drawn) in
      sym (unwrap_or-slice_get counts k 0) ∙ (ap (λ (o : Option ℕ). unwrap_or o 0) same ∙ unwrap_or-slice_get wanted k 0))
