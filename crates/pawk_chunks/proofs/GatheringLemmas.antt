-- What the workers' shifts hold, all together.
use Rattle.std.proofs.Common.{◌≡◌, ℕ, ◌<◌, ◌≤◌, Bool, true, false, cond, nat_lt, List, [], ◌∷◌, ◌++◌, length, map, filter, All, Contains, IsOk, Ok, Err, Result, IfOk, sum_by, IsPermutation, true≢false, refl, sym, ap, ◌∙◌, subst, ⊎_elim, arith}
use Rattle.std.specs.List.{flat_map, range_with_len}
use Rattle.std.specs.declared.vec.Vec.{Vec}
use Rattle.std.specs.declared.alloc.Global.{Global}
use Rattle.std.specs.declared.alloc.AllocError.{AllocError}
use Rattle.std.proofs.lemmas.Bool.Decides.{nat_tests}
use Rattle.std.proofs.lemmas.List.{map-append}
use Rattle.std.proofs.lemmas.List.Elements.{All-head, All-tail, All-nil, All-cons, All-append, All-contains, Contains-append_left, Contains-append_right, Contains-append_cases}
use Rattle.std.proofs.lemmas.List.Sorted.{Contains-permutation}
use Rattle.std.proofs.lemmas.List.Sums.{sum_by-append, sum_by-cons, sum_by_push}
use Rattle.pawk_board.proofs.Cuts.{all_front, all_back}
use Rattle.pawk_board.proofs.Histories.{all_drawn_below, drawn_weigh, saw_above, least_told}
use Rattle.pawk_board.proofs.Keyed.{kept_below, cut_filter, contains_filter}
use Rattle.pawk_board.proofs.Weights.{Weighs, cut_at, cut_drops}
use Rattle.pawk_board.specs.declared.hand.Hand.{Hand}
use Rattle.pawk_board.specs.Views.{SeatView, BoardView}
use Rattle.pawk_board.specs.History.{blank, drawn_by, told_by, Lawful}
use Rattle.pawk_chunks.specs.Worker.{Numbered, Mark, HasWorked, RanOrSeen, numbers, stopping, marked, ran_of, stops}
use Rattle.pawk_chunks.specs.Shifts.{results_in, results_of, limit_of}
use Rattle.pawk_chunks.specs.declared.shifts.Shift.{Shift}

abbrev pub Results : Type 0
Results = Result (Vec Numbered Global) AllocError

abbrev pub number : Numbered → ℕ
number r = r.0

abbrev pub hands : List Shift → List Hand
hands shifts = map (λ (s : Shift). s.seat.hand) shifts

-- the hands of the seats that came back
pub hands_of_seats : (shifts : List Shift) → map (λ (s : SeatView). s.hand) (map (λ (s : Shift). s.seat) shifts) ≡ hands shifts
hands_of_seats [] = refl
hands_of_seats (s ∷ ss) = ap (λ l. s.seat.hand ∷ l) (hands_of_seats ss)

limit_le : (stop C : ℕ) → limit_of stop C ≤ C
limit_le stop C = grind (arith, nat_tests)

limit_past : (stop C n : ℕ) → stop < n → n < C → limit_of stop C ≤ n
limit_past stop C n h l = grind (arith, nat_tests)

limit_at : (stop C n : ℕ) → n ≡ stop → stop < C → nat_lt n (limit_of stop C) ≡ true
limit_at stop C n e h = grind (arith, nat_tests)

-- of the chunks below the limit, those that were drawn weigh what those that were run do
marks_weigh : (C stop : ℕ) (f : ℕ → ℕ) (saw : List ℕ) (marks : List Mark) → All (λ w. stop ≤ w) saw → All (λ (m : Mark). m.0 < C) marks → All (RanOrSeen saw) marks
    → sum_by (cut_at (limit_of stop C) f) (marked marks) ≡ sum_by (cut_at (limit_of stop C) f) (ran_of marks)
marks_weigh C stop f saw [] above small seen = refl
marks_weigh C stop f saw (m ∷ ms) above small seen = one m (All-head (λ (x : Mark). x.0 < C) m ms small) (All-head (RanOrSeen saw) m ms seen)
    (marks_weigh C stop f saw ms above (All-tail (λ (x : Mark). x.0 < C) m ms small) (All-tail (RanOrSeen saw) m ms seen))
  where
    one : (m : Mark) → m.0 < C → RanOrSeen saw m → sum_by (cut_at (limit_of stop C) f) (marked ms) ≡ sum_by (cut_at (limit_of stop C) f) (ran_of ms)
        → sum_by (cut_at (limit_of stop C) f) (m.0 ∷ marked ms) ≡ sum_by (cut_at (limit_of stop C) f) (marked (cond m.1 (m ∷ filter (λ (x : Mark). x.1) ms) (filter (λ (x : Mark). x.1) ms)))
    one (n, true) small seen rest = let g = cut_at (limit_of stop C) f in omega (arith, rest, sum_by-cons g n (marked ms), sum_by-cons g n (ran_of ms))
    one (n, false) small seen rest =
        let g = cut_at (limit_of stop C) f in
        ⊎_elim
        (λ (e : false ≡ true). absurd (true≢false (sym e)))
        (λ (s : (w : ℕ) × (w < n) × Contains saw w).
        let least : stop ≤ s.0 = All-contains (λ w. stop ≤ w) saw s.0 above s.2 in
        let past : limit_of stop C ≤ n = limit_past stop C n (omega (arith, least, s.1)) small in
        let none = cut_drops (limit_of stop C) f n past in
        omega (arith, rest, none, sum_by-cons g n (marked ms)))
        seen

-- a result of this chunk, which was not left through
abbrev pub StopsAt : ℕ → List Numbered → Type 0
StopsAt stop rs = (r : Numbered) × Contains rs r × (stops r.1.left ≡ true) × (r.0 ≡ stop)

at_back : (stop : ℕ) (xs ys : List Numbered) → StopsAt stop ys → StopsAt stop (xs ++ ys)
at_back stop xs ys e = (e.0, Contains-append_right xs ys e.0 e.1, e.2, e.3)

at_front : (stop : ℕ) (xs ys : List Numbered) → StopsAt stop xs → StopsAt stop (xs ++ ys)
at_front stop xs ys e = (e.0, Contains-append_left xs ys e.0 e.1, e.2, e.3)

at_more : (stop : ℕ) (r : Numbered) (rs : List Numbered) → (Contains (stopping rs) stop → StopsAt stop rs) → (b : Bool) → stops r.1.left ≡ b
    → Contains (numbers (cond b (r ∷ filter (λ (x : Numbered). stops x.1.left) rs) (filter (λ (x : Numbered). stops x.1.left) rs))) stop → StopsAt stop (r ∷ rs)
at_more stop r rs rest true e c =
    ⊎_elim
    (λ (here : Contains (r.0 ∷ []) stop). (r, (0, omega arith, refl), e, same here))
    (λ (there : Contains (stopping rs) stop). at_back stop (r ∷ []) rs (rest there))
    (Contains-append_cases (r.0 ∷ []) (stopping rs) stop c)
  where
    same : Contains (r.0 ∷ []) stop → r.0 ≡ stop
    same here = All-contains (λ n. r.0 ≡ n) (r.0 ∷ []) stop (All-cons (λ n. r.0 ≡ n) r.0 [] refl (All-nil (λ n. r.0 ≡ n))) here
at_more stop r rs rest false e c = at_back stop (r ∷ []) rs (rest c)

at_told : (stop : ℕ) (rs : List Numbered) → Contains (stopping rs) stop → StopsAt stop rs
at_told stop [] c = absurd (let h : c.0 < 0 = c.1 in omega arith)
at_told stop (r ∷ rs) c = at_more stop r rs (λ t. at_told stop rs t) (stops r.1.left) refl c

module _ (Q : Numbered → Type 0) (board : BoardView) (stop : ℕ) where
  abbrev C : ℕ
  C = board.chunks

  -- a worker's shift on the board, each result of which has Q
  abbrev pub Does : Shift → Type 0
  Does s = (s.seat.board ≡ board.id) × IfOk s.results (λ v. HasWorked C blank s.seat.hand v.items × All Q v.items)

  abbrev Met : Shift → Type 0
  Met s = IsOk s.results

  abbrev D : ℕ
  D = limit_of stop C

  -- what a seat saw lies at the stop or past it
  abbrev Above : Hand → Type 0
  Above h = All (λ w. stop ≤ w) h.saw

  one_weighs : (f : ℕ → ℕ) (seat : SeatView) (results : Results) → Does (record { seat = seat; results = results }) → IsOk results → Above seat.hand → sum_by (cut_at D f) seat.hand.drawn ≡ sum_by (cut_at D f) (numbers (results_in results))
  one_weighs f seat (Err e) does ok above = absurd (true≢false (sym ok))
  one_weighs f seat (Ok v) does ok above =
      let g = cut_at D f in
      let w = does.1.0 in
      let none = cut_drops D f w.last (omega (arith, limit_le stop C, w.past)) in
      let same = marks_weigh C stop f seat.hand.saw w.marks above w.below w.seen in
      ap (sum_by g) w.drawn ∙ omega (arith, sum_by_push g (marked w.marks) w.last, none, same, ap (sum_by g) w.ran)

  all_weigh : (f : ℕ → ℕ) (shifts : List Shift) → All Does shifts → All Met shifts → All Above (hands shifts)
      → sum_by (cut_at D f) (drawn_by (hands shifts)) ≡ sum_by (cut_at D f) (numbers (flat_map results_of shifts))
  all_weigh f [] does ok above = refl
  all_weigh f (s ∷ ss) does ok above =
      let g = cut_at D f in
      let first = one_weighs f s.seat s.results (All-head Does s ss does) (All-head Met s ss ok) (All-head Above s.seat.hand (hands ss) above) in
      let rest = all_weigh f ss (All-tail Does s ss does) (All-tail Met s ss ok) (All-tail Above s.seat.hand (hands ss) above) in
      let joined : numbers (flat_map results_of (s ∷ ss)) ≡ numbers (results_of s) ++ numbers (flat_map results_of ss) = map-append (λ (r : Numbered). r.0) (results_of s) (flat_map results_of ss) in
      omega (arith, sum_by-append g s.seat.hand.drawn (drawn_by (hands ss)), first, rest, ap (sum_by g) joined, sum_by-append g (numbers (results_of s)) (numbers (flat_map results_of ss)))

  -- the first worker was told that no chunk is left
  told_done : (ss : List Shift) (n : ℕ) (seat : SeatView) (results : Results) → Does (record { seat = seat; results = results }) → IsOk results → All (λ m. m < n) (seat.hand.drawn ++ drawn_by (hands ss)) → C ≤ n
  told_done ss n seat (Err e) does ok all = absurd (true≢false (sym ok))
  told_done ss n seat (Ok v) does ok all =
      let P : ℕ → Type 0 = λ m. m < n in
      let w = does.1.0 in
      let past : C ≤ w.last = w.past in
      let mine : All P (marked w.marks ++ w.last ∷ []) = subst (All P) w.drawn (all_front P seat.hand.drawn (drawn_by (hands ss)) all) in
      let small : w.last < n = All-head P w.last [] (all_back P (marked w.marks) (w.last ∷ []) mine) in
      omega arith

  -- the results below the limit are of the chunks there, each once
  pub each_once : (counter : ℕ) (shifts : List Shift) → All Does shifts → All Met shifts → 0 < length shifts → Lawful C counter stop (hands shifts)
      → Weighs (range_with_len 0 D) (numbers (kept_below number D (flat_map results_of shifts)))
  each_once counter [] does ok some lawful f = absurd (omega arith)
  each_once counter (s ∷ ss) does ok some lawful f =
      let H = hands (s ∷ ss) in
      let past : C ≤ counter = told_done ss counter s.seat s.results (All-head Does s ss does) (All-head Met s ss ok) (all_drawn_below C counter stop H lawful) in
      sym (drawn_weigh C counter stop D H f lawful (omega (arith, limit_le stop C, past)))
      ∙ (all_weigh f (s ∷ ss) does ok (saw_above C counter stop H lawful) ∙ cut_filter number D f (flat_map results_of (s ∷ ss)))

  one_made : (seat : SeatView) (results : Results) → Does (record { seat = seat; results = results }) → All Q (results_in results)
  one_made seat (Err e) does = All-nil Q
  one_made seat (Ok v) does = does.1.1

  pub all_made : (shifts : List Shift) → All Does shifts → All Q (flat_map results_of shifts)
  all_made [] does = All-nil Q
  all_made (s ∷ ss) does = All-append Q (results_of s) (flat_map results_of ss) (one_made s.seat s.results (All-head Does s ss does)) (all_made ss (All-tail Does s ss does))

  one_at : (seat : SeatView) (results : Results) → Does (record { seat = seat; results = results }) → IsOk results → Contains seat.hand.told stop → StopsAt stop (results_in results)
  one_at seat (Err e) does ok here = absurd (true≢false (sym ok))
  one_at seat (Ok v) does ok here = at_told stop v.items (subst (λ (l : List ℕ). Contains l stop) does.1.0.told here)

  find_stop : (shifts : List Shift) → All Does shifts → All Met shifts → Contains (told_by (hands shifts)) stop → StopsAt stop (flat_map results_of shifts)
  find_stop [] does ok told = absurd (let h : told.0 < 0 = told.1 in omega arith)
  find_stop (s ∷ ss) does ok told =
      ⊎_elim
      (λ (here : Contains s.seat.hand.told stop). at_front stop (results_of s) (flat_map results_of ss) (one_at s.seat s.results (All-head Does s ss does) (All-head Met s ss ok) here))
      (λ (there : Contains (told_by (hands ss)) stop). at_back stop (results_of s) (flat_map results_of ss) (find_stop ss (All-tail Does s ss does) (All-tail Met s ss ok) there))
      (Contains-append_cases s.seat.hand.told (told_by (hands ss)) stop told)

  -- where the stop is a chunk, that chunk was not left through
  pub at_stop : (counter : ℕ) (shifts : List Shift) → All Does shifts → All Met shifts → Lawful C counter stop (hands shifts) → stop < C → StopsAt stop (flat_map results_of shifts)
  at_stop counter shifts does ok lawful small = find_stop shifts does ok (least_told C counter stop (hands shifts) lawful small)

pub stop_kept : (stop C : ℕ) (rs sorted : List Numbered) → IsPermutation (kept_below number (limit_of stop C) rs) sorted → stop < C → StopsAt stop rs → StopsAt stop sorted
stop_kept stop C rs sorted perm small e = (
  e.0,
  Contains-permutation (kept_below number (limit_of stop C) rs) sorted e.0 perm
      (contains_filter (λ (r : Numbered). nat_lt r.0 (limit_of stop C)) rs e.0 (limit_at stop C e.0.0 e.3 small) e.1),
  e.2,
  e.3,
)
