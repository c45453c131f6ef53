-- What a lawful history of a board says.
use Rattle.std.proofs.Common.{◌≡◌, ℕ, zero, suc, ◌+◌, ◌<◌, ◌≤◌, cond, nat_lt, List, [], ◌∷◌, ◌++◌, length, get_or, replicate, All, Contains, IsPermutation, sum_by, ◌==◌, refl, sym, ap, ◌∙◌, subst, ⊎_elim, arith}
use native.Mathlib.Decide.{dec_le}
use Rattle.std.specs.List.{flat_map, range_with_len}
use Rattle.std.proofs.lemmas.Bool.Decides.{nat_tests}
use Rattle.std.proofs.lemmas.List.FromFn.{length-range_with_len, get_or-range_with_len}
use Rattle.std.proofs.lemmas.List.Elements.{All-head, All-tail, All-nil, All-push, All-weaker, All-contains, All-replicate, Contains-get_or, Contains-push, Contains-append_cases}
use Rattle.std.proofs.lemmas.List.Sorted.{IsPermutation-refl, length_permutation, All-permutation, Contains-permutation, sum_by-IsPermutation}
use Rattle.std.proofs.lemmas.List.Sums.{sum_by-cons}
use Rattle.pawk_board.specs.declared.hand.Hand.{Hand}
use Rattle.pawk_board.specs.History.{blank, drawn_by, told_by, IsLeast, ToldOwn, SawStops, Lawful, AreTheWords, EachOnce, DoneMeansAll, PastMeansTold}
use Rattle.pawk_board.specs.Views.{SeatView, hands_in}
use Rattle.pawk_board.proofs.Weights.{cut_at, range_below, range_cut}

-- lists of seats that have done nothing are empty together
flat_none : (f : Hand → List ℕ) → f blank ≡ [] → (n : ℕ) → flat_map f (replicate n blank) ≡ []
flat_none f e zero = refl
flat_none f e (suc n) = ap (λ l. l ++ flat_map f (replicate n blank)) e ∙ flat_none f e n

-- a counter of 0 and a stop at the count of chunks are lawful for seats that have done nothing
pub lawful_start : (C n : ℕ) → Lawful C 0 C (replicate n blank)
lawful_start C n =
    let H : List Hand = replicate n blank in
    let drawn : drawn_by H ≡ [] = flat_none (λ (h : Hand). h.drawn) refl n in
    let told : told_by H ≡ [] = flat_none (λ (h : Hand). h.told) refl n in
    record {
      draws = subst (IsPermutation []) (sym drawn) (IsPermutation-refl []);
      told = All-replicate (ToldOwn C) n blank (All-nil (λ k. (k < C) × Contains [] k));
      least = subst (λ (z : List ℕ). IsLeast C (C ∷ z)) (sym told) (Contains-push [] C, All-push (λ x. C ≤ x) [] C (All-nil (λ x. C ≤ x)) (omega arith));
      saw = All-replicate (SawStops C (C ∷ told_by H)) n blank (All-nil (λ w. Contains (C ∷ told_by H) w × (C ≤ w)));
    }

-- what seats have done that are all alike
pub hands_in_fresh : (n : ℕ) (s : SeatView) → hands_in (replicate n s) ≡ replicate n s.hand
hands_in_fresh zero s = refl
hands_in_fresh (suc n) s = ap (λ l. s.hand ∷ l) (hands_in_fresh n s)

-- a list has one least number
pub least_unique : (m n : ℕ) (xs : List ℕ) → IsLeast m xs → IsLeast n xs → m ≡ n
least_unique m n xs a b =
    let le : m ≤ n = All-contains (λ x. m ≤ x) xs n a.1 b.0 in
    let ge : n ≤ m = All-contains (λ x. n ≤ x) xs m b.1 a.0 in
    omega arith

-- what the seats did settles both words
pub lawful_words : (C n m s t : ℕ) (hands : List Hand) → Lawful C n s hands → Lawful C m t hands → (n ≡ m) × (s ≡ t)
lawful_words C n m s t hands a b =
    let first : length (drawn_by hands) ≡ n = length_permutation (range_with_len 0 n) (drawn_by hands) a.draws ∙ length-range_with_len 0 n in
    let second : length (drawn_by hands) ≡ m = length_permutation (range_with_len 0 m) (drawn_by hands) b.draws ∙ length-range_with_len 0 m in
    (sym first ∙ second, least_unique s t (C ∷ told_by hands) a.least b.least)

-- lawful words are the only ones
pub are_the_words : (C n s : ℕ) (hands : List Hand) → Lawful C n s hands → AreTheWords C n s hands
are_the_words C n s hands l = (l, λ m t other. lawful_words C m n t s hands other l)

-- the words of a new board: the counter is 0, and the stop is the count of chunks
pub words_at_start : (C n : ℕ) (s : SeatView) → s.hand ≡ blank → AreTheWords C 0 C (hands_in (replicate n s))
words_at_start C n s none =
    let hands : hands_in (replicate n s) ≡ replicate n blank = hands_in_fresh n s ∙ ap (replicate n) none in
    are_the_words C 0 C _ (subst (Lawful C 0 C) (sym hands) (lawful_start C n))

-- all numbers that were drawn are below the counter
pub all_drawn_below : (C n s : ℕ) (hands : List Hand) → Lawful C n s hands → All (λ m. m < n) (drawn_by hands)
all_drawn_below C n s hands l = All-permutation (λ m. m < n) (range_with_len 0 n) (drawn_by hands) l.draws (range_below n)

-- the numbers below n hold each of them
range_contains : (n k : ℕ) → k < n → Contains (range_with_len 0 n) k
range_contains n k h =
    let e : get_or (range_with_len 0 n) k 0 ≡ k = get_or-range_with_len 0 n k 0 h ∙ (omega arith) in
    subst (Contains (range_with_len 0 n)) e (Contains-get_or (range_with_len 0 n) k 0 (omega (arith, length-range_with_len 0 n)))

-- each number below the counter was drawn
pub below_is_drawn : (C n s k : ℕ) (hands : List Hand) → Lawful C n s hands → k < n → Contains (drawn_by hands) k
below_is_drawn C n s k hands l h = Contains-permutation (range_with_len 0 n) (drawn_by hands) k l.draws (range_contains n k h)

-- what the numbers below D weigh among all that were drawn, however they are weighed
pub drawn_weigh : (C n s D : ℕ) (hands : List Hand) (f : ℕ → ℕ) → Lawful C n s hands → D ≤ n → sum_by (cut_at D f) (drawn_by hands) ≡ sum_by f (range_with_len 0 D)
drawn_weigh C n s D hands f l h = sum_by-IsPermutation (cut_at D f) (range_with_len 0 n) (drawn_by hands) l.draws ∙ range_cut D n f h

-- 1 for the number k, else 0
abbrev one_at : ℕ → ℕ → ℕ
one_at k m = cond (m == k) 1 0

-- 1 for a number below n, else 0
abbrev one_below : ℕ → ℕ → ℕ
one_below n k = cond (nat_lt k n) 1 0

one_there : (k m : ℕ) → m ≡ k → one_at k m ≡ 1
one_there k m e = grind (arith, nat_tests)

one_elsewhere : (k m : ℕ) → ¬ (m ≡ k) → one_at k m ≡ 0
one_elsewhere k m e = grind (arith, nat_tests)

is_below : (n k : ℕ) → k < n → one_below n k ≡ 1
is_below n k h = grind (arith, nat_tests)

not_below : (n k : ℕ) → n ≤ k → one_below n k ≡ 0
not_below n k h = grind (arith, nat_tests)

count_none : (k a n : ℕ) → k < a → sum_by (one_at k) (range_with_len a n) ≡ 0
count_none k a zero h = refl
count_none k a (suc n) h =
    let rest = count_none k (a + 1) n (omega arith) in
    let one = one_elsewhere k a (λ e. omega arith) in
    omega (arith, rest, one, sum_by-cons (one_at k) a (range_with_len (a + 1) n))

-- how often a number occurs among those from a on
count_range : (k a n : ℕ) → a ≤ k → Dec (k ≤ a) → sum_by (one_at k) (range_with_len a n) ≡ one_below (a + n) k
count_range k a zero h d = sym (not_below (a + zero) k (omega arith))
count_range k a (suc n) h (yes le) =
    let rest = count_none k (a + 1) n (omega arith) in
    let one = one_there k a (omega arith) in
    let all = is_below (a + suc n) k (omega arith) in
    omega (arith, rest, one, all, sum_by-cons (one_at k) a (range_with_len (a + 1) n))
count_range k a (suc n) h (no gt) =
    let rest = count_range k (a + 1) n (omega arith) (dec_le k (a + 1)) in
    let one = one_elsewhere k a (λ e. omega arith) in
    let same : (a + 1) + n ≡ a + suc n = omega arith in
    let all : one_below ((a + 1) + n) k ≡ one_below (a + suc n) k = ap (λ (x : ℕ). one_below x k) same in
    omega (arith, rest, one, all, sum_by-cons (one_at k) a (range_with_len (a + 1) n))

-- each number below the counter was drawn once, and no other
pub each_once : (C n s : ℕ) (hands : List Hand) → Lawful C n s hands → EachOnce n hands
each_once C n s hands l = λ k.
    let z : 0 + n ≡ n = omega arith in
    sum_by-IsPermutation (one_at k) (range_with_len 0 n) (drawn_by hands) l.draws ∙ (count_range k 0 n (omega arith) (dec_le k 0) ∙ ap (λ (x : ℕ). one_below x k) z)

-- where a seat was told that no chunk is left, the counter is past the last chunk
pub done_counter : (C n s past : ℕ) (hands : List Hand) → Lawful C n s hands → Contains (drawn_by hands) past → C ≤ past → C ≤ n
done_counter C n s past hands l there h =
    let below : past < n = All-contains (λ m. m < n) (drawn_by hands) past (all_drawn_below C n s hands l) there in
    omega arith

-- where a seat was told that no chunk is left, all chunks were drawn
pub done_means_all : (C n s : ℕ) (hands : List Hand) → Lawful C n s hands → DoneMeansAll C hands
done_means_all C n s hands l = λ k past there h small.
    let far : C ≤ n = done_counter C n s past hands l there h in
    below_is_drawn C n s k hands l (omega arith)

-- no stop that was reported is below the stop
pub told_above : (C n s : ℕ) (hands : List Hand) → Lawful C n s hands → All (λ t. s ≤ t) (told_by hands)
told_above C n s hands l = All-tail (λ t. s ≤ t) C (told_by hands) l.least.1

-- the stop is at most the count of chunks
pub stop_below : (C n s : ℕ) (hands : List Hand) → Lawful C n s hands → s ≤ C
stop_below C n s hands l = All-head (λ t. s ≤ t) C (told_by hands) l.least.1

-- no stop that a seat saw is below the stop
pub saw_above : (C n s : ℕ) (hands : List Hand) → Lawful C n s hands → All (λ h. All (λ w. s ≤ w) h.saw) hands
saw_above C n s hands l =
    All-weaker (SawStops s (C ∷ told_by hands)) (λ h. All (λ w. s ≤ w) h.saw) (λ h. All-weaker (λ w. Contains (C ∷ told_by hands) w × (s ≤ w)) (λ w. s ≤ w) (λ w p. p.1) h.saw) hands l.saw

-- of the stops that a board knows, those below the count of chunks were reported
stop_told : (C w : ℕ) (told : List ℕ) → Contains (C ∷ told) w → w < C → Contains told w
stop_told C w told there small =
    ⊎_elim
    (λ (here : Contains (C ∷ []) w). absurd (let same : C ≤ w = All-contains (λ x. C ≤ x) (C ∷ []) w (All-push (λ x. C ≤ x) [] C (All-nil (λ x. C ≤ x)) (omega arith)) here in omega arith))
    (λ (rest : Contains told w). rest)
    (Contains-append_cases (C ∷ []) told w there)

-- a stop that is a chunk was reported
pub least_told : (C n s : ℕ) (hands : List Hand) → Lawful C n s hands → s < C → Contains (told_by hands) s
least_told C n s hands l small = stop_told C s (told_by hands) l.least.0 small

-- where a number was found past the stop, a stop below it was reported
pub past_means_told : (C n s : ℕ) (hands : List Hand) → Lawful C n s hands → PastMeansTold C s hands
past_means_told C n s hands l =
    All-weaker (SawStops s (C ∷ told_by hands)) (λ h. (k w : ℕ) → Contains h.saw w → w < k → w < C → Contains (told_by hands) w × (s < k))
    (λ h saw k w there past small.
    let p = All-contains (λ x. Contains (C ∷ told_by hands) x × (s ≤ x)) h.saw w saw there in
    (stop_told C w (told_by hands) p.0 small, omega (arith, p.1)))
    hands l.saw
