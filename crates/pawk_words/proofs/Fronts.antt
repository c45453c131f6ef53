-- The longest front of bytes that pass a test.
use Rattle.std.proofs.Common.{◌≡◌, ◌≤◌, ◌<◌, ℕ, ◌+◌, Bool, true, false, cond, List, [], ◌∷◌, ◌++◌, length, length-append, get_or, take, drop, refl, sym, ap, ◌∙◌, arith, one-add, append_assoc}
use Rattle.std.specs.List.{prefix_len}
use Rattle.std.proofs.lemmas.Bool.{false≢true}
use Rattle.std.proofs.lemmas.List.{take-append-drop, drop_more}
use Rattle.std.proofs.lemmas.List.Sums.{prefix_len_stops}
use Rattle.pawk_words.specs.Words.{AllAre}

-- a run of bytes that pass, before one that does not, is told from what follows
pub same_runs : (p : ℕ → Bool) (xs ys : List ℕ) (c d : ℕ) (r q : List ℕ) → AllAre p xs → AllAre p ys → p c ≡ false → p d ≡ false → xs ++ c ∷ r ≡ ys ++ d ∷ q → (xs ≡ ys) × (c ≡ d) × (r ≡ q)
same_runs p [] [] c d r q h k n m e =
    let heads : c ≡ d = cc in
    let tails : r ≡ q = cc in
    (refl, heads, tails)
same_runs p [] (y ∷ ys) c d r q h k n m e =
    let heads : c ≡ y = cc in
    absurd (false≢true (sym n ∙ ap p heads ∙ k.0))
same_runs p (x ∷ xs) [] c d r q h k n m e =
    let heads : x ≡ d = cc in
    absurd (false≢true (sym m ∙ ap p (sym heads) ∙ h.0))
same_runs p (x ∷ xs) (y ∷ ys) c d r q h k n m e =
    let heads : x ≡ y = cc in
    let tails : xs ++ c ∷ r ≡ ys ++ d ∷ q = cc in
    let again = same_runs p xs ys c d r q h.1 k.1 n m tails in
    let fronts : xs ≡ ys = again.0 in
    let both : x ∷ xs ≡ y ∷ ys = cc in
    (both, again.1, again.2)

-- the first byte of a run passes
pub first_passes : (p : ℕ → Bool) (xs : List ℕ) (x : ℕ) (s t : List ℕ) → AllAre p xs → 0 < length xs → x ∷ s ≡ xs ++ t → p x ≡ true
first_passes p [] x s t h some e = absurd (omega arith)
first_passes p (y ∷ xs) x s t h some e = let same : x ≡ y = cc in ap p same ∙ h.0

pub run_front : (p : ℕ → Bool) (xs : List ℕ) (c : ℕ) (r : List ℕ) → AllAre p xs → p c ≡ false → prefix_len p (xs ++ c ∷ r) ≡ length xs
run_front p [] c r h n = rw n refl
run_front p (x ∷ xs) c r h n = rw h.0 (let again = run_front p xs c r h.1 n in omega arith)

-- more bytes make the front no shorter
pub front_grows : (p : ℕ → Bool) (s more : List ℕ) → prefix_len p s ≤ prefix_len p (s ++ more)
front_grows p [] more = omega arith
front_grows p (x ∷ s) more = elim (p x) as (λ v. cond v (1 + prefix_len p s) 0 ≤ cond v (1 + prefix_len p (s ++ more)) 0) [
  | true ↦ (let again = front_grows p s more in omega arith)
  | false ↦ omega arith
]

pub front_passes : (p : ℕ → Bool) (s : List ℕ) → AllAre p (take (prefix_len p s) s)
front_passes p [] = tt
front_passes p (x ∷ s) = elim (p x) as (λ v. (p x ≡ v) → AllAre p (take (cond v (1 + prefix_len p s) 0) (x ∷ s))) [
  | true ↦ (λ e. rw (one-add (prefix_len p s)) (e, front_passes p s))
  | false ↦ (λ e. tt)
] refl

pub first_of_front : (p : ℕ → Bool) (x : ℕ) (s : List ℕ) → 0 < prefix_len p (x ∷ s) → p x ≡ true
first_of_front p x s h = elim (p x) as (λ v. 0 < cond v (1 + prefix_len p s) 0 → v ≡ true) [ true ↦ (λ l. refl) | false ↦ (λ l. absurd (omega arith)) ] h

-- bytes as those before a place, the one there, and those after it
pub split_here : (s : List ℕ) (n : ℕ) → n < length s → s ≡ take n s ++ (get_or s n 0 ∷ drop (n + 1) s)
split_here s n h = sym (take-append-drop n s) ∙ ap (λ l. take n s ++ l) (drop_more s n 0 h)

-- what the bytes and more begin with, where the front ends within the bytes
pub same_front : (p : ℕ → Bool) (s more : List ℕ) (n : ℕ) (xs : List ℕ) (c : ℕ) (r : List ℕ) → n ≡ prefix_len p s → n < length s → AllAre p xs → p c ≡ false → s ++ more ≡ xs ++ c ∷ r → (take n s ≡ xs) × (get_or s n 0 ≡ c) × (drop (n + 1) s ++ more ≡ r)
same_front p s more n xs c r is l h m e =
    let passes : AllAre p (take n s) = rw is (front_passes p s) in
    let stops : p (get_or s n 0) ≡ false = rw is (prefix_len_stops p s 0 (rw is at l)) in
    let whole : take n s ++ (get_or s n 0 ∷ (drop (n + 1) s ++ more)) ≡ s ++ more = sym (ap (λ t. t ++ more) (split_here s n l) ∙ append_assoc (take n s) (get_or s n 0 ∷ drop (n + 1) s) more) in
    same_runs p (take n s) xs (get_or s n 0) c (drop (n + 1) s ++ more) r passes h stops m (whole ∙ e)

-- bytes that all pass have none after a run
pub no_end : (p : ℕ → Bool) (s : List ℕ) (xs : List ℕ) (c : ℕ) (r : List ℕ) → prefix_len p s ≡ length s → AllAre p xs → p c ≡ false → s ≡ xs ++ c ∷ r → ⊥
no_end p s xs c r all h n e =
    let front = run_front p xs c r h n in
    let long = ap length e in
    let same = ap (prefix_len p) e in
    omega (arith, front, long, same, length-append xs (c ∷ r))
