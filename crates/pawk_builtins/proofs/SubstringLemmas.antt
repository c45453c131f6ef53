-- What stands at places from one on.
use Rattle.std.proofs.Common.{◌≡◌, ℕ, suc, ◌+◌, ◌<◌, ◌≤◌, Bool, true, false, leb, ltb, ◌&&◌, ℤ, pos, ◌+ℤ◌, List, [], ◌∷◌, ◌++◌, length, refl, sym, ap, subst, ◌∙◌, arith, append-nil}
use Rattle.std.specs.Prelude.{int_le, int_lt}
use Rattle.std.proofs.lemmas.Bool.{cond-true, cond-false, and_left, and_right, and_from, lt-leb, le-leb, lt-ltb, le-ltb}
use Rattle.pawk_store.specs.Builtins.{bytes_where, is_from}
use Rattle.pawk_builtins.specs.TextLaws.{SubstringLaw}

-- no place up to the end of the front passes
passed_over : (test : ℕ → Bool) (place : ℕ) (front s : List ℕ) → ((p : ℕ) → place ≤ p → p < place + length front → test p ≡ false) →
    bytes_where test place (front ++ s) ≡ bytes_where test (place + length front) s
passed_over test place [] s h = ap (λ n. bytes_where test n s) (omega arith)
passed_over test place (b ∷ front) s h =
    let next : suc place + length front ≡ place + suc (length front) = omega arith in
    cond-false (test place) _ _ (h place (omega arith) (omega arith))
    ∙ (passed_over test (suc place) front s (λ p low high. h p (omega arith) (omega arith)) ∙ ap (λ n. bytes_where test n s) next)

-- each place up to the end of the middle passes
taken : (test : ℕ → Bool) (place : ℕ) (middle s : List ℕ) → ((p : ℕ) → place ≤ p → p < place + length middle → test p ≡ true) →
    bytes_where test place (middle ++ s) ≡ middle ++ bytes_where test (place + length middle) s
taken test place [] s h = ap (λ n. bytes_where test n s) (omega arith)
taken test place (b ∷ middle) s h =
    let next : suc place + length middle ≡ place + suc (length middle) = omega arith in
    cond-true (test place) _ _ (h place (omega arith) (omega arith))
    ∙ ap (λ t. b ∷ t) (taken test (suc place) middle s (λ p low high. h p (omega arith) (omega arith)) ∙ ap (λ n. middle ++ bytes_where test n s) next)

none_left : (test : ℕ → Bool) (place : ℕ) (back : List ℕ) → ((p : ℕ) → place ≤ p → test p ≡ false) → bytes_where test place back ≡ []
none_left test place [] h = refl
none_left test place (b ∷ back) h =
    cond-false (test place) _ _ (h place (omega arith)) ∙ none_left test (suc place) back (λ p low. h p (omega arith))

part : (front middle back : List ℕ) → bytes_where (is_from (pos (length front + 1)) (pos (length middle))) 1 (front ++ (middle ++ back)) ≡ middle
part front middle back =
    let a = length front + 1 in
    let b = a + length middle in
    let test = is_from (pos a) (pos (length middle)) in
    passed_over test 1 front (middle ++ back) (λ p low high. and_left (leb a p) (ltb p b) (lt-leb a p (omega arith)))
    ∙ (taken test (1 + length front) middle back (λ p low high. and_from (leb a p) (ltb p b) (le-leb a p (omega arith)) (lt-ltb p b (omega arith)))
    ∙ (ap (λ t. middle ++ t) (none_left test (1 + length front + length middle) back (λ p low. and_right (leb a p) (ltb p b) (le-ltb p b (omega arith))))
    ∙ append-nil middle))

rest : (front back : List ℕ) → bytes_where (λ p. int_le (pos (length front + 1)) (pos p)) 1 (front ++ back) ≡ back
rest front back =
    let a = length front + 1 in
    let test : ℕ → Bool = λ p. int_le (pos a) (pos p) in
    let whole : bytes_where test (1 + length front) (back ++ []) ≡ back =
    taken test (1 + length front) back [] (λ p low high. le-leb a p (omega arith)) ∙ append-nil back in
    passed_over test 1 front back (λ p low high. lt-leb a p (omega arith))
    ∙ (ap (bytes_where test (1 + length front)) (sym (append-nil back)) ∙ whole)

limited : (front back : List ℕ) (n : ℕ) → length back ≤ n → bytes_where (is_from (pos (length front + 1)) (pos n)) 1 (front ++ back) ≡ back
limited front back n long =
    let a = length front + 1 in
    let b = a + n in
    let test = is_from (pos a) (pos n) in
    let whole : bytes_where test (1 + length front) (back ++ []) ≡ back =
    taken test (1 + length front) back [] (λ p low high. and_from (leb a p) (ltb p b) (le-leb a p (omega arith)) (lt-ltb p b (omega arith)))
    ∙ append-nil back in
    passed_over test 1 front back (λ p low high. and_left (leb a p) (ltb p b) (lt-leb a p (omega arith)))
    ∙ (ap (bytes_where test (1 + length front)) (sym (append-nil back)) ∙ whole)

pub substring_law : (front middle back : List ℕ) → SubstringLaw front middle back
substring_law front middle back = record {
  part = part front middle back;
  rest = rest front back;
  limited = limited front back;
}
