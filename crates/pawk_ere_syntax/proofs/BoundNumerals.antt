-- What `bound_at` reads is a bound, and it reads each.
use Rattle.std.proofs.Common.{◌≡◌, ◌↔◌, ℕ, ◌+◌, ◌-◌, ◌*◌, ◌<◌, ◌≤◌, ◌&&◌, ◌==◌, min, Bool, true, false, cond, leb, eqb-true, Option, Some, None, List, [], ◌∷◌, ◌++◌, refl, sym, ap, subst, ◌∙◌, arith, inl, inr, ⊎_elim}
use Rattle.std.specs.Char.{digit_value}
use Rattle.std.specs.Str.Parse.{AllDigits, IsNumeral, digits_value, digits_value_after}
use Rattle.std.proofs.lemmas.Bool.{and_parts, leb-true, le-leb}
use Rattle.std.proofs.lemmas.Str.{digit_value_digit}
use Rattle.std.proofs.lemmas.Str.Parse.{digit_from_value}
use Rattle.pawk_ere_syntax.specs.declared.token.EreToken.{EreToken}
use Rattle.pawk_ere_syntax.specs.declared.token.EreToken.TheVariants.{Times}
use Rattle.pawk_ere_syntax.specs.Bounds.{is_digit, number_more, number_at, from_least, between, most_of, after_comma, bound_of, bound_at}
use Rattle.pawk_ere_syntax.specs.Numerals.{IsBoundOf, IsExact, IsFrom, IsBetween, IsBound}
use Rattle.pawk_ere_syntax.proofs.Reading.{some_inj}

digit_true : (c : ℕ) → digit_value c < 10 → is_digit c ≡ true
digit_true c h = let r = digit_from_value c h in rw (le-leb 48 c r.0, le-leb c 57 (omega (arith, r.1))) refl

digit_is : (c : ℕ) → is_digit c ≡ true → (digit_value c < 10) × (digit_value c ≡ c - 48)
digit_is c h =
    let p = and_parts (leb 48 c) (leb c 57) h in
    let low = leb-true 48 c p.0 in
    let high = leb-true c 57 p.1 in
    let v = digit_value_digit c (low, omega arith) in
    (omega arith, omega arith)

-- no digit goes on with a number here
abbrev NoDigit : List ℕ → Type 0
NoDigit [] = Unit {0}
NoDigit (c ∷ rest) = is_digit c ≡ false

more_stops : (v : ℕ) (rest : List ℕ) → NoDigit rest → number_more v rest ≡ (v, rest)
more_stops v [] h = refl
more_stops v (c ∷ rest) h = rw h refl

step_same : (v c : ℕ) → digit_value c ≡ c - 48 → min (min v 256 * 10 + (c - 48)) 256 ≡ min (v * 10 + digit_value c) 256
step_same v c h = omega arith

more_reads : (ds rest : List ℕ) (v : ℕ) → AllDigits 10 ds → NoDigit rest → number_more (min v 256) (ds ++ rest) ≡ (min (digits_value_after 10 v ds) 256, rest)
more_reads [] rest v h stop = more_stops (min v 256) rest stop
more_reads (d ∷ ds) rest v h stop =
    let is = digit_true d h.0 in
    let e = step_same v d (digit_is d is).1 in
    let first : number_more (min v 256) ((d ∷ ds) ++ rest) ≡ number_more (min (min v 256 * 10 + (d - 48)) 256) (ds ++ rest) = rw is refl in
    first ∙ ap (λ k. number_more k (ds ++ rest)) e ∙ more_reads ds rest (v * 10 + digit_value d) h.1 stop

number_reads : (ds rest : List ℕ) → IsNumeral 10 ds → NoDigit rest → number_at (ds ++ rest) ≡ Some (min (digits_value 10 ds) 256, rest)
unfolding number_at
number_reads [] rest h stop = absurd (let x = h.0 in omega arith)
number_reads (d ∷ ds) rest h stop =
    let is = digit_true d h.1.0 in
    let v = digit_is d is in
    let e : d - 48 ≡ min (0 * 10 + digit_value d) 256 = omega arith in
    let first : number_at ((d ∷ ds) ++ rest) ≡ Some (number_more (d - 48) (ds ++ rest)) = rw is refl in
    first ∙ ap (λ k. Some (number_more k (ds ++ rest))) e ∙ ap Some (more_reads ds rest (0 * 10 + digit_value d) h.1.1 stop)

-- the digits that were read
abbrev Read : ℕ → List ℕ → ℕ × List ℕ → Type 0
Read v bytes x = (ds : List ℕ) × (bytes ≡ ds ++ x.1) × AllDigits 10 ds × (x.0 ≡ min (digits_value_after 10 v ds) 256)

more_read : (bytes : List ℕ) (v : ℕ) (x : ℕ × List ℕ) → number_more (min v 256) bytes ≡ x → Read v bytes x
more_read [] v x h = ([], ap (λ q. q.1) h, tt, ap (λ q. q.0) (sym h))
more_read (c ∷ rest) v x h = go (is_digit c) refl h (λ same. more_read rest (v * 10 + digit_value c) x same)
  where
    go : (b : Bool) → is_digit c ≡ b → cond b (number_more (min (min v 256 * 10 + (c - 48)) 256) rest) (min v 256, c ∷ rest) ≡ x
        → (number_more (min (v * 10 + digit_value c) 256) rest ≡ x → Read (v * 10 + digit_value c) rest x) → Read v (c ∷ rest) x
    go true is h again =
        let d = digit_is c is in
        let y = again (ap (λ k. number_more k rest) (sym (step_same v c d.1)) ∙ h) in
        (c ∷ y.0, ap (λ r. c ∷ r) y.1, (d.0, y.2), y.3)
    go false is h again = ([], ap (λ q. q.1) h, tt, ap (λ q. q.0) (sym h))

number_read : (bytes rest : List ℕ) (n : ℕ) → number_at bytes ≡ Some (n, rest) → (ds : List ℕ) × (bytes ≡ ds ++ rest) × IsNumeral 10 ds × (n ≡ min (digits_value 10 ds) 256)
unfolding number_at
number_read [] rest n h = cc
number_read (c ∷ more) rest n h = go (is_digit c) refl h
  where
    go : (b : Bool) → is_digit c ≡ b → cond b (Some (number_more (c - 48) more)) None ≡ Some (n, rest) → (ds : List ℕ) × (c ∷ more ≡ ds ++ rest) × IsNumeral 10 ds × (n ≡ min (digits_value 10 ds) 256)
    go true is h =
        let d = digit_is c is in
        let e : min (0 * 10 + digit_value c) 256 ≡ c - 48 = omega arith in
        let y = more_read more (0 * 10 + digit_value c) (n, rest) (ap (λ k. number_more k more) e ∙ some_inj _ _ h) in
        (c ∷ y.0, ap (λ r. c ∷ r) y.1, (omega arith, (d.0, y.2)), y.3)
    go false is h = cc

-- a number that was read within the limit
within : (ds : List ℕ) (n : ℕ) → IsNumeral 10 ds → n ≡ min (digits_value 10 ds) 256 → n ≤ 255 → IsBoundOf ds n
within ds n is e le = (is, omega arith, le)

times_inj : (n m : ℕ) (a b : Option ℕ) → Times n a ≡ Times m b → (n ≡ m) × (b ≡ a)
times_inj n m a b h = (cc, cc)

same_bound : (n m : ℕ) (a b : Option ℕ) (r rest : List ℕ) → ◌≡◌ {A = Option (EreToken × List ℕ)} (Some (Times n a, r)) (Some (Times m b, rest)) → (n ≡ m) × (b ≡ a) × (r ≡ rest)
same_bound n m a b r rest h =
    let p = some_inj {A = EreToken × List ℕ} (Times n a, r) (Times m b, rest) h in
    let t = times_inj n m a b (ap (λ q. q.0) p) in
    (t.0, t.1, ap (λ q. q.1) p)

from_read : (n least : ℕ) (most : Option ℕ) (r rest : List ℕ) → from_least n r ≡ Some (Times least most, rest) → (n ≤ 255) × (n ≡ least) × (most ≡ None) × (r ≡ rest)
from_read n least most r rest h = go (leb n 255) refl h
  where
    go : (b : Bool) → leb n 255 ≡ b → cond {A = Option (EreToken × List ℕ)} b (Some (Times n None, r)) None ≡ Some (Times least most, rest) → (n ≤ 255) × (n ≡ least) × (most ≡ None) × (r ≡ rest)
    go true is h = let e = same_bound n least None most r rest h in (leb-true n 255 is, e.0, e.1, e.2)
    go false is h = cc

between_read : (n k least : ℕ) (most : Option ℕ) (r rest : List ℕ) → between n k r ≡ Some (Times least most, rest) → (n ≤ k) × (k ≤ 255) × (n ≡ least) × (most ≡ Some k) × (r ≡ rest)
between_read n k least most r rest h = go (leb n k && leb k 255) refl h
  where
    go : (b : Bool) → (leb n k && leb k 255) ≡ b → cond {A = Option (EreToken × List ℕ)} b (Some (Times n (Some k), r)) None ≡ Some (Times least most, rest) → (n ≤ k) × (k ≤ 255) × (n ≡ least) × (most ≡ Some k) × (r ≡ rest)
    go true is h = let p = and_parts (leb n k) (leb k 255) is in let e = same_bound n least (Some k) most r rest h in (leb-true n k p.0, leb-true k 255 p.1, e.0, e.1, e.2)
    go false is h = cc

-- the bound that a text was read as
exact_read : (bytes left r rest ds : List ℕ) (n least : ℕ) (most : Option ℕ) → bytes ≡ ds ++ left → left ≡ 125 ∷ r → IsNumeral 10 ds → n ≡ min (digits_value 10 ds) 256 → between n n r ≡ Some (Times least most, rest) → IsExact bytes least most rest
exact_read bytes left r rest ds n least most is at num v h =
    let p = between_read n n least most r rest h in
    (ds, is ∙ ap (λ l. ds ++ l) (at ∙ ap (λ l. 125 ∷ l) p.4), subst (IsBoundOf ds) p.2 (within ds n num v p.1), p.3 ∙ ap Some p.2)

from_is : (bytes left r rest ds : List ℕ) (n least : ℕ) (most : Option ℕ) → bytes ≡ ds ++ left → left ≡ 44 ∷ 125 ∷ r → IsNumeral 10 ds → n ≡ min (digits_value 10 ds) 256 → from_least n r ≡ Some (Times least most, rest) → IsFrom bytes least most rest
from_is bytes left r rest ds n least most is at num v h =
    let p = from_read n least most r rest h in
    (ds, is ∙ ap (λ l. ds ++ l) (at ∙ ap (λ l. 44 ∷ 125 ∷ l) p.3), subst (IsBoundOf ds) p.1 (within ds n num v p.0), p.2)

most_read : (bytes left behind rest ds : List ℕ) (n least : ℕ) (most : Option ℕ) → bytes ≡ ds ++ left → left ≡ 44 ∷ behind → IsNumeral 10 ds → n ≡ min (digits_value 10 ds) 256
    → most_of n (number_at behind) ≡ Some (Times least most, rest) → IsBetween bytes least most rest
most_read bytes left behind rest ds n least most is at num v h = go (number_at behind) refl h
  where
    go : (o : Option (ℕ × List ℕ)) → number_at behind ≡ o → most_of n o ≡ Some (Times least most, rest) → IsBetween bytes least most rest
    go None read h = cc
    go (Some (k, [])) read h = cc
    go (Some (k, c ∷ r)) read h = brace (c == 125) refl h
      where
        brace : (b : Bool) → (c == 125) ≡ b → cond b (between n k r) None ≡ Some (Times least most, rest) → IsBetween bytes least most rest
        brace true eq h =
            let p = between_read n k least most r rest h in
            let y = number_read behind (c ∷ r) k read in
            let text : behind ≡ y.0 ++ 125 ∷ rest = y.1 ∙ ap (λ d. y.0 ++ d ∷ r) (eqb-true c 125 eq) ∙ ap (λ l. y.0 ++ 125 ∷ l) p.4 in (
              ds,
              y.0,
              is ∙ ap (λ l. ds ++ l) (at ∙ ap (λ l. 44 ∷ l) text),
              subst (IsBoundOf ds) p.2 (within ds n num v (omega (arith, p.0, p.1))),
              k,
              within y.0 k y.2 y.3 p.1,
              p.3,
              subst (λ l. l ≤ k) p.2 p.0,
            )
        brace false eq h = cc

comma_read : (bytes left behind rest ds : List ℕ) (n least : ℕ) (most : Option ℕ) → bytes ≡ ds ++ left → left ≡ 44 ∷ behind → IsNumeral 10 ds → n ≡ min (digits_value 10 ds) 256
    → after_comma n behind ≡ Some (Times least most, rest) → IsBound bytes least most rest
comma_read bytes left [] rest ds n least most is at num v h = cc
comma_read bytes left (c ∷ r) rest ds n least most is at num v h = go (c == 125) refl h
  where
    go : (b : Bool) → (c == 125) ≡ b → cond b (from_least n r) (most_of n (number_at (c ∷ r))) ≡ Some (Times least most, rest) → IsBound bytes least most rest
    go true eq h = inr (inl (from_is bytes left r rest ds n least most is (at ∙ ap (λ d. 44 ∷ d ∷ r) (eqb-true c 125 eq)) num v h))
    go false eq h = inr (inr (most_read bytes left (c ∷ r) rest ds n least most is at num v h))

bound_read : (bytes rest : List ℕ) (least : ℕ) (most : Option ℕ) → bound_at bytes ≡ Some (Times least most, rest) → IsBound bytes least most rest
unfolding bound_at
bound_read bytes rest least most h = go (number_at bytes) refl h
  where
    behind : (n c : ℕ) (r : List ℕ) → number_at bytes ≡ Some (n, c ∷ r) → (a b : Bool) → (c == 125) ≡ a → (c == 44) ≡ b
        → cond a (between n n r) (cond b (after_comma n r) None) ≡ Some (Times least most, rest) → IsBound bytes least most rest
    behind n c r read true b eq ne h =
        let y = number_read bytes (c ∷ r) n read in
        inl (exact_read bytes (c ∷ r) r rest y.0 n least most y.1 (ap (λ d. d ∷ r) (eqb-true c 125 eq)) y.2 y.3 h)
    behind n c r read false true eq ne h =
        let y = number_read bytes (c ∷ r) n read in
        comma_read bytes (c ∷ r) r rest y.0 n least most y.1 (ap (λ d. d ∷ r) (eqb-true c 44 ne)) y.2 y.3 h
    behind n c r read false false eq ne h = cc

    go : (o : Option (ℕ × List ℕ)) → number_at bytes ≡ o → bound_of o ≡ Some (Times least most, rest) → IsBound bytes least most rest
    go None read h = cc
    go (Some (n, [])) read h = cc
    go (Some (n, c ∷ r)) read h = behind n c r read (c == 125) (c == 44) refl refl h

-- a numeral within the limit is read as its number
bound_number : (ds rest : List ℕ) (n : ℕ) → IsBoundOf ds n → NoDigit rest → number_at (ds ++ rest) ≡ Some (n, rest)
bound_number ds rest n h stop =
    let e : min (digits_value 10 ds) 256 ≡ n = omega (arith, h.1, h.2) in
    number_reads ds rest h.0 stop ∙ ap (λ k. Some (k, rest)) e

between_is : (n k : ℕ) (r : List ℕ) → n ≤ k → k ≤ 255 → between n k r ≡ Some (Times n (Some k), r)
between_is n k r a b = rw (le-leb n k a, le-leb k 255 b) refl

from_least_is : (n : ℕ) (r : List ℕ) → n ≤ 255 → from_least n r ≡ Some (Times n None, r)
from_least_is n r a = rw (le-leb n 255 a) refl

exact_reads : (ds rest : List ℕ) (n : ℕ) → IsBoundOf ds n → bound_of (number_at (ds ++ 125 ∷ rest)) ≡ Some (Times n (Some n), rest)
exact_reads ds rest n h = ap bound_of (bound_number ds (125 ∷ rest) n h refl) ∙ between_is n n rest (omega arith) h.2

from_reads : (ds rest : List ℕ) (n : ℕ) → IsBoundOf ds n → bound_of (number_at (ds ++ 44 ∷ 125 ∷ rest)) ≡ Some (Times n None, rest)
from_reads ds rest n h = ap bound_of (bound_number ds (44 ∷ 125 ∷ rest) n h refl) ∙ from_least_is n rest h.2

-- a numeral does not begin with the closing brace
comma_most : (n k : ℕ) (es rest : List ℕ) → IsBoundOf es k → after_comma n (es ++ 125 ∷ rest) ≡ most_of n (number_at (es ++ 125 ∷ rest))
comma_most n k [] rest h = absurd (let x = h.0.0 in omega arith)
comma_most n k (e ∷ es) rest h = go (e == 125) refl
  where
    go : (b : Bool) → (e == 125) ≡ b → cond b (from_least n (es ++ 125 ∷ rest)) (most_of n (number_at (e ∷ (es ++ 125 ∷ rest)))) ≡ most_of n (number_at (e ∷ (es ++ 125 ∷ rest)))
    go true is = let x = digit_from_value e h.0.1.0 in let y = eqb-true e 125 is in absurd (omega (arith, x.1))
    go false is = refl

between_reads : (ds es rest : List ℕ) (n k : ℕ) → IsBoundOf ds n → IsBoundOf es k → n ≤ k → bound_of (number_at (ds ++ 44 ∷ (es ++ 125 ∷ rest))) ≡ Some (Times n (Some k), rest)
between_reads ds es rest n k h g le =
    ap bound_of (bound_number ds (44 ∷ (es ++ 125 ∷ rest)) n h refl)
    ∙ comma_most n k es rest g
    ∙ ap (most_of n) (bound_number es (125 ∷ rest) k g refl)
    ∙ between_is n k rest le g.2

reads_bound : (bytes rest : List ℕ) (least : ℕ) (most : Option ℕ) → IsBound bytes least most rest → bound_at bytes ≡ Some (Times least most, rest)
unfolding bound_at
reads_bound bytes rest least most h = ⊎_elim
    (λ x. ap (λ b. bound_of (number_at b)) x.1 ∙ exact_reads x.0 rest least x.2 ∙ ap (λ m. Some (Times least m, rest)) (sym x.3))
    (λ y. ⊎_elim
    (λ x. ap (λ b. bound_of (number_at b)) x.1 ∙ from_reads x.0 rest least x.2 ∙ ap (λ m. Some (Times least m, rest)) (sym x.3))
    (λ x. ap (λ b. bound_of (number_at b)) x.2 ∙ between_reads x.0 x.1 rest least x.4 x.3 x.5 x.7 ∙ ap (λ m. Some (Times least m, rest)) (sym x.6)) y) h

pub bound_is : (bytes rest : List ℕ) (least : ℕ) (most : Option ℕ) → (bound_at bytes ≡ Some (Times least most, rest)) ↔ IsBound bytes least most rest
bound_is bytes rest least most = (bound_read bytes rest least most, reads_bound bytes rest least most)
