-- Writing out the repetitions changes no match.
use Rattle.std.proofs.Common.{◌≡◌, ℕ, zero, suc, ◌+◌, ◌-◌, ◌≤◌, Bool, true, false, cond, get_or, replicate, nat_le, Option, Some, None, List, [], ◌∷◌, ◌++◌, length, refl, sym, subst, inl, inr, ⊎_elim, arith, length-append}
use borrow.Author.Tests.{leb-true, leb-false}
use Rattle.pawk_ere_syntax.specs.Pattern as pattern
use Rattle.pawk_ere_syntax.specs.Pattern.{Pattern, Leads, Holds, Allows, Matches}
use Rattle.pawk_ere_automaton.specs.Regex.{Regex, Bytes, Sequence, Takes, copies}
use Rattle.pawk_ere_syntax.specs.Sets.{none}
use Rattle.pawk_ere_automaton.specs.Expand.{at_most, repeated, expand}

-- each step another relation allows too
leads_map : (R S : ℕ → ℕ → Type 0) → ((i j : ℕ) → R i j → S i j) → (i : ℕ) (ks : List ℕ) (j : ℕ) → Leads R i ks j → Leads S i ks j
leads_map R S h i [] j l = l
leads_map R S h i (k ∷ ks) j l = (h i k l.0, leads_map R S h k ks j l.1)

module _ (a : Regex) (s : List ℕ) where
  Turns : ℕ → ℕ → Type 0
  Turns = Takes a s

  copies_is : (n : ℕ) (i j : ℕ) → Takes (copies n a) s i j → (ks : List ℕ) × (length ks ≡ n) × Leads (Takes a s) i ks j
  copies_is zero i j t = ([], refl, t)
  copies_is (suc n) i j t =
      let x = copies_is n t.0 j t.2 in
      (t.0 ∷ x.0, omega (arith, x.1), (t.1, x.2))

  copies_if : (n : ℕ) (i j : ℕ) (ks : List ℕ) → length ks ≡ n → Leads (Takes a s) i ks j → Takes (copies n a) s i j
  copies_if zero i j [] e l = l
  copies_if zero i j (k ∷ ks) e l = absurd (omega arith)
  copies_if (suc n) i j [] e l = absurd (omega arith)
  copies_if (suc n) i j (k ∷ ks) e l = (k, l.0, copies_if n k j ks (omega arith) l.1)

  at_most_is : (n : ℕ) (i j : ℕ) → Takes (at_most n a) s i j → (ks : List ℕ) × (length ks ≤ n) × Leads (Takes a s) i ks j
  at_most_is zero i j t = ([], omega arith, t)
  at_most_is (suc n) i j t = ⊎_elim
      (λ x. ([], omega arith, x))
      (λ x. let y = at_most_is n x.0 j x.2 in (x.0 ∷ y.0, omega (arith, y.1), (x.1, y.2))) t

  at_most_if : (n : ℕ) (i j : ℕ) (ks : List ℕ) → length ks ≤ n → Leads (Takes a s) i ks j → Takes (at_most n a) s i j
  at_most_if zero i j [] le l = l
  at_most_if zero i j (k ∷ ks) le l = absurd (omega arith)
  at_most_if (suc n) i j [] le l = inl l
  at_most_if (suc n) i j (k ∷ ks) le l = inr (k, l.0, at_most_if n k j ks (omega arith) l.1)

leads_join : (R : ℕ → ℕ → Type 0) (i m j : ℕ) (ks ls : List ℕ) → Leads R i ks m → Leads R m ls j → Leads R i (ks ++ ls) j
leads_join R i m j [] ls x y = subst (λ k. Leads R k ls j) (sym x) y
leads_join R i m j (k ∷ ks) ls x y = (x.0, leads_join R k m j ks ls x.1 y)

-- the first n steps
leads_cut : (R : ℕ → ℕ → Type 0) (n : ℕ) (i j : ℕ) (ks : List ℕ) → n ≤ length ks → Leads R i ks j → (m : ℕ) × (front : List ℕ) × (back : List ℕ) × (length front ≡ n) × (n + length back ≡ length ks) × Leads R i front m × Leads R m back j
leads_cut R zero i j ks le l = (i, [], ks, refl, omega arith, refl, l)
leads_cut R (suc n) i j [] le l = absurd (omega arith)
leads_cut R (suc n) i j (k ∷ ks) le l =
    let x = leads_cut R n k j ks (omega arith) l.1 in
    (x.0, k ∷ x.1, x.2, omega (arith, x.3), omega (arith, x.4), (l.0, x.5), x.6)

nowhere : (n k : ℕ) → get_or (replicate n false) k false ≡ false
nowhere zero k = refl
nowhere (suc n) zero = refl
nowhere (suc n) (suc k) = nowhere n k

-- the set of no byte takes nothing
none_taken : (byte : ℕ) → Holds none byte → ⊥
unfolding none
none_taken byte h = let x = nowhere 256 byte in cc

some_is : (a : Regex) (s : List ℕ) (least most : ℕ) (i j : ℕ) (fit : Bool) → nat_le least most ≡ fit → Takes (cond fit (Sequence (copies least a) (at_most (most - least) a)) (Bytes none)) s i j → (ks : List ℕ) × Allows least (Some most) (length ks) × Leads (Takes a s) i ks j
some_is a s least most i j false h t = absurd (none_taken (get_or s i 0) t.2)
some_is a s least most i j true h t =
    let le : least ≤ most = leb-true least most h in
    let x = copies_is a s least i t.0 t.1 in
    let y = at_most_is a s (most - least) t.0 j t.2 in
    (x.0 ++ y.0, (omega (arith, length-append x.0 y.0, x.1), omega (arith, length-append x.0 y.0, x.1, y.1)), leads_join (Takes a s) i t.0 j x.0 y.0 x.2 y.2)

repeat_is : (a : Regex) (s : List ℕ) (least : ℕ) (most : Option ℕ) (i j : ℕ) → Takes (repeated least most a) s i j → (ks : List ℕ) × Allows least most (length ks) × Leads (Takes a s) i ks j
repeat_is a s zero None i j t = (t.0, omega arith, t.1)
repeat_is a s (suc zero) None i j t = (t.0, t.1, t.2)
repeat_is a s (suc (suc n)) None i j t =
    let x = copies_is a s (suc n) i t.0 t.1 in
    (x.0 ++ t.2.0, omega (arith, length-append x.0 t.2.0, x.1, t.2.1), leads_join (Takes a s) i t.0 j x.0 t.2.0 x.2 t.2.2)
repeat_is a s least (Some most) i j t = some_is a s least most i j (nat_le least most) refl t

some_if : (a : Regex) (s : List ℕ) (least most : ℕ) (i j : ℕ) (ks : List ℕ) (fit : Bool) → nat_le least most ≡ fit → Allows least (Some most) (length ks) → Leads (Takes a s) i ks j → Takes (cond fit (Sequence (copies least a) (at_most (most - least) a)) (Bytes none)) s i j
some_if a s least most i j ks false h k l = absurd (let x = leb-false least most h in let y = k.0 in let z = k.1 in omega arith)
some_if a s least most i j ks true h k l =
    let x = leads_cut (Takes a s) least i j ks k.0 l in
    (x.0, copies_if a s least i x.0 x.1 x.3 x.5, at_most_if a s (most - least) x.0 j x.2 (omega (arith, x.4)) x.6)

repeat_if : (a : Regex) (s : List ℕ) (least : ℕ) (most : Option ℕ) (i j : ℕ) (ks : List ℕ) → Allows least most (length ks) → Leads (Takes a s) i ks j → Takes (repeated least most a) s i j
repeat_if a s zero None i j ks h l = (ks, l)
repeat_if a s (suc zero) None i j ks h l = (ks, h, l)
repeat_if a s (suc (suc n)) None i j ks h l =
    let x = leads_cut (Takes a s) (suc n) i j ks (omega arith) l in
    (x.0, copies_if a s (suc n) i x.0 x.1 x.3 x.5, (x.2, omega (arith, x.4), x.6))
repeat_if a s least (Some most) i j ks h l = some_if a s least most i j ks (nat_le least most) refl h l

pub expand_is : (e : Pattern) (s : List ℕ) (i j : ℕ) → Takes (expand e) s i j → Matches e s i j
expand_is pattern.Empty s i j t = t
expand_is pattern.Start s i j t = t
expand_is pattern.End s i j t = t
expand_is (pattern.Bytes members) s i j t = t
expand_is (pattern.Group a) s i j t = expand_is a s i j t
expand_is (pattern.Repeat a least most) s i j t =
    let x = repeat_is (expand a) s least most i j t in
    (x.0, x.1, leads_map (Takes (expand a) s) (Matches a s) (λ k l. expand_is a s k l) i x.0 j x.2)
expand_is (pattern.Sequence a b) s i j t = (t.0, expand_is a s i t.0 t.1, expand_is b s t.0 j t.2)
expand_is (pattern.Either a b) s i j t = ⊎_elim (λ x. inl (expand_is a s i j x)) (λ x. inr (expand_is b s i j x)) t

pub expand_if : (e : Pattern) (s : List ℕ) (i j : ℕ) → Matches e s i j → Takes (expand e) s i j
expand_if pattern.Empty s i j t = t
expand_if pattern.Start s i j t = t
expand_if pattern.End s i j t = t
expand_if (pattern.Bytes members) s i j t = t
expand_if (pattern.Group a) s i j t = expand_if a s i j t
expand_if (pattern.Repeat a least most) s i j t =
    repeat_if (expand a) s least most i j t.0 t.1 (leads_map (Matches a s) (Takes (expand a) s) (λ k l. expand_if a s k l) i t.0 j t.2)
expand_if (pattern.Sequence a b) s i j t = (t.0, expand_if a s i t.0 t.1, expand_if b s t.0 j t.2)
expand_if (pattern.Either a b) s i j t = ⊎_elim (λ x. inl (expand_if a s i j x)) (λ x. inr (expand_if b s i j x)) t
