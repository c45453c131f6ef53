-- The order of texts.
use Rattle.std.proofs.Common.{◌≡◌, ◌≢◌, ◌⊎◌, inl, inr, ℕ, ◌<◌, List, [], ◌∷◌, ◌++◌, Ordering, refl, ap, arith}
use Rattle.std.proofs.lemmas.Bool.Decides.{nat_tests, eqb_tells}
use Rattle.std.proofs.lemmas.Bool.{cases_lt}
use Rattle.std.specs.declared.cmp.Ordering.TheVariants.{Less, Equal, Greater}
use Rattle.std.specs.Ordering.{nat_cmp}
use Rattle.pawk_value.specs.Comparison.{text_order, Precedes, TextOrderLaw}

abbrev Tells : Ordering → List ℕ → List ℕ → Type 0
Tells Less s t = Precedes s t
Tells Equal s t = s ≡ t
Tells Greater s t = Precedes t s

same_cmp : (x : ℕ) → nat_cmp x x ≡ Equal
same_cmp x = grind (arith, nat_tests)

less_cmp : (x y : ℕ) → x < y → nat_cmp x y ≡ Less
less_cmp x y h = grind (arith, nat_tests)

more_cmp : (x y : ℕ) → y < x → nat_cmp x y ≡ Greater
more_cmp x y h = grind (arith, nat_tests)

cmp_cases : (x y : ℕ) → ((nat_cmp x y ≡ Less) × (x < y)) ⊎ (((nat_cmp x y ≡ Equal) × (x ≡ y)) ⊎ ((nat_cmp x y ≡ Greater) × (y < x)))
cmp_cases x y =
    elim (cases_lt x y) [
      | inl l ↦ inl (less_cmp x y l, l)
      | inr n ↦ elim (eqb_tells x y) [
        | inl e ↦ inr (inl (rw e.1 (same_cmp y), e.1))
        | inr f ↦ let apart : x ≢ y = f.1 in inr (inr (more_cmp x y (omega arith), omega arith))
      ]
    ]

longer : (x : ℕ) (s t : List ℕ) → Precedes s t → Precedes (x ∷ s) (x ∷ t)
longer x s t (p, inl (b, u, e, f)) = (x ∷ p, inl (b, u, ap (λ l. x ∷ l) e, ap (λ l. x ∷ l) f))
longer x s t (p, inr (a, b, v, u, l, e, f)) = (x ∷ p, inr (a, b, v, u, l, ap (λ l. x ∷ l) e, ap (λ l. x ∷ l) f))

longer_tells : (o : Ordering) (x : ℕ) (s t : List ℕ) → Tells o s t → Tells o (x ∷ s) (x ∷ t)
longer_tells Less x s t h = longer x s t h
longer_tells Equal x s t h = ap (λ l. x ∷ l) h
longer_tells Greater x s t h = longer x t s h

tells : (s t : List ℕ) → Tells (text_order s t) s t
tells [] [] = refl
tells [] (y ∷ t) = ([], inl (y, t, refl, refl))
tells (x ∷ s) [] = ([], inl (x, s, refl, refl))
tells (x ∷ s) (y ∷ t) =
    let more = tells s t in
    elim (cmp_cases x y) [
      | inl h ↦ rw h.0 ([], inr (x, y, s, t, h.1, refl, refl))
      | inr r ↦ elim r [
        | inl h ↦ rw (h.0, h.1) (longer_tells (text_order s t) y s t more)
        | inr h ↦ rw h.0 ([], inr (y, x, t, s, h.1, refl, refl))
      ]
    ]

equal : (s : List ℕ) → text_order s s ≡ Equal
equal [] = refl
equal (x ∷ s) = rw (same_cmp x) (equal s)

before : (p : List ℕ) (b : ℕ) (u : List ℕ) → (text_order p (p ++ b ∷ u) ≡ Less) × (text_order (p ++ b ∷ u) p ≡ Greater)
before [] b u = (refl, refl)
before (x ∷ p) b u = rw (same_cmp x) (before p b u)

differ : (p : List ℕ) (a b : ℕ) (v u : List ℕ) → a < b → (text_order (p ++ a ∷ v) (p ++ b ∷ u) ≡ Less) × (text_order (p ++ b ∷ u) (p ++ a ∷ v) ≡ Greater)
differ [] a b v u h = (rw (less_cmp a b h) refl, rw (more_cmp b a h) refl)
differ (x ∷ p) a b v u h = rw (same_cmp x) (differ p a b v u h)

ordered : (s t : List ℕ) → Precedes s t → (text_order s t ≡ Less) × (text_order t s ≡ Greater)
ordered s t (p, inl (b, u, e, f)) = rw (e, f) (before p b u)
ordered s t (p, inr (a, b, v, u, l, e, f)) = rw (e, f) (differ p a b v u l)

pub text_order_law : (s t : List ℕ) → TextOrderLaw s t
text_order_law s t = (
  ((λ e. rw e at (tells s t)), λ h. (ordered s t h).0),
  ((λ e. rw e at (tells s t)), λ h. rw h (equal t)),
  ((λ e. rw e at (tells s t)), λ h. (ordered t s h).1),
)
