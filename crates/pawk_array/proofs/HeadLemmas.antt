-- Texts whose first bytes differ are in the order of these.
use Rattle.std.proofs.Common.{◌≡◌, ℕ, zero, suc, ◌+◌, ◌*◌, ◌<◌, ◌≤◌, Bool, true, false, cond, List, [], ◌∷◌, refl, ◌∙◌, ap, subst, arith}
use Rattle.std.specs.declared.cmp.Ordering.TheVariants.{Less, Equal, Greater}
use Rattle.std.specs.Prelude.{nat_lt, ◌==◌}
use Rattle.std.specs.Ordering.{ordering_then, ordering_reverse}
use Rattle.std.proofs.lemmas.Bool.{ltb-false, eqb-false}
use Rattle.std.proofs.lemmas.Bool.Decides.{Decides-eqb}
use Rattle.pawk_array.specs.Entries.{order}
use Rattle.pawk_array.specs.Heads.{head_of, AreBytes}
use Rattle.pawk_keyed_map.proofs.EntriesLemmas.{total}

-- the number that the next bytes make after another
abbrev behind : ℕ → ℕ → List ℕ → ℕ
behind zero h bs = h
behind (suc n) h [] = behind n (h * 256) []
behind (suc n) h (b ∷ bs) = behind n (h * 256 + b) bs

first_byte : (b : ℕ) (bs : List ℕ) → AreBytes (b ∷ bs) → b < 256
first_byte b bs h = h 0

other_bytes : (b : ℕ) (bs : List ℕ) → AreBytes (b ∷ bs) → AreBytes bs
other_bytes b bs h = λ i. h (suc i)

-- of numbers that differ, the lower stays lower
stays_below : (n g h : ℕ) (xs ys : List ℕ) → AreBytes xs → AreBytes ys → g < h → behind n g xs < behind n h ys
stays_below zero g h xs ys p q below = below
stays_below (suc n) g h [] [] p q below = stays_below n (g * 256) (h * 256) [] [] p q (omega (arith, below))
stays_below (suc n) g h [] (y ∷ ys) p q below = stays_below n (g * 256) (h * 256 + y) [] ys p (other_bytes y ys q) (omega (arith, below))
stays_below (suc n) g h (x ∷ xs) [] p q below = stays_below n (g * 256 + x) (h * 256) xs [] (other_bytes x xs p) q (omega (arith, below, first_byte x xs p))
stays_below (suc n) g h (x ∷ xs) (y ∷ ys) p q below =
    stays_below n (g * 256 + x) (h * 256 + y) xs ys (other_bytes x xs p) (other_bytes y ys q) (omega (arith, below, first_byte x xs p))

-- no bytes make no less than none
least : (n g h : ℕ) (xs : List ℕ) → g ≤ h → behind n g [] ≤ behind n h xs
least zero g h xs below = below
least (suc n) g h [] below = least n (g * 256) (h * 256) [] (omega (arith, below))
least (suc n) g h (x ∷ xs) below = least n (g * 256) (h * 256 + x) xs (omega (arith, below))

same_number : (x y : ℕ) → (x == y) ≡ true → x ≡ y
same_number x y e = omega (arith, (Decides-eqb x y).0 e)

less_by : (n h : ℕ) (xs ys : List ℕ) → AreBytes xs → AreBytes ys → behind n h xs < behind n h ys → order xs ys ≡ Less
less_by zero h xs ys p q below = absurd (omega (arith, below))
less_by (suc n) h [] [] p q below = absurd (omega (arith, below))
less_by (suc n) h [] (y ∷ ys) p q below = refl
less_by (suc n) h (x ∷ xs) [] p q below =
    let no = least n (h * 256) (h * 256 + x) xs (omega arith) in absurd (omega (arith, below, no))
less_by (suc n) h (x ∷ xs) (y ∷ ys) p q below =
    by_cases (nat_lt x y) (x == y) refl refl (less_by n (h * 256 + y) xs ys (other_bytes x xs p) (other_bytes y ys q)) where
      by_cases : (b d : Bool) → nat_lt x y ≡ b → (x == y) ≡ d → (behind n (h * 256 + y) xs < behind n (h * 256 + y) ys → order xs ys ≡ Less) →
          ordering_then (cond b Less (cond d Equal Greater)) (order xs ys) ≡ Less
      by_cases true d e f rest = refl
      by_cases false true e f rest =
          let same = same_number x y f in
          let P : ℕ → Type 0 = λ z. behind n (h * 256 + z) xs < behind n (h * 256 + y) ys in
          rest (subst P same below)
      by_cases false false e f rest =
          let above : y < x = omega (arith, ltb-false x y e, eqb-false x y f) in
          let no = stays_below n (h * 256 + y) (h * 256 + x) ys xs (other_bytes y ys q) (other_bytes x xs p) (omega (arith, above)) in
          absurd (omega (arith, below, no))

head_after : (bs : List ℕ) → head_of bs ≡ behind 8 0 bs
head_after [] = refl
head_after (a ∷ []) = omega arith
head_after (a ∷ b ∷ []) = omega arith
head_after (a ∷ b ∷ c ∷ []) = omega arith
head_after (a ∷ b ∷ c ∷ d ∷ []) = omega arith
head_after (a ∷ b ∷ c ∷ d ∷ e ∷ []) = omega arith
head_after (a ∷ b ∷ c ∷ d ∷ e ∷ f ∷ []) = omega arith
head_after (a ∷ b ∷ c ∷ d ∷ e ∷ f ∷ g ∷ []) = omega arith
head_after (a ∷ b ∷ c ∷ d ∷ e ∷ f ∷ g ∷ h ∷ more) = omega arith

-- where the first bytes as numbers differ, the texts are in their order
pub head_less : (xs ys : List ℕ) → AreBytes xs → AreBytes ys → head_of xs < head_of ys → order xs ys ≡ Less
head_less xs ys p q below = less_by 8 0 xs ys p q (omega (arith, below, head_after xs, head_after ys))

pub head_greater : (xs ys : List ℕ) → AreBytes xs → AreBytes ys → head_of ys < head_of xs → order xs ys ≡ Greater
head_greater xs ys p q below = total.antisymm xs ys ∙ ap ordering_reverse (head_less ys xs q p below)
