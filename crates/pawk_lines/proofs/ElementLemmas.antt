-- A number in front of bytes, with a byte after it; the sums of a mark.
use Rattle.std.proofs.Common.{◌≡◌, ◌<◌, ◌≤◌, ◌-◌, ℕ, zero, suc, ℤ, List, [], ◌∷◌, ◌++◌, length, get_or, take, drop, refl, sym, ap, ◌∙◌, arith, append_assoc, codes}
use Rattle.std.specs.Fmt.{decimal, signed_decimal}
use Rattle.std.proofs.lemmas.List.{take-append-drop, take_rest}
use Rattle.pawk_words.specs.declared.word.Gap.TheVariants.{Space, Newline}
use Rattle.pawk_words.specs.Words.{IsWord, number, gap_byte, written, written_all}
use Rattle.pawk_words.specs.declared.word.Gap.{Gap}
use Rattle.pawk_words.specs.Reading.{IsDecimalFront}
use Rattle.pawk_words.proofs.Readings.{decimal_here}
use Rattle.pawk_lines.specs.Lines.{sum, IsMark, mark_words}
use Rattle.pawk_lines.proofs.Forms.{one_front, more_front}

-- bytes that go on after the digits have some
some_digits : (s rest : List ℕ) (k v end : ℕ) → IsDecimalFront s k v → drop k s ≡ end ∷ rest → 0 < k
some_digits s rest zero v end f e = let none : s ≡ [] = f.some refl in let bad : drop 0 [] ≡ end ∷ rest = ap (drop 0) (sym none) ∙ e in cc
some_digits s rest (suc k) v end f e = omega arith

number_here : (s rest : List ℕ) (k v end : ℕ) → IsDecimalFront s k v → drop k s ≡ end ∷ rest → s ≡ decimal v ++ end ∷ rest
number_here s rest k v end f e =
    sym (take-append-drop k s)
    ∙ ap (λ l. l ++ drop k s) (sym (decimal_here s k v f (some_digits s rest k v end f e)))
    ∙ ap (λ l. decimal v ++ l) e

-- the first byte, and the others
parted : (r : List ℕ) (end : ℕ) → 1 ≤ length r → get_or r 0 0 ≡ end → r ≡ end ∷ take (length r - 1) (drop 1 r)
parted [] end h e = absurd (omega arith)
parted (x ∷ r) end h e = ap (λ y. y ∷ r) e ∙ ap (λ l. end ∷ l) (sym (take_rest (x ∷ r) 1))

pub number_before_byte : (s r : List ℕ) (k v end : ℕ) → IsDecimalFront s k v → r ≡ drop k s → 1 ≤ length r → get_or r 0 0 ≡ end → s ≡ decimal v ++ end ∷ take (length r - 1) (drop 1 r)
number_before_byte s r k v end f e h g = number_here s (take (length r - 1) (drop 1 r)) k v end f (sym e ∙ parted r end h g)

number_word : (s r : List ℕ) (z : ℤ) (g : Gap) → s ≡ signed_decimal z ++ gap_byte g ∷ r → s ≡ written (number z) g ++ r
number_word s r z g e = e ∙ sym (append_assoc (signed_decimal z) (gap_byte g ∷ []) r)

same_sums : (s o : List ℕ) (x y z u v w : ℤ) → u ≡ x → v ≡ y → w ≡ z → IsMark (sum x y z) × (s ≡ written_all (mark_words (sum x y z)) ++ o) → IsMark (sum u v w) × (s ≡ written_all (mark_words (sum u v w)) ++ o)
same_sums s o x y z u v w e f g h = rw (e, f, g) h

-- a sum, its extremes, and what follows
pub sum_here : (s r q p o : List ℕ) (x y z u v w : ℤ) → u ≡ x → v ≡ y → w ≡ z → IsWord (number x) → IsWord (number y) → IsWord (number z) →
    s ≡ codes "sum " ++ r → r ≡ signed_decimal x ++ 32 ∷ q → q ≡ signed_decimal y ++ 32 ∷ p → p ≡ signed_decimal z ++ 10 ∷ o →
    IsMark (sum u v w) × (s ≡ written_all (mark_words (sum u v w)) ++ o)
sum_here s r q p o x y z u v w a b c h j k name total least greatest = same_sums s o x y z u v w a b c ((h, j, k), front) where
  sums : r ≡ written_all ((number x, Space) ∷ (number y, Space) ∷ (number z, Newline) ∷ []) ++ o
  sums =
      more_front r q o (number x) Space ((number y, Space) ∷ (number z, Newline) ∷ []) (number_word r q x Space total)
      (more_front q p o (number y) Space ((number z, Newline) ∷ []) (number_word q p y Space least) (one_front p o (number z) Newline (number_word p o z Newline greatest)))

  front : s ≡ written_all (mark_words (sum x y z)) ++ o
  front = name ∙ ap (λ l. codes "sum " ++ l) sums
