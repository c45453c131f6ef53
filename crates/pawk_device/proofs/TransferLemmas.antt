-- What several calls of a device report together.
use Rattle.std.proofs.Common.{◌≡◌, ℕ, zero, suc, ◌+◌, ◌<◌, ◌≤◌, List, [], ◌∷◌, ◌++◌, length, take, drop, Option, None, Some, Ok, refl, ap, sym, ◌∙◌, arith, IfSome, length-append}
use Rattle.std.proofs.lemmas.List.{append_assoc, append-nil}
use Rattle.std.specs.Io.KnownBytes.{Appends, Consumes, IsAtEnd}
use Rattle.pawk_device.specs.Device.{CountsWrite}

pub Appends-more : (a b c : Option (List ℕ)) (xs ys : List ℕ) → Appends a b xs → Appends b c ys → Appends a c (xs ++ ys)
Appends-more None b c xs ys h j = tt
Appends-more (Some s) None c xs ys h j = absurd h
Appends-more (Some s) (Some t) None xs ys h j = absurd j
Appends-more (Some s) (Some t) (Some u) xs ys h j = j ∙ ap (λ l. l ++ ys) h ∙ append_assoc s xs ys

pub Consumes-more : (a b c : Option (List ℕ)) (xs ys : List ℕ) → Consumes a b xs → Consumes b c ys → Consumes a c (xs ++ ys)
Consumes-more None b c xs ys h j = tt
Consumes-more (Some s) None c xs ys h j = absurd h
Consumes-more (Some s) (Some t) None xs ys h j = absurd j
Consumes-more (Some s) (Some t) (Some u) xs ys h j = h ∙ ap (λ l. xs ++ l) j ∙ sym (append_assoc xs ys u)

-- a write that took some bytes did not fail
pub took_some : (E : Type 0) (old new : ℕ) (bs : List ℕ) (n : ℕ) → 0 < n → n ≤ length bs → CountsWrite {E = E} old new bs (Ok n) → new ≡ old
took_some E old new [] n h j c = c
took_some E old new (b ∷ bs) zero h j c = absurd (omega arith)
took_some E old new (b ∷ bs) (suc n) h j c = c

-- at the end of a source all its bytes were given
pub all_given : (a b : Option (List ℕ)) (xs : List ℕ) → Consumes a b xs → IsAtEnd b → IfSome a (λ bytes. xs ≡ bytes)
all_given None b xs h e = tt
all_given (Some s) None xs h e = absurd h
all_given (Some s) (Some t) xs h e = sym (h ∙ ap (λ l. xs ++ l) e ∙ append-nil xs)

-- no more than all its bytes were given
pub given_most : (a b : Option (List ℕ)) (xs : List ℕ) (n : ℕ) → Consumes a b xs → n < length xs → IfSome a (λ bytes. n < length bytes)
given_most None b xs n h more = tt
given_most (Some s) None xs n h more = absurd h
given_most (Some s) (Some t) xs n h more = rw h (omega (arith, length-append xs t))

-- some elements, and some more after them
pub take-more : {X : Type 0} (n m : ℕ) (xs : List X) → take n xs ++ take m (drop n xs) ≡ take (n + m) xs
take-more zero m xs = let e : m ≡ 0 + m = omega arith in ap (λ k. take k xs) e
take-more (suc n) m [] = nothing m ∙ sym (nothing (suc n + m))
  where
    nothing : {X : Type 0} (k : ℕ) → take {A = X} k [] ≡ []
    nothing zero = refl
    nothing (suc k) = refl
take-more (suc n) m (x ∷ xs) = let e : suc (n + m) ≡ suc n + m = omega arith in ap (λ l. x ∷ l) (take-more n m xs) ∙ ap (λ k. take k (x ∷ xs)) e
