-- Texts that are longer than a text may be.
use Rattle.std.proofs.Common.{◌≡◌, ◌∙◌, Ok, ℕ, ◌<◌, ◌≤◌, List, [], ◌++◌, length, sym, ap, subst, arith, length-append, append-nil, inl, inr}
use Rattle.pawk_value.specs.Limits.{length_limit}
use Rattle.pawk_store.specs.Builtins.{Replaced}
use Rattle.pawk_builtins.specs.Replaces.{IsOrBothTooLong, Left}

-- what is too long is so with more after it
pub longer : (text more : List ℕ) → length_limit < length text → length_limit < length (text ++ more)
longer text more long = let sum = length-append text more in omega arith

-- a text that is not too long is the one that is meant
pub is_meant : (text meant : List ℕ) → IsOrBothTooLong text meant → length text ≤ length_limit → text ≡ meant
is_meant text meant (inl is) short = is
is_meant text meant (inr long) short = let over = long.0 in absurd (omega arith)

-- where a text is too long, so is the one that is meant
pub both : (text meant : List ℕ) → IsOrBothTooLong text meant → length_limit < length text → length_limit < length meant
both text meant (inl is) long = subst (λ (t : List ℕ). length_limit < length t) is long
both text meant (inr longs) long = longs.1

-- a text that ends, or that is too long and would go on
pub at_end : (text rest meant : List ℕ) → text ++ rest ≡ meant → rest ≡ [] → IsOrBothTooLong text meant
at_end text rest meant is none = inl (sym (append-nil text) ∙ (ap (λ t. text ++ t) (sym none) ∙ is))

pub cut_short : (text rest meant : List ℕ) → text ++ rest ≡ meant → length_limit < length text → IsOrBothTooLong text meant
cut_short text rest meant is long = inr (long, subst (λ (t : List ℕ). length_limit < length t) is (longer text rest long))

-- one match is replaced, and the rest of the text comes after it
pub ended : (text meant rest out : List ℕ) (r : Replaced) → IsOrBothTooLong text meant → out ≡ text ++ rest → r.count ≡ 1 → r.text ≡ meant ++ rest → Left out 1 (Ok r)
ended text meant rest out r (inl is) new one whole = inl (one, λ h. whole ∙ (ap (λ t. t ++ rest) (sym is) ∙ sym new))
ended text meant rest out r (inr long) new one whole =
    inr (record {
      some = (omega arith, omega (arith, one));
      long = (subst (λ (t : List ℕ). length_limit < length t) (sym new) (longer text rest long.0), subst (λ (t : List ℕ). length_limit < length t) (sym whole) (longer meant rest long.1));
    })
