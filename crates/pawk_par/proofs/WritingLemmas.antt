-- What texts one after the other are together.
use Rattle.std.proofs.Common.{◌≡◌, ℕ, zero, suc, ◌+◌, ◌<◌, ◌≤◌, List, [], ◌∷◌, ◌++◌, length, get_or, take, drop, Vec, ap, sym, ◌∙◌, arith, length-append}
use Rattle.std.specs.declared.alloc.Global.{Global}
use Rattle.std.proofs.Math.Seq.{drop-nil, take-append_seam, drop-append_seam}
use Rattle.std.proofs.lemmas.List.{take-append-le}
use Rattle.pawk_store.specs.Outputs.{in_a_row}
use Rattle.pawk_device.proofs.TransferLemmas.{take-more}

-- one more text
pub length-row-more : (texts : List (Vec ℕ Global)) (i : ℕ) (text : Vec ℕ Global) → i < length texts → text ≡ get_or texts i text →
    length (in_a_row (take (i + 1) texts)) ≡ length (in_a_row (take i texts)) + length text.items
length-row-more [] i text small is = absurd (omega arith)
length-row-more (t ∷ ts) zero text small is = length-append t.items [] ∙ (let e : length t.items + 0 ≡ 0 + length t.items = omega arith in e) ∙ ap (λ (v : Vec ℕ Global). 0 + length v.items) (sym is)
length-row-more (t ∷ ts) (suc i) text small is =
    let more = length-row-more ts i text (omega arith) is in
    let one : suc i + 1 ≡ suc (i + 1) = omega arith in
    ap (λ k. length (in_a_row (take k (t ∷ ts)))) one
    ∙ omega (arith, more, length-append t.items (in_a_row (take (i + 1) ts)), length-append t.items (in_a_row (take i ts)))

pub drop-more : (n m : ℕ) (xs : List ℕ) → drop m (drop n xs) ≡ drop (n + m) xs
drop-more zero m xs = let e : m ≡ 0 + m = omega arith in ap (λ k. drop k xs) e
drop-more (suc n) m [] = drop-nil m ∙ sym (drop-nil (suc n + m))
drop-more (suc n) m (x ∷ xs) = let e : suc (n + m) ≡ suc n + m = omega arith in drop-more n m xs ∙ ap (λ k. drop k (x ∷ xs)) e

-- some bytes of a text that comes after others
pub take-into : (whole text rest : List ℕ) (d n : ℕ) → drop d whole ≡ text ++ rest → n ≤ length text → take d whole ++ take n text ≡ take (d + n) whole
take-into whole text rest d n is small =
    ap (λ l. take d whole ++ l) (sym (take-append-le n text rest small)) ∙ ap (λ l. take d whole ++ take n l) (sym is) ∙ take-more d n whole

-- all bytes of it
pub take-whole : (whole text rest : List ℕ) (d : ℕ) → drop d whole ≡ text ++ rest → take d whole ++ text ≡ take (d + length text) whole
take-whole whole text rest d is =
    ap (λ l. take d whole ++ l) (sym (take-append_seam text rest)) ∙ ap (λ l. take d whole ++ take (length text) l) (sym is) ∙ take-more d (length text) whole

-- what comes after it
pub drop-past : (whole text rest : List ℕ) (d : ℕ) → drop d whole ≡ text ++ rest → drop (d + length text) whole ≡ rest
drop-past whole text rest d is = sym (drop-more d (length text) whole) ∙ ap (λ l. drop (length text) l) is ∙ drop-append_seam text rest
