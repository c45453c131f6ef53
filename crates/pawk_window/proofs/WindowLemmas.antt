-- How bytes that are read come to lie in a window.
use Rattle.std.proofs.Common.{◌≡◌, ℕ, ◌+◌, ◌≤◌, List, [], ◌++◌, length, take, drop, ap, sym, ◌∙◌}
use Rattle.std.proofs.lemmas.List.{take-take, take-append-drop, length-take-le}
use Rattle.pawk_device.proofs.TransferLemmas.{take-more}

-- the first n bytes, of which there are so many, are none
pub none_first : (n : ℕ) (s : List ℕ) → n ≤ length s → take n s ≡ [] → n ≡ 0
none_first n s le none = sym (length-take-le n s le) ∙ ap length none

-- the bytes that were there and those that came, parted at another place
pub parts_at : (s : List ℕ) (known count whole : ℕ) → whole ≤ known + count → take known s ++ take count (drop known s) ≡ take whole s ++ drop whole (take (known + count) s)
parts_at s known count whole le =
    take-more known count s
    ∙ sym (ap (λ l. l ++ drop whole (take (known + count) s)) (sym (take-take whole (known + count) s le)) ∙ take-append-drop whole (take (known + count) s))
