-- Columns, counted from the end back.
use Rattle.std.proofs.Common.{◌≡◌, ℕ, ◌+◌, ◌-◌, ◌<◌, ◌≤◌, List, length, get_or, true, false, refl, arith}
use Rattle.std.proofs.lemmas.List.Sums.{suffix_len_is}
use Rattle.pawk_explain.specs.Lines.{is_in_line, column_after}

-- a newline is not in a line
pub newline_ends : (b : ℕ) → b ≡ 10 → is_in_line b ≡ false
newline_ends b e = rw e refl

-- the column of what follows bytes of which the last from `start` on are no newlines
pub column_is : (s : List ℕ) (start : ℕ) → start ≤ length s
    → ((k : ℕ) → start ≤ k → k < length s → is_in_line (get_or s k 0) ≡ true)
    → (0 < start → get_or s (start - 1) 0 ≡ 10) → 1 + length s - start ≡ column_after s
column_is s start within passes ends =
    let e = suffix_len_is is_in_line s start 0 within passes (λ h. newline_ends _ (ends h)) in
    rw e (omega arith)
