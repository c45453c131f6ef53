-- The first newline of a part of a text.
use Rattle.std.proofs.Common.{◌≡◌, ℕ, ◌+◌, ◌-◌, ◌<◌, ◌≤◌, Bool, true, List, length, take, drop, ap, sym, ◌∙◌, arith, slice_index, eq-eqb}
use Rattle.std.proofs.lemmas.List.{get_or-take, get_or-drop, length-drop, length-take}
use Rattle.std.proofs.lemmas.Bool.{eqb-true}
use Rattle.memchr.specs.Find.{Nowhere, NoneBefore, Passes, is_byte}
use Rattle.pawk_fields.specs.Between.{IsNewline}

module _ (s : List ℕ) (paragraph : Bool) (from to : ℕ) (le : from ≤ to) (within : to ≤ length s) where
  abbrev part : List ℕ
  part = take (to - from) (drop from s)

  long : length part ≡ to - from
  long = omega (arith, length-take (to - from) (drop from s), length-drop from s)

  read : (k : ℕ) → k < to - from → slice_index part k ≡ slice_index s (from + k)
  read k lt = get_or-take (to - from) (drop from s) k 0 lt ∙ get_or-drop from s k 0

  passes : (k : ℕ) → from ≤ k → k < to → slice_index s k ≡ 10 → Passes (is_byte 10) part (k - from)
  passes k low high is =
      let there : from + (k - from) ≡ k = omega arith in
      eq-eqb _ _ (read (k - from) (omega arith) ∙ ap (slice_index s) there ∙ is)

  pub no_newline : Nowhere (Passes (is_byte 10) part) 0 (length part) → Nowhere (IsNewline paragraph s) from to
  no_newline none k low high is = none (k - from) (omega arith) (omega (arith, long)) (passes k low high is.2)

  pub first_newline : paragraph ≡ true → (i : ℕ) → NoneBefore (Passes (is_byte 10) part) 0 (length part) i → Passes (is_byte 10) part i
      → NoneBefore (IsNewline paragraph s) from to (from + i) × IsNewline paragraph s (from + i)
  first_newline mode i first is = (
    record {
      low = omega arith;
      high = omega (arith, first.high, long);
      before = λ k low high newline. first.before (k - from) (omega arith) (omega arith) (passes k low (omega (arith, first.high, long)) newline.2);
    },
    (mode, omega (arith, first.high, long), sym (read i (omega (arith, first.high, long))) ∙ eqb-true _ _ is),
  )
