use Rattle.std.proofs.Common.{◌≡◌, ◌≤◌, ℕ, Bool, ◌↔◌, List, [], ◌∷◌, length, get_or, take, drop, ◌-◌, refl, arith}
use Rattle.std.specs.Prelude.{IsTrue}
use Rattle.std.proofs.lemmas.List.{take_all}
use Rattle.pawk_words.specs.Words.{size_limit}
use Rattle.pawk_lines.specs.Reading.{BeginsSize, BeginsNumber}
use Rattle.pawk_lines.proofs.NumberLemmas.{number_empty, number_below, below_number, number_above, above_number}
use Rattle.pawk_lines.proofs.number.begins_number.Goals as goal

at_minus : (s : List ℕ) (b a : ℕ) (r : Bool) → a ≤ size_limit → 1 ≤ length s → get_or s 0 0 ≡ 45 → IsTrue r ↔ BeginsSize (take (length s - 1) (drop 1 s)) b → IsTrue r ↔ BeginsNumber s b a
at_minus [] b a r small some e k = absurd (omega arith)
at_minus (x ∷ s) b a r small some e k =
    let same : x ≡ 45 = e in
    let rest : take (length (x ∷ s) - 1) (drop 1 (x ∷ s)) ≡ s = take_all (length (x ∷ s) - 1) s (omega arith) in
    let here = rw rest at k in
    (λ t. rw same (number_below s b a (here.0 t)), λ n. here.1 (below_number s b a small (rw same at n)))

pub returns-in-empty : goal.returns-in-empty
returns-in-empty c = (λ t. number_empty c.args.bytes.now c.args.range.below c.args.range.above c.in-empty.len_below, λ n. refl)

pub returns-then-first-eq45 : goal.returns-then-first-eq45
returns-then-first-eq45 c = at_minus c.args.bytes.now c.args.range.below c.args.range.above c.begins_size.result c.requires.above c.in-len1-up.len_at_least c.if-first-eq45.true c.begins_size.ensures

pub returns-else-first-eq45 : goal.returns-else-first-eq45
returns-else-first-eq45 c = (
  λ t. number_above c.args.bytes.now c.args.range.below c.args.range.above (c.begins_decimal.ensures.0 t),
  λ n. c.begins_decimal.ensures.1 (above_number c.args.bytes.now c.args.range.below c.args.range.above c.if-first-eq45.false n),
)
