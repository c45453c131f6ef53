-- Tables of names in the code.
use Rattle.std.specs.Prelude.{ℕ, List, map, Option}
use Rattle.std.proofs.Common.{Bor}
use Rattle.std.specs.Ordering.{nat_cmp}
use Rattle.std.specs.Cmp.Lexicographic.{slice_cmp}
use Rattle.std.specs.BTreeMap.{BTreeMap, get_by}
use Rattle.pawk_lex.specs.Bytes.{Text}

-- what a map has under a text
abbrev pub found : BTreeMap (Bor Text) ℕ → Text → Option ℕ
found m x = get_by (λ k. slice_cmp nat_cmp x k.now) m

abbrev pub texts : List (Bor Text) → List Text
texts = map (λ x. x.now)
