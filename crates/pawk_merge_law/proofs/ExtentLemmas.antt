-- The first of chunks leave what they leave among all.
use Rattle.std.proofs.Common.{ℕ, zero, suc, ◌+◌, List, [], ◌∷◌, length, take}
use Rattle.std.specs.Prelude.{All}
use Rattle.std.proofs.lemmas.List.Elements.{All-head, All-tail, All-nil, All-cons}
use Rattle.pawk_input.specs.Input.{Item}
use Rattle.pawk_merge.specs.Merges.{Chunk}
use Rattle.pawk_merge_law.specs.Phases.{Phase}
use Rattle.pawk_merge_law.specs.ChunkedRuns.{Ran, HasRecord}
use Rattle.pawk_merge_law.specs.Extents.{FirstLaw}

run_first : (p : Phase) (n nr : ℕ) (chunks : List (List Item)) (results : List Chunk) → Ran p nr chunks results → Ran p nr (take n chunks) (take n results)
run_first p zero nr chunks results h = tt
run_first p (suc n) nr [] [] h = tt
run_first p (suc n) nr [] (c ∷ cs) h = absurd h
run_first p (suc n) nr (is ∷ iss) [] h = absurd h
run_first p (suc n) nr (is ∷ iss) (c ∷ cs) h = (h.0, λ on. run_first p n (nr + length is) iss cs (h.1 on))

have_first : (n : ℕ) (chunks : List (List Item)) → All HasRecord chunks → All HasRecord (take n chunks)
have_first zero chunks h = All-nil HasRecord
have_first (suc n) [] h = All-nil HasRecord
have_first (suc n) (is ∷ iss) h = All-cons HasRecord is (take n iss) (All-head HasRecord is iss h) (have_first n iss (All-tail HasRecord is iss h))

pub first : FirstLaw
first p nr chunks results n runs each = (run_first p n nr chunks results runs, have_first n chunks each)
