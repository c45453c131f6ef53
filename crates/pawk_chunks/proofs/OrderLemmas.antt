-- The results of the first chunks, in order.
use Rattle.std.proofs.Common.{◌≡◌, ℕ, ◌<◌, ◌≤◌, List, [], ◌∷◌, length, map, get_or, zero, suc, true, true≢false, All, Option, subst, ap, sym, ◌∙◌, arith}
use Rattle.std.specs.List.{range_with_len}
use Rattle.std.specs.Option.{IfSome}
use Rattle.std.proofs.lemmas.Bool.Decides.{nat_tests}
use Rattle.std.proofs.lemmas.List.{get_or-map, length-map}
use Rattle.std.proofs.lemmas.Option.{slice_get-get_or}
use Rattle.std.proofs.lemmas.List.FromFn.{length-range_with_len, get_or-range_with_len}
use Rattle.pawk_input.specs.declared.cutting.Chunk.{Chunk}
use Rattle.pawk_frozen.specs.Frozens.{Frozen}
use Rattle.pawk_store.specs.Records.{End, through}
use Rattle.pawk_store.specs.LeftViews.{left_view}
use Rattle.pawk_store.specs.declared.left.Left.{Left}
use Rattle.pawk_store.specs.declared.left.Left.TheVariants as left
use Rattle.pawk_merge_law.specs.Chunks.{Leaves, AreResults}
use Rattle.pawk_merge.specs.declared.chunk_result.ChunkResult.{ChunkResult}
use Rattle.pawk_chunks.specs.Worker.{Numbered, IsResultIn, numbers, stops}
use Rattle.pawk_chunks.specs.Shifts.{limit_of}
use Rattle.pawk_chunks.proofs.GatheringLemmas.{StopsAt}

abbrev no_chunk : Chunk
no_chunk = record { file = 0; range = record { start = 0; end = 0 }; nr = 0; fnr = 0 }

abbrev bare : List Numbered → List ChunkResult
bare rs = map (λ (r : Numbered). r.1) rs

-- the chunks that count are counted down
limit_some : (stop n : ℕ) → 0 < limit_of stop (suc n)
limit_some stop n = grind (arith, nat_tests)

limit_none : (stop : ℕ) → limit_of stop 0 ≤ 0
limit_none stop = grind (arith, nat_tests)

limit_next : (stop n : ℕ) → limit_of (suc stop) (suc n) ≡ suc (limit_of stop n)
limit_next stop n = grind (arith, nat_tests)

not_through : (e : Left) → stops e ≡ true → left_view e ≡ through → ⊥
not_through left.Through s e = true≢false (sym s)
not_through left.NextFile s e = cc
not_through (left.Exit n) s e = cc
not_through (left.Fault f) s e = cc
not_through left.Clash s e = cc

-- these are the results of the first chunks, and the one at the stop was not left through
are_results : (end : Chunk → End Frozen) (stop : ℕ) (plan : List Chunk) (rs : List Numbered) → length rs ≡ limit_of stop (length plan)
    → ((i : ℕ) (d : Numbered) → i < length rs → Leaves (end (get_or plan i no_chunk)) (get_or rs i d).1)
    → (stop < length plan → (d : Numbered) × (stops (get_or rs stop d).1.left ≡ true))
    → AreResults end plan (bare rs)
are_results end stop [] [] len each last = tt
are_results end stop [] (r ∷ rs) len each last = absurd (omega (arith, len, limit_none stop))
are_results end stop (c ∷ plan) [] len each last = absurd (omega (arith, len, limit_some stop (length plan)))
are_results end zero (c ∷ plan) (r ∷ rs) len each last =
    (each 0 r (omega arith), λ e. absurd (not_through r.1.left (last (omega arith)).1 e))
are_results end (suc stop) (c ∷ plan) (r ∷ rs) len each last = (
  each 0 r (omega arith),
  λ _. are_results end stop plan rs (omega (arith, len, limit_next stop (length plan))) (λ i d h. each (suc i) d (omega arith)) (λ small. last (omega arith)),
)

key_at : (n : ℕ) (rs : List Numbered) → numbers rs ≡ range_with_len 0 n → (i : ℕ) (d : Numbered) → i < length rs → (get_or rs i d).0 ≡ i
key_at n rs e i d h =
    let long : length rs ≡ n = sym (length-map rs (λ (r : Numbered). r.0)) ∙ (ap length e ∙ length-range_with_len 0 n) in
    let there : get_or (range_with_len 0 n) i 0 ≡ i = get_or-range_with_len 0 n i 0 (omega arith) ∙ (omega arith) in
    sym (get_or-map (λ (r : Numbered). r.0) rs i d 0 h) ∙ (ap (λ l. get_or l i 0) e ∙ there)

-- results that have the numbers of the first chunks, in order, up to the one that was not left through
pub numbered_results : (end : Chunk → End Frozen) (plan : List Chunk) (stop : ℕ) (rs : List Numbered) → numbers rs ≡ range_with_len 0 (limit_of stop (length plan))
    → All (IsResultIn end plan) rs → (stop < length plan → StopsAt stop rs) → AreResults end plan (bare rs)
numbered_results end plan stop rs order run last =
    let n = limit_of stop (length plan) in
    let long : length rs ≡ n = sym (length-map rs (λ (r : Numbered). r.0)) ∙ (ap length order ∙ length-range_with_len 0 n) in
    let key = key_at n rs order in
    are_results end stop plan rs long
    (λ i d h. one i (get_or rs i d) (key i d h) (run i d h))
    (λ small. let at = last small in
    let where_ : at.1.0 ≡ stop = sym (key at.1.0 at.0 at.1.1) ∙ (ap (λ (r : Numbered). r.0) at.1.2 ∙ at.3) in
    (at.0, subst (λ (i : ℕ). stops (get_or rs i at.0).1.left ≡ true) where_ (ap (λ (r : Numbered). stops r.1.left) at.1.2 ∙ at.2)))
  where
    one : (i : ℕ) (r : Numbered) → r.0 ≡ i → IsResultIn end plan r → Leaves (end (get_or plan i no_chunk)) r.1
    one i r e m =
        let P : Chunk → Type 0 = λ c. Leaves (end c) r.1 in
        subst (λ (j : ℕ). P (get_or plan j no_chunk)) e (subst (λ (o : Option Chunk). IfSome o P) (slice_get-get_or plan r.0 no_chunk m.0) m.1)
