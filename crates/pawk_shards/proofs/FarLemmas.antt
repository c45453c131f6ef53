-- Chunks that were run apart, merged as far as they can be.
use Rattle.std.proofs.Common.{◌≡◌, ℕ, zero, suc, ◌+◌, ◌<◌, List, [], ◌∷◌, ◌++◌, length, take, Option, Some, None, Result, Ok, subst}
use Rattle.std.specs.Prelude.{All, MatchOption, MatchResult}
use Rattle.pawk_input.specs.Input.{Item}
use Rattle.pawk_store.specs.Globals.{Globals}
use Rattle.pawk_store.specs.Records.{through, End}
use Rattle.pawk_merge.specs.Extents.{Extent, merge_far, answer_of, FarLaw}
use Rattle.pawk_merge.specs.Merges.{Chunk, Stop, merge}
use Rattle.pawk_merge_law.specs.Phases.{Phase, FaultsOrCreates}
use Rattle.pawk_merge_law.specs.ChunkedRuns.{HasRecord, all_of}
use Rattle.pawk_merge_law.specs.Extents.{FirstLaw}
use Rattle.pawk_shards.specs.Apart.{HasCome, EndsSo, AreChunksButRecord, RanButRecord, ApartLaw, FarApartLaw}

-- the first of chunks are the same
alike_first : (n : ℕ) (cs ds : List Chunk) → AreChunksButRecord cs ds → AreChunksButRecord (take n cs) (take n ds)
alike_first zero cs ds h = tt
alike_first (suc n) [] [] h = tt
alike_first (suc n) [] (d ∷ ds) h = absurd h
alike_first (suc n) (c ∷ cs) [] h = absurd h
alike_first (suc n) (c ∷ cs) (d ∷ ds) h = (h.0, h.1, alike_first n cs ds h.2)

module _ (first : FirstLaw) (p : Phase) (nr : ℕ) (chunks : List (List Item)) (results : List Chunk) (each : All HasRecord chunks) (ran : RanButRecord p nr chunks results) (n : ℕ) where
  ran_first : RanButRecord p nr (take n chunks) (take n results)
  ran_first = (take n ran.0, (first p nr chunks ran.0 n ran.1 each).0, alike_first n ran.0 results ran.2)

  each_first : All HasRecord (take n chunks)
  each_first = (first p nr chunks ran.0 n ran.1 each).1

-- what is met by these records
abbrev Met : Phase → List Item → Result (End Globals) Stop → Type 0
Met p all r = MatchResult r (EndsSo p all) (λ stop. FaultsOrCreates p all)

by_stop : (p : Phase) (all some : List Item) (results fewer : List Chunk) (e : End Globals) (f : Extent) (o : Option Stop) → Met p all (merge results e) → Met p some (merge fewer e) → merge fewer e ≡ Ok f.end → merge results e ≡ answer_of o f.end → MatchOption o (Unit {0}) (λ s. (f.end.left ≡ through) × (f.count < length results)) → MatchOption o (EndsSo p all f.end) (λ s. HasCome p some f.end × (f.count < length results) × FaultsOrCreates p all)
by_stop p all some results fewer e f None met met_first first whole h = subst (λ r. Met p all r) whole met
by_stop p all some results fewer e f (Some s) met met_first first whole h =
    let so : EndsSo p some f.end = subst (λ r. Met p some r) first met_first in
    (so.goes_on h.0, h.1, subst (λ r. Met p all r) whole met)

pub far_apart : FarLaw → FirstLaw → ApartLaw → FarApartLaw
far_apart far first law p may items e come chunks results each ran =
    let nr = p.state.nr + length items in
    let f = merge_far results e in
    let there = far results e come.left in
    by_stop p (items ++ all_of chunks) (items ++ all_of (take f.count chunks)) results (take f.count results) e f f.stop
    (law p may items e come chunks results each ran)
    (law p may items e come (take f.count chunks) (take f.count results)
    (each_first first p nr chunks results each ran f.count) (ran_first first p nr chunks results each ran f.count))
    there.0 there.1 there.2
