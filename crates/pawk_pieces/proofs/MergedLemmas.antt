-- The results of chunks, merged as far as they can be.
use Rattle.std.proofs.Common.{◌≡◌, ◌∙◌, ℕ, zero, suc, ◌+◌, ◌<◌, Bool, true, false, List, [], ◌∷◌, ◌++◌, length, take, drop, map, Option, Some, None, Result, Ok, if◌then◌else◌, refl, ap, sym, subst, arith}
use Rattle.std.specs.Prelude.{All, MatchResult, MatchOption}
use Rattle.std.specs.List.{flat_map}
use Rattle.std.proofs.lemmas.List.{take-append-drop, take-map}
use Rattle.std.proofs.lemmas.List.Concat.{flat_map-append}
use Rattle.std.proofs.lemmas.List.Elements.{All-take}
use Rattle.pawk_input.specs.Input.{File, Item}
use Rattle.pawk_input.specs.Plan.{chunk_items, IsChunkOf}
use Rattle.pawk_input.specs.declared.cutting.Chunk.{Chunk}
use Rattle.pawk_store.specs.Globals.{Globals, calls}
use Rattle.pawk_store.specs.Records.{Left, through, next_file, exit, fault, clash, End}
use Rattle.pawk_store.specs.Runs.{records_from}
use Rattle.pawk_merge.specs.Tables.{all_take}
use Rattle.pawk_merge.specs.Merges.{Chunk as Leaving, Stop, at_cell, merge, before_chunks, with_chunk}
use Rattle.pawk_merge.specs.MergeViews.{chunk_of}
use Rattle.pawk_merge.specs.Extents.{Extent, FarLaw, answer_of, extend, stop_here, merge_far}
use Rattle.pawk_merge.specs.declared.chunk_result.ChunkResult.{ChunkResult}
use Rattle.pawk_merge_law.specs.Chunks.{Opening, chunk_end, AreResults}
use Rattle.pawk_merge_law.specs.Phases.{Phase, MayRun, in_order, FaultsOrCreates}
use Rattle.pawk_merge_law.specs.Gathered.{phase_of, AreNumbered, ResultsFromLaw}
use Rattle.pawk_merge_law.specs.Pieces.{Progress, progress_after, resume, PiecesLaw, NoSkipLaw}
use Rattle.pawk_merge_law.specs.Windows.{phase_at, MayRunOnLaw}
use Rattle.pawk_pieces.specs.Merged.{AllMerged, SomeMerged, IsMergedFar}

-- The first of records that are numbered on from a number are numbered on from it.
first_numbered : (nr : ℕ) (xs ys : List Item) → AreNumbered nr (xs ++ ys) → AreNumbered nr xs
first_numbered nr [] ys h = tt
first_numbered nr (x ∷ xs) ys h = (h.0, first_numbered (nr + 1) xs ys h.1)

-- The first of chunks have the first of their results.
first_results : (o : Opening) (rs : List ℕ) (files : List File) (n : ℕ) (plan : List Chunk) (results : List ChunkResult) → AreResults (chunk_end o rs files) plan results → AreResults (chunk_end o rs files) (take n plan) (take n results)
first_results o rs files zero plan results h = tt
first_results o rs files (suc n) [] [] h = tt
first_results o rs files (suc n) [] (r ∷ results) h = absurd h
first_results o rs files (suc n) (c ∷ plan) [] h = absurd h
first_results o rs files (suc n) (c ∷ plan) (r ∷ results) h = (h.0, λ on. first_results o rs files n plan results (h.1 on))

-- A merge that stops has merged fewer chunks than there are, where it goes on so after the first of them.
fewer_after : (t : Bool) (l : Left) (go : End Globals → Extent) (before e : End Globals) (s : Stop) (n : ℕ) → (l ≡ through → (go e).stop ≡ Some s → (go e).count < n) →
    let f = (if t then extend l go before e else stop_here at_cell before) in
    f.stop ≡ Some s → f.count < suc n
fewer_after false l go before e s n h is = omega arith
fewer_after true through go before e s n h is = let less = h refl is in omega (arith, less)
fewer_after true next_file go before e s n h is = omega arith
fewer_after true (exit m) go before e s n h is = absurd cc
fewer_after true (fault g) go before e s n h is = omega arith
fewer_after true clash go before e s n h is = omega arith

-- A merge of the results of chunks that stops has merged fewer chunks than there are.
fewer : (o : Opening) (rs : List ℕ) (files : List File) (plan : List Chunk) (results : List ChunkResult) (e : End Globals) (s : Stop) → AreResults (chunk_end o rs files) plan results →
    (merge_far (map chunk_of results) e).stop ≡ Some s → (merge_far (map chunk_of results) e).count < length plan
fewer o rs files [] [] e s h is = absurd cc
fewer o rs files [] (r ∷ results) e s h is = absurd h
fewer o rs files (c ∷ plan) [] e s h is = absurd h
fewer o rs files (c ∷ plan) (r ∷ results) e s h is =
    let x = chunk_of r in
    fewer_after (all_take x.table e.world) x.left (λ y. merge_far (map chunk_of results) y) e (with_chunk x e) s (length plan) (λ on. fewer o rs files plan results (with_chunk x e) s (h.1 on)) is

-- Records that follow others, which were left through, are run from their end.
follow : PiecesLaw calls → NoSkipLaw calls → (p : Phase) (items more : List Item) (x : End Globals) → in_order p items ≡ x → x.left ≡ through →
    in_order p (items ++ more) ≡ records_from calls p.eres p.code p.budget None x more
follow pieces no_skip p items more x ends on =
    let e : End Globals = record { world = p.globals; state = p.state; output = p.output; left = through } in
    let b = progress_after calls p.eres p.code p.budget None e items in
    let both = pieces p.eres p.code p.budget None e items more tt in
    let end : b.end ≡ x = sym both.0 ∙ ends in
    let skip : b.skip ≡ None = no_skip p.eres p.code p.budget None e items (λ _. refl) (ap (λ (y : End Globals). y.left) end ∙ on) in
    let there : Progress Globals = record { skip = None; end = record x { left = through } } in
    let is : b ≡ there = λ i. record { skip = skip i; end = (end ∙ (λ j. record x { left = on j })) i } in
    both.1 ∙ ap (λ y. resume calls p.eres p.code p.budget y more) is ∙ ap (λ l. records_from calls p.eres p.code p.budget None (record x { left = l }) more) (sym on)

-- The results of the chunks of a plan, merged as far as they can be.
module _ (law : ResultsFromLaw) (run_on : MayRunOnLaw) (far : FarLaw) (pieces : PiecesLaw calls) (no_skip : NoSkipLaw calls)
    (o : Opening) (may : MayRun (phase_of o [])) (rs : List ℕ) (files : List File) (plan : List Chunk) (each : All (λ c. IsChunkOf rs files c) plan)
    (numbered : AreNumbered o.state.nr (flat_map (chunk_items rs files) plan)) (results : List ChunkResult) (are : AreResults (chunk_end o rs files) plan results) where
  abbrev p : Phase
  p = phase_of o []

  abbrev records : List Chunk → List Item
  records chunks = flat_map (chunk_items rs files) chunks

  abbrev begin : End Globals
  begin = before_chunks o.globals o.state

  abbrev leavings : List Leaving
  leavings = map chunk_of results

  abbrev extent : Extent
  extent = merge_far leavings begin

  abbrev Tells : List Chunk → Result (End Globals) Stop → Type 0
  Tells chunks r =
      MatchResult r
      (λ e. (in_order p (records chunks) ≡ e) × ¬ FaultsOrCreates p (records chunks))
      (λ stop. FaultsOrCreates p (records chunks))

  -- The records are those of the chunks that were merged, and those of the others after them.
  parted : (n : ℕ) → records plan ≡ records (take n plan) ++ records (drop n plan)
  parted n = ap records (sym (take-append-drop n plan)) ∙ flat_map-append (chunk_items rs files) (take n plan) (drop n plan)

  -- The merge of all tells this of all records.
  tells : Tells plan (answer_of extent.stop extent.end)
  tells = subst (λ r. Tells plan r) (far leavings begin refl).1 (law o [] may rs files plan each numbered results are)

  -- The records of the chunks that were merged end so.
  first_ends : in_order p (records (take extent.count plan)) ≡ extent.end
  first_ends =
      let n = extent.count in
      let some = take n plan in
      let merges : merge (map chunk_of (take n results)) begin ≡ Ok extent.end = ap (λ cs. merge cs begin) (sym (take-map chunk_of n results)) ∙ (far leavings begin refl).0 in
      let few = first_numbered o.state.nr (records some) (records (drop n plan)) (subst (λ is. AreNumbered o.state.nr is) (parted n) numbered) in
      let told = subst (λ r. Tells some r) merges
      (law o [] may rs files some (All-take (λ c. IsChunkOf rs files c) n plan each) few (take n results) (first_results o rs files n plan results are)) in
      told.0

  -- Where no stop is met all are merged.
  all_merged : extent.stop ≡ None → AllMerged o rs files plan extent
  all_merged is =
      let told : Tells plan (Ok extent.end) = subst (λ s. Tells plan (answer_of s extent.end)) is tells in
      record {
        ends = told.0;
        good = told.1;
        more = subst (λ e. MayRun (phase_at p e)) told.0 (run_on p may (records plan) told.1);
      }

  -- At a stop some are left out.
  some_merged : (s : Stop) → extent.stop ≡ Some s → SomeMerged o rs files plan extent
  some_merged s is =
      let n = extent.count in
      let left = (subst (λ t. MatchOption t (Unit {0}) (λ u. (extent.end.left ≡ through) × (n < length leavings))) is (far leavings begin refl).2).0 in
      record {
        fewer = fewer o rs files plan results begin s are is;
        left = left;
        follow = ap (λ is. in_order p is) (parted n) ∙ follow pieces no_skip p (records (take n plan)) (records (drop n plan)) extent.end first_ends left;
        bad = subst (λ t. Tells plan (answer_of t extent.end)) is tells;
      }

  -- So all are merged, or some are left out.
  merged_by : (s : Option Stop) → extent.stop ≡ s → MatchOption s (AllMerged o rs files plan extent) (λ t. SomeMerged o rs files plan extent)
  merged_by None is = all_merged is
  merged_by (Some s) is = some_merged s is

  -- They are merged as far as they can be.
  pub merged_far : IsMergedFar o rs files plan extent
  merged_far = merged_by extent.stop refl
