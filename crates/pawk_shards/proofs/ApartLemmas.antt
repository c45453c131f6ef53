-- Chunks that were run apart, merged where a run has come.
use Rattle.std.proofs.Common.{◌≡◌, ◌+◌, List, [], ◌∷◌, ◌++◌, length, Bool, true, false, if◌then◌else◌, Result, Ok, Err, refl, ap, sym, ◌∙◌, subst, arith}
use Rattle.std.specs.Prelude.{All, MatchResult}
use Rattle.std.proofs.lemmas.List.{append-nil}
use Rattle.std.proofs.lemmas.List.Elements.{All-nil, All-cons}
use Rattle.pawk_input.specs.Input.{Item}
use Rattle.pawk_store.specs.Globals.{Globals, calls}
use Rattle.pawk_store.specs.RecordStates.{RecordState}
use Rattle.pawk_store.specs.Records.{Left, through, next_file, exit, fault, clash, End}
use Rattle.pawk_store.specs.Steady.{AreSameButRecord, RecordsKeepLaw}
use Rattle.pawk_commute.specs.Settings.{PermitsFor, HasSlots}
use Rattle.pawk_merge.proofs.LawLemmas.{join_holds}
use Rattle.pawk_merge.proofs.SlotLemmas.{length-by_place}
use Rattle.pawk_merge.specs.Joins.{joined_value}
use Rattle.pawk_merge.specs.Tables.{all_take, scalar_mark}
use Rattle.pawk_merge.specs.Merges.{Chunk, Stop, at_cell, with_chunk, after_leaving, merge}
use Rattle.pawk_merge_law.specs.Phases.{Phase, MayRun, opening, in_order, FaultsOrCreates}
use Rattle.pawk_merge_law.specs.ChunkedRuns.{chunk_end, leavings, IsTold, Ran, HasRecord, all_of, ChunksLaw}
use Rattle.pawk_shards.specs.Apart.{AreEndsButRecord, HasCome, EndsSo, AreChunksButRecord, RanButRecord}
use Rattle.pawk_shards.proofs.EndLemmas.{ends_then, ends_itself, come_through, ends_so, come_so}

abbrev Answer : Type 0
Answer = Result (End Globals) Stop

-- ---- merges that are alike

-- two answers: ends that are the same but for the record, or the same stop
abbrev AreAlike : Answer → Answer → Type 0
AreAlike (Ok e) (Ok f) = AreEndsButRecord e f
AreAlike (Ok e) (Err t) = ⊥
AreAlike (Err s) (Ok f) = ⊥
AreAlike (Err s) (Err t) = s ≡ t

either_alike : (b : Bool) (r t : Answer) → AreAlike r t → AreAlike (if b then r else Err at_cell) (if b then t else Err at_cell)
either_alike true r t h = h
either_alike false r t h = refl

leaving_alike : (l : Left) (go other : End Globals → Answer) (e f : End Globals) → AreEndsButRecord e f → AreAlike (go e) (other f) → AreAlike (after_leaving l go e) (after_leaving l other f)
leaving_alike through go other e f same h = h
leaving_alike next_file go other e f same h = refl
leaving_alike (exit n) go other e f same h = same
leaving_alike (fault g) go other e f same h = refl
leaving_alike clash go other e f same h = refl

-- one chunk more, where the record state that it left is another one
next_alike : (c : Chunk) (s : RecordState) (cs ds : List Chunk) (e : End Globals) (t : RecordState) → AreSameButRecord c.state s → ((x y : End Globals) → AreEndsButRecord x y → AreAlike (merge cs x) (merge ds y)) → AreAlike (merge (c ∷ cs) e) (merge (record c { state = s } ∷ ds) (record e { state = t }))
next_alike c s cs ds e t same next =
    let x = with_chunk c e in
    let y : End Globals = record x { state = s } in
    either_alike (all_take c.table e.world) (after_leaving c.left (λ z. merge cs z) x) (after_leaving c.left (λ z. merge ds z) y)
    (leaving_alike c.left (λ z. merge cs z) (λ z. merge ds z) x y (refl, same) (next x y (refl, same)))

merges_alike : (cs ds : List Chunk) (e f : End Globals) → AreChunksButRecord cs ds → AreEndsButRecord e f → AreAlike (merge cs e) (merge ds f)
merges_alike [] [] e f h same = same
merges_alike [] (d ∷ ds) e f h same = absurd h
merges_alike (c ∷ cs) [] e f h same = absurd h
merges_alike (c ∷ cs) (d ∷ ds) e f h same =
    subst (λ x. AreAlike (merge (c ∷ cs) e) (merge (x ∷ ds) f)) (sym h.0)
    (subst (λ y. AreAlike (merge (c ∷ cs) e) (merge (record c { state = d.state } ∷ ds) y)) (sym same.0)
    (next_alike c d.state cs ds e f.state h.1 (λ x y k. merges_alike cs ds x y h.2 k)))

-- ---- a merge goes on after its first chunk

abbrev end_or : End Globals → Answer → End Globals
end_or d (Ok e) = e
end_or d (Err s) = d

-- A chunk is merged alone, and left through: then a merge with more goes on from there.
goes_on : (b : Bool) (l : Left) (go : End Globals → Answer) (x e : End Globals) → x.left ≡ l → e.left ≡ through → (if b then after_leaving l (λ z. Ok z) x else Err at_cell) ≡ Ok e → (if b then after_leaving l go x else Err at_cell) ≡ go e
goes_on false l go x e is on h = absurd cc
goes_on true through go x e is on h = ap (λ r. go (end_or x r)) h
goes_on true next_file go x e is on h = absurd cc
goes_on true (exit n) go x e is on h = let bad : exit n ≡ through = sym is ∙ ap (λ r. (end_or x r).left) h ∙ on in absurd cc
goes_on true (fault f) go x e is on h = absurd cc
goes_on true clash go x e is on h = absurd cc

-- The end that it gives is what came before with the chunk after it.
is_merged : (b : Bool) (l : Left) (x e : End Globals) → x.left ≡ l → e.left ≡ through → (if b then after_leaving l (λ z. Ok z) x else Err at_cell) ≡ Ok e → x ≡ e
is_merged false l x e is on h = absurd cc
is_merged true through x e is on h = ap (λ r. end_or x r) h
is_merged true next_file x e is on h = absurd cc
is_merged true (exit n) x e is on h = ap (λ r. end_or x r) h
is_merged true (fault f) x e is on h = absurd cc
is_merged true clash x e is on h = absurd cc

-- ---- the two merges of the law for chunks

-- what is met by these records in order
abbrev pub Meets : Phase → List Item → Answer → Type 0
Meets p items r = MatchResult r (λ e. (in_order p items ≡ e) × ¬ FaultsOrCreates p items) (λ stop. FaultsOrCreates p items)

answers : (p : Phase) (items : List Item) (r : Answer) → (¬ FaultsOrCreates p items) → Meets p items r → r ≡ Ok (in_order p items)
answers p items (Ok e) none h = ap Ok (sym h.0)
answers p items (Err s) none h = absurd (none h)

module _ (p : Phase) (may : MayRun p) (law : ChunksLaw) where
  -- the records to which a run has come, as one chunk
  abbrev before : Item → List Item → Chunk
  before i is = leavings (chunk_end p p.state (i ∷ is))

  -- Its merge gives their end.
  alone : (i : Item) (is : List Item) → (¬ FaultsOrCreates p (i ∷ is)) → merge (before i is ∷ []) (opening p) ≡ Ok (in_order p (i ∷ is))
  alone i is none =
      let items = i ∷ is in
      let r = merge (before i is ∷ []) (opening p) in
      let met : Meets p (items ++ []) r = law p may (items ∷ []) (before i is ∷ []) (All-cons HasRecord items [] tt (All-nil HasRecord)) ((p.state, refl, refl), λ _. tt) in
      answers p items r none (subst (λ is. Meets p is r) (append-nil items) met)

  -- The records to which a run has come, as one chunk, and then the others: the merge of these goes on from the end of the
  -- records.
  meets_after : (i : Item) (is : List Item) → (in_order p (i ∷ is)).left ≡ through → (¬ FaultsOrCreates p (i ∷ is)) → (chunks : List (List Item)) (results : List Chunk) → All HasRecord chunks → Ran p (p.state.nr + length (i ∷ is)) chunks results → Meets p ((i ∷ is) ++ all_of chunks) (merge results (in_order p (i ∷ is)))
  meets_after i is on none chunks results each ran =
      let items = i ∷ is in
      let c = before i is in
      let x = with_chunk c (opening p) in
      let first = alone i is none in
      let all : Meets p (items ++ all_of chunks) (merge (c ∷ results) (opening p)) =
      law p may (items ∷ chunks) (c ∷ results) (All-cons HasRecord items chunks tt each) ((p.state, refl, refl), λ _. ran) in
      subst (λ r. Meets p (items ++ all_of chunks) r)
      (goes_on (all_take c.table p.globals) c.left (λ z. merge results z) x (in_order p items) refl on first)
      all

  meets : (items : List Item) → (in_order p items).left ≡ through → (¬ FaultsOrCreates p items) → (chunks : List (List Item)) (results : List Chunk) → All HasRecord chunks → Ran p (p.state.nr + length items) chunks results → Meets p (items ++ all_of chunks) (merge results (in_order p items))
  meets [] on none chunks results each ran = law p may chunks results each (subst (λ n. Ran p n chunks results) (omega arith) ran)
  meets (i ∷ is) on none chunks results each ran = meets_after i is on none chunks results each ran

  -- The globals have as many slots as those that BEGIN left.
  slots_after : (items : List Item) → (in_order p items).left ≡ through → (¬ FaultsOrCreates p items) → HasSlots (in_order p items).world.scalars (in_order p items).world.arrays p.globals
  slots_after [] on none = (refl, refl)
  slots_after (i ∷ is) on none =
      let c = before i is in
      let there : with_chunk c (opening p) ≡ in_order p (i ∷ is) =
      is_merged (all_take c.table p.globals) c.left (with_chunk c (opening p)) (in_order p (i ∷ is)) refl on (alone i is none) in
      subst (λ (x : End Globals). HasSlots x.world.scalars x.world.arrays p.globals) there
      (length-by_place (λ n v. joined_value (scalar_mark c.table.scalars n) v) 0 p.globals.scalars, (join_holds c.table p.globals).arrays)

  -- ---- where a run has come

  -- A merge of some chunks does not look at the record state.
  same_merge : (c : Chunk) (cs : List Chunk) (e f : End Globals) → f ≡ record e { state = f.state } → merge (c ∷ cs) e ≡ merge (c ∷ cs) f
  same_merge c cs e f h = sym (ap (λ x. merge (c ∷ cs) x) h)

  module _ (keep : RecordsKeepLaw (PermitsFor p.code p.roles) calls) (items : List Item) (e : End Globals) (come : HasCome p items e) where
    on : (in_order p items).left ≡ through
    on = come_through p may keep items e come

    meets_there : (chunk : List Item) (chunks : List (List Item)) (results : List Chunk) → All HasRecord (chunk ∷ chunks) → Ran p (p.state.nr + length items) (chunk ∷ chunks) results → Meets p (items ++ all_of (chunk ∷ chunks)) (merge results e)
    meets_there chunk chunks [] each ran = absurd ran
    meets_there chunk chunks (c ∷ cs) each ran =
        subst (λ r. Meets p (items ++ all_of (chunk ∷ chunks)) r) (same_merge c cs (in_order p items) e come.ends)
        (meets items on come.harmless (chunk ∷ chunks) (c ∷ cs) each ran)

    pub slots_there : HasSlots e.world.scalars e.world.arrays p.globals
    slots_there = subst (λ (x : End Globals). HasSlots x.world.scalars x.world.arrays p.globals) (sym come.ends) (slots_after items on come.harmless)

    -- what is met exactly is met but for the record
    met_so : (all : List Item) (r : Answer) → Meets p all r → MatchResult r (EndsSo p all) (λ stop. FaultsOrCreates p all)
    met_so all (Ok f) h = ends_so p may keep all f (ends_itself (in_order p all) f h.0) h.1
    met_so all (Err s) h = h

    whole_so : (chunks : List (List Item)) (whole : List Chunk) → All HasRecord chunks → Ran p (p.state.nr + length items) chunks whole → MatchResult (merge whole e) (EndsSo p (items ++ all_of chunks)) (λ stop. FaultsOrCreates p (items ++ all_of chunks))
    whole_so [] [] each ran = subst (λ is. EndsSo p is e) (sym (append-nil items)) (come_so p may keep items e come)
    whole_so [] (c ∷ cs) each ran = absurd ran
    whole_so (chunk ∷ chunks) whole each ran = met_so (items ++ all_of (chunk ∷ chunks)) (merge whole e) (meets_there chunk chunks whole each ran)

    -- an answer that is alike is met too
    alike_so : (all : List Item) (r t : Answer) → AreAlike r t → MatchResult r (EndsSo p all) (λ stop. FaultsOrCreates p all) → MatchResult t (EndsSo p all) (λ stop. FaultsOrCreates p all)
    alike_so all (Ok f) (Ok g) same h = ends_so p may keep all g (ends_then (in_order p all) f g h.ends same) h.harmless
    alike_so all (Ok f) (Err t) same h = absurd same
    alike_so all (Err s) (Ok g) same h = absurd same
    alike_so all (Err s) (Err t) same h = h

    pub apart : (chunks : List (List Item)) (results : List Chunk) → All HasRecord chunks → RanButRecord p (p.state.nr + length items) chunks results → MatchResult (merge results e) (EndsSo p (items ++ all_of chunks)) (λ stop. FaultsOrCreates p (items ++ all_of chunks))
    apart chunks results each ran =
        alike_so (items ++ all_of chunks) (merge ran.0 e) (merge results e)
        (merges_alike ran.0 results e e ran.2 (refl, refl))
        (whole_so chunks ran.0 each ran.1)

    exactly : (all : List Item) (r : Answer) (f : End Globals) → Meets p all r → r ≡ Ok f → in_order p all ≡ f
    exactly all r f h k = (subst (λ t. Meets p all t) k h).0

    pub whole : (chunks : List (List Item)) (results : List Chunk) → All HasRecord chunks → Ran p (p.state.nr + length items) chunks results → HasRecord (all_of chunks) → (f : End Globals) → merge results e ≡ Ok f → in_order p (items ++ all_of chunks) ≡ f
    whole [] results each ran some f h = absurd some
    whole (chunk ∷ chunks) results each ran some f h = exactly (items ++ all_of (chunk ∷ chunks)) (merge results e) f (meets_there chunk chunks results each ran) h

    one_so : (all : List Item) (r : Answer) → Meets p all r → MatchResult r (λ f. (in_order p all ≡ f) × EndsSo p all f) (λ stop. FaultsOrCreates p all)
    one_so all (Ok f) h = (h.0, met_so all (Ok f) h)
    one_so all (Err s) h = h

    pub one_apart : (chunk : List Item) (c : Chunk) → HasRecord chunk → IsTold p (p.state.nr + length items) chunk c → MatchResult (merge (c ∷ []) e) (λ f. (in_order p (items ++ chunk) ≡ f) × EndsSo p (items ++ chunk) f) (λ stop. FaultsOrCreates p (items ++ chunk))
    one_apart chunk c has told =
        one_so (items ++ chunk) (merge (c ∷ []) e)
        (subst (λ is. Meets p (items ++ is) (merge (c ∷ []) e)) (append-nil chunk)
        (meets_there chunk [] (c ∷ []) (All-cons HasRecord chunk [] has (All-nil HasRecord)) (told, λ _. tt)))
