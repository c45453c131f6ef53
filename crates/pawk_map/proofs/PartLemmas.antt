-- What chunks that were run apart leave, in lines.
use Rattle.std.proofs.Common.{◌≡◌, ◌∙◌, ℕ, ◌+◌, ◌-◌, Bool, true, false, ◌&&◌, List, [], ◌∷◌, ◌++◌, length, map, refl, ap, sym, subst, append_assoc, length-append, add-zero, arith}
use Rattle.std.specs.Prelude.{All}
use Rattle.std.proofs.lemmas.List.Concat.{flat_map-cons}
use Rattle.std.proofs.lemmas.List.Elements.{All-head, All-tail, All-nil, All-cons}
use Rattle.pawk_input.specs.Input.{Item}
use Rattle.pawk_store.specs.RecordStates.{RecordState}
use Rattle.pawk_store.specs.Records.{Left as SpecLeft, through}
use Rattle.pawk_store.specs.LeftViews.{left_view}
use Rattle.pawk_store.specs.declared.left.Left.{Left}
use Rattle.pawk_store.specs.declared.left.Left.TheVariants.{Through, NextFile, Exit, Fault, Clash}
use Rattle.pawk_merge.specs.Merges.{Chunk}
use Rattle.pawk_merge.specs.MergeViews.{chunk_of}
use Rattle.pawk_merge.specs.declared.chunk_result.ChunkResult.{ChunkResult}
use Rattle.pawk_merge_law.specs.Phases.{Phase, MayRun}
use Rattle.pawk_merge_law.specs.ChunkedRuns.{IsTold, Ran, HasRecord, all_of}
use Rattle.pawk_shards.specs.Apart.{LeavesLaw}
use Rattle.pawk_shards.specs.Joined.{NotesLaw}
use Rattle.pawk_shards.specs.Told.{Tell, one_chunk}
use Rattle.pawk_map.specs.Sections.{name_after}
use Rattle.pawk_map.specs.Parted.{AreTablesOf, all_through, is_through, parts_from}

-- ---- tests

goes_through : (l : Left) → is_through l ≡ true → left_view l ≡ through
goes_through Through h = refl
goes_through NextFile h = absurd cc
goes_through (Exit n) h = absurd cc
goes_through (Fault f) h = absurd cc
goes_through Clash h = absurd cc

stops_there : (l : Left) → is_through l ≡ false → ¬ (left_view l ≡ through)
stops_there Through h k = absurd cc
stops_there NextFile h k = absurd cc
stops_there (Exit n) h k = absurd cc
stops_there (Fault f) h k = absurd cc
stops_there Clash h k = absurd cc

both : (a b : Bool) → (a && b) ≡ true → (a ≡ true) × (b ≡ true)
both true b h = (refl, h)
both false b h = absurd cc

-- Chunks that were all left through: the first, and the others.
through_both : (r : ChunkResult) (rs : List ChunkResult) → all_through (r ∷ rs) ≡ true → (left_view r.left ≡ through) × (all_through rs ≡ true)
through_both r rs h = let b = both (is_through r.left) (all_through rs) h in (goes_through r.left b.0, b.1)

-- ---- parts

pub has_first : (c : List Item) (cs : List (List Item)) → HasRecord c → HasRecord (all_of (c ∷ cs))
has_first [] cs h = absurd h
has_first (i ∷ is) cs h = subst HasRecord (sym (flat_map-cons (λ (items : List Item). items) (i ∷ is) cs)) tt

pub has_more : (xs ys : List Item) → HasRecord ys → HasRecord (xs ++ ys)
has_more [] ys h = h
has_more (x ∷ xs) ys h = tt

module _ (p : Phase) (may : MayRun p) where
  -- A chunk that was left through has as many records as NR rose.
  counted : LeavesLaw → (nr : ℕ) (is : List Item) (r : ChunkResult) → IsTold p nr is (chunk_of r) → left_view r.left ≡ through → (length is ≡ r.state.nr - nr) × (r.state.nr ≡ nr + length is)
  counted leaves nr is r told on =
      let l = leaves p may nr is (chunk_of r) told in
      let read : l.0 ≡ length is = l.2 on in
      let now : r.state.nr ≡ nr + l.0 = ap (λ (s : RecordState). s.nr) l.1 in
      (omega (arith, read, now), omega (arith, read, now))

  -- Their parts tell of chunks that were all left through.
  pub parts_tell : LeavesLaw → (rs name : List ℕ) (chunks : List (List Item)) (results : List ChunkResult) (nr : ℕ) → All HasRecord chunks → Ran p nr chunks (map chunk_of results) → all_through results ≡ true →
      Tell p rs nr name (parts_from nr results) chunks
  parts_tell leaves rs name [] [] nr each ran all = tt
  parts_tell leaves rs name [] (r ∷ results) nr each ran all = absurd ran
  parts_tell leaves rs name (is ∷ chunks) [] nr each ran all = absurd ran
  parts_tell leaves rs name (is ∷ chunks) (r ∷ results) nr each ran all =
      let on = through_both r results all in
      let n = counted leaves nr is r ran.0 on.0 in
      let next : nr + length is ≡ r.state.nr = sym n.1 in
      let at : r.state.nr ≡ nr + (r.state.nr - nr) = let a = n.0 in let b = n.1 in omega (arith, a, b) in (
        record {
          origin = one_chunk (chunk_of r).state;
          says = record {
            some = All-head HasRecord is chunks each;
            counted = n.0;
            told = subst (λ (l : SpecLeft). IsTold p nr is (record (chunk_of r) { left = l })) on.0 ran.0;
          };
        },
        subst (λ m. Tell p rs m name (parts_from r.state.nr results) chunks) at
            (parts_tell leaves rs name chunks results r.state.nr (All-tail HasRecord is chunks each)
            (subst (λ m. Ran p m chunks (map chunk_of results)) next (ran.1 on.0)) on.1),
      )

  -- Each of them has a table of all scalars and arrays.
  pub parts_fit : NotesLaw → (chunks : List (List Item)) (results : List ChunkResult) (nr : ℕ) → Ran p nr chunks (map chunk_of results) → all_through results ≡ true →
      AreTablesOf (length p.globals.scalars) (length p.globals.arrays) results
  parts_fit notes [] [] nr ran all = All-nil (λ (r : ChunkResult). (length r.table.scalars ≡ length p.globals.scalars) × (length r.table.arrays ≡ length p.globals.arrays))
  parts_fit notes [] (r ∷ results) nr ran all = absurd ran
  parts_fit notes (is ∷ chunks) [] nr ran all = absurd ran
  parts_fit notes (is ∷ chunks) (r ∷ results) nr ran all =
      let on = through_both r results all in
      All-cons (λ (r : ChunkResult). (length r.table.scalars ≡ length p.globals.scalars) × (length r.table.arrays ≡ length p.globals.arrays)) r results
      (notes p may nr is (chunk_of r) ran.0).slots
      (parts_fit notes chunks results (nr + length is) (ran.1 on.0) on.1)

  -- What some chunk leaves that is not left through.
  pub record Stopping (nr : ℕ) (items : List Item) : Type 0 where
    pub before : List Item
    pub chunk : List Item
    pub after : List Item
    pub are : before ++ (chunk ++ after) ≡ items
    pub some : HasRecord chunk
    pub result : Chunk
    pub told : IsTold p (nr + length before) chunk result
    pub stops : ¬ (result.left ≡ through)

  stop_after : (nr : ℕ) (is : List Item) (chunks : List (List Item)) → Stopping (nr + length is) (all_of chunks) → Stopping nr (all_of (is ∷ chunks))
  stop_after nr is chunks h =
      let l = length-append is h.before in
      let at : nr + length is + length h.before ≡ nr + length (is ++ h.before) = omega (arith, l) in
      record {
        before = is ++ h.before;
        chunk = h.chunk;
        after = h.after;
        are = append_assoc is h.before (h.chunk ++ h.after) ∙ ap (λ x. is ++ x) h.are ∙ sym (flat_map-cons (λ (items : List Item). items) is chunks);
        some = h.some;
        result = h.result;
        told = subst (λ n. IsTold p n h.chunk h.result) at h.told;
        stops = h.stops;
      }

  first_stops : (b : Bool) (is : List Item) (chunks : List (List Item)) (r : ChunkResult) (results : List ChunkResult) (nr : ℕ) → is_through r.left ≡ b → HasRecord is → IsTold p nr is (chunk_of r) →
      (left_view r.left ≡ through → all_through results ≡ false → Stopping (nr + length is) (all_of chunks)) → (b && all_through results) ≡ false → Stopping nr (all_of (is ∷ chunks))
  first_stops true is chunks r results nr on some told rest none = stop_after nr is chunks (rest (goes_through r.left on) none)
  first_stops false is chunks r results nr off some told rest none = record {
    before = [];
    chunk = is;
    after = all_of chunks;
    are = sym (flat_map-cons (λ (items : List Item). items) is chunks);
    some = some;
    result = chunk_of r;
    told = subst (λ n. IsTold p n is (chunk_of r)) (sym (add-zero nr)) told;
    stops = stops_there r.left off;
  }

  pub parts_stop : (chunks : List (List Item)) (results : List ChunkResult) (nr : ℕ) → All HasRecord chunks → Ran p nr chunks (map chunk_of results) → all_through results ≡ false → Stopping nr (all_of chunks)
  parts_stop [] [] nr each ran none = absurd cc
  parts_stop [] (r ∷ results) nr each ran none = absurd ran
  parts_stop (is ∷ chunks) [] nr each ran none = absurd ran
  parts_stop (is ∷ chunks) (r ∷ results) nr each ran none =
      first_stops (is_through r.left) is chunks r results nr refl (All-head HasRecord is chunks each) ran.0
      (λ on rest. parts_stop chunks results (nr + length is) (All-tail HasRecord is chunks each) (ran.1 on) rest) none

-- Parts are of no other file.
pub parts_name : (nr : ℕ) (results : List ChunkResult) (name : List ℕ) → name_after name (parts_from nr results) ≡ name
parts_name nr [] name = refl
parts_name nr (r ∷ results) name = parts_name r.state.nr results name
