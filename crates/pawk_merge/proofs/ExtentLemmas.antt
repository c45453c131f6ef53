-- How far chunks are merged.
use Rattle.std.proofs.Common.{◌≡◌, ℕ, suc, ◌+◌, ◌<◌, List, [], ◌∷◌, length, take, Option, Some, None, Bool, true, false, if◌then◌else◌, Result, Ok, Err, refl, sym, ap, ◌∙◌, arith}
use Rattle.std.specs.Prelude.{◌↔◌, IsTrue, is_some, MatchOption}
use Rattle.std.specs.Option.{option_map}
use Rattle.pawk_store.specs.Globals.{Globals}
use Rattle.pawk_store.specs.Records.{Left, through, next_file, exit, fault, clash, End}
use Rattle.pawk_merge.specs.Tables.{all_take}
use Rattle.pawk_merge.specs.Merges.{Chunk, Stop, at_cell, at_fault, at_clash, with_chunk, after_leaving, merge}
use Rattle.pawk_merge.specs.Extents.{Extent, stop_here, one_more, extend, merge_far, answer_of, stop_after, stop_at, merge_more}
use Rattle.pawk_merge.specs.ExtentViews.{stop_view, extent_view, Advances}
use Rattle.pawk_merge.specs.declared.merging.Merged.{Merged}
use Rattle.pawk_merge.specs.declared.stop.MergeStop.{MergeStop}

-- how far it is, said of the chunks
abbrev IsExtent : List Chunk → End Globals → Extent → Type 0
IsExtent results e f =
    (merge (take f.count results) e ≡ Ok f.end)
    × (merge results e ≡ answer_of f.stop f.end)
    × MatchOption f.stop (Unit {0}) (λ s. (f.end.left ≡ through) × (f.count < length results))

-- a step of a merge, where the cells take what was noted or not
abbrev step : Bool → Left → List Chunk → End Globals → Result (End Globals) Stop
step b l cs e = if b then after_leaving l (λ x. merge cs x) e else Err at_cell

-- the same of a list that begins with a chunk
abbrev IsExtentStep : Bool → Left → Chunk → List Chunk → End Globals → Extent → Type 0
IsExtentStep b l c cs e f =
    (merge (take f.count (c ∷ cs)) e ≡ Ok f.end)
    × (step b l cs (with_chunk c e) ≡ answer_of f.stop f.end)
    × MatchOption f.stop (Unit {0}) (λ s. (f.end.left ≡ through) × (f.count < length (c ∷ cs)))

stops : (b : Bool) (l : Left) (c : Chunk) (cs : List Chunk) (e : End Globals) (s : Stop) → e.left ≡ through → step b l cs (with_chunk c e) ≡ Err s → IsExtentStep b l c cs e (stop_here s e)
stops b l c cs e s on is = (refl, is, (on, omega (arith)))

longer : (c : Chunk) (cs : List Chunk) (o : Option Stop) (n : ℕ) (x : End Globals) → MatchOption o (Unit {0}) (λ s. (x.left ≡ through) × (n < length cs)) → MatchOption o (Unit {0}) (λ s. (x.left ≡ through) × (suc n < length (c ∷ cs)))
longer c cs None n x h = tt
longer c cs (Some s) n x h = (h.0, omega (arith, h.1))

merge_first : (c : Chunk) (cs : List Chunk) (e : End Globals) → all_take c.table e.world ≡ true → c.left ≡ through → merge (c ∷ cs) e ≡ merge cs (with_chunk c e)
merge_first c cs e takes on =
    ap (λ b. if b then after_leaving c.left (λ x. merge cs x) (with_chunk c e) else Err at_cell) takes
    ∙ ap (λ l. after_leaving l (λ x. merge cs x) (with_chunk c e)) on

merge_last : (c : Chunk) (e : End Globals) (n : ℕ) → all_take c.table e.world ≡ true → c.left ≡ exit n → merge (c ∷ []) e ≡ Ok (with_chunk c e)
merge_last c e n takes on =
    ap (λ b. if b then after_leaving c.left (λ x. merge [] x) (with_chunk c e) else Err at_cell) takes
    ∙ ap (λ l. after_leaving l (λ x. merge [] x) (with_chunk c e)) on

extent_step : (c : Chunk) (cs : List Chunk) (e : End Globals) → e.left ≡ through → (b : Bool) → all_take c.table e.world ≡ b → (l : Left) → c.left ≡ l
    → (c.left ≡ through → IsExtent cs (with_chunk c e) (merge_far cs (with_chunk c e)))
    → IsExtentStep b l c cs e (if b then extend l (λ x. merge_far cs x) e (with_chunk c e) else stop_here at_cell e)
extent_step c cs e on false takes l is next = stops false l c cs e at_cell on refl
extent_step c cs e on true takes through is next =
    let f = merge_far cs (with_chunk c e) in
    let h = next is in (
      merge_first c (take f.count cs) e takes is ∙ h.0,
      h.1,
      longer c cs f.stop f.count f.end h.2,
    )
extent_step c cs e on true takes next_file is next = stops true next_file c cs e at_clash on refl
extent_step c cs e on true takes (exit n) is next = (merge_last c e n takes is, refl, tt)
extent_step c cs e on true takes (fault g) is next = stops true (fault g) c cs e at_fault on refl
extent_step c cs e on true takes clash is next = stops true clash c cs e at_clash on refl

pub extent : (results : List Chunk) (e : End Globals) → e.left ≡ through → IsExtent results e (merge_far results e)
extent [] e on = (refl, refl, tt)
extent (c ∷ cs) e on =
    extent_step c cs e on (all_take c.table e.world) refl c.left refl (λ k. extent cs (with_chunk c e) k)

-- ---- one chunk more

-- an extent with so many more before it
abbrev behind : ℕ → Extent → Extent
behind n f = record f { count = n + f.count }

abbrev of_stop : End Globals → Option Stop → Extent
of_stop e o = record { count = 0; end = e; stop = o }

-- a chunk that ended in `exit`
abbrev last_one : End Globals → Extent
last_one e = record { count = 1; end = e; stop = None }

stops_by : (t : Bool) (l : Left) (s : Stop) (go : End Globals → Extent) (before e : End Globals) → (if t then stop_after l else Some at_cell) ≡ Some s
    → (if t then extend l go before e else stop_here at_cell before) ≡ stop_here s before
stops_by false l s go before e is = ap (of_stop before) is
stops_by true through s go before e is = cc
stops_by true next_file s go before e is = ap (of_stop before) is
stops_by true (exit n) s go before e is = cc
stops_by true (fault f) s go before e is = ap (of_stop before) is
stops_by true clash s go before e is = ap (of_stop before) is

goes_by : (t : Bool) (l : Left) (go : End Globals → Extent) (before e : End Globals) → (if t then stop_after l else Some at_cell) ≡ None → l ≡ through
    → (if t then extend l go before e else stop_here at_cell before) ≡ one_more (go e)
goes_by false l go before e is on = cc
goes_by true through go before e is on = refl
goes_by true next_file go before e is on = cc
goes_by true (exit n) go before e is on = cc
goes_by true (fault f) go before e is on = cc
goes_by true clash go before e is on = cc

ends_by : (t : Bool) (l : Left) (go : End Globals → Extent) (before e : End Globals) → (if t then stop_after l else Some at_cell) ≡ None → (l ≡ through → ⊥)
    → (if t then extend l go before e else stop_here at_cell before) ≡ last_one e
ends_by false l go before e is off = cc
ends_by true through go before e is off = absurd (off refl)
ends_by true next_file go before e is off = cc
ends_by true (exit n) go before e is off = refl
ends_by true (fault f) go before e is off = cc
ends_by true clash go before e is off = cc

-- a chunk that is not merged: the merge ends before it
not_merged_at : (old : Extent) (c : Chunk) (o : Option Stop) (s : Stop) → o ≡ Some s → o ≡ stop_at c.table c.left old.end.world → (cs : List Chunk)
    → merge_more old (c ∷ cs) ≡ record { count = old.count; end = old.end; stop = o }
not_merged_at old c o s is at cs =
    let none_more : old.count + 0 ≡ old.count = omega arith in
    ap (behind old.count) (stops_by (all_take c.table old.end.world) c.left s (λ x. merge_far cs x) old.end (with_chunk c old.end) (sym at ∙ is))
    ∙ (λ i. record { count = none_more i; end = old.end; stop = sym is i })

pub not_merged : (g : Globals) (m : Merged) (before : Option MergeStop) (stop : Option MergeStop) (c : Chunk) → is_some stop ≡ true
    → option_map stop_view stop ≡ stop_at c.table c.left g
    → Advances (extent_view g (record { merged = m; stop = before; noted = 0 })) c (extent_view g (record { merged = m; stop = stop; noted = 0 })) false
not_merged g m before None c is at = cc
not_merged g m before (Some s) c is at = not_merged_at (extent_view g (record { merged = m; stop = before; noted = 0 })) c (Some (stop_view s)) (stop_view s) refl at

-- a chunk that is merged
pub merged_too : (old new : Extent) (c : Chunk) (on : Bool) → stop_at c.table c.left old.end.world ≡ None → (IsTrue on ↔ (c.left ≡ through))
    → new.count ≡ old.count + 1 → new.end ≡ with_chunk c old.end → new.stop ≡ None → Advances old c new on
merged_too old new c true at on count end stop = (
  stop,
  λ cs.
      let f = merge_far cs (with_chunk c old.end) in
      let same : old.count + suc f.count ≡ new.count + f.count = omega (arith, count) in
      ap (behind old.count) (goes_by (all_take c.table old.end.world) c.left (λ x. merge_far cs x) old.end (with_chunk c old.end) at (on.0 refl))
      ∙ (λ i. record { count = same i; end = f.end; stop = f.stop })
      ∙ sym (ap (λ x. behind new.count (merge_far cs x)) end),
)
merged_too old new c false at on count end stop = λ cs.
    ap (behind old.count) (ends_by (all_take c.table old.end.world) c.left (λ x. merge_far cs x) old.end (with_chunk c old.end) at (λ h. let no : false ≡ true = on.1 h in cc))
    ∙ (λ i. record { count = sym count i; end = sym end i; stop = sym stop i })

-- no chunk more
pub no_more : (f : Extent) → f.stop ≡ None → merge_more f [] ≡ f
no_more f stop =
    let none_more : f.count + 0 ≡ f.count = omega arith in
    λ i. record { count = none_more i; end = f.end; stop = sym stop i }

-- a chunk that is merged has cells that take what it noted
pub takes_all : (t : Bool) (l : Left) → (if t then stop_after l else Some at_cell) ≡ None → t ≡ true
takes_all true l is = refl
takes_all false l is = cc

pub no_stop : (stop : Option MergeStop) → is_some stop ≡ false → option_map stop_view stop ≡ None
no_stop None is = refl
no_stop (Some s) is = cc

-- ---- the merge of all, by how far it gets

module _ (cs : List Chunk) (e : End Globals) (f : Extent) (on : e.left ≡ through) (is : f ≡ merge_far cs e) where
  answers : merge cs e ≡ answer_of f.stop f.end
  answers = (extent cs e on).1 ∙ ap (λ (x : Extent). answer_of x.stop x.end) (sym is)

  pub stopped_at : (s : Stop) → f.stop ≡ Some s → merge cs e ≡ Err s
  stopped_at s stop = answers ∙ ap (λ o. answer_of o f.end) stop

  pub all_merged : f.stop ≡ None → merge cs e ≡ Ok f.end
  all_merged stop = answers ∙ ap (λ o. answer_of o f.end) stop
