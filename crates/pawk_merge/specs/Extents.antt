-- How far chunks are merged, where a stop is met: what came before it is kept.
use Rattle.std.specs.Prelude.{◌≡◌, ℕ, suc, ◌+◌, ◌<◌, List, [], ◌∷◌, length, take, Option, Some, None, MatchOption, Result, Ok, Err, if◌then◌else◌}
use Rattle.pawk_store.specs.Globals.{Globals}
use Rattle.pawk_store.specs.Records.{Left, through, next_file, exit, fault, clash, End}
use Rattle.pawk_frozen.specs.Marks.{Table}
use Rattle.pawk_merge.specs.Tables.{all_take}
use Rattle.pawk_merge.specs.Merges.{Chunk, Stop, at_cell, at_fault, at_clash, with_chunk, merge}

-- how many chunks are merged, their end, and the stop that is met after them
pub record Extent : Type 0 where
  pub count : ℕ
  pub end : End Globals
  pub stop : Option Stop

abbrev pub stop_here : Stop → End Globals → Extent
stop_here s e = record { count = 0; end = e; stop = Some s }

abbrev pub one_more : Extent → Extent
one_more f = record f { count = suc f.count }

-- how the merge goes on after a chunk that was left so: with the end that has it, or, at a stop, with the one before it
abbrev pub extend : Left → (End Globals → Extent) → End Globals → End Globals → Extent
extend through go before e = one_more (go e)
extend next_file go before e = stop_here at_clash before
extend (exit n) go before e = record { count = 1; end = e; stop = None }
extend (fault f) go before e = stop_here at_fault before
extend clash go before e = stop_here at_clash before

-- chunks merged in their order as far as they can be: a chunk whose cells do not all take what it noted, or that ended in a
-- fault or a clash, is left out with those after it
abbrev pub merge_far : List Chunk → End Globals → Extent
merge_far [] e = record { count = 0; end = e; stop = None }
merge_far (c ∷ cs) e =
    if all_take c.table e.world then extend c.left (λ x. merge_far cs x) e (with_chunk c e) else stop_here at_cell e

-- what the merge of all answers
abbrev pub answer_of : Option Stop → End Globals → Result (End Globals) Stop
answer_of None e = Ok e
answer_of (Some s) e = Err s

-- The first chunks, as many as were merged, have this merge; a stop after them is that of the merge of all, and then the last
-- of them was left through and not all were merged.
abbrev pub FarLaw : Type 0
FarLaw =
    (results : List Chunk) (e : End Globals) → e.left ≡ through →
    let f = merge_far results e in
    (merge (take f.count results) e ≡ Ok f.end)
    × (merge results e ≡ answer_of f.stop f.end)
    × MatchOption f.stop (Unit {0}) (λ s. (f.end.left ≡ through) × (f.count < length results))

-- the stop of a chunk that was left so, where its cells take what it noted
abbrev pub stop_after : Left → Option Stop
stop_after through = None
stop_after next_file = Some at_clash
stop_after (exit n) = None
stop_after (fault f) = Some at_fault
stop_after clash = Some at_clash

-- the stop of a chunk with this table, which was left so, over these globals; none where it is merged
abbrev pub stop_at : Table → Left → Globals → Option Stop
stop_at table left g = if all_take table g then stop_after left else Some at_cell

-- how far these chunks and more are merged
abbrev pub merge_more : Extent → List Chunk → Extent
merge_more f cs = let g = merge_far cs f.end in record g { count = f.count + g.count }
