-- Chunks of records that were run apart: each over the globals that BEGIN left, wherever and whenever it was run. What they left
-- is merged at the point to which a run has come by then, and records that are run in order may come between. POSIX.1-2017, awk,
-- "Overall Program Structure".
use Rattle.std.specs.Prelude.{◌≡◌, ◌↔◌, ℕ, ◌+◌, ◌<◌, List, [], ◌∷◌, ◌++◌, length, take, All, None, MatchOption, MatchResult, Ok}
use Rattle.pawk_input.specs.Input.{Item}
use Rattle.pawk_store.specs.Globals.{Globals, calls}
use Rattle.pawk_store.specs.Records.{through, End}
use Rattle.pawk_store.specs.Runs.{records_from}
use Rattle.pawk_store.specs.Steady.{AreSameButRecord, status_after}
use Rattle.pawk_merge.specs.Extents.{merge_far}
use Rattle.pawk_merge.specs.Merges.{Chunk, merge}
use Rattle.pawk_merge_law.specs.Phases.{Phase, MayRun, opening, in_order, FaultsOrCreates}
use Rattle.pawk_merge_law.specs.ChunkedRuns.{IsTold, Ran, HasRecord, all_of}
use Rattle.pawk_merge_law.specs.Windows.{phase_at}

-- ---- how far a run has come

-- the same ends, but for the record, FNR and FILENAME
abbrev pub AreEndsButRecord : End Globals → End Globals → Type 0
AreEndsButRecord e f = (f ≡ record e { state = f.state }) × AreSameButRecord e.state f.state

-- How far a run has come: after these records, which neither ended the run, nor ended in a fault, nor created an element of an
-- array that is no reader array. It is where they end in order, but for the record state: this is the one that BEGIN left, with
-- NR moved on by as many records, but for the record, FNR and FILENAME.
pub record HasCome (p : Phase) (items : List Item) (e : End Globals) : Type 0 where
  pub ends : e ≡ record (in_order p items) { state = e.state }
  pub left : e.left ≡ through
  pub state : AreSameButRecord (record p.state { nr = p.state.nr + length items }) e.state
  pub harmless : ¬ FaultsOrCreates p items

-- These records end so in order, but for the record, FNR and FILENAME, neither in a fault nor by the creation of an element of an
-- array that is no reader array; where they are left through, a run has come so far.
pub record EndsSo (p : Phase) (items : List Item) (e : End Globals) : Type 0 where
  pub ends : AreEndsButRecord (in_order p items) e
  pub harmless : ¬ FaultsOrCreates p items
  pub goes_on : e.left ≡ through → HasCome p items e

-- before the first record
abbrev pub OpeningLaw : Type 0
OpeningLaw = (p : Phase) → HasCome p [] (opening p)

-- ---- what chunks left that were run apart

-- what chunks left, each the same as this, but for the record, FNR and FILENAME
abbrev pub AreChunksButRecord : List Chunk → List Chunk → Type 0
AreChunksButRecord [] [] = Unit {0}
AreChunksButRecord [] (d ∷ ds) = ⊥
AreChunksButRecord (c ∷ cs) [] = ⊥
AreChunksButRecord (c ∷ cs) (d ∷ ds) =
    (d ≡ record c { state = d.state }) × AreSameButRecord c.state d.state × AreChunksButRecord cs ds

-- What chunks leave in their order, as Ran has it, of which the record, FNR and FILENAME need not be known.
abbrev pub RanButRecord : Phase → ℕ → List (List Item) → List Chunk → Type 0
RanButRecord p nr chunks results = (whole : List Chunk) × Ran p nr chunks whole × AreChunksButRecord whole results

-- What a chunk leaves of the record state, but for the record, FNR and FILENAME: NR counts the records that were read, all of
-- them where it was left through, `exit` gives its status, and all else is as BEGIN left it.
abbrev pub LeavesLaw : Type 0
LeavesLaw =
    (p : Phase) → MayRun p → (nr : ℕ) (chunk : List Item) (c : Chunk) → IsTold p nr chunk c →
    (read : ℕ)
    × AreSameButRecord (record p.state { nr = nr + read; status = status_after p.state.status c.left }) c.state
    × (c.left ≡ through → read ≡ length chunk)

-- ---- what is merged

-- Chunks, each of which has a record, were run apart, and come after the records to which a run has come: what they left is
-- merged there. Then their records end so in order; or the merge stops, exactly where the records in order, as far as these, end
-- in a fault, or create an element of an array that is no reader array.
abbrev pub ApartLaw : Type 0
ApartLaw =
    (p : Phase) → MayRun p → (items : List Item) (e : End Globals) → HasCome p items e →
    (chunks : List (List Item)) (results : List Chunk) → All HasRecord chunks →
    RanButRecord p (p.state.nr + length items) chunks results →
    MatchResult (merge results e)
    (EndsSo p (items ++ all_of chunks))
    (λ stop. FaultsOrCreates p (items ++ all_of chunks))

-- They are merged there as far as they can be: all of them, or where a merge stops the first of them, to which the run has come
-- then, and of which there are fewer.
abbrev pub FarApartLaw : Type 0
FarApartLaw =
    (p : Phase) → MayRun p → (items : List Item) (e : End Globals) → HasCome p items e →
    (chunks : List (List Item)) (results : List Chunk) → All HasRecord chunks →
    RanButRecord p (p.state.nr + length items) chunks results →
    let f = merge_far results e in
    MatchOption f.stop
    (EndsSo p (items ++ all_of chunks) f.end)
    (λ stop.
    HasCome p (items ++ all_of (take f.count chunks)) f.end × (f.count < length results)
    × FaultsOrCreates p (items ++ all_of chunks))

-- Where all is known that the chunks left, the merge gives exactly the end of their records in order, the record, FNR and
-- FILENAME too.
abbrev pub WholeLaw : Type 0
WholeLaw =
    (p : Phase) → MayRun p → (items : List Item) (e : End Globals) → HasCome p items e →
    (chunks : List (List Item)) (results : List Chunk) → All HasRecord chunks →
    Ran p (p.state.nr + length items) chunks results → HasRecord (all_of chunks) →
    (f : End Globals) → merge results e ≡ Ok f → in_order p (items ++ all_of chunks) ≡ f

-- the same of one chunk
abbrev pub OneApartLaw : Type 0
OneApartLaw =
    (p : Phase) → MayRun p → (items : List Item) (e : End Globals) → HasCome p items e →
    (chunk : List Item) (c : Chunk) → HasRecord chunk → IsTold p (p.state.nr + length items) chunk c →
    MatchResult (merge (c ∷ []) e)
    (λ f. (in_order p (items ++ chunk) ≡ f) × EndsSo p (items ++ chunk) f)
    (λ stop. FaultsOrCreates p (items ++ chunk))

-- ---- what is run in order between

-- Records that follow are run in order from there: they end exactly as after the records before them, the record, FNR and
-- FILENAME too, and end in a fault, or create an element of an array that is no reader array, exactly where all do.
pub record GoesOn (p : Phase) (items : List Item) (e : End Globals) (more : List Item) : Type 0 where
  pub ends : records_from calls p.eres p.code p.budget None e more ≡ in_order p (items ++ more)
  pub faults : FaultsOrCreates p (items ++ more) ↔ FaultsOrCreates (phase_at p e) more
  pub ends_so : (¬ FaultsOrCreates (phase_at p e) more) →
      EndsSo p (items ++ more) (records_from calls p.eres p.code p.budget None e more)

abbrev pub InTurnLaw : Type 0
InTurnLaw =
    (p : Phase) → MayRun p → (items : List Item) (e : End Globals) → HasCome p items e →
    (more : List Item) → HasRecord more → GoesOn p items e more

-- Chunks may also be run over the globals as they are there.
abbrev pub MayRunThereLaw : Type 0
MayRunThereLaw = (p : Phase) → MayRun p → (items : List Item) (e : End Globals) → HasCome p items e → MayRun (phase_at p e)

-- ---- what follows

-- Whatever records follow: a fault, or the creation of an element, stays one; and where records ended the run, none that follows
-- is looked at.
abbrev pub LaterLaw : Type 0
LaterLaw =
    (p : Phase) → MayRun p → (items more : List Item) →
    (FaultsOrCreates p items → FaultsOrCreates p (items ++ more))
    × ((¬ ((in_order p items).left ≡ through)) →
    (in_order p (items ++ more) ≡ in_order p items) × (FaultsOrCreates p (items ++ more) ↔ FaultsOrCreates p items))
