-- Parts of tables, of one chunk or of several, one after the other. POSIX.1-2017, awk, "Overall Program Structure".
use Rattle.std.specs.Prelude.{◌≡◌, ℕ, ◌+◌, List, [], ◌∷◌, ◌++◌, length, MatchResult}
use Rattle.pawk_input.specs.Input.{Item}
use Rattle.pawk_store.specs.Globals.{Globals}
use Rattle.pawk_store.specs.Records.{End}
use Rattle.pawk_frozen.specs.Marks.{Table}
use Rattle.pawk_commute.specs.Settings.{HasSlots}
use Rattle.pawk_merge.specs.Merges.{merge}
use Rattle.pawk_merge_law.specs.Phases.{Phase, MayRun, FaultsOrCreates}
use Rattle.pawk_merge_law.specs.ChunkedRuns.{HasRecord}
use Rattle.pawk_shards.specs.Apart.{HasCome, EndsSo}
use Rattle.pawk_shards.specs.Joined.{AreNoted, AreComposed}
use Rattle.pawk_shards.specs.Told.{IsPartOf, last_state, part_chunk}

-- A part is of a record, and of as many as it says; and it has noted what chunks of a run may note.
abbrev pub PartSaysLaw : Type 0
PartSaysLaw =
    (p : Phase) → MayRun p → (nr : ℕ) (chunk : List Item) (count : ℕ) (output : List ℕ) (table : Table) →
    IsPartOf p nr chunk count output table → HasRecord chunk × (length chunk ≡ count) × AreNoted p table

-- Two parts, one after the other, are one part of the records of both.
abbrev pub PartsAsOneLaw : Type 0
PartsAsOneLaw =
    (p : Phase) (nr : ℕ) (some others : List Item) (m n : ℕ) (output more : List ℕ) (t u w : Table) →
    IsPartOf p nr some m output t → IsPartOf p (nr + m) others n more u →
    AreComposed t u w → HasSlots w.scalars w.arrays p.globals →
    IsPartOf p nr (some ++ others) (m + n) (output ++ more) w

-- A part comes after the records to which a run has come: what it says is merged there as what a chunk left. Then its records end
-- so in order; or the merge stops, exactly where the records in order, as far as these, end in a fault, or create an element of an
-- array that is no reader array.
abbrev pub PartApartLaw : Type 0
PartApartLaw =
    (p : Phase) → MayRun p → (items : List Item) (e : End Globals) → HasCome p items e →
    (chunk : List Item) (count : ℕ) (output : List ℕ) (table : Table)
    (part : IsPartOf p (p.state.nr + length items) chunk count output table) →
    MatchResult (merge (part_chunk (last_state part.origin) output table ∷ []) e)
    (EndsSo p (items ++ chunk))
    (λ stop. FaultsOrCreates p (items ++ chunk))
