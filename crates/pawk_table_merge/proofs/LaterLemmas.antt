-- Sections of a program that does not read NR tell the same, however many records come before.
use Rattle.std.proofs.Common.{◌≡◌, ℕ, ◌+◌, false, List, [], ◌∷◌, length, None, ap, sym, ◌∙◌}
use Rattle.pawk_input.specs.Input.{Item}
use Rattle.pawk_store.specs.RecordStates.{RecordState}
use Rattle.pawk_frozen.specs.Frozens.{Frozen, blank_world, calls}
use Rattle.pawk_store.specs.Records.{through, End}
use Rattle.pawk_store.specs.Runs.{records_from}
use Rattle.pawk_store.specs.Steady.{AreSameButRecord}
use Rattle.pawk_frozen.specs.Marks.{Table}
use Rattle.pawk_merge.specs.Merges.{Chunk}
use Rattle.pawk_merge_law.specs.Phases.{Phase}
use Rattle.pawk_merge_law.specs.ChunkedRuns.{IsTold, chunk_end, leavings}
use Rattle.pawk_numbered.specs.Mentions.{reads_number}
use Rattle.pawk_numbered.specs.Laws.{with_records_before, with_number, FromNoneLaw}
use Rattle.pawk_shards.specs.Told.{Origin, one_chunk, two_parts, part_chunk, Says, IsPartOf, Tell}
use Rattle.pawk_tables.specs.Layout.{Section, file, part, kept}

module _ (law : FromNoneLaw calls) (p : Phase) (blind : reads_number p.code ≡ false) where
  -- a chunk's first end
  abbrev chunk_opening : RecordState → End Frozen
  chunk_opening s = record { world = blank_world p.globals p.roles; state = s; output = []; left = through }

  -- how it ends after no record
  abbrev from_none : RecordState → List Item → End Frozen
  from_none s items = records_from calls p.eres p.code p.budget None (with_number 0 (chunk_opening s)) items

  numbered : (s : RecordState) (n : ℕ) (items : List Item) → chunk_end p (record s { nr = n }) items ≡ with_records_before n (from_none s items)
  numbered s n items = law p.eres p.code blind p.budget n None items (chunk_opening s)

  -- A chunk leaves the same after any number of records, but for the record state.
  pub told_later : (nr later : ℕ) (chunk : List Item) (c : Chunk) → IsTold p nr chunk c → (state : RecordState) × IsTold p later chunk (record c { state = state })
  told_later nr later chunk c told =
      let s = told.0 in
      let t : RecordState = record s { nr = later } in
      let same : AreSameButRecord (record p.state { nr = nr }) s = told.1 in
      let z = from_none s chunk in
      let itself : chunk_end p s chunk ≡ with_records_before s.nr z = numbered s s.nr chunk in
      let then : chunk_end p t chunk ≡ with_records_before later z = numbered s later chunk in
      let left : RecordState = record z.state { nr = later + z.state.nr } in (
        left,
        (
          t,
          ap (λ (x : RecordState). record x { nr = later }) same,
          ap (λ (d : Chunk). record d { state = left }) (told.2 ∙ ap leavings itself) ∙ ap leavings (sym then),
        ),
      )

  -- What a part says after so many records, a part of some origin says after any number: of each chunk the record state changes.
  says_later : (origin : Origin) (nr later : ℕ) (chunk : List Item) (count : ℕ) (output : List ℕ) (table : Table) → Says p origin nr chunk count output table → (other : Origin) × Says p other later chunk count output table
  says_later (one_chunk state) nr later chunk count output table h =
      let told = told_later nr later chunk (part_chunk state output table) h.told in
      (one_chunk told.0, record { some = h.some; counted = h.counted; told = told.1 })
  says_later (two_parts first second) nr later chunk count output table h =
      let one = says_later first nr later h.first_items h.first_count h.first_output h.first_table h.first in
      let two = says_later second (nr + h.first_count) (later + h.first_count) h.second_items h.second_count h.second_output h.second_table h.second in (
        two_parts one.0 two.0,
        record {
          first_items = h.first_items;
          first_count = h.first_count;
          first_output = h.first_output;
          first_table = h.first_table;
          second_items = h.second_items;
          second_count = h.second_count;
          second_output = h.second_output;
          second_table = h.second_table;
          first = one.1;
          second = two.1;
          items = h.items;
          counted = h.counted;
          outputs = h.outputs;
          composed = h.composed;
          slots = h.slots;
        },
      )

  -- a part tells the same after any number of records
  part_later : (nr later : ℕ) (chunk : List Item) (count : ℕ) (output : List ℕ) (table : Table) → IsPartOf p nr chunk count output table → IsPartOf p later chunk count output table
  part_later nr later chunk count output table h =
      let said = says_later h.origin nr later chunk count output table h.says in
      record { origin = said.0; says = said.1 }

  pub tell_later : (rs : List ℕ) (nr later : ℕ) (name : List ℕ) (sections : List Section) (chunks : List (List Item)) → Tell p rs nr name sections chunks → Tell p rs later name sections chunks
  tell_later rs nr later name [] [] h = tt
  tell_later rs nr later name [] (c ∷ cs) h = absurd h
  tell_later rs nr later name (file other ∷ ss) cs h = tell_later rs nr later other ss cs h
  tell_later rs nr later name (part count output table ∷ ss) [] h = absurd h
  tell_later rs nr later name (part count output table ∷ ss) (c ∷ cs) h = (
    part_later nr later c count output table h.0,
    tell_later rs (nr + count) (later + count) name ss cs h.1,
  )
  tell_later rs nr later name (kept fnr bytes ∷ ss) [] h = absurd h
  tell_later rs nr later name (kept fnr bytes ∷ ss) (c ∷ cs) h =
      (h.0, h.1, tell_later rs (nr + length c) (later + length c) name ss cs h.2)
