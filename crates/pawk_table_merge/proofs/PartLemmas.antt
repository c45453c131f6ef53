-- A part of a table that is joined to a run where it has come.
use Rattle.std.proofs.Common.{◌≡◌, ℕ, ◌+◌, Bool, true, false, if◌then◌else◌, List, [], ◌∷◌, ◌++◌, length, Result, Ok, Err, refl, ap, sym, ◌∙◌, subst, append_assoc, append-nil, length-append, arith}
use Rattle.std.specs.Prelude.{MatchResult}
use Rattle.pawk_input.specs.Input.{Item}
use Rattle.pawk_store.specs.Globals.{Globals}
use Rattle.pawk_store.specs.RecordStates.{RecordState}
use Rattle.pawk_store.specs.Records.{through, End}
use Rattle.pawk_store.specs.Steady.{AreSameButRecord}
use Rattle.pawk_frozen.specs.Marks.{Table}
use Rattle.pawk_merge.specs.Merges.{Chunk, Stop, at_cell, with_chunk}
use Rattle.pawk_merge.specs.Tables.{all_take}
use Rattle.pawk_merge_law.specs.Phases.{Phase, MayRun, FaultsOrCreates}
use Rattle.pawk_merge_law.specs.ChunkedRuns.{all_of}
use Rattle.pawk_shards.specs.Apart.{HasCome, EndsSo, LaterLaw}
use Rattle.pawk_shards.specs.Parts.{PartSaysLaw, PartApartLaw}
use Rattle.pawk_shards.specs.Told.{Tell, IsPartOf, last_state, part_chunk}
use Rattle.pawk_tables.specs.Layout.{Section, part}
use Rattle.pawk_flow.specs.Flow.{Flow}
use Rattle.pawk_table_merge.specs.declared.section.Progress.{Progress}
use Rattle.pawk_table_merge.specs.TableMerges.{end_at}
use Rattle.pawk_table_merge.specs.Sections.{JoinsPart, IsIn, GoesTo}

-- the laws of parts
pub record PartLaws : Type 0 where
  pub says : PartSaysLaw
  pub apart : PartApartLaw

-- ---- records in two parts

-- the records of chunks after others
pub chunk_first : (items c : List Item) (cs : List (List Item)) → items ++ all_of (c ∷ cs) ≡ (items ++ c) ++ all_of cs
chunk_first items c cs = sym (append_assoc items c (all_of cs))

module _ (p : Phase) where
  -- how many records have come
  pub number_come : (items : List Item) (e : End Globals) → HasCome p items e → e.state.nr ≡ p.state.nr + length items
  number_come items e come = ap (λ (s : RecordState). s.nr) come.state

  -- A fault or an element that is created stays one.
  pub stays_bad : MayRun p → LaterLaw → (items c : List Item) (cs : List (List Item)) → FaultsOrCreates p (items ++ c) → FaultsOrCreates p (items ++ all_of (c ∷ cs))
  stays_bad may law items c cs bad = subst (λ is. FaultsOrCreates p is) (sym (chunk_first items c cs)) ((law p may (items ++ c) (all_of cs)).0 bad)

  -- ---- a part

  module _ (may : MayRun p) (law : PartLaws) (items : List Item) (output : List ℕ) (flow : Flow) (come : HasCome p items (end_at flow output))
      (c : List Item) (count : ℕ) (out : List ℕ) (table : Table) (told : IsPartOf p (p.state.nr + length items) c count out table) where
    abbrev chunk : Chunk
    chunk = part_chunk (last_state told.origin) out table

    abbrev all : List Item
    all = items ++ c

    abbrev before : End Globals
    before = end_at flow output

    -- what the merge of the part tells
    abbrev Met : Result (End Globals) Stop → Type 0
    Met r = MatchResult r (EndsSo p all) (λ stop. FaultsOrCreates p all)

    abbrev merged : Bool → Result (End Globals) Stop
    merged takes = if takes then Ok (with_chunk chunk before) else Err at_cell

    met : (takes : Bool) → all_take table flow.globals ≡ takes → Met (merged takes)
    met takes is = subst (λ b. Met (merged b)) is (law.apart p may items before come c count out table told)

    pub part_stops : all_take table flow.globals ≡ false → FaultsOrCreates p all
    part_stops is = met false is

    module _ (new : Flow) (takes : all_take table flow.globals ≡ true) (joins : JoinsPart count table flow new) where
      come_chunk : HasCome p all (with_chunk chunk before)
      come_chunk = (met true takes).goes_on refl

      number : flow.state.nr + count ≡ p.state.nr + length all
      number =
          let n = number_come items before come in
          let k = (law.says p may (p.state.nr + length items) c count out table told).1 in
          omega (arith, n, k, length-append items c)

      same_state : AreSameButRecord (record p.state { nr = p.state.nr + length all }) new.state
      same_state =
          let s = flow.state in
          let counted : record s { nr = s.nr + count } ≡ record p.state { nr = s.nr + count; line = s.line; fnr = s.fnr; name = s.name } =
          ap (λ (x : RecordState). record x { nr = s.nr + count }) come.state in
          let numbered : record s { nr = s.nr + count } ≡ record p.state { nr = p.state.nr + length all; line = s.line; fnr = s.fnr; name = s.name } =
          counted ∙ ap (λ (n : ℕ). record p.state { nr = n; line = s.line; fnr = s.fnr; name = s.name }) number in
          subst (λ (t : RecordState). AreSameButRecord (record p.state { nr = p.state.nr + length all }) t) (sym joins.state) numbered

      pub part_comes : HasCome p all (end_at new (output ++ out))
      part_comes = record {
        ends =
            ap (λ (g : Globals). record { world = g; state = new.state; output = output ++ out; left = through }) joins.globals
            ∙ ap (λ (e : End Globals). record e { state = new.state }) come_chunk.ends;
        left = refl;
        state = same_state;
        harmless = come_chunk.harmless;
      }

-- ---- the section of a part

module _ (p : Phase) (may : MayRun p) (law : PartLaws) (rs : List ℕ) (items : List Item) (output : List ℕ) (old : Progress) (is_in : IsIn p items output old)
    (count : ℕ) (out : List ℕ) (table : Table) (ss : List Section) where
  abbrev Tells : List (List Item) → Type 0
  Tells chunks = Tell p rs (p.state.nr + length items) old.name.now (part count out table ∷ ss) chunks

  pub part_section_stops : LaterLaw → all_take table old.flow.globals ≡ false → (chunks : List (List Item)) → Tells chunks → FaultsOrCreates p (items ++ all_of chunks)
  part_section_stops later is [] told = absurd told
  part_section_stops later is (c ∷ cs) told =
      stays_bad p may later items c cs (part_stops p may law items output old.flow is_in.come c count out table told.0 is)

  pub part_section_goes : (new : Progress) → all_take table old.flow.globals ≡ true → JoinsPart count table old.flow new.flow → new.name ≡ old.name → new.has_record ≡ false →
      (chunks : List (List Item)) → Tells chunks → GoesTo p rs items (output ++ out) new ss chunks
  part_section_goes new takes joins name none [] told = absurd told
  part_section_goes new takes joins name none (c ∷ cs) told =
      let all = items ++ c in
      let here = told.0 in
      let number : p.state.nr + length items + count ≡ p.state.nr + length all = let k = (law.says p may (p.state.nr + length items) c count out table here).1 in omega (arith, k, length-append items c) in
      let others : Tell p rs (p.state.nr + length items + count) old.name.now ss cs = told.1 in
      record {
        done = all;
        more = cs;
        parts = chunk_first items c cs;
        is_in = record {
          come = part_comes p may law items output old.flow is_in.come c count out table here new.flow takes joins;
          exact = λ h. let bad : true ≡ false = sym h ∙ none in absurd cc;
        };
        told = subst (λ T. T) (λ j. Tell p rs (number j) ((sym name) j).now ss cs) others;
      }

-- ---- the section of a file's name

pub file_section : (p : Phase) (rs : List ℕ) (items : List Item) (output : List ℕ) (old new : Progress) → IsIn p items output old → new.flow ≡ old.flow → new.has_record ≡ old.has_record →
    (ss : List Section) (chunks : List (List Item)) → Tell p rs (p.state.nr + length items) new.name.now ss chunks → GoesTo p rs items (output ++ []) new ss chunks
file_section p rs items output old new is_in flow has ss chunks told =
    let here : end_at old.flow output ≡ end_at new.flow (output ++ []) = λ j. end_at ((sym flow) j) ((sym (append-nil output)) j) in
    record {
      done = items;
      more = chunks;
      parts = refl;
      is_in = record {
        come = subst (λ (e : End Globals). HasCome p items e) here is_in.come;
        exact = λ h. is_in.exact (sym has ∙ h) ∙ here;
      };
      told = told;
    }
