-- The sections of a table, one after the other.
use Rattle.std.proofs.Common.{◌≡◌, ℕ, ◌+◌, ◌-◌, Bool, true, false, List, [], ◌∷◌, ◌++◌, length, Option, Some, None, refl, ap, sym, ◌∙◌, subst, append_assoc, append-nil, arith}
use Rattle.std.proofs.KnownBytes.{Appends-nil, Appends-trans}
use Rattle.pawk_input.specs.Input.{Item}
use Rattle.pawk_store.specs.Globals.{Globals}
use Rattle.pawk_store.specs.Records.{End}
use Rattle.pawk_merge_law.specs.Phases.{Phase}
use Rattle.pawk_merge_law.specs.ChunkedRuns.{all_of}
use Rattle.pawk_numbered.specs.Mentions.{reads_number}
use Rattle.pawk_shards.specs.Apart.{HasCome}
use Rattle.pawk_shards.specs.Told.{Tell}
use Rattle.pawk_tables.specs.Layout.{Section}
use Rattle.pawk_tables.specs.Reading.{AreInTurn, IsInFront, section, records}
use Rattle.pawk_tables.specs.Reading as reading
use Rattle.pawk_tables.specs.declared.section.Shape.{Shape}
use Rattle.pawk_flow.specs.Flow.{Flow}
use Rattle.pawk_table_merge.specs.declared.merging.TableEnd.{TableEnd}
use Rattle.pawk_table_merge.specs.declared.merging.TableEnd.TheVariants.{Through, Ended, Stopped}
use Rattle.pawk_table_merge.specs.declared.section.Setting.{Setting}
use Rattle.pawk_table_merge.specs.declared.section.Progress.{Progress}
use Rattle.pawk_table_merge.specs.Later.{TellLaterLaw}
use Rattle.pawk_table_merge.specs.TableMerges.{end_at, IsAt, IsCounted, IsWhole, LeavesSo}
use Rattle.pawk_table_merge.specs.Sections.{phase_of, IsIn, IsLast, GoesTo, MergesSection, MergesSections, MergesSome}
use Rattle.pawk_table_merge.proofs.PartLemmas.{number_come}

-- what is in front of bytes is one item
abbrev pub OneInFront : Type 0
OneInFront = (scalars arrays : ℕ) (bytes : List ℕ) (i j : reading.Item) (rest other : List ℕ) →
    IsInFront scalars arrays bytes i rest → IsInFront scalars arrays bytes j other → (i ≡ j) × (rest ≡ other)

-- how a run goes on with the sections after the first, which is this
pub record AfterFirst (m n : ℕ) (s : Section) (after : List ℕ) (sections : List Section) (count : ℕ) : Type 0 where
  pub others : List Section
  pub are : sections ≡ s ∷ others
  pub in_turn : AreInTurn m n after others count

pub after_first : OneInFront → (m n : ℕ) (bytes : List ℕ) (s : Section) (after : List ℕ) (sections : List Section) (count : ℕ) →
    IsInFront m n bytes (section s) after → AreInTurn m n bytes sections count → AfterFirst m n s after sections count
after_first one m n bytes s after [] count here h =
    let no : section s ≡ records count = (one m n bytes (section s) (records count) after [] here h).0 in absurd cc
after_first one m n bytes s after (t ∷ ts) count here h =
    let same = one m n bytes (section t) (section s) h.0 after h.1 here in
    let are : t ≡ s = let e : section t ≡ section s = same.0 in cc in
    record { others = ts; are = ap (λ (x : Section). x ∷ ts) are; in_turn = subst (λ (r : List ℕ). AreInTurn m n r ts count) same.1 h.2 }

-- where the number of records is in front there are no more sections
no_more : OneInFront → (m n : ℕ) (bytes : List ℕ) (k : ℕ) (after : List ℕ) (sections : List Section) (count : ℕ) →
    IsInFront m n bytes (records k) after → AreInTurn m n bytes sections count → sections ≡ []
no_more one m n bytes k after [] count here h = refl
no_more one m n bytes k after (t ∷ ts) count here h =
    let no : section t ≡ records k = (one m n bytes (section t) (records k) h.0 after h.1 here).0 in absurd cc

-- and it is that number
same_count : OneInFront → (m n : ℕ) (bytes : List ℕ) (k : ℕ) (after : List ℕ) (sections : List Section) (count : ℕ) →
    IsInFront m n bytes (records k) after → AreInTurn m n bytes sections count → k ≡ count
same_count one m n bytes k after [] count here h = let e : records k ≡ records count = (one m n bytes (records k) (records count) after [] here h).0 in cc
same_count one m n bytes k after (t ∷ ts) count here h =
    let no : section t ≡ records k = (one m n bytes (section t) (records k) h.0 after h.1 here).0 in absurd cc

-- no sections tell of no records
none_told : (p : Phase) (rs : List ℕ) (nr : ℕ) (name : List ℕ) (chunks : List (List Item)) → Tell p rs nr name [] chunks → chunks ≡ []
none_told p rs nr name [] h = refl
none_told p rs nr name (c ∷ cs) h = absurd h

-- a section after which none is looked at
last_counted : (before now : ℕ) (end : TableEnd) → IsLast before now end → IsCounted before now end
last_counted before now Through h = absurd h
last_counted before now (Ended left) h = tt
last_counted before now (Stopped stop) h = h

last_whole : (before now count : ℕ) (end : TableEnd) → IsLast before now end → IsWhole before now count end
last_whole before now count Through h = absurd h
last_whole before now count (Ended left) h = tt
last_whole before now count (Stopped stop) h = tt

-- ---- the first sections

-- none
pub merges_none : (s : Setting) (shape : Shape) (bytes : List ℕ) (taken : Option (List ℕ)) (old : Flow) (x : Progress) → x.flow ≡ old → x.name.now ≡ [] →
    MergesSome s shape bytes bytes taken taken old x
merges_none s shape bytes taken old x flow name = record {
  wrote = [];
  appends = Appends-nil taken;
  turn = λ sections count turn. (sections, turn);
  is = λ b may items output at sections count turn chunks told.
      let p = phase_of s b in
      let here : end_at old output ≡ end_at x.flow (output ++ []) = λ j. end_at ((sym flow) j) ((sym (append-nil output)) j) in
      record {
        sections = sections;
        in_turn = turn;
        goes = record {
          done = items;
          more = chunks;
          parts = refl;
          is_in = record {
            come = subst (λ (e : End Globals). HasCome p items e) here at.come;
            exact = λ _. at.ends ∙ here;
          };
          told = subst (λ (l : List ℕ). Tell p s.rs.now (p.state.nr + length items) l sections chunks) (sym name) told;
        };
      };
}

module _ (one : OneInFront) (s : Setting) (shape : Shape) (bytes rest : List ℕ) (taken mid_taken now_taken : Option (List ℕ)) (old : Flow) (x : Progress)
    (so_far : MergesSome s shape bytes rest taken mid_taken old x) where
  abbrev m : ℕ
  m = shape.scalars

  abbrev n : ℕ
  n = shape.arrays

  -- one more
  pub merges_more : (t : Section) (after : List ℕ) → IsInFront m n rest (section t) after → (y : Progress) → MergesSection s t mid_taken now_taken x y None → MergesSome s shape bytes after taken now_taken old y
  merges_more t after here y more = record {
    wrote = so_far.wrote ++ more.wrote;
    appends = Appends-trans taken mid_taken now_taken so_far.wrote more.wrote so_far.appends more.appends;
    turn = λ sections count turn.
        let r = so_far.turn sections count turn in
        let first = after_first one m n rest t after r.0 count here r.1 in
        (first.others, first.in_turn);
    is = λ b may items output at sections count turn chunks told.
        let p = phase_of s b in
        let r = so_far.is b may items output at sections count turn chunks told in
        let first = after_first one m n rest t after r.sections count here r.in_turn in
        let goes = r.goes in
        let told_first = subst (λ (l : List Section). Tell p s.rs.now (p.state.nr + length goes.done) x.name.now l goes.more) first.are goes.told in
        let next : GoesTo p s.rs.now goes.done (output ++ so_far.wrote ++ more.wrote) y first.others goes.more = more.is b may goes.done (output ++ so_far.wrote) goes.is_in first.others goes.more told_first in
        record {
          sections = first.others;
          in_turn = first.in_turn;
          goes = record {
            done = next.done;
            more = next.more;
            parts = goes.parts ∙ next.parts;
            is_in = subst (λ (o : List ℕ). IsIn p next.done o y) (append_assoc output so_far.wrote more.wrote) next.is_in;
            told = next.told;
          };
        };
  }

  -- the one after which none is looked at
  pub merges_last : (t : Section) (after : List ℕ) → IsInFront m n rest (section t) after → (y : Progress) (end : TableEnd) → MergesSection s t mid_taken now_taken x y (Some end) → MergesSections s shape bytes taken now_taken old y.flow end
  merges_last t after here y end last = record {
    wrote = so_far.wrote ++ last.wrote;
    appends = Appends-trans taken mid_taken now_taken so_far.wrote last.wrote so_far.appends last.appends;
    counted = last_counted s.come y.flow.state.nr end last.last;
    whole = λ sections count turn. last_whole s.come y.flow.state.nr count end last.last;
    is = λ b may items output at sections count turn chunks told.
        let p = phase_of s b in
        let r = so_far.is b may items output at sections count turn chunks told in
        let first = after_first one m n rest t after r.sections count here r.in_turn in
        let goes = r.goes in
        let told_first = subst (λ (l : List Section). Tell p s.rs.now (p.state.nr + length goes.done) x.name.now l goes.more) first.are goes.told in
        let so : LeavesSo p (goes.done ++ all_of goes.more) (output ++ so_far.wrote ++ last.wrote) y.flow end = last.is b may goes.done (output ++ so_far.wrote) goes.is_in first.others goes.more told_first in
        subst (λ T. T) (λ j. LeavesSo p ((sym goes.parts) j) (append_assoc output so_far.wrote last.wrote j) y.flow end) so;
  }

-- all of them
pub merges_all : OneInFront → (s : Setting) (shape : Shape) (bytes rest : List ℕ) (taken now_taken : Option (List ℕ)) (old : Flow) (x : Progress) → MergesSome s shape bytes rest taken now_taken old x →
    (k : ℕ) (after : List ℕ) → IsInFront shape.scalars shape.arrays rest (records k) after → x.has_record ≡ true → x.flow.state.nr - s.come ≡ k → MergesSections s shape bytes taken now_taken old x.flow Through
merges_all one s shape bytes rest taken now_taken old x so_far k after here known number = record {
  wrote = so_far.wrote;
  appends = so_far.appends;
  counted = tt;
  whole = λ sections count turn.
      let r = so_far.turn sections count turn in
      number ∙ same_count one shape.scalars shape.arrays rest k after r.0 count here r.1;
  is = λ b may items output at sections count turn chunks told.
      let p = phase_of s b in
      let r = so_far.is b may items output at sections count turn chunks told in
      let goes = r.goes in
      let none = no_more one shape.scalars shape.arrays rest k after r.sections count here r.in_turn in
      let told_none = subst (λ (l : List Section). Tell p s.rs.now (p.state.nr + length goes.done) x.name.now l goes.more) none goes.told in
      let empty = none_told p s.rs.now (p.state.nr + length goes.done) x.name.now goes.more told_none in
      let all : items ++ all_of chunks ≡ goes.done = goes.parts ∙ ap (λ (cs : List (List Item)). goes.done ++ all_of cs) empty ∙ append-nil goes.done in
      subst (λ (is : List Item). IsAt p is (end_at x.flow (output ++ so_far.wrote))) (sym all)
      (record { ends = goes.is_in.exact known; come = goes.is_in.come });
}

-- ---- how many records come before

-- A table tells of records after those that have come, where it is so by its own word, or where the program does not read NR.
tell_here : TellLaterLaw → (p : Phase) (rs : List ℕ) (nr come : ℕ) → (reads_number p.code ≡ true → nr ≡ come) → (sections : List Section) (chunks : List (List Item)) →
    Tell p rs nr [] sections chunks → (reads : Bool) → reads_number p.code ≡ reads → Tell p rs come [] sections chunks
tell_here law p rs nr come known sections chunks told true is = subst (λ (n : ℕ). Tell p rs n [] sections chunks) (known is) told
tell_here law p rs nr come known sections chunks told false is = law p is rs nr come [] sections chunks told

-- as many records have come as a table says
pub comes_after : (p : Phase) (items : List Item) (e : End Globals) (before opened : ℕ) → HasCome p items e → opened ≡ p.state.nr → before ≡ e.state.nr - opened → before ≡ length items
comes_after p items e before opened here is known = let n = number_come p items e here in omega (arith, n)

pub told_there : TellLaterLaw → (p : Phase) (rs : List ℕ) (before opened : ℕ) → opened ≡ p.state.nr → (items : List Item) (e : End Globals) → HasCome p items e →
    (reads_number p.code ≡ true → before ≡ e.state.nr - opened) → (sections : List Section) (chunks : List (List Item)) →
    Tell p rs (p.state.nr + before) [] sections chunks → Tell p rs (p.state.nr + length items) [] sections chunks
told_there law p rs before opened is items e here known sections chunks told =
    tell_here law p rs (p.state.nr + before) (p.state.nr + length items) (λ reads. ap (λ n. p.state.nr + n) (comes_after p items e before opened here is (known reads))) sections chunks told
    (reads_number p.code) refl
