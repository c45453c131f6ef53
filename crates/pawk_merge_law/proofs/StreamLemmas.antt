-- A whole run in windows.
use Rattle.std.proofs.Common.{◌≡◌, ℕ, true, if◌then◌else◌, List, [], ◌++◌, length, None, refl, ap, sym, ◌∙◌, subst}
use Rattle.std.specs.Prelude.{nat_le, flat_map}
use Rattle.pawk_value.specs.declared.faults.Fault.TheVariants as faults
use Rattle.pawk_input.specs.Input.{File, Item, items}
use Rattle.pawk_store.specs.Globals.{Globals, calls}
use Rattle.pawk_store.specs.RecordStates.{RecordState}
use Rattle.pawk_store.specs.Records.{Left, End, through, next_file, exit, fault, clash}
use Rattle.pawk_store.specs.Runs.{Finish, fault_at, at_record, finish_of, reads_records, take_separator, records_from, records_by_rs, after_records, after_begin, ends_from, run}
use Rattle.pawk_store.specs.Outputs.{with_output_before, finish_with_output_before, OutputIsAppendedLaw, OutputStaysLaw}
use Rattle.pawk_merge_law.specs.Phases.{Phase}
use Rattle.pawk_merge_law.specs.ChunkedRuns.{ChunksLaw}
use Rattle.pawk_merge_law.specs.Pieces.{Progress, IsOpen, if_open, resume}
use Rattle.pawk_merge_law.specs.Windows.{Window, records_in, without_output, RunsInWindows}
use Rattle.pawk_merge_law.specs.Streams.{end_of_begin, separator_after, before_windows}
use Rattle.pawk_merge_law.proofs.WindowLemmas.{follow, twice, output_stands}

-- where no record follows, or none is looked at, the end is that of the last window
none_follow : (p : Phase) (f : Progress Globals) (rest : List Item) (l : Left) → f.end.left ≡ l → (IsOpen l → rest ≡ []) → resume calls p.eres p.code p.budget f rest ≡ f.end
none_follow p f rest l on none =
    ap (λ x. if_open x (records_from calls p.eres p.code p.budget f.skip f.end rest) f.end) on ∙ by l none
  where
    by : (l : Left) → (IsOpen l → rest ≡ []) → if_open l (records_from calls p.eres p.code p.budget f.skip f.end rest) f.end ≡ f.end
    by through h = ap (λ is. records_from calls p.eres p.code p.budget f.skip f.end is) (h tt)
    by next_file h = ap (λ is. records_from calls p.eres p.code p.budget f.skip f.end is) (h tt)
    by (exit n) h = refl
    by (fault g) h = refl
    by clash h = refl

module _ (p : Phase) (law : ChunksLaw) (appended : OutputIsAppendedLaw calls) (stays : OutputStaysLaw calls) where
  abbrev records : End Globals → List Item → End Globals
  records e is = records_from calls p.eres p.code p.budget None e is

  records_end : (b : End Globals) (all : List Item) (windows : List Window) (out : List ℕ) (f : Progress Globals) (rest : List Item)
      → flat_map records_in windows ++ rest ≡ all → (IsOpen f.end.left → rest ≡ []) → b.left ≡ through → RunsInWindows p (without_output (record { skip = None; end = b })) windows out f
      → records b all ≡ with_output_before (b.output ++ out) f.end
  records_end b all windows out f rest whole none on runs =
      let a = without_output (record { skip = None; end = b }) in
      ap (λ is. records b is) (sym whole)
      ∙ output_stands p appended (record { skip = None; end = b }) (flat_map records_in windows ++ rest)
      ∙ ap (λ x. with_output_before b.output x) (follow p law appended f rest windows a out (subst IsOpen (sym on) tt) runs)
      ∙ twice p b.output out (resume calls p.eres p.code p.budget f rest)
      ∙ ap (λ x. with_output_before (b.output ++ out) x) (none_follow p f rest f.end.left refl none)

  pub runs_in_windows : (files : List File) (s : Globals) (state : RecordState) →
      let b = end_of_begin p s state in
      let rs = separator_after b in
      b.left ≡ through → reads_records p.code ≡ true → nat_le (length rs) 1 ≡ true →
      (windows : List Window) (out : List ℕ) (f : Progress Globals) (rest : List Item) →
      flat_map records_in windows ++ rest ≡ items rs files → (IsOpen f.end.left → rest ≡ []) →
      RunsInWindows p (before_windows b) windows out f →
      run calls p.eres p.code p.budget files s state
      ≡ finish_with_output_before (b.output ++ out) (after_records calls p.eres p.code p.budget f.end.left f.end)
  runs_in_windows files s state on reads short windows out f rest whole none runs =
      let b = end_of_begin p s state in
      let rs = separator_after b in
      let t = take_separator rs b in
      let fin : End Globals → Finish Globals = λ e. after_records calls p.eres p.code p.budget e.left e in
      ap (λ l. after_begin calls p.eres p.code p.budget files l b) on
      ∙ ap (λ c. if c then records_by_rs calls p.eres p.code p.budget rs files b else ends_from calls p.eres p.code p.budget b) reads
      ∙ ap (λ c. if c then fin (records t (items rs files)) else finish_of (fault_at faults.Rs (at_record 1)) t) short
      ∙ ap fin (records_end t (items rs files) windows out f rest whole none on runs)
      ∙ stays p.eres p.code p.budget f.end.left (b.output ++ out) f.end
