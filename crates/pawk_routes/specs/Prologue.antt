-- What BEGIN leaves, as the code has it, and how a run goes on after it.
use Rattle.std.specs.Prelude.{◌≡◌, ℕ, List, Option, Some, None}
use Rattle.pawk_code.specs.Programs.{Code}
use Rattle.pawk_input.specs.Input.{File}
use Rattle.pawk_store.specs.Globals.{Globals, calls}
use Rattle.pawk_store.specs.LeftViews.{left_view}
use Rattle.pawk_store.specs.Records.{End, through}
use Rattle.pawk_store.specs.Runs.{after_begin, after_records, records_by_rs, take_separator}
use Rattle.pawk_merge_law.specs.MergeViews as merges
use Rattle.pawk_merge_law.specs.Merged.{Merged}
use Rattle.pawk_merge_law.specs.Gathered.{after_output}
use Rattle.pawk_sequential.specs.Ends.{end_view}
use Rattle.pawk_sequential.specs.RunEnds.{Answers}
use Rattle.pawk_sequential.specs.declared.outcome.Outcome.{Outcome}
use Rattle.pawk_routes.specs.Routes.{IsRoute, separator_of}
use Rattle.pawk_routes.specs.declared.prologue.Prologue.{Prologue}
use Rattle.pawk_routes.specs.declared.report.Route.{Route}
use Rattle.pawk_routes.specs.declared.report.Route.TheVariants.{Redo}

abbrev pub end_of : Prologue → End Globals
end_of b = end_view b.globals b.run b.left

-- no record was read, and this RS, which BEGIN left, was taken
pub record IsTaken (rs : List ℕ) (e : End Globals) : Type 0 where
  pub came : e.left ≡ through
  pub unread : e.state.nr ≡ 0
  pub separator : separator_of e ≡ rs
  pub taken : take_separator rs e ≡ e

-- the records after BEGIN, which left e, end as what was merged into the globals says
abbrev pub IsMerged : Code → ℕ → List ℕ → List File → End Globals → Prologue → Merged → Type 0
IsMerged code budget rs files e prologue merged =
    records_by_rs calls code.expressions code budget rs files e
    ≡ after_records calls code.expressions code budget (left_view merged.left)
    (after_output prologue.run.output.items (merges.end_view prologue.globals merged))

-- After BEGIN the run went a way that is reported, and ended so; or it has to be run again, one record after the other.
abbrev pub Goes : Code → ℕ → List File → End Globals → Option (Outcome × Route) → Type 0
Goes code budget files e None = IsRoute code budget files e Redo
Goes code budget files e (Some went) =
    Answers (after_begin calls code.expressions code budget files e.left e) went.0 × IsRoute code budget files e went.1
