-- What BEGIN leaves of a run whose input flows. POSIX.1-2017, awk, "Overall Program Structure".
use Rattle.std.specs.Prelude.{◌≡◌, ℕ, ◌≤◌, List, length, Result, Ok, Err}
use Rattle.pawk_code.specs.Programs.{Code}
use Rattle.pawk_admit.specs.Admission.{IsAdmissible, AreRoles}
use Rattle.pawk_admit.specs.Reaches.{Occurs}
use Rattle.pawk_admit.specs.Roles.{roles_view}
use Rattle.pawk_admit.specs.declared.reason.Reason.{Reason}
use Rattle.pawk_admit.specs.declared.role.Roles.{Roles as CodeRoles}
use Rattle.pawk_store.specs.Outputs.{finish_with_output_before}
use Rattle.pawk_merge_law.specs.Phases.{MayRun}
use Rattle.pawk_merge_law.specs.Flows.{Pairs, Turn}
use Rattle.pawk_merge_law.specs.Redone.{TurnsFaultOrCreate}
use Rattle.pawk_sequential.specs.RunEnds.{Answers}
use Rattle.pawk_routes.specs.declared.report.Route.TheVariants.{NotAdmitted, Redo, Parallel}
use Rattle.pawk_pieces.specs.declared.begin.Begun.{Begun}
use Rattle.pawk_pieces.specs.declared.begin.Begun.TheVariants.{Ended, Flows}
use Rattle.pawk_pieces.specs.declared.begin.Start.{Start}
use Rattle.pawk_pieces.specs.declared.flow.Flow.{Flow}
use Rattle.pawk_pieces.specs.Operands.{Operands, assigned, rest_over, run_over, IsRouteOver}
use Rattle.pawk_pieces.specs.Pieces.{end_between, phase_between}

module _ (code : Code) (budget : ℕ) (assignments first : Pairs) where
  -- The records may be run in chunks, and what they do with each global is this: the run is one that is redone exactly where the
  -- records of its files end in a fault or create an element. Or they may not be, for this reason.
  abbrev pub AreRolesFrom : List ℕ → Flow → Result CodeRoles Reason → Type 0
  AreRolesFrom rs flow (Ok roles) =
      IsAdmissible code × AreRoles (Occurs code) (roles_view roles) × MayRun (phase_between code (roles_view roles) budget flow)
      × ((turns : List Turn) (last : Pairs) →
      let p = phase_between code (roles_view roles) budget flow in
      let o : Operands = record { first = first; turns = turns; last = last } in
      (TurnsFaultOrCreate (assigned code.scalars) p rs (end_between flow) turns → IsRouteOver code budget assignments o Redo)
      × ((¬ TurnsFaultOrCreate (assigned code.scalars) p rs (end_between flow) turns) → IsRouteOver code budget assignments o Parallel))
  AreRolesFrom rs flow (Err reason) =
      (turns : List Turn) (last : Pairs) →
      IsRouteOver code budget assignments (record { first = first; turns = turns; last = last }) (NotAdmitted reason)

  -- whatever the files, with these first assignments: the whole run is what BEGIN wrote, and the rest of the run from here
  pub record IsStart (start : Start) : Type 0 where
    pub one_byte : length start.rs.items ≤ 1
    pub rest : (turns : List Turn) (last : Pairs) →
        run_over code budget assignments (record { first = first; turns = turns; last = last })
        ≡ finish_with_output_before start.output.items (rest_over code budget start.rs.items last (end_between start.flow) turns)
    pub roles : AreRolesFrom start.rs.items start.flow start.roles

  -- the run has ended so whatever the files are, or it goes on with them
  abbrev pub Begins : Begun → Type 0
  Begins (Ended outcome route) =
      (turns : List Turn) (last : Pairs) →
      let o : Operands = record { first = first; turns = turns; last = last } in
      Answers (run_over code budget assignments o) outcome × IsRouteOver code budget assignments o route
  Begins (Flows start) = IsStart start
