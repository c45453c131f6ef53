-- Files among which nothing is assigned.
use Rattle.std.proofs.Common.{◌≡◌, ◌∙◌, ℕ, nat_le, if◌then◌else◌, List, [], length, map, refl, ap, sym, subst, inl, inr}
use Rattle.pawk_value.specs.declared.faults.Fault.TheVariants as faults
use Rattle.pawk_code.specs.Programs.{Code}
use Rattle.pawk_input.specs.Input.{File}
use Rattle.pawk_store.specs.Globals.{Globals, calls}
use Rattle.pawk_admit.specs.Admission.{IsAdmissible, AreRoles}
use Rattle.pawk_admit.specs.Reaches.{Occurs}
use Rattle.pawk_admit.specs.Roles.{Roles}
use Rattle.pawk_store.specs.Records.{Left, through, next_file, exit, fault, clash, End}
use Rattle.pawk_store.specs.Runs.{Finish, reads_records, take_separator, finish_of, fault_at, at_record, ends_from, records_by_rs, after_begin}
use Rattle.pawk_merge_law.specs.Admitted.{AdmissionAllows}
use Rattle.pawk_merge_law.specs.Flows.{Pairs, plain_turn, KeepsWithout, FilesFollowLaw}
use Rattle.pawk_merge_law.specs.Redone.{FilesFaultLaw, IsAllowed}
use Rattle.pawk_routes.specs.Routes.{IsRedone, IsRoute, begin_end, phase_after, separator_of}
use Rattle.pawk_routes.specs.declared.report.Route.{Route}
use Rattle.pawk_routes.specs.declared.report.Route.TheVariants.{NoMain, NotAdmitted, Redo, Parallel}
use Rattle.pawk_pieces.specs.Operands.{assigned, plain_operands, files_over, after_first, after_begin_over, IsRedoneOver, IsRouteFrom, PlainLaw}
use Rattle.pawk_pieces.proofs.OperandLemmas.{assigned_none}

module _ (code : Code) (budget : ℕ) (files : List File) where
  abbrev make : Pairs → Globals → Globals
  make = assigned code.scalars

  -- No assignment changes nothing.
  keeps : KeepsWithout make
  keeps g = assigned_none code.scalars g

  -- The end of BEGIN stays as it is.
  first_none : (e : End Globals) → after_first code budget (plain_operands files) e ≡ e
  first_none e = λ i. record e { world = assigned_none code.scalars e.world i }

  -- The files by RS.
  by_rs : FilesFollowLaw calls → (rs : List ℕ) (e : End Globals) → e.left ≡ through → files_over code budget rs (plain_operands files) e ≡ records_by_rs calls code.expressions code budget rs files e
  by_rs law rs e on =
      let t = take_separator rs e in
      ap (λ (f : Finish Globals). if nat_le (length rs) 1 then f else finish_of (fault_at faults.Rs (at_record 1)) t)
      (sym (law make keeps code.expressions code budget rs t files on))

  -- How the run goes on after BEGIN, by how that was left.
  goes_by : FilesFollowLaw calls → (l : Left) (e : End Globals) → e.left ≡ l → after_begin_over code budget (plain_operands files) l e ≡ after_begin calls code.expressions code budget files l e
  goes_by law through e is =
      let by : End Globals → Finish Globals = λ x. files_over code budget (separator_of x) (plain_operands files) x in
      ap (λ (f : Finish Globals). if reads_records code then f else ends_from calls code.expressions code budget e)
      (ap by (first_none e) ∙ by_rs law (separator_of e) e is)
  goes_by law next_file e is = refl
  goes_by law (exit n) e is = refl
  goes_by law (fault f) e is = refl
  goes_by law clash e is = refl

  module _ (law : FilesFaultLaw) (admission : AdmissionAllows) (e : End Globals) where
    -- An admissible program does only what one that runs in chunks may do.
    allowed : (roles : Roles) → IsAdmissible code → AreRoles (Occurs code) roles → IsAllowed (phase_after code roles budget e)
    allowed roles admissible are = admission (record { code = code; roles = roles; fixed = e.world; start = e.world; written = [] }) admissible are

    -- The run is redone exactly where the run of the files is.
    redone_to : IsAdmissible code → IsRedoneOver code budget (map plain_turn files) e → IsRedone code budget files e
    redone_to admissible (inl long) = inl long
    redone_to admissible (inr h) =
        inr (h.0, h.1, (law make keeps (phase_after code h.0 budget e) (separator_of e) files (allowed h.0 admissible h.1)).1 h.2)

    redone_from : IsAdmissible code → IsRedone code budget files e → IsRedoneOver code budget (map plain_turn files) e
    redone_from admissible (inl long) = inl long
    redone_from admissible (inr h) =
        inr (h.0, h.1, (law make keeps (phase_after code h.0 budget e) (separator_of e) files (allowed h.0 admissible h.1)).0 h.2)

    -- So it goes its way.
    route_to : (route : Route) → IsRouteFrom code budget (map plain_turn files) e route → IsRoute code budget files e route
    route_to NoMain h = h
    route_to (NotAdmitted reason) h = h
    route_to Redo h = (h.0, h.1, redone_to h.1 h.2)
    route_to Parallel h = (h.0, h.1, λ k. h.2 (redone_from h.1 k))

    route_from : (route : Route) → IsRoute code budget files e route → IsRouteFrom code budget (map plain_turn files) e route
    route_from NoMain h = h
    route_from (NotAdmitted reason) h = h
    route_from Redo h = (h.0, h.1, redone_from h.1 h.2)
    route_from Parallel h = (h.0, h.1, λ k. h.2 (redone_to h.1 k))

-- Where nothing is assigned among the files, the run is that of the files, and goes its way.
pub plain : FilesFollowLaw calls → FilesFaultLaw → AdmissionAllows → PlainLaw
plain law faulting admission code budget assignments files =
    let e = begin_end code budget assignments in
    let same = first_none code budget files e in (
      goes_by code budget files law e.left e refl,
      λ route. (
        λ h. route_to code budget files faulting admission e route (subst (λ x. IsRouteFrom code budget (map plain_turn files) x route) same h),
        λ h. subst (λ x. IsRouteFrom code budget (map plain_turn files) x route) (sym same) (route_from code budget files faulting admission e route h),
      ),
    )
