-- The route of records that may be run in chunks.
use Rattle.std.proofs.Common.{◌≡◌, ◌∙◌, ℕ, ◌≤◌, Bool, true, false, List, length, Some, None, refl, ap, sym, subst, inl, inr, arith}
use Rattle.pawk_code.specs.Programs.{Code}
use Rattle.pawk_input.specs.Input.{File, items}
use Rattle.pawk_store.specs.Globals.{Globals, calls}
use Rattle.pawk_admit.specs.declared.occurrence.GlobalName.{GlobalName}
use Rattle.pawk_admit.specs.declared.occurrence.GlobalName.TheVariants.{Array}
use Rattle.pawk_admit.specs.declared.occurrence.Occurrence.{Occurrence}
use Rattle.pawk_admit.specs.declared.occurrence.Touch.TheVariants.{Look}
use Rattle.pawk_admit.specs.declared.role.Role.{Role}
use Rattle.pawk_admit.specs.declared.role.Role.TheVariants.{Fixed, Adder, Setter, Reader}
use Rattle.pawk_admit.specs.declared.reason.Reason.{Reason}
use Rattle.pawk_admit.specs.declared.reason.Reason.TheVariants as reason
use Rattle.pawk_admit.specs.Admission.{IsRole, IsReader, IsAdmissible, IsAnswer, IsFirst, AreRoles}
use Rattle.pawk_admit.specs.Reaches.{Occurs}
use Rattle.pawk_admit.specs.Roles.{Roles, role_of_array}
use Rattle.pawk_store.specs.Records.{End}
use Rattle.pawk_store.specs.Runs.{Finish, after_begin, records_by_rs, ends_from, reads_records, take_separator}
use Rattle.pawk_merge_law.specs.Phases.{FaultsOrCreates}
use Rattle.pawk_sequential.specs.RunEnds.{Answers}
use Rattle.pawk_sequential.specs.declared.outcome.Outcome.{Outcome}
use Rattle.pawk_routes.specs.Prologue.{Goes}
use Rattle.pawk_routes.specs.Routes.{HasRecords, IsRedone, phase_after, separator_of}
use Rattle.pawk_routes.specs.declared.report.Route.TheVariants.{Parallel}
use Rattle.pawk_routes.proofs.EndLemmas.{chosen}

-- a reader array has no other role
only_reader : (Stands : Occurrence → Type 0) (name : GlobalName) (role : Role) → IsReader Stands name → IsRole Stands role name → role ≡ Reader
only_reader Stands name Fixed reads is = absurd (is.2 reads)
only_reader Stands name Adder reads is = let bad = is.1 Look reads.1.0 in absurd cc
only_reader Stands name Setter reads is = let bad = is.0.1 Look reads.1.0 in absurd cc
only_reader Stands name Reader reads is = refl

same_reader : (Stands : Occurrence → Type 0) (roles others : Roles) → AreRoles Stands roles → AreRoles Stands others → (n : ℕ) → role_of_array roles n ≡ Reader → role_of_array others n ≡ Reader
same_reader Stands roles others are are' n is =
    only_reader Stands (Array n) (role_of_array others n) (subst (λ r. IsRole Stands r (Array n)) is (are (Array n))) (are' (Array n))

module _ (code : Code) (budget : ℕ) (files : List File) (e : End Globals) where
  abbrev Stops : Roles → Type 0
  Stops roles = FaultsOrCreates (phase_after code roles budget e) (items (separator_of e) files)

  other_roles : (roles others : Roles) → AreRoles (Occurs code) roles → AreRoles (Occurs code) others → Stops others → Stops roles
  other_roles roles others are are' (inl faults) = inl faults
  other_roles roles others are are' (inr creates) =
      inr (creates.0, creates.1, λ is. creates.2 (same_reader (Occurs code) roles others are are' creates.0 is), creates.3)

  -- by an RS of at most one byte the records are not run again where they do not stop
  pub not_redone : (roles : Roles) → AreRoles (Occurs code) roles → length (separator_of e) ≤ 1 → (Stops roles → ⊥) → IsRedone code budget files e → ⊥
  not_redone roles are short goes (inl long) = absurd (omega (arith, short, long))
  not_redone roles are short goes (inr stops) = goes (other_roles roles stops.0 are stops.1 stops.2)

-- an answer that is no refused allocation is the first reason
pub first_reason : (Stands : Occurrence → Type 0) (b : Bool) (r : Reason) → b ≡ false → (r ≡ reason.Memory → b ≡ true) → IsAnswer Stands r → IsFirst Stands r
first_reason Stands b reason.Assignment off on is = is
first_reason Stands b reason.Addition off on is = is
first_reason Stands b reason.Range off on is = is
first_reason Stands b reason.Match off on is = is
first_reason Stands b reason.Split off on is = is
first_reason Stands b reason.Passing off on is = is
first_reason Stands b reason.Value off on is = is
first_reason Stands b reason.Memory off on is = let bad = sym off ∙ on refl in absurd cc
first_reason Stands b reason.NextFile off on is = is

-- how a run goes on whose BEGIN ends so, and whose records begin so once RS was taken
module _ (code : Code) (roles : Roles) (budget : ℕ) (rs : List ℕ) (files : List File) (e t : End Globals) (taken : take_separator rs e ≡ t) (text : rs ≡ separator_of e) where
  abbrev StopsBy : End Globals → List ℕ → Type 0
  StopsBy x s = FaultsOrCreates (phase_after code roles budget x) (items s files)

  abbrev ends_by : List ℕ → End Globals → Finish Globals
  ends_by s x = records_by_rs calls code.expressions code budget s files x

  by_records : HasRecords code e → after_begin calls code.expressions code budget files e.left e ≡ ends_by rs t
  by_records records =
      ap (λ l. after_begin calls code.expressions code budget files l e) records.0
      ∙ chosen (reads_records code) (ends_by (separator_of e) e) (ends_from calls code.expressions code budget e) records.1
      ∙ ap (λ s. ends_by s e) (sym text) ∙ ap (λ x. ends_by rs x) taken

  pub goes_merged : HasRecords code e → IsAdmissible code → AreRoles (Occurs code) roles → length (separator_of e) ≤ 1 →
      (outcome : Outcome) → Answers (ends_by rs t) outcome × (StopsBy t rs → ⊥) → Goes code budget files e (Some (outcome, Parallel))
  goes_merged records admissible are short outcome went = (
    subst (λ f. Answers f outcome) (sym (by_records records)) went.0,
    (records, admissible, not_redone code budget files e roles are short (λ stops. went.1 (subst (λ x. StopsBy x rs) taken (subst (λ s. StopsBy e s) (sym text) stops)))),
  )

  pub goes_again : HasRecords code e → IsAdmissible code → AreRoles (Occurs code) roles → StopsBy t rs → Goes code budget files e None
  goes_again records admissible are stops =
      (records, admissible, inr (roles, are, subst (λ s. StopsBy e s) text (subst (λ x. StopsBy x rs) (sym taken) stops)))
