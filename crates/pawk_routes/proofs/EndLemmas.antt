-- The end of BEGIN with RS taken, and of the records after it.
use Rattle.std.proofs.Common.{◌≡◌, ◌∙◌, ℕ, ◌≤◌, List, length, Bool, true, nat_le, if◌then◌else◌, None, ap, arith}
use Rattle.std.proofs.lemmas.Bool.Decides.{nat_tests}
use Rattle.pawk_code.specs.Programs.{Code}
use Rattle.pawk_input.specs.Input.{File, items}
use Rattle.pawk_store.specs.Globals.{Globals, calls}
use Rattle.pawk_admit.specs.Roles.{Roles}
use Rattle.pawk_store.specs.Records.{End}
use Rattle.pawk_store.specs.Runs.{Finish, records_from, after_records, records_by_rs, take_separator}
use Rattle.pawk_merge_law.specs.Phases.{Phase}
use Rattle.pawk_routes.specs.Prologue.{IsTaken}
use Rattle.pawk_routes.specs.Routes.{phase_after, separator_of}

short : (n : ℕ) → n ≤ 1 → nat_le n 1 ≡ true
short n h = grind (arith, nat_tests, h)

pub chosen : {X : Type 0} (b : Bool) (x y : X) → b ≡ true → (if b then x else y) ≡ x
chosen b x y is = ap (λ c. if c then x else y) is

taken_again : (rs : List ℕ) (e : End Globals) → IsTaken rs e → take_separator (separator_of e) e ≡ e
taken_again rs e taken = ap (λ s. take_separator s e) taken.separator ∙ taken.taken

-- the records after BEGIN begin with its end, once RS was taken
pub phase_of_end : (code : Code) (roles : Roles) (budget : ℕ) (rs : List ℕ) (e : End Globals) → IsTaken rs e →
    phase_after code roles budget e
    ≡ record { code = code; roles = roles; eres = code.expressions; budget = budget; globals = e.world; state = e.state; output = e.output }
phase_of_end code roles budget rs e taken =
    let P : End Globals → Phase = λ x. record { code = code; roles = roles; eres = code.expressions; budget = budget; globals = e.world; state = x.state; output = e.output } in
    ap P (taken_again rs e taken)

module _ (code : Code) (budget : ℕ) (rs : List ℕ) (files : List File) where
  abbrev records : End Globals → End Globals
  records e = records_from calls code.expressions code budget None e (items rs files)

  abbrev behind : End Globals → Finish Globals
  behind f = after_records calls code.expressions code budget f.left f

  -- by an RS of at most one byte that was taken, the run goes on after the records
  pub by_taken : (e f : End Globals) → length rs ≤ 1 → IsTaken rs e → records e ≡ f → records_by_rs calls code.expressions code budget rs files e ≡ behind f
  by_taken e f few taken ends =
      chosen (nat_le (length rs) 1) _ _ (short (length rs) few)
      ∙ ap (λ x. behind (records x)) taken.taken ∙ ap behind ends
