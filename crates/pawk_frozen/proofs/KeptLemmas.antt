-- Marks that are kept.
use Rattle.std.proofs.Common.{◌≡◌, Bool, true, false, refl, ◌∙◌, ap}
use Rattle.std.specs.Prelude.{if◌then◌else◌, Result, Ok, Err}
use Rattle.pawk_world.specs.declared.halt.Halt.{Halt as Code}
use Rattle.pawk_world.specs.Answers.{Answers}
use Rattle.pawk_world.specs.Worlds.{Cell, Answer, gives, halts}
use Rattle.pawk_world.specs.Halts as halt
use Rattle.pawk_value.specs.declared.faults.Fault.TheVariants as fault
use Rattle.pawk_frozen.specs.Marks.{Mark, blank, summed, last_put, created}
use Rattle.pawk_frozen.specs.Frozens.{Frozen, is_sum, kept_mark, noted}
use Rattle.pawk_frozen.specs.MarkViews.{kept}

-- an answer of what is part of a state
module _ {S T : Type 0} (f : S → T) where
  abbrev pub within : Answer S (Unit {0}) → Answer T (Unit {0})
  within (gives x s) = gives x (f s)
  within (halts h s) = halts h (f s)

  within_by : (b : Bool) (new old : S) → (if b then gives tt (f new) else halts (halt.fault fault.Overflow) (f old)) ≡ within (if b then gives tt new else halts (halt.fault fault.Overflow) old)
  within_by true new old = refl
  within_by false new old = refl

  within_kept : (m : Mark) (new old : S) → kept m (f new) (f old) ≡ within (kept m new old)
  within_kept (summed t l g) new old = within_by (is_sum t) new old
  within_kept blank new old = refl
  within_kept (last_put v) new old = refl
  within_kept created new old = refl

  pub kept_within : (m : Mark) (new old s : S) (r : Result (Unit {0}) Code) → Answers (λ _. tt) (kept m new old) r s → Answers (λ _. tt) (kept m (f new) (f old)) r (f s)
  kept_within m new old s (Ok t) a = within_kept m new old ∙ ap within a
  kept_within m new old s (Err e) a = λ h is. within_kept m new old ∙ ap within (a h is)

-- the definition for a chunk is the one for any state
pub kept_mark_is : (c : Cell) (m : Mark) (s : Frozen) → kept m (noted c m s) s ≡ kept_mark c m s
kept_mark_is c (summed t l g) s = refl
kept_mark_is c blank s = refl
kept_mark_is c (last_put v) s = refl
kept_mark_is c created s = refl
