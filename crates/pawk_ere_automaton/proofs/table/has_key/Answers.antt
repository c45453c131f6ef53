use Rattle.std.proofs.Common.{◌≡◌, Bool, true, false, not, refl, ◌∙◌, sym}
use Rattle.std.specs.Bool.{Decides}
use Rattle.std.proofs.lemmas.Slice.Eq.{slice_eq-Decides}
use mathlib.Core.Bool.{beq}
use Rattle.pawk_ere_automaton.proofs.table.has_key.Goals as goal

beq_decides : (a b : Bool) → Decides (beq a b) (a ≡ b)
beq_decides true true = (λ h. refl, λ h. refl)
beq_decides true false = (λ h. cc, λ h. cc)
beq_decides false true = (λ h. cc, λ h. cc)
beq_decides false false = (λ h. refl, λ h. refl)

same : (a b : Bool) → not (beq a b) ≡ false → a ≡ b
same true true h = refl
same true false h = cc
same false true h = cc
same false false h = refl

pub returns : goal.returns
returns c = λ h. record {
  enter_is = same c.args.state.now.enter c.args.stays c.if-state-stays.false;
  stays_is = same c.args.state.now.stays c.args.stays c.if-state-stays-2.false;
  first_is = c.if-state.false;
  marks_are = sym c.as_slice.ensures.value ∙ (slice_eq-Decides beq_decides _ _ _ c.eq.ensures).0 h;
}
