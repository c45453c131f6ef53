use Rattle.std.proofs.Common.{◌≡◌, ℕ, List, [], length, get_or, sym, subst}
use Rattle.std.proofs.lemmas.Result.{on_ok_weaker, IfErr-weaker, err_from_is_err_and}
use Rattle.pawk_frozen.specs.Marks.{blank}
use Rattle.pawk_frozen.specs.MarkViews.{mark_view}
use Rattle.pawk_lines.specs.Lines.{Line}
use Rattle.pawk_parts.specs.declared.refusal.TableRefusal.TheVariants.{Damage}
use Rattle.pawk_parts.specs.Parts.{SayTable}
use Rattle.pawk_parts.specs.Refusals.{OnDamage}
use Rattle.pawk_parts.specs.Writing.{HasUnsaid, MayBeLeft}
use Rattle.pawk_parts.proofs.ArrayLemmas.{whole_table}
use Rattle.pawk_parts.proofs.RefusalLemmas.{at_damage}
use Rattle.pawk_parts.proofs.UnsaidLemmas.{unsaid_scalar, unsaid_element}
use Rattle.pawk_parts.proofs.write.push_table.Goals as goal

pub returns-clause-written : goal.returns-clause-written
returns-clause-written c =
    on_ok_weaker c.push_arrays.result
    (whole_table mark_view c.args.out.now.items c.push_scalars.new.out.items c.push_arrays.new.out.items c.args.table.now c.scalars.result.now c.arrays.result.now
    c.scalars.ensures c.arrays.ensures c.in_ok-push_scalars.ensures.written)
    c.push_arrays.ensures.written

pub returns-in_err-push_scalars-clause-damage : goal.returns-in_err-push_scalars-clause-damage
returns-in_err-push_scalars-clause-damage c =
    let p = err_from_is_err_and c.from_residual.result c.from_residual.ensures.1 in
    let t = c.args.table.now in
    rw (p.1, p.2)
    (λ damage.
    let unsaid = at_damage c.in_err-push_scalars.field-0.0 c.in_err-push_scalars.ensures.damage damage in
    unsaid_scalar (length t.scalars) (length t.arrays) t unsaid.0 (λ left. unsaid.1 (subst (λ ms. MayBeLeft (get_or ms unsaid.0 blank)) (sym c.scalars.ensures) left)))

pub returns-clause-damage : goal.returns-clause-damage
returns-clause-damage c =
    let t = c.args.table.now in
    IfErr-weaker c.push_arrays.result
    (λ refusal. OnDamage refusal ((slot : ℕ) × HasUnsaid (get_or c.arrays.result.now slot [])))
    (λ refusal. refusal ≡ Damage → (ls : List Line) → ¬ SayTable (length t.scalars) (length t.arrays) ls t)
    (λ refusal h damage.
    let has = at_damage refusal h damage in
    unsaid_element (length t.scalars) (length t.arrays) t has.0 (subst (λ xs. HasUnsaid (get_or xs has.0 [])) c.arrays.ensures has.1))
    c.push_arrays.ensures.damage
