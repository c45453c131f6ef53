use Rattle.std.proofs.Common.{◌≡◌, ◌∙◌, ◌+◌, ◌<◌, length, length-drop, drop, sym, subst, inl, inr, arith}
use Rattle.std.proofs.lemmas.Bool.{cases_lt, false≢true}
use Rattle.memchr.specs.Find.{OccursAt}
use Rattle.pawk_builtins.proofs.OccurrenceLemmas.{none_up_to, occurs_after, occurs_there}
use Rattle.pawk_builtins.proofs.occurrence.find_short.Goals as goal

pub returns-in_err-place : goal.returns-in_err-place
returns-in_err-place c =
    let s = c.args.text.now in
    let from = c.loop-from.from in
    let none = rw c.split_at.ensures.back at c.in_err-place.ensures in
    let all = none_up_to s c.args.sought.now from (length (drop from s)) c.requires c.loop-from.invariant.none none in
    rw c.from_residual.ensures (λ k ge lt at. all k ge (omega (arith, length-drop from s, c.requires, at.fits)) at)

pub returns-then-is_prefix : goal.returns-then-is_prefix
returns-then-is_prefix c =
    let s = c.args.text.now in
    let from = c.loop-from.from in
    let first = rw c.split_at.ensures.back at c.in_ok-place.ensures in
    let none = none_up_to s c.args.sought.now from c.in_ok-place.field-0 c.requires c.loop-from.invariant.none first.0.before in
    let within : from + c.in_ok-place.field-0 < length s = omega (arith, length-drop from s, first.0.high) in
    let here = rw c.split_at-in-loop-from.ensures.back at (c.is_prefix.ensures.0 c.if-is_prefix.true) in
    (record { low = omega arith; high = omega arith; before = none }, occurs_after s c.args.sought.now (from + c.in_ok-place.field-0) (omega arith) here)

pub loop-from-preserved : goal.loop-from-preserved
loop-from-preserved c =
    let s = c.args.text.now in
    let from = c.loop-from.from in
    let place = from + c.in_ok-place.field-0 in
    let first = rw c.split_at.ensures.back at c.in_ok-place.ensures in
    let none = none_up_to s c.args.sought.now from c.in_ok-place.field-0 c.requires c.loop-from.invariant.none first.0.before in
    record {
      within = omega (arith, length-drop from s, first.0.high);
      none = λ k low high at. elim (cases_lt k place) [
        | inl less ↦ none k low less at
        | inr more ↦
            let here : k ≡ place = omega arith in
            let there = occurs_there s c.args.sought.now place (subst (OccursAt s c.args.sought.now) here at) in
            let yes = c.is_prefix.ensures.1 (subst (λ tail. OccursAt tail c.args.sought.now 0) (sym c.split_at-in-loop-from.ensures.back) there) in
            false≢true (sym c.if-is_prefix.false ∙ yes)
      ];
    }

pub returns : goal.returns
returns c = λ k ge lt at. c.loop-from.invariant.none k ge (omega (arith, c.loop-from-test.false, c.requires, at.fits)) at
