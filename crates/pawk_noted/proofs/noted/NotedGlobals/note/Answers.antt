use Rattle.std.proofs.Common.{◌∙◌, ap, sym}
use Rattle.std.specs.Prelude.{nat_eq}
use Rattle.std.specs.List.{list_any}
use Rattle.pawk_noted.proofs.NotingLemmas.{noted_again, noted_newly, is_among}
use Rattle.pawk_noted.proofs.noted.NotedGlobals.note.Goals.{then-not-contains+in_ok-push, else-not-contains}
use Rattle.pawk_noted.proofs.noted.NotedGlobals.note.Goals as goal

pub invariant_of-self : goal.invariant_of-self
invariant_of-self c =
    rw c.in_err-push.ensures.items c.self.invariant

pub invariant_of-self-2 : goal.invariant_of-self-2
invariant_of-self-2 c =
    let w = c.self.inside in
    let n = c.args.array in
    let key = c.args.key.now in
    elim c.if-not-contains.branch [
      | then-not-contains+in_ok-push b ↦ rw (c.with-self-inside.ensures, b.self-inside-is, b.in_ok-push.ensures.items) (noted_newly w.arrays.items w.trail.events n key c.self.invariant)
      | else-not-contains b ↦ rw (c.with-self-inside.ensures, b.self-inside-is) (noted_again w.arrays.items w.trail.events n key (is_among n w.arrays.items (ap (list_any (λ m. nat_eq m n)) (sym c.deref.ensures.value) ∙ sym c.contains.ensures.value ∙ b.if-not-contains.false)) c.self.invariant)
    ]
