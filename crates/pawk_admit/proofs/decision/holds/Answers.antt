use Rattle.std.proofs.Common.{◌≡◌, ℕ, false, refl}
use Rattle.pawk_admit.specs.Marks.{marks_at}
use Rattle.pawk_admit.specs.Decisions.{clashes, separates}
use Rattle.pawk_admit.proofs.ReasonLaws.{shown_means, scalar_means, array_means, tables_no}
use Rattle.pawk_admit.proofs.decision.holds.Goals as goal

pub returns-then-is_shown-clause-yes : goal.returns-then-is_shown-clause-yes
returns-then-is_shown-clause-yes c = λ u.
    let h = c.if-is_shown.ensures.yes refl in
    shown_means c.args.list.now c.args.reason h.0 h.1 h.2

pub returns-then-scalar_clashes-clause-yes : goal.returns-then-scalar_clashes-clause-yes
returns-then-scalar_clashes-clause-yes c = λ u.
    let h = c.if-scalar_clashes.ensures.yes refl in
    scalar_means c.args.list.now c.args.tables.now c.requires c.args.reason h.0 (rw (← c.deref.ensures.value) h.1)

pub returns-clause-yes : goal.returns-clause-yes
returns-clause-yes c = λ u.
    let h = c.array_clashes.ensures.yes u in
    array_means c.args.list.now c.args.tables.now c.requires c.args.reason h.0 (rw (← c.deref-2.ensures.value) h.1)

pub returns-clause-no : goal.returns-clause-no
returns-clause-no c = λ e.
    let scalars = c.args.tables.now.scalars.items in
    let arrays = c.args.tables.now.arrays.items in
    let first : (n : ℕ) → clashes c.args.reason (marks_at scalars n) (separates n) ≡ false =
    λ n. rw (← c.deref.ensures.value) (c.if-scalar_clashes.ensures.no refl n) in
    let second : (n : ℕ) → clashes c.args.reason (marks_at arrays n) false ≡ false =
    λ n. rw (← c.deref-2.ensures.value) (c.array_clashes.ensures.no e n) in
    tables_no c.args.list.now c.args.tables.now c.requires c.args.reason (c.if-is_shown.ensures.no refl) first second
