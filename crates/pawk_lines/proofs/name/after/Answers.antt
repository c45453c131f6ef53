use Rattle.std.proofs.Common.{◌≡◌, ◌≢◌, ℕ, List, ◌++◌, Bool, true, false, Some, None, length, drop, refl, sym, subst}
use Rattle.std.specs.Prelude.{if◌then◌else◌}
use Rattle.std.proofs.lemmas.Bool.{false≢true}
use Rattle.std.proofs.lemmas.Bool.Decides.{Decides-eqb}
use Rattle.std.proofs.lemmas.Slice.Eq.{starts_is, strip_prefix_is}
use Rattle.pawk_lines.specs.declared.failure.Failure.TheVariants.{Short, Damage}
use Rattle.pawk_lines.specs.Reading.{FailsAfter}
use Rattle.pawk_lines.proofs.NameLemmas.{fails_after_other}
use Rattle.pawk_lines.proofs.name.after.Goals as goal

by_test : (first s : List ℕ) (r : Bool) → ((rest : List ℕ) → s ≢ first ++ rest) → (r ≡ true → first ≡ s ++ drop (length s) first) × ((rest : List ℕ) → first ≡ s ++ rest → r ≡ true) → FailsAfter first s (if r then Short else Damage)
by_test first s true none k = (none, drop (length s) first, k.0 refl)
by_test first s false none k = fails_after_other first s none (λ more e. false≢true (k.1 more e))

pub returns-in-Some : goal.returns-in-Some
returns-in-Some c = strip_prefix_is Decides-eqb c.args.bytes.now c.args.first.now (Some c.in-Some.rest) c.in-Some.ensures.cases

pub returns-in-None : goal.returns-in-None
returns-in-None c =
    let none : (rest : List ℕ) → c.args.bytes.now ≢ c.args.first.now ++ rest = strip_prefix_is Decides-eqb c.args.bytes.now c.args.first.now None c.in-None.ensures.cases in
    subst (FailsAfter c.args.first.now c.args.bytes.now) (sym c.cut.ensures)
    (by_test c.args.first.now c.args.bytes.now c.starts_with.result none
    (starts_is Decides-eqb c.args.first.now c.args.bytes.now c.starts_with.result c.starts_with.ensures.value))
