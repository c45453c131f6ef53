use Rattle.std.proofs.Common.{◌≡◌, ◌≤◌, ◌<◌, ℕ, List, true, false, length, refl, sym, ap, subst, ◌∙◌, get_or, take_all}
use Rattle.std.specs.Prelude.{Contains}
use Rattle.std.specs.List.{All}
use Rattle.std.proofs.lemmas.List.Elements.{Contains-get_or, All-more}
use Rattle.pawk_admit.specs.declared.role.Role.TheVariants.{Reader}
use Rattle.pawk_admit.specs.Roles.{role_of_array, roles_view}
use Rattle.pawk_noted.specs.Noteds.{Noted, AreNoted}
use Rattle.pawk_noted.proofs.NotingLemmas.{none_created, some_created}
use Rattle.pawk_noted.proofs.noted.NotedGlobals.has_created.Goals as goal

pub returns-then-not-is_reader : goal.returns-then-not-is_reader
returns-then-not-is_reader c =
    let w = c.args.self.now in
    let xs = c.deref-array-items.result.now in
    let same = c.deref-array-items.ensures.value ∙ ap (λ v. v.arrays) c.self.view_is in
    let noted = subst (λ (v : Noted). AreNoted v.arrays v.traced.trace) c.self.view_is c.self.invariant in
    let n = get_or xs c.loop-array.array-index 0 in
    let there = subst (λ (ys : List ℕ). Contains ys n) same (Contains-get_or xs c.loop-array.array-index 0 c.loop-array-test.true) in (
      λ _.
          some_created (roles_view c.args.roles.now) w.arrays w.traced.trace n noted there
          (λ e. let both : true ≡ false = sym (c.is_reader.ensures.1 e) ∙ c.if-not-is_reader.true in cc),
      λ _. refl,
    )

pub loop-array-preserved : goal.loop-array-preserved
loop-array-preserved c =
    let i = c.loop-array.array-index in
    let same = c.deref-array-items.ensures.value ∙ ap (λ v. v.arrays) c.self.view_is in
    let P : ℕ → Type 0 = λ n. role_of_array (roles_view c.args.roles.now) n ≡ Reader in
    All-more P c.args.self.now.arrays i 0
    (subst (λ (ys : List ℕ). i < length ys) same c.loop-array-test.true) c.loop-array.invariant
    (subst (λ (ys : List ℕ). P (get_or ys i 0)) same (c.is_reader.ensures.0 c.if-not-is_reader.false))

pub returns : goal.returns
returns c =
    let w = c.args.self.now in
    let i = c.loop-array.array-index in
    let same = c.deref-array-items.ensures.value ∙ ap (λ v. v.arrays) c.self.view_is in
    let noted = subst (λ (v : Noted). AreNoted v.arrays v.traced.trace) c.self.view_is c.self.invariant in
    let P : ℕ → Type 0 = λ n. role_of_array (roles_view c.args.roles.now) n ≡ Reader in
    let past = subst (λ (ys : List ℕ). length ys ≤ i) same c.loop-array-test.false in
    let readers = subst (All P) (take_all i w.arrays past) c.loop-array.invariant in
    (λ e. let both : false ≡ true = e in cc, λ p. absurd (none_created (roles_view c.args.roles.now) w.arrays w.traced.trace noted readers p))
