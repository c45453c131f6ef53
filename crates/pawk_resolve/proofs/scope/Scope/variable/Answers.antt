use Rattle.std.proofs.Common.{ap, sym, ◌∙◌}
use Rattle.pawk_resolve.specs.Slots.{slot}
use Rattle.pawk_resolve.specs.Scopes.{variable_at}
use Rattle.pawk_resolve.specs.ScopeViews.{scope_view}
use Rattle.pawk_resolve.proofs.scope.Scope.variable.Goals as goal

pub returns-in-Some : goal.returns-in-Some
returns-in-Some c =
    let s = scope_view c.args.self.now in
    ap (λ o. variable_at o (slot s.globals.scalars c.args.name.now)) (sym c.in-Some.is ∙ c.place.ensures)
