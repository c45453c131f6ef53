use Rattle.std.proofs.Common.{◌∙◌, ap, sym, subst}
use Rattle.std.specs.List.{All}
use Rattle.std.specs.Option.{option_map}
use Rattle.pawk_value.specs.Value.{lent_value}
use Rattle.pawk_array.specs.Entries.{Rise, found}
use Rattle.pawk_world.specs.Worlds.{gives}
use Rattle.pawk_store.specs.Globals.{Globals, array_at}
use Rattle.pawk_noted.proofs.TracingLemmas.{read_there}
use Rattle.pawk_noted.proofs.noted.NotedGlobalsWorld.element.Goals as goal

pub returns-in-Some-clause-answer : goal.returns-in-Some-clause-answer
returns-in-Some-clause-answer c =
    let s = c.args.self.now.traced in
    let n = c.args.array in
    let key = c.args.key.now in
    let same = ap (λ w. w.traced.globals) c.self.view_is in
    let there = ap (λ g. found key (array_at g n)) (sym same) ∙ sym c.get.ensures ∙ ap (option_map lent_value) c.in-Some.is in
    read_there n key (lent_value c.in-Some.value) s (subst (λ (g : Globals). All Rise g.arrays) same c.order_law.ensures) there
    ∙ ap (λ v. gives v s) (sym c.in_ok-hold.ensures.value)
