use Rattle.std.proofs.Common.{[], ◌∙◌, ap, sym}
use Rattle.std.specs.Option.{option_map, unwrap_or}
use Rattle.pawk_value.specs.Value.{lent_value}
use Rattle.pawk_array.specs.Entries.{found}
use Rattle.pawk_store.specs.Openings.{first_value}
use Rattle.pawk_store.proofs.OpeningLemmas.{value_kept}
use Rattle.pawk_store.proofs.openings.opening_value.Goals as goal

pub returns-in-Some : goal.returns-in-Some
returns-in-Some c pairs is =
    let w = c.args.name.now in
    let first = first_value w in
    sym (ap (λ o. unwrap_or (option_map lent_value o) first) c.in-Some.is)
    ∙ ap (λ o. unwrap_or o first) (c.get.ensures ∙ ap (found w) is)
    ∙ value_kept pairs [] w first

pub returns-in-None : goal.returns-in-None
returns-in-None c pairs is =
    let w = c.args.name.now in
    let first = first_value w in
    c.first_value.ensures
    ∙ sym (ap (λ o. unwrap_or (option_map lent_value o) first) c.in-None.is)
    ∙ ap (λ o. unwrap_or o first) (c.get.ensures ∙ ap (found w) is)
    ∙ value_kept pairs [] w first
