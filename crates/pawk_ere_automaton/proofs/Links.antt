-- What the links of a table mean.
use Rattle.std.proofs.Common.{◌≡◌, ◌≢◌, ℕ, ◌+◌, ◌*◌, ◌<◌, Some, arith, get_or, length, subst, sym, ◌∙◌}
use Rattle.std.proofs.lemmas.List.{get_or_read}
use Rattle.std.specs.Prelude.{slice_get}
use Rattle.pawk_ere_automaton.specs.Regex.{Regex}
use Rattle.pawk_ere_automaton.specs.Table.{IsTable, LeadsTo}
use Rattle.pawk_ere_automaton.specs.declared.table.State.{State}
use Rattle.pawk_ere_automaton.specs.declared.table.StateTable.{StateTable}

-- a link that is not 0 leads to the state after the byte
pub link_leads : (e : Regex) (t : StateTable) (place byte next : ℕ) → IsTable e t → place < length t.states.items → byte < 256 → next ≡ get_or t.next.items (place * 256 + byte) next → next ≢ 0 → (s : State) → slice_get t.states.items place ≡ Some s → LeadsTo e t.states.items s byte next
link_leads e t place byte next table within octet is known s at =
    let inside : place * 256 + byte < length t.next.items = omega (arith, table.wide) in
    let same = get_or_read t.next.items _ _ inside is 0 in
    subst (λ r. LeadsTo e t.states.items s byte r) (sym same)
    (table.links place byte s octet at (λ z. known (same ∙ z)))
