use Rattle.std.proofs.Common.{◌≡◌, false, rules}
use Rattle.std.specs.Prelude.{is_some}
use Rattle.std.specs.Ordering.{nat_cmp}
use Rattle.std.specs.Cmp.Lexicographic.{slice_cmp}
use Rattle.std.specs.BTreeMap.{get_by}
use Rattle.pawk_syntax_check.proofs.Tables.{add-function}
use Rattle.pawk_syntax_check.proofs.functions.Functions.add.Goals as goal

pub returns-in_ok-insert : goal.returns-in_ok-insert
returns-in_ok-insert c = λ x.
    let m = c.args.self.now.map in
    let s = c.as_slice-then-not-contains_key.result.now in
    let absent : is_some (get_by (λ k. slice_cmp nat_cmp s k.now) m) ≡ false = search rules in
    let name : c.in-Function.name.text.items ≡ s = search rules in
    let ps : c.in-Function.parameters.items ≡ c.deref.result.now = search rules in
    rw (c.in-Function.is, name, ps) (add-function s x m c.insert.new.self _ c.in_ok-insert.ensures.updates absent)
