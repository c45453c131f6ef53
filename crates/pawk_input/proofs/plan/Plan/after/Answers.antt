use Rattle.std.proofs.Common.{◌≡◌, ◌+◌, ◌≤◌, List, sym, subst, rules, arith}
use Rattle.std.specs.Prelude.{All}
use Rattle.pawk_input.specs.Limits.{most_bytes}
use Rattle.pawk_input.specs.Input.{files_of, total_size}
use Rattle.pawk_input.specs.Plan.{AreAdjoining, AreConsecutive, ArePlaced}
use Rattle.pawk_input.specs.declared.cutting.Chunk.{Chunk}
use Rattle.pawk_input.proofs.PlanLemmas.{plan_fits}
use Rattle.pawk_input.proofs.PlacedLemmas.{adjoining_after, counted_items, consecutive, consecutive_after, placed_after}
use Rattle.pawk_input.proofs.plan.Plan.after.Goals as goal

pub count_on-requires : goal.count_on-requires
count_on-requires c =
    let files = files_of c.args.input.now in
    let same : c.deref_mut.result.now ≡ c.args.self = search rules in
    let total : c.total_size.result ≡ total_size files = c.total_size.ensures.value in
    subst (λ (l : List Chunk). All (λ (x : Chunk). (c.args.nr + x.nr ≤ most_bytes) × (c.args.fnr + x.fnr ≤ most_bytes)) l) (sym same)
    (λ k d lt. (
    let fits = plan_fits c.args.rs.now files c.args.self k d lt c.requires in
    (omega (arith, fits.0, total, c.total_size.ensures.limited), omega (arith, fits.0, fits.1, total, c.total_size.ensures.limited))))

pub invariant_of-result : goal.invariant_of-result
invariant_of-result c =
    let same : c.deref_mut.result.now ≡ c.args.self = search rules in
    let items = counted_items c.args.nr c.args.fnr c.self.inside.chunks.len c.count_on.new.chunks c.self.inside.chunks.items c.deref_mut.result.now c.args.self (sym c.self.inside.chunks.ok.0) c.self.view_is same c.count_on.ensures in
    subst AreAdjoining (sym items) (adjoining_after c.args.nr c.args.fnr c.args.self (subst AreAdjoining c.self.view_is c.self.invariant))

pub returns-clause-value : goal.returns-clause-value
returns-clause-value c =
    let same : c.deref_mut.result.now ≡ c.args.self = search rules in
    counted_items c.args.nr c.args.fnr c.self.inside.chunks.len c.count_on.new.chunks c.self.inside.chunks.items c.deref_mut.result.now c.args.self (sym c.self.inside.chunks.ok.0) c.self.view_is same c.count_on.ensures

pub returns-clause-placed : goal.returns-clause-placed
returns-clause-placed c =
    let files = files_of c.args.input.now in
    let total : c.total_size.result ≡ total_size files = c.total_size.ensures.value in
    subst (λ l. ArePlaced c.args.rs.now files l) (sym (returns-clause-value c))
    (placed_after c.args.rs.now files c.args.nr c.args.fnr c.args.self (omega arith) (omega (arith, total, c.total_size.ensures.limited)) c.requires)

pub returns-clause-consecutive : goal.returns-clause-consecutive
returns-clause-consecutive c = λ one. (
    let rs = c.args.rs.now in
    let files = files_of c.args.input.now in
    subst (λ l. AreConsecutive rs files l) (sym (returns-clause-value c))
    (consecutive_after rs files c.args.nr c.args.fnr c.args.self (consecutive rs files one c.args.self c.requires (subst AreAdjoining c.self.view_is c.self.invariant))))
