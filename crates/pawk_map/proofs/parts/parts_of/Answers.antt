use Rattle.std.proofs.Common.{◌≡◌, ◌∙◌, ◌-◌, ◌++◌, List, length, ap, sym, subst}
use Rattle.std.specs.Prelude.{All}
use Rattle.pawk_lines.specs.Lines.{Line, IsLine}
use Rattle.pawk_parts.specs.Parts.{all_bytes}
use Rattle.pawk_tables.specs.Layout.{part, Spells}
use Rattle.pawk_map.proofs.SayLemmas.{nr_after, nr_one, parts_more}
use Rattle.pawk_map.proofs.parts.parts_of.Goals as goal

pub loop-chunk-preserved : goal.loop-chunk-preserved
loop-chunk-preserved c =
    let nr = c.args.nr in
    let done = c.loop-chunk.yielded in
    let r = c.in-Some.chunk in
    let count = c.saturating_sub-count.result in
    let old = c.loop-chunk.lines.items in
    let now = c.push_part.new.out.items in
    let at : count ≡ r.state.nr - nr_after nr done = c.saturating_sub-count.ensures ∙ ap (λ n. r.state.nr - n) c.loop-chunk.invariant.before in
    record {
      before = sym (nr_one nr done r);
      say = parts_more nr done r old now count at c.loop-chunk.invariant.say
          (subst (λ o. (ls : List Line) × All IsLine ls × Spells (length r.table.scalars) (length r.table.arrays) (part count o r.table) ls × (now ≡ old ++ all_bytes ls))
          c.deref.ensures.value c.in_ok-push_part.ensures.written);
    }
