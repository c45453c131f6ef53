use Rattle.std.proofs.Common.{true, false, map, sym, ◌∙◌, ap, arith, length}
use Rattle.std.specs.Vec.Iter.{into_iter_items}
use Rattle.pawk_merge.specs.Extents.{merge_more}
use Rattle.pawk_merge.specs.ExtentViews.{Advances, extent_view}
use Rattle.pawk_merge.specs.MergeViews.{chunk_of}
use Rattle.pawk_merge.proofs.ExtentLemmas.{no_more}
use Rattle.pawk_merge.proofs.MergeLemmas.{no_items}
use Rattle.pawk_merge.proofs.extent.merge_far.Goals as goal
use Rattle.pawk_merge.proofs.extent.merge_far.Goals.{in-None, in-Some+in_ok-add+then-not-branch}

pub loop-chunk-preserved : goal.loop-chunk-preserved
loop-chunk-preserved c =
    let old = extent_view c.loop-chunk.globals c.loop-chunk.extent in
    let new = extent_view c.add.new.globals c.add.new.self in
    let rest = map chunk_of (into_iter_items c.next.new.self) in
    let step : Advances old (chunk_of c.in-Some.chunk) new true = rw c.if-not-branch.false at c.in_ok-add.ensures in
    let size = ap length c.in-Some.ensures.steps.0 in
    record {
      size = omega (arith, size, c.loop-chunk.invariant.size, c.in-Some.ensures.steps.1);
      on = step.0;
      far = sym (step.1 rest) ∙ ap (λ rs. merge_more old (map chunk_of rs)) (sym c.in-Some.ensures.steps.0) ∙ c.loop-chunk.invariant.far;
    }

pub returns : goal.returns
returns c =
    let old = extent_view c.loop-chunk.globals c.loop-chunk.extent in
    elim c.match-next.branch [
      | in-None w ↦
          let none = no_items (into_iter_items c.loop-chunk.chunk-iterator) (omega (arith, c.loop-chunk.invariant.size, w.in-None.ensures.steps.0)) in
          let same = sym (no_more old c.loop-chunk.invariant.on) ∙ ap (λ rs. merge_more old (map chunk_of rs)) (sym none) ∙ c.loop-chunk.invariant.far in
          rw (w.globals-is, w.extent-is) same
      | in-Some+in_ok-add+then-not-branch w ↦
          let new = extent_view w.add.new.globals w.add.new.self in
          let rest = map chunk_of (into_iter_items c.next.new.self) in
          let step : Advances old (chunk_of w.in-Some.chunk) new false = rw w.if-not-branch.true at w.in_ok-add.ensures in
          let same = sym (step rest) ∙ ap (λ rs. merge_more old (map chunk_of rs)) (sym w.in-Some.ensures.steps.0) ∙ c.loop-chunk.invariant.far in
          rw (w.globals-is, w.extent-is) same
    ]
