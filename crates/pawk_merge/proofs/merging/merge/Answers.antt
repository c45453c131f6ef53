use Rattle.std.proofs.Common.{◌≡◌, ◌∷◌, true, false, Ok, map, refl, sym, ◌∙◌, ap, arith, length}
use Rattle.std.specs.Vec.Iter.{into_iter_items}
use Rattle.pawk_store.specs.Globals.{Globals}
use Rattle.pawk_store.specs.StateViews.{state_of}
use Rattle.pawk_store.specs.LeftViews.{left_view}
use Rattle.pawk_store.specs.Records.{End}
use Rattle.pawk_merge.specs.Merges.{before_chunks, merge}
use Rattle.pawk_store.specs.Outputs.{in_a_row}
use Rattle.pawk_merge.specs.MergeViews.{chunk_of, Continues}
use Rattle.pawk_merge.proofs.MergeLemmas.{goes_on, ends, stops, stops_merge, same_end, no_items}
use Rattle.pawk_merge.proofs.merging.merge.Goals as goal
use Rattle.pawk_merge.proofs.merging.merge.Goals.{in-None, in-Some+in_ok-take_chunk+then-not-branch}

pub returns-in_err-take_chunk : goal.returns-in_err-take_chunk
returns-in_err-take_chunk c =
    let chunk = chunk_of c.in-Some.chunk in
    let rest = map chunk_of (into_iter_items c.next.new.self) in
    let now : End Globals = record { world = c.loop-chunk.globals; state = state_of c.loop-chunk.last_state; output = in_a_row c.loop-chunk.outputs.items; left = left_view c.loop-chunk.last_left } in
    let meant = merge (map chunk_of c.args.chunks.items) (before_chunks c.args.globals.now (state_of c.args.state)) in
    let split : merge (chunk ∷ rest) now ≡ meant = ap (λ rs. merge (map chunk_of rs) now) (sym c.in-Some.ensures.steps.0) ∙ c.loop-chunk.invariant.merged in
    stops_merge meant c.take_chunk.new.globals c.in_err-take_chunk.field-0.0 c.from_residual.result
    (λ t is. sym split ∙ stops chunk rest now c.in_err-take_chunk.field-0.0 t c.in_err-take_chunk.ensures.goes is)
    c.from_residual.ensures.1

pub loop-chunk-preserved : goal.loop-chunk-preserved
loop-chunk-preserved c =
    let chunk = chunk_of c.in-Some.chunk in
    let rest = map chunk_of (into_iter_items c.next.new.self) in
    let now : End Globals = record { world = c.loop-chunk.globals; state = state_of c.loop-chunk.last_state; output = in_a_row c.loop-chunk.outputs.items; left = left_view c.loop-chunk.last_left } in
    let meant = merge (map chunk_of c.args.chunks.items) (before_chunks c.args.globals.now (state_of c.args.state)) in
    let split : merge (chunk ∷ rest) now ≡ meant = ap (λ rs. merge (map chunk_of rs) now) (sym c.in-Some.ensures.steps.0) ∙ c.loop-chunk.invariant.merged in
    let yes : Continues chunk.left (Ok true) = rw c.if-not-branch.false at c.in_ok-take_chunk.ensures.goes.1 in
    let same = same_end chunk now c.take_chunk.new.globals c.take_chunk.new.outputs.items c.loop-chunk.outputs.items c.in-Some.chunk.output c.in_ok-take_chunk.ensures.globals c.in_ok-take_chunk.ensures.outputs refl refl in
    let size = ap length c.in-Some.ensures.steps.0 in
    record {
      size = omega (arith, size, c.loop-chunk.invariant.size, c.in-Some.ensures.steps.1);
      merged = ap (merge rest) same ∙ sym (goes_on chunk rest now c.in_ok-take_chunk.ensures.goes.0 yes) ∙ split;
    }

pub returns : goal.returns
returns c =
    let now : End Globals = record { world = c.loop-chunk.globals; state = state_of c.loop-chunk.last_state; output = in_a_row c.loop-chunk.outputs.items; left = left_view c.loop-chunk.last_left } in
    let meant = merge (map chunk_of c.args.chunks.items) (before_chunks c.args.globals.now (state_of c.args.state)) in
    elim c.match-next.branch [
      | in-None w ↦
          let none = no_items (into_iter_items c.loop-chunk.chunk-iterator) (omega (arith, c.loop-chunk.invariant.size, w.in-None.ensures.steps.0)) in
          let answer : Ok now ≡ meant = ap (λ rs. merge (map chunk_of rs) now) (sym none) ∙ c.loop-chunk.invariant.merged in
          rw (w.globals-is, w.outputs-is, w.last_left-is, w.last_state-is) (sym answer)
      | in-Some+in_ok-take_chunk+then-not-branch w ↦
          let chunk = chunk_of w.in-Some.chunk in
          let rest = map chunk_of (into_iter_items c.next.new.self) in
          let split : merge (chunk ∷ rest) now ≡ meant = ap (λ rs. merge (map chunk_of rs) now) (sym w.in-Some.ensures.steps.0) ∙ c.loop-chunk.invariant.merged in
          let no : Continues chunk.left (Ok false) = rw w.if-not-branch.true at w.in_ok-take_chunk.ensures.goes.1 in
          let same = same_end chunk now w.take_chunk.new.globals w.take_chunk.new.outputs.items c.loop-chunk.outputs.items w.in-Some.chunk.output w.in_ok-take_chunk.ensures.globals w.in_ok-take_chunk.ensures.outputs refl refl in
          rw (w.globals-is, w.outputs-is, w.last_left-is, w.last_state-is) (sym split ∙ ends chunk rest now w.in_ok-take_chunk.ensures.goes.0 no ∙ ap Ok (sym same))
    ]
