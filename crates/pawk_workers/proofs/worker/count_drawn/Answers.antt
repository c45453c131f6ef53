use Rattle.std.proofs.Common.{◌<◌, [], ◌∷◌, ◌++◌, All, sym, ap, ◌∙◌, subst, arith}
use Rattle.std.proofs.lemmas.List.{map_push}
use Rattle.std.proofs.lemmas.List.Elements.{All-push, All-contains, Contains-push}
use Rattle.pawk_board.proofs.Calls.{same_board, now_drawn, still_undone, nearer_done}
use Rattle.pawk_workers.specs.Counting.{Numbered, IsCountIn, counts_in, numbers}
use Rattle.pawk_workers.proofs.worker.count_drawn.Goals as goal

pub loop-counts-smaller : goal.loop-counts-smaller
loop-counts-smaller g c = nearer_done c.args.task.now.board.now.chunks c.in-Chunk.number c.loop-counts.seat c.claim.new.seat c.in-Chunk.ensures

pub loop-counts-preserved : goal.loop-counts-preserved
loop-counts-preserved g c =
    let C = c.args.task.now.board.now.chunks in
    let n = c.in-Chunk.number in
    let old = c.loop-counts.seat in
    let new = c.claim.new.seat in
    let inv = c.loop-counts.invariant in
    let counts = c.loop-counts.counts.items in
    let here : Numbered = (n, c.count_watched.result) in
    let P = IsCountIn (counts_in c.args.task.now) in
    let items = c.in_ok-push-in-Chunk.ensures.items in
    let drew = now_drawn C n old new c.in-Chunk.ensures in
    record {
      board = same_board C n old new c.in-Chunk.ensures ∙ inv.board;
      undone = still_undone C n old new c.in-Chunk.ensures inv.undone;
      drawn = drew ∙ (ap (λ l. l ++ n ∷ []) inv.drawn ∙ sym (ap numbers items ∙ map_push (λ (r : Numbered). r.0) counts here));
      counts = subst (All P) (sym items) (All-push P counts here inv.counts c.count_watched.ensures);
      place = record { within = omega (arith, c.seek-place.ensures.exists); before = c.seek-place.ensures.before };
      ahead = λ m all.
          let less : n < m = All-contains (λ k. k < m) (old.hand.drawn ++ n ∷ []) n (subst (All (λ k. k < m)) drew all) (Contains-push old.hand.drawn n) in
          omega (arith, c.seek-place.ensures.low);
    }
