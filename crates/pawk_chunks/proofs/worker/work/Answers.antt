use Rattle.std.proofs.Common.{◌<◌, All, Result, Ok, Err, OnErr, sym, ap, ◌∙◌, subst}
use Rattle.std.proofs.lemmas.List.Elements.{All-push}
use Rattle.pawk_board.specs.declared.hand.Hand.{Hand}
use Rattle.pawk_board.proofs.Rising.{fewer_left}
use Rattle.pawk_board.proofs.Calls.{is_chunk, same_board, drew_chunk, drew_less, has_claimed}
use Rattle.pawk_chunks.specs.Worker.{IsResultOf, Skips, Runs, stops}
use Rattle.pawk_chunks.proofs.WorkerLemmas.{SoFar, skips, runs, done, skips_drawn, runs_drawn}
use Rattle.pawk_chunks.proofs.worker.work.Goals as goal

pub returns-in-Done-clause-worked : goal.returns-in-Done-clause-worked
returns-in-Done-clause-worked g c =
    let claims = c.in-Done.ensures in
    done c.args.seat.now.hand c.loop-results.seat.hand c.args.task.now.board.now.chunks claims.0 c.loop-results.results.items c.claim.new.seat.hand c.loop-results.invariant.so_far claims.3 claims.2 (ap (λ s. s.hand) claims.1)

pub one_chunk-requires-clause-drawn : goal.one_chunk-requires-clause-drawn
one_chunk-requires-clause-drawn g c = has_claimed c.args.task.now.board.now.chunks c.in-Chunk.chunk c.loop-results.seat c.claim.new.seat c.in-Chunk.ensures

pub loop-results-smaller-in-Continue-branch-3 : goal.loop-results-smaller-in-Continue-branch-3
loop-results-smaller-in-Continue-branch-3 g c =
    let C = c.args.task.now.board.now.chunks in
    let n = c.in-Chunk.chunk in
    let old = c.loop-results.seat in
    let new = c.claim.new.seat in
    let fact = rw c.in-Some.is at c.in_ok-result-in-Chunk.ensures.seat in
    let stop = stops c.in-Some.result.left in
    let ran = subst (λ (x : Hand). Runs x n stop c.one_chunk.new.seat.hand) (drew_chunk C n old new c.in-Chunk.ensures) fact.1 in
    fewer_left C n old.hand.drawn c.one_chunk.new.seat.hand.drawn (runs_drawn old.hand n stop c.one_chunk.new.seat.hand ran) (drew_less C n old new c.in-Chunk.ensures) (is_chunk C n old new c.in-Chunk.ensures)

pub loop-results-preserved-in-Continue-branch-3 : goal.loop-results-preserved-in-Continue-branch-3
loop-results-preserved-in-Continue-branch-3 g c =
    let C = c.args.task.now.board.now.chunks in
    let n = c.in-Chunk.chunk in
    let old = c.loop-results.seat in
    let new = c.claim.new.seat in
    let fact = rw c.in-Some.is at c.in_ok-result-in-Chunk.ensures.seat in
    let result = c.in-Some.result in
    let ran = subst (λ (x : Hand). Runs x n (stops result.left) c.one_chunk.new.seat.hand) (drew_chunk C n old new c.in-Chunk.ensures) fact.1 in
    let items = c.in_ok-push-in-Some.ensures.items in
    let start = c.args.seat.now.hand in
    let P = IsResultOf c.args.task.now in
    record {
      board = c.in_ok-result-in-Chunk.ensures.board ∙ (same_board C n old new c.in-Chunk.ensures ∙ c.loop-results.invariant.board);
      so_far = subst (SoFar start c.one_chunk.new.seat.hand C) (sym items)
          (runs start old.hand C n c.loop-results.results.items result c.one_chunk.new.seat.hand c.loop-results.invariant.so_far (is_chunk C n old new c.in-Chunk.ensures) (drew_less C n old new c.in-Chunk.ensures) ran);
      made = subst (All P) (sym items) (All-push P c.loop-results.results.items (n, result) c.loop-results.invariant.made fact.0);
    }

pub loop-results-smaller : goal.loop-results-smaller
loop-results-smaller g c =
    let C = c.args.task.now.board.now.chunks in
    let n = c.in-Chunk.chunk in
    let old = c.loop-results.seat in
    let new = c.claim.new.seat in
    let fact = rw c.in-None.is at c.in_ok-result-in-Chunk.ensures.seat in
    let skip = subst (λ (x : Hand). Skips x n c.one_chunk.new.seat.hand) (drew_chunk C n old new c.in-Chunk.ensures) fact in
    fewer_left C n old.hand.drawn c.one_chunk.new.seat.hand.drawn (skips_drawn old.hand n c.one_chunk.new.seat.hand skip) (drew_less C n old new c.in-Chunk.ensures) (is_chunk C n old new c.in-Chunk.ensures)

pub loop-results-preserved : goal.loop-results-preserved
loop-results-preserved g c =
    let C = c.args.task.now.board.now.chunks in
    let n = c.in-Chunk.chunk in
    let old = c.loop-results.seat in
    let new = c.claim.new.seat in
    let fact = rw c.in-None.is at c.in_ok-result-in-Chunk.ensures.seat in
    let skip = subst (λ (x : Hand). Skips x n c.one_chunk.new.seat.hand) (drew_chunk C n old new c.in-Chunk.ensures) fact in
    record {
      board = c.in_ok-result-in-Chunk.ensures.board ∙ (same_board C n old new c.in-Chunk.ensures ∙ c.loop-results.invariant.board);
      so_far = skips c.args.seat.now.hand old.hand C n c.loop-results.results.items c.one_chunk.new.seat.hand c.loop-results.invariant.so_far (is_chunk C n old new c.in-Chunk.ensures) (drew_less C n old new c.in-Chunk.ensures) skip;
      made = c.loop-results.invariant.made;
    }

on_err : {A E : Type 0} (r : Result A E) (P : Type 0) → P → OnErr r P
on_err (Ok x) P p = tt
on_err (Err e) P p = p

-- the result of the chunk is not kept, and the chunk was the last that was drawn
pub returns-in_err-push-in-Some-clause-undone : goal.returns-in_err-push-in-Some-clause-undone
returns-in_err-push-in-Some-clause-undone g c =
    let C = c.args.task.now.board.now.chunks in
    let n = c.in-Chunk.chunk in
    let old = c.loop-results.seat in
    let new = c.claim.new.seat in
    let fact = rw c.in-Some.is at c.in_ok-result-in-Chunk.ensures.seat in
    let stop = stops c.in-Some.result.left in
    let ran = subst (λ (x : Hand). Runs x n stop c.one_chunk.new.seat.hand) (drew_chunk C n old new c.in-Chunk.ensures) fact.1 in
    let undone = All-push (λ m. m < C) old.hand.drawn n c.loop-results.invariant.so_far.undone (is_chunk C n old new c.in-Chunk.ensures) in
    on_err _ _ (subst (All (λ m. m < C)) (sym (runs_drawn old.hand n stop c.one_chunk.new.seat.hand ran)) undone)
