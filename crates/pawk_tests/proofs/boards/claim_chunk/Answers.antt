use Rattle.pawk_board.proofs.Calls.{has_claimed, still_undone}
use Rattle.pawk_tests.proofs.boards.claim_chunk.Goals as goal

pub returns-in-Chunk-clause-undone : goal.returns-in-Chunk-clause-undone
returns-in-Chunk-clause-undone c = still_undone c.args.board.now.chunks c.in-Chunk.n c.args.seat.now c.claim.new.seat c.in-Chunk.ensures c.requires.undone

pub returns-in-Chunk-clause-claimed : goal.returns-in-Chunk-clause-claimed
returns-in-Chunk-clause-claimed c = has_claimed c.args.board.now.chunks c.in-Chunk.n c.args.seat.now c.claim.new.seat c.in-Chunk.ensures
