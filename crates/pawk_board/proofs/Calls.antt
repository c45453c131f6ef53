-- What a caller has after a claim that was answered by a chunk.
use Rattle.std.proofs.Common.{◌≡◌, ℕ, ◌-◌, ◌<◌, List, ◌++◌, ◌∷◌, [], All, AllPairs, Contains, sym, ap, ◌∙◌, subst}
use Rattle.std.proofs.lemmas.List.Elements.{All-push, Contains-push}
use Rattle.std.proofs.lemmas.List.Quantifiers.{all_pairs_push}
use Rattle.pawk_board.specs.declared.board.Claim.TheVariants.{Chunk}
use Rattle.pawk_board.specs.History.{drew}
use Rattle.pawk_board.specs.Views.{SeatView}
use Rattle.pawk_board.specs.Claims.{IsUndone, HasClaimed, Claims}
use Rattle.pawk_board.proofs.Rising.{above, fewer_left}

module _ (C n : ℕ) (old new : SeatView) (c : Claims C old new (Chunk n)) where
  -- the chunk is a chunk
  pub is_chunk : n < C
  is_chunk = subst (λ (k : ℕ). k < C) (sym c.3.0) c.3.1

  -- the seat is of the same board
  pub same_board : new.board ≡ old.board
  same_board = ap (λ s. s.board) c.1

  -- the seat drew the chunk and did nothing else
  pub drew_chunk : new.hand ≡ drew old.hand n
  drew_chunk = ap (λ s. s.hand) c.1 ∙ ap (drew old.hand) (sym c.3.0)

  -- all that the seat drew before is less
  pub drew_less : All (λ m. m < n) old.hand.drawn
  drew_less = subst (λ (k : ℕ). All (λ m. m < k) old.hand.drawn) (sym c.3.0) c.2

  pub now_drawn : new.hand.drawn ≡ old.hand.drawn ++ n ∷ []
  now_drawn = ap (λ h. h.drawn) drew_chunk

  -- the seat may stop at the chunk
  pub has_claimed : HasClaimed C new.hand n
  has_claimed = (is_chunk, subst (λ (l : List ℕ). Contains l n) (sym now_drawn) (Contains-push old.hand.drawn n))

  -- the seat may claim again
  pub still_undone : IsUndone C old.hand → IsUndone C new.hand
  still_undone undone = subst (All (λ m. m < C)) (sym now_drawn) (All-push (λ m. m < C) old.hand.drawn n undone is_chunk)

  -- fewer chunks are left to the seat
  pub nearer_done : C - above new.hand.drawn < C - above old.hand.drawn
  nearer_done = fewer_left C n old.hand.drawn new.hand.drawn now_drawn drew_less is_chunk

  -- what the seat drew rises
  pub still_rises : AllPairs (λ a b. a < b) old.hand.drawn → AllPairs (λ a b. a < b) new.hand.drawn
  still_rises up = subst (AllPairs (λ a b. a < b)) (sym now_drawn) (all_pairs_push (λ a b. a < b) old.hand.drawn n up drew_less)
