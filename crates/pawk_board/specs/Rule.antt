-- The rule of the board's words and of what its seats know.
use Rattle.std.specs.Prelude.{◌≡◌, ℕ, ◌+◌, ◌<◌, ◌≤◌, List, [], ◌∷◌, length, replicate, All, sum_by, nat_le, if◌then◌else◌}
use Rattle.std.specs.List.{flat_map}
use Rattle.atomic_table.specs.Table.{State, Me, Step}
use Rattle.atomic_table.specs.Seated.{TableId}
use Rattle.pawk_board.specs.declared.hand.Hand.{Hand}
use Rattle.pawk_board.specs.declared.hand.Terms.{Terms}
use Rattle.pawk_board.specs.Limits.{most_chunks, most_workers}
use Rattle.pawk_board.specs.History.{blank, Lawful, drew, tells, sees}

-- a table of two words that keeps the rule for these numbers of chunks and seats
pub record Fits (id : TableId) (terms : Terms) (chunks workers : ℕ) : Type 0 where
  pub words : id.words ≡ 2
  pub slots : id.slots ≡ 0
  pub chunks_are : terms.chunks ≡ chunks
  pub workers_are : terms.workers ≡ workers
  pub few_chunks : chunks ≤ most_chunks
  pub few_workers : workers ≤ most_workers

-- the hands of all seats of the table, each of which has one for each seat of the board that it stands for
abbrev pub hands_of : List (List Hand) → List Hand
hands_of views = flat_map (λ v. v) views

-- 1 for a number past the last chunk, else 0
abbrev pub over : ℕ → ℕ → ℕ
over chunks n = if nat_le chunks n then 1 else 0

-- how many numbers past the last chunk the seat drew
abbrev pub past : ℕ → Hand → ℕ
past chunks h = sum_by (over chunks) h.drawn

-- the words are a counter and a stop that are lawful for the hands of all seats, of which none was told twice that no chunk is left: so the counter stays small
pub record Kept (t : Terms) (s : State ℕ (List Hand)) : Type 0 where
  pub counter : ℕ
  pub stop : ℕ
  pub words : s.words ≡ counter ∷ stop ∷ []
  pub seats : length (hands_of s.views) ≡ t.workers
  pub lawful : Lawful t.chunks counter stop (hands_of s.views)
  pub bound : counter ≤ t.chunks + sum_by (past t.chunks) (hands_of s.views)
  pub once : All (λ h. past t.chunks h ≤ 1) (hands_of s.views)

-- the first seat of the table stands for all seats of the board, which have done nothing
abbrev pub opening_hands : Terms → List Hand
opening_hands t = replicate t.workers blank

-- the hand of a seat of the table that stands for one seat of the board
abbrev pub hand_in : List Hand → Hand
hand_in [] = blank
hand_in (h ∷ hs) = h

-- the first of the hands, which is dealt out
abbrev pub first_hand : List Hand → List Hand
first_hand [] = []
first_hand (h ∷ hs) = h ∷ []

-- the hands that are left
abbrev pub other_hands : List Hand → List Hand
other_hands [] = []
other_hands (h ∷ hs) = hs

-- a draw gives the number that the counter had, which is above all that the seat drew before
abbrev pub Draws : Step ℕ → Me ℕ (List Hand) → ℕ → Me ℕ (List Hand) → Type 0
Draws s v n w = (w ≡ (drew (hand_in v.0) n ∷ [], [])) × All (λ m. m < n) (hand_in v.0).drawn

-- a stop is reported
abbrev pub Tells : Step ℕ → Me ℕ (List Hand) → ℕ → Me ℕ (List Hand) → Type 0
Tells s v n w = w ≡ (tells (hand_in v.0) s.first ∷ [], [])

-- a look gives the stop, which is at most every stop that the seat reported or saw before
abbrev pub Looks : Step ℕ → Me ℕ (List Hand) → ℕ → Me ℕ (List Hand) → Type 0
Looks s v n w = (w ≡ (sees (hand_in v.0) n ∷ [], [])) × All (λ t. n ≤ t) (hand_in v.0).told × All (λ t. n ≤ t) (hand_in v.0).saw
