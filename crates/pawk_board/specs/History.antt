-- What the seats of a board have done, and when that is lawful.
--
-- A board of C chunks hands out the numbers 0, 1, .. by a counter. The numbers below C are the chunks; a seat
-- that draws another number is told that no chunk is left. A stop is the number of a chunk after which no chunk
-- is wanted; C itself stands for no stop.
use Rattle.std.specs.Prelude.{◌≡◌, ℕ, ◌<◌, ◌≤◌, List, [], ◌∷◌, ◌++◌, All, Contains, IsPermutation, count_by, ◌==◌, nat_lt, if◌then◌else◌}
use Rattle.std.specs.List.{flat_map, range_with_len}
use Rattle.pawk_board.specs.declared.hand.Hand.{Hand}

-- a seat that has done nothing
abbrev pub blank : Hand
blank = record { drawn = []; told = []; saw = [] }

-- the seat drew one number more
abbrev pub drew : Hand → ℕ → Hand
drew h n = record { drawn = h.drawn ++ n ∷ []; told = h.told; saw = h.saw }

-- the seat reported one stop more
abbrev pub tells : Hand → ℕ → Hand
tells h n = record { drawn = h.drawn; told = h.told ++ n ∷ []; saw = h.saw }

-- the seat saw one stop more
abbrev pub sees : Hand → ℕ → Hand
sees h n = record { drawn = h.drawn; told = h.told; saw = h.saw ++ n ∷ [] }

-- the numbers that the seats drew
abbrev pub drawn_by : List Hand → List ℕ
drawn_by hands = flat_map (λ h. h.drawn) hands

-- the stops that the seats reported
abbrev pub told_by : List Hand → List ℕ
told_by hands = flat_map (λ h. h.told) hands

-- m is the least number of the list
abbrev pub IsLeast : ℕ → List ℕ → Type 0
IsLeast m xs = Contains xs m × All (λ x. m ≤ x) xs

-- each stop that the seat reported is the number of a chunk that it drew
abbrev pub ToldOwn : ℕ → Hand → Type 0
ToldOwn chunks h = All (λ n. (n < chunks) × Contains h.drawn n) h.told

-- each stop that the seat saw is among these, and is no less than the stop
abbrev pub SawStops : ℕ → List ℕ → Hand → Type 0
SawStops stop stops h = All (λ w. Contains stops w × (stop ≤ w)) h.saw

-- the seats drew each number below the counter once and no other, reported as stops only chunks that they drew
-- themselves, and saw only the chunk count and stops that were reported, none below the stop, which is the least of
-- these
pub record Lawful (chunks counter stop : ℕ) (hands : List Hand) : Type 0 where
  pub draws : IsPermutation (range_with_len 0 counter) (drawn_by hands)
  pub told : All (ToldOwn chunks) hands
  pub least : IsLeast stop (chunks ∷ told_by hands)
  pub saw : All (SawStops stop (chunks ∷ told_by hands)) hands

-- the words are lawful for what the seats did, and no others are: so the board has these
abbrev pub AreTheWords : ℕ → ℕ → ℕ → List Hand → Type 0
AreTheWords chunks counter stop hands = Lawful chunks counter stop hands × ((n s : ℕ) → Lawful chunks n s hands → (n ≡ counter) × (s ≡ stop))

-- each number below the counter was drawn once, and no other was drawn
abbrev pub EachOnce : ℕ → List Hand → Type 0
EachOnce counter hands = (n : ℕ) → count_by (λ m. m == n) (drawn_by hands) ≡ if nat_lt n counter then 1 else 0

-- where a seat was told that no chunk is left, the number of each chunk was drawn
abbrev pub DoneMeansAll : ℕ → List Hand → Type 0
DoneMeansAll chunks hands = (n past : ℕ) → Contains (drawn_by hands) past → chunks ≤ past → n < chunks → Contains (drawn_by hands) n

-- where a seat saw a stop below n, and not the chunk count, such a stop was reported, and n lies past the stop
abbrev pub PastMeansTold : ℕ → ℕ → List Hand → Type 0
PastMeansTold chunks stop hands = All (λ h. (n w : ℕ) → Contains h.saw w → w < n → w < chunks → Contains (told_by hands) w × (stop < n)) hands
