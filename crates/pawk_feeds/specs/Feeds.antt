-- Runs from feeds to a sink. POSIX.1-2017, awk, "Overall Program Structure", "STDIN", "OPERANDS" and "STDOUT".
use Rattle.std.specs.Prelude.{◌≡◌, ℕ, List, [], ◌∷◌, ◌++◌, Option}
use Rattle.std.specs.Io.KnownBytes.{Appends}
use Rattle.pawk_code.specs.Programs.{Code}
use Rattle.pawk_store.specs.Openings.{pairs_of}
use Rattle.pawk_sequential.specs.RunEnds.{AreSpecials, ending_view}
use Rattle.pawk_merge_law.specs.Flows.{Pairs, Turn}
use Rattle.pawk_flow.specs.Operands.{Operands, run_over, IsRouteOver}
use Rattle.pawk_window.specs.Feeds.{IsFileOf}
use Rattle.pawk_window.specs.declared.feed.Feed.{Feed}
use Rattle.pawk_feeds.specs.declared.flowed.Flowed.{Flowed}
use Rattle.pawk_feeds.specs.declared.order.Order.{Order}

module _ {S : Type 0} (left : S → Option (List ℕ)) where
  -- the turn of a feed: its assignments, and its file
  pub record IsTurnOf (feed : Feed S) (turn : Turn) : Type 0 where
    pub before : turn.before ≡ pairs_of feed.before.now
    pub file : IsFileOf left feed turn.file

  -- the turns of feeds, in order
  abbrev pub AreTurnsOf : List (Feed S) → List Turn → Type 0
  AreTurnsOf [] [] = Unit {0}
  AreTurnsOf [] (t ∷ ts) = ⊥
  AreTurnsOf (f ∷ fs) [] = ⊥
  AreTurnsOf (f ∷ fs) (t ∷ ts) = IsTurnOf f t × AreTurnsOf fs ts

-- the operands of an order, with these files and what is assigned before them
abbrev pub operands_of : Order → List Turn → Operands
operands_of o turns = record { first = pairs_of o.first.now; turns = turns; last = pairs_of o.last.now }

-- the sink took a beginning of this output
pub record WroteSome (old new : Option (List ℕ)) (output : List ℕ) : Type 0 where
  pub taken : List ℕ
  pub rest : List ℕ
  pub appends : Appends old new taken
  pub is : output ≡ taken ++ rest

-- Over these operands a run is the one of the definition: its globals, the variables that it sets, its ending and its route; and
-- the sink took its output.
pub record FlowsTo (code : Code) (budget : ℕ) (assignments : Pairs) (operands : Operands)
    (old new : Option (List ℕ)) (flowed : Flowed) : Type 0 where
  pub globals : (run_over code budget assignments operands).world ≡ flowed.globals
  pub specials : AreSpecials flowed.specials (run_over code budget assignments operands).state
  pub ending : (run_over code budget assignments operands).ending ≡ ending_view flowed.ending
  pub route : IsRouteOver code budget assignments operands flowed.route
  pub wrote : Appends old new (run_over code budget assignments operands).output
