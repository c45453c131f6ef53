-- Whether the records of a run in windows fault or create an element, window by window.
use Rattle.std.specs.Prelude.{◌≡◌, ◌⊎◌, ◌↔◌, List, [], ◌∷◌, flat_map, None}
use Rattle.pawk_input.specs.Input.{Item}
use Rattle.pawk_store.specs.Globals.{Globals}
use Rattle.pawk_store.specs.Records.{through}
use Rattle.pawk_merge_law.specs.Phases.{Phase, FaultsOrCreates}
use Rattle.pawk_merge_law.specs.Pieces.{Progress}
use Rattle.pawk_merge_law.specs.Windows.{phase_at, Window, in_chunks, in_turn, records_in, RunsTo, without_output}

-- a window, and how far the run is after it
pub record Step : Type 0 where
  pub window : Window
  pub progress : Progress Globals

abbrev pub step_records : Step → List Item
step_records s = records_in s.window

-- windows one after the other, each from where the one before it ended; each but the last left through
abbrev pub AreSteps : Phase → Progress Globals → List Step → Type 0
AreSteps p a [] = Unit {0}
AreSteps p a (s ∷ []) = RunsTo p a s.window s.progress
AreSteps p a (s ∷ t ∷ ss) =
    RunsTo p a s.window s.progress × (s.progress.end.left ≡ through) × (s.progress.skip ≡ None)
    × AreSteps p (without_output s.progress) (t ∷ ss)

-- a window that is run in turn ends in a fault, or creates an element of an array that is no reader array
abbrev pub InTurnFaultsOrCreates : Phase → Progress Globals → Window → Type 0
InTurnFaultsOrCreates p a (in_chunks chunks results) = ⊥
InTurnFaultsOrCreates p a (in_turn items) = FaultsOrCreates (phase_at p a.end) items

-- one of the windows does
abbrev pub OneFaultsOrCreates : Phase → Progress Globals → List Step → Type 0
OneFaultsOrCreates p a [] = ⊥
OneFaultsOrCreates p a (s ∷ ss) =
    InTurnFaultsOrCreates p a s.window ⊎ OneFaultsOrCreates p (without_output s.progress) ss

-- The records in order end in a fault, or create such an element, exactly where a window that is run in turn does.
abbrev pub WaysLaw : Type 0
WaysLaw =
    (p : Phase) (a : Progress Globals) (steps : List Step) → a.end.left ≡ through → a.skip ≡ None → AreSteps p a steps →
    FaultsOrCreates (phase_at p a.end) (flat_map step_records steps) ↔ OneFaultsOrCreates p a steps
