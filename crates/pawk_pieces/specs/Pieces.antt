-- A run piece by piece, as the code has it. POSIX.1-2017, awk, "Overall Program Structure".
use Rattle.std.specs.Prelude.{◌≡◌, ℕ, ◌+◌, Bool, true, false, List, [], length, None}
use Rattle.pawk_records.specs.Records.{records_by}
use Rattle.pawk_code.specs.Programs.{Code}
use Rattle.pawk_input.specs.Input.{Item, file_items}
use Rattle.pawk_store.specs.Globals.{Globals, calls}
use Rattle.pawk_store.specs.RecordStates.{RecordState}
use Rattle.pawk_admit.specs.Roles.{Roles}
use Rattle.pawk_store.specs.Records.{through, End}
use Rattle.pawk_store.specs.Runs.{records_from}
use Rattle.pawk_store.specs.Outputs.{in_a_row}
use Rattle.pawk_store.specs.LeftViews.{left_view}
use Rattle.pawk_merge_law.specs.Phases.{Phase, MayRun, FaultsOrCreates}
use Rattle.pawk_pieces.specs.declared.flow.Flow.{Flow}
use Rattle.pawk_pieces.specs.declared.piece.Piece.{Piece}
use Rattle.pawk_pieces.specs.declared.piece.PieceEnd.{PieceEnd}

-- a run between two pieces: all that was written is elsewhere, and the records so far were left through
abbrev pub end_between : Flow → End Globals
end_between f = record { world = f.globals; state = f.state; output = []; left = through }

-- how a piece ended, beside a world and the record state after it
abbrev pub passed_end : {S : Type 0} → S → RecordState → PieceEnd → End S
passed_end s state x = record { world = s; state = state; output = in_a_row x.outputs.items; left = left_view x.left }

-- how a piece ended, beside the run after it
abbrev pub piece_end : Flow → PieceEnd → End Globals
piece_end f x = passed_end f.globals f.state x

-- the records that follow, as a phase of their own
abbrev pub phase_between : Code → Roles → ℕ → Flow → Phase
phase_between code roles budget f = record {
  code = code;
  roles = roles;
  eres = code.expressions;
  budget = budget;
  globals = f.globals;
  state = f.state;
  output = [];
}

abbrev pub piece_records : Piece → List (List ℕ)
piece_records piece = records_by piece.rs.now piece.bytes.items

-- its records with their numbers in the file
abbrev pub piece_items : Piece → List Item
piece_items piece = file_items 0 piece.name.now 0 piece.fnr (piece_records piece)

-- The records of a piece were run from one flow, and left the other and this end; where all were left through, the count of
-- records of the file went on.
pub record RunsPiece (code : Code) (budget : ℕ) (piece : Piece) (old new : Flow) (x : PieceEnd) : Type 0 where
  pub ends : records_from calls code.expressions code budget None (end_between old) (piece_items piece) ≡ piece_end new x
  pub counts : left_view x.left ≡ through → x.fnr ≡ piece.fnr + length (piece_records piece)

-- Its chunks were merged, and the next piece may be run in chunks; or some were not: exactly where the records, one after the
-- other, end in a fault or create an element of an array that is no reader array.
abbrev pub GoesInChunks : Code → Roles → ℕ → Piece → Flow → Flow → Bool → Type 0
GoesInChunks code roles budget piece old new false =
    (¬ FaultsOrCreates (phase_between code roles budget old) (piece_items piece))
    × MayRun (phase_between code roles budget new)
GoesInChunks code roles budget piece old new true = FaultsOrCreates (phase_between code roles budget old) (piece_items piece)
