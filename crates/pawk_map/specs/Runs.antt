-- Pieces of a file whose chunks are run apart. POSIX.1-2017, awk, "Overall Program Structure".
use Rattle.std.specs.Prelude.{◌≡◌, ℕ, false, List, [], length}
use Rattle.pawk_code.specs.ProgramViews.{code_view}
use Rattle.pawk_input.specs.Input.{Item}
use Rattle.pawk_admit.specs.Roles.{roles_view}
use Rattle.pawk_store.specs.StateViews.{state_of}
use Rattle.pawk_merge_law.specs.Phases.{Phase}
use Rattle.pawk_merge_law.specs.ChunkedRuns.{HasRecord, all_of}
use Rattle.pawk_tables.specs.Layout.{Section}
use Rattle.pawk_pieces.specs.declared.piece.Piece.{Piece}
use Rattle.pawk_pieces.specs.Pieces.{piece_items}
use Rattle.pawk_shards.specs.Numbers.{AreSameButNumbers}
use Rattle.pawk_shards.specs.Told.{Tell}
use Rattle.pawk_map.specs.Sections.{SaySections, name_after, DoesNotGoThrough, EndsKept}
use Rattle.pawk_map.specs.declared.apart.Apart.{Apart}
use Rattle.pawk_map.specs.declared.apart.Setting.{Setting}

-- the records that follow BEGIN
abbrev pub phase_in : Setting → Phase
phase_in s = record {
  code = code_view s.job.code.now;
  roles = roles_view s.roles.now;
  eres = (code_view s.job.code.now).expressions;
  budget = s.job.budget;
  globals = s.globals.now;
  state = state_of s.state.now;
  output = [];
}

module _ (p : Phase) (nr : ℕ) where
  -- Lines of parts that tell of these records, which come after so many.
  pub record SayParts (items : List Item) (lines : List ℕ) : Type 0 where
    pub sections : List Section
    pub chunks : List (List Item)
    pub say : SaySections (length p.globals.scalars) (length p.globals.arrays) sections lines
    pub tell : (rs name : List ℕ) → Tell p rs nr name sections chunks
    pub name : (name : List ℕ) → name_after name sections ≡ name
    pub all : all_of chunks ≡ items
    pub none : items ≡ [] → sections ≡ []

  -- There are such records, and they do not go through.
  pub record DoNotGoThrough (items : List Item) : Type 0 where
    pub some : HasRecord items
    pub stops : DoesNotGoThrough p nr items

  -- Lines that tell of a piece, which comes after so many records: of parts, or of its records, which are kept where they do not
  -- go through.
  pub record IsApart (piece : Piece) (x : Apart) : Type 0 where
    pub sections : List Section
    pub chunks : List (List Item)
    pub say : SaySections (length p.globals.scalars) (length p.globals.arrays) sections x.lines.items
    pub tell : Tell p piece.rs.now nr piece.name.now sections chunks
    pub name : name_after piece.name.now sections ≡ piece.name.now
    pub are : AreSameButNumbers (all_of chunks) (piece_items piece)
    pub counted : x.records ≡ length (all_of chunks)
    pub none : x.records ≡ 0 → sections ≡ []
    pub stops : x.is_through ≡ false → EndsKept p nr sections chunks
