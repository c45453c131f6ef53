-- What a run over a shard writes. POSIX.1-2017, awk, "Overall Program Structure".
use Rattle.std.specs.Prelude.{◌≡◌, ℕ, ◌+◌, List, [], ◌++◌, length, Option, Ok}
use Rattle.std.specs.Io.KnownBytes.{Appends}
use Rattle.sha2.specs.Hashers.{Holds256}
use Rattle.sha2.specs.declared.Sha256.{Sha256}
use Rattle.pawk_code.specs.ProgramViews.{code_view}
use Rattle.pawk_input.specs.Input.{File}
use Rattle.pawk_store.specs.Openings.{pairs_of}
use Rattle.pawk_admit.specs.Roles.{roles_view}
use Rattle.pawk_admit.specs.declared.role.Roles.{Roles}
use Rattle.pawk_lines.specs.Lines.{IsLine, line_bytes}
use Rattle.pawk_lines.specs.Lines as lines
use Rattle.pawk_tables.specs.Layout.{Header, Section, IsTableFile, end_bytes}
use Rattle.pawk_tables.specs.Views.{shard_of}
use Rattle.pawk_pieces.specs.Begins.{Begins}
use Rattle.pawk_pieces.specs.Pieces.{phase_between}
use Rattle.pawk_pieces.specs.declared.begin.Begun.{Begun}
use Rattle.pawk_pieces.specs.declared.begin.Begun.TheVariants.{Ended, Flows}
use Rattle.pawk_pieces.specs.declared.begin.Start.{Start}
use Rattle.pawk_map.specs.Maps.{Ground, TellFiles}
use Rattle.pawk_map.specs.Sections.{SaySections}
use Rattle.pawk_map.specs.declared.mapped.Mapped.{Mapped}
use Rattle.pawk_map.specs.declared.order.MapOrder.{MapOrder}

-- the header of the table file of an order
abbrev pub header_in : MapOrder → Header
header_in o = record {
  program = o.program.now;
  budget = o.job.budget;
  assignments = pairs_of o.assignments.now;
  shard = shard_of o.shard;
  before = o.before;
  first = pairs_of o.first.now;
}

-- the records after BEGIN, which left this, and after those of the shards before
abbrev pub ground_from : MapOrder → Start → Roles → Ground
ground_from o start roles = record {
  phase = phase_between (code_view o.job.code.now) (roles_view roles) o.job.budget start.flow;
  rs = start.rs.items;
  nr = start.flow.state.nr + o.before;
  scalars = length start.flow.globals.scalars;
  arrays = length start.flow.globals.arrays;
}

-- After bytes that a digest holds, the sections of files and the end of a table file were written.
pub record WritesAll (u : Ground) (taken now_taken : Option (List ℕ)) (digest : Sha256) (files : List File) (mapped : Mapped) : Type 0 where
  pub sections : List Section
  pub bytes : List ℕ
  pub say : SaySections u.scalars u.arrays sections bytes
  pub tell : TellFiles u files sections mapped.records
  pub line : IsLine (lines.records mapped.records)
  pub wrote : (body : List ℕ) → Holds256 digest body →
      Appends taken now_taken (bytes ++ (line_bytes (lines.records mapped.records) ++ end_bytes ((body ++ bytes) ++ line_bytes (lines.records mapped.records))))

module _ (o : MapOrder) where
  -- a table file without a section
  abbrev pub IsEmptyFile : List ℕ → Mapped → Type 0
  IsEmptyFile bytes mapped = (mapped.records ≡ 0) × ((scalars arrays : ℕ) → IsTableFile scalars arrays bytes (header_in o) [] 0)

  -- A table file whose sections tell of the records of files after BEGIN, which left this, with tables of all scalars and arrays.
  pub record IsFileFrom (files : List File) (bytes : List ℕ) (mapped : Mapped) (start : Start) : Type 0 where
    pub roles : Roles
    pub admitted : start.roles ≡ Ok roles
    pub sections : List Section
    pub is : IsTableFile (length start.flow.globals.scalars) (length start.flow.globals.arrays) bytes (header_in o) sections mapped.records
    pub tell : TellFiles (ground_from o start roles) files sections mapped.records

  -- the same after BEGIN, which ended the run, or after which records are read
  abbrev pub IsFileAfter : List File → List ℕ → Mapped → Begun → Type 0
  IsFileAfter files bytes mapped (Ended outcome route) = IsEmptyFile bytes mapped
  IsFileAfter files bytes mapped (Flows start) = IsFileFrom files bytes mapped start

  -- What the run over a shard with these files writes: a table file that tells of its records after BEGIN.
  abbrev pub IsMapOf : List File → List ℕ → Mapped → Type 0
  IsMapOf files bytes mapped =
      (begun : Begun) × Begins (code_view o.job.code.now) o.job.budget (pairs_of o.assignments.now) (pairs_of o.first.now) begun
      × IsFileAfter files bytes mapped begun
