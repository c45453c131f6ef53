-- The headers and sections of the code, as those of the layout.
use Rattle.std.specs.Prelude.{ℕ, Option, Some, None}
use Rattle.pawk_store.specs.Openings.{pairs_of}
use Rattle.pawk_tables.specs.declared.header.Shard.{Shard}
use Rattle.pawk_tables.specs.declared.header.Header.{Header as Lent}
use Rattle.pawk_tables.specs.declared.header.ReadHeader.{ReadHeader}
use Rattle.pawk_tables.specs.declared.section.Section.{Section as LentSection}
use Rattle.pawk_tables.specs.declared.section.Section.TheVariants as lent
use Rattle.pawk_tables.specs.Layout.{Header, Section, file, part, kept}

abbrev pub shard_of : Option Shard → Option (ℕ × ℕ × ℕ)
shard_of None = None
shard_of (Some s) = Some (s.first, s.last, s.of)

abbrev pub header_of : Lent → Header
header_of h = record {
  program = h.program.now;
  budget = h.budget;
  assignments = pairs_of h.assignments.now;
  shard = shard_of h.shard;
  before = h.before;
  first = pairs_of h.first.now;
}

abbrev pub read_header_of : ReadHeader → Header
read_header_of h = record {
  program = h.program.now;
  budget = h.budget;
  assignments = pairs_of h.assignments.items;
  shard = shard_of h.shard;
  before = h.before;
  first = pairs_of h.first.items;
}

abbrev pub section_of : LentSection → Section
section_of (lent.File name) = file name.now
section_of (lent.Part records output table) = part records output.now table
section_of (lent.Kept fnr bytes) = kept fnr bytes.now
