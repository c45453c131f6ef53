-- Files that are lent.
use Rattle.std.specs.Prelude.{List}
use Rattle.pawk_input.specs.Input.{FileInBlocks, in_blocks, in_vectors}
use Rattle.pawk_input.specs.declared.lent.LentFile.{LentFile}
use Rattle.pawk_input.specs.declared.lent.FileStorage.{FileStorage}
use Rattle.pawk_input.specs.declared.lent.FileStorage.TheVariants as at

-- what a lent file shows
abbrev pub lent_file : LentFile → FileInBlocks
lent_file f = record { name = f.name.now; blocks = f.blocks }

-- the files at a place
abbrev pub files_at : FileStorage → List FileInBlocks
files_at (at.Vectors pairs) = in_vectors pairs.now
files_at (at.Blocks pairs) = in_blocks pairs.now
