-- How an input holds its files.
use Rattle.std.specs.Prelude.{List}
use Rattle.pawk_input.specs.Input.{FileInBlocks, in_blocks, in_vectors}
use Rattle.pawk_input.specs.declared.files.HeldFiles.{HeldFiles}
use Rattle.pawk_input.specs.declared.files.HeldFiles.TheVariants as held

-- the files, in vectors or in blocks
abbrev pub held_files : HeldFiles → List FileInBlocks
held_files (held.Vectors pairs) = in_vectors pairs.items
held_files (held.Blocks pairs) = in_blocks pairs.items
