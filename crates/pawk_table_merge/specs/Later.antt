-- Sections of a program whose records do not read NR: how many records come before does not matter. POSIX.1-2017, awk, "Variables
-- and Special Variables" (NR).
use Rattle.std.specs.Prelude.{◌≡◌, ℕ, false, List}
use Rattle.pawk_input.specs.Input.{Item}
use Rattle.pawk_merge_law.specs.Phases.{Phase}
use Rattle.pawk_numbered.specs.Mentions.{reads_number}
use Rattle.pawk_shards.specs.Told.{Tell}
use Rattle.pawk_tables.specs.Layout.{Section}

-- What sections tell of records that come after so many, they tell of them after any number.
abbrev pub TellLaterLaw : Type 0
TellLaterLaw =
    (p : Phase) → reads_number p.code ≡ false →
    (rs : List ℕ) (nr later : ℕ) (name : List ℕ) (sections : List Section) (chunks : List (List Item)) →
    Tell p rs nr name sections chunks → Tell p rs later name sections chunks
