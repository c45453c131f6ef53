-- Records of files that are numbered from another number on.
use Rattle.std.specs.Prelude.{◌≡◌, ℕ, ◌+◌, List, Option, map}
use Rattle.std.specs.Option.{option_map}
use Rattle.pawk_world.specs.Worlds.{Calls}
use Rattle.pawk_code.specs.Programs.{Code}
use Rattle.pawk_input.specs.Input.{Item}
use Rattle.pawk_store.specs.Records.{End}
use Rattle.pawk_store.specs.Runs.{records_from}

-- the record of a file whose number is so much greater
abbrev pub with_files_before : ℕ → Item → Item
with_files_before k i = record i { file = k + i.file }

-- No record looks at the number of its file, which says only which records `nextfile` leaves unread. Of any program, over any
-- world.
abbrev pub FilesLaw : {S : Type 0} → Calls S → Type 0
FilesLaw {S} calls =
    (eres : List (List ℕ)) (code : Code) (budget k : ℕ) (skip : Option ℕ) (e : End S) (items : List Item) →
    records_from calls eres code budget (option_map (λ n. k + n) skip) e (map (with_files_before k) items)
    ≡ records_from calls eres code budget skip e items
