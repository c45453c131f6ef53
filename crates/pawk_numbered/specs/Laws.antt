-- Records of a program whose rules and functions do not read NR may be numbered later.
-- POSIX.1-2017, awk, "Variables and Special Variables" (NR).
use Rattle.std.specs.Prelude.{◌≡◌, ℕ, ◌+◌, false, List, Option}
use Rattle.pawk_world.specs.Worlds.{Calls}
use Rattle.pawk_code.specs.Programs.{Code}
use Rattle.pawk_input.specs.Input.{Item}
use Rattle.pawk_store.specs.Records.{End}
use Rattle.pawk_store.specs.Runs.{records_from}
use Rattle.pawk_numbered.specs.Mentions.{reads_number}

-- an end with this many more records read before
abbrev pub with_records_before : {S : Type 0} → ℕ → End S → End S
with_records_before k e = record e { state = record e.state { nr = k + e.state.nr } }

-- Records from an end with more records read before end as those from it without, with as many more read, over any world.
abbrev pub UnnumberedLaw : {S : Type 0} → Calls S → Type 0
UnnumberedLaw {S} calls =
    (eres : List (List ℕ)) (code : Code) → reads_number code ≡ false →
    (budget k : ℕ) (skip : Option ℕ) (items : List Item) (e : End S) →
    records_from calls eres code budget skip (with_records_before k e) items
    ≡ with_records_before k (records_from calls eres code budget skip e items)

-- an end with this many records read
abbrev pub with_number : {S : Type 0} → ℕ → End S → End S
with_number n e = record e { state = record e.state { nr = n } }

-- Records that come after this many leave what they leave after none, with that number added to NR.
abbrev pub FromNoneLaw : {S : Type 0} → Calls S → Type 0
FromNoneLaw {S} calls =
    (eres : List (List ℕ)) (code : Code) → reads_number code ≡ false →
    (budget number : ℕ) (skip : Option ℕ) (items : List Item) (e : End S) →
    records_from calls eres code budget skip (with_number number e) items
    ≡ with_records_before number (records_from calls eres code budget skip (with_number 0 e) items)
