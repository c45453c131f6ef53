-- What was written before records, or before END, stays in front of what they write, and they do not look at it.
use Rattle.std.specs.Prelude.{◌≡◌, ℕ, List, ◌++◌, Option, Vec}
use Rattle.std.specs.declared.alloc.Global.{Global}
use Rattle.std.specs.List.{flat_map}
use Rattle.pawk_world.specs.Worlds.{Calls}
use Rattle.pawk_code.specs.Programs.{Code}
use Rattle.pawk_input.specs.Input.{Item}
use Rattle.pawk_store.specs.Records.{Left, End}
use Rattle.pawk_store.specs.Runs.{Finish, records_from, after_records}

-- texts one after the other
abbrev pub in_a_row : List (Vec ℕ Global) → List ℕ
in_a_row texts = flat_map (λ text. text.items) texts

-- an end with this in front of its output
abbrev pub with_output_before : {S : Type 0} → List ℕ → End S → End S
with_output_before out e = record e { output = out ++ e.output }

-- records from an end with more output end as those from it without, with that in front, over any world and of any program
abbrev pub OutputIsAppendedLaw : {S : Type 0} → Calls S → Type 0
OutputIsAppendedLaw {S} calls =
    (eres : List (List ℕ)) (code : Code) (budget : ℕ) (skip : Option ℕ) (items : List Item) (out : List ℕ) (e : End S) →
    records_from calls eres code budget skip (with_output_before out e) items
    ≡ with_output_before out (records_from calls eres code budget skip e items)

-- a finish with this in front of its output
abbrev pub finish_with_output_before : {S : Type 0} → List ℕ → Finish S → Finish S
finish_with_output_before out f = record f { output = out ++ f.output }

-- what follows the records does the same
abbrev pub OutputStaysLaw : {S : Type 0} → Calls S → Type 0
OutputStaysLaw {S} calls =
    (eres : List (List ℕ)) (code : Code) (budget : ℕ) (left : Left) (out : List ℕ) (e : End S) →
    after_records calls eres code budget left (with_output_before out e)
    ≡ finish_with_output_before out (after_records calls eres code budget left e)
