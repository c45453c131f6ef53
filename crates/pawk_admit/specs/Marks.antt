-- What is done with each name, as a table keeps it.
use Rattle.std.specs.Prelude.{◌≡◌, ℕ, nat_eq, Bool, true, false, List, [], ◌∷◌, slice_index_or, if◌then◌else◌}
use Rattle.pawk_admit.specs.declared.occurrence.Touch.{Touch}
use Rattle.pawk_admit.specs.declared.occurrence.Touch.TheVariants.{Look, Set, Assign, Add, AddAndLook, Test, Walk, Split, Pass, Delete}
use Rattle.pawk_admit.specs.declared.occurrence.GlobalName.{GlobalName}
use Rattle.pawk_admit.specs.declared.occurrence.GlobalName.TheVariants.{Scalar, Array}
use Rattle.pawk_admit.specs.declared.occurrence.Occurrence.{Occurrence}
use Rattle.pawk_admit.specs.declared.occurrence.Occurrence.TheVariants as occurrence
use Rattle.pawk_admit.specs.declared.marks.Marks.{Marks}
use Rattle.pawk_admit.specs.declared.marks.Tables.{Tables}

abbrev pub nothing : Marks
nothing = record { sets = false; adds = false; looks = false; others = false }

abbrev pub with_touch : Marks → Touch → Marks
with_touch m Set = record m { sets = true }
with_touch m Add = record m { adds = true }
with_touch m AddAndLook = record m { adds = true }
with_touch m Look = record m { looks = true }
with_touch m Assign = record m { others = true }
with_touch m Test = record m { others = true }
with_touch m Walk = record m { others = true }
with_touch m Split = record m { others = true }
with_touch m Pass = record m { others = true }
with_touch m Delete = record m { others = true }

abbrev pub is_name : GlobalName → GlobalName → Bool
is_name (Scalar m) (Scalar n) = nat_eq m n
is_name (Array m) (Array n) = nat_eq m n
is_name (Scalar m) (Array n) = false
is_name (Array m) (Scalar n) = false

-- the marks of a name, and what an occurrence does with it
abbrev pub with_occurrence : Marks → GlobalName → Occurrence → Marks
with_occurrence m name (occurrence.Touch touch other) = if is_name name other then with_touch m touch else m
with_occurrence m name (occurrence.Call f) = m
with_occurrence m name occurrence.Match = m
with_occurrence m name occurrence.Range = m
with_occurrence m name occurrence.NextFile = m

-- the marks of a name from a list, beside these
abbrev pub marks_from : Marks → List Occurrence → GlobalName → Marks
marks_from m [] name = m
marks_from m (o ∷ os) name = marks_from (with_occurrence m name o) os name

abbrev pub marks_among : List Occurrence → GlobalName → Marks
marks_among = marks_from nothing

abbrev pub marks_at : List Marks → ℕ → Marks
marks_at table n = slice_index_or table n nothing

abbrev pub marks_of : Tables → GlobalName → Marks
marks_of tables (Scalar n) = marks_at tables.scalars.items n
marks_of tables (Array n) = marks_at tables.arrays.items n

-- the tables are those of the list
abbrev pub AreTables : List Occurrence → Tables → Type 0
AreTables list tables = (name : GlobalName) → marks_of tables name ≡ marks_among list name
