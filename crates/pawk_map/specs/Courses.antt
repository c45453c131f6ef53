-- What is written of a piece that was run apart.
use Rattle.std.specs.Prelude.{◌≡◌, ℕ, Bool, true, false, List, Option}
use Rattle.pawk_tables.specs.Layout.{Section}
use Rattle.pawk_map.specs.Maps.{GoesUnder}
use Rattle.pawk_map.specs.Sections.{SaySections, name_after}
use Rattle.pawk_map.specs.declared.apart.Apart.{Apart}
use Rattle.pawk_map.specs.declared.draft.Course.{Course}
use Rattle.pawk_map.specs.declared.draft.Course.TheVariants.{On, Over}
use Rattle.pawk_map.specs.declared.draft.Progress.{Progress}
use Rattle.pawk_map.specs.declared.run.Run.{Run}

-- more records are run after a piece whose chunks were all left through
abbrev pub course_after : Bool → Course
course_after true = On
course_after false = Over

-- Lines that were made of a piece of a file of this name were written: where it has a record, those of all sections that they say.
pub record WritesApart (taken now_taken : Option (List ℕ)) (old : Progress) (name : List ℕ) (x : Apart) (run : Run) : Type 0 where
  pub some : (scalars arrays : ℕ) (sections : List Section) → (x.records ≡ 0 → ⊥) → SaySections scalars arrays sections x.lines.items →
      name_after name sections ≡ name → GoesUnder scalars arrays taken now_taken old run.progress name sections x.records
  pub none : x.records ≡ 0 → (run.progress ≡ old) × (now_taken ≡ taken)
  pub course : run.course ≡ course_after x.is_through
  pub records : run.records ≡ x.records
