-- How a reason is found: an occurrence alone shows it, or what is done with one name.
use Rattle.std.specs.Prelude.{ℕ, nat_eq, Bool, false, not, ◌&&◌, ◌||◌, if◌then◌else◌, Option, Some, None}
use Rattle.pawk_code.specs.FirstSlots.{fs_slot, ofs_slot, ors_slot, subsep_slot}
use Rattle.pawk_admit.specs.declared.occurrence.Touch.TheVariants.{Look, Set, Assign, Add, AddAndLook, Test, Walk, Split, Pass, Delete}
use Rattle.pawk_admit.specs.declared.occurrence.Occurrence.{Occurrence}
use Rattle.pawk_admit.specs.declared.occurrence.Occurrence.TheVariants as occurrence
use Rattle.pawk_admit.specs.declared.reason.Reason.{Reason}
use Rattle.pawk_admit.specs.declared.reason.Reason.TheVariants as reason
use Rattle.pawk_admit.specs.declared.role.Role.{Role}
use Rattle.pawk_admit.specs.declared.role.Role.TheVariants.{Fixed, Adder, Setter, Reader}
use Rattle.pawk_admit.specs.declared.marks.Marks.{Marks}

abbrev pub reason_of : Occurrence → Option Reason
reason_of (occurrence.Touch Assign name) = Some reason.Assignment
reason_of (occurrence.Touch Delete name) = Some reason.Assignment
reason_of (occurrence.Touch AddAndLook name) = Some reason.Value
reason_of (occurrence.Touch Split name) = Some reason.Split
reason_of (occurrence.Touch Pass name) = Some reason.Passing
reason_of (occurrence.Touch Look name) = None
reason_of (occurrence.Touch Set name) = None
reason_of (occurrence.Touch Add name) = None
reason_of (occurrence.Touch Test name) = None
reason_of (occurrence.Touch Walk name) = None
reason_of (occurrence.Call f) = None
reason_of occurrence.Match = Some reason.Match
reason_of occurrence.Range = Some reason.Range
reason_of occurrence.NextFile = Some reason.NextFile

abbrev pub separates : ℕ → Bool
separates n = nat_eq n fs_slot || nat_eq n ofs_slot || nat_eq n ors_slot || nat_eq n subsep_slot

-- the marks of a name that separates, or of another one, show the reason
abbrev pub clashes : Reason → Marks → Bool → Bool
clashes reason.Assignment m separating = m.sets && (m.adds || m.looks || m.others || separating)
clashes reason.Addition m separating = m.adds && (m.sets || m.looks || m.others || separating)
clashes reason.Range m separating = false
clashes reason.Match m separating = false
clashes reason.Split m separating = false
clashes reason.Passing m separating = false
clashes reason.Value m separating = false
clashes reason.Memory m separating = false
clashes reason.NextFile m separating = false

-- the role of a name with these marks, where no reason holds
abbrev pub scalar_role : Marks → Role
scalar_role m = if m.sets then Setter else (if m.adds then Adder else Fixed)

abbrev pub array_role : Marks → Role
array_role m = if m.sets then Setter else (if m.adds then Adder else (if m.looks && not m.others then Reader else Fixed))
