-- What an admissible program may ask is permitted.
use Rattle.pawk_admit.specs.Admission.{IsAdmissible, AreRoles}
use Rattle.pawk_admit.specs.Reaches.{Occurs}
use Rattle.pawk_store.specs.Allows.{AllowsMain}
use Rattle.pawk_commute.specs.Settings.{Setting, Permits}

-- the main rules, and the functions that they reach, of an admissible program whose names have these roles
abbrev pub AdmissionAllows : Type 0
AdmissionAllows =
    (i : Setting) → IsAdmissible i.code → AreRoles (Occurs i.code) i.roles →
    AllowsMain (Permits i) i.code.functions i.code.rules
