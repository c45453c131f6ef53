-- The names of the faults.
use Rattle.std.specs.Prelude.{ℕ, List, codes}
use Rattle.pawk_value.specs.declared.faults.Fault.{Fault}
use Rattle.pawk_value.specs.declared.faults.Fault.TheVariants.{Overflow, Zero, Inexact, Exponent, Numeral, Rs, Fs, Field, Status, Steps, Depth, Length, Negative, Format, Ere}

abbrev pub fault_name : Fault → List ℕ
fault_name Overflow = codes "overflow"
fault_name Zero = codes "zero"
fault_name Inexact = codes "inexact"
fault_name Exponent = codes "exponent"
fault_name Numeral = codes "numeral"
fault_name Rs = codes "rs"
fault_name Fs = codes "fs"
fault_name Field = codes "field"
fault_name Status = codes "status"
fault_name Steps = codes "steps"
fault_name Depth = codes "depth"
fault_name Length = codes "length"
fault_name Negative = codes "negative"
fault_name Format = codes "format"
fault_name Ere = codes "ere"
