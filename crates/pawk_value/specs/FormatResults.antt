-- What a call of `format` gives.
use Rattle.std.specs.Prelude.{◌≡◌, ℕ, true, List, [], Result, Ok, Err}
use Rattle.std.specs.declared.vec.Vec.{Vec}
use Rattle.std.specs.declared.alloc.Global.{Global}
use Rattle.pawk_value.specs.declared.faults.Stop.{Stop}
use Rattle.pawk_value.specs.declared.faults.Stop.TheVariants as stop
use Rattle.pawk_value.specs.Value.{Val}
use Rattle.pawk_value.specs.Format.{Piece, text_of_pieces, writes}

-- the bytes or the fault that are wanted; a refused allocation is reported only where a byte is written before the
-- first fault
abbrev pub Formats : List Piece → List Val → Result (Vec ℕ Global) Stop → Type 0
Formats ps vs (Ok text) = text_of_pieces ps vs [] ≡ Ok text.items
Formats ps vs (Err (stop.Fault f)) = text_of_pieces ps vs [] ≡ Err f
Formats ps vs (Err stop.Memory) = writes ps vs ≡ true
