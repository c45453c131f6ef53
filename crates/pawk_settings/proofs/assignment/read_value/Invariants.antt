use Rattle.std.proofs.Common.{◌≡◌, ◌++◌, length}
use Rattle.std.specs.Option.{option_map}
use Rattle.pawk_settings.specs.Escapes.{value_text}
use Rattle.pawk_settings.proofs.assignment.read_value.Given as goal

abbrev pub invariant-loop-byte : goal.invariant-loop-byte
invariant-loop-byte l = value_text l.fn.text ≡ option_map (λ z. l.value.items ++ z) (value_text l.text)

abbrev pub decreases-loop-byte : goal.decreases-loop-byte
decreases-loop-byte l = length l.text
