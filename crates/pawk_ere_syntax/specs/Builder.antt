-- The builder of the program as one of the definitions.
use Rattle.std.specs.Prelude.{Option, Some, None, map, reverse}
use Rattle.pawk_ere_syntax.specs.declared.expression.Expression.{Expression}
use Rattle.pawk_ere_syntax.specs.declared.builder.Alternation as program_alternation
use Rattle.pawk_ere_syntax.specs.declared.builder.Builder as program_builder
use Rattle.pawk_ere_syntax.specs.Pattern.{Pattern}
use Rattle.pawk_ere_syntax.specs.Tree.{pattern_of}
use Rattle.pawk_ere_syntax.specs.Machine.{Alternation, Builder}

abbrev pub option_of : Option Expression → Option Pattern
option_of None = None
option_of (Some e) = Some (pattern_of e)

abbrev pub alternation_of : program_alternation.Alternation → Alternation
alternation_of r = record { alternatives = option_of r.alternatives; branch = option_of r.branch; piece = option_of r.piece }

abbrev pub builder_of : program_builder.Builder → Builder
builder_of r = record { here = alternation_of r.here; outer = reverse (map alternation_of r.outer.items) }
