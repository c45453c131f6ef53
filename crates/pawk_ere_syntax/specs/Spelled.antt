-- The expression that was read.
use Rattle.pawk_ere_syntax.specs.declared.ere.Ere.{Ere}
use Rattle.pawk_ere_syntax.specs.Pattern.{Pattern}
use Rattle.pawk_ere_syntax.specs.Tree.{pattern_of}

-- what an `Ere` is
abbrev pub expression : Ere → Pattern
expression e = pattern_of e.root
