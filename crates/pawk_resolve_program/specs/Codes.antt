-- The code of a program: the one that its kinds give it, of which there is one choice.
use Rattle.std.specs.Prelude.{◌≡◌, List}
use Rattle.pawk_syntax_tree.specs.Item.{Part}
use Rattle.pawk_syntax_check.specs.Demands.{Kinds, AreKindsOf}
use Rattle.pawk_syntax_grammar.specs.Expressions.{eres_of_program}
use Rattle.pawk_code.specs.Programs.{Code}
use Rattle.pawk_resolve.specs.ResolvedPrograms.{resolved_program}

-- the code of these items, by any kinds that are theirs
abbrev pub IsCodeOf : List Part → Code → Type 0
IsCodeOf ps c = (k : Kinds) → AreKindsOf ps k → c ≡ resolved_program k (eres_of_program ps) ps
