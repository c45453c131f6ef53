-- What reading answers.
use Rattle.std.specs.Prelude.{◌≡◌, List, Result, Ok, Err}
use Rattle.pawk_lex.specs.declared.refusal.SyntaxRefusal.{SyntaxRefusal}
use Rattle.pawk_lex.specs.declared.refusal.SyntaxRefusal.TheVariants.{Memory}
use Rattle.pawk_syntax_tree.specs.Item.{Part}
use Rattle.pawk_syntax.specs.declared.program.Program.{Program}
use Rattle.pawk_syntax.specs.Programs.{parts}

-- the program is read, unless memory was refused
abbrev pub ReadsAs : List Part → Result Program SyntaxRefusal → Type 0
ReadsAs xs (Ok p) = parts p ≡ xs
ReadsAs xs (Err e) = e ≡ Memory
