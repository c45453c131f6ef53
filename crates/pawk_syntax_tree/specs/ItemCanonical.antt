-- The canonical tokens of items, and the items that have them.
use Rattle.std.specs.Prelude.{List, [], ◌∷◌}
use Rattle.pawk_lex.specs.declared.token.Mark.TheVariants as m
use Rattle.pawk_lex.specs.Bytes.{Text}
use Rattle.pawk_lex.specs.Tokens.{Tok}
use Rattle.pawk_lex.specs.Tokens as t
use Rattle.pawk_syntax_tree.specs.Canonical.{opening, closing, canon}
use Rattle.pawk_syntax_tree.specs.StatementCanonical.{in_braces, canon_lines, Counts, AreSoundStmts}
use Rattle.pawk_syntax_tree.specs.Item.{Part, begin, end, always, matching, between, define}

-- names with commas between, after the first
abbrev pub canon_names : List Text → List Tok → List Tok
canon_names [] rest = rest
canon_names (x ∷ xs) rest = t.mark m.Comma ∷ t.name x ∷ canon_names xs rest

abbrev pub canon_parameters : List Text → List Tok → List Tok
canon_parameters [] rest = rest
canon_parameters (x ∷ xs) rest = t.name x ∷ canon_names xs rest

abbrev pub canon_part : Part → List Tok → List Tok
canon_part (begin a) rest = t.mark m.Begin ∷ in_braces (canon_lines a) rest
canon_part (end a) rest = t.mark m.End ∷ in_braces (canon_lines a) rest
canon_part (always a) rest = in_braces (canon_lines a) rest
canon_part (matching p a) rest = canon p (in_braces (canon_lines a) rest)
canon_part (between p q a) rest = canon p (t.mark m.Comma ∷ canon q (in_braces (canon_lines a) rest))
canon_part (define f ps a) rest =
    t.mark m.Function ∷ t.function_name f ∷ opening (canon_parameters ps (closing (in_braces (canon_lines a) rest)))

-- each item with a newline
abbrev pub canon_program : List Part → List Tok
canon_program [] = []
canon_program (x ∷ xs) = canon_part x (t.mark m.Newline ∷ canon_program xs)

abbrev pub IsSoundPart : Part → Type 0
IsSoundPart (begin a) = AreSoundStmts a
IsSoundPart (end a) = AreSoundStmts a
IsSoundPart (always a) = AreSoundStmts a
IsSoundPart (matching p a) = Counts p × AreSoundStmts a
IsSoundPart (between p q a) = Counts p × Counts q × AreSoundStmts a
IsSoundPart (define f ps a) = AreSoundStmts a

abbrev pub AreSoundParts : List Part → Type 0
AreSoundParts [] = Unit {0}
AreSoundParts (x ∷ xs) = IsSoundPart x × AreSoundParts xs
