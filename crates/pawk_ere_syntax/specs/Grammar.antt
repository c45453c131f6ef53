-- Which tokens an expression derives.
use Rattle.std.specs.Prelude.{ℕ, ◌+◌, ◌-◌, ◌*◌, max, Option, Some, None, List, [], ◌∷◌, ◌++◌}
use Rattle.pawk_ere_syntax.specs.declared.token.EreToken.{EreToken}
use Rattle.pawk_ere_syntax.specs.declared.token.EreToken.TheVariants.{Leaf, Times, Bar, Open, Close, Caret, Dollar}
use Rattle.pawk_ere_syntax.specs.Pattern.{Pattern, Empty, Start, End, Bytes, Group, Repeat, Sequence, Either, IsFit}

-- the words of the grammar
pub data Level : Type 0 where
  Alt : Level
  Branch : Level
  Piece : Level
  Atom : Level

-- alt = branch { "|" branch }, branch = piece { piece },
-- piece = "^" | "$" | atom [ repetition ], atom = byte set | "(" alt ")"
abbrev pub Derives : Level → Pattern → Type 0
Derives l Empty = ⊥
Derives Atom Start = ⊥
Derives l Start = Unit {0}
Derives Atom End = ⊥
Derives l End = Unit {0}
Derives l (Bytes members) = Unit {0}
Derives l (Group a) = Derives Alt a
Derives Atom (Repeat a least most) = ⊥
Derives l (Repeat a least most) = Derives Atom a × IsFit least most
Derives Alt (Sequence a b) = Derives Branch a × Derives Piece b
Derives Branch (Sequence a b) = Derives Branch a × Derives Piece b
Derives l (Sequence a b) = ⊥
Derives Alt (Either a b) = Derives Alt a × Derives Branch b
Derives l (Either a b) = ⊥

-- the tokens of an expression
abbrev pub tokens_of : Pattern → List EreToken
tokens_of Empty = []
tokens_of Start = Caret ∷ []
tokens_of End = Dollar ∷ []
tokens_of (Bytes members) = Leaf (record { members = members }) ∷ []
tokens_of (Group a) = Open ∷ (tokens_of a ++ Close ∷ [])
tokens_of (Repeat a least most) = tokens_of a ++ Times least most ∷ []
tokens_of (Sequence a b) = tokens_of a ++ tokens_of b
tokens_of (Either a b) = tokens_of a ++ Bar ∷ tokens_of b

-- the places of a repetition of an expression with `size` places
abbrev pub repeated_size : ℕ → ℕ → Option ℕ → ℕ
repeated_size size least None = size * max least 1 + 1
repeated_size size least (Some most) = size * max most 1 + (most - least)

abbrev pub size : Pattern → ℕ
size Empty = 0
size Start = 1
size End = 1
size (Bytes members) = 1
size (Group a) = size a + 1
size (Repeat a least most) = repeated_size (size a) least most
size (Sequence a b) = size a + size b
size (Either a b) = size a + size b + 1

-- a token that asks for no more turns than it allows
abbrev pub IsSound : EreToken → Type 0
IsSound (Times least most) = IsFit least most
IsSound t = Unit {0}

abbrev pub AreSound : List EreToken → Type 0
AreSound [] = Unit {0}
AreSound (t ∷ ts) = IsSound t × AreSound ts
