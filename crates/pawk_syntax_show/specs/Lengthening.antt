-- Texts that are written before anything that follows.
use Rattle.std.specs.Prelude.{◌≡◌, ◌++◌}
use Rattle.pawk_lex.specs.Bytes.{Text}

-- the text is what `writing` sets before what follows
abbrev pub IsTextOf : (Text → Text) → Text → Type 0
IsTextOf writing text = (rest : Text) → text ++ rest ≡ writing rest

-- the new text is the old one and then what `writing` sets before what follows
abbrev pub Lengthens : Text → Text → (Text → Text) → Type 0
Lengthens old new writing = (rest : Text) → new ++ rest ≡ old ++ writing rest
