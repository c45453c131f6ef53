-- What is between tokens: blanks, joined lines and comments (POSIX.1-2017, awk, "Lexical Conventions":
-- <blank>, <backslash> before <newline>, comment).
use Rattle.std.specs.Prelude.{ℕ, zero, suc, ◌-◌, ◌&&◌, if◌then◌else◌, ◌==◌, [], ◌∷◌, slice_index}
use Rattle.std.specs.List.{prefix_len}
use Rattle.pawk_lex.specs.Bytes.{Text, is_blank, is_in_line}

-- how many bytes at the front of the text separate tokens: a blank, a backslash with its newline,
-- or a comment up to its newline
unfoldable pub gap_length : Text → ℕ
gap_length [] = 0
gap_length (b ∷ z) = if is_blank b then 1 else (if b == 92 && slice_index z 0 == 10 then 2
    else (if b == 35 then prefix_len is_in_line (b ∷ z) else 0))

-- the text after passing over as many bytes as `lead` says, again and again, until it says none;
-- `left` counts the bytes still to pass
abbrev pub pass : (Text → ℕ) → ℕ → Text → Text
pass lead left [] = []
pass lead (suc left) (b ∷ z) = pass lead left z
pass lead zero (b ∷ z) = if lead (b ∷ z) == 0 then b ∷ z else pass lead (lead (b ∷ z) - 1) z

-- the text from its first token on
unfoldable pub skip : Text → Text
skip = pass gap_length 0
