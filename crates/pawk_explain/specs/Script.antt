-- What a script shows.
use Rattle.std.specs.Prelude.{ℕ, ◌||◌, if◌then◌else◌, nat_lt, List, [], ◌∷◌, ◌++◌, length}
use Rattle.pawk_explain.specs.declared.script.Script.{Script}

-- the text that is parsed
abbrev pub text_of : Script → List ℕ
text_of s = s.text.items

-- the places of the text at which carriage returns were left out
abbrev pub omissions_of : Script → List ℕ
omissions_of s = s.omissions.items

-- the text before that of a file that is appended: with a newline where there is a text or a file
abbrev pub text_before : Script → List ℕ
text_before s =
    if nat_lt 0 (length s.text.items) || nat_lt 0 (length s.files.items) then s.text.items ++ 10 ∷ []
    else s.text.items
