-- Names by numbers: the slot of a name is the place where it first occurs.
use Rattle.std.specs.Prelude.{ℕ, suc, if◌then◌else◌, List, [], ◌∷◌, ◌++◌, Option, Some, None, is_some, unwrap_or}
use Rattle.std.specs.Option.{option_map}
use Rattle.std.specs.Str.{bytes_eq}
use Rattle.pawk_lex.specs.Bytes.{Text}

-- the first place of a text among texts, counted from 0, if it is there
abbrev pub place : List Text → Text → Option ℕ
place [] x = None
place (y ∷ ys) x = if bytes_eq y x then Some 0 else option_map suc (place ys x)

-- the same of a text that is there
abbrev pub slot : List Text → Text → ℕ
slot ys x = unwrap_or (place ys x) 0

-- texts of which each occurs once, and one more
abbrev pub with_text : List Text → Text → List Text
with_text ys x = if is_some (place ys x) then ys else ys ++ x ∷ []

abbrev pub with_texts : List Text → List Text → List Text
with_texts ys [] = ys
with_texts ys (x ∷ xs) = with_texts (with_text ys x) xs

-- the texts without repetition, in the order of their first places
abbrev pub distinct : List Text → List Text
distinct = with_texts []
