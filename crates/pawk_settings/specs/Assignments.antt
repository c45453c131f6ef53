-- Which assignments may be given before a program runs (POSIX.1-2017, awk, "OPTIONS", -v; "Operands", assignment).
use Rattle.std.specs.Prelude.{ℕ, Bool, false, not, ◌==◌, ◌&&◌, ◌||◌, nat_le, if◌then◌else◌, List, [], ◌∷◌, Option, Some, None, is_some}
use Rattle.std.specs.Option.{is_none}
use Rattle.std.specs.List.{list_all}
use Rattle.std.specs.Str.{bytes_eq}
use Rattle.std.specs.Char.{is_ascii_alphabetic}
use Rattle.pawk_lex.specs.Bytes.{Text, is_name_byte}
use Rattle.pawk_lex.specs.Vocabulary.{reserved_word, builtin, is_left_out, getline, is_run_variable}
use Rattle.pawk_syntax_tree.specs.Item.{Part}
use Rattle.pawk_syntax_check.specs.Functions.{function_of, or_else}
use Rattle.pawk_syntax_check.specs.Demands.{Kinds}
use Rattle.pawk_settings.specs.declared.refusal.SettingsRefusal.{SettingsRefusal}
use Rattle.pawk_settings.specs.declared.refusal.SettingsRefusal.TheVariants.{Name, Target, Escape, Budget}
use Rattle.pawk_settings.specs.Escapes.{value_text}
use Rattle.pawk_settings.specs.Limits.{budget_limit}

-- a letter or an underscore
abbrev pub is_first_name_byte : ℕ → Bool
is_first_name_byte b = is_ascii_alphabetic b || b == 95

-- a letter or an underscore, and then letters, digits and underscores (XBD 3.235, Name)
abbrev pub is_name : Text → Bool
is_name [] = false
is_name (b ∷ z) = is_first_name_byte b && list_all is_name_byte z

-- a word that has a meaning of its own and is no variable
abbrev pub is_word : Text → Bool
is_word x = is_some (reserved_word x) || is_some (builtin x) || is_left_out x || bytes_eq x getline

-- the program has a function of this name
abbrev pub is_function : List Part → Text → Bool
is_function ps x = is_some (function_of ps x)

-- a program of these kinds of names may not have this name assigned: the run sets the variable, the word has a meaning of its
-- own, or the name is an array or a function of the program
abbrev pub is_no_target : Kinds → List Part → Text → Bool
is_no_target k ps x = is_run_variable x || is_word x || k (0, x) || is_function ps x

-- why an assignment is refused, a name and what it is given, where a test says what may not be assigned: the first of
-- these that holds
abbrev pub assignment_fault : (Text → Bool) → Text × Text → Option SettingsRefusal
assignment_fault is_refused a =
    if not (is_name a.0) then Some Name
    else (if is_refused a.0 then Some Target
    else (if is_none (value_text a.1) then Some Escape else None))

-- why the first assignment that is refused is
abbrev pub first_fault : (Text → Bool) → List (Text × Text) → Option SettingsRefusal
first_fault is_refused [] = None
first_fault is_refused (a ∷ rest) = or_else (assignment_fault is_refused a) (first_fault is_refused rest)

-- a budget is from 1 to the greatest
abbrev pub budget_fault : ℕ → Option SettingsRefusal
budget_fault n = if nat_le 1 n && nat_le n budget_limit then None else Some Budget

-- why settings are refused: an assignment, or else the budget
abbrev pub settings_fault : (Text → Bool) → List (Text × Text) → ℕ → Option SettingsRefusal
settings_fault is_refused assigned n = or_else (first_fault is_refused assigned) (budget_fault n)
