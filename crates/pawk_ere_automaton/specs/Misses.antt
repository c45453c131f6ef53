-- What walks over a text have found to lead to nothing.
use Rattle.std.specs.Prelude.{◌≡◌, ℕ, ◌*◌, ◌≤◌, Bool, true, false, List, get_or}
use Rattle.std.specs.List.{All}
use Rattle.pawk_ere_automaton.specs.Regex.{Regex}
use Rattle.pawk_ere_automaton.specs.Marks.{Rest}
use Rattle.pawk_ere_automaton.specs.declared.misses.Misses.{Misses}
use Rattle.pawk_ere_automaton.specs.declared.misses.Row.{Row}

-- no match that has come to these marks at the place ends there or later
abbrev pub NoRest : Regex → List Bool → List ℕ → ℕ → Type 0
NoRest e marks text place = (j : ℕ) → place ≤ j → Rest e marks text place j → ⊥

-- so it is with the marks of the row at each 64th place that the row notes
abbrev pub IsRowOf : Regex → List ℕ → Row → Type 0
IsRowOf e text row = (k : ℕ) → get_or row.silent.items k false ≡ true → NoRest e row.marks.items text (64 * k)

-- what is held is true of the expression in this text
abbrev pub AreMissesOf : Regex → List ℕ → Misses → Type 0
AreMissesOf e text misses = All (IsRowOf e text) misses.rows.items
