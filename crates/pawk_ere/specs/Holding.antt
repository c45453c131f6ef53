-- What a matcher keeps true.
use Rattle.std.specs.Prelude.{ℕ, Option, IfSome}
use Rattle.pawk_ere.specs.Words.{IsPrefilter}
use Rattle.pawk_ere_automaton.specs.Hints.{BeginsWith}
use Rattle.pawk_ere_automaton.specs.Regex.{Regex}
use Rattle.pawk_ere_automaton.specs.Table.{IsTable}
use Rattle.pawk_ere_automaton.specs.declared.table.StateTable.{StateTable}
use Rattle.pawk_ere.specs.declared.words.Prefilter.{Prefilter}

-- the table is one of the expression, and so are the byte that matches begin with and what is looked for before a walk
pub record IsMatcher (e : Regex) (table : StateTable) (first : Option ℕ) (prefilter : Prefilter) : Type 0 where
  pub states : IsTable e table
  pub begins : IfSome first (λ byte. BeginsWith e byte)
  pub tells : IsPrefilter e prefilter
