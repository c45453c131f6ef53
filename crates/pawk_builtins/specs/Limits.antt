-- The limits of the matchers that a run keeps, and of the texts that they search.
use Rattle.std.specs.Prelude.{ℕ, ◌-◌}
use Rattle.pawk_value.specs.Limits.{number_limit}

-- how many matchers of expressions that were values are kept, beside the one that was used last
abbrev pub cache_size : ℕ
cache_size = 1024

-- the longest text that is searched: each place in it, counted from 1, and the place after its end are numbers of the language
abbrev pub longest_text : ℕ
longest_text = number_limit - 2
