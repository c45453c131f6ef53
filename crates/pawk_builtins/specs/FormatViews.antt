-- The texts of formats.
use Rattle.std.specs.Prelude.{ℕ, List}
use Rattle.pawk_code.specs.Expressions.{Format, fixed_format}
use Rattle.pawk_code.specs.Expressions as code

-- the text of a format, where one that is a value has the text t
abbrev pub format_text : Format → List ℕ → List ℕ
format_text (fixed_format s) t = s
format_text (code.format_of e) t = t
