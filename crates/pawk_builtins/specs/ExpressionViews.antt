-- The expressions that patterns of a running program are.
use Rattle.std.specs.Prelude.{ℕ, List, map, Result}
use Rattle.std.specs.declared.vec.Vec.{Vec}
use Rattle.std.specs.declared.alloc.Global.{Global}
use Rattle.pawk_value.specs.declared.faults.Fault.{Fault}
use Rattle.pawk_ere_syntax.specs.Pattern.{Pattern}
use Rattle.pawk_code.specs.ExpressionViews.{pattern_view}
use Rattle.pawk_store.specs.Meaning.{pattern_of}
use Rattle.pawk_builtins.specs.declared.expression.EreReference.{EreReference}

-- what is between slashes
abbrev pub texts_of : List (Vec ℕ Global) → List (List ℕ)
texts_of = map (λ x. x.items)

abbrev pub expression_of : EreReference → Result Pattern Fault
expression_of e = pattern_of (texts_of e.eres.now) (pattern_view e.pattern.now) e.text.now
