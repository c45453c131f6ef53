-- Elements of the code.
use Rattle.std.specs.Prelude.{ℕ, List}
use Rattle.pawk_value.specs.Value.{Val, lent_value}
use Rattle.pawk_array.specs.declared.array.Element.{Element}

abbrev pub element_of : Element → List ℕ × Val
element_of e = (e.key.now, lent_value e.value)
