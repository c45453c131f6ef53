-- Listings of the code.
use Rattle.std.specs.Prelude.{ℕ, List, map, Vec}
use Rattle.std.specs.BTreeMap.{BTreeMap}
use Rattle.std.specs.declared.alloc.Global.{Global}
use Rattle.pawk_value.specs.Value.{Val, Num, lent_value, shown}
use Rattle.pawk_code.specs.declared.leaf.Special.{Special}
use Rattle.pawk_code.specs.declared.leaf.Special.TheVariants as special
use Rattle.pawk_array.specs.Elements.{element_of}
use Rattle.pawk_store.specs.declared.specials.Specials.{Specials}
use Rattle.pawk_store.specs.declared.listing.Content.{Content as Code}
use Rattle.pawk_store.specs.declared.listing.Content.TheVariants as code
use Rattle.pawk_store.specs.declared.listing.Named.{Named as NamedCode}
use Rattle.pawk_store.specs.Listings.{Content, Named, value, elements}

-- what a variable that the run sets had
abbrev pub special_of : Specials → Special → Val
special_of s special.Nr = Num s.nr
special_of s special.Nf = Num s.nf
special_of s special.Fnr = Num s.fnr
special_of s special.Filename = shown s.filename
special_of s special.Rstart = Num s.rstart
special_of s special.Rlength = Num s.rlength

abbrev pub content_of : Code → Content
content_of (code.Value v) = value (lent_value v)
content_of (code.Elements es) = elements (map element_of es.items)

abbrev pub named_of : NamedCode → Named
named_of n = (n.name.items, content_of n.content)

-- the globals that a map has
abbrev pub globals_in : BTreeMap (Vec ℕ Global) Code → List Named
globals_in m = map (λ e. (e.0.items, content_of e.1)) m.entries
