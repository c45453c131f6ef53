-- Tables of variables in the code.
use Rattle.std.specs.Prelude.{◌≡◌, ◌<◌, ℕ, List, [], map, length, Option, Some}
use Rattle.std.proofs.Common.{get_or}
use Rattle.std.specs.Ordering.{nat_cmp, ordering_then}
use Rattle.std.specs.Cmp.Lexicographic.{slice_cmp}
use Rattle.std.specs.BTreeMap.{get_by}
use Rattle.pawk_lex.specs.Bytes.{Text}
use Rattle.pawk_syntax_check.specs.declared.variables.ScopedName.{ScopedName}
use Rattle.pawk_syntax_check.specs.declared.variables.NumberedName.{NumberedName as Code}
use Rattle.pawk_syntax_check.specs.declared.variables.Variables.{Variables}

-- a name in the scope of the function that is this item, or, with 0, outside of functions
abbrev pub Name : Type 0
Name = ℕ × Text

abbrev pub key_view : ScopedName → Name
key_view k = (k.scope, k.name.now)

-- the names, by their numbers
abbrev pub names : Variables → List Name
names t = map key_view t.keys.items

abbrev pub nth : List Name → ℕ → Name
nth xs i = get_or xs i (0, [])

-- the number that is found for a name
abbrev pub number_of : Variables → Name → Option ℕ
number_of t v = get_by (λ k. ordering_then (nat_cmp v.0 k.scope) (slice_cmp nat_cmp v.1 k.name.now)) t.map

-- each name has one number, and each number one name
pub record IsTable (t : Variables) : Type 0 where
  pub has_name : (v : Name) (i : ℕ) → number_of t v ≡ Some i → (i < length (names t)) × (nth (names t) i ≡ v)
  pub has_number : (i : ℕ) → i < length (names t) → number_of t (nth (names t) i) ≡ Some i

-- the variable has its name's number
abbrev pub Names : Variables → Code → Type 0
Names t x = (x.number < length (names t)) × (nth (names t) x.number ≡ key_view x.key)

-- what has a number keeps it
abbrev pub Extends : Variables → Variables → Type 0
Extends old new = (x : Code) → Names old x → Names new x
