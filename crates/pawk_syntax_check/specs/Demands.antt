-- What a program asks of the kinds of its names (POSIX.1-2017, awk, "Variables and Special Variables" and "User-Defined
-- Functions": a name is either a scalar or an array in its scope, and a parameter is what is passed to it).
use Rattle.std.specs.Prelude.{◌≡◌, ℕ, suc, Bool, true, false, not, if◌then◌else◌, List, [], ◌∷◌, ◌++◌, Option, Some, None, slice_get}
use Rattle.std.specs.Option.{option_map}
use Rattle.std.specs.List.{list_all, flat_map}
use Rattle.pawk_lex.specs.Bytes.{Text}
use Rattle.pawk_lex.specs.Vocabulary.{is_among, is_variable}
use Rattle.pawk_syntax_tree.specs.Item.{Part, define}
use Rattle.pawk_syntax_check.specs.Mentions.{Mention, array, scalar, target, argument, value, of_part}
use Rattle.pawk_syntax_check.specs.Functions.{function_of}
use Rattle.pawk_syntax_check.specs.Tables.{Name}

pub data Demand : Type 0 where
  array_at : Name → Demand
  scalar_at : Name → Demand
  alike : Name → Name → Demand

-- which names are arrays
abbrev pub Kinds : Type 0
Kinds = Name → Bool

abbrev pub meets : Kinds → Demand → Bool
meets k (array_at v) = k v
meets k (scalar_at v) = not (k v)
meets k (alike v w) = if k v then k w else not (k w)

-- the scope of a name in the item of this number: a function's own where it is a parameter
abbrev pub scope_of : ℕ → Part → Text → ℕ
scope_of n (define f ps a) x = if is_among ps x then n else 0
scope_of n _ x = 0

abbrev pub name_in : ℕ → Part → Text → Name
name_in n p x = (scope_of n p x, x)

-- the parameter at this place, counted from 0, of a function that may be there
abbrev pub parameter : Option (ℕ × List Text) → ℕ → Option Name
parameter None place = None
parameter (Some f) place = option_map (λ x. (f.0, x)) (slice_get f.1 place)

abbrev pub of_parameter : (Name → Demand) → Option Name → List Demand
of_parameter demand None = []
of_parameter demand (Some v) = demand v ∷ []

-- what a mention in the item of this number asks: a name passed to a parameter is of the parameter's kind, and whatever else
-- is passed is a scalar
abbrev pub demands_of : (Text → Option (ℕ × List Text)) → ℕ → Part → Mention → List Demand
demands_of functions n p (array x) = array_at (name_in n p x) ∷ []
demands_of functions n p (scalar x) = scalar_at (name_in n p x) ∷ []
demands_of functions n p (target x) = scalar_at (name_in n p x) ∷ []
demands_of functions n p (argument x f place) = of_parameter (alike (name_in n p x)) (parameter (functions f) place)
demands_of functions n p (value f place) = of_parameter scalar_at (parameter (functions f) place)
demands_of functions n p _ = []

-- what items ask of which the first has this number
abbrev pub demands_from : (Text → Option (ℕ × List Text)) → ℕ → List Part → List Demand
demands_from functions n [] = []
demands_from functions n (p ∷ ps) = flat_map (demands_of functions n p) (of_part p) ++ demands_from functions (suc n) ps

abbrev pub demands : List Part → List Demand
demands ps = demands_from (function_of ps) 1 ps

-- the kinds meet what the program asks, and the variables of the language are scalars
pub record AreKinds (ps : List Part) (k : Kinds) : Type 0 where
  pub meets_all : list_all (meets k) (demands ps) ≡ true
  pub variables : (x : Text) → is_variable x ≡ true → k (0, x) ≡ false

-- every name has one kind
abbrev pub KindsFit : List Part → Type 0
KindsFit ps = (k : Kinds) × AreKinds ps k

-- the kinds of a program: what is an array by them is one by all kinds that the program may have
pub record AreKindsOf (ps : List Part) (k : Kinds) : Type 0 where
  pub kinds : AreKinds ps k
  pub least : (other : Kinds) → AreKinds ps other → (v : Name) → k v ≡ true → other v ≡ true

-- a program has one choice of kinds at most
abbrev pub KindsAreUnique : Type 0
KindsAreUnique = (ps : List Part) (k other : Kinds) → AreKindsOf ps k → AreKindsOf ps other → (v : Name) → k v ≡ other v

-- where some kinds meet what a program asks, it has a choice of kinds
abbrev pub KindsExist : Type 0
KindsExist = (ps : List Part) → KindsFit ps → (k : Kinds) × AreKindsOf ps k
