-- The functions of a program.
use Rattle.std.specs.Prelude.{ℕ, suc, if◌then◌else◌, List, [], ◌∷◌, Option, Some, None}
use Rattle.std.specs.Str.{bytes_eq}
use Rattle.pawk_lex.specs.Bytes.{Text}
use Rattle.pawk_syntax_tree.specs.Item.{Part, define}

abbrev pub or_else : {A : Type 0} → Option A → Option A → Option A
or_else (Some x) y = Some x
or_else None y = y

-- what an item of this number defines under a name: a function, by this number and its parameters
abbrev pub function_at : ℕ → Part → Text → Option (ℕ × List Text)
function_at n (define f ps a) x = if bytes_eq f x then Some (n, ps) else None
function_at n _ x = None

-- the first function of this name; the items are counted from this number
abbrev pub function_from : ℕ → List Part → Text → Option (ℕ × List Text)
function_from n [] x = None
function_from n (p ∷ ps) x = or_else (function_at n p x) (function_from (suc n) ps x)

-- the first function of this name; items are counted from 1
abbrev pub function_of : List Part → Text → Option (ℕ × List Text)
function_of = function_from 1
