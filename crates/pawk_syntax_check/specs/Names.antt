-- What the names of functions and parameters may be (POSIX.1-2017, awk, "User-Defined Functions": a function's name is no
-- other name of the program and of no special variable, and the same holds for a parameter).
use Rattle.std.specs.Prelude.{ℕ, suc, Bool, true, false, not, ◌==◌, ◌&&◌, List, [], ◌∷◌, Option, Some, None}
use Rattle.std.specs.Option.{is_none}
use Rattle.pawk_lex.specs.Bytes.{Text}
use Rattle.pawk_lex.specs.Vocabulary.{is_among, is_variable}
use Rattle.pawk_syntax_tree.specs.Item.{Part, define}
use Rattle.pawk_syntax_check.specs.Mentions.{Mention, array, scalar, target, argument}

-- the function that is found is the one of this item
abbrev pub is_item : ℕ → Option (ℕ × List Text) → Bool
is_item n None = false
is_item n (Some f) = f.0 == n

-- a parameter is named like none that follows, like no variable of the language and like no function
abbrev pub fits_parameter : (Text → Option (ℕ × List Text)) → List Text → Text → Bool
fits_parameter functions others p = not (is_among others p) && (not (is_variable p) && is_none (functions p))

abbrev pub fit_parameters : (Text → Option (ℕ × List Text)) → List Text → Bool
fit_parameters functions [] = true
fit_parameters functions (p ∷ ps) = fits_parameter functions ps p && fit_parameters functions ps

-- the head of a function in the item of this number: no other has its name, nor a variable of the language
abbrev pub head_fits : (Text → Option (ℕ × List Text)) → ℕ → Part → Bool
head_fits functions n (define f ps a) = is_item n (functions f) && (not (is_variable f) && fit_parameters functions ps)
head_fits functions n _ = true

-- of items of which the first has this number
abbrev pub heads_fit : (Text → Option (ℕ × List Text)) → ℕ → List Part → Bool
heads_fit functions n [] = true
heads_fit functions n (p ∷ ps) = head_fits functions n p && heads_fit functions (suc n) ps

-- a function's name occurs nowhere else but where it is called
abbrev pub is_free : (Text → Option (ℕ × List Text)) → Mention → Bool
is_free functions (array x) = is_none (functions x)
is_free functions (scalar x) = is_none (functions x)
is_free functions (target x) = is_none (functions x)
is_free functions (argument x f place) = is_none (functions x)
is_free functions _ = true
