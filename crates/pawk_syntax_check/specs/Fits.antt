-- What a program has to meet beside the grammar.
use Rattle.std.specs.Prelude.{◌≡◌, ℕ, suc, Bool, true, false, not, ◌&&◌, List, [], ◌∷◌, Option}
use Rattle.std.specs.List.{list_all}
use Rattle.pawk_lex.specs.Bytes.{Text}
use Rattle.pawk_syntax_tree.specs.Item.{Part}
use Rattle.pawk_lex.specs.Vocabulary.{is_run_variable, is_variable}
use Rattle.pawk_syntax_check.specs.Mentions.{Mention, array, scalar, target, builtin, leave, of_part}
use Rattle.pawk_syntax_check.specs.Functions.{function_of}
use Rattle.pawk_syntax_check.specs.Demands.{KindsFit}
use Rattle.pawk_syntax_check.specs.Targets.{is_assignable}
use Rattle.pawk_syntax_check.specs.Calls.{is_call, fits_builtin}
use Rattle.pawk_syntax_check.specs.Words.{is_function, is_placed, may_leave}
use Rattle.pawk_syntax_check.specs.Names.{head_fits, heads_fit, is_free}

-- every mention of every item passes the test, which may look at the item
abbrev pub every_mention : (Part → Mention → Bool) → List Part → Bool
every_mention test ps = list_all (λ p. list_all (test p) (of_part p)) ps

-- no variable that the run sets is assigned
abbrev pub TargetsFit : List Part → Type 0
TargetsFit ps = every_mention (λ p m. is_assignable m) ps ≡ true

-- every call fits what it calls
abbrev pub CallsFit : List Part → Type 0
CallsFit ps = every_mention (λ p m. is_call (function_of ps) m) ps ≡ true

-- every word that leaves is where it may be
abbrev pub WordsFit : List Part → Type 0
WordsFit ps = every_mention is_placed ps ≡ true

-- functions and parameters have names of their own
abbrev pub HeadsFit : List Part → Type 0
HeadsFit ps = heads_fit (function_of ps) 1 ps ≡ true

abbrev pub NamesFit : List Part → Type 0
NamesFit ps = every_mention (λ p m. is_free (function_of ps) m) ps ≡ true

pub record Fits (ps : List Part) : Type 0 where
  pub targets : TargetsFit ps
  pub calls : CallsFit ps
  pub words : WordsFit ps
  pub heads : HeadsFit ps
  pub names : NamesFit ps
  pub kinds : KindsFit ps

-- one mention of an item, beside these functions
abbrev pub fits : (Text → Option (ℕ × List Text)) → Part → Mention → Bool
fits functions p m = is_assignable m && (is_call functions m && (is_placed p m && is_free functions m))

-- the item of this number
abbrev pub item_fits : (Text → Option (ℕ × List Text)) → ℕ → Part → Bool
item_fits functions n p = head_fits functions n p && list_all (fits functions p) (of_part p)

-- all items, of which the first has this number
abbrev pub items_fit : (Text → Option (ℕ × List Text)) → ℕ → List Part → Bool
items_fit functions n [] = true
items_fit functions n (p ∷ ps) = item_fits functions n p && items_fit functions (suc n) ps

-- ---- programs without functions

-- with these arrays: every other name is a scalar, none that the run sets is assigned, a built-in function has arguments that
-- fit it, a word that leaves is where it may be, and no function of the program is called
abbrev pub is_plain : (Text → Bool) → Part → Mention → Bool
is_plain arrays p (array x) = arrays x
is_plain arrays p (scalar x) = not (arrays x)
is_plain arrays p (target x) = not (arrays x) && not (is_run_variable x)
is_plain arrays p (builtin f as') = fits_builtin f as'
is_plain arrays p (leave word in_loop) = may_leave p word in_loop
is_plain arrays p _ = false

-- a program without functions of which these names are arrays
pub record IsPlain (ps : List Part) (arrays : Text → Bool) : Type 0 where
  pub no_functions : list_all (λ p. not (is_function p)) ps ≡ true
  pub variables : (x : Text) → is_variable x ≡ true → arrays x ≡ false
  pub mentions : every_mention (is_plain arrays) ps ≡ true

-- nothing else is asked of it
abbrev pub PlainProgramsFit : Type 0
PlainProgramsFit = (ps : List Part) (arrays : Text → Bool) → IsPlain ps arrays → Fits ps
