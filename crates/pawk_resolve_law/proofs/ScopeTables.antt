-- The tables of a checked program: what they hold, and that they hold each name once.
use Rattle.std.proofs.Common.{◌≡◌, ◌≤◌, ℕ, suc, true, false, not, ◌&&◌, ◌==◌, List, [], ◌∷◌, Option, Some, None, refl, sym, ap, subst, ◌∙◌, inl, inr, arith, rules, le_refl}
use Rattle.std.specs.Prelude.{is_none, filter}
use Rattle.std.specs.List.{flat_map}
use Rattle.pawk_lex.specs.Bytes.{Text}
use Rattle.pawk_lex.specs.Vocabulary.{is_among, is_variable, is_assignable_variable, is_run_variable}
use Rattle.pawk_syntax_tree.specs.Item.{Part, define}
use Rattle.pawk_syntax_check.specs.Functions.{function_of}
use Rattle.pawk_syntax_check.specs.Demands.{Kinds, AreKinds}
use Rattle.pawk_syntax_check.specs.Names.{is_item, fits_parameter, fit_parameters, head_fits, heads_fit}
use Rattle.pawk_syntax_grammar.specs.Expressions.{eres_of_program}
use Rattle.pawk_code.specs.declared.leaf.Special.{Special}
use Rattle.pawk_code.specs.declared.leaf.Special.TheVariants as special
use Rattle.pawk_code.specs.FirstSlots.{first_scalars}
use Rattle.pawk_resolve.specs.Slots.{place, with_texts}
use Rattle.pawk_resolve.specs.Scopes.{Globals, owner}
use Rattle.pawk_resolve.specs.ResolvedPrograms.{global_names, is_global_array, is_global_scalar, function_name, global_scope, function_scope}
use Rattle.pawk_resolve_law.specs.Names.{AreDifferent, special_name, AreTables}
use Rattle.pawk_resolve_law.specs.Programs.{names_of}
use Rattle.pawk_resolve_law.proofs.Entries.{In, in_filter, filter_in, in_new, in_some, absent, not_in, in_place, with_different, among_is}
use Rattle.pawk_resolve_law.proofs.KnownNames.{both_of, not_true, AreEntered, found_function, item_scope}

-- ---- the variables that the run sets

special_runs : (r : Special) → is_run_variable (special_name r) ≡ true
unfolding is_run_variable
special_runs special.Nr = refl
special_runs special.Nf = refl
special_runs special.Fnr = refl
special_runs special.Filename = refl
special_runs special.Rstart = refl
special_runs special.Rlength = refl

special_given : (r : Special) → is_variable (special_name r) ≡ true
unfolding is_assignable_variable is_run_variable
special_given special.Nr = refl
special_given special.Nf = refl
special_given special.Fnr = refl
special_given special.Filename = refl
special_given special.Rstart = refl
special_given special.Rlength = refl

no_first : (r : Special) → place first_scalars (special_name r) ≡ None
no_first special.Nr = refl
no_first special.Nf = refl
no_first special.Fnr = refl
no_first special.Filename = refl
no_first special.Rstart = refl
no_first special.Rlength = refl

first_different : AreDifferent first_scalars
first_different = (refl, (refl, (refl, (refl, (refl, (refl, (refl, tt)))))))

-- ---- what tables hold

pub entered : (k : Kinds) (ps : List Part) → AreEntered (names_of k ps) (function_of ps) (flat_map global_names ps)
entered k ps = record {
  scalars = λ x i scalar free.
      let test : is_global_scalar k x ≡ true = rw (scalar, free) refl in
      in_new first_scalars (filter (is_global_scalar k) (flat_map global_names ps)) x (in_filter (is_global_scalar k) (flat_map global_names ps) x i test);
  arrays = λ x i array. in_new [] (filter (is_global_array k) (flat_map global_names ps)) x (in_filter (is_global_array k) (flat_map global_names ps) x i array);
  called = λ f h. found_function 1 ps f h;
}

pub expressions_entered : (k : Kinds) (ps : List Part) (x : Text) → In (eres_of_program ps) x → In (names_of k ps).expressions x
expressions_entered k ps x i = in_new [] (eres_of_program ps) x i

no_scalar : (k : Kinds) (ps : List Part) (r : Special) → place (names_of k ps).scalars (special_name r) ≡ None
no_scalar k ps r =
    let names = filter (is_global_scalar k) (flat_map global_names ps) in
    absent (with_texts first_scalars names) (special_name r) (λ i. elim (in_some first_scalars names (special_name r) i) [
      | inl f ↦ not_in first_scalars (special_name r) (no_first r) f
      | inr f ↦
          let test = (filter_in (is_global_scalar k) (flat_map global_names ps) (special_name r) f).1 in
          let free : is_run_variable (special_name r) ≡ false =
          not_true (is_run_variable (special_name r)) (both_of (not (k (0, special_name r))) (not (is_run_variable (special_name r))) test).1 in
          let no : false ≡ true = sym free ∙ special_runs r in
          cc
    ])

-- ---- functions

number_is : (n m : ℕ) → (n == m) ≡ true → n ≡ m
number_is n m h = search rules

item_is : (o : Option (ℕ × List Text)) (n m : ℕ) → is_item n o ≡ true → is_item m o ≡ true → n ≡ m
item_is None n m h k = let no : false ≡ true = h in cc
item_is (Some f) n m h k = sym (number_is f.0 n h) ∙ number_is f.0 m k

abbrev Functions : Type 0
Functions = Text → Option (ℕ × List Text)

fits_first : (functions : Functions) (n : ℕ) (p : Part) (ps : List Part) → heads_fit functions n (p ∷ ps) ≡ true →
    (head_fits functions n p ≡ true) × (heads_fit functions (suc n) ps ≡ true)
fits_first functions n p ps h = both_of (head_fits functions n p) (heads_fit functions (suc n) ps) h

head_is : (functions : Functions) (n : ℕ) (f : Text) (as' : List Text) →
    (is_item n (functions f) && (not (is_variable f) && fit_parameters functions as')) ≡ true → is_item n (functions f) ≡ true
head_is functions n f as' h = (both_of (is_item n (functions f)) (not (is_variable f) && fit_parameters functions as') h).0

-- a function that is defined from here on is found in an item from here on
later : (functions : Functions) (n : ℕ) (ps : List Part) → heads_fit functions n ps ≡ true → (x : Text) → In (flat_map function_name ps) x →
    (m : ℕ) × (n ≤ m) × (is_item m (functions x) ≡ true)
later functions n [] h x i = absurd i
later functions n (define f as' a ∷ ps) h x i =
    let fit = fits_first functions n (define f as' a) ps h in
    elim i [
      | inl e ↦ (n, le_refl n, let P : Text → Type 0 = λ y. is_item n (functions y) ≡ true in subst P e (head_is functions n f as' fit.0))
      | inr j ↦ let rest = later functions (suc n) ps fit.1 x j in (rest.0, omega (arith, rest.1), rest.2)
    ]
later functions n (p ∷ ps) h x i =
    let fit = fits_first functions n p ps h in
    let rest = later functions (suc n) ps fit.1 x i in
    (rest.0, omega (arith, rest.1), rest.2)

pub functions_different : (functions : Functions) (n : ℕ) (ps : List Part) → heads_fit functions n ps ≡ true → AreDifferent (flat_map function_name ps)
functions_different functions n [] h = tt
functions_different functions n (define f as' a ∷ ps) h =
    let fit = fits_first functions n (define f as' a) ps h in (
      absent (flat_map function_name ps) f (λ i.
          let rest = later functions (suc n) ps fit.1 f i in
          let same = item_is (functions f) n rest.0 (head_is functions n f as' fit.0) rest.2 in
          let below : suc n ≤ n = subst (λ m. suc n ≤ m) (sym same) rest.1 in
          absurd (omega (arith, below))),
      functions_different functions (suc n) ps fit.1,
    )
functions_different functions n (p ∷ ps) h = functions_different functions (suc n) ps (fits_first functions n p ps h).1

-- ---- parameters

parameters_fit : (functions : Functions) (ps : List Text) → fit_parameters functions ps ≡ true → AreDifferent ps × ((x : Text) → In ps x → is_variable x ≡ false)
parameters_fit functions [] h = (tt, λ x i. absurd i)
parameters_fit functions (p ∷ ps) h =
    let both = both_of (fits_parameter functions ps p) (fit_parameters functions ps) h in
    let this = both_of (not (is_among ps p)) (not (is_variable p) && is_none (functions p)) both.0 in
    let free = not_true (is_variable p) (both_of (not (is_variable p)) (is_none (functions p)) this.1).0 in
    let rest = parameters_fit functions ps both.1 in
    let alone : place ps p ≡ None = absent ps p (λ i.
    let there : is_among ps p ≡ true = among_is ps p ∙ in_place ps p i in
    let no : false ≡ true = sym (not_true (is_among ps p) this.0) ∙ there in
    cc) in
    ((alone, rest.0), λ x i. elim i [ inl e ↦ sym (ap is_variable e) ∙ free | inr j ↦ rest.1 x j ])

-- ---- scopes

record HoldOnce (g : Globals) : Type 0 where
  pub scalars : AreDifferent g.scalars
  pub arrays : AreDifferent g.arrays
  pub functions : AreDifferent g.functions
  pub expressions : AreDifferent g.expressions
  pub no_scalar : (r : Special) → place g.scalars (special_name r) ≡ None
  pub no_array : (r : Special) → g.kinds (0, special_name r) ≡ false

hold_once : (k : Kinds) (ps : List Part) → AreKinds ps k → heads_fit (function_of ps) 1 ps ≡ true → HoldOnce (names_of k ps)
hold_once k ps are heads = record {
  scalars = with_different first_scalars (filter (is_global_scalar k) (flat_map global_names ps)) first_different;
  arrays = with_different [] (filter (is_global_array k) (flat_map global_names ps)) tt;
  functions = functions_different (function_of ps) 1 ps heads;
  expressions = with_different [] (eres_of_program ps) tt;
  no_scalar = no_scalar k ps;
  no_array = λ r. are.variables (special_name r) (special_given r);
}

in_scope : (g : Globals) → HoldOnce g → (n : ℕ) (ps : List Text) → AreDifferent ps → ((x : Text) → In ps x → is_variable x ≡ false) → AreTables (function_scope g n ps)
in_scope g h n ps d free =
    let none_such : (r : Special) → place ps (special_name r) ≡ None = λ r. absent ps (special_name r) (λ i.
    let no : false ≡ true = sym (free (special_name r) i) ∙ special_given r in
    cc) in
    record {
      parameters = d;
      scalars = h.scalars;
      arrays = h.arrays;
      functions = h.functions;
      expressions = h.expressions;
      no_parameter = none_such;
      no_scalar = h.no_scalar;
      no_array = λ r. ap (λ o. g.kinds (owner n o, special_name r)) (none_such r) ∙ h.no_array r;
    }

global_tables : (g : Globals) → HoldOnce g → AreTables (global_scope g)
global_tables g h = in_scope g h 0 [] tt (λ x i. absurd i)

-- of items, of which the first has this number
abbrev pub HaveTables : Globals → ℕ → List Part → Type 0
HaveTables g n [] = Unit {0}
HaveTables g n (p ∷ ps) = AreTables (item_scope g n p) × HaveTables g (suc n) ps

item_tables : (g : Globals) → HoldOnce g → (functions : Functions) (n : ℕ) (p : Part) → head_fits functions n p ≡ true → AreTables (item_scope g n p)
item_tables g h functions n (define f ps a) fit =
    let rest = (both_of (is_item n (functions f)) (not (is_variable f) && fit_parameters functions ps) fit).1 in
    let given = parameters_fit functions ps (both_of (not (is_variable f)) (fit_parameters functions ps) rest).1 in
    in_scope g h n ps given.0 given.1
item_tables g h functions n _ fit = global_tables g h

have_tables : (g : Globals) → HoldOnce g → (functions : Functions) (n : ℕ) (ps : List Part) → heads_fit functions n ps ≡ true → HaveTables g n ps
have_tables g h functions n [] fit = tt
have_tables g h functions n (p ∷ ps) fit =
    let both = fits_first functions n p ps fit in
    (item_tables g h functions n p both.0, have_tables g h functions (suc n) ps both.1)

-- of a program
pub tables : (k : Kinds) (ps : List Part) → AreKinds ps k → heads_fit (function_of ps) 1 ps ≡ true →
    AreTables (global_scope (names_of k ps)) × HaveTables (names_of k ps) 1 ps
tables k ps are heads =
    let once = hold_once k ps are heads in
    (global_tables (names_of k ps) once, have_tables (names_of k ps) once (function_of ps) 1 ps heads)
