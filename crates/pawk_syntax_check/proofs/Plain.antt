-- Programs without functions fit.
use Rattle.std.proofs.Common.{◌≡◌, ℕ, suc, Bool, true, List, [], ◌∷◌, ◌++◌, Option, None, refl, sym, ◌∙◌, ap, subst}
use Rattle.std.specs.Prelude.{not}
use Rattle.std.specs.List.{list_all, flat_map}
use Rattle.pawk_lex.specs.Bytes.{Text}
use Rattle.pawk_syntax_tree.specs.Item.{Part, begin, end, always, matching, between, define}
use Rattle.pawk_syntax_check.specs.Mentions.{Mention, array, scalar, target, argument, value, call, builtin, leave, return, of_part}
use Rattle.pawk_syntax_check.specs.Functions.{or_else, function_at, function_from, function_of}
use Rattle.pawk_syntax_check.specs.Demands.{Demand, Kinds, meets, demands_of, demands_from}
use Rattle.pawk_syntax_check.specs.Targets.{is_assignable}
use Rattle.pawk_syntax_check.specs.Calls.{is_call}
use Rattle.pawk_syntax_check.specs.Words.{is_function, is_placed}
use Rattle.pawk_syntax_check.specs.Names.{head_fits, heads_fit, is_free}
use Rattle.pawk_syntax_check.specs.Fits.{every_mention, is_plain, PlainProgramsFit}
use Rattle.pawk_syntax_check.proofs.Mentions.{both_of, of_both, fits-same}

abbrev Functions : Type 0
Functions = Text → Option (ℕ × List Text)

-- no name is a function's
abbrev none : Functions
none x = None

-- ---- mentions

every_too : (p : Part) (test other : Part → Mention → Bool) → ((m : Mention) → test p m ≡ true → other p m ≡ true) → (ms : List Mention) →
    list_all (test p) ms ≡ true → list_all (other p) ms ≡ true
every_too p test other h [] e = refl
every_too p test other h (m ∷ ms) e =
    let both = both_of (test p m) (list_all (test p) ms) e in
    of_both (other p m) (list_all (other p) ms) (h m both.0) (every_too p test other h ms both.1)

mentions_too : (test other : Part → Mention → Bool) → ((p : Part) (m : Mention) → test p m ≡ true → other p m ≡ true) → (ps : List Part) →
    every_mention test ps ≡ true → every_mention other ps ≡ true
mentions_too test other h [] e = refl
mentions_too test other h (p ∷ ps) e =
    let both = both_of (list_all (test p) (of_part p)) (every_mention test ps) e in
    of_both (list_all (other p) (of_part p)) (every_mention other ps) (every_too p test other (h p) (of_part p) both.0)
    (mentions_too test other h ps both.1)

assignable : (a : Text → Bool) (p : Part) (m : Mention) → is_plain a p m ≡ true → is_assignable m ≡ true
assignable a p (array x) e = refl
assignable a p (scalar x) e = refl
assignable a p (target x) e = (both_of (not (a x)) (is_assignable (target x)) e).1
assignable a p (argument x f place) e = refl
assignable a p (value f place) e = refl
assignable a p (call f n) e = refl
assignable a p (builtin f as') e = refl
assignable a p (leave word in_loop) e = refl
assignable a p return e = refl

fits_call : (a : Text → Bool) (p : Part) (m : Mention) → is_plain a p m ≡ true → is_call none m ≡ true
fits_call a p (array x) e = refl
fits_call a p (scalar x) e = refl
fits_call a p (target x) e = refl
fits_call a p (argument x f place) e = refl
fits_call a p (value f place) e = refl
fits_call a p (call f n) e = cc
fits_call a p (builtin f as') e = e
fits_call a p (leave word in_loop) e = refl
fits_call a p return e = refl

placed : (a : Text → Bool) (p : Part) (m : Mention) → is_plain a p m ≡ true → is_placed p m ≡ true
placed a p (array x) e = refl
placed a p (scalar x) e = refl
placed a p (target x) e = refl
placed a p (argument x f place) e = refl
placed a p (value f place) e = refl
placed a p (call f n) e = refl
placed a p (builtin f as') e = refl
placed a p (leave word in_loop) e = e
placed a p return e = cc

free : (a : Text → Bool) (p : Part) (m : Mention) → is_plain a p m ≡ true → is_free none m ≡ true
free a p (array x) e = refl
free a p (scalar x) e = refl
free a p (target x) e = refl
free a p (argument x f place) e = refl
free a p (value f place) e = refl
free a p (call f n) e = refl
free a p (builtin f as') e = refl
free a p (leave word in_loop) e = refl
free a p return e = refl

-- ---- functions

defines_none : (n : ℕ) (p : Part) (x : Text) → not (is_function p) ≡ true → function_at n p x ≡ None
defines_none n (begin s) x e = refl
defines_none n (end s) x e = refl
defines_none n (always s) x e = refl
defines_none n (matching t s) x e = refl
defines_none n (between t u s) x e = refl
defines_none n (define f ps s) x e = cc

none_from : (n : ℕ) (ps : List Part) (x : Text) → list_all (λ p. not (is_function p)) ps ≡ true → function_from n ps x ≡ None
none_from n [] x e = refl
none_from n (p ∷ ps) x e =
    let both = both_of (not (is_function p)) (list_all (λ q. not (is_function q)) ps) e in
    ap (λ o. or_else o (function_from (suc n) ps x)) (defines_none n p x both.0) ∙ none_from (suc n) ps x both.1

head_too : (functions : Functions) (n : ℕ) (p : Part) → not (is_function p) ≡ true → head_fits functions n p ≡ true
head_too functions n (begin s) e = refl
head_too functions n (end s) e = refl
head_too functions n (always s) e = refl
head_too functions n (matching t s) e = refl
head_too functions n (between t u s) e = refl
head_too functions n (define f ps s) e = cc

heads_too : (functions : Functions) (n : ℕ) (ps : List Part) → list_all (λ p. not (is_function p)) ps ≡ true → heads_fit functions n ps ≡ true
heads_too functions n [] e = refl
heads_too functions n (p ∷ ps) e =
    let both = both_of (not (is_function p)) (list_all (λ q. not (is_function q)) ps) e in
    of_both (head_fits functions n p) (heads_fit functions (suc n) ps) (head_too functions n p both.0) (heads_too functions (suc n) ps both.1)

-- ---- kinds

-- a name is of the same kind in every scope
abbrev kinds_by : (Text → Bool) → Kinds
kinds_by a v = a v.1

all_after : (k : Kinds) (ds es : List Demand) → list_all (meets k) ds ≡ true → list_all (meets k) es ≡ true → list_all (meets k) (ds ++ es) ≡ true
all_after k [] es e f = f
all_after k (d ∷ ds) es e f =
    let both = both_of (meets k d) (list_all (meets k) ds) e in
    of_both (meets k d) (list_all (meets k) (ds ++ es)) both.0 (all_after k ds es both.1 f)

met : (a : Text → Bool) (n : ℕ) (p : Part) (m : Mention) → is_plain a p m ≡ true → list_all (meets (kinds_by a)) (demands_of none n p m) ≡ true
met a n p (array x) e = of_both (a x) true e refl
met a n p (scalar x) e = of_both (not (a x)) true e refl
met a n p (target x) e = of_both (not (a x)) true (both_of (not (a x)) (is_assignable (target x)) e).0 refl
met a n p (argument x f place) e = cc
met a n p (value f place) e = cc
met a n p (call f k) e = refl
met a n p (builtin f as') e = refl
met a n p (leave word in_loop) e = refl
met a n p return e = refl

met_in : (a : Text → Bool) (n : ℕ) (p : Part) (ms : List Mention) → list_all (is_plain a p) ms ≡ true →
    list_all (meets (kinds_by a)) (flat_map (demands_of none n p) ms) ≡ true
met_in a n p [] e = refl
met_in a n p (m ∷ ms) e =
    let both = both_of (is_plain a p m) (list_all (is_plain a p) ms) e in
    all_after (kinds_by a) (demands_of none n p m) (flat_map (demands_of none n p) ms) (met a n p m both.0) (met_in a n p ms both.1)

met_from : (a : Text → Bool) (n : ℕ) (ps : List Part) → every_mention (is_plain a) ps ≡ true →
    list_all (meets (kinds_by a)) (demands_from none n ps) ≡ true
met_from a n [] e = refl
met_from a n (p ∷ ps) e =
    let both = both_of (list_all (is_plain a p) (of_part p)) (every_mention (is_plain a) ps) e in
    all_after (kinds_by a) (flat_map (demands_of none n p) (of_part p)) (demands_from none (suc n) ps) (met_in a n p (of_part p) both.0)
    (met_from a (suc n) ps both.1)

-- ---- programs

pub plain_fits : PlainProgramsFit
plain_fits ps a plain =
    let same : none ≡ function_of ps = fits-same none (function_of ps) (λ x. sym (none_from 1 ps x plain.no_functions)) in
    let P : Functions → Type 0 = λ functions. every_mention (λ p m. is_call functions m) ps ≡ true in
    let Q : Functions → Type 0 = λ functions. every_mention (λ p m. is_free functions m) ps ≡ true in
    let R : Functions → Type 0 = λ functions. list_all (meets (kinds_by a)) (demands_from functions 1 ps) ≡ true in
    record {
      targets = mentions_too (is_plain a) (λ p m. is_assignable m) (assignable a) ps plain.mentions;
      calls = subst P same (mentions_too (is_plain a) (λ p m. is_call none m) (fits_call a) ps plain.mentions);
      words = mentions_too (is_plain a) is_placed (placed a) ps plain.mentions;
      heads = heads_too (function_of ps) 1 ps plain.no_functions;
      names = subst Q same (mentions_too (is_plain a) (λ p m. is_free none m) (free a) ps plain.mentions);
      kinds = (kinds_by a, record { meets_all = subst R same (met_from a 1 ps plain.mentions); variables = plain.variables });
    }
