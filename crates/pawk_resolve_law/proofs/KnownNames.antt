-- What the items of a checked program mention is known in their scopes.
use Rattle.std.proofs.Common.{◌≡◌, ℕ, suc, Bool, true, false, not, ◌&&◌, ◌||◌, List, [], ◌∷◌, ◌++◌, map, Option, Some, None, refl, sym, ap, ◌∙◌, ◌⊎◌, inl, inr}
use Rattle.std.specs.Prelude.{if◌then◌else◌, is_some}
use Rattle.std.specs.List.{list_all, flat_map}
use Rattle.std.specs.Str.{bytes_eq}
use Rattle.std.proofs.lemmas.Bool.{cases_Bool}
use Rattle.std.proofs.lemmas.Slice.Eq.{bytes_eq-Decides}
use Rattle.pawk_lex.specs.Bytes.{Text}
use Rattle.pawk_lex.specs.Vocabulary.{is_among, is_run_variable}
use Rattle.pawk_syntax_tree.specs.Item.{Part, begin, end, always, matching, between, define}
use Rattle.pawk_syntax_check.specs.Mentions.{Mention, array, scalar, target, argument, value, call, builtin, leave, return, of_part}
use Rattle.pawk_syntax_check.specs.Functions.{or_else, function_at, function_from}
use Rattle.pawk_syntax_check.specs.Demands.{meets, name_in, demands_of}
use Rattle.pawk_syntax_check.specs.Targets.{is_assignable}
use Rattle.pawk_syntax_check.specs.Calls.{is_call, takes_arguments}
use Rattle.pawk_code.specs.declared.leaf.Special.{Special}
use Rattle.pawk_resolve.specs.Slots.{place}
use Rattle.pawk_resolve.specs.Scopes.{Globals, Scope, is_array, owner, special_in, specials, special_of}
use Rattle.pawk_resolve.specs.ResolvedPrograms.{mentioned, parameters, global_names, function_name, global_scope, function_scope}
use Rattle.pawk_resolve_law.specs.Proper.{IsScalar, IsArray, IsNamed}
use Rattle.pawk_resolve_law.proofs.Known.{IsKnown, AreKnown, AreExpressions}
use Rattle.pawk_resolve_law.proofs.Entries.{In, in_place, in_front, in_back, in_filter, among_is}

pub both_of : (a d : Bool) → (a && d) ≡ true → (a ≡ true) × (d ≡ true)
both_of true true h = (refl, refl)
both_of true false h = let no : false ≡ true = h in cc
both_of false d h = let no : false ≡ true = h in cc

pub not_true : (a : Bool) → not a ≡ true → a ≡ false
not_true false h = refl
not_true true h = let no : false ≡ true = h in cc

pub all_parts : {A : Type 0} (f : A → Bool) (xs ys : List A) → list_all f (xs ++ ys) ≡ true → (list_all f xs ≡ true) × (list_all f ys ≡ true)
all_parts f [] ys h = (refl, h)
all_parts f (x ∷ xs) ys h =
    let both = both_of (f x) (list_all f (xs ++ ys)) h in
    let rest = all_parts f xs ys both.1 in
    (rw (both.0, rest.0) refl, rest.1)

-- ---- the variables that the run sets

first_texts : List (Text × Special) → List Text
first_texts ps = map (λ p. p.0) ps

runs : (ps : List (Text × Special)) (x : Text) → is_among (first_texts ps) x ≡ is_some (special_in ps x)
unfolding first_texts
runs [] x = refl
runs (p ∷ ps) x = elim (cases_Bool (bytes_eq x p.0)) [ inl e ↦ rw e refl | inr e ↦ rw e (runs ps x) ]

pub run_is : (x : Text) → is_run_variable x ≡ is_some (special_of x)
unfolding is_run_variable special_of first_texts
run_is x = runs specials x

none_is : {A : Type 0} (o : Option A) → is_some o ≡ false → o ≡ None
none_is None h = refl
none_is (Some a) h = let no : true ≡ false = h in cc

-- ---- functions

found_either : (a d : Option (ℕ × List Text)) → is_some (or_else a d) ≡ true → (is_some a ≡ true) ⊎ (is_some d ≡ true)
found_either (Some f) d h = inl refl
found_either None d h = inr h

found_here : (n : ℕ) (p : Part) (x : Text) → is_some (function_at n p x) ≡ true → In (function_name p) x
found_here n (define f ps a) x h = elim (cases_Bool (bytes_eq f x)) [
  | inl e ↦ inl ((bytes_eq-Decides f x).0 e)
  | inr e ↦ let no : false ≡ true = rw e at h in cc
]
found_here n _ x h = let no : false ≡ true = h in cc

pub found_function : (n : ℕ) (ps : List Part) (x : Text) → is_some (function_from n ps x) ≡ true → In (flat_map function_name ps) x
found_function n [] x h = let no : false ≡ true = h in cc
found_function n (p ∷ ps) x h = elim (found_either (function_at n p x) (function_from (suc n) ps x) h) [
  | inl f ↦ in_front (function_name p) (flat_map function_name ps) x (found_here n p x f)
  | inr f ↦ in_back (function_name p) (flat_map function_name ps) x (found_function (suc n) ps x f)
]

takes_some : (o : Option (ℕ × List Text)) (n : ℕ) → takes_arguments o n ≡ true → is_some o ≡ true
takes_some None n h = h
takes_some (Some f) n h = refl

-- ---- one item

-- the globals hold the names that are mentioned, and the functions that are defined
pub record AreEntered (g : Globals) (functions : Text → Option (ℕ × List Text)) (names : List Text) : Type 0 where
  pub scalars : (x : Text) → In names x → g.kinds (0, x) ≡ false → is_run_variable x ≡ false → In g.scalars x
  pub arrays : (x : Text) → In names x → g.kinds (0, x) ≡ true → In g.arrays x
  pub called : (f : Text) → is_some (functions f) ≡ true → In g.functions f

module _ (s : Scope) (functions : Text → Option (ℕ × List Text)) (names : List Text) (entered : AreEntered s.globals functions names) where
  -- a name that is no parameter is among the global names
  abbrev IsGlobal : Text → Type 0
  IsGlobal x = place s.parameters x ≡ None → In names x

  kind_is : (x : Text) (d : Bool) → place s.parameters x ≡ None → is_array s x ≡ d → s.globals.kinds (0, x) ≡ d
  kind_is x d e k = ap (λ o. s.globals.kinds (owner s.item o, x)) (sym e) ∙ k

  scalar_at : (x : Text) (o : Option ℕ) (p : Option Special) → place s.parameters x ≡ o → special_of x ≡ p → IsGlobal x → is_array s x ≡ false →
      (is_some (place s.parameters x) || (is_some (special_of x) || is_some (place s.globals.scalars x))) ≡ true
  scalar_at x (Some i) p e f h k = rw e refl
  scalar_at x None (Some r) e f h k = rw (e, f) refl
  scalar_at x None None e f h k =
      let free : is_run_variable x ≡ false = run_is x ∙ ap is_some f in
      let there : is_some (place s.globals.scalars x) ≡ true = in_place s.globals.scalars x (entered.scalars x (h e) (kind_is x false e k) free) in
      rw (e, f, there) refl

  scalar_known : (x : Text) → IsGlobal x → is_array s x ≡ false → IsScalar s x
  scalar_known x h k = (k, scalar_at x (place s.parameters x) (special_of x) refl refl h k)

  array_at : (x : Text) (o : Option ℕ) → place s.parameters x ≡ o → IsGlobal x → is_array s x ≡ true →
      (is_some (place s.parameters x) || is_some (place s.globals.arrays x)) ≡ true
  array_at x (Some i) e h k = rw e refl
  array_at x None e h k =
      let there : is_some (place s.globals.arrays x) ≡ true = in_place s.globals.arrays x (entered.arrays x (h e) (kind_is x true e k)) in
      rw (e, there) refl

  array_known : (x : Text) → IsGlobal x → is_array s x ≡ true → IsArray s x
  array_known x h k = (k, array_at x (place s.parameters x) refl h k)

  named_known : (x : Text) (d : Bool) → IsGlobal x → is_array s x ≡ d → IsNamed s d x
  named_known x true h k = array_known x h k
  named_known x false h k = scalar_known x h k

  module _ (n : ℕ) (p : Part) (owned : (x : Text) → is_array s x ≡ s.globals.kinds (name_in n p x)) where
    mention_known : (m : Mention) → ((x : Text) → In (mentioned m) x → IsGlobal x) → is_assignable m ≡ true → is_call functions m ≡ true →
        list_all (meets s.globals.kinds) (demands_of functions n p m) ≡ true → IsKnown s m
    mention_known (array x) h a c k = array_known x (h x (inl refl)) (owned x ∙ (both_of (s.globals.kinds (name_in n p x)) true k).0)
    mention_known (scalar x) h a c k =
        scalar_known x (h x (inl refl)) (owned x ∙ not_true (s.globals.kinds (name_in n p x)) (both_of (not (s.globals.kinds (name_in n p x))) true k).0)
    mention_known (target x) h a c k = (
      scalar_known x (h x (inl refl)) (owned x ∙ not_true (s.globals.kinds (name_in n p x)) (both_of (not (s.globals.kinds (name_in n p x))) true k).0),
      none_is (special_of x) (sym (run_is x) ∙ not_true (is_run_variable x) a),
    )
    mention_known (argument x f i) h a c k = named_known x (is_array s x) (h x (inl refl)) refl
    mention_known (value f i) h a c k = tt
    mention_known (call f i) h a c k = in_place s.globals.functions f (entered.called f (takes_some (functions f) i c))
    mention_known (builtin f ts) h a c k = c
    mention_known (leave word in_loop) h a c k = tt
    mention_known return h a c k = tt

    pub mentions_known : (ms : List Mention) → ((x : Text) → In (flat_map mentioned ms) x → IsGlobal x) → list_all is_assignable ms ≡ true →
        list_all (is_call functions) ms ≡ true → list_all (meets s.globals.kinds) (flat_map (demands_of functions n p) ms) ≡ true → AreKnown s ms
    mentions_known [] h a c k = tt
    mentions_known (m ∷ ms) h a c k =
        let assigned = both_of (is_assignable m) (list_all is_assignable ms) a in
        let called = both_of (is_call functions m) (list_all (is_call functions) ms) c in
        let met = all_parts (meets s.globals.kinds) (demands_of functions n p m) (flat_map (demands_of functions n p) ms) k in (
          mention_known m (λ x i. h x (in_front (mentioned m) (flat_map mentioned ms) x i)) assigned.0 called.0 met.0,
          mentions_known ms (λ x i. h x (in_back (mentioned m) (flat_map mentioned ms) x i)) assigned.1 called.1 met.1,
        )

pub expressions_known : (s : Scope) (xs : List Text) → ((x : Text) → In xs x → In s.globals.expressions x) → AreExpressions s xs
expressions_known s [] h = tt
expressions_known s (x ∷ xs) h = (in_place s.globals.expressions x (h x (inl refl)), expressions_known s xs (λ y i. h y (inr i)))

-- ---- scopes of items

abbrev pub item_scope : Globals → ℕ → Part → Scope
item_scope g n (define f ps a) = function_scope g n ps
item_scope g n _ = global_scope g

owner_is : (n : ℕ) (o : Option ℕ) → owner n o ≡ (if is_some o then n else 0)
owner_is n None = refl
owner_is n (Some i) = refl

owned_in : (g : Globals) (n : ℕ) (p : Part) (x : Text) → is_array (item_scope g n p) x ≡ g.kinds (name_in n p x)
owned_in g n (define f ps a) x =
    ap (λ m. g.kinds (m, x)) (owner_is n (place ps x) ∙ ap (λ d. if d then n else 0) (sym (among_is ps x)))
owned_in g n (begin a) x = refl
owned_in g n (end a) x = refl
owned_in g n (always a) x = refl
owned_in g n (matching e a) x = refl
owned_in g n (between e f a) x = refl

-- a global name of an item is among its global names
free_of : (ps : List Text) (x : Text) → place ps x ≡ None → not (is_among ps x) ≡ true
free_of ps x e = ap not (among_is ps x ∙ ap is_some e)

global_in : (p : Part) (x : Text) → In (flat_map mentioned (of_part p)) x → place (parameters p) x ≡ None → In (global_names p) x
global_in p x i e = in_filter (λ y. not (is_among (parameters p) y)) (flat_map mentioned (of_part p)) x i (free_of (parameters p) x e)

-- what is asked of an item
pub record IsChecked (g : Globals) (functions : Text → Option (ℕ × List Text)) (names : List Text) (n : ℕ) (p : Part) : Type 0 where
  pub entered : AreEntered g functions names
  pub assigned : list_all is_assignable (of_part p) ≡ true
  pub called : list_all (is_call functions) (of_part p) ≡ true
  pub met : list_all (meets g.kinds) (flat_map (demands_of functions n p) (of_part p)) ≡ true
  pub among : (x : Text) → In (global_names p) x → In names x

pub item_known : (g : Globals) (functions : Text → Option (ℕ × List Text)) (names : List Text) (n : ℕ) (p : Part) →
    IsChecked g functions names n p → AreKnown (item_scope g n p) (of_part p)
item_known g functions names n (define f ps a) h =
    let p = define f ps a in
    mentions_known (function_scope g n ps) functions names h.entered n p (owned_in g n p) (of_part p)
    (λ x i e. h.among x (global_in p x i e)) h.assigned h.called h.met
item_known g functions names n (begin a) h =
    let p = begin a in
    mentions_known (global_scope g) functions names h.entered n p (owned_in g n p) (of_part p)
    (λ x i e. h.among x (global_in p x i e)) h.assigned h.called h.met
item_known g functions names n (end a) h =
    let p = end a in
    mentions_known (global_scope g) functions names h.entered n p (owned_in g n p) (of_part p)
    (λ x i e. h.among x (global_in p x i e)) h.assigned h.called h.met
item_known g functions names n (always a) h =
    let p = always a in
    mentions_known (global_scope g) functions names h.entered n p (owned_in g n p) (of_part p)
    (λ x i e. h.among x (global_in p x i e)) h.assigned h.called h.met
item_known g functions names n (matching e a) h =
    let p = matching e a in
    mentions_known (global_scope g) functions names h.entered n p (owned_in g n p) (of_part p)
    (λ x i e. h.among x (global_in p x i e)) h.assigned h.called h.met
item_known g functions names n (between e f a) h =
    let p = between e f a in
    mentions_known (global_scope g) functions names h.entered n p (owned_in g n p) (of_part p)
    (λ x i e. h.among x (global_in p x i e)) h.assigned h.called h.met
