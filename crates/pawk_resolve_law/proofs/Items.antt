-- The code of items: it fits, it spells them, and it is the only one.
use Rattle.std.proofs.Common.{◌≡◌, ℕ, suc, List, [], ◌∷◌, map, refl, sym, ap, ap₂, ◌∙◌}
use Rattle.std.specs.Prelude.{filter}
use Rattle.std.specs.List.{flat_map}
use Rattle.pawk_syntax_tree.specs.Statement.{Stmts as TreeStmts}
use Rattle.pawk_syntax_tree.specs.Statement as stmt
use Rattle.pawk_syntax_tree.specs.Item.{Part, begin, end, define}
use Rattle.pawk_syntax_tree.specs.Item as item
use Rattle.pawk_syntax_check.specs.Words.{is_rule, is_function}
use Rattle.pawk_code.specs.Statements.{Stmts}
use Rattle.pawk_code.specs.declared.program.ParameterKind.{ParameterKind}
use Rattle.pawk_code.specs.Programs.{Selector, always, matching, between, Rule, Function, Code}
use Rattle.pawk_resolve.specs.Scopes.{Globals, Scope}
use Rattle.pawk_resolve.specs.Resolved.{resolved}
use Rattle.pawk_resolve.specs.ResolvedStatements.{resolved_body}
use Rattle.pawk_resolve.specs.ResolvedPrograms.{global_scope, function_scope, begin_of, end_of, rule, rule_of, function, functions_from, resolved_items}
use Rattle.pawk_resolve_law.specs.Names.{AreTables}
use Rattle.pawk_resolve_law.specs.Programs.{Head, heads_from, is_begin, is_end, outline, scope_of, spelled_action, spelled_on, spelled_rule, spelled_functions, spelled_program, Each, FitsAction, FitsSelector, FitsRule, FitsFunctions, FitsProgram}
use Rattle.pawk_resolve_law.proofs.Normal.{fits}
use Rattle.pawk_resolve_law.proofs.Spelling.{spells}
use Rattle.pawk_resolve_law.proofs.Again.{again}
use Rattle.pawk_resolve_law.proofs.Bodies.{fits_body, spells_body, again_body}
use Rattle.pawk_resolve_law.proofs.KnownItems.{IsProperItem}
use Rattle.pawk_resolve_law.proofs.KnownNames.{item_scope}
use Rattle.pawk_resolve_law.proofs.ScopeTables.{HaveTables}

-- items of which the first has this number
abbrev pub AreProperItems : Globals → ℕ → List Part → Type 0
AreProperItems g n [] = Unit {0}
AreProperItems g n (p ∷ ps) = IsProperItem (item_scope g n p) p × AreProperItems g (suc n) ps

with_first : {A : Type 0} (x y : A) (xs ys : List A) → x ≡ y → xs ≡ ys → (x ∷ xs) ≡ (y ∷ ys)
with_first x y xs ys e f = ap₂ (λ z zs. z ∷ zs) e f

module _ (g : Globals) where
  abbrev Scope0 : Scope
  Scope0 = global_scope g

  -- ---- normal form

  begins_fit : (n : ℕ) (ps : List Part) → AreProperItems g n ps → Each (FitsAction g) (flat_map (begin_of g) ps)
  begins_fit n [] h = tt
  begins_fit n (item.begin a ∷ ps) h = (fits_body Scope0 a h.0, begins_fit (suc n) ps h.1)
  begins_fit n (item.end a ∷ ps) h = begins_fit (suc n) ps h.1
  begins_fit n (item.always a ∷ ps) h = begins_fit (suc n) ps h.1
  begins_fit n (item.matching e a ∷ ps) h = begins_fit (suc n) ps h.1
  begins_fit n (item.between e f a ∷ ps) h = begins_fit (suc n) ps h.1
  begins_fit n (item.define f xs a ∷ ps) h = begins_fit (suc n) ps h.1

  ends_fit : (n : ℕ) (ps : List Part) → AreProperItems g n ps → Each (FitsAction g) (flat_map (end_of g) ps)
  ends_fit n [] h = tt
  ends_fit n (item.begin a ∷ ps) h = ends_fit (suc n) ps h.1
  ends_fit n (item.end a ∷ ps) h = (fits_body Scope0 a h.0, ends_fit (suc n) ps h.1)
  ends_fit n (item.always a ∷ ps) h = ends_fit (suc n) ps h.1
  ends_fit n (item.matching e a ∷ ps) h = ends_fit (suc n) ps h.1
  ends_fit n (item.between e f a ∷ ps) h = ends_fit (suc n) ps h.1
  ends_fit n (item.define f xs a ∷ ps) h = ends_fit (suc n) ps h.1

  rules_fit : (n : ℕ) (ps : List Part) → AreProperItems g n ps → Each (FitsRule g) (flat_map (rule_of g) ps)
  rules_fit n [] h = tt
  rules_fit n (item.begin a ∷ ps) h = rules_fit (suc n) ps h.1
  rules_fit n (item.end a ∷ ps) h = rules_fit (suc n) ps h.1
  rules_fit n (item.always a ∷ ps) h = ((tt, fits_body Scope0 a h.0), rules_fit (suc n) ps h.1)
  rules_fit n (item.matching e a ∷ ps) h = ((fits Scope0 e h.0.0, fits_body Scope0 a h.0.1), rules_fit (suc n) ps h.1)
  rules_fit n (item.between e f a ∷ ps) h =
      (((fits Scope0 e h.0.0, fits Scope0 f h.0.1), fits_body Scope0 a h.0.2), rules_fit (suc n) ps h.1)
  rules_fit n (item.define f xs a ∷ ps) h = rules_fit (suc n) ps h.1

  functions_fit : (n : ℕ) (ps : List Part) → HaveTables g n ps → AreProperItems g n ps → FitsFunctions g (heads_from n ps) (functions_from g n ps)
  functions_fit n [] t h = tt
  functions_fit n (item.begin a ∷ ps) t h = functions_fit (suc n) ps t.1 h.1
  functions_fit n (item.end a ∷ ps) t h = functions_fit (suc n) ps t.1 h.1
  functions_fit n (item.always a ∷ ps) t h = functions_fit (suc n) ps t.1 h.1
  functions_fit n (item.matching e a ∷ ps) t h = functions_fit (suc n) ps t.1 h.1
  functions_fit n (item.between e f a ∷ ps) t h = functions_fit (suc n) ps t.1 h.1
  functions_fit n (item.define f xs a ∷ ps) t h = ((t.0, refl, fits_body (function_scope g n xs) a h.0), functions_fit (suc n) ps t.1 h.1)

  pub items_fit : (ps : List Part) → AreTables Scope0 → HaveTables g 1 ps → AreProperItems g 1 ps → FitsProgram g (heads_from 1 ps) (resolved_items g ps)
  items_fit ps t ts h = record {
    tables = t;
    scalars = refl;
    arrays = refl;
    expressions = refl;
    begins = begins_fit 1 ps h;
    rules = rules_fit 1 ps h;
    ends = ends_fit 1 ps h;
    functions = functions_fit 1 ps ts h;
  }

  -- ---- what it spells

  abbrev spelled_begin : Stmts → Part
  spelled_begin a = begin (spelled_action g a)

  abbrev spelled_end : Stmts → Part
  spelled_end a = end (spelled_action g a)

  begins_spell : (n : ℕ) (ps : List Part) → AreProperItems g n ps → map spelled_begin (flat_map (begin_of g) ps) ≡ filter is_begin ps
  begins_spell n [] h = refl
  begins_spell n (item.begin a ∷ ps) h = with_first _ _ _ _ (ap begin (spells_body Scope0 a h.0)) (begins_spell (suc n) ps h.1)
  begins_spell n (item.end a ∷ ps) h = begins_spell (suc n) ps h.1
  begins_spell n (item.always a ∷ ps) h = begins_spell (suc n) ps h.1
  begins_spell n (item.matching e a ∷ ps) h = begins_spell (suc n) ps h.1
  begins_spell n (item.between e f a ∷ ps) h = begins_spell (suc n) ps h.1
  begins_spell n (item.define f xs a ∷ ps) h = begins_spell (suc n) ps h.1

  ends_spell : (n : ℕ) (ps : List Part) → AreProperItems g n ps → map spelled_end (flat_map (end_of g) ps) ≡ filter is_end ps
  ends_spell n [] h = refl
  ends_spell n (item.begin a ∷ ps) h = ends_spell (suc n) ps h.1
  ends_spell n (item.end a ∷ ps) h = with_first _ _ _ _ (ap end (spells_body Scope0 a h.0)) (ends_spell (suc n) ps h.1)
  ends_spell n (item.always a ∷ ps) h = ends_spell (suc n) ps h.1
  ends_spell n (item.matching e a ∷ ps) h = ends_spell (suc n) ps h.1
  ends_spell n (item.between e f a ∷ ps) h = ends_spell (suc n) ps h.1
  ends_spell n (item.define f xs a ∷ ps) h = ends_spell (suc n) ps h.1

  rules_spell : (n : ℕ) (ps : List Part) → AreProperItems g n ps → map (spelled_rule g) (flat_map (rule_of g) ps) ≡ filter is_rule ps
  rules_spell n [] h = refl
  rules_spell n (item.begin a ∷ ps) h = rules_spell (suc n) ps h.1
  rules_spell n (item.end a ∷ ps) h = rules_spell (suc n) ps h.1
  rules_spell n (item.always a ∷ ps) h = with_first _ _ _ _ (ap item.always (spells_body Scope0 a h.0)) (rules_spell (suc n) ps h.1)
  rules_spell n (item.matching e a ∷ ps) h =
      with_first _ _ _ _ (ap₂ (λ x y. item.matching x y) (spells Scope0 e h.0.0) (spells_body Scope0 a h.0.1)) (rules_spell (suc n) ps h.1)
  rules_spell n (item.between e f a ∷ ps) h =
      with_first _ _ _ _ (ap₂ (λ u v. u v) (ap₂ (λ x y. item.between x y) (spells Scope0 e h.0.0) (spells Scope0 f h.0.1)) (spells_body Scope0 a h.0.2))
      (rules_spell (suc n) ps h.1)
  rules_spell n (item.define f xs a ∷ ps) h = rules_spell (suc n) ps h.1

  functions_spell : (n : ℕ) (ps : List Part) → AreProperItems g n ps → spelled_functions g (heads_from n ps) (functions_from g n ps) ≡ filter is_function ps
  functions_spell n [] h = refl
  functions_spell n (item.begin a ∷ ps) h = functions_spell (suc n) ps h.1
  functions_spell n (item.end a ∷ ps) h = functions_spell (suc n) ps h.1
  functions_spell n (item.always a ∷ ps) h = functions_spell (suc n) ps h.1
  functions_spell n (item.matching e a ∷ ps) h = functions_spell (suc n) ps h.1
  functions_spell n (item.between e f a ∷ ps) h = functions_spell (suc n) ps h.1
  functions_spell n (item.define f xs a ∷ ps) h =
      with_first _ _ _ _ (ap (item.define f xs) (spells_body (function_scope g n xs) a h.0)) (functions_spell (suc n) ps h.1)

  pub items_spell : (ps : List Part) → AreProperItems g 1 ps → spelled_program g (heads_from 1 ps) (resolved_items g ps) ≡ outline ps
  items_spell ps h i = record {
    begins = begins_spell 1 ps h i;
    rules = rules_spell 1 ps h i;
    ends = ends_spell 1 ps h i;
    functions = functions_spell 1 ps h i;
  }

  -- ---- and back

  action_of : Part → Stmts
  action_of (item.begin a) = resolved_body Scope0 a
  action_of (item.end a) = resolved_body Scope0 a
  action_of _ = resolved_body Scope0 stmt.done

  rule_in : Part → Rule
  rule_in (item.always a) = rule g always a
  rule_in (item.matching e a) = rule g (matching (resolved Scope0 e)) a
  rule_in (item.between e f a) = rule g (between (resolved Scope0 e) (resolved Scope0 f)) a
  rule_in _ = rule g always stmt.done

  functions_in : List Head → List Part → List Function
  functions_in (h ∷ hs) (item.define f xs a ∷ ps) = function g h.item h.parameters a ∷ functions_in hs ps
  functions_in _ _ = []

  begins_again : AreTables Scope0 → (xs : List Stmts) → Each (FitsAction g) xs → map action_of (map spelled_begin xs) ≡ xs
  unfolding action_of
  begins_again t [] h = refl
  begins_again t (x ∷ xs) h = with_first _ _ _ _ (again_body Scope0 t x h.0) (begins_again t xs h.1)

  ends_again : AreTables Scope0 → (xs : List Stmts) → Each (FitsAction g) xs → map action_of (map spelled_end xs) ≡ xs
  unfolding action_of
  ends_again t [] h = refl
  ends_again t (x ∷ xs) h = with_first _ _ _ _ (again_body Scope0 t x h.0) (ends_again t xs h.1)

  rule_same : (a d : Selector) (x y : Stmts) → a ≡ d → x ≡ y → (let new : Rule = record { selector = a; body = x } in new) ≡ (let old : Rule = record { selector = d; body = y } in old)
  rule_same a d x y e f i = record { selector = e i; body = f i }

  rule_again_of : AreTables Scope0 → (a : Selector) (x : Stmts) → FitsSelector g a → FitsAction g x →
      rule_in (spelled_on g a (spelled_action g x)) ≡ (let old : Rule = record { selector = a; body = x } in old)
  unfolding rule_in
  rule_again_of t always x h k = rule_same _ _ _ _ refl (again_body Scope0 t x k)
  rule_again_of t (matching e) x h k = rule_same _ _ _ _ (ap matching (again Scope0 t e h)) (again_body Scope0 t x k)
  rule_again_of t (between e f) x h k =
      rule_same _ _ _ _ (ap₂ (λ y z. between y z) (again Scope0 t e h.0) (again Scope0 t f h.1)) (again_body Scope0 t x k)

  rules_again : AreTables Scope0 → (xs : List Rule) → Each (FitsRule g) xs → map rule_in (map (spelled_rule g) xs) ≡ xs
  rules_again t [] h = refl
  rules_again t (x ∷ xs) h = with_first _ _ _ _ (rule_again_of t x.selector x.body h.0.0 h.0.1) (rules_again t xs h.1)

  function_same : (a d : List ParameterKind) (x y : Stmts) → a ≡ d → x ≡ y → (let new : Function = record { kinds = a; body = x } in new) ≡ (let old : Function = record { kinds = d; body = y } in old)
  function_same a d x y e f i = record { kinds = e i; body = f i }

  functions_again : (hs : List Head) (fs : List Function) → FitsFunctions g hs fs → functions_in hs (spelled_functions g hs fs) ≡ fs
  unfolding functions_in
  functions_again [] [] h = refl
  functions_again (h ∷ hs) (f ∷ fs) k =
      with_first _ _ _ _ (function_same _ _ _ _ (sym k.0.1) (again_body (scope_of g h) k.0.0 f.body k.0.2)) (functions_again hs fs k.1)
  functions_again [] (f ∷ fs) h = absurd h
  functions_again (h ∷ hs) [] k = absurd k

  same_by : {A D : Type 0} (f : A → D) (h : D → A) (x y : A) → h (f x) ≡ x → h (f y) ≡ y → f x ≡ f y → x ≡ y
  same_by f h x y a d e = sym a ∙ ap h e ∙ d

  pub one_program : (hs : List Head) (c d : Code) → FitsProgram g hs c → FitsProgram g hs d → spelled_program g hs c ≡ spelled_program g hs d → c ≡ d
  one_program hs c d h k e =
      let begins : c.begins ≡ d.begins = same_by (map spelled_begin) (map action_of) c.begins d.begins
      (begins_again h.tables c.begins h.begins) (begins_again h.tables d.begins k.begins) (ap (λ o. o.begins) e) in
      let rules : c.rules ≡ d.rules = same_by (map (spelled_rule g)) (map rule_in) c.rules d.rules
      (rules_again h.tables c.rules h.rules) (rules_again h.tables d.rules k.rules) (ap (λ o. o.rules) e) in
      let ends : c.ends ≡ d.ends = same_by (map spelled_end) (map action_of) c.ends d.ends
      (ends_again h.tables c.ends h.ends) (ends_again h.tables d.ends k.ends) (ap (λ o. o.ends) e) in
      let functions : c.functions ≡ d.functions = same_by (spelled_functions g hs) (functions_in hs) c.functions d.functions
      (functions_again hs c.functions h.functions) (functions_again hs d.functions k.functions) (ap (λ o. o.functions) e) in
      λ i. record {
        begins = begins i;
        rules = rules i;
        ends = ends i;
        functions = functions i;
        scalars = (h.scalars ∙ sym k.scalars) i;
        arrays = (h.arrays ∙ sym k.arrays) i;
        expressions = (h.expressions ∙ sym k.expressions) i;
      }
