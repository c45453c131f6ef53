-- Programs: their items by what they are, the items that code is another writing of, and code in normal form. The order between
-- actions of BEGIN, rules, actions of END and functions does not matter (POSIX.1-2017, awk, "Overall Program Structure").
use Rattle.std.specs.Prelude.{◌≡◌, ℕ, suc, Bool, true, false, List, [], ◌∷◌, ◌++◌, map, filter}
use Rattle.pawk_lex.specs.Bytes.{Text}
use Rattle.pawk_syntax_tree.specs.Statement.{Stmts as TreeStmts}
use Rattle.pawk_syntax_tree.specs.Item.{Part, begin, end, define}
use Rattle.pawk_syntax_tree.specs.Item as item
use Rattle.pawk_syntax_check.specs.Demands.{Kinds}
use Rattle.pawk_syntax_check.specs.Words.{is_rule, is_function}
use Rattle.pawk_syntax_grammar.specs.Expressions.{eres_of_program}
use Rattle.pawk_code.specs.Statements.{Stmts}
use Rattle.pawk_code.specs.Programs.{Selector, always, matching, between, Rule, Function, Code}
use Rattle.pawk_resolve.specs.Scopes.{Globals, Scope}
use Rattle.pawk_resolve.specs.ResolvedPrograms.{globals_of, global_scope, function_scope, kind_of}
use Rattle.pawk_resolve_law.specs.Names.{AreTables}
use Rattle.pawk_resolve_law.specs.Spelled.{spelled}
use Rattle.pawk_resolve_law.specs.SpelledStatements.{spelled_body}
use Rattle.pawk_resolve_law.specs.Fits.{Fits}
use Rattle.pawk_resolve_law.specs.FitsStatements.{FitsBody}

-- the names of a program that has these kinds, by their slots
abbrev pub names_of : Kinds → List Part → Globals
names_of k ps = globals_of k (eres_of_program ps) ps

-- the head of the function in the item of this number
pub record Head : Type 0 where
  pub item : ℕ
  pub name : Text
  pub parameters : List Text

abbrev pub heads_at : ℕ → Part → List Head
heads_at n (define f ps a) = record { item = n; name = f; parameters = ps } ∷ []
heads_at n _ = []

-- of items of which the first has this number
abbrev pub heads_from : ℕ → List Part → List Head
heads_from n [] = []
heads_from n (p ∷ ps) = heads_at n p ++ heads_from (suc n) ps

-- the functions of a program, by their slots; items are counted from 1
abbrev pub heads_of : List Part → List Head
heads_of = heads_from 1

-- ---- items

abbrev pub is_begin : Part → Bool
is_begin (begin a) = true
is_begin _ = false

abbrev pub is_end : Part → Bool
is_end (end a) = true
is_end _ = false

-- items of each sort, in their order
pub record Outline : Type 0 where
  pub begins : List Part
  pub rules : List Part
  pub ends : List Part
  pub functions : List Part

abbrev pub outline : List Part → Outline
outline ps = record {
  begins = filter is_begin ps;
  rules = filter is_rule ps;
  ends = filter is_end ps;
  functions = filter is_function ps;
}

-- ---- what code is another writing of

abbrev pub scope_of : Globals → Head → Scope
scope_of g h = function_scope g h.item h.parameters

module _ (g : Globals) where
  abbrev pub spelled_action : Stmts → TreeStmts
  spelled_action = spelled_body (global_scope g)

  abbrev pub spelled_on : Selector → TreeStmts → Part
  spelled_on always a = item.always a
  spelled_on (matching e) a = item.matching (spelled (global_scope g) e) a
  spelled_on (between e f) a = item.between (spelled (global_scope g) e) (spelled (global_scope g) f) a

  abbrev pub spelled_rule : Rule → Part
  spelled_rule r = spelled_on r.selector (spelled_action r.body)

  abbrev pub spelled_function : Head → Function → Part
  spelled_function h f = define h.name h.parameters (spelled_body (scope_of g h) f.body)

  abbrev pub spelled_functions : List Head → List Function → List Part
  spelled_functions (h ∷ hs) (f ∷ fs) = spelled_function h f ∷ spelled_functions hs fs
  spelled_functions _ _ = []

  abbrev pub spelled_program : List Head → Code → Outline
  spelled_program hs c = record {
    begins = map (λ a. begin (spelled_action a)) c.begins;
    rules = map spelled_rule c.rules;
    ends = map (λ a. end (spelled_action a)) c.ends;
    functions = spelled_functions hs c.functions;
  }

-- ---- normal form

abbrev pub Each : {A : Type 0} → (A → Type 0) → List A → Type 0
Each P [] = Unit {0}
Each P (x ∷ xs) = P x × Each P xs

module _ (g : Globals) where
  abbrev pub FitsAction : Stmts → Type 0
  FitsAction = FitsBody (global_scope g)

  abbrev pub FitsSelector : Selector → Type 0
  FitsSelector always = Unit {0}
  FitsSelector (matching e) = Fits (global_scope g) e
  FitsSelector (between e f) = Fits (global_scope g) e × Fits (global_scope g) f

  abbrev pub FitsRule : Rule → Type 0
  FitsRule r = FitsSelector r.selector × FitsAction r.body

  -- a function has a kind for each parameter
  abbrev pub FitsFunction : Head → Function → Type 0
  FitsFunction h f = AreTables (scope_of g h) × (f.kinds ≡ map (λ x. kind_of (g.kinds (h.item, x))) h.parameters)
      × FitsBody (scope_of g h) f.body

  -- one for each head
  abbrev pub FitsFunctions : List Head → List Function → Type 0
  FitsFunctions [] [] = Unit {0}
  FitsFunctions (h ∷ hs) (f ∷ fs) = FitsFunction h f × FitsFunctions hs fs
  FitsFunctions _ _ = ⊥

  pub record FitsProgram (hs : List Head) (c : Code) : Type 0 where
    pub tables : AreTables (global_scope g)
    pub scalars : c.scalars ≡ g.scalars
    pub arrays : c.arrays ≡ g.arrays
    pub expressions : c.expressions ≡ g.expressions
    pub begins : Each FitsAction c.begins
    pub rules : Each FitsRule c.rules
    pub ends : Each FitsAction c.ends
    pub functions : FitsFunctions hs c.functions
