-- The grammar of items and programs (POSIX.1-2017, awk, "Grammar": item_list, item, pattern, action).
use Rattle.std.specs.Prelude.{◌≡◌, Bool, true, false, List, [], ◌∷◌}
use Rattle.pawk_lex.specs.declared.token.Mark.TheVariants as m
use Rattle.pawk_lex.specs.Bytes.{Text}
use Rattle.pawk_lex.specs.Tokens.{Tok}
use Rattle.pawk_lex.specs.Tokens as t
use Rattle.pawk_syntax_tree.specs.Tree.{Tree, value}
use Rattle.pawk_syntax_tree.specs.Grammar.{Newlines, Derives}
use Rattle.pawk_syntax_tree.specs.Statement.{Stmts}
use Rattle.pawk_syntax_tree.specs.StatementGrammar.{Lists}
use Rattle.pawk_syntax_tree.specs.Item.{Part, begin, end, always, matching, between, define, print_record}

-- action: '{' newline_opt statements '}'
pub data Action : List Tok → List Tok → Stmts → Type 0 where
  an_action : {ts first rest : List Tok} {a : Stmts} → Newlines ts first → Lists first rest a →
      Action (t.mark m.LeftBrace ∷ ts) rest a

-- param_list_opt, up to and with the closing bracket; a newline may follow each comma
pub data Parameters : List Tok → List Tok → List Text → Type 0 where
  last_parameter : {x : Text} {ts : List Tok} → Parameters (t.name x ∷ t.mark m.RightParenthesis ∷ ts) ts (x ∷ [])
  a_parameter : {x : Text} {ts next rest : List Tok} {xs : List Text} → Newlines ts next → Parameters next rest xs →
      Parameters (t.name x ∷ t.mark m.Comma ∷ ts) rest (x ∷ xs)

pub data AllParameters : List Tok → List Tok → List Text → Type 0 where
  no_parameter : {ts : List Tok} → AllParameters (t.mark m.RightParenthesis ∷ ts) ts []
  some_parameters : {ts rest : List Tok} {xs : List Text} → Parameters ts rest xs → AllParameters ts rest xs

-- a name, also directly before `(`
pub data Named : Tok → Text → Type 0 where
  by_name : {x : Text} → Named (t.name x) x
  by_call : {x : Text} → Named (t.function_name x) x

-- an item, and whether it ends with an action
pub data Is : List Tok → List Tok → Part → Bool → Type 0 where
  a_begin : {ts rest : List Tok} {a : Stmts} → Action ts rest a → Is (t.mark m.Begin ∷ ts) rest (begin a) true
  an_end : {ts rest : List Tok} {a : Stmts} → Action ts rest a → Is (t.mark m.End ∷ ts) rest (end a) true
  a_rule : {ts rest : List Tok} {a : Stmts} → Action ts rest a → Is ts rest (always a) true
  a_pattern : {ts mid rest : List Tok} {p : Tree} {a : Stmts} → Derives true 0 ts mid p → Action mid rest a →
      Is ts rest (matching (value p) a) true
  a_bare_pattern : {ts rest : List Tok} {p : Tree} → Derives true 0 ts rest p →
      Is ts rest (matching (value p) print_record) false
  a_range : {ts one two mid rest : List Tok} {p q : Tree} {a : Stmts} → Derives true 0 ts (t.mark m.Comma ∷ one) p →
      Newlines one two → Derives true 0 two mid q → Action mid rest a →
      Is ts rest (between (value p) (value q) a) true
  a_bare_range : {ts one two rest : List Tok} {p q : Tree} → Derives true 0 ts (t.mark m.Comma ∷ one) p →
      Newlines one two → Derives true 0 two rest q → Is ts rest (between (value p) (value q) print_record) false
  a_function : {x : Tok} {f : Text} {ts one two rest : List Tok} {ps : List Text} {a : Stmts} → Named x f →
      AllParameters ts one ps → Newlines one two → Action two rest a →
      Is (t.mark m.Function ∷ x ∷ t.mark m.LeftParenthesis ∷ ts) rest (define f ps a) true

-- any number of `;` and newlines
pub data Separators : List Tok → List Tok → Type 0 where
  no_more : {ts : List Tok} → Separators ts ts
  a_semicolon : {ts rest : List Tok} → Separators ts rest → Separators (t.mark m.Semicolon ∷ ts) rest
  a_newline : {ts rest : List Tok} → Separators ts rest → Separators (t.mark m.Newline ∷ ts) rest

-- what may come between an item and the next: after an action nothing need
abbrev pub Separates : Bool → List Tok → List Tok → Type 0
Separates true ts rest = Separators ts rest
Separates false [] rest = rest ≡ []
Separates false (t.mark m.Semicolon ∷ ts) rest = Separators ts rest
Separates false (t.mark m.Newline ∷ ts) rest = Separators ts rest
Separates false _ rest = ⊥

pub data Items : List Tok → List Part → Type 0 where
  no_item : Items [] []
  an_item : {ts mid rest : List Tok} {x : Part} {closes : Bool} {xs : List Part} → Is ts mid x closes →
      Separates closes mid rest → Items rest xs → Items ts (x ∷ xs)

pub data Programs : List Tok → List Part → Type 0 where
  a_program : {ts rest : List Tok} {xs : List Part} → Newlines ts rest → Items rest xs → Programs ts xs
