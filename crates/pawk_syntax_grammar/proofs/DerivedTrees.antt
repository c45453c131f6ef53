-- The expressions of a tree are those of the tokens that derive it.
use Rattle.std.proofs.Common.{◌≡◌, ℕ, Bool, true, false, List, Option, refl, sym, ap, ◌∙◌}
use Rattle.pawk_lex.specs.declared.token.Builtin.{Builtin}
use Rattle.pawk_lex.specs.declared.token.Builtin.TheVariants as b
use Rattle.pawk_lex.specs.Bytes.{Text}
use Rattle.pawk_lex.specs.Tokens.{Tok}
use Rattle.pawk_syntax_tree.specs.declared.tree.Double.{Double}
use Rattle.pawk_syntax_tree.specs.declared.tree.Double.TheVariants as double
use Rattle.pawk_syntax_tree.specs.Tree.{Tree, ere, Trees, none, more, value, value_unless, takes_ere, takes_ere_at, right_side, complete}
use Rattle.pawk_syntax_tree.specs.Grammar.{Newlines, no_line, a_line, Gap, Derives, a_number, a_string, an_ere, a_group, a_call, a_builtin, a_length, a_variable, an_element, a_field, a_field_step, a_primary, no_lvalue, an_lvalue, a_step_before, a_step_after, a_sign, joined, beside, a_member, a_tuple_member, a_choice, wider, DerivesEach, one_phrase, one_more, DerivesAny, no_phrase, some}
use Rattle.pawk_syntax_grammar.specs.Expressions.{eres, in_tree, in_trees}

pub over_lines : {ts rest : List Tok} → Newlines ts rest → eres ts ≡ eres rest
over_lines no_line = refl
over_lines (a_line gap) = over_lines gap

over_gap : (op : Double) (ts rest : List Tok) → Gap op ts rest → eres ts ≡ eres rest
over_gap double.Or ts rest gap = over_lines gap
over_gap double.And ts rest gap = over_lines gap
over_gap _ ts rest gap = ap eres gap

-- what counts of a tree has its expressions
pub of_value : (a : Tree) (rest : List Text) → in_tree (value a) rest ≡ in_tree a rest
of_value (ere x) rest = refl
of_value _ rest = refl

of_unless : (q : Bool) (a : Tree) (rest : List Text) → in_tree (value_unless q a) rest ≡ in_tree a rest
of_unless true a rest = refl
of_unless false a rest = of_value a rest

of_complete : (f : Builtin) (bs : Trees) (rest : List Text) → in_trees (complete f bs) rest ≡ in_trees bs rest
of_complete b.Length none rest = refl
of_complete b.Length (more a bs) rest = refl
of_complete b.Sub none rest = refl
of_complete b.Sub (more a none) rest = refl
of_complete b.Sub (more a (more d none)) rest = refl
of_complete b.Sub (more a (more d (more e bs))) rest = refl
of_complete b.Gsub none rest = refl
of_complete b.Gsub (more a none) rest = refl
of_complete b.Gsub (more a (more d none)) rest = refl
of_complete b.Gsub (more a (more d (more e bs))) rest = refl
of_complete _ bs rest = refl

mutual
  pub derived : {c : Bool} {k : ℕ} {ts rest : List Tok} {a : Tree} → Derives c k ts rest a → eres ts ≡ in_tree a (eres rest)
  derived a_number = refl
  derived a_string = refl
  derived an_ere = refl
  derived (a_group {rest = rest} {a = a} d) = derived d ∙ sym (of_value a (eres rest))
  derived (a_call ds) = derived_any ds
  derived (a_builtin {f = f} {rest = rest} {bs = bs} ds) = derived_any ds ∙ sym (of_complete f bs (eres rest))
  derived (a_length free) = refl
  derived a_variable = refl
  derived (an_element ds) = derived_each ds
  derived (a_field {rest = rest} {a = a} d) = derived d ∙ sym (of_value a (eres rest))
  derived (a_field_step is d) = derived d
  derived (a_primary high d) = derived d
  derived (no_lvalue d) = derived d
  derived (an_lvalue d free) = derived d
  derived (a_step_before is d) = derived d
  derived (a_step_after is d) = derived d
  derived (a_sign {rest = rest} {a = a} is d) = derived d ∙ sym (of_value a (eres rest))
  derived (joined {op = op} {mid = mid} {next = next} {rest = rest} {a = a} {d = e} is may d gap q) =
      derived d ∙ (ap (in_tree a) (over_gap op mid next gap ∙ derived q) ∙
      (ap (in_tree a) (sym (of_unless (takes_ere op) e (eres rest))) ∙ sym (of_value a (in_tree (right_side op e) (eres rest)))))
  derived (beside {rest = rest} {a = a} {d = e} d free q) =
      derived d ∙ (ap (in_tree a) (derived q ∙ sym (of_value e (eres rest))) ∙ sym (of_value a (in_tree (value e) (eres rest))))
  derived (a_member {rest = rest} {a = a} d) = derived d ∙ sym (of_value a (eres rest))
  derived (a_tuple_member ds) = derived_each ds
  derived (a_choice {rest = rest} {a = a} {d = d} {e = e} p q r) =
      let last = derived r ∙ sym (of_value e (eres rest)) in
      let second = derived q ∙ (ap (in_tree d) last ∙ sym (of_value d (in_tree (value e) (eres rest)))) in
      derived p ∙ (ap (in_tree a) second ∙ sym (of_value a (in_tree (value d) (in_tree (value e) (eres rest)))))
  derived (wider below low d) = derived d

  pub derived_each : {c : Bool} {f : Option Builtin} {place : ℕ} {ts rest : List Tok} {bs : Trees} → DerivesEach c f place ts rest bs → eres ts ≡ in_trees bs (eres rest)
  derived_each (one_phrase {f = f} {place = place} {rest = rest} {a = a} d) = derived d ∙ sym (of_unless (takes_ere_at f place) a (eres rest))
  derived_each (one_more {f = f} {place = place} {rest = rest} {a = a} {bs = bs} d gap ds) =
      derived d ∙ (ap (in_tree a) (over_lines gap ∙ derived_each ds) ∙ sym (of_unless (takes_ere_at f place) a (in_trees bs (eres rest))))

  derived_any : {f : Option Builtin} {ts rest : List Tok} {bs : Trees} → DerivesAny f ts rest bs → eres ts ≡ in_trees bs (eres rest)
  derived_any no_phrase = refl
  derived_any (some ds) = derived_each ds
