-- Expressions that writable tokens derive have writable names, numbers, strings and expressions between slashes.
use Rattle.std.proofs.Common.{ℕ, Bool, true, false, List, Option, arith}
use Rattle.pawk_lex.specs.declared.token.Builtin.{Builtin}
use Rattle.pawk_lex.specs.declared.token.Builtin.TheVariants as b
use Rattle.pawk_lex.specs.Tokens.{Tok}
use Rattle.pawk_lex.specs.Tokens as t
use Rattle.pawk_lex.specs.Canonical.{IsWritable, AreWritable}
use Rattle.pawk_syntax_tree.specs.declared.tree.Double.{Double}
use Rattle.pawk_syntax_tree.specs.declared.tree.Double.TheVariants as double
use Rattle.pawk_syntax_tree.specs.Tree.{Tree, number, string, ere, variable, element, unary, binary, choice, member, call, builtin, Trees, none, more, record_tree, value, value_unless, takes_ere, takes_ere_at, complete}
use Rattle.pawk_syntax_tree.specs.Grammar.{Newlines, no_line, a_line, Gap, Derives, a_number, a_string, an_ere, a_group, a_call, a_builtin, a_length, a_variable, an_element, a_field, a_field_step, a_primary, no_lvalue, an_lvalue, a_step_before, a_step_after, a_sign, joined, beside, a_member, a_tuple_member, a_choice, wider, DerivesEach, one_phrase, one_more, DerivesAny, no_phrase, some}

abbrev mutual
  pub IsWritableTree : Tree → Type 0
  IsWritableTree (number n) = IsWritable (t.number n)
  IsWritableTree (string x) = IsWritable (t.string x)
  IsWritableTree (ere x) = IsWritable (t.ere x)
  IsWritableTree (variable x) = IsWritable (t.name x)
  IsWritableTree (element x as') = IsWritable (t.name x) × AreWritableTrees as'
  IsWritableTree (unary op a) = IsWritableTree a
  IsWritableTree (binary op a d) = IsWritableTree a × IsWritableTree d
  IsWritableTree (choice a d e) = IsWritableTree a × IsWritableTree d × IsWritableTree e
  IsWritableTree (member as' x) = AreWritableTrees as' × IsWritable (t.name x)
  IsWritableTree (call f as') = IsWritable (t.function_name f) × AreWritableTrees as'
  IsWritableTree (builtin f as') = AreWritableTrees as'

  pub AreWritableTrees : Trees → Type 0
  AreWritableTrees none = Unit {0}
  AreWritableTrees (more a bs) = IsWritableTree a × AreWritableTrees bs

-- a tree that was derived can be written, and so can the tokens after it
abbrev pub Leaves : Tree → List Tok → Type 0
Leaves a rest = IsWritableTree a × AreWritable rest

abbrev pub LeaveAll : Trees → List Tok → Type 0
LeaveAll bs rest = AreWritableTrees bs × AreWritable rest

pub record_writable : IsWritableTree record_tree
record_writable = omega arith

pub value_writable : (a : Tree) → IsWritableTree a → IsWritableTree (value a)
value_writable (ere x) h = (record_writable, h)
value_writable _ h = h

unless_writable : (keep : Bool) (a : Tree) → IsWritableTree a → IsWritableTree (value_unless keep a)
unless_writable true a h = h
unless_writable false a h = value_writable a h

complete_writable : (f : Builtin) (bs : Trees) → AreWritableTrees bs → AreWritableTrees (complete f bs)
complete_writable b.Length none h = (record_writable, tt)
complete_writable b.Length (more a bs) h = h
complete_writable b.Sub none h = h
complete_writable b.Sub (more a none) h = h
complete_writable b.Sub (more a (more d none)) h = (h.0, (h.1.0, (record_writable, tt)))
complete_writable b.Sub (more a (more d (more e bs))) h = h
complete_writable b.Gsub none h = h
complete_writable b.Gsub (more a none) h = h
complete_writable b.Gsub (more a (more d none)) h = (h.0, (h.1.0, (record_writable, tt)))
complete_writable b.Gsub (more a (more d (more e bs))) h = h
complete_writable _ bs h = h

pub lines_writable : {ts rest : List Tok} → Newlines ts rest → AreWritable ts → AreWritable rest
lines_writable no_line g = g
lines_writable (a_line n) g = lines_writable n g.1

gap_writable : (op : Double) (ts rest : List Tok) → Gap op ts rest → AreWritable ts → AreWritable rest
gap_writable double.Or ts rest n g = lines_writable n g
gap_writable double.And ts rest n g = lines_writable n g
gap_writable _ ts rest e g = rw (← e) g

mutual
  pub derived_writable : {c : Bool} {k : ℕ} {ts rest : List Tok} {a : Tree} → Derives c k ts rest a → AreWritable ts → Leaves a rest
  derived_writable a_number g = g
  derived_writable a_string g = g
  derived_writable an_ere g = g
  derived_writable (a_group {a = a} d) g = let h = derived_writable d g.1 in (value_writable a h.0, h.1.1)
  derived_writable (a_call ds) g = let h = any_writable ds g.1.1 in ((g.0, h.0), h.1.1)
  derived_writable (a_builtin {f = f} {bs = bs} ds) g = let h = any_writable ds g.1.1 in (complete_writable f bs h.0, h.1.1)
  derived_writable (a_length free) g = ((record_writable, tt), g.1)
  derived_writable a_variable g = g
  derived_writable (an_element ds) g = let h = each_writable ds g.1.1 in ((g.0, h.0), h.1.1)
  derived_writable (a_field {a = a} d) g = let h = derived_writable d g.1 in (value_writable a h.0, h.1)
  derived_writable (a_field_step is d) g = derived_writable d g.1.1
  derived_writable (a_primary high d) g = derived_writable d g
  derived_writable (no_lvalue d) g = derived_writable d g
  derived_writable (an_lvalue d free) g = derived_writable d g
  derived_writable (a_step_before is d) g = derived_writable d g.1
  derived_writable (a_step_after is d) g = let h = derived_writable d g in (h.0, h.1.1)
  derived_writable (a_sign {a = a} is d) g = let h = derived_writable d g.1 in (value_writable a h.0, h.1)
  derived_writable (joined {op = op} {mid = mid} {next = next} {a = a} {d = e} is may d gap q) g =
      let h = derived_writable d g in
      let i = derived_writable q (gap_writable op mid next gap h.1.1) in
      ((value_writable a h.0, unless_writable (takes_ere op) e i.0), i.1)
  derived_writable (beside {a = a} {d = e} d free q) g =
      let h = derived_writable d g in
      let i = derived_writable q h.1 in
      ((value_writable a h.0, value_writable e i.0), i.1)
  derived_writable (a_member {a = a} d) g =
      let h = derived_writable d g in
      (((value_writable a h.0, tt), h.1.1.0), h.1.1.1)
  derived_writable (a_tuple_member ds) g =
      let h = each_writable ds g.1 in
      ((h.0, h.1.1.1.0), h.1.1.1.1)
  derived_writable (a_choice {a = a} {d = d} {e = e} p q r) g =
      let h = derived_writable p g in
      let i = derived_writable q h.1.1 in
      let j = derived_writable r i.1.1 in
      ((value_writable a h.0, value_writable d i.0, value_writable e j.0), j.1)
  derived_writable (wider below low d) g = derived_writable d g

  pub each_writable : {c : Bool} {f : Option Builtin} {place : ℕ} {ts rest : List Tok} {bs : Trees} → DerivesEach c f place ts rest bs → AreWritable ts → LeaveAll bs rest
  each_writable (one_phrase {f = f} {place = place} {a = a} d) g =
      let h = derived_writable d g in
      ((unless_writable (takes_ere_at f place) a h.0, tt), h.1)
  each_writable (one_more {f = f} {place = place} {a = a} d gap ds) g =
      let h = derived_writable d g in
      let i = each_writable ds (lines_writable gap h.1.1) in
      ((unless_writable (takes_ere_at f place) a h.0, i.0), i.1)

  any_writable : {f : Option Builtin} {ts rest : List Tok} {bs : Trees} → DerivesAny f ts rest bs → AreWritable ts → LeaveAll bs rest
  any_writable no_phrase g = (tt, g)
  any_writable (some ds) g = each_writable ds g
