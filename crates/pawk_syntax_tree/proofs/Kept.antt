-- Each tree that tokens derive is sound.
use Rattle.std.proofs.Common.{◌≡◌, ◌≤◌, ℕ, Bool, true, false, List, Option, Some, refl, arith}
use Rattle.pawk_lex.specs.declared.token.Mark.{Mark}
use Rattle.pawk_lex.specs.declared.token.Builtin.{Builtin}
use Rattle.pawk_lex.specs.declared.token.Builtin.TheVariants as b
use Rattle.pawk_lex.specs.Tokens.{Tok}
use Rattle.pawk_syntax_tree.specs.declared.tree.Single.{Single}
use Rattle.pawk_syntax_tree.specs.declared.tree.Double.{Double}
use Rattle.pawk_syntax_tree.specs.declared.tree.Double.TheVariants as double
use Rattle.pawk_syntax_tree.specs.Tree.{Tree, number, string, ere, variable, element, unary, binary, choice, member, call, builtin, Trees, none, more, value, value_unless, takes_ere, takes_ere_at, right_side, argument, complete}
use Rattle.pawk_syntax_tree.specs.Levels.{binding}
use Rattle.pawk_syntax_tree.specs.Canonical.{IsLvalue, FitsSingle, FitsDouble, IsSound, AreSound}
use Rattle.pawk_syntax_tree.specs.Grammar.{Signs, not, plus, minus, StepsBefore, increment_before, decrement_before, StepsAfter, increment_after, decrement_after, Derives, a_number, a_string, an_ere, a_group, a_call, a_builtin, a_length, a_variable, an_element, a_field, a_field_step, a_primary, no_lvalue, an_lvalue, a_step_before, a_step_after, a_sign, joined, beside, a_member, a_tuple_member, a_choice, wider, DerivesEach, one_phrase, one_more, DerivesAny, no_phrase, some}
use Rattle.pawk_syntax_tree.proofs.Sound.{level_low, each_some}

pub value_twice : (a : Tree) → value (value a) ≡ value a
value_twice (ere x) = refl
value_twice _ = refl

pub sound_value : (a : Tree) → IsSound a → IsSound (value a)
sound_value (ere x) h = (tt, refl, refl, (tt, refl, tt), tt)
sound_value (number n) h = h
sound_value (string x) h = h
sound_value (variable x) h = h
sound_value (element x as') h = h
sound_value (unary op a) h = h
sound_value (binary op a d) h = h
sound_value (choice a d e) h = h
sound_value (member as' x) h = h
sound_value (call f as') h = h
sound_value (builtin f as') h = h

unless_twice : (q : Bool) (a : Tree) → value_unless q (value_unless q a) ≡ value_unless q a
unless_twice true a = refl
unless_twice false a = value_twice a

sound_unless : (q : Bool) (a : Tree) → IsSound a → IsSound (value_unless q a)
sound_unless true a h = h
sound_unless false a h = sound_value a h

pub right_twice : (op : Double) (a : Tree) → right_side op (right_side op a) ≡ right_side op a
right_twice op a = unless_twice (takes_ere op) a

pub argument_twice : (f : Option Builtin) (place : ℕ) (a : Tree) → argument f place (argument f place a) ≡ argument f place a
argument_twice f place a = unless_twice (takes_ere_at f place) a

lvalue_value : (a : Tree) → IsLvalue a → value a ≡ a
lvalue_value (ere x) h = absurd h
lvalue_value _ h = refl

value_lvalue : (a : Tree) → IsLvalue a → IsLvalue (value a)
value_lvalue (ere x) h = absurd h
value_lvalue (variable x) h = h
value_lvalue (element x as') h = h
value_lvalue (unary op a) h = h
value_lvalue (number n) h = absurd h
value_lvalue (string x) h = absurd h
value_lvalue (binary op a d) h = absurd h
value_lvalue (choice a d e) h = absurd h
value_lvalue (member as' x) h = absurd h
value_lvalue (call f as') h = absurd h
value_lvalue (builtin f as') h = absurd h

derived_lvalue : {c : Bool} {k : ℕ} {ts rest : List Tok} {a : Tree} → Derives c k ts rest a → 14 ≤ k → IsLvalue a
derived_lvalue a_variable le = tt
derived_lvalue (an_element ds) le = tt
derived_lvalue (a_field d) le = tt
derived_lvalue (a_field_step is d) le = tt
derived_lvalue a_number le = absurd (omega arith)
derived_lvalue a_string le = absurd (omega arith)
derived_lvalue an_ere le = absurd (omega arith)
derived_lvalue (a_group d) le = absurd (omega arith)
derived_lvalue (a_call ds) le = absurd (omega arith)
derived_lvalue (a_builtin ds) le = absurd (omega arith)
derived_lvalue (a_length free) le = absurd (omega arith)
derived_lvalue (a_primary high d) le = absurd (omega arith)
derived_lvalue (no_lvalue d) le = absurd (omega arith)
derived_lvalue (an_lvalue d free) le = absurd (omega arith)
derived_lvalue (a_step_before is d) le = absurd (omega arith)
derived_lvalue (a_step_after is d) le = absurd (omega arith)
derived_lvalue (a_sign is d) le = absurd (omega arith)
derived_lvalue (joined {op = op} is may d gap e) le = absurd (omega (arith, level_low op))
derived_lvalue (beside d free e) le = absurd (omega arith)
derived_lvalue (a_member d) le = absurd (omega arith)
derived_lvalue (a_tuple_member ds) le = absurd (omega arith)
derived_lvalue (a_choice d e f) le = absurd (omega arith)
derived_lvalue (wider below low d) le = absurd (omega arith)

-- an operator that assigns asks for an lvalue on its left
fits_left : (op : Double) (a : Tree) → (14 ≤ (binding op).left → IsLvalue a) → FitsDouble op (value a)
fits_left double.Assign a h = value_lvalue a (h (omega arith))
fits_left double.AddAssign a h = value_lvalue a (h (omega arith))
fits_left double.SubtractAssign a h = value_lvalue a (h (omega arith))
fits_left double.MultiplyAssign a h = value_lvalue a (h (omega arith))
fits_left double.DivideAssign a h = value_lvalue a (h (omega arith))
fits_left double.RemainderAssign a h = value_lvalue a (h (omega arith))
fits_left double.PowerAssign a h = value_lvalue a (h (omega arith))
fits_left _ a h = tt

fits_sign : {s : Mark} {op : Single} (a : Tree) → Signs s op → FitsSingle op a
fits_sign a not = tt
fits_sign a plus = tt
fits_sign a minus = tt

fits_before : {s : Mark} {op : Single} (a : Tree) → StepsBefore s op → IsLvalue a → FitsSingle op a
fits_before a increment_before h = h
fits_before a decrement_before h = h

fits_after : {s : Mark} {op : Single} (a : Tree) → StepsAfter s op → IsLvalue a → FitsSingle op a
fits_after a increment_after h = h
fits_after a decrement_after h = h

-- ---- complete calls

complete_twice : (f : Builtin) (bs : Trees) → complete f (complete f bs) ≡ complete f bs
complete_twice b.Length none = refl
complete_twice b.Length (more a bs) = refl
complete_twice b.Sub none = refl
complete_twice b.Sub (more a none) = refl
complete_twice b.Sub (more a (more d none)) = refl
complete_twice b.Sub (more a (more d (more e bs))) = refl
complete_twice b.Gsub none = refl
complete_twice b.Gsub (more a none) = refl
complete_twice b.Gsub (more a (more d none)) = refl
complete_twice b.Gsub (more a (more d (more e bs))) = refl
complete_twice _ bs = refl

sound_complete : (f : Builtin) (bs : Trees) → AreSound (Some f) 0 bs → AreSound (Some f) 0 (complete f bs)
sound_complete b.Length none h = (refl, (tt, refl, tt), tt)
sound_complete b.Length (more a bs) h = h
sound_complete b.Sub none h = h
sound_complete b.Sub (more a none) h = h
sound_complete b.Sub (more a (more d none)) h = (h.0, h.1, (h.2.0, h.2.1, (refl, (tt, refl, tt), tt)))
sound_complete b.Sub (more a (more d (more e bs))) h = h
sound_complete b.Gsub none h = h
sound_complete b.Gsub (more a none) h = h
sound_complete b.Gsub (more a (more d none)) h = (h.0, h.1, (h.2.0, h.2.1, (refl, (tt, refl, tt), tt)))
sound_complete b.Gsub (more a (more d (more e bs))) h = h
sound_complete _ bs h = h

mutual
  pub kept : {c : Bool} {k : ℕ} {ts rest : List Tok} {a : Tree} → Derives c k ts rest a → IsSound a
  kept a_number = tt
  kept a_string = tt
  kept an_ere = tt
  kept (a_group {a = a} d) = sound_value a (kept d)
  kept (a_call ds) = any_kept ds
  kept (a_builtin {f = f} {bs = bs} ds) = (complete_twice f bs, sound_complete f bs (any_kept ds))
  kept (a_length free) = (refl, (refl, (tt, refl, tt), tt))
  kept a_variable = tt
  kept (an_element ds) = (each_some ds, each_kept ds)
  kept (a_field {a = a} d) = (tt, value_twice a, sound_value a (kept d))
  kept (a_field_step {op = op} {a = a} is d) =
      let place : IsLvalue a = derived_lvalue d (omega arith) in
      (tt, refl, (fits_before a is place, lvalue_value a place, kept d))
  kept (a_primary high d) = kept d
  kept (no_lvalue d) = kept d
  kept (an_lvalue d free) = kept d
  kept (a_step_before {a = a} is d) = let place : IsLvalue a = derived_lvalue d (omega arith) in (fits_before a is place, lvalue_value a place, kept d)
  kept (a_step_after {a = a} is d) = let place : IsLvalue a = derived_lvalue d (omega arith) in (fits_after a is place, lvalue_value a place, kept d)
  kept (a_sign {a = a} is d) = (fits_sign (value a) is, value_twice a, sound_value a (kept d))
  kept (joined {op = op} {a = a} {d = e} is may d gap q) =
      (fits_left op a (λ high. derived_lvalue d high), value_twice a, right_twice op e, sound_value a (kept d), sound_unless (takes_ere op) e (kept q))
  kept (beside {a = a} {d = e} d free q) = (tt, value_twice a, value_twice e, sound_value a (kept d), sound_value e (kept q))
  kept (a_member {a = a} d) = (tt, (value_twice a, sound_value a (kept d), tt))
  kept (a_tuple_member ds) = (tt, each_kept ds)
  kept (a_choice {a = a} {d = d} {e = e} p q r) =
      ((value_twice a, sound_value a (kept p)), (value_twice d, sound_value d (kept q)), (value_twice e, sound_value e (kept r)))
  kept (wider below low d) = kept d

  pub each_kept : {c : Bool} {f : Option Builtin} {place : ℕ} {ts rest : List Tok} {bs : Trees} → DerivesEach c f place ts rest bs → AreSound f place bs
  each_kept (one_phrase {f = f} {place = place} {a = a} d) = (argument_twice f place a, sound_unless (takes_ere_at f place) a (kept d), tt)
  each_kept (one_more {f = f} {place = place} {a = a} d gap ds) = (argument_twice f place a, sound_unless (takes_ere_at f place) a (kept d), each_kept ds)

  any_kept : {f : Option Builtin} {ts rest : List Tok} {bs : Trees} → DerivesAny f ts rest bs → AreSound f 0 bs
  any_kept no_phrase = tt
  any_kept (some ds) = each_kept ds
