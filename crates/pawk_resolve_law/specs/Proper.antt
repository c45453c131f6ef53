-- Trees of a program that passed the checks: each name is one of the scope, of the kind that its use asks; only what may be
-- assigned is; an expression between slashes occurs only where it may; calls of built-in functions have their
-- arguments.
use Rattle.std.specs.Prelude.{◌≡◌, ◌<◌, Bool, true, false, ◌||◌, None, is_some}
use Rattle.pawk_lex.specs.Bytes.{Text}
use Rattle.pawk_lex.specs.declared.token.Builtin.{Builtin}
use Rattle.pawk_lex.specs.declared.token.Builtin.TheVariants as b
use Rattle.pawk_value.specs.Limits.{number_limit}
use Rattle.pawk_syntax_tree.specs.declared.tree.Single.TheVariants as single
use Rattle.pawk_syntax_tree.specs.Tree.{Tree, number, string, ere, variable, element, unary, binary, choice, member, call, builtin, Trees, none, more, takes_ere}
use Rattle.pawk_syntax_check.specs.Mentions.{Role, as_target, role_under, role_left}
use Rattle.pawk_resolve.specs.Slots.{place}
use Rattle.pawk_resolve.specs.Scopes.{Scope, is_array, special_of}

module _ (s : Scope) where
  abbrev pub IsExpression : Text → Type 0
  IsExpression x = is_some (place s.globals.expressions x) ≡ true

  abbrev pub IsFunction : Text → Type 0
  IsFunction f = is_some (place s.globals.functions f) ≡ true

  -- a parameter, a variable that the run sets, or a global scalar
  abbrev pub IsScalar : Text → Type 0
  IsScalar x = (is_array s x ≡ false)
      × ((is_some (place s.parameters x) || (is_some (special_of x) || is_some (place s.globals.scalars x))) ≡ true)

  -- a parameter or a global array
  abbrev pub IsArray : Text → Type 0
  IsArray x = (is_array s x ≡ true) × ((is_some (place s.parameters x) || is_some (place s.globals.arrays x)) ≡ true)

  -- what may be assigned
  abbrev pub IsTarget : Tree → Type 0
  IsTarget (variable x) = special_of x ≡ None
  IsTarget (element x ts) = Unit {0}
  IsTarget (unary single.Field a) = Unit {0}
  IsTarget _ = ⊥

  abbrev pub Meets : Role → Tree → Type 0
  Meets as_target a = IsTarget a
  Meets _ a = Unit {0}

  abbrev pub IsArrayName : Tree → Type 0
  IsArrayName (variable x) = IsArray x
  IsArrayName _ = ⊥

  abbrev pub IsNamed : Bool → Text → Type 0
  IsNamed true x = IsArray x
  IsNamed false x = IsScalar x

  -- an argument of a function of the program: the name of an array or a value
  abbrev pub IsPassed : Tree → Type 0 → Type 0
  IsPassed (variable x) P = IsNamed (is_array s x) x
  IsPassed _ P = P

  -- an expression between slashes, or a value
  abbrev pub IsPattern : Tree → Type 0 → Type 0
  IsPattern (ere x) P = IsExpression x
  IsPattern _ P = P

  abbrev pub IsRight : Bool → Tree → Type 0 → Type 0
  IsRight true a P = IsPattern a P
  IsRight false a P = P

  abbrev mutual
    pub IsProper : Tree → Type 0
    IsProper (number n) = n < number_limit
    IsProper (string x) = Unit {0}
    IsProper (ere x) = ⊥
    IsProper (variable x) = IsScalar x
    IsProper (element x ts) = IsArray x × AreProper ts
    IsProper (unary op a) = Meets (role_under op) a × IsProper a
    IsProper (binary op a d) = Meets (role_left op) a × IsProper a × IsRight (takes_ere op) d (IsProper d)
    IsProper (choice c a d) = IsProper c × IsProper a × IsProper d
    IsProper (member ts x) = IsArray x × AreProper ts
    IsProper (call f ts) = IsFunction f × ArePassed ts
    IsProper (builtin f ts) = AreTaken f ts

    pub AreProper : Trees → Type 0
    AreProper none = Unit {0}
    AreProper (more a ts) = IsProper a × AreProper ts

    pub ArePassed : Trees → Type 0
    ArePassed none = Unit {0}
    ArePassed (more a ts) = IsPassed a (IsProper a) × ArePassed ts

    -- the arguments of a built-in function (POSIX.1-2017, awk, "Arithmetic Functions" and "String Functions")
    pub AreTaken : Builtin → Trees → Type 0
    AreTaken b.Length (more a none) = IsProper a
    AreTaken b.Int (more a none) = IsProper a
    AreTaken b.Tolower (more a none) = IsProper a
    AreTaken b.Toupper (more a none) = IsProper a
    AreTaken b.Index (more a (more d none)) = IsProper a × IsProper d
    AreTaken b.Substr (more a (more d none)) = IsProper a × IsProper d
    AreTaken b.Substr (more a (more d (more e none))) = IsProper a × IsProper d × IsProper e
    AreTaken b.Split (more a (more d none)) = IsProper a × IsArrayName d
    AreTaken b.Split (more a (more d (more e none))) = IsProper a × IsArrayName d × IsPattern e (IsProper e)
    AreTaken b.Match (more a (more d none)) = IsProper a × IsPattern d (IsProper d)
    AreTaken b.Sub (more a (more d (more e none))) = IsPattern a (IsProper a) × IsProper d × (IsTarget e × IsProper e)
    AreTaken b.Gsub (more a (more d (more e none))) = IsPattern a (IsProper a) × IsProper d × (IsTarget e × IsProper e)
    AreTaken b.Sprintf (more a ts) = IsProper a × AreProper ts
    AreTaken _ _ = ⊥
