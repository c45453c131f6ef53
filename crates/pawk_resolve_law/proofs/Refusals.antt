-- What is in no normal form.
use Rattle.std.proofs.Common.{◌≡◌, ◌≤◌, ℕ, length, Some, None, sym, ◌∙◌, arith}
use Rattle.pawk_code.specs.Expressions.{leaf, global}
use Rattle.pawk_resolve.specs.Slots.{place}
use Rattle.pawk_resolve.specs.Scopes.{Scope}
use Rattle.pawk_resolve_law.specs.Names.{name_at}
use Rattle.pawk_resolve_law.specs.Fits.{Fits}

pub hidden : (s : Scope) (n i : ℕ) → place s.parameters (name_at s.globals.scalars n) ≡ Some i → Fits s (leaf (global n)) → ⊥
hidden s n i e h = let no : None ≡ Some i = sym h.1 ∙ e in cc

pub past : (s : Scope) (n : ℕ) → length s.globals.scalars ≤ n → Fits s (leaf (global n)) → ⊥
past s n le h = omega (arith, le, h.0)
