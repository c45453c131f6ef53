-- The numbers and the keys of globals, cell by cell.
use Rattle.std.proofs.Common.{◌≡◌, ℕ, zero, suc, pos, ◌||◌, Bool, true, false, List, [], ◌∷◌, All, Option, Some, None, unwrap_or, refl, sym, ◌∙◌, subst, rules, slice_index_or}
use Rattle.std.specs.List.{list_any}
use Rattle.std.specs.Option.{option_map}
use Rattle.std.specs.Prelude.{is_some}
use Rattle.std.specs.FinMap.Entries.{is_some-find}
use Rattle.std.proofs.lemmas.List.Elements.{All-head, All-tail}
use Rattle.pawk_value.specs.Range.{FitsWord}
use Rattle.pawk_value.specs.Value.{Val, lent_value}
use Rattle.pawk_value.specs.Conversion.{num_of}
use Rattle.pawk_value.specs.declared.values.ValueRef.{ValueRef}
use Rattle.pawk_value.specs.declared.values.ValueRef.TheVariants as value
use Rattle.pawk_array.specs.Entries.{Entries, order, Rise, found, keys, value_of}
use Rattle.pawk_world.specs.Worlds.{Cell, scalar, element}
use Rattle.pawk_store.specs.Globals.{Globals, value_at}
use Rattle.pawk_admit.specs.declared.role.Role.TheVariants.{Adder}
use Rattle.pawk_admit.specs.Roles.{Roles, role_of_array}
use Rattle.pawk_commute.specs.Settings.{AreInOrder, FitsIfOk, role_of_cell}
use Rattle.pawk_merge.proofs.ArrayLemmas.{same_key, same_is}

-- a value that is lent, or none
pub lent_or : (o : Option ValueRef) → lent_value (unwrap_or o value.Uninit) ≡ value_of (option_map lent_value o)
lent_or None = refl
lent_or (Some v) = refl

zero_fits : FitsWord (pos 0)
zero_fits = search rules

none_fits : (o : Option Val) → is_some o ≡ false → FitsIfOk (num_of (value_of o))
none_fits None e = zero_fits
none_fits (Some v) e = absurd (cc)

module _ (es : Entries) (q : List ℕ) where
  abbrev pub Fits : List ℕ → Type 0
  Fits key = FitsIfOk (num_of (value_of (found key es)))

  among : (ks : List (List ℕ)) → All Fits ks → list_any (same_key q) ks ≡ true → Fits q
  among [] h e = absurd (cc)
  among (k ∷ ks) h e = by (same_key q k) refl (λ rest. among ks (All-tail Fits k ks h) rest) e
    where
      by : (b : Bool) → same_key q k ≡ b → (list_any (same_key q) ks ≡ true → Fits q) → (b || list_any (same_key q) ks) ≡ true → Fits q
      by true same later _ = subst Fits (sym (same_is q k same)) (All-head Fits k ks h)
      by false other later rest = later rest

  -- where the numbers of all keys fit, so does that of any element; one that is missing has 0
  pub each_fits : All Fits (keys es) → Fits q
  each_fits h = by (list_any (same_key q) (keys es)) refl
    where
      by : (b : Bool) → list_any (same_key q) (keys es) ≡ b → Fits q
      by true e = among (keys es) h e
      by false e = none_fits (found q es) (is_some-find order q es ∙ e)

rise_at : (arrays : List Entries) (n : ℕ) → All Rise arrays → Rise (slice_index_or arrays n [])
rise_at [] n h = refl
rise_at (es ∷ arrays) zero h = All-head Rise es arrays h
rise_at (es ∷ arrays) (suc n) h = rise_at arrays n (All-tail Rise es arrays h)

pub in_order : (g : Globals) → All Rise g.arrays → AreInOrder g
in_order g h n = rise_at g.arrays n h

pub numbers : (roles : Roles) (g : Globals) → ((n : ℕ) → FitsIfOk (num_of (value_at (scalar n) g)))
    → ((n : ℕ) → role_of_array roles n ≡ Adder → (key : List ℕ) → FitsIfOk (num_of (value_at (element n key) g)))
    → (c : Cell) → role_of_cell roles c ≡ Adder → FitsIfOk (num_of (value_at c g))
numbers roles g scalars elements (scalar n) role = scalars n
numbers roles g scalars elements (element n key) role = elements n role key
