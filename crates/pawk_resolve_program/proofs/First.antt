-- A name keeps its slot while others come.
use Rattle.std.proofs.Common.{◌≡◌, ℕ, List, [], ◌∷◌, ◌++◌, Option, Some, None, refl, sym, ap, inl, inr}
use Rattle.std.specs.Prelude.{is_some, unwrap_or, filter, codes, suc}
use Rattle.std.specs.List.{flat_map}
use Rattle.std.specs.Option.{option_map}
use Rattle.std.specs.Str.{bytes_eq}
use Rattle.std.proofs.lemmas.Bool.{cases_Bool}
use Rattle.pawk_lex.specs.Bytes.{Text}
use Rattle.pawk_syntax_tree.specs.Item.{Part}
use Rattle.pawk_syntax_check.specs.Demands.{Kinds}
use Rattle.pawk_resolve.specs.Slots.{place, slot, with_text, with_texts}
use Rattle.pawk_code.specs.FirstSlots.{first_scalars}
use Rattle.pawk_resolve.specs.ResolvedPrograms.{is_global_scalar, global_names, scalar_names}
use Rattle.pawk_resolve_program.specs.FirstSlots.{AreFirst}

none_more : (o : Option ℕ) (n : ℕ) → option_map suc o ≡ Some n → (m : ℕ) × (o ≡ Some m) × (n ≡ suc m)
none_more None n h = let no : None ≡ Some n = h in cc
none_more (Some m) n h = (m, refl, let e : Some (suc m) ≡ Some n = h in cc)

front : (ys zs : List Text) (x : Text) (n : ℕ) → place ys x ≡ Some n → place (ys ++ zs) x ≡ Some n
front [] zs x n h = let no : None ≡ Some n = h in cc
front (y ∷ ys) zs x n h = elim (cases_Bool (bytes_eq y x)) [
  | inl e ↦ rw e (rw e at h)
  | inr e ↦
      let rest : option_map suc (place ys x) ≡ Some n = rw e at h in
      let found = none_more (place ys x) n rest in
      rw (e, front ys zs x found.0 found.1) (ap Some (sym found.2))
]

one_more : (ys : List Text) (z x : Text) (n : ℕ) → place ys x ≡ Some n → place (with_text ys z) x ≡ Some n
one_more ys z x n h = elim (cases_Bool (is_some (place ys z))) [
  | inl e ↦ rw e h
  | inr e ↦ rw e (front ys (z ∷ []) x n h)
]

others : (ys zs : List Text) (x : Text) (n : ℕ) → place ys x ≡ Some n → place (with_texts ys zs) x ≡ Some n
others ys [] x n h = h
others ys (z ∷ zs) x n h = others (with_text ys z) zs x n (one_more ys z x n h)

stays : (k : Kinds) (ps : List Part) (x : Text) (n : ℕ) → place first_scalars x ≡ Some n → slot (scalar_names k ps) x ≡ n
stays k ps x n h =
    ap (λ o. unwrap_or o 0) (others first_scalars (filter (is_global_scalar k) (flat_map global_names ps)) x n h)

pub first_slots : (k : Kinds) (ps : List Part) → AreFirst (scalar_names k ps)
first_slots k ps = record {
  fs = stays k ps (codes "FS") 0 refl;
  ofs = stays k ps (codes "OFS") 1 refl;
  ors = stays k ps (codes "ORS") 2 refl;
  rs = stays k ps (codes "RS") 3 refl;
  subsep = stays k ps (codes "SUBSEP") 4 refl;
}
