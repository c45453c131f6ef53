-- A table with one more name.
use Rattle.std.proofs.Common.{◌≡◌, ℕ, ◌+◌, ◌<◌, Bool, true, false, cond, List, [], ◌∷◌, ◌++◌, length, Option, Some, None, refl, sym, ◌∙◌, ap, subst, arith, length-append, inl, inr, ⊎_elim}
use Rattle.std.specs.Prelude.{◌⊎◌}
use Rattle.std.proofs.Math.ListN.{get_or-append}
use Rattle.std.proofs.Math.Seq.{get_or-append_seam}
use Rattle.std.proofs.lemmas.List.{map-append, length-map}
use Rattle.std.specs.Ordering.{nat_cmp, ordering_then, is_eq, ordering_reverse}
use Rattle.std.specs.declared.cmp.Ordering.{Ordering}
use Rattle.std.specs.declared.cmp.Ordering.TheVariants.{Less, Equal, Greater}
use Rattle.std.proofs.lemmas.Bool.{cases_eq}
use Rattle.std.specs.Cmp.{nat_cmp_is}
use Rattle.std.proofs.lemmas.Cmp.{nat_list_cmp_total}
use Rattle.std.specs.Cmp.Lexicographic.{slice_cmp}
use Rattle.std.proofs.lemmas.Map.Lookups.{exact_pairs, exact_unsigned, exact_bytes}
use Rattle.pawk_syntax_check.specs.declared.variables.ScopedName.{ScopedName}
use Rattle.pawk_syntax_check.specs.declared.variables.Variables.{Variables}
use Rattle.pawk_syntax_check.specs.Tables.{Name, key_view, names, nth, number_of, IsTable}

-- over plain lists and functions: `same` says the new name
module _ (xs : List Name) (k : Name) (old new : Name → Option ℕ) (same : Name → Bool)
    (is_new : (v : Name) → new v ≡ cond (same v) (Some (length xs)) (old v))
    (is_same : (v : Name) → same v ≡ true → v ≡ k) (is_self : same k ≡ true) (absent : old k ≡ None)
    (has_name : (v : Name) (i : ℕ) → old v ≡ Some i → (i < length xs) × (nth xs i ≡ v))
    (has_number : (i : ℕ) → i < length xs → old (nth xs i) ≡ Some i) where
  last : nth (xs ++ k ∷ []) (length xs) ≡ k
  last = get_or-append_seam xs k [] (0, [])

  more : length (xs ++ k ∷ []) ≡ length xs + 1
  more = length-append xs (k ∷ [])

  right_by : (v : Name) (i : ℕ) (b : Bool) → same v ≡ b → cond b (Some (length xs)) (old v) ≡ Some i →
      (i < length (xs ++ k ∷ [])) × (nth (xs ++ k ∷ []) i ≡ v)
  right_by v i true e h =
      let at : length xs ≡ i = cc in
      (omega (arith, at, more), rw (← at, last) (sym (is_same v e)))
  right_by v i false e h =
      let there = has_name v i h in
      (omega (arith, there.0, more), rw (get_or-append xs (k ∷ []) (0, []) i there.0) there.1)

  pub right_on : (v : Name) (i : ℕ) → new v ≡ Some i → (i < length (xs ++ k ∷ [])) × (nth (xs ++ k ∷ []) i ≡ v)
  right_on v i h = right_by v i (same v) refl (sym (is_new v) ∙ h)

  old_by : (i : ℕ) (b : Bool) → i < length xs → same (nth xs i) ≡ b → cond b (Some (length xs)) (old (nth xs i)) ≡ Some i
  old_by i true h e =
      let P : Name → Type 0 = λ v. old v ≡ Some i in
      let there : old k ≡ Some i = subst P (is_same (nth xs i) e) (has_number i h) in
      cc
  old_by i false h e = has_number i h

  listed_by : (i : ℕ) → (i < length xs) ⊎ (i ≡ length xs) → new (nth (xs ++ k ∷ []) i) ≡ Some i
  listed_by i (inl h) = rw (get_or-append xs (k ∷ []) (0, []) i h) (is_new (nth xs i) ∙ old_by i (same (nth xs i)) h refl)
  listed_by i (inr e) = rw (e, last) (is_new k ∙ ap (λ b. cond b (Some (length xs)) (old k)) is_self)

  pub listed_on : (i : ℕ) → i < length (xs ++ k ∷ []) → new (nth (xs ++ k ∷ []) i) ≡ Some i
  listed_on i h = ⊎_elim (λ e. listed_by i (inr e)) (λ ne. listed_by i (inl (omega (arith, ne, h, more)))) (cases_eq i (length xs))

-- whether a name is this key's
abbrev pub is_key : ScopedName → Name → Bool
is_key k v = is_eq (ordering_then (nat_cmp k.scope v.0) (slice_cmp nat_cmp k.name.now v.1))

equal_from : (o : Ordering) → is_eq o ≡ true → o ≡ Equal
equal_from Less e = cc
equal_from Equal e = refl
equal_from Greater e = cc

own_reverse : (o : Ordering) → o ≡ ordering_reverse o → o ≡ Equal
own_reverse Less e = cc
own_reverse Equal e = refl
own_reverse Greater e = cc

is_key_same : (k : ScopedName) (v : Name) → is_key k v ≡ true → v ≡ key_view k
is_key_same k v e =
    sym (exact_pairs nat_cmp (slice_cmp nat_cmp) exact_unsigned exact_bytes (key_view k) v (equal_from (ordering_then (nat_cmp k.scope v.0) (slice_cmp nat_cmp k.name.now v.1)) e))

is_key_self : (k : ScopedName) → is_key k (key_view k) ≡ true
is_key_self k =
    rw (← nat_cmp_is k.scope k.scope Equal refl)
    (ap is_eq (own_reverse (slice_cmp nat_cmp k.name.now k.name.now) (nat_list_cmp_total.antisymm k.name.now k.name.now)))

-- the table with one more key
pub add_key : (t n : Variables) (k : ScopedName) → IsTable t → n.keys.items ≡ t.keys.items ++ k ∷ [] →
    ((v : Name) → number_of n v ≡ cond (is_key k v) (Some (length t.keys.items)) (number_of t v)) → number_of t (key_view k) ≡ None → IsTable n
add_key t n k h e g absent =
    let more : names n ≡ names t ++ key_view k ∷ [] = rw e (map-append key_view t.keys.items (k ∷ [])) in
    let size : length t.keys.items ≡ length (names t) = sym (length-map t.keys.items key_view) in
    let new : (v : Name) → number_of n v ≡ cond (is_key k v) (Some (length (names t))) (number_of t v) =
    λ v. rw (← size) (g v) in
    let has_name = right_on (names t) (key_view k) (number_of t) (number_of n) (is_key k) new (is_key_same k) (is_key_self k) absent h.has_name h.has_number in
    let has_number = listed_on (names t) (key_view k) (number_of t) (number_of n) (is_key k) new (is_key_same k) (is_key_self k) absent h.has_name h.has_number in
    let P : List Name → Type 0 = λ xs. (v : Name) (i : ℕ) → number_of n v ≡ Some i → (i < length xs) × (nth xs i ≡ v) in
    let Q : List Name → Type 0 = λ xs. (i : ℕ) → i < length xs → number_of n (nth xs i) ≡ Some i in
    record { has_name = subst P (sym more) has_name; has_number = subst Q (sym more) has_number }
