-- Texts with a separator between.
use Rattle.std.proofs.Common.{◌≡◌, ℕ, ◌+◌, List, ◌∷◌, ◌++◌, Some, sym, ◌∙◌, ap, add-one, drop, suc, drop-cons, append_assoc}
use Rattle.std.specs.Prelude.{slice_get}
use Rattle.std.proofs.lemmas.Option.{slice_get_within, get_or_from_slice_get}
use Rattle.pawk_store.specs.Builtins.{joined_after}

-- the items from one on are that and those from the next on
pub drop_at : {A : Type 0} (xs : List A) (i : ℕ) (x : A) → slice_get xs i ≡ Some x → drop i xs ≡ x ∷ drop (i + 1) xs
drop_at xs i x h =
    rw add-one (drop-cons xs i x (slice_get_within xs i x h) ∙ ap (λ y. y ∷ drop (suc i) xs) (get_or_from_slice_get xs i x x h))

-- the texts so far and the next one
pub joined_next : (out separator whole : List ℕ) (ts : List (List ℕ)) (i : ℕ) (t : List ℕ) → slice_get ts i ≡ Some t
    → out ++ joined_after separator (drop i ts) ≡ whole → ((out ++ separator) ++ t) ++ joined_after separator (drop (i + 1) ts) ≡ whole
joined_next out separator whole ts i t h so_far =
    append_assoc (out ++ separator) t (joined_after separator (drop (i + 1) ts))
    ∙ append_assoc out separator (t ++ joined_after separator (drop (i + 1) ts))
    ∙ ap (λ l. out ++ joined_after separator l) (sym (drop_at ts i t h))
    ∙ so_far
