-- Pieces of a text in an array of the globals.
use Rattle.std.proofs.Common.{◌≡◌, ◌<◌, ◌≤◌, ℕ, zero, suc, ◌+◌, List, [], ◌∷◌, length, get_or, refl, sym, ◌∙◌, ap}
use Rattle.std.specs.Prelude.{slice_set, slice_index_or, slice_range}
use Rattle.std.specs.Fmt.{decimal}
use Rattle.std.specs.declared.ops.Range.{Range}
use Rattle.std.proofs.lemmas.List.{get_or_read, set-get_or, set_past}
use Rattle.pawk_value.specs.Value.{Val, Maybe}
use Rattle.pawk_array.specs.Entries.{Entries, put, with_pieces}
use Rattle.pawk_array.specs.Texts.{texts_in}
use Rattle.pawk_world.specs.Worlds.{gives}
use Rattle.pawk_world.specs.Writings.{fill_after}
use Rattle.pawk_store.specs.Globals.{Globals, array_at, with_array, calls}

-- an element that was set is changed
set_changed : {X : Type 0} (f : X → X) (xs : List X) (n : ℕ) (x d : X) → slice_set (slice_set xs n x) n (f (slice_index_or (slice_set xs n x) n d)) ≡ slice_set xs n (f x)
set_changed f [] n x d = refl
set_changed f (y ∷ ys) zero x d = refl
set_changed f (y ∷ ys) (suc n) x d = ap (λ zs. y ∷ zs) (set_changed f ys n x d)

again : (n : ℕ) (g : Globals) → with_array n (array_at g n) g ≡ g
again n g = ap (λ xs. record g { arrays = xs }) (set-get_or g.arrays n [])

changed : (f : Entries → Entries) (n : ℕ) (es : Entries) (g : Globals) → with_array n (f (array_at (with_array n es g) n)) (with_array n es g) ≡ with_array n (f es) g
changed f n es g = ap (λ xs. record g { arrays = xs }) (set_changed f g.arrays n es [])

-- the pieces of a text that are put in an array one by one
pub filled : (n k : ℕ) (text : List ℕ) (rs : List (Range ℕ)) (g : Globals) →
    fill_after calls n k (texts_in text rs) g ≡ gives tt (with_array n (with_pieces k text rs (array_at g n)) g)
filled n k text [] g = ap (gives tt) (sym (again n g))
filled n k text (r ∷ rs) g =
    let es = put (decimal (k + 1)) (Maybe (slice_range text r.start r.end)) (array_at g n) in
    filled n (k + 1) text rs (with_array n es g)
    ∙ ap (gives tt) (changed (with_pieces (k + 1) text rs) n es g)

-- the same for the lists of the code
pub filled_at : (scalars : List Val) (arrays : List Entries) (g : Globals) (n : ℕ) (text : List ℕ) (rs : List (Range ℕ)) (old new : Entries) →
    record { scalars = scalars; arrays = arrays } ≡ g → n < length arrays → old ≡ get_or arrays n old → new ≡ with_pieces 0 text rs old →
    fill_after calls n 0 (texts_in text rs) g ≡ gives tt (record { scalars = scalars; arrays = slice_set arrays n new })
filled_at scalars arrays g n text rs old new is below at e =
    ap (fill_after calls n 0 (texts_in text rs)) (sym is)
    ∙ filled n 0 text rs (record { scalars = scalars; arrays = arrays })
    ∙ ap (λ es. gives tt (record { scalars = scalars; arrays = slice_set arrays n (with_pieces 0 text rs es) })) (sym (get_or_read arrays n old below at []))
    ∙ ap (λ es. gives tt (record { scalars = scalars; arrays = slice_set arrays n es })) (sym e)

-- past the last array they are lost
pub filled_past : (g : Globals) (n : ℕ) (text : List ℕ) (rs : List (Range ℕ)) → length g.arrays ≤ n → fill_after calls n 0 (texts_in text rs) g ≡ gives tt g
filled_past g n text rs past =
    filled n 0 text rs g ∙ ap (λ xs. gives tt (record g { arrays = xs })) (set_past g.arrays n (with_pieces 0 text rs (array_at g n)) past)
