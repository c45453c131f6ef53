-- Globals by their names.
use Rattle.std.proofs.Common.{◌≡◌, ℕ, ◌+◌, List, [], ◌∷◌, ◌++◌, length, refl, sym, ◌∙◌, ap, arith}
use Rattle.std.specs.Prelude.{Vec, map}
use Rattle.std.specs.declared.alloc.Global.{Global}
use Rattle.std.specs.declared.cmp.Ordering.{Ordering}
use Rattle.std.specs.declared.cmp.Ordering.TheVariants.{Less, Equal, Greater}
use Rattle.std.specs.Ordering.{match_ordering}
use Rattle.std.specs.FinMap.Entries.{put, by_order}
use Rattle.std.specs.BTreeMap.{insert_entry}
use Rattle.pawk_array.specs.Entries.{order}
use Rattle.pawk_store.specs.declared.listing.Content.{Content as Code}
use Rattle.pawk_value.specs.Value.{Val}
use Rattle.pawk_code.specs.declared.leaf.Special.{Special}
use Rattle.pawk_store.specs.Globals.{Globals, value_at}
use Rattle.pawk_store.specs.Openings.{names_with}
use Rattle.pawk_world.specs.Worlds.{scalar}
use Rattle.pawk_store.specs.Listings.{Named, value, scalars_from, arrays_from, specials, with_all, listing}
use Rattle.pawk_store.specs.ListingViews.{content_of}

abbrev pub Key : Type 0
Key = Vec ℕ Global

abbrev pub key_order : Key → Key → Ordering
key_order x y = order x.items y.items

abbrev pub seen : List (Key × Code) → List Named
seen es = map (λ e. (e.0.items, content_of e.1)) es

-- a pair that is put in its place in a map is put in its place among the globals
pub put_seen : (es : List (Key × Code)) (k : Key) (v : Code) → seen (insert_entry key_order es k v) ≡ put order k.items (content_of v) (seen es)
put_seen [] k v = refl
put_seen (e ∷ es) k v = by_cases (key_order k e.0) (put_seen es k v) where
  by_cases : (o : Ordering) → seen (insert_entry key_order es k v) ≡ put order k.items (content_of v) (seen es) →
      seen (match_ordering o ((k, v) ∷ e ∷ es) ((e.0, v) ∷ es) (e ∷ insert_entry key_order es k v))
      ≡ by_order o ((k.items, content_of v) ∷ seen (e ∷ es)) ((e.0.items, content_of v) ∷ seen es) ((e.0.items, content_of e.1) ∷ put order k.items (content_of v) (seen es))
  by_cases Less h = refl
  by_cases Equal h = refl
  by_cases Greater h = ap (λ xs. (e.0.items, content_of e.1) ∷ xs) h

with_more : (xs ys l : List Named) → with_all (xs ++ ys) l ≡ with_all ys (with_all xs l)
with_more [] ys l = refl
with_more (x ∷ xs) ys l = with_more xs ys (put order x.0 x.1 l)

scalars_more : (n : ℕ) (xs ys : List (List ℕ)) (g : Globals) → scalars_from n (xs ++ ys) g ≡ scalars_from n xs g ++ scalars_from (n + length xs) ys g
scalars_more n [] ys g = let same : n + 0 ≡ n = omega arith in rw same refl
scalars_more n (x ∷ xs) ys g =
    let same : n + length (x ∷ xs) ≡ n + 1 + length xs = omega arith in
    rw same (ap (λ zs. (x, value (value_at (scalar n) g)) ∷ zs) (scalars_more (n + 1) xs ys g))

-- the scalars of the program, the others, the arrays and the variables that the run sets, one after the other
pub listed : (names extras arrays : List (List ℕ)) (assignments : List (List ℕ × List ℕ)) (v : Special → Val) (g : Globals) → names ++ extras ≡ names_with names assignments →
    with_all (specials v) (with_all (arrays_from 0 arrays g) (with_all (scalars_from (length names) extras g) (with_all (scalars_from 0 names g) []))) ≡ listing names arrays assignments v g
listed names extras arrays assignments v g all =
    let scalars = scalars_from 0 names g in
    let others = scalars_from (length names) extras g in
    let rest = arrays_from 0 arrays g in
    let zero_more : 0 + length names ≡ length names = omega arith in
    let both : scalars ++ others ≡ scalars_from 0 (names_with names assignments) g =
    ap (λ n. scalars ++ scalars_from n extras g) (sym zero_more) ∙ sym (scalars_more 0 names extras g) ∙ ap (λ ns. scalars_from 0 ns g) all in
    let whole = scalars_from 0 (names_with names assignments) g in
    ap (λ l. with_all (specials v) (with_all rest l)) (sym (with_more scalars others []) ∙ ap (λ ns. with_all ns []) both)
    ∙ ap (with_all (specials v)) (sym (with_more whole rest []))
    ∙ sym (with_more (whole ++ rest) (specials v) [])
