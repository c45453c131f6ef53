-- Keys in order, and keys in one buffer.
use Rattle.std.proofs.Common.{◌≡◌, ℕ, zero, suc, ◌+◌, ◌-◌, ◌<◌, ◌≤◌, Bool, true, false, cond, List, [], ◌∷◌, ◌++◌, length, map, get_or, drop, refl, sym, ◌∙◌, ap, arith, length-drop, Option, None, Some}
use Rattle.std.specs.Prelude.{is_some, slice_range, ◌&&◌, ◌||◌}
use Rattle.std.specs.List.{AllByRecursion, IsDistinct, list_any}
use Rattle.std.specs.List.Sorted.{IsPermutation, IsSorted, IsStrictlySortedBy}
use Rattle.std.specs.Ordering.{eq_by_cmp, is_lt, ordering_reverse}
use Rattle.std.specs.declared.cmp.Ordering.{Ordering}
use Rattle.std.specs.declared.cmp.Ordering.TheVariants.{Less, Equal, Greater}
use Rattle.std.specs.declared.ops.Range.{Range}
use Rattle.std.specs.Cmp.Lexicographic.{texts_ties}
use Rattle.std.specs.Str.{bytes_eq}
use Rattle.std.specs.Map.{keys_of, lookup}
use Rattle.std.specs.FinMap.Entries.{find, is_sorted, below_all, is_some-find, same_entries}
use Rattle.std.proofs.lemmas.List.{drop-append-le, take-append-le, get_or-map, length-map}
use Rattle.std.proofs.lemmas.List.Sorted.{list_any-IsPermutation}
use Rattle.std.proofs.Math.Seq.{drop-append_seam, take-length}
use Rattle.std.proofs.lemmas.Map.Keys.{sorted_from_all_adjacent, apart_from_distinct, IsDistinct-IsPermutation}
use Rattle.std.proofs.lemmas.Slice.Eq.{bytes_eq-Decides}
use Rattle.pawk_value.specs.Value.{shown}
use Rattle.pawk_value.specs.declared.values.Value.{Value}
use Rattle.pawk_keyed_map.specs.declared.key.Key.{Key}
use Rattle.pawk_array.specs.Entries.{Entries, Rise, order, keys}
use Rattle.pawk_array.specs.declared.headed.Headed.{Headed}
use Rattle.pawk_keyed_map.specs.Keys.{text_of}
use Rattle.pawk_array.specs.ArrayViews.{entries_of}
use Rattle.pawk_array.specs.Texts.{texts_in, AreWithin}
use Rattle.pawk_array.specs.Walks.{AreKeysOf}
use Rattle.pawk_keyed_map.proofs.EntriesLemmas.{total, same_text, holds, flip}
use Rattle.pawk_keyed_map.proofs.PairsLemmas.{same_bytes, has_bytes, contains_by}

-- ---- one buffer

tail : (bytes : List ℕ) (r : Range ℕ) (rs : List (Range ℕ)) → AreWithin bytes (r ∷ rs) → AreWithin bytes rs
tail bytes r rs h = λ k d below. h (suc k) d (omega (arith, below))

range_stays : (bytes more : List ℕ) (a b : ℕ) → a ≤ b → b ≤ length bytes → slice_range (bytes ++ more) a b ≡ slice_range bytes a b
range_stays bytes more a b g h =
    let start : a ≤ length bytes = omega (arith, g, h) in
    let end : b - a ≤ length (drop a bytes) = omega (arith, g, h, length-drop a bytes) in
    rw (drop-append-le a bytes more start) (take-append-le (b - a) (drop a bytes) more end)

pub texts_stay : (bytes more : List ℕ) (rs : List (Range ℕ)) → AreWithin bytes rs → texts_in (bytes ++ more) rs ≡ texts_in bytes rs
texts_stay bytes more [] h = refl
texts_stay bytes more (r ∷ rs) h =
    let first = h zero r (omega arith) in
    rw (range_stays bytes more r.start r.end first.0 first.1, texts_stay bytes more rs (tail bytes r rs h)) refl

pub last_range : (bytes more : List ℕ) (n : ℕ) → n ≡ length bytes + length more → slice_range (bytes ++ more) (length bytes) n ≡ more
last_range bytes more n e =
    let size : n - length bytes ≡ length more = omega (arith, e) in
    rw (drop-append_seam bytes more, size) (take-length more)

-- ---- order

marks : List (List ℕ) → List (List ℕ × Unit {0})
marks [] = []
marks (k ∷ ks) = (k, tt) ∷ marks ks

marked_keys : (ks : List (List ℕ)) → map (λ e. e.0) (marks ks) ≡ ks
unfolding marks
marked_keys [] = refl
marked_keys (k ∷ ks) = ap (λ xs. k ∷ xs) (marked_keys ks)

below_marks : (x : List ℕ) (es : Entries) → below_all order x (marks (keys es)) ≡ below_all order x es
unfolding marks
below_marks x [] = refl
below_marks x (e ∷ es) = ap (λ b. is_lt (order x e.0) && b) (below_marks x es)

sorted_marks : (es : Entries) → is_sorted order (marks (keys es)) ≡ is_sorted order es
unfolding marks
sorted_marks [] = refl
sorted_marks (e ∷ es) = rw (below_marks e.0 es, sorted_marks es) refl

all_below : (x : List ℕ) (ks : List (List ℕ)) → AllByRecursion (λ y. order x y ≡ Less) ks → below_all order x (marks ks) ≡ true
unfolding marks
all_below x [] h = refl
all_below x (k ∷ ks) h = rw (h.0, all_below x ks h.1) refl

strictly : (ks : List (List ℕ)) → IsStrictlySortedBy order ks → is_sorted order (marks ks) ≡ true
unfolding IsStrictlySortedBy marks
strictly [] h = refl
strictly (k ∷ ks) h = rw (all_below k ks h.0, strictly ks h.1) refl

rises : (x y : List ℕ) → is_lt (order y x) ≡ false → bytes_eq x y ≡ false → order x y ≡ Less
rises x y g h = by_cases (order y x) refl (total.antisymm x y) where
  by_cases : (o : Ordering) → order y x ≡ o → order x y ≡ ordering_reverse (order y x) → order x y ≡ Less
  by_cases Less p q = let no = sym (ap is_lt p) ∙ g in cc
  by_cases Equal p q =
      let same = same_text y x p in
      let yes = (bytes_eq-Decides x y).1 (sym same) in cc
  by_cases Greater p q = q ∙ ap ordering_reverse p

apart_map : (k : List ℕ) (es : List (Key × Value)) → AllByRecursion (λ y. bytes_eq k (text_of y) ≡ false) (keys_of es) → AllByRecursion (λ y. bytes_eq k y ≡ false) (map (λ e. text_of e.0) es)
apart_map k [] h = tt
apart_map k (e ∷ es) h = (h.0, apart_map k es h.1)

distinct_texts : (es : List (Key × Value)) → IsDistinct same_bytes (keys_of es) → IsDistinct bytes_eq (map (λ e. text_of e.0) es)
unfolding IsDistinct
distinct_texts [] h = tt
distinct_texts (e ∷ es) h = (apart_map (text_of e.0) es h.0, distinct_texts es h.1)

any_lookup : (q : List ℕ) (es : List (Key × Value)) → list_any (bytes_eq q) (map (λ e. text_of e.0) es) ≡ is_some (lookup (has_bytes q) es)
any_lookup q [] = refl
any_lookup q (e ∷ es) = by_cases (has_bytes q e.0) (any_lookup q es) where
  by_cases : (b : Bool) → list_any (bytes_eq q) (map (λ e. text_of e.0) es) ≡ is_some (lookup (has_bytes q) es) →
      (b || list_any (bytes_eq q) (map (λ e. text_of e.0) es)) ≡ is_some (cond b (Some e.1) (lookup (has_bytes q) es))
  by_cases true h = refl
  by_cases false h = h

any_ties : (q : List ℕ) (ks : List (List ℕ)) → list_any (eq_by_cmp order q) ks ≡ list_any (bytes_eq q) ks
any_ties q [] = refl
any_ties q (k ∷ ks) = rw (← texts_ties q k, any_ties q ks) refl

unit_same : (a b : Option (Unit {0})) → is_some a ≡ is_some b → a ≡ b
unit_same None None e = refl
unit_same None (Some y) e = cc
unit_same (Some x) None e = cc
unit_same (Some x) (Some y) e = refl

-- the keys of elements, in order
pub keys_in_order : (es : Entries) (texts ks : List (List ℕ)) → Rise es → AreKeysOf es texts → IsPermutation texts ks → IsSorted order ks → ks ≡ keys es
keys_in_order es texts ks rises_up known moved sorted =
    let apart = IsDistinct-IsPermutation bytes_eq flip texts ks moved known.distinct in
    let strict = sorted_from_all_adjacent total ks [] (λ k below. rises (get_or ks k []) (get_or ks (k + 1) []) (sorted k [] (omega arith) below) (apart_from_distinct bytes_eq ks k (k + 1) [] apart (omega arith) below)) in
    let all = keys es in
    let finds : (q : List ℕ) → find order q (marks ks) ≡ find order q (marks all) = λ q.
    unit_same (find order q (marks ks)) (find order q (marks all))
    (is_some-find order q (marks ks) ∙ ap (list_any (eq_by_cmp order q)) (marked_keys ks) ∙ any_ties q ks
    ∙ sym (list_any-IsPermutation (bytes_eq q) texts ks moved) ∙ known.all q
    ∙ is_some-find order q es ∙ ap (list_any (eq_by_cmp order q)) (sym (marked_keys all)) ∙ sym (is_some-find order q (marks all))) in
    let equal = same_entries order total same_text (marks ks) (marks all) (holds _ (strictly ks strict)) (holds _ (sorted_marks es ∙ rises_up)) finds in
    sym (marked_keys ks) ∙ ap (map (λ e. e.0)) equal ∙ marked_keys all

-- the keys of distinct pairs are those of what the pairs hold
pub pair_keys : (es : List (Key × Value)) → IsDistinct same_bytes (keys_of es) → AreKeysOf (entries_of es) (map (λ e. text_of e.0) es)
pair_keys es distinct = record { distinct = distinct_texts es distinct; all = λ q. any_lookup q es ∙ contains_by shown q es }

sorted_from : (first : Headed) (xs : List Headed) → IsSorted (λ x y. order x.text.now y.text.now) xs → IsSorted order (map (λ x. x.text.now) xs)
sorted_from first xs h k d low below =
    let size = length-map xs (λ (x : Headed). x.text.now) in
    let next : k + 1 < length xs = omega (arith, below, size) in
    let here : k < length xs = omega (arith, next) in
    rw (get_or-map (λ x. x.text.now) xs (k + 1) first d next, get_or-map (λ x. x.text.now) xs k first d here) (h k first low next)

-- texts behind references are sorted as these are
pub sorted_texts : (xs : List Headed) → IsSorted (λ x y. order x.text.now y.text.now) xs → IsSorted order (map (λ x. x.text.now) xs)
sorted_texts [] h = λ k d low below. absurd (omega (arith, below))
sorted_texts (x ∷ xs) h = sorted_from x (x ∷ xs) h
