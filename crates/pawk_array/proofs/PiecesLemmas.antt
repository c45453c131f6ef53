-- Pieces of a text at the keys of their numbers.
use Rattle.std.proofs.Common.{◌≡◌, ◌≢◌, ℕ, zero, suc, drop, add-one, ◌+◌, ◌^◌, ◌<◌, Bool, true, false, List, [], ◌∷◌, ◌++◌, length, get_or, ⊎_elim, Option, Some, None, inl, inr, refl, sym, ◌∙◌, ap, arith}
use Rattle.std.specs.Prelude.{◌⊎◌, ◌||◌, is_some, if◌then◌else◌, slice_range, slice_get}
use Rattle.std.specs.List.{AllByRecursion, IsDistinct, list_any}
use Rattle.std.specs.Str.{bytes_eq}
use Rattle.std.specs.Fmt.{decimal}
use Rattle.std.specs.declared.ops.Range.{Range}
use Rattle.std.proofs.lemmas.Fmt.{decimal_injective}
use Rattle.std.proofs.lemmas.Bool.{cases_eq}
use Rattle.std.proofs.lemmas.List.{get_or_append_left, length-append}
use Rattle.std.proofs.Math.Seq.{get_or-append_seam}
use Rattle.pawk_value.specs.Value.{Val, Maybe, shown}
use Rattle.pawk_value.specs.declared.values.Value.{Value}
use Rattle.pawk_keyed_map.specs.declared.key.Key.{Key}
use Rattle.pawk_array.specs.Entries.{Entries, Rise, found, put, with_pieces}
use Rattle.pawk_array.specs.Pieces.{with_texts, AreNumbers, AreApart}
use Rattle.pawk_array.specs.Texts.{texts_in}
use Rattle.pawk_array.specs.Walks.{AreKeysOf}
use Rattle.pawk_keyed_map.proofs.EntriesLemmas.{differs, put_here, put_other, rise-put, found-put, length-put_new}
use Rattle.pawk_array.specs.ArrayViews.{entries_of}
use Rattle.pawk_keyed_map.proofs.PairsLemmas.{rise-seen_by}

pub with_texts_in : (n : ℕ) (text : List ℕ) (rs : List (Range ℕ)) (es : Entries) → with_texts n (texts_in text rs) es ≡ with_pieces n text rs es
with_texts_in n text [] es = refl
with_texts_in n text (r ∷ rs) es = with_texts_in (n + 1) text rs (put (decimal (n + 1)) (Maybe (slice_range text r.start r.end)) es)

pub rise-with_texts : (n : ℕ) (ts : List (List ℕ)) (es : Entries) → Rise es → Rise (with_texts n ts es)
rise-with_texts n [] es h = h
rise-with_texts n (t ∷ ts) es h = rise-with_texts (n + 1) ts (put (decimal (n + 1)) (Maybe t) es) (rise-put (decimal (n + 1)) (Maybe t) es h)

-- a key that is the number of no piece has what it had
pub found-other : (q : List ℕ) (n : ℕ) (ts : List (List ℕ)) (es : Entries) → ((i : ℕ) → i < length ts → q ≢ decimal (n + i + 1)) → found q (with_texts n ts es) ≡ found q es
found-other q n [] es h = refl
found-other q n (t ∷ ts) es h =
    let first : n + 0 + 1 ≡ n + 1 = omega arith in
    let ne : q ≢ decimal (n + 1) = rw (← first) (h 0 (omega arith)) in
    found-other q (n + 1) ts (put (decimal (n + 1)) (Maybe t) es) (λ i below. let next : n + 1 + i + 1 ≡ n + suc i + 1 = omega arith in rw next (h (suc i) (omega (arith, below))))
    ∙ put_other q (decimal (n + 1)) (Maybe t) es ne

pub found-no_number : (q : List ℕ) (ts : List (List ℕ)) → ((i : ℕ) → i < length ts → q ≢ decimal (i + 1)) → found q (with_texts 0 ts []) ≡ None
found-no_number q ts h = found-other q 0 ts [] (λ i below. let same : 0 + i + 1 ≡ i + 1 = omega arith in rw same (h i below))

-- the key of a number has its piece
pub found-number : (n : ℕ) (ts : List (List ℕ)) (es : Entries) (i : ℕ) (t : List ℕ) → n + length ts < 2 ^ 64 → slice_get ts i ≡ Some t →
    found (decimal (n + i + 1)) (with_texts n ts es) ≡ Some (Maybe t)
found-number n [] es i t small h = cc
found-number n (u ∷ ts) es zero t small h =
    let at : n + 0 + 1 ≡ n + 1 = omega arith in
    let same : Some u ≡ Some t = h in
    rw at (found-other (decimal (n + 1)) (n + 1) ts (put (decimal (n + 1)) (Maybe u) es)
    (λ i below e. let equal = decimal_injective (n + 1) (n + 1 + i + 1) (omega (arith, small)) (omega (arith, small, below)) e in absurd (omega (arith, equal)))
    ∙ put_here (decimal (n + 1)) (Maybe u) es ∙ as_piece u t same) where
      as_piece : (u t : List ℕ) → Some u ≡ Some t → Some (Maybe u) ≡ Some (Maybe t)
      as_piece u t e = cc
found-number n (u ∷ ts) es (suc i) t small h =
    let at : n + suc i + 1 ≡ n + 1 + i + 1 = omega arith in
    rw at (found-number (n + 1) ts (put (decimal (n + 1)) (Maybe u) es) i t (omega (arith, small)) h)

-- ---- their count

pub length-with_texts_from : (n : ℕ) (ts : List (List ℕ)) (es : Entries) → n + length ts < 2 ^ 64 → Rise es → ((m : ℕ) → n < m → m < 2 ^ 64 → found (decimal m) es ≡ None) →
    length (with_texts n ts es) ≡ length ts + length es
length-with_texts_from n [] es small rise none = omega arith
length-with_texts_from n (t ∷ ts) es small rise none =
    let k = decimal (n + 1) in
    let size = length-put_new k (Maybe t) es rise (none (n + 1) (omega arith) (omega (arith, small))) in
    length-with_texts_from (n + 1) ts (put k (Maybe t) es) (omega (arith, small)) (rise-put k (Maybe t) es rise)
    (λ m above below. put_other (decimal m) k (Maybe t) es
    (λ e. let same = decimal_injective m (n + 1) below (omega (arith, small)) e in absurd (omega (arith, same, above)))
    ∙ none m (omega (arith, above)) below)
    ∙ omega (arith, size)

pub length-with_texts : (ts : List (List ℕ)) → length ts < 2 ^ 63 → length (with_texts 0 ts []) ≡ length ts
length-with_texts ts small = length-with_texts_from 0 ts [] (omega (arith, small)) refl (λ m above below. refl) ∙ omega arith

-- ---- their keys

-- the numbers that follow this one
abbrev numbers_after : ℕ → ℕ → List (List ℕ)
numbers_after n zero = []
numbers_after n (suc count) = decimal (n + 1) ∷ numbers_after (n + 1) count

numbers_are : (n : ℕ) (ns : List (List ℕ)) → ((i : ℕ) (d : List ℕ) → i < length ns → get_or ns i d ≡ decimal (n + i + 1)) → ns ≡ numbers_after n (length ns)
numbers_are n [] h = refl
numbers_are n (k ∷ ns) h =
    let at : n + 0 + 1 ≡ n + 1 = omega arith in
    let first : k ≡ decimal (n + 1) = rw at at (h 0 [] (omega arith)) in
    let rest = numbers_are (n + 1) ns (λ i d below. let next : n + 1 + i + 1 ≡ n + suc i + 1 = omega arith in rw next (h (suc i) d (omega (arith, below)))) in
    ap (λ x. x ∷ ns) first ∙ ap (λ xs. decimal (n + 1) ∷ xs) rest

above_all : (m n count : ℕ) → m < n + 1 → n + count < 2 ^ 64 → AllByRecursion (λ y. bytes_eq (decimal m) y ≡ false) (numbers_after n count)
above_all m n zero h small = tt
above_all m n (suc count) h small = (
  differs (decimal m) (decimal (n + 1)) (λ e. let same = decimal_injective m (n + 1) (omega (arith, h, small)) (omega (arith, small)) e in absurd (omega (arith, h, same))),
  above_all m (n + 1) count (omega (arith, h)) (omega (arith, small)),
)

distinct_numbers : (n count : ℕ) → n + count < 2 ^ 64 → IsDistinct bytes_eq (numbers_after n count)
unfolding IsDistinct
distinct_numbers n zero small = tt
distinct_numbers n (suc count) small = (above_all (n + 1) (n + 1) count (omega arith) (omega (arith, small)), distinct_numbers (n + 1) count (omega (arith, small)))

any_number : (q : List ℕ) (n : ℕ) (ts : List (List ℕ)) (es : Entries) → is_some (found q (with_texts n ts es)) ≡ (list_any (bytes_eq q) (numbers_after n (length ts)) || is_some (found q es))
any_number q n [] es = refl
any_number q n (t ∷ ts) es =
    any_number q (n + 1) ts (put (decimal (n + 1)) (Maybe t) es)
    ∙ ap (λ o. list_any (bytes_eq q) (numbers_after (n + 1) (length ts)) || is_some o) (found-put q (decimal (n + 1)) (Maybe t) es)
    ∙ regroup (bytes_eq q (decimal (n + 1))) (list_any (bytes_eq q) (numbers_after (n + 1) (length ts))) (found q es) where
      regroup : (a b : Bool) (o : Option Val) → (b || is_some (if a then Some (Maybe t) else o)) ≡ ((a || b) || is_some o)
      regroup true true o = refl
      regroup true false o = refl
      regroup false b o = refl

or_false : (b : Bool) → (b || false) ≡ b
or_false true = refl
or_false false = refl

-- the numbers are the keys of the pieces
pub number_keys : (ts ns : List (List ℕ)) → length ts < 2 ^ 63 → length ns ≡ length ts → AreNumbers ns → AreKeysOf (with_texts 0 ts []) ns
number_keys ts ns small size h =
    let same = numbers_are 0 ns (λ i d below. let at : 0 + i + 1 ≡ i + 1 = omega arith in rw at (h i d below)) in
    let whole : ns ≡ numbers_after 0 (length ts) = same ∙ ap (numbers_after 0) size in
    rw whole (record {
      distinct = distinct_numbers 0 (length ts) (omega (arith, small));
      all = λ q. sym (any_number q 0 ts [] ∙ or_false (list_any (bytes_eq q) (numbers_after 0 (length ts))));
    })

pub found-piece : (ts : List (List ℕ)) (k : List ℕ) (i : ℕ) (t : List ℕ) → length ts < 2 ^ 63 → k ≡ decimal (i + 1) → slice_get ts i ≡ Some t → found k (with_texts 0 ts []) ≡ Some (Maybe t)
found-piece ts k i t small same at =
    let next : i + 1 ≡ 0 + i + 1 = omega arith in
    rw (same, next) (found-number 0 ts [] i t (omega (arith, small)) at)

-- ---- an array that has pairs or pieces

pub seen_pairs : (ts : List (List ℕ)) (es : Entries) → ts ≡ [] → with_texts 0 ts es ≡ es
seen_pairs ts es e = ap (λ xs. with_texts 0 xs es) e

pub no_pairs : {A : Type 0} (ts : List (List ℕ)) (es : List A) → AreApart ts es → (ts ≡ [] → ⊥) → es ≡ []
no_pairs ts es (inl e) some = absurd (some e)
no_pairs ts es (inr e) some = e

pub seen_pieces : (ts : List (List ℕ)) (es : List (Key × Value)) → AreApart ts es → (ts ≡ [] → ⊥) → with_texts 0 ts (entries_of es) ≡ with_texts 0 ts []
seen_pieces ts es apart some = ap (λ xs. with_texts 0 ts (entries_of xs)) (no_pairs ts es apart some)

pub rise-seen : (ts : List (List ℕ)) (es : List (Key × Value)) → Rise (with_texts 0 ts (entries_of es))
rise-seen ts es = rise-with_texts 0 ts (entries_of es) (rise-seen_by shown es)

-- one more text at its key
pub one_text : (n : ℕ) (ts : List (List ℕ)) (old new : Entries) (k t : List ℕ) → slice_get ts n ≡ Some t → k ≡ decimal (n + 1) → new ≡ put k (Maybe t) old →
    with_texts n (drop n ts) old ≡ with_texts (n + 1) (drop (n + 1) ts) new
one_text n ts old new k t at same e =
    ap (λ xs. with_texts n xs old) (from_here ts n t at)
    ∙ ap (λ m. with_texts (n + 1) (drop m ts) (put (decimal (n + 1)) (Maybe t) old)) (sym (add-one n))
    ∙ ap (λ q. with_texts (n + 1) (drop (n + 1) ts) (put q (Maybe t) old)) (sym same)
    ∙ ap (with_texts (n + 1) (drop (n + 1) ts)) (sym e) where
      some_text : (u t : List ℕ) → Some u ≡ Some t → u ≡ t
      some_text u t e = cc

      from_here : (ts : List (List ℕ)) (n : ℕ) (t : List ℕ) → slice_get ts n ≡ Some t → drop n ts ≡ t ∷ drop (suc n) ts
      from_here [] n t h = cc
      from_here (u ∷ ts) zero t h = let same = some_text u t h in rw same refl
      from_here (u ∷ ts) (suc n) t h = from_here ts n t h

-- what decides whether there are pieces
pub some_pieces : (b : Bool) (ts : List (List ℕ)) → (ts ≡ [] → b ≡ true) → b ≡ false → ts ≡ [] → ⊥
some_pieces b ts h none e = let both : true ≡ false = sym (h e) ∙ none in cc

-- an array without elements takes pieces over
pub fill_empty : (text : List ℕ) (rs : List (Range ℕ)) (old new : List (List ℕ)) (es : List (Key × Value)) → old ≡ [] → length es ≡ 0 → new ≡ texts_in text rs →
    with_texts 0 new (entries_of es) ≡ with_pieces 0 text rs (with_texts 0 old (entries_of es))
fill_empty text rs old new es none empty e =
    ap (λ ts. with_texts 0 ts (entries_of es)) e
    ∙ with_texts_in 0 text rs (entries_of es)
    ∙ ap (with_pieces 0 text rs) (sym (seen_pairs old (entries_of es) none))

-- the next number after the others
pub one_number : (ns : List (List ℕ)) (k : List ℕ) → AreNumbers ns → k ≡ decimal (length ns + 1) → AreNumbers (ns ++ k ∷ [])
one_number ns k h same = λ i d below.
    let size = length-append ns (k ∷ []) in
    ⊎_elim (λ last. rw last (get_or-append_seam ns k [] d ∙ same)) (λ before. get_or_append_left ns (k ∷ []) d i before ∙ h i d before) (last_or_before (length ns) i (omega (arith, below, size))) where
      last_or_before : (n i : ℕ) → i < n + 1 → (i ≡ n) ⊎ (i < n)
      last_or_before n i h = ⊎_elim (λ e. inl e) (λ e. inr (omega (arith, h, e))) (cases_eq i n)
