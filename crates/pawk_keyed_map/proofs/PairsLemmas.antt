-- What the pairs of a map hold, in the order of their keys.
use Rattle.std.proofs.Common.{◌≡◌, ℕ, zero, suc, drop, ◌+◌, ◌<◌, Bool, slice_get, true, false, cond, List, [], ◌∷◌, length, Option, Some, None, IfSome, refl, sym, ◌∙◌, ap, subst, arith, add-one}
use Rattle.std.specs.Prelude.{not, is_some, if◌then◌else◌, position, nat_lt}
use Rattle.std.specs.Option.{option_map, unwrap_or}
use Rattle.std.specs.Str.{bytes_eq}
use Rattle.std.specs.List.{IsDistinct, AllByRecursion, position_or_len}
use Rattle.std.specs.Cmp.{IsEquivalence}
use Rattle.std.specs.Cmp.Lexicographic.{on_texts_equal}
use Rattle.std.proofs.lemmas.Option.{slice_get-map}
use Rattle.std.proofs.lemmas.Map.Entries.{hash_map_get_place}
use Rattle.indexmap.specs.IndexMap.{IndexMap, IsUnique, values, insert_entry, set_value_at}
use Rattle.indexmap.proofs.CallerLemmas.{updates-with_value_at}
use Rattle.std.specs.Map.{lookup, keys_of, KeepsOthers, IsKeyTest, AreApart}
use Rattle.std.proofs.lemmas.Map.{lookup-none, NonePasses}
use Rattle.std.proofs.lemmas.Map.Keys.{IsDistinct-head, IsDistinct-tail}
use Rattle.std.proofs.lemmas.Slice.Eq.{bytes_eq-Decides}
use Rattle.pawk_keyed_map.specs.declared.key.Key.{Key}
use Rattle.pawk_keyed_map.specs.Keys.{text_of}
use Rattle.pawk_keyed_map.specs.Keyed.{found_or, Rise, found, put, without, touched_by}
use Rattle.pawk_keyed_map.specs.Pairs.{seen_by, by_key, HasKeyAt, OccurOnce}
use Rattle.pawk_keyed_map.proofs.EntriesLemmas.{flip, rise-put, rise-without, found-put, found-without, same_found, length-put_new, touched_found}

-- whether a key of a map has these bytes
abbrev pub has_bytes : List ℕ → Key → Bool
has_bytes q k = bytes_eq q (text_of k)

abbrev pub same_bytes : Key → Key → Bool
same_bytes x y = bytes_eq (text_of x) (text_of y)

pub rise-seen_by : {A B : Type 0} (view : A → B) (es : List (Key × A)) → Rise (seen_by view es)
rise-seen_by view [] = refl
rise-seen_by view (e ∷ es) = rise-put (text_of e.0) (view e.1) (seen_by view es) (rise-seen_by view es)

map_if : {A B : Type 0} (view : A → B) (b : Bool) (v : A) (o : Option A) → (if b then Some (view v) else option_map view o) ≡ option_map view (cond b (Some v) o)
map_if view true v o = refl
map_if view false v o = refl

-- what a key has is what the map's look-up finds
pub found-seen_by : {A B : Type 0} (view : A → B) (q : List ℕ) (es : List (Key × A)) → found q (seen_by view es) ≡ option_map view (lookup (has_bytes q) es)
found-seen_by view q [] = refl
found-seen_by view q (e ∷ es) =
    found-put q (text_of e.0) (view e.1) (seen_by view es)
    ∙ ap (λ o. if has_bytes q e.0 then Some (view e.1) else o) (found-seen_by view q es)
    ∙ map_if view (has_bytes q e.0) e.1 (lookup (has_bytes q) es)

none_passes : {A : Type 0} (k : Key) (es : List (Key × A)) → AllByRecursion (λ y. same_bytes k y ≡ false) (keys_of es) → NonePasses (has_bytes (text_of k)) es
none_passes k [] h = tt
none_passes k (e ∷ es) h = (h.0, none_passes k es h.1)

-- a key has nothing among the pairs after it
absent_after : {A B : Type 0} (view : A → B) (e : Key × A) (es : List (Key × A)) → IsDistinct same_bytes (keys_of (e ∷ es)) → found (text_of e.0) (seen_by view es) ≡ None
absent_after view e es h =
    found-seen_by view (text_of e.0) es ∙ ap (option_map view) (lookup-none (has_bytes (text_of e.0)) es (none_passes e.0 es (IsDistinct-head same_bytes e.0 (keys_of es) h)))

pub length-seen_by : {A B : Type 0} (view : A → B) (es : List (Key × A)) → IsDistinct same_bytes (keys_of es) → length (seen_by view es) ≡ length es
length-seen_by view [] h = refl
length-seen_by view (e ∷ es) h =
    length-put_new (text_of e.0) (view e.1) (seen_by view es) (rise-seen_by view es) (absent_after view e es h)
    ∙ add-one (length (seen_by view es))
    ∙ ap suc (length-seen_by view es (IsDistinct-tail same_bytes e.0 (keys_of es) h))

-- no key of a map is that of another pair
pub occur_once : {A B : Type 0} (view : A → B) (es : List (Key × A)) → IsDistinct same_bytes (keys_of es) → OccurOnce view es
occur_once view [] h = tt
occur_once view (e ∷ es) h = (
  absent_after view e es h,
  occur_once view es (IsDistinct-tail same_bytes e.0 (keys_of es) h),
)

is_key_test : (q : List ℕ) → IsKeyTest same_bytes (has_bytes q)
is_key_test q x y e = let same = (bytes_eq-Decides q (text_of x)).0 e in rw (← same) refl

apart : (k q : List ℕ) → bytes_eq k q ≡ false → AreApart (has_bytes k) (has_bytes q)
apart k q e x h = by_cases (has_bytes q x) refl where
  by_cases : (b : Bool) → has_bytes q x ≡ b → has_bytes q x ≡ false
  by_cases false p = p
  by_cases true p =
      let first = (bytes_eq-Decides k (text_of x)).0 h in
      let second = (bytes_eq-Decides q (text_of x)).0 p in
      let yes : bytes_eq k q ≡ true = (bytes_eq-Decides k q).1 (first ∙ sym second) in
      cc

-- what a change at one key leaves
pub found_updated : {A B : Type 0} (view : A → B) (k : List ℕ) (old new : List (Key × A)) (w : Option A) → lookup (has_bytes k) new ≡ w → KeepsOthers same_bytes (has_bytes k) old new →
    (q : List ℕ) → found q (seen_by view new) ≡ (if bytes_eq k q then option_map view w else found q (seen_by view old))
unfolding KeepsOthers
found_updated view k old new w here others q = by_cases (bytes_eq k q) refl where
  by_cases : (b : Bool) → bytes_eq k q ≡ b → found q (seen_by view new) ≡ (if b then option_map view w else found q (seen_by view old))
  by_cases true e =
      let same = (bytes_eq-Decides k q).0 e in
      rw (← same) (found-seen_by view k new ∙ ap (option_map view) here)
  by_cases false e =
      found-seen_by view q new ∙ ap (option_map view) (others (has_bytes q) (is_key_test q) (apart k q e)) ∙ sym (found-seen_by view q old)

pub put_updated : {A B : Type 0} (view : A → B) (k : List ℕ) (old new : List (Key × A)) (w : A) → lookup (has_bytes k) new ≡ Some w → KeepsOthers same_bytes (has_bytes k) old new →
    seen_by view new ≡ put k (view w) (seen_by view old)
put_updated view k old new w here others =
    same_found (seen_by view new) (put k (view w) (seen_by view old)) (rise-seen_by view new) (rise-put k (view w) (seen_by view old) (rise-seen_by view old))
    (λ q. found_updated view k old new (Some w) here others q
    ∙ ap (λ b. if b then Some (view w) else found q (seen_by view old)) (flip k q)
    ∙ sym (found-put q k (view w) (seen_by view old)))

pub without_updated : {A B : Type 0} (view : A → B) (k : List ℕ) (old new : List (Key × A)) → lookup (has_bytes k) new ≡ None → KeepsOthers same_bytes (has_bytes k) old new →
    seen_by view new ≡ without k (seen_by view old)
without_updated view k old new here others =
    same_found (seen_by view new) (without k (seen_by view old)) (rise-seen_by view new) (rise-without k (seen_by view old) (rise-seen_by view old))
    (λ q. found_updated view k old new None here others q ∙ sym (found-without q k (seen_by view old)))

is_some-map : {A B : Type 0} (view : A → B) (o : Option A) → is_some o ≡ is_some (option_map view o)
is_some-map view None = refl
is_some-map view (Some v) = refl

pub contains_by : {A B : Type 0} (view : A → B) (q : List ℕ) (es : List (Key × A)) → is_some (lookup (has_bytes q) es) ≡ is_some (found q (seen_by view es))
contains_by view q es = is_some-map view (lookup (has_bytes q) es) ∙ ap is_some (sym (found-seen_by view q es))

-- ---- places

-- a pair among others is one place further after one more
further : {A : Type 0} (e : Key × A) (es : List (Key × A)) (n : ℕ) (k : List ℕ) → HasKeyAt es n k → HasKeyAt (e ∷ es) (suc n) k
further e es n k h = h

-- the first key that has these bytes
pub first_place : {A : Type 0} (k : List ℕ) (es : List (Key × A)) → position_or_len (has_bytes k) (keys_of es) < length es → HasKeyAt es (position_or_len (has_bytes k) (keys_of es)) k
first_place k [] h = absurd (omega (arith, h))
first_place k (e ∷ es) h = by_cases (has_bytes k e.0) refl h (first_place k es) where
  by_cases : (b : Bool) → has_bytes k e.0 ≡ b → cond (not b) (1 + position_or_len (has_bytes k) (keys_of es)) 0 < suc (length es) →
      (position_or_len (has_bytes k) (keys_of es) < length es → HasKeyAt es (position_or_len (has_bytes k) (keys_of es)) k) →
      HasKeyAt (e ∷ es) (cond (not b) (1 + position_or_len (has_bytes k) (keys_of es)) 0) k
  by_cases true p g rest = (e, refl, sym ((bytes_eq-Decides k (text_of e.0)).0 p))
  by_cases false p g rest =
      let next : 1 + position_or_len (has_bytes k) (keys_of es) ≡ suc (position_or_len (has_bytes k) (keys_of es)) = omega arith in
      rw next (further e es _ k (rest (omega (arith, g))))

from_position : (b : Bool) (n i : ℕ) → cond b (Some n) None ≡ Some i → n ≡ i
from_position true n i e = cc
from_position false n i e = cc

pub place_found : {A : Type 0} (k : List ℕ) (es : List (Key × A)) (i : ℕ) → position (has_bytes k) (keys_of es) ≡ Some i → i < length es → HasKeyAt es i k
place_found k es i e h =
    let same = from_position (nat_lt (position_or_len (has_bytes k) (keys_of es)) (length (keys_of es))) (position_or_len (has_bytes k) (keys_of es)) i e in
    let P : ℕ → Type 0 = λ n. HasKeyAt es n k in
    subst P same (first_place k es (rw same h))

-- a place that was looked for, if there is one, has the key
pub place_if_found : {A : Type 0} (k : List ℕ) (es : List (Key × A)) (o : Option ℕ) → o ≡ position (has_bytes k) (keys_of es) → IfSome o (λ i. i < length es) → IfSome o (λ i. HasKeyAt es i k)
place_if_found k es None e h = tt
place_if_found k es (Some i) e h = place_found k es i (sym e) h

-- a key that is put in is at its place
pub place_inserted : {A : Type 0} (k : Key) (v : A) (es : List (Key × A)) → HasKeyAt (insert_entry same_bytes es k v) (position_or_len (same_bytes k) (keys_of es)) (text_of k)
place_inserted k v [] = ((k, v), refl, refl)
place_inserted k v (e ∷ es) = by_cases (same_bytes k e.0) refl (place_inserted k v es) where
  by_cases : (b : Bool) → same_bytes k e.0 ≡ b → HasKeyAt (insert_entry same_bytes es k v) (position_or_len (same_bytes k) (keys_of es)) (text_of k) →
      HasKeyAt (if b then (e.0, v) ∷ es else e ∷ insert_entry same_bytes es k v) (cond (not b) (1 + position_or_len (same_bytes k) (keys_of es)) 0) (text_of k)
  by_cases true p rest = ((e.0, v), refl, sym ((bytes_eq-Decides (text_of k) (text_of e.0)).0 p))
  by_cases false p rest =
      let next : 1 + position_or_len (same_bytes k) (keys_of es) ≡ suc (position_or_len (same_bytes k) (keys_of es)) = omega arith in
      rw next (further e (insert_entry same_bytes es k v) _ (text_of k) rest)

-- ---- a value that is made where it is missing

-- one that is there stays
pub touched_there : {A B : Type 0} (view : A → B) (fresh : B) (k : List ℕ) (es : List (Key × A)) → is_some (lookup (has_bytes k) es) ≡ true →
    seen_by view es ≡ touched_by fresh k (seen_by view es)
touched_there view fresh k es e = touched_found fresh k (seen_by view es) (rise-seen_by view es) (sym (contains_by view k es) ∙ e)

-- a value that the keys' values have stays
pub touched_present : {A : Type 0} (fresh : A) (k : List ℕ) (es : List (Key × A)) → is_some (found k (by_key es)) ≡ true →
    by_key es ≡ touched_by fresh k (by_key es)
touched_present fresh k es e = touched_found fresh k (by_key es) (rise-seen_by (λ v. v) es) e

none_is : {A : Type 0} (o : Option A) → is_some o ≡ false → o ≡ None
none_is None e = refl
none_is (Some v) e = cc

pub touched_new : {A B : Type 0} (view : A → B) (k : Key) (fresh : A) (old new : List (Key × A)) → is_some (lookup (has_bytes (text_of k)) old) ≡ false →
    lookup (has_bytes (text_of k)) new ≡ Some fresh → KeepsOthers same_bytes (has_bytes (text_of k)) old new →
    seen_by view new ≡ touched_by (view fresh) (text_of k) (seen_by view old)
touched_new view k fresh old new absent here others =
    let none = none_is (found (text_of k) (seen_by view old)) (sym (contains_by view (text_of k) old) ∙ absent) in
    put_updated view (text_of k) old new fresh here others
    ∙ ap (λ o. put (text_of k) (unwrap_or o (view fresh)) (seen_by view old)) (sym none)

same_option : {A : Type 0} (o : Option A) → option_map (λ v. v) o ≡ o
same_option None = refl
same_option (Some v) = refl

-- what is seen of a value is seen of the one that a key has
found-by_key : {A B : Type 0} (view : A → B) (q : List ℕ) (es : List (Key × A)) → found q (seen_by view es) ≡ option_map view (found q (by_key es))
found-by_key view q es =
    found-seen_by view q es ∙ ap (option_map view) (sym (found-seen_by (λ v. v) q es ∙ same_option (lookup (has_bytes q) es)))

view_or : {A B : Type 0} (view : A → B) (fresh : A) (b : Bool) (o r : Option A) →
    option_map view (if b then Some (unwrap_or o fresh) else r) ≡ (if b then Some (unwrap_or (option_map view o) (view fresh)) else option_map view r)
view_or view fresh true None r = refl
view_or view fresh true (Some v) r = refl
view_or view fresh false o r = refl

-- what is seen after a key was given a place
pub touched_seen : {A B : Type 0} (view : A → B) (fresh : A) (k : List ℕ) (old new : List (Key × A)) → by_key new ≡ touched_by fresh k (by_key old) →
    seen_by view new ≡ touched_by (view fresh) k (seen_by view old)
touched_seen view fresh k old new e =
    let w = found_or (view fresh) k (seen_by view old) in
    same_found (seen_by view new) (put k w (seen_by view old)) (rise-seen_by view new) (rise-put k w (seen_by view old) (rise-seen_by view old))
    (λ q. found-by_key view q new
    ∙ ap (λ es. option_map view (found q es)) e
    ∙ ap (option_map view) (found-put q k (found_or fresh k (by_key old)) (by_key old))
    ∙ view_or view fresh (bytes_eq q k) (found k (by_key old)) (found q (by_key old))
    ∙ ap (λ o. if bytes_eq q k then Some (unwrap_or o (view fresh)) else option_map view (found q (by_key old))) (sym (found-by_key view k old))
    ∙ ap (λ o. if bytes_eq q k then Some w else o) (sym (found-by_key view q old))
    ∙ sym (found-put q k w (seen_by view old)))

-- ---- a value that is written at a place

same_bytes_equiv : IsEquivalence same_bytes
same_bytes_equiv = on_texts_equal (λ k. (text_of k))

pub put_written : {A B S : Type 0} (view : A → B) (m : IndexMap Key A S) → IsUnique same_bytes m → (i : ℕ) (k : List ℕ) (w : A) → HasKeyAt m.entries i k →
    seen_by view (set_value_at m.entries i w) ≡ put k (view w) (seen_by view m.entries)
put_written view m unique i k w h =
    let u = updates-with_value_at m i w same_bytes_equiv unique h.0.0 h.0.1 h.1 in
    put_updated view (text_of h.0.0) m.entries (set_value_at m.entries i w) w u.1 u.3 ∙ ap (λ q. put q (view w) (seen_by view m.entries)) h.2

some_same : {A : Type 0} (x y : A) → Some x ≡ Some y → x ≡ y
some_same x y e = cc

pub value_at : {A B S : Type 0} (view : A → B) (m : IndexMap Key A S) → IsUnique same_bytes m → (i : ℕ) (k : List ℕ) (v : A) → HasKeyAt m.entries i k →
    slice_get (values m) i ≡ Some v → found k (seen_by view m.entries) ≡ Some (view v)
value_at {A} view m unique i k v h e =
    let at : Some h.0.1 ≡ Some v = sym (ap (option_map (λ x. x.1)) h.1) ∙ sym (slice_get-map (λ (x : Key × A). x.1) m.entries i) ∙ e in
    let there : lookup (has_bytes (text_of h.0.0)) m.entries ≡ Some h.0.1 = hash_map_get_place same_bytes_equiv m i h.0.0 h.0.1 unique h.1 in
    ap (λ q. found q (seen_by view m.entries)) (sym h.2) ∙ found-seen_by view (text_of h.0.0) m.entries ∙ ap (option_map view) (there ∙ at)

-- ---- pairs at places

pub entry_at : {A B : Type 0} (view : A → B) (es : List (Key × A)) (i : ℕ) (k : List ℕ) (e : Key × A) → HasKeyAt es i k → slice_get es i ≡ Some e → lookup (has_bytes (text_of e.0)) es ≡ Some e.1 →
    found k (seen_by view es) ≡ Some (view e.1)
entry_at {A} view es i k e h at there =
    let same : h.0 ≡ e = some_same h.0 e (sym h.1 ∙ at) in
    let bytes : (text_of e.0) ≡ k = ap (λ (x : Key × A). (text_of x.0)) (sym same) ∙ h.2 in
    ap (λ q. found q (seen_by view es)) (sym bytes) ∙ found-seen_by view (text_of e.0) es ∙ ap (option_map view) there

pub entries_from : {A B : Type 0} (view : A → B) (es : List (Key × A)) (i : ℕ) (e : Key × A) → slice_get es i ≡ Some e → seen_by view (drop i es) ≡ put (text_of e.0) (view e.1) (seen_by view (drop (suc i) es))
entries_from view [] i e h = cc
entries_from view (x ∷ es) zero e h = let same = some_same x e h in rw same refl
entries_from view (x ∷ es) (suc i) e h = entries_from view es i e h
