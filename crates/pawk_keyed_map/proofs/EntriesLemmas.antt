-- Values in the order of their keys.
use Rattle.std.proofs.Common.{◌≡◌, ◌≢◌, ℕ, ◌+◌, Bool, true, false, cond, List, length, Option, Some, None, refl, sym, ◌∙◌, ap, subst}
use Rattle.std.specs.Prelude.{not, is_some, if◌then◌else◌}
use Rattle.std.specs.Option.{unwrap_or}
use Rattle.std.specs.declared.cmp.Ordering.TheVariants.{Equal}
use Rattle.std.specs.Cmp.{IsTotalOrder}
use Rattle.std.specs.Cmp.Lexicographic.{nat_list_cmp_total, texts_ties}
use Rattle.std.specs.Str.{bytes_eq}
use Rattle.std.specs.FinMap.{slice_cmp-IsAntisymmetric, nat_cmp-IsAntisymmetric}
use Rattle.std.specs.FinMap.Entries.{find-put, find-where_key, is_sorted-put, is_sorted-where_key, length-put, same_entries}
use Rattle.pawk_keyed_map.specs.Keyed.{Keyed, order, Rise, found, put, without, found_or, touched_by}
use Rattle.std.proofs.lemmas.Slice.Eq.{bytes_eq-Decides}
use lib.Dec.{T}

pub holds : (b : Bool) → b ≡ true → T b
holds true e = tt
holds false e = subst T (sym e) tt

is_true : (b : Bool) → T b → b ≡ true
is_true true h = refl
is_true false h = absurd h

pub total : IsTotalOrder order
total = nat_list_cmp_total

pub same_text : (x y : List ℕ) → order x y ≡ Equal → x ≡ y
same_text = slice_cmp-IsAntisymmetric nat_cmp-IsAntisymmetric

pub rise-put : {A : Type 0} (k : List ℕ) (v : A) (es : Keyed A) → Rise es → Rise (put k v es)
rise-put k v es h = is_true _ (is_sorted-put order total k v es (holds _ h))

pub rise-without : {A : Type 0} (k : List ℕ) (es : Keyed A) → Rise es → Rise (without k es)
rise-without k es h = is_true _ (is_sorted-where_key order (λ other. not (bytes_eq k other)) es (holds _ h))

-- after a value is put at a key, it has that, and every other key has what it had
pub found-put : {A : Type 0} (q k : List ℕ) (v : A) (es : Keyed A) → found q (put k v es) ≡ (if bytes_eq q k then Some v else found q es)
found-put q k v es = rw (texts_ties q k) (find-put order total q k v es)

alike : (k q x : List ℕ) → order q x ≡ Equal → not (bytes_eq k x) ≡ not (bytes_eq k q)
alike k q x e = ap (λ y. not (bytes_eq k y)) (sym (same_text q x e))

if_not : {A : Type 0} (b : Bool) (x y : A) → cond (not b) x y ≡ (if b then y else x)
if_not true x y = refl
if_not false x y = refl

-- without a key, that has nothing, and every other key has what it had
pub found-without : {A : Type 0} (q k : List ℕ) (es : Keyed A) → found q (without k es) ≡ (if bytes_eq k q then None else found q es)
found-without q k es =
    find-where_key order (λ other. not (bytes_eq k other)) q (alike k q) es ∙ if_not (bytes_eq k q) (found q es) None

-- values in order that have the same at every key are equal
pub same_found : {A : Type 0} (es fs : Keyed A) → Rise es → Rise fs → ((q : List ℕ) → found q es ≡ found q fs) → es ≡ fs
same_found es fs g h e = same_entries order total same_text es fs (holds _ g) (holds _ h) e

pub length-put_new : {A : Type 0} (k : List ℕ) (v : A) (es : Keyed A) → Rise es → found k es ≡ None → length (put k v es) ≡ length es + 1
length-put_new k v es h e = length-put order total k v es (holds _ h) ∙ ap (λ o. cond (is_some o) (length es) (length es + 1)) e

pub flip : (k q : List ℕ) → bytes_eq k q ≡ bytes_eq q k
flip k q = by_cases (bytes_eq k q) (bytes_eq q k) refl refl where
  by_cases : (a b : Bool) → bytes_eq k q ≡ a → bytes_eq q k ≡ b → bytes_eq k q ≡ bytes_eq q k
  by_cases true b e f = let same = (bytes_eq-Decides k q).0 e in e ∙ sym ((bytes_eq-Decides q k).1 (sym same))
  by_cases false true e f = let same = (bytes_eq-Decides q k).0 f in let yes = (bytes_eq-Decides k q).1 (sym same) in cc
  by_cases false false e f = e ∙ sym f

pub differs : (q k : List ℕ) → q ≢ k → bytes_eq q k ≡ false
differs q k h = differs_by (bytes_eq q k) refl where
  differs_by : (b : Bool) → bytes_eq q k ≡ b → bytes_eq q k ≡ false
  differs_by false e = e
  differs_by true e = absurd (h ((bytes_eq-Decides q k).0 e))

pub itself : (k : List ℕ) → bytes_eq k k ≡ true
itself k = (bytes_eq-Decides k k).1 refl

pub put_here : {A : Type 0} (k : List ℕ) (v : A) (es : Keyed A) → found k (put k v es) ≡ Some v
put_here k v es = found-put k k v es ∙ ap (λ b. if b then Some v else found k es) (itself k)

pub put_other : {A : Type 0} (q k : List ℕ) (v : A) (es : Keyed A) → q ≢ k → found q (put k v es) ≡ found q es
put_other q k v es h = found-put q k v es ∙ ap (λ b. if b then Some v else found q es) (differs q k h)

-- a value that a key has may be put there again
pub put_same : {A : Type 0} (k : List ℕ) (v : A) (es : Keyed A) → Rise es → found k es ≡ Some v → put k v es ≡ es
put_same k v es h there =
    same_found (put k v es) es (rise-put k v es h) h (λ q. found-put q k v es ∙ stays q (bytes_eq q k) refl) where
      stays : (q : List ℕ) (b : Bool) → bytes_eq q k ≡ b → (if b then Some v else found q es) ≡ found q es
      stays q true p = let same = (bytes_eq-Decides q k).0 p in rw same (sym there)
      stays q false p = refl

-- what is put last at a key counts
pub put-put : {A : Type 0} (k : List ℕ) (v w : A) (es : Keyed A) → Rise es → put k v (put k w es) ≡ put k v es
put-put k v w es h =
    same_found (put k v (put k w es)) (put k v es) (rise-put k v (put k w es) (rise-put k w es h)) (rise-put k v es h)
    (λ q. found-put q k v (put k w es)
    ∙ ap (λ o. if bytes_eq q k then Some v else o) (found-put q k w es)
    ∙ shadowed (bytes_eq q k) (found q es)
    ∙ sym (found-put q k v es)) where
      shadowed : (b : Bool) (o : Option _) → (if b then Some v else if b then Some w else o) ≡ (if b then Some v else o)
      shadowed true o = refl
      shadowed false o = refl

-- ---- a value that is made where it is missing

some_is : {A : Type 0} (fresh : A) (o : Option A) → is_some o ≡ true → o ≡ Some (unwrap_or o fresh)
some_is fresh None e = cc
some_is fresh (Some v) e = refl

-- one that is there stays
pub touched_found : {A : Type 0} (fresh : A) (k : List ℕ) (es : Keyed A) → Rise es → is_some (found k es) ≡ true → es ≡ touched_by fresh k es
touched_found fresh k es rise e = sym (put_same k (found_or fresh k es) es rise (some_is fresh (found k es) e))

some_same : {A : Type 0} (x y : A) → Some x ≡ Some y → x ≡ y
some_same x y e = cc

-- the value that a key is touched with
pub value_touched : {A : Type 0} (fresh : A) (k : List ℕ) (old new : Keyed A) (v : A) → new ≡ touched_by fresh k old → found k new ≡ Some v → v ≡ found_or fresh k old
value_touched fresh k old new v e f = some_same v (found_or fresh k old) (sym f ∙ ap (found k) e ∙ put_here k (found_or fresh k old) old)
