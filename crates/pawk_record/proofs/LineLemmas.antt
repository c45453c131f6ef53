-- The values of a line by their numbers.
use Rattle.std.proofs.Common.{◌≡◌, ℕ, zero, suc, ◌+◌, ◌-◌, ◌<◌, ◌≤◌, max, arith, List, [], ◌∷◌, ◌++◌, length, set, replicate, Some, None, refl, ap, ◌∙◌, length-append}
use Rattle.std.specs.Prelude.{slice_get}
use Rattle.std.specs.declared.ops.Range.{Range}
use Rattle.pawk_value.specs.Value.{Val, Uninit, Maybe}
use Rattle.pawk_record.specs.declared.layout.Kind.{Kind}
use Rattle.pawk_record.specs.Lines.{bytes_in, value_by, value_of, values}
use Rattle.pawk_record.specs.Records.{padded, value_or_uninit, with_value}

-- the value in a range
pub value_there : (text : List ℕ) (rs : List (Range ℕ)) (ks : List Kind) (i : ℕ) (r : Range ℕ) → slice_get rs i ≡ Some r → slice_get (values text rs ks) i ≡ Some (value_by (slice_get ks i) (bytes_in text r))
unfolding values
value_there text [] ks i r h = cc
value_there text (x ∷ rs) [] zero r h = let same : x ≡ r = cc in ap (λ y. Some (Maybe (bytes_in text y))) same
value_there text (x ∷ rs) [] (suc i) r h = value_there text rs [] i r h
value_there text (x ∷ rs) (k ∷ ks) zero r h = let same : x ≡ r = cc in ap (λ y. Some (value_of k (bytes_in text y))) same
value_there text (x ∷ rs) (k ∷ ks) (suc i) r h = value_there text rs ks i r h

-- past the last range there is none
pub value_past : (text : List ℕ) (rs : List (Range ℕ)) (ks : List Kind) (i : ℕ) → slice_get rs i ≡ None → slice_get (values text rs ks) i ≡ None
unfolding values
value_past text [] ks i h = refl
value_past text (x ∷ rs) [] zero h = cc
value_past text (x ∷ rs) [] (suc i) h = value_past text rs [] i h
value_past text (x ∷ rs) (k ∷ ks) zero h = cc
value_past text (x ∷ rs) (k ∷ ks) (suc i) h = value_past text rs ks i h

-- there are as many values as ranges
pub length-values : (text : List ℕ) (rs : List (Range ℕ)) (ks : List Kind) → length (values text rs ks) ≡ length rs
unfolding values
length-values text [] ks = refl
length-values text (r ∷ rs) [] = ap suc (length-values text rs [])
length-values text (r ∷ rs) (k ∷ ks) = ap suc (length-values text rs ks)

-- ---- a list with one value more

get-set_same : {X : Type 0} (xs : List X) (i : ℕ) (v : X) → i < length xs → slice_get (set xs i v) i ≡ Some v
get-set_same [] i v h = absurd (omega arith)
get-set_same (x ∷ xs) zero v h = refl
get-set_same (x ∷ xs) (suc i) v h = get-set_same xs i v (omega arith)

get-set_other : {X : Type 0} (xs : List X) (i j : ℕ) (v : X) → (j ≡ i → ⊥) → slice_get (set xs i v) j ≡ slice_get xs j
get-set_other [] i j v h = refl
get-set_other (x ∷ xs) zero zero v h = absurd (h refl)
get-set_other (x ∷ xs) zero (suc j) v h = refl
get-set_other (x ∷ xs) (suc i) zero v h = refl
get-set_other (x ∷ xs) (suc i) (suc j) v h = get-set_other xs i j v (λ e. h (ap suc e))

get-replicate : (m i : ℕ) → i < m → slice_get (replicate m Uninit) i ≡ Some Uninit
get-replicate zero i h = absurd (omega arith)
get-replicate (suc m) zero h = refl
get-replicate (suc m) (suc i) h = get-replicate m i (omega arith)

get-pads : (vs : List Val) (m i : ℕ) → i < length vs + m → slice_get (vs ++ replicate m Uninit) i ≡ Some (value_or_uninit (slice_get vs i))
get-pads [] m i h = get-replicate m i (omega arith)
get-pads (v ∷ vs) m zero h = refl
get-pads (v ∷ vs) m (suc i) h = get-pads vs m i (omega arith)

length-pads : (vs : List Val) (m : ℕ) → length (vs ++ replicate m Uninit) ≡ length vs + m
length-pads vs m = length-append vs (replicate m Uninit) ∙ ap (λ n. length vs + n) (length-copies m)
  where
    length-copies : (m : ℕ) → length (replicate m Uninit) ≡ m
    length-copies zero = refl
    length-copies (suc m) = ap suc (length-copies m)

-- the assigned value
pub with_value_same : (n : ℕ) (v : Val) (vs : List Val) (i : ℕ) → i + 1 ≡ n → slice_get (with_value n v vs) i ≡ Some v
unfolding with_value
with_value_same n v vs i h =
    let at : n - 1 ≡ i = omega arith in
    let long = length-pads vs (n - length vs) in
    ap (λ k. slice_get (set (padded vs n) k v) i) at ∙ get-set_same (padded vs n) i v (omega arith)

-- the others
pub with_value_other : (n : ℕ) (v : Val) (vs : List Val) (i : ℕ) → 1 ≤ n → (i + 1 ≡ n → ⊥) → i < max n (length vs) → slice_get (with_value n v vs) i ≡ Some (value_or_uninit (slice_get vs i))
unfolding with_value
with_value_other n v vs i one h within =
    get-set_other (padded vs n) (n - 1) i v (λ e. h (omega arith)) ∙ get-pads vs (n - length vs) i (omega arith)

pub length-with_value : (n : ℕ) (v : Val) (vs : List Val) → length (with_value n v vs) ≡ max n (length vs)
unfolding with_value
length-with_value n v vs = length-sets (padded vs n) (n - 1) v ∙ (let long = length-pads vs (n - length vs) in omega arith)
  where
    length-sets : (xs : List Val) (i : ℕ) (v : Val) → length (set xs i v) ≡ length xs
    length-sets [] i v = refl
    length-sets (x ∷ xs) zero v = refl
    length-sets (x ∷ xs) (suc i) v = ap suc (length-sets xs i v)
