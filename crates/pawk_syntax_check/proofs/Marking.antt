-- What marking keeps.
use Rattle.std.proofs.Common.{◌≡◌, ℕ, zero, suc, ◌<◌, ◌≤◌, Bool, true, false, List, [], ◌∷◌, length, get_or, refl, sym, ◌∙◌, subst, arith, get_or-set_other, length-set, ⊎_elim}
use Rattle.std.specs.Prelude.{not, ◌||◌, ◌&&◌, if◌then◌else◌, slice_set}
use Rattle.std.specs.List.{list_all}
use Rattle.std.proofs.lemmas.List.Sums.{sum_by-set}
use Rattle.std.proofs.lemmas.Bool.{cases_eq}
use lib.ListN.{replicate}
use Rattle.pawk_syntax_check.specs.declared.demand.Demand.{Demand}
use Rattle.pawk_syntax_check.specs.declared.demand.Demand.TheVariants.{Array, Scalar, Alike}
use Rattle.pawk_syntax_check.specs.Marks.{is_marked, mark, step, is_settled, steps, changes, IsBelow, AreBelow, unmarked_count, meets_numbers, IsForced}

-- ---- one mark

length_if : (b : Bool) (m n : List Bool) → length n ≡ length m → length (if b then m else n) ≡ length m
length_if true m n h = refl
length_if false m n h = h

length-mark : (m : List Bool) (i : ℕ) → length (mark m i) ≡ length m
length-mark m i = length_if (is_marked m i) m (slice_set m i true) (length-set m i true)

mark_yes : (m : List Bool) (i : ℕ) → is_marked m i ≡ true → mark m i ≡ m
mark_yes m i e = rw e refl

mark_no : (m : List Bool) (i : ℕ) → is_marked m i ≡ false → mark m i ≡ slice_set m i true
mark_no m i e = rw e refl

forced_at : (k : ℕ → Bool) (m : List Bool) (i : ℕ) → IsForced k m → k i ≡ true → (b : Bool) → is_marked m i ≡ b → IsForced k (mark m i)
forced_at k m i f h true e = let P : List Bool → Type 0 = IsForced k in subst P (sym (mark_yes m i e)) f
forced_at k m i f h false e =
    let P : List Bool → Type 0 = IsForced k in
    subst P (sym (mark_no m i e)) (λ j g.
    ⊎_elim (λ same. let Q : ℕ → Type 0 = λ n. k n ≡ true in subst Q (sym same) h)
    (λ other. f j (let moved : is_marked (slice_set m i true) j ≡ is_marked m j = get_or-set_other m i j true false other in sym moved ∙ g)) (cases_eq j i))

forced-mark : (k : ℕ → Bool) (m : List Bool) (i : ℕ) → IsForced k m → k i ≡ true → IsForced k (mark m i)
forced-mark k m i f h = forced_at k m i f h (is_marked m i) refl

less-mark : (m : List Bool) (i : ℕ) → i < length m → is_marked m i ≡ false → unmarked_count (mark m i) < unmarked_count m
less-mark m i h e =
    let sums = sum_by-set (λ b. if b then 0 else 1) m i true false h in
    let was : ◌≡◌ {A = ℕ} (if is_marked m i then 0 else 1) 1 = rw e refl in
    rw (mark_no m i e) (omega (arith, sums, was))

-- ---- one demand

length_two : (a b : Bool) (x y m : List Bool) → length x ≡ length m → length y ≡ length m →
    length (if a then x else (if b then y else m)) ≡ length m
length_two true b x y m e f = e
length_two false true x y m e f = f
length_two false false x y m e f = refl

pub length-step : (d : Demand) (m : List Bool) → length (step d m) ≡ length m
length-step (Array v) m = length-mark m v.number
length-step (Scalar v) m = refl
length-step (Alike v w) m =
    length_two (is_marked m v.number) (is_marked m w.number) (mark m w.number) (mark m v.number) m (length-mark m w.number) (length-mark m v.number)

settled_two : (m : List Bool) (i j : ℕ) (a b : Bool) → is_marked m i ≡ a → is_marked m j ≡ b → (if a then b else not b) ≡ true →
    (if a then mark m j else (if b then mark m i else m)) ≡ m
settled_two m i j true true p q e = mark_yes m j q
settled_two m i j true false p q e = cc
settled_two m i j false true p q e = cc
settled_two m i j false false p q e = refl

step_settled : (d : Demand) (m : List Bool) → is_settled m d ≡ true → step d m ≡ m
step_settled (Array v) m e = mark_yes m v.number e
step_settled (Scalar v) m e = refl
step_settled (Alike v w) m e = settled_two m v.number w.number (is_marked m v.number) (is_marked m w.number) refl refl e

left : (x y : Bool) → x ≡ true → (if x then y else not y) ≡ true → y ≡ true
left true y p e = e
left false y p e = cc

right : (x y : Bool) → y ≡ true → (if x then y else not y) ≡ true → x ≡ true
right true y p e = refl
right false true p e = cc
right false false p e = cc

forced_two : (k : ℕ → Bool) (m : List Bool) (i j : ℕ) → IsForced k m → (if k i then k j else not (k j)) ≡ true →
    (a b : Bool) → is_marked m i ≡ a → is_marked m j ≡ b → IsForced k (if a then mark m j else (if b then mark m i else m))
forced_two k m i j f e true b p q = forced-mark k m j f (left (k i) (k j) (f i p) e)
forced_two k m i j f e false true p q = forced-mark k m i f (right (k i) (k j) (f j q) e)
forced_two k m i j f e false false p q = f

forced-step : (k : ℕ → Bool) (d : Demand) (m : List Bool) → IsForced k m → meets_numbers k d ≡ true → IsForced k (step d m)
forced-step k (Array v) m f e = forced-mark k m v.number f e
forced-step k (Scalar v) m f e = f
forced-step k (Alike v w) m f e = forced_two k m v.number w.number f e (is_marked m v.number) (is_marked m w.number) refl refl

less_two : (m : List Bool) (i j : ℕ) → i < length m → j < length m →
    (a b : Bool) → is_marked m i ≡ a → is_marked m j ≡ b → (if a then b else not b) ≡ false →
    unmarked_count (if a then mark m j else (if b then mark m i else m)) < unmarked_count m
less_two m i j g h true true p q e = cc
less_two m i j g h true false p q e = less-mark m j h q
less_two m i j g h false true p q e = less-mark m i g p
less_two m i j g h false false p q e = cc

less-step : (d : Demand) (m : List Bool) → IsBelow (length m) d → is_settled m d ≡ false → unmarked_count (step d m) < unmarked_count m
less-step (Array v) m h e = less-mark m v.number h e
less-step (Scalar v) m h e = cc
less-step (Alike v w) m h e = less_two m v.number w.number h.0 h.1 (is_marked m v.number) (is_marked m w.number) refl refl e

-- ---- all demands in turn

pub length-steps : (ds : List Demand) (m : List Bool) → length (steps ds m) ≡ length m
length-steps [] m = refl
length-steps (d ∷ ds) m = length-steps ds (step d m) ∙ length-step d m

below_step : (ds : List Demand) (d : Demand) (m : List Bool) → AreBelow (length m) ds → AreBelow (length (step d m)) ds
below_step ds d m h = let P : ℕ → Type 0 = λ n. AreBelow n ds in subst P (sym (length-step d m)) h

settled_on : (ds : List Demand) (d : Demand) (m : List Bool) → ((n : List Bool) → changes ds n ≡ false → (steps ds n ≡ n) × (list_all (is_settled n) ds ≡ true)) →
    (s : Bool) → is_settled m d ≡ s → (not s || changes ds (step d m)) ≡ false →
    (steps ds (step d m) ≡ m) × ((is_settled m d && list_all (is_settled m) ds) ≡ true)
settled_on ds d m rest false p e = cc
settled_on ds d m rest true p e =
    let same = step_settled d m p in
    let others = rest m (rw same at e) in
    (rw same others.0, rw (p, others.1) refl)

pub steps_settled : (ds : List Demand) (m : List Bool) → changes ds m ≡ false → (steps ds m ≡ m) × (list_all (is_settled m) ds ≡ true)
steps_settled [] m e = (refl, refl)
steps_settled (d ∷ ds) m e = settled_on ds d m (steps_settled ds) (is_settled m d) refl e

all_head : (a b : Bool) → (a && b) ≡ true → (a ≡ true) × (b ≡ true)
all_head true true e = (refl, refl)
all_head true false e = cc
all_head false b e = cc

pub forced-steps : (k : ℕ → Bool) (ds : List Demand) (m : List Bool) → IsForced k m → list_all (meets_numbers k) ds ≡ true → IsForced k (steps ds m)
forced-steps k [] m f e = f
forced-steps k (d ∷ ds) m f e =
    let both = all_head (meets_numbers k d) (list_all (meets_numbers k) ds) e in
    forced-steps k ds (step d m) (forced-step k d m f both.0) both.1

at_most_one : (d : Demand) (m : List Bool) → IsBelow (length m) d → (s : Bool) → is_settled m d ≡ s → unmarked_count (step d m) ≤ unmarked_count m
at_most_one d m h true e = rw (step_settled d m e) (omega arith)
at_most_one d m h false e = omega (arith, less-step d m h e)

at_most : (ds : List Demand) (m : List Bool) → AreBelow (length m) ds → unmarked_count (steps ds m) ≤ unmarked_count m
at_most [] m h = omega arith
at_most (d ∷ ds) m h =
    omega (arith, at_most ds (step d m) (below_step ds d m h.1), at_most_one d m h.0 (is_settled m d) refl)

less_on : (ds : List Demand) (d : Demand) (m : List Bool) → IsBelow (length m) d → AreBelow (length m) ds →
    ((n : List Bool) → AreBelow (length n) ds → changes ds n ≡ true → unmarked_count (steps ds n) < unmarked_count n) →
    (s : Bool) → is_settled m d ≡ s → (not s || changes ds (step d m)) ≡ true → unmarked_count (steps ds (step d m)) < unmarked_count m
less_on ds d m g h rest false p e = omega (arith, less-step d m g p, at_most ds (step d m) (below_step ds d m h))
less_on ds d m g h rest true p e =
    let others = rest (step d m) (below_step ds d m h) e in
    omega (arith, others, at_most_one d m g true p)

pub less-steps : (ds : List Demand) (m : List Bool) → AreBelow (length m) ds → changes ds m ≡ true → unmarked_count (steps ds m) < unmarked_count m
less-steps [] m h e = cc
less-steps (d ∷ ds) m h e = less_on ds d m h.0 h.1 (less-steps ds) (is_settled m d) refl e

-- ---- at the beginning

none_marked : (n i : ℕ) → get_or (replicate n false) i false ≡ false
none_marked zero i = refl
none_marked (suc n) zero = refl
none_marked (suc n) (suc i) = none_marked n i

pub nothing_marked : (k : ℕ → Bool) (n : ℕ) → IsForced k (replicate n false)
nothing_marked k n i e = let none = none_marked n i in cc

-- ---- one demand of a list

pub below_at : (n : ℕ) (ds : List Demand) (i : ℕ) (x : Demand) → i < length ds → AreBelow n ds → IsBelow n (get_or ds i x)
below_at n [] i x h b = absurd (omega (arith, h))
below_at n (d ∷ ds) zero x h b = b.0
below_at n (d ∷ ds) (suc i) x h b = below_at n ds i x (omega (arith, h)) b.1

meets_at : (k : ℕ → Bool) (ds : List Demand) (i : ℕ) (x : Demand) → i < length ds → list_all (meets_numbers k) ds ≡ true → meets_numbers k (get_or ds i x) ≡ true
meets_at k [] i x h e = absurd (omega (arith, h))
meets_at k (d ∷ ds) zero x h e = (all_head (meets_numbers k d) (list_all (meets_numbers k) ds) e).0
meets_at k (d ∷ ds) (suc i) x h e = meets_at k ds i x (omega (arith, h)) (all_head (meets_numbers k d) (list_all (meets_numbers k) ds) e).1

pub forced-step_at : (k : ℕ → Bool) (ds : List Demand) (i : ℕ) (x : Demand) (m : List Bool) → i < length ds →
    list_all (meets_numbers k) ds ≡ true → IsForced k m → IsForced k (step (get_or ds i x) m)
forced-step_at k ds i x m h e f = forced-step k (get_or ds i x) m f (meets_at k ds i x h e)
