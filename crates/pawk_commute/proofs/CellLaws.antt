-- What a change of one cell leaves at each cell.
use Rattle.std.proofs.Common.{◌≡◌, ◌≢◌, ◌<◌, ℕ, zero, suc, List, [], ◌∷◌, Option, Some, Bool, true, false, T, refl, ap, sym, ◌∙◌, subst, length, arith, rules, tests}
use Rattle.std.specs.Prelude.{slice_set, slice_index_or, nat_eq, ◌&&◌, if◌then◌else◌}
use Rattle.std.specs.Str.{bytes_eq}
use Rattle.std.specs.Cmp.{IsTotalOrder}
use Rattle.std.specs.Cmp.Lexicographic.{nat_list_cmp_total, texts_ties}
use Rattle.std.specs.FinMap.{slice_cmp-IsAntisymmetric, nat_cmp-IsAntisymmetric}
use Rattle.std.specs.FinMap.Entries.{find, put as put_by, find-put, is_sorted-put, same_entries}
use Rattle.std.proofs.lemmas.List.{length-set, set-get_or}
use Rattle.std.proofs.lemmas.Slice.Eq.{bytes_eq-Decides}
use Rattle.pawk_value.specs.Value.{Val, Uninit}
use Rattle.pawk_array.specs.Entries.{Entries, order, Rise, found, put}
use Rattle.pawk_world.specs.Worlds.{Cell, scalar, element}
use Rattle.pawk_store.specs.Globals.{Globals, array_at, value_at, with_array, with_value}
use Rattle.pawk_frozen.specs.Marks.{Mark, blank, mark_or_blank, Table, mark_at, with_mark}
use Rattle.pawk_admit.specs.declared.role.Role.{Role}
use Rattle.pawk_admit.specs.declared.role.Role.TheVariants.{Fixed}
use Rattle.pawk_admit.specs.Roles.{Roles}
use Rattle.pawk_store.specs.Lockstep.{Resource, variable_slot, array_slot, function_slot, last_match, rule_ranges, rest_of_file, resource_of_cell}
use Rattle.pawk_commute.specs.Traces.{same_cell}
use Rattle.pawk_commute.specs.Settings.{role_of, entry_at, HasSlots, FitSlots, AreInOrder}

-- there is a slot
abbrev pub IsThere : Resource → Globals → Type 0
IsThere (variable_slot n) g = n < length g.scalars
IsThere (array_slot n) g = n < length g.arrays
IsThere _ g = ⊥

-- a slot whose role is not that of a slot past the last one
role_there : (roles : List Role) (n : ℕ) → (slice_index_or roles n Fixed ≡ Fixed → ⊥) → n < length roles
role_there [] n h = absurd (h refl)
role_there (r ∷ roles) zero h = omega arith
role_there (r ∷ roles) (suc n) h = let k = role_there roles n h in omega (arith, k)

pub there_by_role : (roles : Roles) (fixed : Globals) → FitSlots roles.scalars roles.arrays fixed → (r : Resource) → (role_of roles r ≡ Fixed → ⊥) → IsThere r fixed
there_by_role roles fixed h (variable_slot n) k = omega (arith, h.0, role_there roles.scalars n k)
there_by_role roles fixed h (array_slot n) k = omega (arith, h.1, role_there roles.arrays n k)
there_by_role roles fixed h (function_slot f) k = k refl
there_by_role roles fixed h last_match k = k refl
there_by_role roles fixed h rule_ranges k = k refl
there_by_role roles fixed h rest_of_file k = k refl

-- ---- a place of a list after a write

nat_same : (n m : ℕ) → nat_eq n m ≡ true → n ≡ m
nat_same n m h = search (rules, tests)

nat_apart : (n m : ℕ) → nat_eq n m ≡ false → n ≡ m → ⊥
nat_apart n m h e = let k : n ≢ m = search (rules, tests) in k e

at_set_other : {X : Type 0} (xs : List X) (n m : ℕ) (x d : X) → (m ≡ n → ⊥) →
    slice_index_or (slice_set xs n x) m d ≡ slice_index_or xs m d
at_set_other [] n m x d h = refl
at_set_other (y ∷ xs) zero zero x d h = absurd (h refl)
at_set_other (y ∷ xs) zero (suc m) x d h = refl
at_set_other (y ∷ xs) (suc n) zero x d h = refl
at_set_other (y ∷ xs) (suc n) (suc m) x d h = at_set_other xs n m x d (λ e. h (ap suc e))

at_set_same : {X : Type 0} (xs : List X) (n : ℕ) (x d : X) → n < length xs → slice_index_or (slice_set xs n x) n d ≡ x
at_set_same [] n x d h = absurd (omega (arith, h))
at_set_same (y ∷ xs) zero x d h = refl
at_set_same (y ∷ xs) (suc n) x d h = at_set_same xs n x d (omega (arith, h))

at_set : {X : Type 0} (xs : List X) (n m : ℕ) (x d : X) → n < length xs →
    slice_index_or (slice_set xs n x) m d ≡ (if nat_eq m n then x else slice_index_or xs m d)
at_set {X} xs n m x d h = by (nat_eq m n) refl where
  by : (b : Bool) → nat_eq m n ≡ b → slice_index_or (slice_set xs n x) m d ≡ (if b then x else slice_index_or xs m d)
  by true e = ap (λ j. slice_index_or (slice_set xs n x) j d) (nat_same m n e) ∙ at_set_same xs n x d h
  by false e = at_set_other xs n m x d (nat_apart m n e)

-- ---- entries by key

total : IsTotalOrder order
total = nat_list_cmp_total

same_text : (x y : List ℕ) → order x y ≡ Rattle.std.specs.declared.cmp.Ordering.TheVariants.Equal → x ≡ y
same_text = slice_cmp-IsAntisymmetric nat_cmp-IsAntisymmetric

find_after : {X : Type 0} (other key : List ℕ) (x : X) (es : List (List ℕ × X)) →
    find order other (put_by order key x es) ≡ (if bytes_eq other key then Some x else find order other es)
find_after other key x es = rw (texts_ties other key) (find-put order total other key x es)

-- what a key of an array has after a change of an element
find_set : {X : Type 0} (xs : List (List (List ℕ × X))) (n m : ℕ) (key other : List ℕ) (x : X) → n < length xs →
    find order other (slice_index_or (slice_set xs n (put_by order key x (slice_index_or xs n []))) m [])
    ≡ (if nat_eq m n && bytes_eq other key then Some x else find order other (slice_index_or xs m []))
find_set xs n m key other x h = by (nat_eq m n) refl where
  at : slice_index_or (slice_set xs n (put_by order key x (slice_index_or xs n []))) m []
      ≡ (if nat_eq m n then put_by order key x (slice_index_or xs n []) else slice_index_or xs m [])
  at = at_set xs n m (put_by order key x (slice_index_or xs n [])) [] h

  by : (b : Bool) → nat_eq m n ≡ b →
      find order other (slice_index_or (slice_set xs n (put_by order key x (slice_index_or xs n []))) m [])
      ≡ (if b && bytes_eq other key then Some x else find order other (slice_index_or xs m []))
  by true e =
      ap (find order other) (at ∙ ap (λ b. if b then put_by order key x (slice_index_or xs n []) else slice_index_or xs m []) e)
      ∙ find_after other key x (slice_index_or xs n [])
      ∙ ap (λ j. if bytes_eq other key then Some x else find order other (slice_index_or xs j [])) (sym (nat_same m n e))
  by false e =
      ap (find order other) (at ∙ ap (λ b. if b then put_by order key x (slice_index_or xs n []) else slice_index_or xs m []) e)

-- ---- cells

both_true : (a b : Bool) → (a && b) ≡ true → (a ≡ true) × (b ≡ true)
both_true true true h = (refl, refl)
both_true true false h = absurd (cc)
both_true false b h = absurd (cc)

pub cell_same : (a b : Cell) → same_cell a b ≡ true → a ≡ b
cell_same (scalar n) (scalar m) h = ap scalar (nat_same n m h)
cell_same (element n key) (element m other) h =
    let p = both_true (nat_eq n m) (bytes_eq key other) h in
    ap (λ x. element x key) (nat_same n m p.0) ∙ ap (element m) ((bytes_eq-Decides key other).0 p.1)
cell_same (scalar n) (element m other) h = absurd (cc)
cell_same (element n key) (scalar m) h = absurd (cc)

pub cell_itself : (c : Cell) → same_cell c c ≡ true
cell_itself (scalar n) = search (rules, tests)
cell_itself (element n key) =
    let e : nat_eq n n ≡ true = search (rules, tests) in
    ap (λ b. b && bytes_eq key key) e ∙ (bytes_eq-Decides key key).1 refl

some_if : {X : Type 0} (b : Bool) (x y : X) → Some (if b then x else y) ≡ (if b then Some x else Some y)
some_if true x y = refl
some_if false x y = refl

mark_if : (b : Bool) (x : Mark) (o : Option Mark) → mark_or_blank (if b then Some x else o) ≡ (if b then x else mark_or_blank o)
mark_if true x o = refl
mark_if false x o = refl

-- what is at a cell after a change of a cell
pub entry_with : (c : Cell) (v : Val) (other : Cell) (g : Globals) → IsThere (resource_of_cell c) g →
    entry_at other (with_value c v g) ≡ (if same_cell other c then Some v else entry_at other g)
entry_with (scalar n) v (scalar m) g h = ap Some (at_set g.scalars n m v Uninit h) ∙ some_if (nat_eq m n) v (value_at (scalar m) g)
entry_with (scalar n) v (element m l) g h = refl
entry_with (element n k) v (scalar m) g h = refl
entry_with (element n k) v (element m l) g h = find_set g.arrays n m k l v h

abbrev pub IsInTable : Cell → Table → Type 0
IsInTable (scalar n) t = n < length t.scalars
IsInTable (element n key) t = n < length t.arrays

pub mark_with : (c : Cell) (x : Mark) (other : Cell) (t : Table) → IsInTable c t →
    mark_at other (with_mark c x t) ≡ (if same_cell other c then x else mark_at other t)
mark_with (scalar n) x (scalar m) t h = at_set t.scalars n m x blank h
mark_with (scalar n) x (element m l) t h = refl
mark_with (element n k) x (scalar m) t h = refl
mark_with (element n k) x (element m l) t h =
    ap mark_or_blank (find_set t.arrays n m k l x h) ∙ mark_if (nat_eq m n && bytes_eq l k) x (find order l (slice_index_or t.arrays m []))

-- ---- slots

pub slots_with : (c : Cell) (v : Val) (g fixed : Globals) → HasSlots g.scalars g.arrays fixed →
    HasSlots (with_value c v g).scalars (with_value c v g).arrays fixed
slots_with (scalar n) v g fixed h = (length-set g.scalars n v ∙ h.0, h.1)
slots_with (element n k) v g fixed h = (h.0, length-set g.arrays n _ ∙ h.1)

pub table_with : (c : Cell) (x : Mark) (t : Table) (fixed : Globals) → HasSlots t.scalars t.arrays fixed →
    HasSlots (with_mark c x t).scalars (with_mark c x t).arrays fixed
table_with (scalar n) x t fixed h = (length-set t.scalars n x ∙ h.0, h.1)
table_with (element n k) x t fixed h = (h.0, length-set t.arrays n _ ∙ h.1)

pub there_too : (c : Cell) (g fixed : Globals) → HasSlots g.scalars g.arrays fixed → IsThere (resource_of_cell c) fixed →
    IsThere (resource_of_cell c) g
there_too (scalar n) g fixed h k = subst (λ j. n < j) (sym h.0) k
there_too (element n key) g fixed h k = subst (λ j. n < j) (sym h.1) k

pub in_table : (c : Cell) (t : Table) (fixed : Globals) → HasSlots t.scalars t.arrays fixed → IsThere (resource_of_cell c) fixed →
    IsInTable c t
in_table (scalar n) t fixed h k = subst (λ j. n < j) (sym h.0) k
in_table (element n key) t fixed h k = subst (λ j. n < j) (sym h.1) k

-- ---- order

holds : (b : Bool) → b ≡ true → T b
holds true e = tt
holds false e = subst T (sym e) tt

is_true : (b : Bool) → T b → b ≡ true
is_true true h = refl
is_true false h = absurd h

pub rise_put : (key : List ℕ) (v : Val) (es : Entries) → Rise es → Rise (put key v es)
rise_put key v es h = is_true _ (is_sorted-put order total key v es (holds _ h))

pub same_found : (es fs : Entries) → Rise es → Rise fs → ((q : List ℕ) → found q es ≡ found q fs) → es ≡ fs
same_found es fs g h e = same_entries order total same_text es fs (holds _ g) (holds _ h) e

rise_at : (xs : List Entries) (n : ℕ) (es : Entries) → Rise es → Rise (slice_index_or (slice_set xs n es) n [])
rise_at [] n es h = refl
rise_at (x ∷ xs) zero es h = h
rise_at (x ∷ xs) (suc n) es h = rise_at xs n es h

pub order_with : (c : Cell) (v : Val) (g : Globals) → AreInOrder g → AreInOrder (with_value c v g)
order_with (scalar n) v g h m = h m
order_with (element n key) v g h m = by (nat_eq m n) refl where
  set : Entries
  set = put key v (array_at g n)

  by : (b : Bool) → nat_eq m n ≡ b → Rise (array_at (with_value (element n key) v g) m)
  by false e = subst Rise (sym (at_set_other g.arrays n m set [] (nat_apart m n e))) (h m)
  by true e = subst (λ j. Rise (slice_index_or (slice_set g.arrays n set) j [])) (sym (nat_same m n e)) (rise_at g.arrays n set (rise_put key v (array_at g n) (h n)))

-- an element that is there is left alone where it is looked for
pub looked_for : (n : ℕ) (key : List ℕ) (v : Val) (g : Globals) → AreInOrder g → found key (array_at g n) ≡ Some v →
    with_value (element n key) v g ≡ g
looked_for n key v g h e =
    let es = array_at g n in
    let finds : (q : List ℕ) → found q (put key v es) ≡ found q es = λ q. find_after q key v es ∙ by q (bytes_eq q key) refl in
    let same : put key v es ≡ es = same_found (put key v es) es (rise_put key v es (h n)) (h n) finds in
    ap (λ x. with_array n x g) same ∙ ap (λ xs. record g { arrays = xs }) (set-get_or g.arrays n [])
  where
    by : (q : List ℕ) (b : Bool) → bytes_eq q key ≡ b → (if b then Some v else found q (array_at g n)) ≡ found q (array_at g n)
    by q true is = sym e ∙ ap (λ k. found k (array_at g n)) (sym ((bytes_eq-Decides q key).0 is))
    by q false is = refl
