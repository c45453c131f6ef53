-- Globals over which records may be run in chunks, to which a part is joined.
use Rattle.std.proofs.Common.{◌≡◌, ℕ, ℤ, pos, ◌+◌, ◌+ℤ◌, ◌<◌, ◌≤◌, ◌&&◌, Bool, true, false, cond, List, [], length, Option, Some, None, Result, Ok, Err, refl, ap, sym, ◌∙◌, subst, ⊎_elim, arith, rules, tests}
use Rattle.std.proofs.lemmas.Bool.{cases_lt}
use Rattle.std.proofs.lemmas.List.{get_or_past}
use Rattle.std.specs.FinMap.Entries.{find, find-put}
use Rattle.pawk_value.specs.declared.faults.Fault.{Fault}
use Rattle.pawk_value.specs.Range.{FitsWord, in_range}
use Rattle.pawk_value.specs.Value.{Val, Uninit}
use Rattle.pawk_value.specs.Conversion.{num_of}
use Rattle.pawk_array.specs.Entries.{order, Rise, found, value_of}
use Rattle.pawk_array.proofs.EntriesLemmas.{total}
use Rattle.pawk_world.specs.Worlds.{Cell, scalar, element}
use Rattle.pawk_store.specs.Globals.{Globals, array_at, value_at}
use Rattle.pawk_admit.specs.declared.role.Role.TheVariants.{Adder}
use Rattle.pawk_admit.specs.Roles.{Roles, role_of_scalar, role_of_array}
use Rattle.pawk_frozen.specs.Marks.{Mark, blank, summed, last_put, created, Marks, mark_or_blank, mark_found, put_mark, Table, mark_at}
use Rattle.pawk_commute.specs.Settings.{AreInOrder, FitSlots, FitsIfOk, role_of_cell}
use Rattle.pawk_merge.specs.Joins.{fits, holds_for, takes, number_plus, joined_value, joined_element}
use Rattle.pawk_merge.specs.Tables.{scalar_mark, array_marks, join_array, all_take, join_table}
use Rattle.pawk_merge.proofs.ArrayLemmas.{same_key, rise-join_array}
use Rattle.pawk_merge.proofs.LawLemmas.{join_holds, takes_holds}
use Rattle.pawk_merge.proofs.SlotLemmas.{get_or-by_place, length-by_place}
use Rattle.pawk_merge_law.specs.Adders.{SetsNothing, SetsNoAdder}

-- ---- marks

-- Where one mark more sets nothing, and all others set nothing, all do.
pub one_more_mark : (k : List ℕ) (m : Mark) (before rest : Marks) → before ≡ put_mark k m rest → SetsNothing m →
    (q : List ℕ) → SetsNothing (mark_found q rest) → SetsNothing (mark_found q before)
one_more_mark k m before rest is here q h = subst (λ (ms : Marks). SetsNothing (mark_found q ms)) (sym is) (at (same_key q k) (find-put order total q k m rest))
  where
    at : (b : Bool) → find order q (put_mark k m rest) ≡ cond b (Some m) (find order q rest) → SetsNothing (mark_found q (put_mark k m rest))
    at true e = subst (λ (o : Option Mark). SetsNothing (mark_or_blank o)) (sym e) here
    at false e = subst (λ (o : Option Mark). SetsNothing (mark_or_blank o)) (sym e) h

-- Nothing is noted past the last slot.
pub no_scalar : (marks : List Mark) (n : ℕ) → length marks ≤ n → SetsNothing (scalar_mark marks n)
no_scalar marks n past = subst (λ (m : Mark). SetsNothing m) (sym (get_or_past marks n blank past)) tt

pub no_array : (marks : List Marks) (n : ℕ) → length marks ≤ n → (key : List ℕ) → SetsNothing (mark_found key (array_marks marks n))
no_array marks n past key = subst (λ (ms : Marks). SetsNothing (mark_found key ms)) (sym (get_or_past marks n [] past)) tt

-- Scalars and elements of arrays are all cells.
pub all_cells : (roles : Roles) (table : Table) → ((n : ℕ) → role_of_scalar roles n ≡ Adder → SetsNothing (scalar_mark table.scalars n))
    → ((n : ℕ) → role_of_array roles n ≡ Adder → (key : List ℕ) → SetsNothing (mark_found key (array_marks table.arrays n)))
    → SetsNoAdder roles table
all_cells roles table scalars arrays (scalar n) role = scalars n role
all_cells roles table scalars arrays (element n key) role = arrays n role key

-- ---- one cell

first_is : (a b c : Bool) → (a && b && c) ≡ true → a ≡ true
first_is true b c h = refl
first_is false b c h = absurd cc

fits_word : (z : ℤ) → in_range z ≡ true → FitsWord z
fits_word z h = search (rules, tests)

zero_fits : FitsWord (pos 0)
zero_fits = search rules

-- A cell that takes what was noted of it, and into which no value was put, has a number of 64 bits again.
fits_again : (m : Mark) (v : Val) → SetsNothing m → takes m v ≡ true → FitsIfOk (num_of v) → FitsIfOk (num_of (joined_value m v))
fits_again blank v sets taken h = h
fits_again (summed total least greatest) v sets taken h = by (num_of v) taken
  where
    by : (r : Result ℤ Fault) → holds_for (fits total least greatest) r ≡ true → FitsIfOk (num_of (number_plus total r))
    by (Ok z) k = fits_word (z +ℤ total) (first_is (in_range (z +ℤ total)) (in_range (z +ℤ least)) (in_range (z +ℤ greatest)) k)
    by (Err f) k = absurd cc
fits_again (last_put w) v sets taken h = absurd sets
fits_again created v sets taken h = h

value_joined : (m : Mark) (o : Option Val) → value_of (joined_element m o) ≡ joined_value m (value_of o)
value_joined blank o = refl
value_joined (summed t l g) o = refl
value_joined (last_put w) o = refl
value_joined created o = refl

-- ---- all globals

module _ (table : Table) (g : Globals) where
  abbrev pub joined : Globals
  joined = join_table table g

  same_place : (n : ℕ) → 0 + n ≡ n
  same_place n = omega arith

  as_many : length joined.scalars ≡ length g.scalars
  as_many = length-by_place (λ n v. joined_value (scalar_mark table.scalars n) v) 0 g.scalars

  as_many_arrays : length joined.arrays ≡ length g.arrays
  as_many_arrays = (join_holds table g).arrays

  array_joined : (n : ℕ) → n < length g.arrays → array_at joined n ≡ join_array (array_marks table.arrays n) (array_at g n)
  array_joined n within =
      get_or-by_place (λ k es. join_array (array_marks table.arrays k) es) 0 n g.arrays [] within
      ∙ ap (λ k. join_array (array_marks table.arrays k) (array_at g n)) (same_place n)

  pub in_order_again : AreInOrder g → AreInOrder joined
  in_order_again h n = ⊎_elim here past (cases_lt n (length g.arrays)) where
    here : n < length g.arrays → Rise (array_at joined n)
    here within = subst Rise (sym (array_joined n within)) (rise-join_array (array_marks table.arrays n) (array_at g n) (h n))

    past : length g.arrays ≤ n → Rise (array_at joined n)
    past le = subst Rise (sym (get_or_past joined.arrays n [] (omega (arith, le, as_many_arrays)))) refl

  pub slots_again : {X Y : Type 0} (scalars : List X) (arrays : List Y) → FitSlots scalars arrays g → FitSlots scalars arrays joined
  slots_again scalars arrays h = (omega (arith, h.0, as_many), omega (arith, h.1, as_many_arrays))

  abbrev Fits : Cell → Globals → Type 0
  Fits c h = FitsIfOk (num_of (value_at c h))

  module _ (taken : all_take table g ≡ true) where
    -- the number of a cell after a join
    after_join : (c : Cell) → SetsNothing (mark_at c table) → Fits c g → FitsIfOk (num_of (joined_value (mark_at c table) (value_at c g)))
    after_join c sets h = fits_again (mark_at c table) (value_at c g) sets ((takes_holds table g).0 taken c) h

    cell_again : (c : Cell) → SetsNothing (mark_at c table) → Fits c g → Fits c joined
    cell_again (scalar n) sets h = ⊎_elim here past (cases_lt n (length g.scalars)) where
      here : n < length g.scalars → Fits (scalar n) joined
      here within =
          let is : value_at (scalar n) joined ≡ joined_value (mark_at (scalar n) table) (value_at (scalar n) g) =
          get_or-by_place (λ k v. joined_value (scalar_mark table.scalars k) v) 0 n g.scalars Uninit within
          ∙ ap (λ k. joined_value (scalar_mark table.scalars k) (value_at (scalar n) g)) (same_place n) in
          subst (λ (v : Val). FitsIfOk (num_of v)) (sym is) (after_join (scalar n) sets h)

      past : length g.scalars ≤ n → Fits (scalar n) joined
      past le = subst (λ (v : Val). FitsIfOk (num_of v)) (sym (get_or_past joined.scalars n Uninit (omega (arith, le, as_many)))) zero_fits
    cell_again (element n key) sets h = ⊎_elim here past (cases_lt n (length g.arrays)) where
      here : n < length g.arrays → Fits (element n key) joined
      here within =
          let is : value_at (element n key) joined ≡ joined_value (mark_at (element n key) table) (value_at (element n key) g) =
          ap value_of ((join_holds table g).elements n key within) ∙ value_joined (mark_at (element n key) table) (found key (array_at g n)) in
          subst (λ (v : Val). FitsIfOk (num_of v)) (sym is) (after_join (element n key) sets h)

      past : length g.arrays ≤ n → Fits (element n key) joined
      past le =
          subst (λ (v : Val). FitsIfOk (num_of v))
          (sym (ap (λ es. value_of (found key es)) (get_or_past joined.arrays n [] (omega (arith, le, as_many_arrays))))) zero_fits

    -- An adder's number is one of 64 bits again.
    pub numbers_again : (roles : Roles) → SetsNoAdder roles table → ((c : Cell) → role_of_cell roles c ≡ Adder → Fits c g) → (c : Cell) → role_of_cell roles c ≡ Adder → Fits c joined
    numbers_again roles sets h c role = cell_again c (sets c role) (h c role)
