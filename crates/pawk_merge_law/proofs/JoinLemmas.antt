-- Where nothing parts a chunk from the records in order, the merge takes its table, and gives the globals that these leave.
use Rattle.std.proofs.Common.{◌≡◌, ℕ, zero, suc, ℤ, ◌+ℤ◌, ◌&&◌, List, [], ◌∷◌, length, Option, Some, Bool, true, false, Result, Ok, Err, refl, ap, sym, ◌∙◌, subst, arith, rules, tests}
use Rattle.std.proofs.lemmas.List.{get_or_default}
use Rattle.std.specs.Prelude.{slice_get, slice_index_or}
use Rattle.std.specs.Option.{option_map}
use Rattle.pawk_value.specs.declared.faults.Fault.{Fault}
use Rattle.pawk_value.specs.Range.{FitsWord, in_range}
use Rattle.pawk_value.specs.Value.{Val, Uninit}
use Rattle.pawk_value.specs.Conversion.{num_of}
use Rattle.pawk_array.specs.Entries.{Rise, value_of}
use Rattle.pawk_world.specs.Worlds.{Cell, scalar, element}
use Rattle.pawk_store.specs.Globals.{Globals, value_at}
use Rattle.pawk_frozen.specs.Marks.{Mark, blank, summed, last_put, created, mark_at}
use Rattle.pawk_frozen.specs.Frozens.{Frozen}
use Rattle.pawk_commute.specs.Traces.{Traced}
use Rattle.pawk_commute.specs.Settings.{Setting, AreInOrder, entry_at, MayBegin}
use Rattle.pawk_commute.specs.Agreement.{Becomes, Alike}
use Rattle.pawk_commute.specs.Merging.{Passes}
use Rattle.pawk_commute.proofs.AgreementLemmas.{value_entry}
use Rattle.pawk_commute.proofs.MergeLemmas.{range_from}
use Rattle.pawk_merge.specs.Joins.{fits, holds_for, takes, number_plus, joined_value, joined_element}
use Rattle.pawk_merge.specs.Tables.{all_take, join_table}
use Rattle.pawk_merge.specs.JoinLaws.{AllRise, AreJoined, OneJoinLaw, TakesLaw}

-- ---- one cell

joined_by : (before now : Option Val) (m : Mark) → Becomes before m now → now ≡ joined_element m before
joined_by before now blank h = h
joined_by before now (summed total least greatest) h = h.sum ∙ ap (λ r. Some (number_plus total r)) (sym h.converts)
joined_by before now (last_put v) h = h
joined_by before now created h = h

all_three : (a b c : Bool) → a ≡ true → b ≡ true → c ≡ true → (a && b && c) ≡ true
all_three a b c h k l = subst (λ x. (x && b && c) ≡ true) (sym h) (subst (λ x. (true && x && c) ≡ true) (sym k) l)

takes_by : (before now : Option Val) (m : Mark) → Becomes before m now → takes m (value_of before) ≡ true
takes_by before now blank h = refl
takes_by before now (summed total least greatest) h =
    ap (holds_for (fits total least greatest)) h.converts
    ∙ all_three (in_range (h.number +ℤ total)) (in_range (h.number +ℤ least)) (in_range (h.number +ℤ greatest))
    (range_from (h.number +ℤ total) h.fits) (range_from (h.number +ℤ least) h.least_fits) (range_from (h.number +ℤ greatest) h.greatest_fits)
takes_by before now (last_put v) h = refl
takes_by before now created h = refl

last_two : (a b c : Bool) → (a && b && c) ≡ true → (b ≡ true) × (c ≡ true)
last_two true true true h = (refl, refl)
last_two true true false h = absurd cc
last_two true false c h = absurd cc
last_two false b c h = absurd cc

fits_word : (z : ℤ) → in_range z ≡ true → FitsWord z
fits_word z h = search (rules, tests)

passes_by : (v : Val) (m : Mark) → takes m v ≡ true → Passes v m
passes_by v blank h = tt
passes_by v (summed total least greatest) h = by (num_of v) refl h
  where
    by : (r : Result ℤ Fault) → num_of v ≡ r → holds_for (fits total least greatest) r ≡ true → (z : ℤ) × (num_of v ≡ Ok z) × FitsWord (z +ℤ least) × FitsWord (z +ℤ greatest)
    by (Ok z) e k =
        let two = last_two (in_range (z +ℤ total)) (in_range (z +ℤ least)) (in_range (z +ℤ greatest)) k in
        (z, e, fits_word (z +ℤ least) two.0, fits_word (z +ℤ greatest) two.1)
    by (Err f) e k = absurd cc
passes_by v (last_put w) h = tt
passes_by v created h = tt

-- ---- all globals

joined_scalar : (m : Mark) (v : Val) → joined_element m (Some v) ≡ Some (joined_value m v)
joined_scalar blank v = refl
joined_scalar (summed total least greatest) v = refl
joined_scalar (last_put w) v = refl
joined_scalar created v = refl

same_length : (x y : Val) (xs ys : List Val) → length (x ∷ xs) ≡ length (y ∷ ys) → length xs ≡ length ys
same_length x y xs ys h = omega (arith, h)

scalar_of : (f : Val → Val) (xs ys : List Val) (n : ℕ) → length ys ≡ length xs → Some (slice_index_or ys n Uninit) ≡ Some (f (slice_index_or xs n Uninit)) → slice_get ys n ≡ option_map f (slice_get xs n)
scalar_of f [] [] n h e = refl
scalar_of f [] (y ∷ ys) n h e = absurd cc
scalar_of f (x ∷ xs) [] n h e = absurd cc
scalar_of f (x ∷ xs) (y ∷ ys) zero h e = e
scalar_of f (x ∷ xs) (y ∷ ys) (suc n) h e = scalar_of f xs ys n (same_length y x ys xs h) e

all_rise : (g : Globals) → AreInOrder g → AllRise g
all_rise g h = λ k d within. subst Rise (get_or_default g.arrays k [] d within) (h k)

module _ (i : Setting) (begin : MayBegin i) (s : Traced) (t : Frozen) (h : Alike i s t) where
  scalar_slots : length s.globals.scalars ≡ length i.start.scalars
  scalar_slots = h.agrees.slots.0 ∙ sym begin.agrees.slots.0

  array_slots : length s.globals.arrays ≡ length i.start.arrays
  array_slots = h.agrees.slots.1 ∙ sym begin.agrees.slots.1

  joined_at : (c : Cell) → entry_at c s.globals ≡ joined_element (mark_at c t.table) (entry_at c i.start)
  joined_at c = joined_by (entry_at c i.start) (entry_at c s.globals) (mark_at c t.table) (h.becomes c)

  are_joined : AreJoined t.table i.start s.globals
  are_joined = record {
    scalars = λ n.
        let m = mark_at (scalar n) t.table in
        scalar_of (joined_value m) i.start.scalars s.globals.scalars n scalar_slots
        (joined_at (scalar n) ∙ joined_scalar m (value_at (scalar n) i.start));
    arrays = array_slots;
    elements = λ n key within. joined_at (element n key);
    in_order = λ _. all_rise s.globals h.agrees.in_order;
  }

  pub globals_joined : OneJoinLaw → s.globals ≡ join_table t.table i.start
  globals_joined one = one t.table i.start s.globals (all_rise i.start begin.agrees.in_order) are_joined

  pub table_taken : TakesLaw → all_take t.table i.start ≡ true
  table_taken law = (law t.table i.start).1 (λ c.
      subst (λ v. takes (mark_at c t.table) v ≡ true) (value_entry c i.start)
      (takes_by (entry_at c i.start) (entry_at c s.globals) (mark_at c t.table) (h.becomes c)))

pub cells_pass : (i : Setting) (t : Frozen) → TakesLaw → all_take t.table i.start ≡ true → (c : Cell) → Passes (value_at c i.start) (mark_at c t.table)
cells_pass i t law h c = passes_by (value_at c i.start) (mark_at c t.table) ((law t.table i.start).0 h c)
