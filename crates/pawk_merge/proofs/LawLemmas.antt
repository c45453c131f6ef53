-- Proofs of the laws of joins.
use Rattle.std.proofs.Common.{◌≡◌, ◌<◌, ◌≤◌, ◌+◌, ℕ, suc, length, ⊎_elim, Bool, true, false, List, [], ◌∷◌, get_or, refl, sym, ◌∙◌, ap, arith, subst}
use Rattle.std.specs.Prelude.{◌&&◌, slice_get}
use Rattle.std.specs.Option.{option_map}
use Rattle.std.proofs.lemmas.Bool.{cases_lt}
use Rattle.std.proofs.lemmas.List.{get_or_past, same_lists}
use Rattle.pawk_array.specs.Entries.{Entries, Rise, found}
use Rattle.pawk_world.specs.Worlds.{Cell, scalar, element}
use Rattle.pawk_store.specs.Globals.{array_at, value_at}
use Rattle.pawk_frozen.specs.Marks.{blank, Table, mark_at}
use Rattle.pawk_merge.specs.Joins.{takes, joined_value, joined_element}
use Rattle.pawk_merge.specs.Tables.{join_array, array_takes, by_place, scalar_mark, array_marks, scalars_take, arrays_take, all_take, join_table}
use Rattle.pawk_merge.specs.JoinLaws.{AllRise, JoinLaw, OneJoinLaw, TakesLaw}
use Rattle.pawk_merge.proofs.ArrayLemmas.{found-join_array, rise-join_array, same_join_array, element_takes-array_takes, array_takes-element_takes}
use Rattle.pawk_merge.proofs.SlotLemmas.{get_or-default, get_or-by_place, length-by_place, slice_get-by_place, each_below_at, each_below_all, same_globals}

-- what an array of this slot becomes
abbrev each_of : Table → ℕ → Entries → Entries
each_of table n es = join_array (array_marks table.arrays n) es

pub join_holds : JoinLaw
join_holds table g = record { scalars = scalars; arrays = length-by_place (each_of table) 0 g.arrays; elements = elements; in_order = in_order } where
  scalars : (n : ℕ) → slice_get (join_table table g).scalars n ≡ option_map (joined_value (mark_at (scalar n) table)) (slice_get g.scalars n)
  scalars n =
      let same : 0 + n ≡ n = omega arith in
      slice_get-by_place (λ k v. joined_value (scalar_mark table.scalars k) v) 0 n g.scalars
      ∙ ap (λ k. option_map (joined_value (scalar_mark table.scalars k)) (slice_get g.scalars n)) same

  at : (n : ℕ) (d : Entries) → n < length g.arrays → get_or (by_place (each_of table) 0 g.arrays) n d ≡ each_of table n (get_or g.arrays n d)
  at n d h = let same : 0 + n ≡ n = omega arith in get_or-by_place (each_of table) 0 n g.arrays d h ∙ ap (λ k. each_of table k (get_or g.arrays n d)) same

  elements : (n : ℕ) (key : List ℕ) → n < length g.arrays →
      found key (array_at (join_table table g) n) ≡ joined_element (mark_at (element n key) table) (found key (array_at g n))
  elements n key h = ap (found key) (at n [] h) ∙ found-join_array (array_marks table.arrays n) (array_at g n) key

  in_order : AllRise g → AllRise (join_table table g)
  in_order h k d lt =
      let within : k < length g.arrays = omega (arith, lt, length-by_place (each_of table) 0 g.arrays) in
      subst Rise (sym (at k d within)) (rise-join_array (array_marks table.arrays k) (get_or g.arrays k d) (h k d within))

same_slots : {X : Type 0} (xs ys : List X) → ((n : ℕ) → slice_get xs n ≡ slice_get ys n) → xs ≡ ys
same_slots [] [] h = refl
same_slots [] (y ∷ ys) h = let no = h 0 in cc
same_slots (x ∷ xs) [] h = let no = h 0 in cc
same_slots (x ∷ xs) (y ∷ ys) h = let first = h 0 in let rest = same_slots xs ys (λ n. h (suc n)) in cc

pub one_join_holds : OneJoinLaw
one_join_holds table g h rise joined = same_globals h (join_table table g) scalars arrays where
  scalars : h.scalars ≡ (join_table table g).scalars
  scalars = same_slots h.scalars (join_table table g).scalars (λ n. joined.scalars n ∙ sym ((join_holds table g).scalars n))

  within_all : (k : ℕ) → k < length h.arrays → k < length g.arrays
  within_all k lt = omega (arith, lt, joined.arrays)

  same_at : (k : ℕ) → k < length g.arrays → array_at h k ≡ join_array (array_marks table.arrays k) (array_at g k)
  same_at k lt =
      let there : k < length h.arrays = omega (arith, lt, joined.arrays) in
      same_join_array (array_marks table.arrays k) (array_at g k) (array_at h k) (rise k [] lt) (joined.in_order rise k [] there) (λ key. joined.elements k key lt)

  one : (k : ℕ) (d : Entries) → k < length h.arrays → get_or h.arrays k d ≡ get_or (by_place (each_of table) 0 g.arrays) k d
  one k d lt =
      let within = within_all k lt in
      let same : 0 + k ≡ k = omega arith in
      get_or-default h.arrays k d [] lt ∙ same_at k within ∙ ap ((each_of table) k) (get_or-default g.arrays k [] d within)
      ∙ sym (get_or-by_place (each_of table) 0 k g.arrays d within ∙ ap (λ n. each_of table n (get_or g.arrays k d)) same)

  arrays : h.arrays ≡ (join_table table g).arrays
  arrays = same_lists h.arrays (by_place (each_of table) 0 g.arrays) (joined.arrays ∙ sym (length-by_place (each_of table) 0 g.arrays)) one

both_are : (a b : Bool) → (a && b) ≡ true → (a ≡ true) × (b ≡ true)
both_are true b h = (refl, h)
both_are false b h = cc

pub takes_holds : TakesLaw
takes_holds table g = (forth, back) where
  forth : all_take table g ≡ true → (c : Cell) → takes (mark_at c table) (value_at c g) ≡ true
  forth h (scalar n) = ⊎_elim here past (cases_lt n (length table.scalars)) where
    here : n < length table.scalars → takes (mark_at (scalar n) table) (value_at (scalar n) g) ≡ true
    here lt = each_below_at (length table.scalars) (λ k. takes (scalar_mark table.scalars k) (value_at (scalar k) g)) (both_are (scalars_take table.scalars g) (arrays_take table.arrays g) h).0 n lt

    past : length table.scalars ≤ n → takes (mark_at (scalar n) table) (value_at (scalar n) g) ≡ true
    past le = let none : mark_at (scalar n) table ≡ blank = get_or_past table.scalars n blank le in rw none refl
  forth h (element n key) = ⊎_elim here past (cases_lt n (length table.arrays)) where
    here : n < length table.arrays → takes (mark_at (element n key) table) (value_at (element n key) g) ≡ true
    here lt =
        let all = each_below_at (length table.arrays) (λ k. array_takes (array_marks table.arrays k) (array_at g k)) (both_are (scalars_take table.scalars g) (arrays_take table.arrays g) h).1 n lt in
        element_takes-array_takes (array_marks table.arrays n) (array_at g n) all key

    past : length table.arrays ≤ n → takes (mark_at (element n key) table) (value_at (element n key) g) ≡ true
    past le = let none : array_marks table.arrays n ≡ [] = get_or_past table.arrays n [] le in rw none refl

  back : ((c : Cell) → takes (mark_at c table) (value_at c g) ≡ true) → all_take table g ≡ true
  back h =
      let first : scalars_take table.scalars g ≡ true = each_below_all (length table.scalars) (λ k. takes (scalar_mark table.scalars k) (value_at (scalar k) g)) (λ k. h (scalar k)) in
      let second : arrays_take table.arrays g ≡ true = each_below_all (length table.arrays) (λ k. array_takes (array_marks table.arrays k) (array_at g k))
      (λ k. array_takes-element_takes (array_marks table.arrays k) (array_at g k) (λ key. h (element k key))) in
      rw first second
