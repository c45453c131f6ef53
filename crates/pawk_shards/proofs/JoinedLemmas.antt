-- Two marks, two tables and two chunks as one.
use Rattle.std.proofs.Common.{◌≡◌, ℕ, ℤ, ◌+◌, ◌+ℤ◌, ◌<◌, ◌≤◌, Bool, true, false, if◌then◌else◌, List, [], ◌∷◌, length, Option, Some, None, Result, Ok, Err, append_assoc, refl, ap, sym, ◌∙◌, subst, ⊎_elim, arith, rules, tests, unwrap_or}
use Rattle.std.proofs.lemmas.Int.{ints, clamps}
use Rattle.std.proofs.lemmas.Bool.{cases_lt}
use Rattle.std.proofs.lemmas.List.{get_or_past, get_or_default}
use Rattle.std.proofs.lemmas.Option.{get_or_from_slice_get}
use Rattle.std.specs.Prelude.{◌↔◌, ◌≤ℤ◌, ◌&&◌, slice_get}
use Rattle.std.specs.Int.{int_min, int_max}
use Rattle.std.specs.Option.{option_map}
use Rattle.pawk_value.specs.declared.faults.Fault.{Fault}
use Rattle.pawk_value.specs.Range.{FitsWord, in_range}
use Rattle.pawk_value.specs.Value.{Val, Num, Uninit}
use Rattle.pawk_value.specs.Conversion.{num_of}
use Rattle.pawk_array.specs.Entries.{Rise, found, value_of}
use Rattle.pawk_world.specs.Worlds.{Cell, scalar, element}
use Rattle.pawk_store.specs.Globals.{Globals, array_at, value_at}
use Rattle.pawk_store.specs.Records.{through, End}
use Rattle.pawk_frozen.specs.Marks.{Mark, blank, summed, last_put, created, Table, mark_at}
use Rattle.pawk_commute.specs.Settings.{AreInOrder, HasSlots, FitSlots}
use Rattle.pawk_commute.proofs.MergeLemmas.{range_from}
use Rattle.pawk_merge.specs.Joins.{fits, holds_for, takes, number_plus, joined_value, joined_element}
use Rattle.pawk_merge.specs.JoinLaws.{AllRise, AreJoined}
use Rattle.pawk_merge.specs.Merges.{Chunk, Stop, at_cell, with_chunk, after_leaving, merge}
use Rattle.pawk_merge.specs.Tables.{scalar_mark, all_take, join_table}
use Rattle.pawk_merge.proofs.LawLemmas.{join_holds, one_join_holds, takes_holds}
use Rattle.pawk_merge.proofs.SlotLemmas.{get_or-by_place, length-by_place}
use Rattle.pawk_merge_law.specs.Phases.{Phase, MayRun}
use Rattle.pawk_merge_law.specs.Windows.{phase_at}
use Rattle.pawk_shards.specs.Joined.{MarksComposeLaw, composed, IsBetween, AreComposed, TablesComposeLaw, AreNoted, joined_chunk}

all_three : (a b c : Bool) → a ≡ true → b ≡ true → c ≡ true → (a && b && c) ≡ true
all_three a b c h k l = subst (λ x. (x && b && c) ≡ true) (sym h) (subst (λ x. (true && x && c) ≡ true) (sym k) l)

each_of : (a b c : Bool) → (a && b && c) ≡ true → (a ≡ true) × (b ≡ true) × (c ≡ true)
each_of true true true h = (refl, refl, refl)
each_of true true false h = absurd cc
each_of true false c h = absurd cc
each_of false b c h = absurd cc

fits_word : (z : ℤ) → in_range z ≡ true → FitsWord z
fits_word z h = search (rules, tests)

-- ---- a sum after a sum

-- the sum, the least and the greatest from a number are numbers of the language
abbrev AllFit : ℤ → ℤ → ℤ → ℤ → Type 0
AllFit t l g z = FitsWord (z +ℤ t) × FitsWord (z +ℤ l) × FitsWord (z +ℤ g)

fits_all : (t l g z : ℤ) → fits t l g z ≡ true → AllFit t l g z
fits_all t l g z h =
    let e = each_of (in_range (z +ℤ t)) (in_range (z +ℤ l)) (in_range (z +ℤ g)) h in
    (fits_word (z +ℤ t) e.0, fits_word (z +ℤ l) e.1, fits_word (z +ℤ g) e.2)

all_fits : (t l g z : ℤ) → AllFit t l g z → fits t l g z ≡ true
all_fits t l g z h =
    all_three (in_range (z +ℤ t)) (in_range (z +ℤ l)) (in_range (z +ℤ g))
    (range_from (z +ℤ t) h.0) (range_from (z +ℤ l) h.1) (range_from (z +ℤ g) h.2)

first_part : (a b c d e f z : ℤ) → b ≤ℤ a → a ≤ℤ c → AllFit (a +ℤ d) (int_min b (a +ℤ e)) (int_max c (a +ℤ f)) z → AllFit a b c z
first_part a b c d e f z low high h = (
  (omega (arith, ints, clamps, low, h.1.0), omega (arith, ints, clamps, high, h.2.1)),
  (omega (arith, ints, clamps, h.1.0), omega (arith, ints, clamps, low, high, h.2.1)),
  (omega (arith, ints, clamps, low, high, h.1.0), omega (arith, ints, clamps, h.2.1)),
)

second_part : (a b c d e f z : ℤ) → e ≤ℤ d → d ≤ℤ f → AllFit (a +ℤ d) (int_min b (a +ℤ e)) (int_max c (a +ℤ f)) z → AllFit d e f (z +ℤ a)
second_part a b c d e f z low high h = (
  (omega (arith, ints, clamps, h.0.0), omega (arith, ints, clamps, h.0.1)),
  (omega (arith, ints, clamps, h.1.0), omega (arith, ints, clamps, low, h.0.1)),
  (omega (arith, ints, clamps, high, h.0.0), omega (arith, ints, clamps, h.2.1)),
)

both_parts : (a b c d e f z : ℤ) → AllFit a b c z → AllFit d e f (z +ℤ a) → AllFit (a +ℤ d) (int_min b (a +ℤ e)) (int_max c (a +ℤ f)) z
both_parts a b c d e f z h k = (
  (omega (arith, ints, k.0.0), omega (arith, ints, k.0.1)),
  (omega (arith, ints, clamps, h.1.0, k.1.0), omega (arith, ints, clamps, h.1.1, k.1.1)),
  (omega (arith, ints, clamps, h.2.0, k.2.0), omega (arith, ints, clamps, h.2.1, k.2.1)),
)

-- ---- a cell

abbrev Both : Mark → Mark → Mark → Val → Type 0
Both m n w v =
    ((takes w v ≡ true) ↔ ((takes m v ≡ true) × (takes n (joined_value m v) ≡ true)))
    × (takes w v ≡ true → joined_value w v ≡ joined_value n (joined_value m v))

-- the same of a number, where there is one
abbrev BothOf : Result ℤ Fault → ℤ → ℤ → ℤ → ℤ → ℤ → ℤ → Type 0
BothOf r a b c d e f =
    let l = int_min b (a +ℤ e) in
    let g = int_max c (a +ℤ f) in
    ((holds_for (fits (a +ℤ d) l g) r ≡ true)
    ↔ ((holds_for (fits a b c) r ≡ true) × (holds_for (fits d e f) (num_of (number_plus a r)) ≡ true)))
    × (holds_for (fits (a +ℤ d) l g) r ≡ true → number_plus (a +ℤ d) r ≡ number_plus d (num_of (number_plus a r)))

sums : (r : Result ℤ Fault) (a b c d e f : ℤ) → b ≤ℤ a → a ≤ℤ c → e ≤ℤ d → d ≤ℤ f → BothOf r a b c d e f
sums (Ok z) a b c d e f low high low2 high2 =
    let l = int_min b (a +ℤ e) in
    let g = int_max c (a +ℤ f) in (
      (
        (λ h.
            let all = fits_all (a +ℤ d) l g z h in
            (all_fits a b c z (first_part a b c d e f z low high all), all_fits d e f (z +ℤ a) (second_part a b c d e f z low2 high2 all))),
        (λ h. all_fits (a +ℤ d) l g z (both_parts a b c d e f z (fits_all a b c z h.0) (fits_all d e f (z +ℤ a) h.1))),
      ),
      (λ h. ap Num (let same : z +ℤ (a +ℤ d) ≡ z +ℤ a +ℤ d = omega (arith, ints) in same)),
    )
sums (Err x) a b c d e f low high low2 high2 = ((λ h. absurd cc, λ h. absurd (let no = h.0 in cc)), λ h. absurd cc)

nothing_first : (n : Mark) (v : Val) → Both blank n n v
nothing_first n v = ((λ h. (refl, h), λ h. h.1), λ h. refl)

nothing_then : (m : Mark) (v : Val) → Both m blank m v
nothing_then m v = ((λ h. (h, refl), λ h. h.0), λ h. refl)

the_one : (m n x w : Mark) (v : Val) → Some x ≡ Some w → Both m n x v → Both m n w v
the_one m n x w v is h = subst (λ y. Both m n y v) (ap (λ o. unwrap_or o blank) is) h

pub marks_compose : MarksComposeLaw
marks_compose blank blank w v s t is = the_one blank blank blank w v is (nothing_first blank v)
marks_compose blank (summed d e f) w v s t is = the_one blank (summed d e f) (summed d e f) w v is (nothing_first (summed d e f) v)
marks_compose blank (last_put u) w v s t is = the_one blank (last_put u) (last_put u) w v is (nothing_first (last_put u) v)
marks_compose blank created w v s t is = the_one blank created created w v is (nothing_first created v)
marks_compose (summed a b c) blank w v s t is = the_one (summed a b c) blank (summed a b c) w v is (nothing_then (summed a b c) v)
marks_compose (summed a b c) (summed d e f) w v s t is =
    the_one (summed a b c) (summed d e f) (summed (a +ℤ d) (int_min b (a +ℤ e)) (int_max c (a +ℤ f))) w v is
    (sums (num_of v) a b c d e f s.0 s.1 t.0 t.1)
marks_compose (summed a b c) (last_put u) w v s t is = absurd cc
marks_compose (summed a b c) created w v s t is = absurd cc
marks_compose (last_put u) blank w v s t is = the_one (last_put u) blank (last_put u) w v is (nothing_then (last_put u) v)
marks_compose (last_put u) (summed d e f) w v s t is = absurd cc
marks_compose (last_put u) (last_put x) w v s t is = the_one (last_put u) (last_put x) (last_put x) w v is ((λ h. (refl, refl), λ h. refl), λ h. refl)
marks_compose (last_put u) created w v s t is = absurd cc
marks_compose created blank w v s t is = the_one created blank created w v is (nothing_then created v)
marks_compose created (summed d e f) w v s t is = absurd cc
marks_compose created (last_put x) w v s t is = absurd cc
marks_compose created created w v s t is = the_one created created created w v is ((λ h. (refl, refl), λ h. refl), λ h. refl)

-- ---- an element

-- what one mark makes of an element, and what both make of it
abbrev SameElement : Mark → Mark → Mark → Option Val → Type 0
SameElement m n w o = takes w (value_of o) ≡ true → joined_element w o ≡ joined_element n (joined_element m o)

one_element : (m n x w : Mark) (o : Option Val) → Some x ≡ Some w → SameElement m n x o → SameElement m n w o
one_element m n x w o is h = subst (λ y. SameElement m n y o) (ap (λ k. unwrap_or k blank) is) h

element_joined : (m n w : Mark) (o : Option Val) → IsBetween m → IsBetween n → composed m n ≡ Some w → SameElement m n w o
element_joined blank blank w o s t is = one_element blank blank blank w o is (λ h. refl)
element_joined blank (summed d e f) w o s t is = one_element blank (summed d e f) (summed d e f) w o is (λ h. refl)
element_joined blank (last_put u) w o s t is = one_element blank (last_put u) (last_put u) w o is (λ h. refl)
element_joined blank created w o s t is = one_element blank created created w o is (λ h. refl)
element_joined (summed a b c) blank w o s t is = one_element (summed a b c) blank (summed a b c) w o is (λ h. refl)
element_joined (summed a b c) (summed d e f) w o s t is =
    one_element (summed a b c) (summed d e f) (summed (a +ℤ d) (int_min b (a +ℤ e)) (int_max c (a +ℤ f))) w o is
    (λ h. ap Some ((sums (num_of (value_of o)) a b c d e f s.0 s.1 t.0 t.1).1 h))
element_joined (summed a b c) (last_put u) w o s t is = absurd cc
element_joined (summed a b c) created w o s t is = absurd cc
element_joined (last_put u) blank w o s t is = one_element (last_put u) blank (last_put u) w o is (λ h. refl)
element_joined (last_put u) (summed d e f) w o s t is = absurd cc
element_joined (last_put u) (last_put x) w o s t is = one_element (last_put u) (last_put x) (last_put x) w o is (λ h. refl)
element_joined (last_put u) created w o s t is = absurd cc
element_joined created blank w o s t is = one_element created blank created w o is (λ h. refl)
element_joined created (summed d e f) w o s t is = absurd cc
element_joined created (last_put x) w o s t is = absurd cc
element_joined created created w o s t is = one_element created created created w o is (λ h. refl)

-- the value of an element that is joined
value_joined : (m : Mark) (o : Option Val) → value_of (joined_element m o) ≡ joined_value m (value_of o)
value_joined blank o = refl
value_joined (summed t l g) o = refl
value_joined (last_put w) o = refl
value_joined created o = refl

-- ---- tables

module _ (t : Table) (g : Globals) (slots : FitSlots t.scalars t.arrays g) where
  same_place : (n : ℕ) → 0 + n ≡ n
  same_place n = omega arith

  scalar_at : (n : ℕ) → value_at (scalar n) (join_table t g) ≡ joined_value (mark_at (scalar n) t) (value_at (scalar n) g)
  scalar_at n = ⊎_elim here past (cases_lt n (length g.scalars)) where
    f : ℕ → Val → Val
    f k v = joined_value (scalar_mark t.scalars k) v

    here : n < length g.scalars → value_at (scalar n) (join_table t g) ≡ joined_value (mark_at (scalar n) t) (value_at (scalar n) g)
    here lt =
        get_or-by_place (λ k v. joined_value (scalar_mark t.scalars k) v) 0 n g.scalars Uninit lt
        ∙ ap (λ k. joined_value (scalar_mark t.scalars k) (value_at (scalar n) g)) (same_place n)

    past : length g.scalars ≤ n → value_at (scalar n) (join_table t g) ≡ joined_value (mark_at (scalar n) t) (value_at (scalar n) g)
    past le =
        let long : length (join_table t g).scalars ≡ length g.scalars = length-by_place (λ k v. joined_value (scalar_mark t.scalars k) v) 0 g.scalars in
        let none : mark_at (scalar n) t ≡ blank = get_or_past t.scalars n blank (omega (arith, le, slots.0)) in
        get_or_past (join_table t g).scalars n Uninit (omega (arith, le, long))
        ∙ sym (ap (λ m. joined_value m (value_at (scalar n) g)) none ∙ get_or_past g.scalars n Uninit le)

  element_at : (n : ℕ) (key : List ℕ) → value_at (element n key) (join_table t g) ≡ joined_value (mark_at (element n key) t) (value_at (element n key) g)
  element_at n key = ⊎_elim here past (cases_lt n (length g.arrays)) where
    here : n < length g.arrays → value_at (element n key) (join_table t g) ≡ joined_value (mark_at (element n key) t) (value_at (element n key) g)
    here lt = ap value_of ((join_holds t g).elements n key lt) ∙ value_joined (mark_at (element n key) t) (found key (array_at g n))

    past : length g.arrays ≤ n → value_at (element n key) (join_table t g) ≡ joined_value (mark_at (element n key) t) (value_at (element n key) g)
    past le =
        let long : length (join_table t g).arrays ≡ length g.arrays = (join_holds t g).arrays in
        let none : mark_at (element n key) t ≡ blank = ap (λ ms. mark_at (element 0 key) (record { scalars = []; arrays = ms ∷ [] })) (get_or_past t.arrays n [] (omega (arith, le, slots.1))) in
        ap (λ es. value_of (found key es)) (get_or_past (join_table t g).arrays n [] (omega (arith, le, long)))
        ∙ sym (ap (λ m. joined_value m (value_at (element n key) g)) none ∙ ap (λ es. value_of (found key es)) (get_or_past g.arrays n [] le))

  joined_at : (c : Cell) → value_at c (join_table t g) ≡ joined_value (mark_at c t) (value_at c g)
  joined_at (scalar n) = scalar_at n
  joined_at (element n key) = element_at n key

-- the sums lie between their extremes
abbrev AreBetween : Table → Type 0
AreBetween t = (c : Cell) → IsBetween (mark_at c t)

module _ (g : Globals) (t u w : Table) (rise : AllRise g) (slots : FitSlots t.scalars t.arrays g) (first : AreBetween t) (second : AreBetween u) (marks : AreComposed t u w) where
  abbrev h1 : Globals
  h1 = join_table t g

  abbrev h2 : Globals
  h2 = join_table u h1

  both_at : (c : Cell) → Both (mark_at c t) (mark_at c u) (mark_at c w) (value_at c g)
  both_at c = marks_compose (mark_at c t) (mark_at c u) (mark_at c w) (value_at c g) (first c) (second c) (marks c)

  takes_one : all_take w g ≡ true → (c : Cell) → takes (mark_at c w) (value_at c g) ≡ true
  takes_one all c = (takes_holds w g).0 all c

  takes_both : all_take w g ≡ true → (all_take t g ≡ true) × (all_take u h1 ≡ true)
  takes_both all = (
    (takes_holds t g).1 (λ c. ((both_at c).0.0 (takes_one all c)).0),
    (takes_holds u h1).1 (λ c. subst (λ v. takes (mark_at c u) v ≡ true) (sym (joined_at t g slots c)) ((both_at c).0.0 (takes_one all c)).1),
  )

  takes_as_one : (all_take t g ≡ true) × (all_take u h1 ≡ true) → all_take w g ≡ true
  takes_as_one both = (takes_holds w g).1 (λ c.
      (both_at c).0.1 (
        (takes_holds t g).0 both.0 c,
        subst (λ v. takes (mark_at c u) v ≡ true) (joined_at t g slots c) ((takes_holds u h1).0 both.1 c),
      ))

  module _ (all : all_take w g ≡ true) where
    abbrev by_mark : Table → ℕ → Val → Val
    by_mark table n v = joined_value (mark_at (scalar n) table) v

    scalar_twice : (n : ℕ) (o : Option Val) → slice_get g.scalars n ≡ o → option_map (by_mark u n) (option_map (by_mark t n) o) ≡ option_map (by_mark w n) o
    scalar_twice n None is = refl
    scalar_twice n (Some v) is =
        let there : value_at (scalar n) g ≡ v = get_or_from_slice_get g.scalars n v Uninit is in
        ap Some (sym (subst (λ x. joined_value (mark_at (scalar n) w) x ≡ joined_value (mark_at (scalar n) u) (joined_value (mark_at (scalar n) t) x)) there
        ((both_at (scalar n)).1 (takes_one all (scalar n)))))

    are_joined : AreJoined w g h2
    are_joined = record {
      scalars = λ n.
          (join_holds u h1).scalars n
          ∙ ap (λ o. option_map (by_mark u n) o) ((join_holds t g).scalars n)
          ∙ scalar_twice n (slice_get g.scalars n) refl;
      arrays = (join_holds u h1).arrays ∙ (join_holds t g).arrays;
      elements = λ n key lt.
          let there : n < length h1.arrays = subst (λ k. n < k) (sym (join_holds t g).arrays) lt in
          (join_holds u h1).elements n key there
          ∙ ap (λ o. joined_element (mark_at (element n key) u) o) ((join_holds t g).elements n key lt)
          ∙ sym (element_joined (mark_at (element n key) t) (mark_at (element n key) u) (mark_at (element n key) w) (found key (array_at g n))
          (first (element n key)) (second (element n key)) (marks (element n key)) (takes_one all (element n key)));
      in_order = λ r. (join_holds u h1).in_order ((join_holds t g).in_order r);
    }

    one_join : join_table w g ≡ h2
    one_join = sym (one_join_holds w g h2 rise are_joined)

pub tables_compose : TablesComposeLaw
tables_compose g t u w rise slots first second marks = (
  (λ all. takes_both g t u w rise slots first second marks all, λ both. takes_as_one g t u w rise slots first second marks both),
  λ all. one_join g t u w rise slots first second marks all,
)

-- ---- neighbours

abbrev Answer : Type 0
Answer = Result (End Globals) Stop

-- one test in place of two
as_one : (one first second : Bool) (x y : Answer) → ((one ≡ true) ↔ ((first ≡ true) × (second ≡ true))) → (one ≡ true → x ≡ y) → (if one then x else Err at_cell) ≡ (if first then (if second then y else Err at_cell) else Err at_cell)
as_one true true true x y h k = k refl
as_one true true false x y h k = let no = (h.0 refl).1 in absurd cc
as_one true false second x y h k = let no = (h.0 refl).0 in absurd cc
as_one false true true x y h k = let no = h.1 (refl, refl) in absurd cc
as_one false true false x y h k = refl
as_one false false second x y h k = refl

all_rise : (g : Globals) → AreInOrder g → AllRise g
all_rise g h = λ k d within. subst Rise (get_or_default g.arrays k [] d within) (h k)

fit_slots : {X Y : Type 0} (xs : List X) (ys : List Y) (g h : Globals) → HasSlots xs ys g → HasSlots h.scalars h.arrays g → FitSlots xs ys h
fit_slots xs ys g h some all = (omega (arith, some.0, all.0), omega (arith, some.1, all.1))

module _ (p : Phase) (e : End Globals) (may : MayRun (phase_at p e)) (slots : HasSlots e.world.scalars e.world.arrays p.globals) (c d : Chunk) (w : Table) (first : AreNoted p c.table) (second : AreNoted p d.table) (marks : AreComposed c.table d.table w) (on : c.left ≡ through) where
  pub neighbours : (more : List Chunk) → merge (joined_chunk w c d ∷ more) e ≡ merge (c ∷ d ∷ more) e
  neighbours more =
      let go : End Globals → Answer = λ x. merge more x in
      let law = tables_compose e.world c.table d.table w (all_rise e.world may.in_order)
      (fit_slots c.table.scalars c.table.arrays p.globals e.world first.slots slots) (λ k. (first.marks k).between) (λ k. (second.marks k).between) marks in
      let x = with_chunk (joined_chunk w c d) e in
      let y = with_chunk d (with_chunk c e) in
      let same : all_take w e.world ≡ true → x ≡ y =
      λ all. λ j. record { world = law.1 all j; state = d.state; output = sym (append_assoc e.output c.output d.output) j; left = d.left } in
      as_one (all_take w e.world) (all_take c.table e.world) (all_take d.table (join_table c.table e.world))
      (after_leaving d.left go x) (after_leaving d.left go y) law.0 (λ all. ap (λ z. after_leaving d.left go z) (same all))
      ∙ ap (λ l. if all_take c.table e.world then after_leaving l (λ z. merge (d ∷ more) z) (with_chunk c e) else Err at_cell) (sym on)
