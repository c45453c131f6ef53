-- Tables, slot by slot.
use Rattle.std.proofs.Common.{◌≡◌, ◌<◌, ◌≤◌, ℕ, true, List, [], ◌∷◌, length, get_or, drop, map, Some, None, ⊎_elim, refl, sym, ◌∙◌, ap, subst, arith}
use Rattle.std.proofs.lemmas.Bool.{cases_lt}
use Rattle.std.proofs.lemmas.List.{get_or-map, get_or_default, get_or_past, length-map}
use Rattle.pawk_keyed_map.specs.Keyed.{found}
use Rattle.pawk_world.specs.Worlds.{Cell, scalar, element}
use Rattle.pawk_frozen.specs.Marks.{Mark, Marks, blank, summed, last_put, created, mark_found, mark_or_blank, Table, mark_at}
use Rattle.pawk_frozen.specs.MarkViews.{mark_view}
use Rattle.pawk_frozen.specs.declared.mark.CellMark.{CellMark}
use Rattle.pawk_shards.specs.Joined.{composed, AreComposed}
use Rattle.pawk_compose.specs.Compositions.{is_kept, may_follow, noted_again, AllFollow, AllKept, AreJoined, ArraysAreJoined, HasSlotsOf, MayFollow}
use Rattle.pawk_compose.proofs.MarkLemmas.{composed_again}
use Rattle.pawk_compose.proofs.SlotLemmas.{left_at, left_within}

-- the marks of scalars follow, and those of arrays
abbrev pub ScalarsFollow : List Mark → List Mark → Type 0
ScalarsFollow ms ns = (n : ℕ) → n < length ms → may_follow (get_or ms n blank) (get_or ns n blank) ≡ true

abbrev pub ArraysFollow : List Marks → List Marks → Type 0
ArraysFollow es fs = (n : ℕ) → n < length es → AllFollow (get_or es n []) (get_or fs n [])

pub may_follow_by_slots : (t u : Table) → length u.scalars ≡ length t.scalars → length u.arrays ≡ length t.arrays →
    ScalarsFollow t.scalars u.scalars → ArraysFollow t.arrays u.arrays → MayFollow t u
may_follow_by_slots t u scalars arrays all each = record { scalars = scalars; arrays = arrays; marks = at } where
  at : (c : Cell) → may_follow (mark_at c t) (mark_at c u) ≡ true
  at (scalar n) = ⊎_elim (λ lt. all n lt) past (cases_lt n (length t.scalars)) where
    past : length t.scalars ≤ n → may_follow (mark_at (scalar n) t) (mark_at (scalar n) u) ≡ true
    past le =
        ap (λ m. may_follow m (mark_at (scalar n) u)) (get_or_past t.scalars n blank le)
        ∙ ap (may_follow blank) (get_or_past u.scalars n blank (omega (arith, le, scalars)))
  at (element n key) = ⊎_elim (λ lt. each n lt key) past (cases_lt n (length t.arrays)) where
    past : length t.arrays ≤ n → may_follow (mark_at (element n key) t) (mark_at (element n key) u) ≡ true
    past le =
        ap (λ ms. may_follow (mark_found key ms) (mark_at (element n key) u)) (get_or_past t.arrays n [] le)
        ∙ ap (λ ms. may_follow blank (mark_found key ms)) (get_or_past u.arrays n [] (omega (arith, le, arrays)))

-- the marks of scalars are composed, and those of arrays
abbrev pub ScalarsCompose : List Mark → List Mark → List Mark → Type 0
ScalarsCompose ms ns ws = (n : ℕ) → n < length ms → composed (get_or ms n blank) (get_or ns n blank) ≡ Some (get_or ws n blank)

abbrev pub ArraysJoin : List Marks → List Marks → List Marks → Type 0
ArraysJoin es fs gs = (n : ℕ) → n < length es → AreJoined (get_or es n []) (get_or fs n []) (get_or gs n [])

module _ (t u w : Table) (may : MayFollow t u) (slots : HasSlotsOf t w) (all : ScalarsCompose t.scalars u.scalars w.scalars) (each : ArraysJoin t.arrays u.arrays w.arrays) where
  pub arrays_joined : ArraysAreJoined t.arrays u.arrays w.arrays
  arrays_joined n key = ⊎_elim (λ lt. each n lt key) past (cases_lt n (length t.arrays)) where
    past : length t.arrays ≤ n → found key (get_or w.arrays n []) ≡ noted_again (found key (get_or t.arrays n [])) (found key (get_or u.arrays n []))
    past le =
        ap (found key) (get_or_past w.arrays n [] (omega (arith, le, slots.arrays)))
        ∙ sym (ap (λ ms. noted_again (found key ms) (found key (get_or u.arrays n []))) (get_or_past t.arrays n [] le)
        ∙ ap (λ ms. noted_again None (found key ms)) (get_or_past u.arrays n [] (omega (arith, le, may.arrays))))

  pub are_composed : AreComposed t u w
  are_composed (scalar n) = ⊎_elim (λ lt. all n lt) past (cases_lt n (length t.scalars)) where
    past : length t.scalars ≤ n → composed (mark_at (scalar n) t) (mark_at (scalar n) u) ≡ Some (mark_at (scalar n) w)
    past le =
        ap (λ m. composed m (mark_at (scalar n) u)) (get_or_past t.scalars n blank le)
        ∙ ap (composed blank) (get_or_past u.scalars n blank (omega (arith, le, may.scalars)))
        ∙ ap Some (sym (get_or_past w.scalars n blank (omega (arith, le, slots.scalars))))
  are_composed (element n key) =
      composed_again (found key (get_or t.arrays n [])) (found key (get_or u.arrays n [])) (found key (get_or w.arrays n []))
      (may.marks (element n key)) (arrays_joined n key)

-- ---- sums that are kept

kept_of : (m n : Mark) → may_follow m n ≡ true → is_kept m ≡ true → is_kept n ≡ true → is_kept (mark_or_blank (composed m n)) ≡ true
kept_of blank blank may k l = refl
kept_of blank (summed d e f) may k l = l
kept_of blank (last_put v) may k l = refl
kept_of blank created may k l = refl
kept_of (summed a b c) blank may k l = k
kept_of (summed a b c) (summed d e f) may k l = may
kept_of (summed a b c) (last_put v) may k l = refl
kept_of (summed a b c) created may k l = refl
kept_of (last_put u) blank may k l = refl
kept_of (last_put u) (summed d e f) may k l = refl
kept_of (last_put u) (last_put v) may k l = refl
kept_of (last_put u) created may k l = refl
kept_of created blank may k l = refl
kept_of created (summed d e f) may k l = refl
kept_of created (last_put v) may k l = refl
kept_of created created may k l = refl

pub all_kept : (t u w : Table) → MayFollow t u → AreComposed t u w → AllKept t → AllKept u → AllKept w
all_kept t u w may one k l c =
    let same : mark_or_blank (composed (mark_at c t) (mark_at c u)) ≡ mark_at c w = ap mark_or_blank (one c) in
    subst (λ (m : Mark). is_kept m ≡ true) same (kept_of (mark_at c t) (mark_at c u) (may.marks c) (k c) (l c))

-- ---- marks of the code, by their slots

pub mark_at_slot : (ms : List CellMark) (i : ℕ) (mark : CellMark) → mark ≡ get_or ms i mark → i < length ms → mark_view mark ≡ get_or (map mark_view ms) i blank
mark_at_slot ms i mark is within = ap mark_view is ∙ sym (get_or-map mark_view ms i mark blank within)

pub marks_at_slot : (xs : List Marks) (i : ℕ) (marks : Marks) → marks ≡ get_or xs i marks → i < length xs → marks ≡ get_or xs i []
marks_at_slot xs i marks is within = is ∙ get_or_default xs i marks [] within

-- what a scalar, and an array, has after both
abbrev pub Composes : Mark → Mark → Mark → Type 0
Composes m n w = composed m n ≡ Some w

module _ (ms ns : List CellMark) (xs ys : List Mark) (e : map mark_view ms ≡ xs) (f : map mark_view ns ≡ ys) where
  abbrev pub MarksFollow : Type 0
  MarksFollow = (n : ℕ) → n < length ms → may_follow (get_or (map mark_view ms) n blank) (get_or (map mark_view ns) n blank) ≡ true

  pub scalars_from : MarksFollow → ScalarsFollow xs ys
  scalars_from h =
      subst (λ (zs : List Mark). ScalarsFollow zs ys) e
      (subst (λ (zs : List Mark). ScalarsFollow (map mark_view ms) zs) f (λ n lt. h n (omega (arith, lt, length-map ms mark_view))))

  pub scalars_to : ScalarsFollow xs ys → MarksFollow
  scalars_to h n lt =
      subst (λ (zs : List Mark). ScalarsFollow (map mark_view ms) zs) (sym f) (subst (λ (zs : List Mark). ScalarsFollow zs ys) (sym e) h) n
      (omega (arith, lt, length-map ms mark_view))

  -- the same of what they make
  pub scalars_composed : (ws : List CellMark) →
      ((n : ℕ) → n < length ms → composed (get_or (map mark_view ms) n blank) (get_or (map mark_view ns) n blank) ≡ Some (get_or (map mark_view ws) n blank)) →
      ScalarsCompose xs ys (map mark_view ws)
  scalars_composed ws h =
      subst (λ (zs : List Mark). ScalarsCompose zs ys (map mark_view ws)) e
      (subst (λ (zs : List Mark). ScalarsCompose (map mark_view ms) zs (map mark_view ws)) f (λ n lt. h n (omega (arith, lt, length-map ms mark_view))))

pub arrays_from : (es fs xs ys : List Marks) → es ≡ xs → fs ≡ ys → ArraysFollow es fs → ArraysFollow xs ys
arrays_from es fs xs ys e f h = subst (λ (zs : List Marks). ArraysFollow zs ys) e (subst (ArraysFollow es) f h)

pub arrays_joined_from : (es fs gs xs ys : List Marks) → es ≡ xs → fs ≡ ys → ArraysJoin es fs gs → ArraysJoin xs ys gs
arrays_joined_from es fs gs xs ys e f h =
    subst (λ (zs : List Marks). ArraysJoin zs ys gs) e (subst (λ (zs : List Marks). ArraysJoin es zs gs) f h)

-- ---- items that are left

-- the mark of the first item that is left
pub scalar_left : (marks rest : List CellMark) (mark : CellMark) (i : ℕ) → drop i marks ≡ mark ∷ rest → get_or (map mark_view marks) i blank ≡ mark_view mark
scalar_left marks rest mark i e =
    get_or-map mark_view marks i mark blank (left_within i marks rest mark e) ∙ ap mark_view (left_at i marks rest mark e mark)
