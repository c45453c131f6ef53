-- Amounts in marks, in a table and in the globals of a chunk.
use Rattle.std.proofs.Common.{◌≡◌, ◌≢◌, ◌<◌, ℕ, ℤ, Bool, true, false, List, [], length, get_or, sym, ◌∙◌, ap, subst, map}
use Rattle.std.specs.Int.{int_min, int_max}
use Rattle.std.specs.Prelude.{◌+ℤ◌, Result, Ok, Err, OnErr, slice_set, if◌then◌else◌}
use Rattle.std.proofs.lemmas.List.{set-get_or, map-set, get_or-map, get_or_default}
use Rattle.pawk_value.specs.declared.faults.Fault.{Fault}
use Rattle.pawk_value.specs.declared.faults.Fault.TheVariants as fault
use Rattle.pawk_code.specs.declared.word.Sign.{Sign}
use Rattle.pawk_store.specs.Globals.{Globals}
use Rattle.pawk_world.specs.declared.halt.Halt.{Halt as Code}
use Rattle.pawk_world.specs.Answers.{Answers}
use Rattle.pawk_world.specs.Halts as halt
use Rattle.pawk_world.specs.Worlds.{Cell, scalar, element, gives, halts}
use Rattle.pawk_admit.specs.Roles.{Roles}
use Rattle.pawk_frozen.specs.declared.mark.CellMark.{CellMark as CodeMark}
use Rattle.pawk_frozen.specs.Marks.{Mark, blank, summed, last_put, created, Marks, mark_found, put_mark, Table, mark_at, with_mark, with_amount}
use Rattle.pawk_frozen.specs.Frozens.{Frozen, is_sum, signed_amount, with_sum, noted}
use Rattle.pawk_frozen.specs.MarkViews.{kept, mark_view}
use Rattle.pawk_keyed_map.specs.Keyed.{Rise}
use Rattle.pawk_frozen.proofs.KeyLemmas.{named}
use Rattle.pawk_keyed_map.proofs.EntriesLemmas.{put_same}
use Rattle.pawk_frozen.proofs.KeptLemmas.{within, kept_within, kept_mark_is}

-- ---- an answer for a mark is one for the marks of an array

sum_added : (k : List ℕ) (es : Marks) (w m s : Mark) (b : Bool) →
    (if b then gives (tt {0}) w else halts (halt.fault fault.Overflow) m) ≡ gives (tt {0}) s →
    (if b then gives (tt {0}) (put_mark k w es) else halts (halt.fault fault.Overflow) es) ≡ gives (tt {0}) (put_mark k s es)
sum_added k es w m s true a = ap (within (λ x. put_mark k x es)) a
sum_added k es w m s false a = cc

key_summed : (k : List ℕ) (es : Marks) (t l g : ℤ) (m s : Mark) (r : Result (Unit {0}) Code) → Rise es → m ≡ mark_found k es → OnErr r (m ≢ blank) →
    Answers (λ _. tt) (kept (summed t l g) (summed t l g) m) r s → Answers (λ _. tt) (kept (summed t l g) (put_mark k (summed t l g) es) es) r (put_mark k s es)
key_summed k es t l g m s (Ok x) rise at before a = sum_added k es (summed t l g) m s (is_sum t) a
key_summed k es t l g m s (Err e) rise at before a =
    let there = put_same k m es rise (named k m es (sym at) before) in
    subst (λ (old : Marks). Answers {T = Unit {0}} (λ _. tt) (kept (summed t l g) (put_mark k (summed t l g) es) old) (Err e) (put_mark k s es)) there
    (kept_within (λ (x : Mark). put_mark k x es) (summed t l g) (summed t l g) m s (Err e) a)

key_added_by : (k : List ℕ) (es : Marks) (y : ℤ) (m s : Mark) (r : Result (Unit {0}) Code) → Rise es → m ≡ mark_found k es → OnErr r (m ≢ blank) →
    Answers (λ _. tt) (kept (with_amount y m) (with_amount y m) m) r s →
    Answers (λ _. tt) (kept (with_amount y m) (put_mark k (with_amount y m) es) es) r (put_mark k s es)
key_added_by k es y blank s r rise at before a = key_summed k es y y y blank s r rise at before a
key_added_by k es y (summed t l g) s r rise at before a = key_summed k es (t +ℤ y) (int_min l (t +ℤ y)) (int_max g (t +ℤ y)) (summed t l g) s r rise at before a
key_added_by k es y (last_put v) s r rise at before a = key_summed k es y y y (last_put v) s r rise at before a
key_added_by k es y created s r rise at before a = key_summed k es y y y created s r rise at before a

pub key_added : (k : List ℕ) (es : Marks) (y : ℤ) (m s : Mark) (r : Result (Unit {0}) Code) → Rise es → m ≡ mark_found k es → OnErr r (m ≢ blank) →
    Answers (λ _. tt) (kept (with_amount y m) (with_amount y m) m) r s →
    Answers (λ _. tt) (kept (with_amount y (mark_found k es)) (put_mark k (with_amount y (mark_found k es)) es) es) r (put_mark k s es)
key_added k es y m s r rise at before a =
    subst (λ (n : Mark). Answers {T = Unit {0}} (λ _. tt) (kept (with_amount y n) (put_mark k (with_amount y n) es) es) r (put_mark k s es)) at
    (key_added_by k es y m s r rise at before a)

-- ---- an answer for a scalar's mark is one for the table

scalar_added_to : (xs : List CodeMark) (arrays : List Marks) (n : ℕ) (y : ℤ) (m s : CodeMark) (r : Result (Unit {0}) Code) (t : Table) →
    t ≡ record { scalars = map mark_view xs; arrays = arrays } → n < length xs → m ≡ get_or xs n m →
    Answers (λ _. tt) (kept (with_amount y (mark_view m)) (with_amount y (mark_view m)) (mark_view m)) r (mark_view s) →
    Answers (λ _. tt) (kept (with_amount y (mark_at (scalar n) t)) (with_mark (scalar n) (with_amount y (mark_at (scalar n) t)) t) t) r
    (with_mark (scalar n) (mark_view s) t)
scalar_added_to xs arrays n y m s r t is below at a =
    let found : mark_at (scalar n) t ≡ mark_view m = ap (mark_at (scalar n)) is ∙ get_or-map mark_view xs n m blank below ∙ ap mark_view (sym at) in
    let back : with_mark (scalar n) (mark_at (scalar n) t) t ≡ t = ap (λ ms. record { scalars = ms; arrays = t.arrays }) (set-get_or t.scalars n blank) in
    let before = subst (λ (x : Mark). Answers {T = Unit {0}} (λ _. tt) (kept (with_amount y x) (with_amount y x) x) r (mark_view s)) (sym found) a in
    let w = with_amount y (mark_at (scalar n) t) in
    subst (λ (old : Table). Answers {T = Unit {0}} (λ _. tt) (kept w (with_mark (scalar n) w t) old) r (with_mark (scalar n) (mark_view s) t)) back
    (kept_within (λ (x : Mark). with_mark (scalar n) x t) w w (mark_at (scalar n) t) (mark_view s) r before)

pub scalar_added : (xs : List CodeMark) (arrays : List Marks) (before : Table) (n : ℕ) (y : ℤ) (m s : CodeMark) (r : Result (Unit {0}) Code) →
    record { scalars = map mark_view xs; arrays = arrays } ≡ before → n < length xs → m ≡ get_or xs n m →
    Answers (λ _. tt) (kept (with_amount y (mark_view m)) (with_amount y (mark_view m)) (mark_view m)) r (mark_view s) →
    Answers (λ _. tt) (kept (with_amount y (mark_at (scalar n) before)) (with_mark (scalar n) (with_amount y (mark_at (scalar n) before)) before) before) r
    (record { scalars = map mark_view (slice_set xs n s); arrays = arrays })
scalar_added xs arrays before n y m s r is below at a =
    let new : with_mark (scalar n) (mark_view s) before ≡ record { scalars = map mark_view (slice_set xs n s); arrays = arrays } =
    ap (with_mark (scalar n) (mark_view s)) (sym is) ∙ ap (λ ms. record { scalars = ms; arrays = arrays }) (sym (map-set mark_view xs n s)) in
    let w = with_amount y (mark_at (scalar n) before) in
    subst (λ (t : Table). Answers {T = Unit {0}} (λ _. tt) (kept w (with_mark (scalar n) w before) before) r t) new
    (scalar_added_to xs arrays n y m s r before (sym is) below at a)

-- ---- an answer for an array's marks is one for the table

element_added_to : (t : Table) (n : ℕ) (k : List ℕ) (w : Mark) (s : Marks) (r : Result (Unit {0}) Code) →
    Answers (λ _. tt) (kept w (put_mark k w (get_or t.arrays n [])) (get_or t.arrays n [])) r s →
    Answers (λ _. tt) (kept w (with_mark (element n k) w t) t) r (record { scalars = t.scalars; arrays = slice_set t.arrays n s })
element_added_to t n k w s r a =
    let back : record { scalars = t.scalars; arrays = slice_set t.arrays n (get_or t.arrays n []) } ≡ t = ap (λ xs. record { scalars = t.scalars; arrays = xs }) (set-get_or t.arrays n []) in
    subst (λ (old : Table). Answers {T = Unit {0}} (λ _. tt) (kept w (with_mark (element n k) w t) old) r (record { scalars = t.scalars; arrays = slice_set t.arrays n s })) back
    (kept_within (λ (x : Marks). record { scalars = t.scalars; arrays = slice_set t.arrays n x }) w (put_mark k w (get_or t.arrays n [])) (get_or t.arrays n []) s r a)

pub element_added : (scalars : List Mark) (xs : List Marks) (before : Table) (n : ℕ) (k : List ℕ) (y : ℤ) (es s : Marks) (r : Result (Unit {0}) Code) →
    record { scalars = scalars; arrays = xs } ≡ before → n < length xs → es ≡ get_or xs n es →
    Answers (λ _. tt) (kept (with_amount y (mark_found k es)) (put_mark k (with_amount y (mark_found k es)) es) es) r s →
    Answers (λ _. tt) (kept (with_amount y (mark_at (element n k) before)) (with_mark (element n k) (with_amount y (mark_at (element n k) before)) before) before) r
    (record { scalars = scalars; arrays = slice_set xs n s })
element_added scalars xs before n k y es s r is below at a =
    let t : Table = record { scalars = scalars; arrays = xs } in
    let here = subst (λ (x : Marks). Answers {T = Unit {0}} (λ _. tt) (kept (with_amount y (mark_found k x)) (put_mark k (with_amount y (mark_found k x)) x) x) r s) (at ∙ get_or_default xs n es [] below) a in
    subst (λ (b : Table). Answers {T = Unit {0}} (λ _. tt) (kept (with_amount y (mark_at (element n k) b)) (with_mark (element n k) (with_amount y (mark_at (element n k) b)) b) b) r (record { scalars = scalars; arrays = slice_set xs n s })) is
    (element_added_to t n k (with_amount y (mark_found k (get_or xs n []))) s r here)

-- ---- an answer for the table is one for the globals

added_to : (f : Frozen) (c : Cell) (w : Mark) (t : Table) (r : Result (Unit {0}) Code) →
    Answers (λ _. tt) (kept w (with_mark c w f.table) f.table) r t → Answers (λ _. tt) (kept w (noted c w f) f) r (record f { table = t })
added_to f c w t r a = kept_within (λ (x : Table). record f { table = x }) w (with_mark c w f.table) f.table t r a

pub added : (fixed : Globals) (roles : Roles) (t after : Table) (before : Frozen) (c : Cell) (sign : Sign) (amount : Result ℤ Fault) (y : ℤ) (r : Result (Unit {0}) Code) →
    record { fixed = fixed; roles = roles; table = t } ≡ before → amount ≡ Ok y →
    Answers (λ _. tt) (kept (with_amount (signed_amount sign y) (mark_at c t)) (with_mark c (with_amount (signed_amount sign y) (mark_at c t)) t) t) r after →
    Answers (λ _. tt) (with_sum c sign amount before) r (record { fixed = fixed; roles = roles; table = after })
added fixed roles t after before c sign amount y r is told a =
    let f : Frozen = record { fixed = fixed; roles = roles; table = t } in
    let w = with_amount (signed_amount sign y) (mark_at c t) in
    let last : Frozen = record { fixed = fixed; roles = roles; table = after } in
    let here = subst (λ x. Answers {T = Unit {0}} (λ _. tt) x r last) (kept_mark_is c w f) (added_to f c w after r a) in
    subst (λ (b : Frozen). Answers {T = Unit {0}} (λ _. tt) (with_sum c sign amount b) r last) is
    (subst (λ (x : Result ℤ Fault). Answers {T = Unit {0}} (λ _. tt) (with_sum c sign x f) r last) (sym told) here)
