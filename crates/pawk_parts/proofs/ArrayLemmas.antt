-- The elements of an array that are written one after the other, and slots that are.
use Rattle.std.proofs.Common.{◌≡◌, ◌<◌, ◌+◌, ℕ, List, [], ◌++◌, length, map, get_or, set, replicate, Some, None, refl, sym, ◌∙◌, ap, subst, arith, add-one, length-set}
use Rattle.std.proofs.lemmas.List.{get_or-set_same, set-set, set-get_or, length-map}
use Rattle.pawk_keyed_map.specs.Keyed.{found}
use Rattle.pawk_world.specs.Worlds as cell
use Rattle.pawk_frozen.specs.Marks.{Mark, Marks, Table, blank, mark_at, with_mark, put_mark, mark_found}
use Rattle.pawk_parts.specs.Parts.{Noted, nothing_noted, table_in, all_bytes, SayTable}
use Rattle.pawk_lines.specs.Lines.{Line}
use Rattle.pawk_parts.specs.Writing.{Appends, AppendsTable, AreAll, with_array}
use Rattle.pawk_parts.proofs.LineLemmas.{appends-appends, appends_none}
use Rattle.pawk_parts.proofs.MarkLemmas.{blank_before, one_more_done, are_all_left, are_all_done}
use Rattle.pawk_parts.proofs.SlotLemmas.{filled, length-filled, not_filled, filled_more}

-- ---- the elements of an array

-- what writing an element says
abbrev pub WritesElement : List ℕ → List ℕ → List ℕ → Mark → Type 0
WritesElement old new key m = (n : Noted) (slot : ℕ) → n.array ≡ Some slot → mark_at (cell.element slot key) n.table ≡ blank →
    Appends old new n (record n { table = with_mark (cell.element slot key) m n.table })

-- what writing the elements that are left says
abbrev pub WritesElements : List ℕ → List ℕ → Marks → Type 0
WritesElements old new left = (n : Noted) (slot : ℕ) (all : Marks) → n.array ≡ Some slot → slot < length n.table.arrays → AreAll all left (get_or n.table.arrays slot []) →
    Appends old new n (with_array slot all n)

-- some elements are done, and the others are left
pub record DoesElements (old new : List ℕ) (n m : Noted) (slot : ℕ) (all left : Marks) : Type 0 where
  pub done : Marks
  pub writes : Appends old new n (with_array slot done m)
  pub are : AreAll all left done

pub one_element : (a b c : List ℕ) (n m : Noted) (slot : ℕ) (all left rest : Marks) (k : List ℕ) (w : Mark) → m.array ≡ Some slot → slot < length m.table.arrays →
    left ≡ put_mark k w rest → found k rest ≡ None → DoesElements a b n m slot all left → WritesElement b c k w → DoesElements a c n m slot all rest
one_element a b c n m slot all left rest k w array within is new h writes =
    let xs = m.table.arrays in
    let here : Noted = with_array slot h.done m in
    let at : get_or (set xs slot h.done) slot [] ≡ h.done = get_or-set_same xs slot h.done [] within in
    let none : mark_at (cell.element slot k) here.table ≡ blank = ap (mark_found k) at ∙ blank_before all left rest h.done k w h.are is new in
    let arrays : set (set xs slot h.done) slot (put_mark k w (get_or (set xs slot h.done) slot [])) ≡ set xs slot (put_mark k w h.done) =
    ap (λ ms. set (set xs slot h.done) slot (put_mark k w ms)) at ∙ set-set xs slot h.done (put_mark k w h.done) in
    let after : Noted = with_array slot (put_mark k w h.done) m in
    let same : record here { table = with_mark (cell.element slot k) w here.table } ≡ after = ap (λ ys. record m { table = record m.table { arrays = ys } }) arrays in
    record {
      done = put_mark k w h.done;
      writes = appends-appends a b c n here after h.writes (subst (λ (x : Noted). Appends b c here x) same (writes here slot array none));
      are = one_more_done all left rest h.done k w h.are is new;
    }

-- none is done
pub no_element : (old : List ℕ) (n : Noted) (slot : ℕ) (all left : Marks) → AreAll all left (get_or n.table.arrays slot []) → DoesElements old old n n slot all left
no_element old n slot all left h =
    let same : n ≡ with_array slot (get_or n.table.arrays slot []) n = ap (λ ys. record n { table = record n.table { arrays = ys } }) (sym (set-get_or n.table.arrays slot [])) in
    record { done = get_or n.table.arrays slot []; writes = subst (λ (x : Noted). Appends old old n x) same (appends_none old n); are = h }

-- all are done
pub all_elements : (a b : List ℕ) (n m : Noted) (slot : ℕ) (all left : Marks) → left ≡ [] → DoesElements a b n m slot all left → Appends a b n (with_array slot all m)
all_elements a b n m slot all left e h =
    let is = are_all_done all left h.done h.are e in
    subst (λ (ms : Marks). Appends a b n (with_array slot ms m)) (sym is) h.writes

-- a whole array: the line of its slot, the first element, and the others
pub whole_array : (a b c d : List ℕ) (n : Noted) (slot : ℕ) (all rest : Marks) (k : List ℕ) (m : Mark) → slot < length n.table.arrays → get_or n.table.arrays slot [] ≡ [] →
    all ≡ put_mark k m rest → found k rest ≡ None → Appends a b n (record n { array = Some slot }) → WritesElement b c k m → WritesElements c d rest →
    AppendsTable a d n (record n.table { arrays = set n.table.arrays slot all })
whole_array a b c d n slot all rest k m within empty is new array first others =
    let xs = n.table.arrays in
    let begun : Noted = record n { array = Some slot } in
    let none : set xs slot [] ≡ xs = ap (set xs slot) (sym empty) ∙ set-get_or xs slot [] in
    let same : begun ≡ with_array slot [] begun = ap (λ ys. record begun { table = record n.table { arrays = ys } }) (sym none) in
    let start : DoesElements a b n begun slot all all = record { done = []; writes = subst (λ (x : Noted). Appends a b n x) same array; are = are_all_left all } in
    let one = one_element a b c n begun slot all all rest k m refl within is new start first in
    let here : Noted = with_array slot one.done begun in
    let inside : slot < length here.table.arrays = omega (arith, within, length-set xs slot one.done) in
    let at : get_or (set xs slot one.done) slot [] ≡ one.done = get_or-set_same xs slot one.done [] within in
    let left : AreAll all rest (get_or (set xs slot one.done) slot []) = subst (λ (ms : Marks). AreAll all rest ms) (sym at) one.are in
    let after : Noted = with_array slot all begun in
    let over : with_array slot all here ≡ after = ap (λ ys. record begun { table = record n.table { arrays = ys } }) (set-set xs slot one.done all) in
    (Some slot, appends-appends a c d n here after one.writes (subst (λ (x : Noted). Appends c d here x) over (others here slot all refl inside left)))

-- ---- slots

-- one scalar more
pub one_scalar : (a b c : List ℕ) (n : Noted) (i : ℕ) (ms : List Mark) (m : Mark) → i < length ms → m ≡ get_or ms i blank →
    Appends a b n (record n { table = record n.table { scalars = filled blank i ms } }) →
    ((x : Noted) → i < length x.table.scalars → mark_at (cell.scalar i) x.table ≡ blank → Appends b c x (record x { table = with_mark (cell.scalar i) m x.table })) →
    Appends a c n (record n { table = record n.table { scalars = filled blank (i + 1) ms } })
one_scalar a b c n i ms m within at h writes =
    let here : Noted = record n { table = record n.table { scalars = filled blank i ms } } in
    let after : Noted = record n { table = record n.table { scalars = filled blank (i + 1) ms } } in
    let inside : i < length here.table.scalars = omega (arith, within, length-filled blank i ms) in
    let scalars : set (filled blank i ms) i m ≡ filled blank (i + 1) ms = ap (set (filled blank i ms) i) at ∙ filled_more blank i ms ∙ ap (λ k. filled blank k ms) (sym (add-one i)) in
    let same : record here { table = with_mark (cell.scalar i) m here.table } ≡ after = ap (λ ys. record n { table = record n.table { scalars = ys } }) scalars in
    appends-appends a b c n here after h (subst (λ (x : Noted). Appends b c here x) same (writes here inside (not_filled blank i ms)))

-- one array more
pub one_array : (a b c : List ℕ) (n : Noted) (i : ℕ) (xs : List Marks) (ms : Marks) → i < length xs → ms ≡ get_or xs i [] →
    AppendsTable a b n (record n.table { arrays = filled [] i xs }) →
    ((x : Noted) → i < length x.table.arrays → get_or x.table.arrays i [] ≡ [] → AppendsTable b c x (record x.table { arrays = set x.table.arrays i ms })) →
    AppendsTable a c n (record n.table { arrays = filled [] (i + 1) xs })
one_array a b c n i xs ms within at h writes =
    let here : Noted = record { array = h.0; table = record n.table { arrays = filled [] i xs } } in
    let inside : i < length here.table.arrays = omega (arith, within, length-filled [] i xs) in
    let next = writes here inside (not_filled [] i xs) in
    let arrays : set (filled [] i xs) i ms ≡ filled [] (i + 1) xs = ap (set (filled [] i xs) i) at ∙ filled_more [] i xs ∙ ap (λ k. filled [] k xs) (sym (add-one i)) in
    let then : Noted = record { array = next.0; table = record here.table { arrays = set (filled [] i xs) i ms } } in
    let after : Noted = record { array = next.0; table = record n.table { arrays = filled [] (i + 1) xs } } in
    let same : then ≡ after = ap (λ ys. record { array = next.0; table = record n.table { arrays = ys } }) arrays in
    (next.0, subst (λ (x : Noted). Appends a c n x) same (appends-appends a b c n here then h.1 next.1))

-- ---- a table: its scalars, then its arrays
pub whole_table : {M : Type 0} (view : M → Mark) (a b c : List ℕ) (t : Table) (ms : List M) (xs : List Marks) → map view ms ≡ t.scalars → xs ≡ t.arrays →
    ((n : Noted) → n.table.scalars ≡ replicate (length ms) blank → Appends a b n (record n { table = record n.table { scalars = map view ms } })) →
    ((n : Noted) → n.table.arrays ≡ replicate (length xs) [] → AppendsTable b c n (record n.table { arrays = xs })) →
    (ls : List Line) × SayTable (length t.scalars) (length t.arrays) ls t × (c ≡ a ++ all_bytes ls)
whole_table view a b c t ms xs e f scalars arrays =
    let start : Noted = nothing_noted (length t.scalars) (length t.arrays) in
    let long : length t.scalars ≡ length ms = sym (ap length e) ∙ length-map ms view in
    let first = scalars start (ap (λ n. replicate n blank) long) in
    let then : Noted = record start { table = record start.table { scalars = map view ms } } in
    let second = arrays then (ap (λ ys. replicate (length ys) []) (sym f)) in
    let last : Noted = record { array = second.0; table = record then.table { arrays = xs } } in
    let all = appends-appends a b c start then last first second.1 in
    let same : last.table ≡ t = table_is (map view ms) xs t e f in
    (all.lines, record { lines = all.say.lines; mark_lines = all.say.mark_lines; said = ap table_in all.say.said ∙ ap Some same }, all.bytes) where
      table_is : (ms : List Mark) (xs : List Marks) (t : Table) → ms ≡ t.scalars → xs ≡ t.arrays → record { scalars = ms; arrays = xs } ≡ t
      table_is ms xs t e f = rw (e, f) refl
