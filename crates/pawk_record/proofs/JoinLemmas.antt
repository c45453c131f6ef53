-- Fields that are in a line with OFS between them, and an assignment to one of them there.
use Rattle.std.proofs.Common.{◌≡◌, ℕ, zero, suc, ◌+◌, ◌-◌, ◌<◌, ◌≤◌, min, arith, List, [], ◌∷◌, ◌++◌, length, set, replicate, map, drop, take, Some, None, Result, Ok, Err, length-drop, refl, sym, ap, subst, ◌∙◌, append_assoc, append-nil, length-append}
use Rattle.std.proofs.lemmas.List.{drop_at, take_at, take_rest, set_at, set_split, drop-set-lt, map-set, take-append-drop}
use Rattle.std.proofs.lemmas.List.Edits.{length-between}
use Rattle.std.proofs.lemmas.List.Folds.{drop_split}
use Rattle.std.specs.Prelude.{OnOk, slice_get, slice_index_or}
use Rattle.std.specs.declared.ops.Range.{Range}
use Rattle.pawk_fields.specs.FieldSeparator.{range_of}
use Rattle.pawk_value.specs.Conversion.{text_of}
use Rattle.pawk_value.specs.Value.{Val, Uninit, Maybe}
use Rattle.pawk_record.specs.declared.layout.Kind.{Kind}
use Rattle.pawk_record.specs.declared.layout.Kind.TheVariants as kinds
use Rattle.pawk_record.specs.declared.layout.Layout.{Layout}
use Rattle.pawk_record.specs.Lines.{Adds, AreJoined, AreJoinedTo, IsAfter, IsJoined, IsLaidOut, MovesEnd, Replaces, before_at, bytes_in, exchanged, kind_of, moved, places_from, values, values_of}
use Rattle.pawk_record.specs.Records.{joined, joined_from, with_value}
use Rattle.pawk_record.proofs.LaidLemmas.{laid_values}

-- ---- lists

past_all : {X : Type 0} (xs : List X) (i : ℕ) → length xs ≤ i → drop i xs ≡ []
past_all [] zero h = refl
past_all [] (suc i) h = refl
past_all (x ∷ xs) zero h = absurd (omega arith)
past_all (x ∷ xs) (suc i) h = past_all xs i (omega arith)

range_there : (rs : List (Range ℕ)) (i : ℕ) (r : Range ℕ) → slice_get rs i ≡ Some r → drop i rs ≡ r ∷ drop (i + 1) rs
range_there [] i r h = cc
range_there (x ∷ rs) zero r h = let same : x ≡ r = cc in ap (λ y. y ∷ rs) same
range_there (x ∷ rs) (suc i) r h = let e : suc i + 1 ≡ suc (i + 1) = omega arith in range_there rs i r h ∙ ap (λ k. r ∷ drop k (x ∷ rs)) (sym e)

pub within : (rs : List (Range ℕ)) (i : ℕ) (r : Range ℕ) → slice_get rs i ≡ Some r → i < length rs
within [] i r h = cc
within (x ∷ rs) zero r h = omega arith
within (x ∷ rs) (suc i) r h = let more = within rs i r h in omega arith

middle : (p : List (Range ℕ)) (x : Range ℕ) (q : List (Range ℕ)) → slice_get (p ++ x ∷ q) (length p) ≡ Some x
middle [] x q = refl
middle (y ∷ p) x q = middle p x q

pub copies_more : (n : ℕ) (k : Kind) → replicate n k ++ k ∷ [] ≡ replicate (n + 1) k
copies_more zero k = refl
copies_more (suc n) k = let e : suc n + 1 ≡ suc (n + 1) = omega arith in ap (λ ks. k ∷ ks) (copies_more n k) ∙ ap (λ m. replicate m k) (sym e)

pub there : (rs : List (Range ℕ)) (i : ℕ) (d : Range ℕ) → i < length rs → slice_get rs i ≡ Some (slice_index_or rs i d)
there [] i d h = absurd (omega arith)
there (x ∷ rs) zero d h = refl
there (x ∷ rs) (suc i) d h = there rs i d (omega arith)

pub past : (rs : List (Range ℕ)) (i : ℕ) → slice_get rs i ≡ None → length rs ≤ i
past [] i h = omega arith
past (x ∷ rs) zero h = cc
past (x ∷ rs) (suc i) h = let more = past rs i h in omega arith

-- a part up to the end that moved
pub moved_after : (rs ms : List (Range ℕ)) (i from to : ℕ) → ms ≡ map (moved from to) (take (length rs - i) (drop i rs)) → take i rs ++ (ms ++ drop (length rs - i) (drop i rs)) ≡ take i rs ++ map (moved from to) (drop i rs)
moved_after rs ms i from to h =
    let none : drop (length rs - i) (drop i rs) ≡ [] = past_all (drop i rs) (length rs - i) (omega (arith, length-drop i rs)) in
    ap (λ l. take i rs ++ (ms ++ l)) none ∙ ap (λ l. take i rs ++ l) (append-nil ms ∙ h ∙ ap (map (moved from to)) (take_rest rs i))

pub on_ok_two : {T E : Type 0} (P Q R : Type 0) (r : Result T E) → (P → Q → R) → OnOk r P → OnOk r Q → OnOk r R
on_ok_two P Q R (Ok x) f p q = f p q
on_ok_two P Q R (Err e) f p q = tt

-- ---- whether fields are laid out so in a line

later : (i : ℕ) (ofs : List ℕ) → before_at (i + 1) ofs ≡ ofs
later i ofs = let e : i + 1 ≡ suc i = omega arith in ap (λ k. before_at k ofs) e

pub joined_start : (ofs line : List ℕ) (ranges : List (Range ℕ)) → AreJoinedTo ofs line ranges 0 0
unfolding joined
joined_start ofs line ranges = record { within = omega arith; text = λ h. h; places = λ h. h }

pub joined_more : (ofs line : List ℕ) (ranges : List (Range ℕ)) (i place : ℕ) (r : Range ℕ) → slice_get ranges i ≡ Some r → IsAfter line place (before_at i ofs) r → AreJoinedTo ofs line ranges i place → AreJoinedTo ofs line ranges (i + 1) r.end
unfolding values
joined_more ofs line ranges i place r at b j = record {
  within = b.within;
  text = λ h. j.text (
      drop_split line place r.start (omega (arith, b.start))
      ∙ ap (λ s. s ++ drop r.start line) b.bytes
      ∙ ap (λ s. before ++ s) (drop_split line r.start r.end b.order)
      ∙ ap (λ s. before ++ (bytes_in line r ++ s)) (h ∙ ap (λ o. joined_from o ofs vs) (later i ofs))
      ∙ ap (λ rs. joined_from before ofs (values line rs [])) (sym cut));
  places = λ h. j.places (
      cut
      ∙ ap (λ x. x ∷ rest) same
      ∙ ap (λ rs. here ∷ rs) (h ∙ ap (λ o. places_from r.end o ofs vs) (later i ofs) ∙ ap (λ n. places_from n ofs ofs vs) long)
      ∙ ap (λ rs. places_from place before ofs (values line rs [])) (sym cut));
}
  where
    before : List ℕ
    before = before_at i ofs

    rest : List (Range ℕ)
    rest = drop (i + 1) ranges

    vs : List Val
    vs = values line rest []

    cut : drop i ranges ≡ r ∷ rest
    cut = range_there ranges i r at

    long : r.end ≡ place + length before + length (bytes_in line r)
    long = let size = length-between line r.start r.end b.within in omega (arith, size, b.start, b.order)

    here : Range ℕ
    here = record { start = place + length before; end = place + length before + length (bytes_in line r) }

    same : r ≡ here
    same =
        let from : ℕ → Range ℕ = λ n. record { start = n; end = r.end } in
        let to : ℕ → Range ℕ = λ n. record { start = place + length before; end = n } in
        ap from b.start ∙ ap to long

pub joined_end : (ofs line : List ℕ) (ranges : List (Range ℕ)) (i place : ℕ) → length ranges ≤ i → place ≡ length line → AreJoinedTo ofs line ranges i place → AreJoined ofs line ranges
unfolding values
joined_end ofs line ranges i place over all j = record {
  text = j.text (past_all line place (omega (arith, all)) ∙ ap (λ rs. joined_from (before_at i ofs) ofs (values line rs [])) (sym none));
  places = j.places (none ∙ ap (λ rs. places_from place (before_at i ofs) ofs (values line rs [])) (sym none));
}
  where
    none : drop i ranges ≡ []
    none = past_all ranges i over

-- ---- kinds of fields that came from outside

pub outside_values : (line : List ℕ) (rs : List (Range ℕ)) → values line rs (replicate (length rs) kinds.Maybe) ≡ values line rs []
unfolding values
outside_values line [] = refl
outside_values line (r ∷ rs) = ap (λ vs. Maybe (bytes_in line r) ∷ vs) (outside_values line rs)

outside_kinds : (line : List ℕ) (rs : List (Range ℕ)) → replicate (length rs) kinds.Maybe ≡ map kind_of (values line rs [])
unfolding values
outside_kinds line [] = refl
outside_kinds line (r ∷ rs) = ap (λ ks. kinds.Maybe ∷ ks) (outside_kinds line rs)

pub outside_laid : (ofs line : List ℕ) (rs : List (Range ℕ)) (layout : Layout) → AreJoined ofs line rs → layout.text.items ≡ line → layout.ranges.items ≡ rs → layout.kinds.items ≡ replicate (length rs) kinds.Maybe
    → IsLaidOut ofs (values layout.text.items layout.ranges.items layout.kinds.items) layout
outside_laid ofs line rs layout j t r k = let vs = values line rs [] in
    let same : vs ≡ values layout.text.items layout.ranges.items layout.kinds.items =
    sym (outside_values line rs)
    ∙ ap (values line rs) (sym k)
    ∙ ap (λ l. values line l layout.kinds.items) (sym r)
    ∙ ap (λ l. values l layout.ranges.items layout.kinds.items) (sym t) in
    let laid : IsLaidOut ofs vs layout = record { text = t ∙ j.text; ranges = r ∙ j.places; kinds = k ∙ outside_kinds line rs } in
    subst (λ ws. IsLaidOut ofs ws layout) same laid

pub own_values : (line : List ℕ) (rs : List (Range ℕ)) (t own : List ℕ) (r : List (Range ℕ)) (k ks : List Kind) → t ≡ line → r ≡ rs → k ≡ replicate (length rs) kinds.Maybe → own ≡ line → ks ≡ [] → values t r k ≡ values own rs ks
own_values line rs t own r k ks text ranges outside same none =
    ap (λ l. values l r k) text
    ∙ ap (λ l. values line l k) ranges
    ∙ ap (values line rs) outside
    ∙ outside_values line rs
    ∙ ap (values line rs) (sym none)
    ∙ ap (λ l. values l rs ks) (sym same)

pub joined_of : (ofs : List ℕ) (ws : List Val) (old new : Layout) → IsLaidOut ofs ws old → new.text.items ≡ old.text.items → new.ranges.items ≡ old.ranges.items → new.kinds.items ≡ old.kinds.items → new.ofs.items ≡ ofs → IsJoined new
joined_of ofs ws old new l t r k o =
    let laid : IsLaidOut ofs ws new = record { text = t ∙ l.text; ranges = r ∙ l.ranges; kinds = k ∙ l.kinds } in
    let same : ws ≡ values_of new = sym (laid_values ofs ws new laid) in
    record { laid = subst (λ (x : List ℕ). IsLaidOut x (values_of new) new) (sym o) (subst (λ us. IsLaidOut ofs us new) same laid) }

-- ---- ranges that move

moved_places : (d from to : ℕ) (before ofs : List ℕ) (vs : List Val) → to + d + length (joined_from before ofs vs) ≤ 18446744073709551615 → map (moved from to) (places_from (from + d) before ofs vs) ≡ places_from (to + d) before ofs vs
moved_places d from to before ofs [] h = refl
moved_places d from to before ofs (v ∷ vs) h =
    let more = d + length before + length (text_of v) in
    let rest = joined_from ofs ofs vs in
    let one = length-append before (text_of v ++ rest) in
    let two = length-append (text_of v) rest in
    let pair : ℕ → ℕ → Range ℕ = λ m n. record { start = m; end = n } in
    let start : min (from + d + length before - from + to) 18446744073709551615 ≡ to + d + length before = omega (arith, one, two) in
    let end : min (from + d + length before + length (text_of v) - from + to) 18446744073709551615 ≡ to + d + length before + length (text_of v) = omega (arith, one, two) in
    let old : from + d + length before + length (text_of v) ≡ from + more = omega arith in
    let new : to + more ≡ to + d + length before + length (text_of v) = omega arith in
    ap (λ n. pair (min (from + d + length before - from + to) 18446744073709551615) (min (from + d + length before + length (text_of v) - from + to) 18446744073709551615) ∷ map (moved from to) (places_from n ofs ofs vs)) old
    ∙ ap (λ rs. pair (min (from + d + length before - from + to) 18446744073709551615) (min (from + d + length before + length (text_of v) - from + to) 18446744073709551615) ∷ rs) (moved_places more from to ofs ofs vs (omega (arith, one, two)))
    ∙ ap (λ n. pair (min (from + d + length before - from + to) 18446744073709551615) (min (from + d + length before + length (text_of v) - from + to) 18446744073709551615) ∷ places_from n ofs ofs vs) new
    ∙ ap (λ m. pair m (min (from + d + length before + length (text_of v) - from + to) 18446744073709551615) ∷ places_from (to + d + length before + length (text_of v)) ofs ofs vs) start
    ∙ ap (λ n. pair (to + d + length before) n ∷ places_from (to + d + length before + length (text_of v)) ofs ofs vs) end

pub moves_none : (number : ℕ) (range : ℕ × ℕ) (end : ℕ) (rs : List (Range ℕ)) → slice_get rs number ≡ Some (range_of range) → end ≡ range.1 → MovesEnd number range end rs rs
moves_none number range end rs at same = record {
  moves = λ ofs vs h room.
      sym (take-append-drop number rs)
      ∙ ap (λ l. take number rs ++ l) (range_there rs number (range_of range) at)
      ∙ ap (λ l. take number rs ++ (range_of range ∷ l)) h
      ∙ ap (λ n. take number rs ++ (record { start = range.0; end = n } ∷ places_from n ofs ofs vs)) (sym same);
}

pub moves_more : (number : ℕ) (range : ℕ × ℕ) (end : ℕ) (old new : List (Range ℕ)) → slice_get old number ≡ Some (range_of range)
    → new ≡ take (number + 1) (set old number (record { start = range.0; end = end })) ++ map (moved range.1 end) (drop (number + 1) (set old number (record { start = range.0; end = end })))
    → MovesEnd number range end old new
moves_more number range end old new at is = record {
  moves = λ ofs vs h room.
      let here : Range ℕ = record { start = range.0; end = end } in
      let low = within old number (range_of range) at in
      let cut = set_split old number here low in
      let size : length (take number old) ≡ number = length_take old number (omega (arith, low)) in
      let long : length (take number old ++ here ∷ []) ≡ number + 1 = length-append (take number old) (here ∷ []) ∙ (omega (arith, size)) in
      let shape : set old number here ≡ (take number old ++ here ∷ []) ++ drop (suc number) old = cut ∙ sym (append_assoc (take number old) (here ∷ []) (drop (suc number) old)) in
      let front : take (number + 1) (set old number here) ≡ take number old ++ here ∷ [] = ap (take (number + 1)) shape ∙ take_at (take number old ++ here ∷ []) (drop (suc number) old) (number + 1) long in
      let zeros : range.1 + 0 ≡ range.1 = omega arith in
      let ends : end + 0 ≡ end = omega arith in
      let behind : map (moved range.1 end) (drop (number + 1) (set old number here)) ≡ places_from end ofs ofs vs =
      ap (map (moved range.1 end)) (drop-set-lt (number + 1) old number here (omega arith) ∙ h ∙ ap (λ n. places_from n ofs ofs vs) (sym zeros))
      ∙ moved_places 0 range.1 end ofs ofs vs (omega (arith, room))
      ∙ ap (λ n. places_from n ofs ofs vs) ends in
      is
      ∙ ap (λ l. l ++ map (moved range.1 end) (drop (number + 1) (set old number here))) front
      ∙ ap (λ l. (take number old ++ here ∷ []) ++ l) behind
      ∙ append_assoc (take number old) (here ∷ []) (places_from end ofs ofs vs);
}
  where
    length_take : (rs : List (Range ℕ)) (i : ℕ) → i ≤ length rs → length (take i rs) ≡ i
    length_take rs zero h = refl
    length_take [] (suc i) h = absurd (omega arith)
    length_take (r ∷ rs) (suc i) h = ap suc (length_take rs i (omega arith))

-- ---- a value among others

-- what is before a value, after others
abbrev upto : List ℕ → List ℕ → List Val → List ℕ
upto before ofs [] = before
upto before ofs (u ∷ us) = before ++ (text_of u ++ upto ofs ofs us)

joined_split : (before ofs : List ℕ) (us : List Val) (w : Val) (ws : List Val) → joined_from before ofs (us ++ w ∷ ws) ≡ upto before ofs us ++ (text_of w ++ joined_from ofs ofs ws)
joined_split before ofs [] w ws = refl
joined_split before ofs (u ∷ us) w ws =
    let rest = text_of w ++ joined_from ofs ofs ws in
    ap (λ s. before ++ (text_of u ++ s)) (joined_split ofs ofs us w ws)
    ∙ ap (λ s. before ++ s) (sym (append_assoc (text_of u) (upto ofs ofs us) rest))
    ∙ sym (append_assoc before (text_of u ++ upto ofs ofs us) rest)

places_split : (at : ℕ) (before ofs : List ℕ) (us : List Val) (w : Val) (ws : List Val) → places_from at before ofs (us ++ w ∷ ws)
    ≡ places_from at before ofs us ++ (record { start = at + length (upto before ofs us); end = at + length (upto before ofs us) + length (text_of w) } ∷ places_from (at + length (upto before ofs us) + length (text_of w)) ofs ofs ws)
places_split at before ofs [] w ws = refl
places_split at before ofs (u ∷ us) w ws =
    let end = at + length before + length (text_of u) in
    let here : Range ℕ = record { start = at + length before; end = end } in
    let front = places_from end ofs ofs us in
    let one = length-append before (text_of u ++ upto ofs ofs us) in
    let two = length-append (text_of u) (upto ofs ofs us) in
    let long : end + length (upto ofs ofs us) ≡ at + length (before ++ (text_of u ++ upto ofs ofs us)) = omega (arith, one, two) in
    let tail : ℕ → List (Range ℕ) = λ n. record { start = n; end = n + length (text_of w) } ∷ places_from (n + length (text_of w)) ofs ofs ws in
    ap (λ rs. here ∷ rs) (places_split end ofs ofs us w ws) ∙ ap (λ n. here ∷ (front ++ tail n)) long

pub length_places : (at : ℕ) (before ofs : List ℕ) (vs : List Val) → length (places_from at before ofs vs) ≡ length vs
length_places at before ofs [] = refl
length_places at before ofs (v ∷ vs) = ap suc (length_places (at + length before + length (text_of v)) ofs ofs vs)

record Split (vs : List Val) (i : ℕ) : Type 0 where
  us : List Val
  w : Val
  ws : List Val
  is : vs ≡ us ++ w ∷ ws
  at : length us ≡ i

split : (vs : List Val) (i : ℕ) → i < length vs → Split vs i
split [] i h = absurd (omega arith)
split (v ∷ vs) zero h = record { us = []; w = v; ws = vs; is = refl; at = refl }
split (v ∷ vs) (suc i) h = let c = split vs i (omega arith) in record { us = v ∷ c.us; w = c.w; ws = c.ws; is = ap (λ xs. v ∷ xs) c.is; at = ap suc c.at }

-- where the range of a value is among the others
record Cut (ofs : List ℕ) (vs : List Val) (i : ℕ) (range : ℕ × ℕ) : Type 0 where
  parts : Split vs i
  start : range.0 ≡ length (upto [] ofs parts.us)
  end : range.1 ≡ length (upto [] ofs parts.us) + length (text_of parts.w)

cut : (ofs : List ℕ) (vs : List Val) (i : ℕ) (range : ℕ × ℕ) → slice_get (places_from 0 [] ofs vs) i ≡ Some (range_of range) → Cut ofs vs i range
cut ofs vs i range h =
    let low = within (places_from 0 [] ofs vs) i (range_of range) h in
    let many = length_places 0 [] ofs vs in
    let p = split vs i (omega (arith, low, many)) in
    let before = length (upto [] ofs p.us) in
    let there : Range ℕ = record { start = 0 + before; end = 0 + before + length (text_of p.w) } in
    let behind = places_from (0 + before + length (text_of p.w)) ofs ofs p.ws in
    let front = places_from 0 [] ofs p.us in
    let whole : places_from 0 [] ofs vs ≡ front ++ there ∷ behind = ap (places_from 0 [] ofs) p.is ∙ places_split 0 [] ofs p.us p.w p.ws in
    let size : length front ≡ i = length_places 0 [] ofs p.us ∙ p.at in
    let found : Some there ≡ Some (range_of range) = sym (middle front there behind) ∙ ap (slice_get (front ++ there ∷ behind)) size ∙ ap (λ rs. slice_get rs i) (sym whole) ∙ h in
    let same : there ≡ range_of range = cc in
    record {
      parts = p;
      start = let e = ap (λ (r : Range ℕ). r.start) same in omega (arith, e);
      end = let e = ap (λ (r : Range ℕ). r.end) same in omega (arith, e);
    }

-- ---- one of the fields assigned

-- the line with the text of another value
pub exchanged_line : (ofs : List ℕ) (vs : List Val) (i : ℕ) (v : Val) (range : ℕ × ℕ) (old : Layout) → slice_get old.ranges.items i ≡ Some (range_of range) → IsLaidOut ofs vs old → exchanged old.text.items range.0 range.1 (text_of v) ≡ joined ofs (set vs i v)
unfolding joined
exchanged_line ofs vs i v range old at l =
    let c = cut ofs vs i range (ap (λ rs. slice_get rs i) (sym l.ranges) ∙ at) in
    let p = c.parts in
    let front = upto [] ofs p.us in
    let rest = joined_from ofs ofs p.ws in
    let line : old.text.items ≡ front ++ (text_of p.w ++ rest) = l.text ∙ ap (joined_from [] ofs) p.is ∙ joined_split [] ofs p.us p.w p.ws in
    let line_2 : old.text.items ≡ (front ++ text_of p.w) ++ rest = line ∙ sym (append_assoc front (text_of p.w) rest) in
    let one : take range.0 old.text.items ≡ front = ap (take range.0) line ∙ take_at front (text_of p.w ++ rest) range.0 (sym c.start) in
    let two : drop range.1 old.text.items ≡ rest = ap (drop range.1) line_2 ∙ drop_at (front ++ text_of p.w) rest range.1 (length-append front (text_of p.w) ∙ sym c.end) in
    ap (λ s. s ++ (text_of v ++ drop range.1 old.text.items)) one
    ∙ ap (λ s. front ++ (text_of v ++ s)) two
    ∙ sym (joined_split [] ofs p.us v p.ws)
    ∙ ap (joined_from [] ofs) (sym (set_at p.us p.w p.ws v i p.at))
    ∙ ap (λ xs. joined_from [] ofs (set xs i v)) (sym p.is)

pub replaced : (ofs : List ℕ) (vs : List Val) (i : ℕ) (v : Val) (range : ℕ × ℕ) (old new : Layout) → slice_get old.ranges.items i ≡ Some (range_of range) → IsLaidOut ofs vs old → Replaces i range v old new → length new.text.items ≤ 16777216 → IsLaidOut ofs (set vs i v) new
unfolding joined
replaced ofs vs i v range old new at l r short = record { text = line; ranges = places; kinds = r.kinds ∙ ap (λ ks. set ks i (kind_of v)) l.kinds ∙ sym (map-set kind_of vs i v) }
  where
    line : new.text.items ≡ joined ofs (set vs i v)
    line = r.text ∙ exchanged_line ofs vs i v range old at l

    c : Cut ofs vs i range
    c = cut ofs vs i range (ap (λ rs. slice_get rs i) (sym l.ranges) ∙ at)

    us : List Val
    us = c.parts.us

    ws : List Val
    ws = c.parts.ws

    w : Val
    w = c.parts.w

    here : set vs i v ≡ us ++ v ∷ ws
    here = ap (λ xs. set xs i v) c.parts.is ∙ set_at us w ws v i c.parts.at

    front : ℕ
    front = length (upto [] ofs us)

    whole : old.ranges.items ≡ places_from 0 [] ofs us ++ (record { start = 0 + front; end = 0 + front + length (text_of w) } ∷ places_from (0 + front + length (text_of w)) ofs ofs ws)
    whole = l.ranges ∙ ap (places_from 0 [] ofs) c.parts.is ∙ places_split 0 [] ofs us w ws

    size : length (places_from 0 [] ofs us) ≡ i
    size = length_places 0 [] ofs us ∙ c.parts.at

    front_ranges : take i old.ranges.items ≡ places_from 0 [] ofs us
    front_ranges = ap (take i) whole ∙ take_at (places_from 0 [] ofs us) (record { start = 0 + front; end = 0 + front + length (text_of w) } ∷ places_from (0 + front + length (text_of w)) ofs ofs ws) i size

    there : Range ℕ
    there = record { start = 0 + front; end = 0 + front + length (text_of w) }

    behind : drop (i + 1) old.ranges.items ≡ places_from range.1 ofs ofs ws
    behind =
        let long : length (places_from 0 [] ofs us ++ there ∷ []) ≡ i + 1 = length-append (places_from 0 [] ofs us) (there ∷ []) ∙ (omega (arith, size)) in
        let e : 0 + front + length (text_of w) ≡ range.1 = omega (arith, c.end) in
        ap (drop (i + 1)) (whole ∙ sym (append_assoc (places_from 0 [] ofs us) (there ∷ []) (places_from (0 + front + length (text_of w)) ofs ofs ws)))
        ∙ drop_at (places_from 0 [] ofs us ++ there ∷ []) (places_from (0 + front + length (text_of w)) ofs ofs ws) (i + 1) long
        ∙ ap (λ n. places_from n ofs ofs ws) e

    room : range.0 + length (text_of v) + length (joined_from ofs ofs ws) ≤ 18446744073709551615
    room =
        let all = ap length (line ∙ ap (joined ofs) here ∙ joined_split [] ofs us v ws) in
        let one = length-append (upto [] ofs us) (text_of v ++ joined_from ofs ofs ws) in
        let two = length-append (text_of v) (joined_from ofs ofs ws) in
        omega (arith, all, one, two, c.start, short)

    places : new.ranges.items ≡ places_from 0 [] ofs (set vs i v)
    places =
        let tail : ℕ → List (Range ℕ) = λ n. record { start = n; end = n + length (text_of v) } ∷ places_from (n + length (text_of v)) ofs ofs ws in
        let e : range.0 ≡ 0 + front = omega (arith, c.start) in
        r.ranges.moves ofs ws behind room
        ∙ ap (λ rs. rs ++ tail range.0) front_ranges
        ∙ ap (λ n. places_from 0 [] ofs us ++ tail n) e
        ∙ sym (places_split 0 [] ofs us v ws)
        ∙ ap (places_from 0 [] ofs) (sym here)

-- a range is within the line, and has a kind
pub replaced_order : (ofs : List ℕ) (vs : List Val) (i : ℕ) (range : ℕ × ℕ) (old : Layout) → slice_get old.ranges.items i ≡ Some (range_of range) → IsLaidOut ofs vs old → range.0 ≤ range.1
replaced_order ofs vs i range old at l = let c = cut ofs vs i range (ap (λ rs. slice_get rs i) (sym l.ranges) ∙ at) in omega (arith, c.start, c.end)

pub replaced_within : (ofs : List ℕ) (vs : List Val) (i : ℕ) (range : ℕ × ℕ) (old : Layout) → slice_get old.ranges.items i ≡ Some (range_of range) → IsLaidOut ofs vs old → range.1 ≤ length old.text.items
unfolding joined
replaced_within ofs vs i range old at l =
    let c = cut ofs vs i range (ap (λ rs. slice_get rs i) (sym l.ranges) ∙ at) in
    let p = c.parts in
    let rest = joined_from ofs ofs p.ws in
    let all = ap length (l.text ∙ ap (joined_from [] ofs) p.is ∙ joined_split [] ofs p.us p.w p.ws) in
    let one = length-append (upto [] ofs p.us) (text_of p.w ++ rest) in
    let two = length-append (text_of p.w) rest in
    omega (arith, all, one, two, c.end)

pub replaced_kind : (ofs : List ℕ) (vs : List Val) (i : ℕ) (range : ℕ × ℕ) (old : Layout) → slice_get old.ranges.items i ≡ Some (range_of range) → IsLaidOut ofs vs old → i < length old.kinds.items
replaced_kind ofs vs i range old at l =
    let low = within old.ranges.items i (range_of range) at in
    let many = ap length l.ranges ∙ length_places 0 [] ofs vs in
    let kinds = ap length l.kinds ∙ length_map vs in
    omega (arith, low, many, kinds)
  where
    length_map : (us : List Val) → length (map kind_of us) ≡ length us
    length_map [] = refl
    length_map (u ∷ us) = ap suc (length_map us)

-- ---- a field after the last one assigned

abbrev next_before : List ℕ → List ℕ → List Val → List ℕ
next_before before ofs [] = before
next_before before ofs (u ∷ us) = ofs

next_same : (ofs : List ℕ) (vs : List Val) → next_before ofs ofs vs ≡ ofs
next_same ofs [] = refl
next_same ofs (v ∷ vs) = refl

next_at : (ofs : List ℕ) (vs : List Val) → next_before [] ofs vs ≡ before_at (length vs) ofs
next_at ofs [] = refl
next_at ofs (v ∷ vs) = refl

upto_all : (before ofs : List ℕ) (vs : List Val) → upto before ofs vs ≡ joined_from before ofs vs ++ next_before before ofs vs
upto_all before ofs [] = refl
upto_all before ofs (u ∷ us) =
    let rest = joined_from ofs ofs us in
    ap (λ s. before ++ (text_of u ++ s)) (upto_all ofs ofs us ∙ ap (λ s. rest ++ s) (next_same ofs us))
    ∙ ap (λ s. before ++ s) (sym (append_assoc (text_of u) rest ofs))
    ∙ sym (append_assoc before (text_of u ++ rest) ofs)

next_line : (ofs : List ℕ) (vs : List Val) (v : Val) → joined ofs vs ++ (before_at (length vs) ofs ++ text_of v) ≡ joined ofs (vs ++ v ∷ [])
unfolding joined
next_line ofs vs v =
    sym (append_assoc (joined_from [] ofs vs) (before_at (length vs) ofs) (text_of v))
    ∙ ap (λ b. (joined_from [] ofs vs ++ b) ++ text_of v) (sym (next_at ofs vs))
    ∙ ap (λ s. s ++ text_of v) (sym (upto_all [] ofs vs))
    ∙ ap (λ s. upto [] ofs vs ++ s) (sym (append-nil (text_of v)))
    ∙ sym (joined_split [] ofs vs v [])

pub added : (ofs : List ℕ) (vs : List Val) (v : Val) (old new : Layout) → IsLaidOut ofs vs old → Adds (before_at (length vs) ofs) v old new → IsLaidOut ofs (vs ++ v ∷ []) new
unfolding joined
added ofs vs v old new l a = record {
  text = a.text ∙ ap (λ s. s ++ (before_at (length vs) ofs ++ text_of v)) l.text ∙ next_line ofs vs v;
  ranges =
      a.range
      ∙ ap (λ rs. rs ++ tail (length old.text.items + length (before_at (length vs) ofs))) l.ranges
      ∙ ap (λ n. places_from 0 [] ofs vs ++ tail n) long
      ∙ sym (places_split 0 [] ofs vs v []);
  kinds = a.kind ∙ ap (λ ks. ks ++ kind_of v ∷ []) l.kinds ∙ sym (map_added vs);
}
  where
    tail : ℕ → List (Range ℕ)
    tail n = record { start = n; end = n + length (text_of v) } ∷ []

    long : length old.text.items + length (before_at (length vs) ofs) ≡ 0 + length (upto [] ofs vs)
    long =
        let line = ap length l.text in
        let all = ap length (upto_all [] ofs vs) in
        let parts = length-append (joined_from [] ofs vs) (next_before [] ofs vs) in
        let last = ap length (next_at ofs vs) in
        omega (arith, line, all, parts, last)

    map_added : (us : List Val) → map kind_of (us ++ v ∷ []) ≡ map kind_of us ++ kind_of v ∷ []
    map_added [] = refl
    map_added (u ∷ us) = ap (λ ks. kind_of u ∷ ks) (map_added us)

pub added_long : (ofs : List ℕ) (vs : List Val) (v : Val) (old : Layout) → IsLaidOut ofs vs old → length old.text.items + (length (before_at (length vs) ofs) + length (text_of v)) ≡ length (joined ofs (vs ++ v ∷ []))
added_long ofs vs v old l =
    let all = ap length (next_line ofs vs v) in
    let one = length-append (joined ofs vs) (before_at (length vs) ofs ++ text_of v) in
    let two = length-append (before_at (length vs) ofs) (text_of v) in
    let line = ap length l.text in
    omega (arith, all, one, two, line)

-- ---- the fields with one of them assigned

pub with_value_within : (n i : ℕ) (v : Val) (vs : List Val) → n ≡ i + 1 → i < length vs → with_value n v vs ≡ set vs i v
unfolding with_value
with_value_within n i v vs e low =
    let none : n - length vs ≡ 0 = omega arith in
    let at : n - 1 ≡ i = omega arith in
    ap (λ k. set (vs ++ replicate k Uninit) (n - 1) v) none ∙ ap (λ k. set (vs ++ []) k v) at ∙ ap (λ l. set l i v) (append-nil vs)

pub with_value_next : (n : ℕ) (v : Val) (vs : List Val) → n ≡ length vs + 1 → with_value n v vs ≡ vs ++ v ∷ []
unfolding with_value
with_value_next n v vs e =
    let one : n - length vs ≡ 1 = omega arith in
    let at : length vs ≡ n - 1 = omega arith in
    ap (λ k. set (vs ++ replicate k Uninit) (n - 1) v) one ∙ set_at vs Uninit [] v (n - 1) at
