-- Fields that are laid out after each other.
use Rattle.std.proofs.Common.{◌≡◌, ℕ, zero, suc, ◌+◌, ◌-◌, ◌≤◌, arith, List, [], ◌∷◌, ◌++◌, length, map, drop, take, Some, refl, sym, ap, ◌∙◌, append_assoc, append-nil, length-append}
use Rattle.std.proofs.Math.Seq.{take-append_seam}
use Rattle.std.proofs.lemmas.List.{drop_at}
use Rattle.std.specs.Prelude.{slice_get, slice_range}
use Rattle.std.specs.declared.ops.Range.{Range}
use Rattle.pawk_value.specs.Conversion.{text_of}
use Rattle.pawk_value.specs.Value.{Val, Uninit, Num, Text, Maybe}
use Rattle.pawk_record.specs.declared.layout.Layout.{Layout}
use Rattle.pawk_record.specs.Lines.{Adds, IsLaidOut, IsLaidOutTo, before_at, kind_of, places_from, value_of, values}
use Rattle.pawk_record.specs.Records.{joined, joined_from}

-- the range of a value's text after n bytes
abbrev range_after : ℕ → List ℕ → Val → Range ℕ
range_after at before v = record { start = at + length before; end = at + length before + length (text_of v) }

drop_get : (vs : List Val) (i : ℕ) (v : Val) → slice_get vs i ≡ Some v → drop i vs ≡ v ∷ drop (i + 1) vs
drop_get [] i v h = cc
drop_get (x ∷ vs) zero v h = let same : x ≡ v = cc in ap (λ y. y ∷ vs) same
drop_get (x ∷ vs) (suc i) v h = let e : suc i + 1 ≡ suc (i + 1) = omega arith in drop_get vs i v h ∙ ap (λ k. v ∷ drop k (x ∷ vs)) (sym e)

drop_past : (vs : List Val) (i : ℕ) → length vs ≤ i → drop i vs ≡ []
drop_past [] zero h = refl
drop_past [] (suc i) h = refl
drop_past (x ∷ vs) zero h = absurd (omega arith)
drop_past (x ∷ vs) (suc i) h = drop_past vs i (omega arith)

before_later : (i : ℕ) (ofs : List ℕ) → before_at (i + 1) ofs ≡ ofs
before_later i ofs = let e : i + 1 ≡ suc i = omega arith in ap (λ k. before_at k ofs) e

pub laid_start : (ofs : List ℕ) (vs : List Val) (layout : Layout) → layout.text.items ≡ [] → layout.ranges.items ≡ [] → layout.kinds.items ≡ [] → IsLaidOutTo ofs vs 0 layout
unfolding joined
laid_start ofs vs layout t r k = record {
  text = ap (λ s. s ++ joined_from [] ofs vs) t;
  ranges = ap (λ s. s ++ places_from (length layout.text.items) [] ofs vs) r ∙ ap (λ s. places_from (length s) [] ofs vs) t;
  kinds = ap (λ s. s ++ map kind_of vs) k;
}

pub laid_more : (ofs : List ℕ) (vs : List Val) (i : ℕ) (v : Val) (old new : Layout) → slice_get vs i ≡ Some v → IsLaidOutTo ofs vs i old → Adds (before_at i ofs) v old new → IsLaidOutTo ofs vs (i + 1) new
laid_more ofs vs i v old new at l a = record {
  text =
      ap (λ b. new.text.items ++ joined_from b ofs rest) later
      ∙ ap (λ s. s ++ joined_from ofs ofs rest) a.text
      ∙ append_assoc old.text.items (before ++ text_of v) (joined_from ofs ofs rest)
      ∙ ap (λ s. old.text.items ++ s) (append_assoc before (text_of v) (joined_from ofs ofs rest))
      ∙ ap (λ us. old.text.items ++ joined_from before ofs us) (sym cut)
      ∙ l.text;
  ranges =
      ap (λ b. new.ranges.items ++ places_from (length new.text.items) b ofs rest) later
      ∙ ap (λ n. new.ranges.items ++ places_from n ofs ofs rest) long
      ∙ ap (λ s. s ++ places_from end ofs ofs rest) a.range
      ∙ append_assoc old.ranges.items (range_after (length old.text.items) before v ∷ []) (places_from end ofs ofs rest)
      ∙ ap (λ us. old.ranges.items ++ places_from (length old.text.items) before ofs us) (sym cut)
      ∙ l.ranges;
  kinds =
      ap (λ s. s ++ map kind_of rest) a.kind
      ∙ append_assoc old.kinds.items (kind_of v ∷ []) (map kind_of rest)
      ∙ ap (λ us. old.kinds.items ++ map kind_of us) (sym cut)
      ∙ l.kinds;
}
  where
    before : List ℕ
    before = before_at i ofs

    rest : List Val
    rest = drop (i + 1) vs

    end : ℕ
    end = length old.text.items + length before + length (text_of v)

    later : before_at (i + 1) ofs ≡ ofs
    later = before_later i ofs

    cut : drop i vs ≡ v ∷ rest
    cut = drop_get vs i v at

    long : length new.text.items ≡ end
    long = ap length a.text ∙ length-append old.text.items (before ++ text_of v) ∙ ap (λ n. length old.text.items + n) (length-append before (text_of v)) ∙ (omega arith)

pub laid_end : (ofs : List ℕ) (vs : List Val) (i : ℕ) (layout : Layout) → length vs ≤ i → IsLaidOutTo ofs vs i layout → IsLaidOut ofs vs layout
laid_end ofs vs i layout over l = record {
  text = sym (append-nil layout.text.items) ∙ ap (λ us. layout.text.items ++ joined_from (before_at i ofs) ofs us) (sym none) ∙ l.text;
  ranges = sym (append-nil layout.ranges.items) ∙ ap (λ us. layout.ranges.items ++ places_from (length layout.text.items) (before_at i ofs) ofs us) (sym none) ∙ l.ranges;
  kinds = sym (append-nil layout.kinds.items) ∙ ap (λ us. layout.kinds.items ++ map kind_of us) (sym none) ∙ l.kinds;
}
  where
    none : drop i vs ≡ []
    none = drop_past vs i over

-- what is laid out is no longer than all
pub laid_short : (ofs : List ℕ) (vs : List Val) (i : ℕ) (v : Val) (layout : Layout) → slice_get vs i ≡ Some v → IsLaidOutTo ofs vs i layout → length layout.text.items + (length (before_at i ofs) + length (text_of v)) ≤ length (joined ofs vs)
laid_short ofs vs i v layout at l =
    let cut = drop_get vs i v at in
    let rest = joined_from ofs ofs (drop (i + 1) vs) in
    let whole : layout.text.items ++ (before_at i ofs ++ (text_of v ++ rest)) ≡ joined ofs vs = ap (λ us. layout.text.items ++ joined_from (before_at i ofs) ofs us) (sym cut) ∙ l.text in
    let one = length-append layout.text.items (before_at i ofs ++ (text_of v ++ rest)) in
    let two = length-append (before_at i ofs) (text_of v ++ rest) in
    let three = length-append (text_of v) rest in
    let all = ap length whole in
    omega arith

-- ---- the values of a line that was laid out

same_value : (v : Val) → value_of (kind_of v) (text_of v) ≡ v
same_value Uninit = refl
same_value (Num z) = refl
same_value (Text s) = refl
same_value (Maybe s) = refl

middle : (front t rest : List ℕ) (n : ℕ) → n ≡ length front → slice_range (front ++ (t ++ rest)) n (n + length t) ≡ t
middle front t rest n h =
    let size : n + length t - n ≡ length t = omega arith in
    ap (λ k. take k (drop n (front ++ (t ++ rest)))) size ∙ ap (take (length t)) (drop_at front (t ++ rest) n (sym h)) ∙ take-append_seam t rest

values_after : (vs : List Val) (front before ofs : List ℕ) (at : ℕ) → at ≡ length front → values (front ++ joined_from before ofs vs) (places_from at before ofs vs) (map kind_of vs) ≡ vs
unfolding values
values_after [] front before ofs at h = refl
values_after (v ∷ vs) front before ofs at h =
    ap (λ bytes. value_of (kind_of v) bytes ∷ values text later (map kind_of vs)) here
    ∙ ap (λ x. x ∷ values text later (map kind_of vs)) (same_value v)
    ∙ ap (λ us. v ∷ us) (ap (λ s. values s later (map kind_of vs)) whole ∙ values_after vs (front ++ (before ++ text_of v)) ofs ofs end long)
  where
    rest : List ℕ
    rest = joined_from ofs ofs vs

    text : List ℕ
    text = front ++ (before ++ (text_of v ++ rest))

    end : ℕ
    end = at + length before + length (text_of v)

    later : List (Range ℕ)
    later = places_from end ofs ofs vs

    here : slice_range text (at + length before) end ≡ text_of v
    here =
        let e : at + length before ≡ length (front ++ before) = omega (arith, length-append front before) in
        ap (λ s. slice_range s (at + length before) end) (sym (append_assoc front before (text_of v ++ rest))) ∙ middle (front ++ before) (text_of v) rest (at + length before) e

    whole : text ≡ (front ++ (before ++ text_of v)) ++ rest
    whole = ap (λ s. front ++ s) (sym (append_assoc before (text_of v) rest)) ∙ sym (append_assoc front (before ++ text_of v) rest)

    long : end ≡ length (front ++ (before ++ text_of v))
    long = omega (arith, length-append front (before ++ text_of v), length-append before (text_of v))

-- they are the values that were laid out
pub laid_values : (ofs : List ℕ) (vs : List Val) (layout : Layout) → IsLaidOut ofs vs layout → values layout.text.items layout.ranges.items layout.kinds.items ≡ vs
unfolding joined
laid_values ofs vs layout l =
    ap (λ s. values s layout.ranges.items layout.kinds.items) l.text
    ∙ ap (λ rs. values (joined ofs vs) rs layout.kinds.items) l.ranges
    ∙ ap (λ ks. values (joined ofs vs) (places_from 0 [] ofs vs) ks) l.kinds
    ∙ values_after vs [] [] ofs 0 refl
