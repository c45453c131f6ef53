-- Counts of segments, and the newlines in a part of a text.
use Rattle.std.proofs.Common.{◌≡◌, ℕ, zero, suc, ◌+◌, ◌-◌, ◌*◌, ◌≤◌, List, [], ◌∷◌, ◌++◌, length, take, drop, refl, sym, ap, ◌∙◌, arith, length-append}
use Rattle.std.proofs.lemmas.List.{length-drop, length-take, drop-drop, drop-take, take-take, take-append-le, drop-append-le}
use Rattle.std.proofs.lemmas.List.Sums.{sum_by-take-drop}
use Rattle.std.proofs.Math.Nat.{suc-mul}
use Rattle.std.specs.List.{count_by}
use Rattle.memchr.specs.Find.{is_byte}
use Rattle.pawk_records.specs.Records.{newline}
use Rattle.pawk_records.specs.Census.{CountsSegments, IsCensus}
use Rattle.pawk_records.specs.declared.census.TheConstants.{SEGMENT}

-- the newlines of a text
abbrev pub newlines : List ℕ → ℕ
newlines l = count_by (is_byte newline) l

pub newlines_parted : (n : ℕ) (l : List ℕ) → newlines (take n l) + newlines (drop n l) ≡ newlines l
newlines_parted n l = sum_by-take-drop _ l n

-- those of two parts that follow each other
pub newlines_joined : (a f b : ℕ) (l : List ℕ) → a ≤ f → f ≤ b
    → newlines (take (f - a) (drop a l)) + newlines (take (b - f) (drop f l)) ≡ newlines (take (b - a) (drop a l))
newlines_joined a f b l low high =
    let whole = take (b - a) (drop a l) in
    let sum : f - a + (b - f) ≡ b - a = omega arith in
    let at : a + (f - a) ≡ f = omega arith in
    let front : take (f - a) whole ≡ take (f - a) (drop a l) = take-take (f - a) (b - a) (drop a l) (omega arith) in
    let back : drop (f - a) whole ≡ take (b - f) (drop f l) =
    ap (λ n. drop (f - a) (take n (drop a l))) (sym sum) ∙ drop-take (f - a) (b - f) (drop a l)
    ∙ ap (take (b - f)) (drop-drop (f - a) a l ∙ ap (λ n. drop n l) at) in
    omega (arith, newlines_parted (f - a) whole, ap newlines front, ap newlines back)

module _ (size : ℕ) where
  nothing : 0 * size ≡ 0
  nothing = omega arith

  pub one_more : (k : ℕ) → suc k * size ≡ size + k * size
  one_more k = let s : suc k * size ≡ k * size + size = suc-mul k size in omega arith

  after_first : {X : Type 0} (k : ℕ) (l : List X) → drop (suc k * size) l ≡ drop (k * size) (drop size l)
  after_first k l = ap (λ n. drop n l) (one_more k) ∙ sym (drop-drop (k * size) size l)

  -- the segments lie within the text
  pub segments_fit : (counts l : List ℕ) → CountsSegments size counts l → length counts * size ≤ length l
  segments_fit [] l h = rw nothing (omega arith)
  segments_fit (c ∷ counts) l h =
      let later = segments_fit counts (drop size l) h.2 in
      omega (arith, later, length-drop size l, h.0, one_more (length counts))

  -- one more segment
  pub segment_more : (counts l : List ℕ) → CountsSegments size counts l → size ≤ length (drop (length counts * size) l)
      → CountsSegments size (counts ++ newlines (take size (drop (length counts * size) l)) ∷ []) l
  segment_more [] l h le = rw (ap (λ n. drop n l) nothing) ((rw (ap (λ n. drop n l) nothing) at le, refl, tt))
  segment_more (c ∷ counts) l h le =
      let at = after_first (length counts) l in
      let more = segment_more counts (drop size l) h.2 (rw at at le) in
      (h.0, h.1, rw at more)

  -- the segments of a text that goes on
  pub segments_before : (counts l m : List ℕ) → CountsSegments size counts l → CountsSegments size counts (l ++ m)
  segments_before [] l m h = tt
  segments_before (c ∷ counts) l m h = (
    omega (arith, length-append l m, h.0),
    h.1 ∙ ap newlines (sym (take-append-le size l m h.0)),
    rw (drop-append-le size l m h.0) (segments_before counts (drop size l) m h.2),
  )

  -- segments after others
  pub segments_after : (k : ℕ) (counts l : List ℕ) → CountsSegments size counts l → CountsSegments size (drop k counts) (drop (k * size) l)
  segments_after zero counts l h = rw (ap (λ n. drop n l) nothing) h
  segments_after (suc k) [] l h = tt
  segments_after (suc k) (c ∷ counts) l h = rw (after_first k l) (segments_after k counts (drop size l) h.2)

  -- segments of the begin of a text
  pub segments_within : (k m : ℕ) (counts l : List ℕ) → CountsSegments size counts l → k * size ≤ m → CountsSegments size (take k counts) (take m l)
  segments_within zero m counts l h le = tt
  segments_within (suc k) m [] l h le = tt
  segments_within (suc k) m (c ∷ counts) l h le =
      let more = one_more k in
      let at : size + (m - size) ≡ m = omega (arith, more) in
      let later = segments_within k (m - size) counts (drop size l) h.2 (omega (arith, more)) in (
        omega (arith, length-take m l, h.0, more),
        h.1 ∙ ap newlines (sym (take-take size m l (omega (arith, more)))),
        rw (ap (λ n. drop size (take n l)) (sym at) ∙ drop-take size (m - size) l) later,
      )

-- a text that goes on
pub census_before : (counts l m : List ℕ) → IsCensus counts l → IsCensus counts (l ++ m)
census_before counts l m h = segments_before SEGMENT counts l m h
