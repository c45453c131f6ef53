-- The records of mended blocks.
use Rattle.std.proofs.Common.{◌≡◌, inl, inr, ℕ, zero, suc, ◌+◌, ◌-◌, ◌<◌, ◌≤◌, Bool, true, false, cond, eqb, List, [], ◌∷◌, ◌++◌, length, take, drop, get_or, map, min, refl, ap, arith, sym, ◌∙◌, length-append}
use Rattle.std.proofs.lemmas.Bool.Decides.{eqb_tells, leb_tells}
use Rattle.std.proofs.lemmas.List.{append-nil, get_or_append_left, get_or-append-add, get_or-drop, length-drop, length-take, take-append-le, drop-append-le, take_all, drop_all}
use Rattle.std.proofs.Math.Seq.{take-append_seam, drop-append_seam, take-append-add, drop-append-add}
use Rattle.std.specs.List.{flat_map}
use Rattle.pawk_records.specs.Records.{records_by}
use Rattle.pawk_records.specs.Begins.{is_after, begins_at, begins_by, begins_within, places_where}
use Rattle.pawk_records.proofs.PlaceLemmas.{places_where-append, places_where-same}
use Rattle.pawk_records.proofs.BeginsLemmas.{is_after-is, begins_at-take, records_at}
use Rattle.pawk_records.specs.Blocks.{joined, EndsRecord, AreMended, parts, begins_along}
use Rattle.pawk_records.specs.Law.{BlocksLaw}

-- ---- a block and the bytes of later ones

-- a record ends with the block, where both hold bytes
abbrev pub Parts : List ℕ → List ℕ → List ℕ → Type 0
Parts rs b t = 0 < length b → 0 < length t → EndsRecord rs b

pub no_records : (rs : List ℕ) → records_by rs [] ≡ []
no_records [] = refl
no_records (e ∷ rs) = refl

pub records_parted : (rs b t : List ℕ) → Parts rs b t → records_by rs (b ++ t) ≡ records_by rs b ++ records_by rs t
records_parted rs [] t h = rw (no_records rs) refl
records_parted rs (x ∷ b) [] h = ap (records_by rs) (append-nil (x ∷ b)) ∙ sym (append-nil (records_by rs (x ∷ b))) ∙ ap (λ l. records_by rs (x ∷ b) ++ l) (sym (no_records rs))
records_parted [] (x ∷ b) (y ∷ t) h = absurd (h (omega arith) (omega arith))
records_parted (e ∷ rs) (x ∷ b) (y ∷ t) h =
    let s = (x ∷ b) ++ y ∷ t in
    let n = length (x ∷ b) in
    let front : take n s ≡ x ∷ b = take-append_seam (x ∷ b) (y ∷ t) in
    let back : drop n s ≡ y ∷ t = drop-append_seam (x ∷ b) (y ∷ t) in
    let last : get_or s (n - 1) 0 ≡ e = get_or_append_left (x ∷ b) (y ∷ t) 0 (n - 1) (omega arith) ∙ h (omega arith) (omega arith) in
    records_at (e ∷ rs) s n (is_after-is e s n (λ _. last)) (omega (arith, length-append (x ∷ b) (y ∷ t)))
    ∙ ap (λ l. records_by (e ∷ rs) l ++ records_by (e ∷ rs) (drop n s)) front
    ∙ ap (λ l. records_by (e ∷ rs) (x ∷ b) ++ records_by (e ∷ rs) l) back

-- in the block
pub begins_in_front : (rs b t : List ℕ) (p : ℕ) → p < length b → begins_at rs (b ++ t) p ≡ begins_at rs b p
begins_in_front rs b t p lt = sym (begins_at-take rs (b ++ t) (length b) p lt) ∙ ap (λ l. begins_at rs l p) (take-append_seam b t)

after_later : (e : ℕ) (s : List ℕ) (p : ℕ) → is_after e s (suc p) ≡ eqb (get_or s p 0) e
after_later e s p = elim (eqb_tells (suc p) 0) [
  | inl y ↦ absurd (omega (arith, y.1))
  | inr f ↦ rw f.0 (ap (λ k. eqb (get_or s k 0) e) (let z : suc p - 1 ≡ p = omega arith in z))
]

-- after it
pub begins_in_back : (rs b t : List ℕ) (q : ℕ) → Parts rs b t → q < length t → begins_at rs (b ++ t) (length b + q) ≡ begins_at rs t q
begins_in_back rs [] t q h lt = ap (begins_at rs t) (let z : 0 + q ≡ q = omega arith in z)
begins_in_back [] (x ∷ b) t q h lt = absurd (h (omega arith) (omega arith))
begins_in_back (e ∷ rs) (x ∷ b) t zero h lt =
    let s = (x ∷ b) ++ t in
    let n = length (x ∷ b) in
    let at : n + 0 ≡ n = omega arith in
    let last : get_or s (n - 1) 0 ≡ e = get_or_append_left (x ∷ b) t 0 (n - 1) (omega arith) ∙ h (omega arith) (omega arith) in
    ap (is_after e s) at ∙ is_after-is e s n (λ _. last)
begins_in_back (e ∷ rs) (x ∷ b) t (suc q) h lt =
    let s = (x ∷ b) ++ t in
    let n = length (x ∷ b) in
    let at : n + suc q ≡ suc (n + q) = omega arith in
    ap (is_after e s) at ∙ after_later e s (n + q)
    ∙ ap (λ v. eqb v e) (get_or-append-add (x ∷ b) t q 0) ∙ sym (after_later e t q)

-- ---- the law

pub records_of_blocks : (rs : List ℕ) (bs : List (List ℕ)) → AreMended rs bs → records_by rs (joined bs) ≡ flat_map (records_by rs) bs
records_of_blocks rs [] h = no_records rs
records_of_blocks rs (b ∷ bs) h = records_parted rs b (joined bs) h.0 ∙ ap (λ l. records_by rs b ++ l) (records_of_blocks rs bs h.1)

-- places that pass another test further on
shifted : (f g : ℕ → Bool) (m i n : ℕ) → ((k : ℕ) → i ≤ k → k < i + n → f (m + k) ≡ g k) → places_where f (m + i) n ≡ map (λ p. m + p) (places_where g i n)
shifted f g m i zero h = refl
shifted f g m i (suc n) h =
    let next : m + i + 1 ≡ m + (i + 1) = omega arith in
    let later : places_where f (m + i + 1) n ≡ map (λ p. m + p) (places_where g (i + 1) n) = ap (λ j. places_where f j n) next ∙ shifted f g m (i + 1) n (λ k low high. h k (omega arith) (omega arith)) in
    rw (h i (omega arith) (omega arith), later) (mapped (g i) (places_where g (i + 1) n))
  where
    mapped : (v : Bool) (l : List ℕ) → cond v ((m + i) ∷ map (λ p. m + p) l) (map (λ p. m + p) l) ≡ map (λ p. m + p) (cond v (i ∷ l) l)
    mapped true l = refl
    mapped false l = refl

map-map-add : (a b : ℕ) (l : List ℕ) → map (λ p. a + p) (map (λ p. b + p) l) ≡ map (λ p. a + b + p) l
map-map-add a b [] = refl
map-map-add a b (x ∷ l) =
    let s : a + (b + x) ≡ a + b + x = omega arith in
    ap (λ y. y ∷ map (λ p. a + p) (map (λ p. b + p) l)) s ∙ ap (λ m. (a + b + x) ∷ m) (map-map-add a b l)

map-nothing : (l : List ℕ) → map (λ p. 0 + p) l ≡ l
map-nothing [] = refl
map-nothing (x ∷ l) = let s : 0 + x ≡ x = omega arith in ap (λ y. y ∷ map (λ p. 0 + p) l) s ∙ ap (λ m. x ∷ m) (map-nothing l)

map-both : (a : ℕ) (k l : List ℕ) → map (λ p. a + p) (k ++ l) ≡ map (λ p. a + p) k ++ map (λ p. a + p) l
map-both a [] l = refl
map-both a (x ∷ k) l = ap (λ m. (a + x) ∷ m) (map-both a k l)

-- the begins of a block and of what follows it
pub begins_parted : (rs b t : List ℕ) → Parts rs b t → begins_by rs (b ++ t) ≡ begins_by rs b ++ map (λ p. length b + p) (begins_by rs t)
begins_parted rs b t h =
    let f = begins_at rs (b ++ t) in
    let m = length b in
    let z : 0 + m ≡ m + 0 = omega arith in
    ap (places_where f 0) (length-append b t)
    ∙ places_where-append f 0 m (length t)
    ∙ ap (λ l. l ++ places_where f (0 + m) (length t)) (places_where-same f (begins_at rs b) 0 m (λ k low lt. begins_in_front rs b t k (omega arith)))
    ∙ ap (λ l. begins_by rs b ++ l) (ap (λ j. places_where f j (length t)) z ∙ shifted f (begins_at rs t) m 0 (length t) (λ k low lt. begins_in_back rs b t k h (omega arith)))

pub begins_shifted : (rs : List ℕ) (from : ℕ) (bs : List (List ℕ)) → AreMended rs bs → map (λ p. from + p) (begins_by rs (joined bs)) ≡ begins_along rs from bs
begins_shifted rs from [] h = refl
begins_shifted rs from (b ∷ bs) h =
    ap (map (λ p. from + p)) (begins_parted rs b (joined bs) h.0)
    ∙ map-both from (begins_by rs b) (map (λ p. length b + p) (begins_by rs (joined bs)))
    ∙ ap (λ l. map (λ p. from + p) (begins_by rs b) ++ l) (map-map-add from (length b) (begins_by rs (joined bs)) ∙ begins_shifted rs (from + length b) bs h.1)

pub blocks_law_lem : (rs : List ℕ) (bs : List (List ℕ)) → AreMended rs bs → BlocksLaw rs bs
blocks_law_lem rs bs h = record {
  records = records_of_blocks rs bs h;
  begins = sym (map-nothing (begins_by rs (joined bs))) ∙ begins_shifted rs 0 bs h;
}

-- ---- a walk over the blocks, of which `later` come after the first

module _ (rs : List ℕ) (rest : List (List ℕ)) (b : List ℕ) (later : List (List ℕ)) (is : rest ≡ b ∷ later) where
  pub length_rest : length (joined rest) ≡ length b + length (joined later)
  length_rest = ap (λ l. length (joined l)) is ∙ length-append b (joined later)

  pub blocks_left : length rest ≡ 1 + length later
  blocks_left = ap length is ∙ (let z : length (b ∷ later) ≡ 1 + length later = omega arith in z)

  mended_both : AreMended rs rest → AreMended rs (b ∷ later)
  mended_both h = rw is at h

  pub mended_later : AreMended rs rest → AreMended rs later
  mended_later h = (mended_both h).1

  pub begins_first : (p : ℕ) → p < length b → begins_at rs (joined rest) p ≡ begins_at rs b p
  begins_first p lt = ap (λ l. begins_at rs (joined l) p) is ∙ begins_in_front rs b (joined later) p lt

  pub begins_after : AreMended rs rest → (q : ℕ) → q < length (joined later) → begins_at rs (joined rest) (length b + q) ≡ begins_at rs (joined later) q
  begins_after h q lt = ap (λ l. begins_at rs (joined l) (length b + q)) is ∙ begins_in_back rs b (joined later) q (mended_both h).0 lt

  pub begins_later : AreMended rs rest → (p : ℕ) → length b ≤ p → p < length (joined rest) → begins_at rs (joined rest) p ≡ begins_at rs (joined later) (p - length b)
  begins_later h p le lt =
      ap (begins_at rs (joined rest)) (let z : p ≡ length b + (p - length b) = omega arith in z)
      ∙ begins_after h (p - length b) (omega (arith, length_rest))

  pub count_both : AreMended rs rest → (i j : ℕ) → i ≤ j → j ≤ length (joined rest)
      → length (begins_within rs (joined rest) i j) ≡ length (begins_within rs b (min i (length b)) (min j (length b))) + length (begins_within rs (joined later) (i - length b) (j - length b))
  count_both h i j rising within =
      let f = begins_at rs (joined rest) in
      let m = length b in
      let g = begins_at rs (joined later) in
      elim (leb_tells m i) [
        | inl past ↦ (
            let n : j - i ≡ j - m - (i - m) = omega (arith, past.1) in
            let at : i ≡ m + (i - m) = omega (arith, past.1) in
            let none : min j m - min i m ≡ 0 = omega (arith, past.1) in
            let here : length (begins_within rs b (min i m) (min j m)) ≡ 0 = ap (λ k. length (places_where (begins_at rs b) (min i m) k)) none in
            let there : length (places_where f i (j - i)) ≡ length (places_where g (i - m) (j - m - (i - m))) =
            ap (λ k. length (places_where f i k)) n ∙ ap (λ k. length (places_where f k (j - m - (i - m)))) at
            ∙ ap length (shifted f g m (i - m) (j - m - (i - m)) (λ k low lt. begins_after h k (omega (arith, length_rest))))
            ∙ length-mapped m (places_where g (i - m) (j - m - (i - m))) in
            omega (arith, here, there))
        | inr low ↦ (
            let a = min j m - i in
            let c = j - m in
            let n : j - i ≡ a + c = omega (arith, low.1) in
            let first : min i m ≡ i = omega (arith, low.1) in
            let zero_left : i - m ≡ 0 = omega (arith, low.1) in
            let size : j - m - 0 ≡ c = omega arith in
            let here : places_where f i a ≡ begins_within rs b (min i m) (min j m) =
            places_where-same f (begins_at rs b) i a (λ k from lt. begins_first k (omega (arith, low.1)))
            ∙ ap (λ k. places_where (begins_at rs b) k (min j m - k)) (sym first) in
            let there : length (places_where f (i + a) c) ≡ length (begins_within rs (joined later) (i - m) (j - m)) =
            behind f g m (i + a) c (omega (arith, low.1)) (λ k lt. begins_after h k (omega (arith, length_rest)))
            ∙ ap (λ k. length (places_where g 0 k)) (sym size) ∙ ap (λ k. length (places_where g k (j - m - k))) (sym zero_left) in
            ap (λ k. length (places_where f i k)) n ∙ ap length (places_where-append f i a c)
            ∙ length-append (places_where f i a) (places_where f (i + a) c)
            ∙ ap (λ l. length l + length (places_where f (i + a) c)) here
            ∙ ap (λ k. length (begins_within rs b (min i m) (min j m)) + k) there)
      ]
    where
      length-mapped : (m : ℕ) (l : List ℕ) → length (map (λ p. m + p) l) ≡ length l
      length-mapped m [] = refl
      length-mapped m (x ∷ l) = let more = length-mapped m l in omega arith

      behind : (f g : ℕ → Bool) (m i c : ℕ) → (0 < c → i ≡ m) → ((k : ℕ) → k < c → f (m + k) ≡ g k) → length (places_where f i c) ≡ length (places_where g 0 c)
      behind f g m i zero at h = refl
      behind f g m i (suc c) at h =
          let z : i ≡ m + 0 = omega (arith, at (omega arith)) in
          ap (λ k. length (places_where f k (suc c))) z
          ∙ ap length (shifted f g m 0 (suc c) (λ k low lt. h k (omega arith))) ∙ length-mapped m (places_where g 0 (suc c))

-- ---- pieces of a range

pub joined_parts : (start size : ℕ) (bs : List (List ℕ)) → joined (parts start size bs) ≡ take size (drop start (joined bs))
joined_parts start size [] = empty start size
  where
    empty : (start size : ℕ) → joined [] ≡ take {A = ℕ} size (drop start [])
    empty zero zero = refl
    empty zero (suc size) = refl
    empty (suc start) zero = refl
    empty (suc start) (suc size) = refl
joined_parts start size (b ∷ bs) =
    let t = joined bs in
    let m = length b in
    let later = joined_parts (start - m) (size - (m - start)) bs in
    elim (leb_tells m start) [
      | inl past ↦ (
          let none : drop start b ≡ [] = drop_all start b past.1 in
          let at : m + (start - m) ≡ start = omega (arith, past.1) in
          let all : size - (m - start) ≡ size = omega (arith, past.1) in
          ap (λ l. take size l ++ joined (parts (start - m) (size - (m - start)) bs)) none ∙ ap (λ l. l ++ joined (parts (start - m) (size - (m - start)) bs)) (take_nothing size)
          ∙ later ∙ ap (λ n. take n (drop (start - m) t)) all
          ∙ ap (take size) (sym (drop-append-add b t (start - m))) ∙ ap (λ n. take size (drop n (b ++ t))) at)
      | inr low ↦ (
          let zero_left : start - m ≡ 0 = omega (arith, low.1) in
          let d = drop start b in
          let long : length d ≡ m - start = length-drop start b in
          later_of size d t (m - start) long (joined (parts (start - m) (size - (m - start)) bs)) (later ∙ ap (λ n. take (size - (m - start)) (drop n t)) zero_left)
          ∙ ap (take size) (sym (drop-append-le start b t (omega (arith, low.1)))))
    ]
  where
    take_nothing : (n : ℕ) → take {A = ℕ} n [] ≡ []
    take_nothing zero = refl
    take_nothing (suc n) = refl

    later_of : (size : ℕ) (d t : List ℕ) (m : ℕ) → length d ≡ m → (l : List ℕ) → l ≡ take (size - m) t → take size d ++ l ≡ take size (d ++ t)
    later_of size d t m long l is = elim (leb_tells m size) [
      | inl all ↦ (
          let at : length d + (size - m) ≡ size = omega (arith, all.1) in
          ap (λ x. x ++ l) (take_all size d (omega (arith, all.1))) ∙ ap (λ x. d ++ x) is
          ∙ sym (take-append-add d t (size - m)) ∙ ap (λ n. take n (d ++ t)) at)
      | inr part ↦ (
          let none : size - m ≡ 0 = omega (arith, part.1) in
          ap (λ x. take size d ++ x) (is ∙ ap (λ n. take n t) none) ∙ append-nil (take size d)
          ∙ sym (take-append-le size d t (omega (arith, part.1))))
    ]

-- a file's pieces from its beginning to its end
pub parts_all : (size : ℕ) (bs : List (List ℕ)) → length (joined bs) ≤ size → parts 0 size bs ≡ bs
parts_all size [] le = refl
parts_all size (b ∷ bs) le =
    let long = length-append b (joined bs) in
    let zero_left : 0 - length b ≡ 0 = omega arith in
    ap (λ l. l ∷ parts (0 - length b) (size - (length b - 0)) bs) (take_all size b (omega (arith, long)))
    ∙ ap (λ n. b ∷ parts n (size - (length b - 0)) bs) zero_left
    ∙ ap (λ l. b ∷ l) (parts_all (size - (length b - 0)) bs (omega (arith, long)))

length_piece : (size start : ℕ) (b : List ℕ) → length (take size (drop start b)) ≡ min size (length b - start)
length_piece size start b = length-take size (drop start b) ∙ ap (min size) (length-drop start b)

pub mended_parts : (rs : List ℕ) (start size : ℕ) (bs : List (List ℕ)) → AreMended rs bs → AreMended rs (parts start size bs)
mended_parts rs start size [] h = tt
mended_parts rs start size (b ∷ bs) h =
    (λ some more. piece rs start size b (joined bs) h.0 some (rw (joined_parts (start - length b) (size - (length b - start)) bs) at more), mended_parts rs (start - length b) (size - (length b - start)) bs h.1)
  where
    piece : (rs : List ℕ) (start size : ℕ) (b t : List ℕ) → Parts rs b t → 0 < length (take size (drop start b)) → 0 < length (take (size - (length b - start)) (drop (start - length b) t)) → EndsRecord rs (take size (drop start b))
    piece [] start size b t h some more = h (omega (arith, length_piece size start b)) (omega (arith, length_piece (size - (length b - start)) (start - length b) t))
    piece (e ∷ rs) start size b t h some more =
        let l = take size (drop start b) in
        let past = length_piece (size - (length b - start)) (start - length b) t in
        let here = length_piece size start b in
        let all : l ≡ drop start b = take_all size (drop start b) (omega (arith, length-drop start b, past)) in
        let n : length l - 1 ≡ length b - start - 1 = omega (arith, ap length all, length-drop start b) in
        let at : start + (length b - start - 1) ≡ length b - 1 = omega (arith, here) in
        ap (λ x. get_or x (length l - 1) 0) all ∙ ap (λ k. get_or (drop start b) k 0) n
        ∙ get_or-drop start b (length b - start - 1) 0 ∙ ap (λ k. get_or b k 0) at
        ∙ h (omega (arith, here)) (omega (arith, past))
