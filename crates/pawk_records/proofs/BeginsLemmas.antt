-- Where records begin: the places rise, there are as many as records, and the records may be parted there.
use Rattle.std.proofs.Common.{length-append, ◌≡◌, ◌≢◌, inl, inr, ℕ, zero, suc, ◌+◌, ◌-◌, ◌<◌, ◌≤◌, Bool, true, false, not, ◌&&◌, ◌||◌, cond, eqb, eq-eqb, List, [], ◌∷◌, ◌++◌, length, take, drop, get_or, refl, ap, arith, sym, ◌∙◌, subst}
use Rattle.std.proofs.lemmas.Bool.{eqb-true, false≢true}
use Rattle.std.proofs.lemmas.Bool.Decides.{eqb_tells}
use Rattle.std.proofs.lemmas.List.{get_or-drop, get_or-take, length-drop, length-take-le, drop-drop, take-take, drop-take, nil_from_length}
use Rattle.std.specs.List.{onto_first}
use Rattle.pawk_records.specs.Records.{newline, records, paragraphs, records_by}
use Rattle.pawk_records.specs.Begins.{is_after, begins_at, BeginsAt, begins_by, places_where, BeginsLaw}
use Rattle.pawk_records.proofs.PlaceLemmas.{places_where-none, places_where-rising, places_where-same, passes_at, contains_place}
use Rattle.pawk_records.proofs.LineLemmas.{records_parts}
use Rattle.pawk_records.proofs.RecordsLemmas.{length-records, some_records}
use Rattle.pawk_records.proofs.StandingLemmas.{lines_along, Stand, records_stand, paragraphs_stand, standing_at}
use Rattle.pawk_records.proofs.ParagraphLemmas.{begins_along, count_outside, IsGap, paragraphs_parts, some_paragraphs, length-paragraphs_from}

-- ---- what the test says

pub after_is : (b : ℕ) (s : List ℕ) (p : ℕ) → is_after b s p ≡ true → 0 < p → get_or s (p - 1) 0 ≡ b
after_is b s p h some = elim (eqb_tells p 0) [
  | inl y ↦ absurd (omega (arith, y.1))
  | inr n ↦ eqb-true _ b (rw n.0 at h)
]

pub is_after-is : (b : ℕ) (s : List ℕ) (p : ℕ) → (0 < p → get_or s (p - 1) 0 ≡ b) → is_after b s p ≡ true
is_after-is b s p h = elim (eqb_tells p 0) [
  | inl y ↦ rw y.0 refl
  | inr n ↦ rw n.0 (eq-eqb _ b (h (omega (arith, n.1))))
]

both : (a b : Bool) → (a && b) ≡ true → (a ≡ true) × (b ≡ true)
both true b h = (refl, h)
both false b h = absurd (false≢true h)

pub begins_line : (e : ℕ) (rs s : List ℕ) (p : ℕ) → BeginsAt (e ∷ rs) s p → 0 < p → get_or s (p - 1) 0 ≡ e
begins_line e rs s p h some = after_is e s p h some

pub begins_gap : (s : List ℕ) (p : ℕ) → BeginsAt [] s p → IsGap s p × (get_or s p 0 ≢ newline)
begins_gap s p h =
    let outer = both _ _ h in
    let inner = both _ _ outer.0 in
    ((after_is newline s p inner.0, λ two. ap (λ k. get_or s k 0) (let e : p - 2 ≡ p - 1 - 1 = omega arith in e) ∙ after_is newline s (p - 1) inner.1 (omega arith)), differs (get_or s p 0) outer.1)
  where
    differs : (b : ℕ) → not (eqb b newline) ≡ true → b ≢ newline
    differs b h is = false≢true (sym (ap not (eq-eqb b newline is)) ∙ h)

pub begins_after_gap : (s : List ℕ) (p : ℕ) → IsGap s p → get_or s p 0 ≢ newline → BeginsAt [] s p
begins_after_gap s p gap n =
    rw (
      is_after-is newline s p gap.0,
      is_after-is newline s (p - 1) (λ some. ap (λ k. get_or s k 0) (let e : p - 1 - 1 ≡ p - 2 = omega arith in e) ∙ gap.1 (omega arith)),
      other (get_or s p 0) n,
    ) refl
  where
    other : (b : ℕ) → b ≢ newline → eqb b newline ≡ false
    other b n = elim (eqb_tells b newline) [ inl y ↦ absurd (n y.1) | inr f ↦ f.0 ]

-- the test at the place after a byte
after_byte : (b : ℕ) (s : List ℕ) (at : ℕ) → is_after b s (at + 1) ≡ eqb (get_or s at 0) b
after_byte b s at = elim (eqb_tells (at + 1) 0) [
  | inl y ↦ absurd (omega (arith, y.1))
  | inr n ↦ rw n.0 (ap (λ k. eqb (get_or s k 0) b) (let e : at + 1 - 1 ≡ at = omega arith in e))
]

-- the byte at which a rest of the bytes begins, and the rest after it
first_is : (s : List ℕ) (at b : ℕ) (t : List ℕ) → drop at s ≡ b ∷ t → get_or s at 0 ≡ b
first_is s at b t left = ap (λ k. get_or s k 0) (let z : at ≡ at + 0 = omega arith in z) ∙ sym (get_or-drop at s 0 0) ∙ ap (λ l. get_or l 0 0) left

rest_is : (s : List ℕ) (at b : ℕ) (t : List ℕ) → drop at s ≡ b ∷ t → drop (at + 1) s ≡ t
rest_is s at b t left = sym (drop-drop 1 at s) ∙ ap (drop 1) left

-- ---- as many as records

length-onto_first : (b : ℕ) (ps : List (List ℕ)) → length (onto_first b ps) ≡ length ps - 1 + 1
length-onto_first b [] = refl
length-onto_first b (p ∷ ps) = omega arith

-- as many records begin as there are, but for one that began before the bytes
count_lines : (e : ℕ) (t : List ℕ) (at : ℕ) (fresh : Bool) → length (lines_along e at fresh t) ≡ cond fresh (length (records e t)) (length (records e t) - 1)
count_lines e [] at true = refl
count_lines e [] at false = refl
count_lines e (b ∷ t) at fresh =
    let later = count_lines e t (at + 1) (eqb b e) in
    let grown = length-onto_first b (records e t) in
    elim (eqb b e) as (λ v. length (lines_along e (at + 1) v t) ≡ cond v (length (records e t)) (length (records e t) - 1)
    → length (cond fresh (at ∷ lines_along e (at + 1) v t) (lines_along e (at + 1) v t))
    ≡ cond fresh (length (cond v ([] ∷ records e t) (onto_first b (records e t)))) (length (cond v ([] ∷ records e t) (onto_first b (records e t))) - 1)) [
      | true ↦ (λ h. elim fresh as (λ f. length (cond f (at ∷ lines_along e (at + 1) true t) (lines_along e (at + 1) true t)) ≡ cond f (length ([] ∷ records e t)) (length ([] ∷ records e t) - 1)) [ true ↦ omega arith | false ↦ omega arith ])
      | false ↦ (λ h. elim fresh as (λ f. length (cond f (at ∷ lines_along e (at + 1) false t) (lines_along e (at + 1) false t)) ≡ cond f (length (onto_first b (records e t))) (length (onto_first b (records e t)) - 1)) [ true ↦ omega arith | false ↦ omega arith ])
    ] later

along_lines : (e : ℕ) (rs s t : List ℕ) (at : ℕ) → drop at s ≡ t → places_where (begins_at (e ∷ rs) s) at (length t) ≡ lines_along e at (is_after e s at) t
along_lines e rs s [] at left = refl
along_lines e rs s (b ∷ t) at left =
    let flag : is_after e s (at + 1) ≡ eqb b e = after_byte e s at ∙ ap (λ x. eqb x e) (first_is s at b t left) in
    let later : places_where (begins_at (e ∷ rs) s) (at + 1) (length t) ≡ lines_along e (at + 1) (eqb b e) t =
    along_lines e rs s t (at + 1) (rest_is s at b t left) ∙ ap (λ f. lines_along e (at + 1) f t) flag in
    ap (λ l. cond (is_after e s at) (at ∷ l) l) later

along_paragraphs : (s t : List ℕ) (at : ℕ) → drop at s ≡ t → places_where (begins_at [] s) at (length t) ≡ begins_along at (is_after newline s at) (is_after newline s at && is_after newline s (at - 1)) t
along_paragraphs s [] at left = refl
along_paragraphs s (b ∷ t) at left =
    let here = first_is s at b t left in
    let one : is_after newline s (at + 1) ≡ eqb b newline = after_byte newline s at ∙ ap (λ x. eqb x newline) here in
    let two : is_after newline s (at + 1 - 1) ≡ is_after newline s at = ap (is_after newline s) (let e : at + 1 - 1 ≡ at = omega arith in e) in
    let later : places_where (begins_at [] s) (at + 1) (length t) ≡ begins_along (at + 1) (eqb b newline) (eqb b newline && is_after newline s at) t =
    along_paragraphs s t (at + 1) (rest_is s at b t left)
    ∙ ap (λ f. begins_along (at + 1) f (f && is_after newline s (at + 1 - 1)) t) one
    ∙ ap (λ f. begins_along (at + 1) (eqb b newline) (eqb b newline && f) t) two in
    let test : (is_after newline s at && is_after newline s (at - 1)) && not (eqb (get_or s at 0) newline) ≡ (is_after newline s at && is_after newline s (at - 1)) && not (eqb b newline) =
    ap (λ x. (is_after newline s at && is_after newline s (at - 1)) && not (eqb x newline)) here in
    ap (λ v. cond v (at ∷ places_where (begins_at [] s) (at + 1) (length t)) (places_where (begins_at [] s) (at + 1) (length t))) test
    ∙ ap (λ l. cond ((is_after newline s at && is_after newline s (at - 1)) && not (eqb b newline)) (at ∷ l) l) later

pub length-begins_by : (rs s : List ℕ) → length (begins_by rs s) ≡ length (records_by rs s)
length-begins_by [] s = ap length (along_paragraphs s s 0 refl) ∙ sym (count_outside s 0)
length-begins_by (e ∷ rs) s = ap length (along_lines e rs s s 0 refl) ∙ count_lines e s 0 true

all_stand : (rs s : List ℕ) → Stand s (begins_by rs s) (records_by rs s)
all_stand [] s = subst (λ ps. Stand s ps (paragraphs s)) (sym (along_paragraphs s s 0 refl)) (paragraphs_stand s)
all_stand (e ∷ rs) s = subst (λ ps. Stand s ps (records e s)) (sym (along_lines e rs s s 0 refl)) (records_stand e s)

pub begins_law_lem : (rs s : List ℕ) → BeginsLaw rs s
begins_law_lem rs s = record {
  just = λ p. (
    λ there. (let is = passes_at (begins_at rs s) 0 (length s) there.0 p there.1 in let P : ℕ → Type 0 = λ q. (q < length s) × BeginsAt rs s q in subst P there.2 (omega (arith, is.1), is.2)),
    λ is. contains_place (begins_at rs s) 0 (length s) p (omega arith) (omega (arith, is.0)) is.1,
  );
  rising = places_where-rising (begins_at rs s) 0 (length s);
  count = length-begins_by rs s;
  standing = λ k lt. standing_at s (begins_by rs s) (records_by rs s) k (all_stand rs s) lt;
}

-- ---- parted where a record begins

pub records_at : (rs s : List ℕ) (p : ℕ) → BeginsAt rs s p → p ≤ length s → records_by rs s ≡ records_by rs (take p s) ++ records_by rs (drop p s)
records_at [] s p h le = paragraphs_parts s p le (begins_gap s p h).0
records_at (e ∷ rs) s zero h le = refl
records_at (e ∷ rs) s (suc p) h le = records_parts e s (suc p) (inr (omega arith, le, begins_line e rs s (suc p) h (omega arith)))

pub begins_in_rest : (rs s : List ℕ) (p q : ℕ) → BeginsAt rs s q → p ≤ q → BeginsAt rs (drop p s) (q - p)
begins_in_rest [] s p q h le =
    let g = begins_gap s q h in
    let at : (i : ℕ) → i + p ≤ q → get_or (drop p s) (q - p - i) 0 ≡ get_or s (q - i) 0 =
    λ i low. get_or-drop p s (q - p - i) 0 ∙ ap (λ k. get_or s k 0) (let e : p + (q - p - i) ≡ q - i = omega arith in e) in
    begins_after_gap (drop p s) (q - p)
    (λ some. at 1 (omega arith) ∙ g.0.0 (omega arith), λ two. at 2 (omega arith) ∙ g.0.1 (omega arith))
    (λ is. g.1 (sym (get_or-drop p s (q - p) 0 ∙ ap (λ k. get_or s k 0) (let e : p + (q - p) ≡ q = omega arith in e)) ∙ is))
begins_in_rest (e ∷ rs) s p q h le =
    is_after-is e (drop p s) (q - p) (λ some. get_or-drop p s (q - p - 1) 0 ∙ ap (λ k. get_or s k 0) (let i : p + (q - p - 1) ≡ q - 1 = omega arith in i) ∙ begins_line e rs s q h (omega arith))

pub begins_in_front : (rs s : List ℕ) (p q : ℕ) → BeginsAt rs s p → p < q → BeginsAt rs (take q s) p
begins_in_front [] s p q h lt =
    let g = begins_gap s p h in
    begins_after_gap (take q s) p
    (λ some. get_or-take q s (p - 1) 0 (omega arith) ∙ g.0.0 some, λ two. get_or-take q s (p - 2) 0 (omega arith) ∙ g.0.1 two)
    (λ is. g.1 (sym (get_or-take q s p 0 lt) ∙ is))
begins_in_front (e ∷ rs) s p q h lt =
    is_after-is e (take q s) p (λ some. get_or-take q s (p - 1) 0 (omega arith) ∙ begins_line e rs s p h some)

-- from where one begins on there is a record
pub some_records_at : (rs s : List ℕ) (p q : ℕ) → BeginsAt rs s p → p < q → q ≤ length s → 0 < length (records_by rs (take (q - p) (drop p s)))
some_records_at [] s p q h lt le =
    let long : length (take (q - p) (drop p s)) ≡ q - p = length-take-le (q - p) (drop p s) (omega (arith, length-drop p s)) in
    let first : get_or (take (q - p) (drop p s)) 0 0 ≡ get_or s p 0 = get_or-take (q - p) (drop p s) 0 0 (omega arith) ∙ get_or-drop p s 0 0 ∙ ap (λ k. get_or s k 0) (let e : p + 0 ≡ p = omega arith in e) in
    some_paragraphs (take (q - p) (drop p s)) (omega (arith, long)) (λ is. (begins_gap s p h).1 (sym first ∙ is))
some_records_at (e ∷ rs) s p q h lt le =
    let long : length (take (q - p) (drop p s)) ≡ q - p = length-take-le (q - p) (drop p s) (omega (arith, length-drop p s)) in
    some_records e (take (q - p) (drop p s)) (omega (arith, long))

pub length-records_by : (rs s : List ℕ) → length (records_by rs s) ≤ length s
length-records_by [] s = omega (arith, length-paragraphs_from false s)
length-records_by (e ∷ rs) s = length-records e s

-- whether a record begins at a place rests on the bytes up to it
pub begins_at-take : (rs s : List ℕ) (q k : ℕ) → k < q → begins_at rs (take q s) k ≡ begins_at rs s k
begins_at-take rs s q k lt = same rs
  where
    before : (b k : ℕ) → k < q → is_after b (take q s) k ≡ is_after b s k
    before b k lt = ap (λ x. eqb k 0 || eqb x b) (get_or-take q s (k - 1) 0 (omega arith))

    same : (rs : List ℕ) → begins_at rs (take q s) k ≡ begins_at rs s k
    same [] =
        ap (λ v. v && is_after newline (take q s) (k - 1) && not (eqb (get_or (take q s) k 0) newline)) (before newline k lt)
        ∙ ap (λ v. is_after newline s k && v && not (eqb (get_or (take q s) k 0) newline)) (before newline (k - 1) (omega arith))
        ∙ ap (λ b. is_after newline s k && is_after newline s (k - 1) && not (eqb b newline)) (get_or-take q s k 0 lt)
    same (e ∷ rs) = before e k lt

-- as many records are before a place as begin before it
pub begins_before : (rs s : List ℕ) (q : ℕ) → q ≤ length s → length (records_by rs (take q s)) ≡ length (places_where (begins_at rs s) 0 q)
begins_before rs s q le =
    sym (length-begins_by rs (take q s))
    ∙ ap (λ n. length (places_where (begins_at rs (take q s)) 0 n)) (length-take-le q s le)
    ∙ ap length (places_where-same (begins_at rs (take q s)) (begins_at rs s) 0 q (λ k low lt. begins_at-take rs s q k (omega arith)))

-- from where one begins on, the records up to a later place are those before it and those between
pub length-records_part : (rs s : List ℕ) (p n : ℕ) → BeginsAt rs s p → 0 < n → p + n ≤ length s
    → length (records_by rs (take (p + n) s)) ≡ length (records_by rs (take p s)) + length (records_by rs (take n (drop p s)))
length-records_part rs s p n h some le =
    let t = take (p + n) s in
    let long : length t ≡ p + n = length-take-le (p + n) s le in
    ap length (records_at rs t p (begins_in_front rs s p (p + n) h (omega arith)) (omega (arith, long)))
    ∙ length-append (records_by rs (take p t)) (records_by rs (drop p t))
    ∙ ap (λ l. length (records_by rs l) + length (records_by rs (drop p t))) (take-take p (p + n) s (omega arith))
    ∙ ap (λ l. length (records_by rs (take p s)) + length (records_by rs l)) (drop-take p n s)

-- no record is before a place up to which none begins
pub none_before : (rs s : List ℕ) (p : ℕ) → p ≤ length s → ((k : ℕ) → k < p → BeginsAt rs s k → ⊥) → records_by rs (take p s) ≡ []
none_before rs s p le none =
    nil_from_length (records_by rs (take p s))
    (begins_before rs s p le ∙ ap length (places_where-none (begins_at rs s) 0 p (λ k low lt. fails (begins_at rs s k) (none k (omega arith)))))
  where
    fails : (v : Bool) → (v ≡ true → ⊥) → v ≡ false
    fails true h = absurd (h refl)
    fails false h = refl
