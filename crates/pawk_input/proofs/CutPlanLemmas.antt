-- Cuts that are not at fault rise in each file, and a file's cuts are the first ones left.
use Rattle.std.proofs.Common.{◌≡◌, ◌≢◌, ◌⊎◌, inl, inr, ℕ, zero, suc, ◌+◌, ◌-◌, ◌<◌, ◌≤◌, Bool, true, false, cond, ◌||◌, ◌&&◌, eqb, leb, ltb, List, [], ◌∷◌, map, one-add, length, take, drop, Option, None, Some, refl, ap, arith, sym, ◌∙◌, subst}
use Rattle.std.proofs.lemmas.Bool.{false≢true}
use Rattle.std.proofs.lemmas.Bool.Decides.{eqb_tells, leb_tells, nat_tests}
use Rattle.std.specs.List.{prefix_len, list_any}
use Rattle.pawk_input.specs.declared.cutting.CutRefusal.{CutRefusal}
use Rattle.pawk_input.specs.declared.cutting.CutRefusal.TheVariants.{NoRecord, NotRising}
use Rattle.pawk_records.specs.Begins.{BeginsAt, begins_at, begins_by, places_where}
use Rattle.pawk_input.specs.Input.{File, file_at}
use Rattle.pawk_input.specs.Plan.{IsBeginOrEnd, Rises, RisesFrom, begins_record, is_after, cut_fault, cut_fault_from, cut_places, offsets}
use Rattle.pawk_input.proofs.PlanLemmas.{Picked, first_place}
use Rattle.pawk_input.proofs.SizeLemmas.{begins_first}

-- the cuts lie in files from `file` on, and no cut lies in a file before that of the cut before it
abbrev pub FilesRise : ℕ → List (ℕ × ℕ) → Type 0
FilesRise file [] = Unit {0}
FilesRise file (cut ∷ cuts) = (file ≤ cut.0) × FilesRise cut.0 cuts

abbrev pub is_here : ℕ → ℕ × ℕ → Bool
is_here file cut = eqb cut.0 file

other : (a b : ℕ) → a ≢ b → eqb a b ≡ false
other a b n = elim (eqb_tells a b) [ inl y ↦ absurd (n y.1) | inr f ↦ f.0 ]

-- ---- the cuts of one file among those left

-- no cut lies in a file before those left
pub offsets_none : (k file : ℕ) (cuts : List (ℕ × ℕ)) → FilesRise file cuts → k < file → offsets k cuts ≡ []
offsets_none k file [] h lt = refl
offsets_none k file (cut ∷ cuts) h lt = rw (other cut.0 k (omega (arith, h.0))) (offsets_none k cut.0 cuts h.1 (omega (arith, h.0)))

-- once the first ones are passed, the others lie in later files
pub FilesRise-later : (file : ℕ) (cuts : List (ℕ × ℕ)) → FilesRise file cuts → FilesRise (file + 1) (drop (prefix_len (is_here file) cuts) cuts)
FilesRise-later file [] h = tt
FilesRise-later file (cut ∷ cuts) h = elim (eqb_tells cut.0 file) [
  | inl here ↦ rw (here.0, one-add) (FilesRise-later file cuts (subst (λ n. FilesRise n cuts) here.1 h.1))
  | inr there ↦ rw there.0 (omega (arith, h.0, there.1), h.1)
]

-- the first ones are all of this file
pub offsets_first : (file : ℕ) (cuts : List (ℕ × ℕ)) → FilesRise file cuts
    → offsets file (take (prefix_len (is_here file) cuts) cuts) ≡ map (λ cut. cut.1) (take (prefix_len (is_here file) cuts) cuts)
offsets_first file [] h = refl
offsets_first file (cut ∷ cuts) h = elim (eqb_tells cut.0 file) [
  | inl here ↦ rw (here.0, one-add) (rw here.0 (ap (λ l. cut.1 ∷ l) (offsets_first file cuts (subst (λ n. FilesRise n cuts) here.1 h.1))))
  | inr there ↦ rw there.0 refl
]

pub offsets_here : (file : ℕ) (cuts : List (ℕ × ℕ)) → FilesRise file cuts → offsets file cuts ≡ offsets file (take (prefix_len (is_here file) cuts) cuts)
offsets_here file [] h = refl
offsets_here file (cut ∷ cuts) h = elim (eqb_tells cut.0 file) [
  | inl here ↦ rw (here.0, one-add) (rw here.0 (ap (λ l. cut.1 ∷ l) (offsets_here file cuts (subst (λ n. FilesRise n cuts) here.1 h.1))))
  | inr there ↦ rw there.0 (offsets_none file cut.0 cuts h.1 (omega (arith, h.0, there.1)))
]

-- those of later files are among the others
pub offsets_later : (k file : ℕ) (cuts : List (ℕ × ℕ)) → file < k → offsets k cuts ≡ offsets k (drop (prefix_len (is_here file) cuts) cuts)
offsets_later k file [] lt = refl
offsets_later k file (cut ∷ cuts) lt = elim (eqb_tells cut.0 file) [
  | inl here ↦ rw (here.0, one-add, other cut.0 k (omega (arith, here.1))) (offsets_later k file cuts lt)
  | inr there ↦ rw there.0 refl
]

-- ---- cuts that are not at fault

-- a cut that is not at fault: a record after its file's first begins there, and it comes after the cut
-- before it
parts_of : (b : Bool) (v : Bool) (rest : Option CutRefusal) → cond b (cond v rest (Some NotRising)) (Some NoRecord) ≡ None → (b ≡ true) × (v ≡ true) × (rest ≡ None)
parts_of true true rest h = (refl, refl, h)
parts_of true false rest h = cc
parts_of false v rest h = cc

after_test : (a b c d : ℕ) → (ltb a c || (eqb a c && ltb b d)) ≡ true → (a < c) ⊎ ((a ≡ c) × (b < d))
after_test a b c d h = grind (arith, nat_tests)

-- a place before or after them is not among the places that pass a test
pub no_place : (test : ℕ → Bool) (i n q : ℕ) → (q < i) ⊎ (i + n ≤ q) → list_any (eqb q) (places_where test i n) ≡ false
no_place test i zero q h = refl
no_place test i (suc n) q h =
    let later : list_any (eqb q) (places_where test (i + 1) n) ≡ false = no_place test (i + 1) n q (elim h [ inl lt ↦ inl (omega (arith, lt)) | inr le ↦ inr (omega (arith, le)) ]) in
    let n_is : q ≢ i = elim h [ inl lt ↦ (λ e. absurd (omega (arith, lt, e))) | inr le ↦ (λ e. absurd (omega (arith, le, e))) ] in
    elim (test i) as (λ v. list_any (eqb q) (cond v (i ∷ places_where test (i + 1) n) (places_where test (i + 1) n)) ≡ false) [
      | true ↦ rw (other q i n_is) later
      | false ↦ later
    ]

-- whether a place is among those that pass a test
pub any_place : (test : ℕ → Bool) (i n q : ℕ) → i ≤ q → q < i + n → list_any (eqb q) (places_where test i n) ≡ test q
any_place test i zero q le lt = absurd (omega arith)
any_place test i (suc n) q le lt = elim (eqb_tells q i) [
  | inl here ↦ elim (test i) as (λ v. (test i ≡ v) → list_any (eqb q) (cond v (i ∷ places_where test (i + 1) n) (places_where test (i + 1) n)) ≡ test q) [
    | true ↦ (λ e. rw here.0 (sym (ap test here.1 ∙ e)))
    | false ↦ (λ e. no_place test (i + 1) n q (inl (omega (arith, here.1))) ∙ sym (ap test here.1 ∙ e))
  ] refl
  | inr away ↦ (let later : list_any (eqb q) (places_where test (i + 1) n) ≡ test q = any_place test (i + 1) n q (omega (arith, away.1)) (omega arith) in
      elim (test i) as (λ v. list_any (eqb q) (cond v (i ∷ places_where test (i + 1) n) (places_where test (i + 1) n)) ≡ test q) [
        | true ↦ rw away.0 later
        | false ↦ later
      ])
]

-- the greater of two numbers
abbrev max_of : ℕ → ℕ → ℕ
max_of a b = cond (leb a b) b a

max_of-left : (a b : ℕ) → b < a → max_of a b ≡ a
max_of-left a b lt = elim (leb_tells a b) [ inl y ↦ absurd (omega (arith, y.1)) | inr n ↦ rw n.0 refl ]

max_of-zero : (b : ℕ) → max_of 0 b ≡ b
max_of-zero b = elim (leb_tells 0 b) [ inl y ↦ rw y.0 refl | inr n ↦ absurd (omega (arith, n.1)) ]

max_of-below : (a b c : ℕ) → a < c → b < c → max_of a b < c
max_of-below a b c p q = elim (leb a b) as (λ v. cond v b a < c) [ true ↦ q | false ↦ p ]

module _ (rs : List ℕ) (files : List File) where
  abbrev no_fault : Option (ℕ × ℕ) → List (ℕ × ℕ) → Type 0
  no_fault before cuts = cut_fault_from rs files before cuts ≡ None

  -- the cuts' files rise
  pub FilesRise-from_no_fault : (before : ℕ × ℕ) (cuts : List (ℕ × ℕ)) → no_fault (Some before) cuts → FilesRise before.0 cuts
  FilesRise-from_no_fault before [] h = tt
  FilesRise-from_no_fault before (cut ∷ cuts) h =
      let parts = parts_of (begins_record rs files cut) (is_after (Some before) cut) (cut_fault_from rs files (Some cut) cuts) h in
      let low : before.0 ≤ cut.0 = elim (after_test before.0 before.1 cut.0 cut.1 parts.1) [ inl lt ↦ omega (arith, lt) | inr eq ↦ omega (arith, eq.0) ] in
      (low, FilesRise-from_no_fault cut cuts parts.2)

  pub FilesRise-from_start : (cuts : List (ℕ × ℕ)) → no_fault None cuts → FilesRise 0 cuts
  FilesRise-from_start [] h = tt
  FilesRise-from_start (cut ∷ cuts) h =
      let parts = parts_of (begins_record rs files cut) true (cut_fault_from rs files (Some cut) cuts) h in
      (omega arith, FilesRise-from_no_fault cut cuts parts.2)

  -- the place from which the cuts of file k rise
  abbrev Rests : ℕ → ℕ → Option (ℕ × ℕ) → Type 0
  Rests k p None = p ≡ 0
  Rests k p (Some before) = ((before.0 < k) × (p ≡ 0)) ⊎ (((before.0 ≡ k) × (p ≡ before.1)) ⊎ (k < before.0))

  -- a cut in file k lies past it
  past_rest : (k p : ℕ) (before : Option (ℕ × ℕ)) (cut : ℕ × ℕ) → Rests k p before → is_after before cut ≡ true → 0 < cut.1 → cut.0 ≡ k → p < cut.1
  past_rest k p None cut rests after some here = omega arith
  past_rest k p (Some before) cut rests after some here =
      let order = after_test before.0 before.1 cut.0 cut.1 after in
      elim rests [
        | inl earlier ↦ omega (arith, earlier.1)
        | inr r ↦ elim r [
          | inl same ↦ elim order [ inl lt ↦ absurd (omega (arith, same.0, lt)) | inr eq ↦ omega (arith, same.1, eq.1) ]
          | inr later ↦ elim order [ inl lt ↦ absurd (omega (arith, later, lt)) | inr eq ↦ absurd (omega (arith, later, eq.0)) ]
        ]
      ]

  -- a cut in another file leaves the place as it is
  rests_on : (k p : ℕ) (before : Option (ℕ × ℕ)) (cut : ℕ × ℕ) → Rests k p before → is_after before cut ≡ true → cut.0 ≢ k → Rests k p (Some cut)
  rests_on k p None cut rests after away = elim (leb_tells k cut.0) [
    | inl le ↦ inr (inr (omega (arith, le.1)))
    | inr lt ↦ inl (lt.1, rests)
  ]
  rests_on k p (Some before) cut rests after away =
      let order = after_test before.0 before.1 cut.0 cut.1 after in
      let low : before.0 ≤ cut.0 = elim order [ inl lt ↦ omega (arith, lt) | inr eq ↦ omega (arith, eq.0) ] in
      elim rests [
        | inl earlier ↦ elim (leb_tells k cut.0) [
          | inl le ↦ inr (inr (omega (arith, le.1)))
          | inr lt ↦ inl (lt.1, earlier.1)
        ]
        | inr r ↦ elim r [
          | inl same ↦ inr (inr (omega (arith, same.0)))
          | inr later ↦ inr (inr (omega (arith, later)))
        ]
      ]

  -- in each file the cuts rise, and records begin at them
  Rises-offsets : (k p first : ℕ) (before : Option (ℕ × ℕ)) (cuts : List (ℕ × ℕ)) → no_fault before cuts → Rests k p before
      → ((q : ℕ) → list_any (eqb q) (drop 1 (begins_by rs (file_at files k).bytes)) ≡ true → (first < q) × (q < length (file_at files k).bytes) × BeginsAt rs (file_at files k).bytes q)
      → Rises rs (file_at files k).bytes (max_of p first) (offsets k cuts)
  Rises-offsets k p first before [] h rests inside = tt
  Rises-offsets k p first before (cut ∷ cuts) h rests inside =
      let parts = parts_of (begins_record rs files cut) (is_after before cut) (cut_fault_from rs files (Some cut) cuts) h in
      elim (eqb_tells cut.0 k) [
        | inl here ↦ rw here.0 (let there = inside cut.1 (subst (λ f. list_any (eqb cut.1) (drop 1 (begins_by rs (file_at files f).bytes)) ≡ true) here.1 parts.0) in
            let past = past_rest k p before cut rests parts.1 (omega (arith, there.0)) here.1 in
            let top : max_of cut.1 first ≡ cut.1 = max_of-left cut.1 first (omega (arith, there.0)) in
            (max_of-below p first cut.1 past there.0, there.1, there.2, rw top at (Rises-offsets k cut.1 first (Some cut) cuts parts.2 (inr (inl (here.1, refl))) inside)))
        | inr away ↦ rw away.0 (Rises-offsets k p first (Some cut) cuts parts.2 (rests_on k p before cut rests parts.1 away.1) inside)
      ]

  no_offsets : (k : ℕ) (before : Option (ℕ × ℕ)) (cuts : List (ℕ × ℕ)) → no_fault before cuts
      → begins_by rs (file_at files k).bytes ≡ [] → offsets k cuts ≡ []
  no_offsets k before [] h none = refl
  no_offsets k before (cut ∷ cuts) h none =
      let parts = parts_of (begins_record rs files cut) (is_after before cut) (cut_fault_from rs files (Some cut) cuts) h in
      elim (eqb_tells cut.0 k) [
        | inl here ↦ absurd (false≢true (ap (λ l. list_any (eqb cut.1) (drop 1 l)) (sym none) ∙ subst (λ f. list_any (eqb cut.1) (drop 1 (begins_by rs (file_at files f).bytes)) ≡ true) here.1 parts.0))
        | inr away ↦ rw away.0 (no_offsets k (Some cut) cuts parts.2 none)
      ]

  module _ (cuts : List (ℕ × ℕ)) (h : cut_fault rs files cuts ≡ None) (k : ℕ) where
    abbrev s : List ℕ
    s = (file_at files k).bytes

    inside : (first : ℕ) → begins_by rs s ≡ first ∷ places_where (begins_at rs s) (first + 1) (0 + length s - (first + 1)) → (q : ℕ) → list_any (eqb q) (drop 1 (begins_by rs s)) ≡ true → (first < q) × (q < length s) × BeginsAt rs s q
    inside first is q any =
        let n = 0 + length s - (first + 1) in
        let later : list_any (eqb q) (places_where (begins_at rs s) (first + 1) n) ≡ true = ap (λ l. list_any (eqb q) (drop 1 l)) (sym is) ∙ any in
        elim (leb_tells (first + 1) q) [
          | inl low ↦ elim (leb_tells (first + 1 + n) q) [
            | inl past ↦ absurd (false≢true (sym (no_place (begins_at rs s) (first + 1) n q (inr past.1)) ∙ later))
            | inr high ↦ (omega (arith, low.1), omega (arith, high.1), sym (any_place (begins_at rs s) (first + 1) n q low.1 high.1) ∙ later)
          ]
          | inr early ↦ absurd (false≢true (sym (no_place (begins_at rs s) (first + 1) n q (inl early.1)) ∙ later))
        ]

    rises : (first : ℕ) → begins_by rs s ≡ first ∷ places_where (begins_at rs s) (first + 1) (0 + length s - (first + 1)) → Rises rs s first (offsets k cuts)
    rises first is =
        let top : max_of 0 first ≡ first = max_of-zero first in
        rw top at (Rises-offsets k 0 first None cuts h refl (inside first is))

    pub rises_at_cuts : RisesFrom rs s (begins_by rs s) (offsets k cuts)
    rises_at_cuts = elim (first_place (begins_at rs s) 0 (length s)) [
      | inl none ↦ rw none (no_offsets k None cuts h none)
      | inr p ↦ rw p.5 (rises p.0 p.5)
    ]

    pub picked_at_cuts : Picked rs s (cut_places cuts k (begins_by rs s))
    picked_at_cuts = elim (first_place (begins_at rs s) 0 (length s)) [
      | inl none ↦ rw none none
      | inr p ↦ rw p.5 (omega (arith, p.2), p.4, p.3, rises p.0 p.5)
    ]

-- only the cuts of the file count
pub cut_places-same : (file : ℕ) (a b : List (ℕ × ℕ)) (places : List ℕ) → offsets file a ≡ offsets file b → cut_places a file places ≡ cut_places b file places
cut_places-same file a b [] h = refl
cut_places-same file a b (p ∷ places) h = ap (λ l. p ∷ l) h

-- whether a record after the file's first begins at a place
module _ (rs s : List ℕ) (first q : ℕ) (h : IsBeginOrEnd rs s 0 first) where
  abbrev later_begins : List ℕ
  later_begins = drop 1 (begins_by rs s)

  pub begins_outside : (q ≤ first) ⊎ (length s ≤ q) → list_any (eqb q) later_begins ≡ false
  begins_outside out = elim (leb_tells (length s) first) [
    | inl end ↦ ap (λ l. list_any (eqb q) (drop 1 l)) (begins_first rs s first h ∙ ap (places_where (begins_at rs s) first) (let z : length s - first ≡ 0 = omega (arith, end.1) in z))
    | inr more ↦ (let n = length s - (first + 1) in
        ap (λ l. list_any (eqb q) (drop 1 l)) (is_first more.1)
        ∙ no_place (begins_at rs s) (first + 1) n q (elim out [ inl le ↦ inl (omega (arith, le)) | inr past ↦ inr (omega (arith, past, more.1)) ]))
  ]
    where
      is_first : first < length s → begins_by rs s ≡ first ∷ places_where (begins_at rs s) (first + 1) (length s - (first + 1))
      is_first lt =
          let more : length s - first ≡ suc (length s - (first + 1)) = omega arith in
          begins_first rs s first h ∙ ap (places_where (begins_at rs s) first) more ∙ rw (h.begins lt).1 refl

  pub begins_inside : first < q → q < length s → list_any (eqb q) later_begins ≡ begins_at rs s q
  begins_inside low high =
      let more : length s - first ≡ suc (length s - (first + 1)) = omega arith in
      let is : begins_by rs s ≡ first ∷ places_where (begins_at rs s) (first + 1) (length s - (first + 1)) =
      begins_first rs s first h ∙ ap (places_where (begins_at rs s) first) more ∙ rw (h.begins (omega arith)).1 refl in
      ap (λ l. list_any (eqb q) (drop 1 l)) is ∙ any_place (begins_at rs s) (first + 1) (length s - (first + 1)) q (omega arith) (omega arith)

-- the chunks of a file with records begin with its first one and at its cuts
pub cut_places_here : (rs : List ℕ) (file first : ℕ) (bytes : List ℕ) (cuts : List (ℕ × ℕ)) → IsBeginOrEnd rs bytes 0 first → first < length bytes → offsets file cuts ≡ map (λ cut. cut.1) cuts
    → cut_places cuts file (begins_by rs bytes) ≡ first ∷ map (λ cut. cut.1) cuts
cut_places_here rs file first bytes cuts h lt is =
    let more : length bytes - first ≡ suc (length bytes - (first + 1)) = omega arith in
    let starts : begins_by rs bytes ≡ first ∷ places_where (begins_at rs bytes) (first + 1) (length bytes - (first + 1)) =
    begins_first rs bytes first h ∙ ap (places_where (begins_at rs bytes) first) more ∙ rw (h.begins lt).1 refl in
    ap (cut_places cuts file) starts ∙ ap (λ l. first ∷ l) is

pub no_cut_places : (rs : List ℕ) (file first : ℕ) (bytes : List ℕ) (cuts : List (ℕ × ℕ)) → IsBeginOrEnd rs bytes 0 first → length bytes ≤ first → cut_places cuts file (begins_by rs bytes) ≡ []
no_cut_places rs file first bytes cuts h le =
    ap (cut_places cuts file) (begins_first rs bytes first h ∙ ap (places_where (begins_at rs bytes) first) (let z : length bytes - first ≡ 0 = omega arith in z))

pub rises_from_first : (rs : List ℕ) (first : ℕ) (bytes qs : List ℕ) → IsBeginOrEnd rs bytes 0 first → first < length bytes → RisesFrom rs bytes (begins_by rs bytes) qs → Rises rs bytes first qs
rises_from_first rs first bytes qs h lt rises =
    let more : length bytes - first ≡ suc (length bytes - (first + 1)) = omega arith in
    let is : begins_by rs bytes ≡ first ∷ places_where (begins_at rs bytes) (first + 1) (length bytes - (first + 1)) =
    begins_first rs bytes first h ∙ ap (places_where (begins_at rs bytes) first) more ∙ rw (h.begins lt).1 refl in
    rw is at rises
