-- The first field of a rest of a record, and those after it.
use Rattle.std.proofs.Common.{◌≡◌, inl, inr, ℕ, zero, suc, ◌+◌, ◌-◌, ◌<◌, ◌≤◌, Bool, true, false, cond, List, [], ◌∷◌, Option, None, Some, length, map, drop, get_or, refl, ap, arith, sym, ◌∙◌, ◌++◌, append_assoc, take, ◌||◌, eqb}
use Rattle.std.proofs.lemmas.Bool.{false≢true}
use Rattle.std.proofs.lemmas.Bool.Decides.{leb_tells}
use Rattle.std.proofs.lemmas.List.{append-nil, take_more, drop-drop, drop_all, get_or-drop, length-drop}
use Rattle.std.proofs.lemmas.List.Sums.{sum_by-cons}
use Rattle.std.specs.List.{count_by, prefix_len}
use Rattle.memchr.specs.Find.{is_byte2, Passes, Nowhere, NoneBefore}
use Rattle.pawk_value.specs.Bytes.{is_blank}
use Rattle.pawk_fields.specs.Fields.{is_not_blank, blank_fields}
use Rattle.pawk_fields.proofs.FieldsLemmas.{fields_of_word, no_blanks_left}
use Rattle.pawk_fields.specs.Splits.{bytes_of, separates, pieces_from, words_from, NonePass, ArePieces, PiecesLaw}
use Rattle.pawk_fields.specs.FieldSeparator.{fields_by, ranges_from}
use Rattle.pawk_fields.specs.declared.separator.FieldSeparator.{FieldSeparator}
use Rattle.pawk_fields.specs.declared.separator.FieldSeparator.TheVariants.{Blanks, Byte, ByteOrNewline}

-- ---- pieces

module _ (test : ℕ → Bool) where
  -- up to the first byte that separates
  pub piece_to : (t : List ℕ) (start at i : ℕ) → NoneBefore (Passes test t) 0 (length t) i → Passes test t i
      → pieces_from test start at t ≡ (start, at + i) ∷ pieces_from test (at + i + 1) (at + i + 1) (drop (i + 1) t)
  piece_to [] start at i first is = absurd (omega (arith, first.high))
  piece_to (b ∷ t) start at zero first is =
      let z : at ≡ at + zero = omega arith in
      rw is (ap (λ p. (start, p) ∷ pieces_from test (p + 1) (p + 1) t) z)
  piece_to (b ∷ t) start at (suc i) first is =
      let here : test b ≡ false = fails (test b) (first.before 0 (omega arith) (omega arith)) in
      let e : at + 1 + i ≡ at + suc i = omega arith in
      let n : suc i + 1 ≡ suc (i + 1) = omega arith in
      let later = piece_to t start (at + 1) i (record { low = omega arith; high = omega (arith, first.high); before = λ k low high. first.before (suc k) (omega arith) (omega arith) }) is in
      rw (here, n) (later ∙ ap (λ p. (start, p) ∷ pieces_from test (p + 1) (p + 1) (drop (i + 1) t)) e)
    where
      fails : (v : Bool) → (v ≡ true → ⊥) → v ≡ false
      fails true h = absurd (h refl)
      fails false h = refl

  -- or to the end
  pub last_piece : (t : List ℕ) (start at : ℕ) → Nowhere (Passes test t) 0 (length t) → pieces_from test start at t ≡ (start, at + length t) ∷ []
  last_piece [] start at none = ap (λ p. (start, p) ∷ []) (omega arith)
  last_piece (b ∷ t) start at none =
      let here : test b ≡ false = fails (test b) (none 0 (omega arith) (omega arith)) in
      let e : at + 1 + length t ≡ at + length (b ∷ t) = omega arith in
      rw here (last_piece t start (at + 1) (λ k low high. none (suc k) (omega arith) (omega arith)) ∙ ap (λ p. (start, p) ∷ []) e)
    where
      fails : (v : Bool) → (v ≡ true → ⊥) → v ≡ false
      fails true h = absurd (h refl)
      fails false h = refl

-- ---- words

-- blanks in front are passed over
pub words_past_blanks : (t : List ℕ) (at : ℕ) → words_from None at t ≡ words_from None (at + prefix_len is_blank t) (drop (prefix_len is_blank t) t)
words_past_blanks [] at = refl
words_past_blanks (b ∷ t) at = by_first (words_past_blanks t (at + 1)) (is_blank b) refl
  where
    by_first : words_from None (at + 1) t ≡ words_from None (at + 1 + prefix_len is_blank t) (drop (prefix_len is_blank t) t) → (v : Bool) → is_blank b ≡ v → words_from None at (b ∷ t) ≡ words_from None (at + prefix_len is_blank (b ∷ t)) (drop (prefix_len is_blank (b ∷ t)) (b ∷ t))
    by_first later true e =
        let n : 1 + prefix_len is_blank t ≡ suc (prefix_len is_blank t) = omega arith in
        let p : at + 1 + prefix_len is_blank t ≡ at + suc (prefix_len is_blank t) = omega arith in
        rw (e, n) (later ∙ ap (λ q. words_from None q (drop (prefix_len is_blank t) t)) p)
    by_first later false e =
        let p : at ≡ at + 0 = omega arith in
        rw e (rw (sym p) (rw e refl))

-- a word goes on to the next blank
pub word_to : (t : List ℕ) (start at : ℕ) → words_from (Some start) at t ≡ (start, at + prefix_len is_not_blank t) ∷ words_from None (at + prefix_len is_not_blank t) (drop (prefix_len is_not_blank t) t)
word_to [] start at = ap (λ p. (start, p) ∷ []) (omega arith)
word_to (b ∷ t) start at = by_first (word_to t start (at + 1)) (is_blank b) refl
  where
    by_first : words_from (Some start) (at + 1) t ≡ (start, at + 1 + prefix_len is_not_blank t) ∷ words_from None (at + 1 + prefix_len is_not_blank t) (drop (prefix_len is_not_blank t) t) → (v : Bool) → is_blank b ≡ v → words_from (Some start) at (b ∷ t) ≡ (start, at + prefix_len is_not_blank (b ∷ t)) ∷ words_from None (at + prefix_len is_not_blank (b ∷ t)) (drop (prefix_len is_not_blank (b ∷ t)) (b ∷ t))
    by_first later true e =
        let p : at ≡ at + 0 = omega arith in
        rw e (rw (sym p) (rw e refl))
    by_first later false e =
        let n : 1 + prefix_len is_not_blank t ≡ suc (prefix_len is_not_blank t) = omega arith in
        let p : at + 1 + prefix_len is_not_blank t ≡ at + suc (prefix_len is_not_blank t) = omega arith in
        rw (e, n) (later ∙ ap (λ q. (start, q) ∷ words_from None q (drop (prefix_len is_not_blank t) t)) p)

-- where no blank is at the front a word begins
pub first_word : (t : List ℕ) (at : ℕ) → prefix_len is_blank t ≡ 0 → 0 < length t
    → words_from None at t ≡ (at, at + prefix_len is_not_blank t) ∷ words_from None (at + prefix_len is_not_blank t) (drop (prefix_len is_not_blank t) t)
first_word [] at none some = absurd (omega arith)
first_word (b ∷ t) at none some = by_first (is_blank b) refl
  where
    by_first : (v : Bool) → is_blank b ≡ v → words_from None at (b ∷ t) ≡ (at, at + prefix_len is_not_blank (b ∷ t)) ∷ words_from None (at + prefix_len is_not_blank (b ∷ t)) (drop (prefix_len is_not_blank (b ∷ t)) (b ∷ t))
    by_first true e = absurd (let n : 1 + prefix_len is_blank t ≡ 0 = rw e at none in omega arith)
    by_first false e =
        let n : 1 + prefix_len is_not_blank t ≡ suc (prefix_len is_not_blank t) = omega arith in
        let p : at + 1 + prefix_len is_not_blank t ≡ at + suc (prefix_len is_not_blank t) = omega arith in
        rw (e, n) (word_to t at (at + 1) ∙ ap (λ q. (at, q) ∷ words_from None q (drop (prefix_len is_not_blank t) t)) p)

-- and it is not empty
pub some_word : (t : List ℕ) → prefix_len is_blank t ≡ 0 → 0 < length t → 0 < prefix_len is_not_blank t
some_word [] none some = absurd (omega arith)
some_word (b ∷ t) none some = by_first (is_blank b) refl
  where
    by_first : (v : Bool) → is_blank b ≡ v → 0 < prefix_len is_not_blank (b ∷ t)
    by_first true e = absurd (let n : 1 + prefix_len is_blank t ≡ 0 = rw e at none in omega arith)
    by_first false e = rw e (omega arith)

-- ---- the law of pieces

module _ (test : ℕ → Bool) (s : List ℕ) where
  fails : (v : Bool) → (v ≡ true → ⊥) → v ≡ false
  fails true h = absurd (h refl)
  fails false h = refl

  read : (at b : ℕ) (t : List ℕ) → drop at s ≡ b ∷ t → get_or s at 0 ≡ b
  read at b t left = ap (λ k. get_or s k 0) (let z : at ≡ at + 0 = omega arith in z) ∙ sym (get_or-drop at s 0 0) ∙ ap (λ l. get_or l 0 0) left

  rest : (at b : ℕ) (t : List ℕ) → drop at s ≡ b ∷ t → drop (at + 1) s ≡ t
  rest at b t left = sym (drop-drop 1 at s) ∙ ap (drop 1) left

  -- up to `at` no byte of the piece passes, and what is left is there
  are_pieces : (t : List ℕ) (start at : ℕ) → drop at s ≡ t → start ≤ at → at ≤ length s → NonePass test s start at → ArePieces test s start (pieces_from test start at t)
  are_pieces [] start at left le within none = (refl, le, none, inl (omega (arith, length-drop at s, ap length left), refl))
  are_pieces (b ∷ t) start at left le within none =
      let lt : at < length s = omega (arith, length-drop at s, ap length left) in
      let here = read at b t left in
      let on = rest at b t left in
      elim (test b) as (λ v. (test b ≡ v) → ArePieces test s start (cond v ((start, at) ∷ pieces_from test (at + 1) (at + 1) t) (pieces_from test start (at + 1) t))) [
        | true ↦ (λ e. (refl, le, none, inr (lt, ap test here ∙ e, are_pieces t (at + 1) (at + 1) on (omega arith) (omega arith) (λ k low high. absurd (omega arith)))))
        | false ↦ (λ e. are_pieces t start (at + 1) on (omega arith) (omega arith) (λ k low high is. elim (leb_tells at k) [
          | inl past ↦ (let same : k ≡ at = omega (arith, past.1) in false≢true (sym e ∙ ap test (sym here) ∙ ap (λ i. test (get_or s i 0)) (sym same) ∙ is))
          | inr before ↦ none k low before.1 is
        ]))
      ] refl

  -- there is no other list
  only_pieces : (fs : List (ℕ × ℕ)) (start : ℕ) → ArePieces test s start fs → start ≤ length s → fs ≡ pieces_from test start start (drop start s)
  only_pieces [] start h le = absurd h
  only_pieces (f ∷ fs) start h le =
      let t = drop start s in
      let long = length-drop start s in
      let same : f ≡ (start, f.1) = ap (λ x. (x, f.1)) h.0 in
      elim h.3 [
        | inl last ↦ (let stop : start + length t ≡ f.1 = omega (arith, last.0, long) in
            ap (λ l. f ∷ l) last.1 ∙ ap (λ x. x ∷ []) same ∙ ap (λ p. (start, p) ∷ []) (sym stop)
            ∙ sym (last_piece test t start start (λ k low high is. h.2 (start + k) (omega (arith, h.0)) (omega (arith, last.0, long)) (ap test (sym (get_or-drop start s k 0)) ∙ is))))
        | inr more ↦ (let i = f.1 - start in
            let there : start + i ≡ f.1 = omega (arith, h.0, h.1) in
            let behind : drop (i + 1) t ≡ drop (f.1 + 1) s = drop-drop (i + 1) start s ∙ ap (λ k. drop k s) (let e : start + (i + 1) ≡ f.1 + 1 = omega (arith, h.0, h.1) in e) in
            let step = piece_to test t start start i
            (record { low = omega arith; high = omega (arith, long, more.0, h.0, h.1); before = λ k low high is. h.2 (start + k) (omega (arith, h.0)) (omega (arith, h.0, h.1)) (ap test (sym (get_or-drop start s k 0)) ∙ is) })
            (ap test (get_or-drop start s i 0 ∙ ap (λ k. get_or s k 0) there) ∙ more.1) in
            ap (λ l. f ∷ l) (only_pieces fs (f.1 + 1) more.2 (omega (arith, more.0)))
            ∙ ap (λ x. x ∷ pieces_from test (f.1 + 1) (f.1 + 1) (drop (f.1 + 1) s)) same
            ∙ ap (λ p. (start, p) ∷ pieces_from test (p + 1) (p + 1) (drop (f.1 + 1) s)) (sym there)
            ∙ ap (λ l. (start, start + i) ∷ pieces_from test (start + i + 1) (start + i + 1) l) (sym behind)
            ∙ sym step)
      ]

  pub pieces_law_lem : PiecesLaw test s
  pieces_law_lem = (are_pieces s 0 0 refl (omega arith) (omega arith) (λ k low high. absurd (omega arith)), λ fs h. only_pieces fs 0 h (omega arith))

-- ---- the first word from a place on

module _ (s : List ℕ) (from n : ℕ) (blanks : n ≡ prefix_len is_blank (drop from s)) where
  past : words_from None from (drop from s) ≡ words_from None (from + n) (drop (from + n) s)
  past =
      words_past_blanks (drop from s) from
      ∙ ap (λ k. words_from None (from + k) (drop k (drop from s))) (sym blanks)
      ∙ ap (words_from None (from + n)) (drop-drop n from s)

  pub no_word_at : length s ≤ from + n → words_from None from (drop from s) ≡ []
  no_word_at le = past ∙ ap (words_from None (from + n)) (drop_all (from + n) s le)

  no_blank_at : prefix_len is_blank (drop (from + n) s) ≡ 0
  no_blank_at =
      ap (prefix_len is_blank) (sym (drop-drop n from s)) ∙ ap (λ k. prefix_len is_blank (drop k (drop from s))) blanks
      ∙ no_blanks_left (drop from s)

  module _ (lt : from + n < length s) where
    some_at : 0 < length (drop (from + n) s)
    some_at = omega (arith, length-drop (from + n) s)

    pub word_at : (m : ℕ) → m ≡ prefix_len is_not_blank (drop (from + n) s)
        → words_from None from (drop from s) ≡ (from + n, from + n + m) ∷ words_from None (from + n + m) (drop (from + n + m) s)
    word_at m is =
        past ∙ first_word (drop (from + n) s) (from + n) no_blank_at some_at
        ∙ ap (λ k. (from + n, from + n + k) ∷ words_from None (from + n + k) (drop k (drop (from + n) s))) (sym is)
        ∙ ap (λ l. (from + n, from + n + m) ∷ words_from None (from + n + m) l) (drop-drop m (from + n) s)

    pub word_up : (m : ℕ) → m ≡ prefix_len is_not_blank (drop (from + n) s) → 0 < m
    word_up m is = omega (arith, is, some_word (drop (from + n) s) no_blank_at some_at)

-- how many places are left from one on
abbrev pub left_of : Option ℕ → ℕ → ℕ
left_of None n = 0
left_of (Some p) n = n + 1 - p

-- ---- the words are the fields that blanks separate

module _ (s : List ℕ) where
  here : (at b : ℕ) (t : List ℕ) → drop at s ≡ b ∷ t → get_or s at 0 ≡ b
  here at b t left = ap (λ k. get_or s k 0) (let z : at ≡ at + 0 = omega arith in z) ∙ sym (get_or-drop at s 0 0) ∙ ap (λ l. get_or l 0 0) left

  there : (at b : ℕ) (t : List ℕ) → drop at s ≡ b ∷ t → drop (at + 1) s ≡ t
  there at b t left = sym (drop-drop 1 at s) ∙ ap (drop 1) left

  -- a word that goes on by one byte
  one_more : (start at b : ℕ) (t : List ℕ) → start ≤ at → drop at s ≡ b ∷ t → bytes_of s (start, at + 1) ≡ bytes_of s (start, at) ++ b ∷ []
  one_more start at b t le left =
      let n : at + 1 - start ≡ at - start + 1 = omega arith in
      let lt : at - start < length (drop start s) = omega (arith, length-drop start s, length-drop at s, ap length left) in
      let read : get_or (drop start s) (at - start) 0 ≡ b = get_or-drop start s (at - start) 0 ∙ ap (λ k. get_or s k 0) (let e : start + (at - start) ≡ at = omega arith in e) ∙ here at b t left in
      ap (λ k. take k (drop start s)) n ∙ take_more (drop start s) (at - start) 0 lt ∙ ap (λ x. take (at - start) (drop start s) ++ x ∷ []) read

  first_of_word : (b : ℕ) (t : List ℕ) → is_blank b ≡ false
      → take (prefix_len is_not_blank (b ∷ t)) (b ∷ t) ∷ blank_fields (drop (prefix_len is_not_blank (b ∷ t)) (b ∷ t)) ≡ (b ∷ take (prefix_len is_not_blank t) t) ∷ blank_fields (drop (prefix_len is_not_blank t) t)
  first_of_word b t e = let n : 1 + prefix_len is_not_blank t ≡ suc (prefix_len is_not_blank t) = omega arith in rw (e, n) refl

  -- what is left of a word, and the fields after it
  abbrev Goes : ℕ → ℕ → List ℕ → Type 0
  Goes start at t =
      map (bytes_of s) (words_from (Some start) at t)
      ≡ (bytes_of s (start, at) ++ take (prefix_len is_not_blank t) t) ∷ blank_fields (drop (prefix_len is_not_blank t) t)

  words_are : (t : List ℕ) (at : ℕ) → drop at s ≡ t → (map (bytes_of s) (words_from None at t) ≡ blank_fields t) × ((start : ℕ) → start ≤ at → Goes start at t)
  words_are [] at left = (refl, λ start le. ap (λ l. l ∷ []) (sym (append-nil (bytes_of s (start, at)))))
  words_are (b ∷ t) at left =
      let on = there at b t left in
      let later = words_are t (at + 1) on in
      let one : bytes_of s (at, at + 1) ≡ b ∷ [] = one_more at at b t (omega arith) left ∙ ap (λ k. take k (drop at s) ++ b ∷ []) (let z : at - at ≡ 0 = omega arith in z) in
      let n : 1 + prefix_len is_not_blank t ≡ suc (prefix_len is_not_blank t) = omega arith in
      by_first (is_blank b) refl later.0 later.1 one n
    where
      by_first : (v : Bool) → is_blank b ≡ v → map (bytes_of s) (words_from None (at + 1) t) ≡ blank_fields t → ((start : ℕ) → start ≤ at + 1 → Goes start (at + 1) t)
          → bytes_of s (at, at + 1) ≡ b ∷ [] → 1 + prefix_len is_not_blank t ≡ suc (prefix_len is_not_blank t)
          → (map (bytes_of s) (words_from None at (b ∷ t)) ≡ blank_fields (b ∷ t)) × ((start : ℕ) → start ≤ at → Goes start at (b ∷ t))
      by_first true e none some one n = (
        rw e none,
        λ start le. rw e (rw e (ap (λ l. bytes_of s (start, at) ∷ l) none ∙ ap (λ l. l ∷ blank_fields t) (sym (append-nil (bytes_of s (start, at)))))),
      )
      by_first false e none some one n = (
        rw e (some at (omega arith) ∙ ap (λ l. (l ++ take (prefix_len is_not_blank t) t) ∷ blank_fields (drop (prefix_len is_not_blank t) t)) one)
            ∙ sym (fields_of_word b t e ∙ first_of_word b t e),
        λ start le. rw (e, n) (some start (omega arith) ∙ ap (λ l. l ∷ blank_fields (drop (prefix_len is_not_blank t) t)) (ap (λ l. l ++ take (prefix_len is_not_blank t) t) (one_more start at b t le left) ∙ append_assoc (bytes_of s (start, at)) (b ∷ []) (take (prefix_len is_not_blank t) t))),
      )

pub fields_by_blanks : (s : List ℕ) → fields_by Blanks s ≡ blank_fields s
fields_by_blanks [] = refl
fields_by_blanks (b ∷ s) = (words_are (b ∷ s) (b ∷ s) 0 refl).0

-- ---- counted

length-map_of : (s : List ℕ) (l : List (ℕ × ℕ)) → length (map (bytes_of s) l) ≡ length l
length-map_of s [] = refl
length-map_of s (x ∷ l) = omega (arith, length-map_of s l)

-- one piece more than bytes that separate
pub pieces_count : (test : ℕ → Bool) (t : List ℕ) (start at : ℕ) → length (pieces_from test start at t) ≡ count_by test t + 1
pieces_count test [] start at = refl
pieces_count test (b ∷ t) start at =
    let counts = sum_by-cons (λ y. cond (test y) 1 0) b t in
    let a = pieces_count test t (at + 1) (at + 1) in
    let c = pieces_count test t start (at + 1) in
    let n : count_by test (b ∷ t) ≡ cond (test b) 1 0 + count_by test t = counts in
    elim (test b) as (λ v. count_by test (b ∷ t) ≡ cond v 1 0 + count_by test t → length (cond v ((start, at) ∷ pieces_from test (at + 1) (at + 1) t) (pieces_from test start (at + 1) t)) ≡ count_by test (b ∷ t) + 1) [
      | true ↦ (λ h. omega arith)
      | false ↦ (λ h. omega arith)
    ] n

count_same : (f g : ℕ → Bool) (t : List ℕ) → ((b : ℕ) → f b ≡ g b) → count_by f t ≡ count_by g t
count_same f g [] h = refl
count_same f g (b ∷ t) h =
    let head : cond (f b) 1 0 ≡ cond (g b) 1 0 = ap (λ v. cond v 1 0) (h b) in
    sum_by-cons (λ y. cond (f y) 1 0) b t
    ∙ ap (λ n. n + count_by f t) head ∙ ap (λ n. cond (g b) 1 0 + n) (count_same f g t h)
    ∙ sym (sum_by-cons (λ y. cond (g y) 1 0) b t)

-- pieces from a place on, by a byte
pub count_byte_pieces : (b : ℕ) (s : List ℕ) (p : ℕ) → length (ranges_from (Byte b) s (Some p)) ≡ count_by (is_byte2 b b) (drop p s) + 1
count_byte_pieces b s p =
    pieces_count (separates b false) (drop p s) p p
    ∙ ap (λ n. n + 1) (count_same (separates b false) (is_byte2 b b) (drop p s) (λ y. twice (eqb y b)))
  where
    twice : (v : Bool) → (v || false) ≡ (v || v)
    twice true = refl
    twice false = refl

-- the same by a byte and newlines
pub count_line_pieces : (b : ℕ) (s : List ℕ) (p : ℕ) → length (ranges_from (ByteOrNewline b) s (Some p)) ≡ count_by (is_byte2 b 10) (drop p s) + 1
count_line_pieces b s p = pieces_count (separates b true) (drop p s) p p

-- words from a place on
pub count_words_from : (s : List ℕ) (p : ℕ) → length (ranges_from Blanks s (Some p)) ≡ length (blank_fields (drop p s))
count_words_from s p = sym (length-map_of s (ranges_from Blanks s (Some p))) ∙ ap length (words_are s (drop p s) p refl).0
