-- Records that a walk passes over.
use Rattle.std.proofs.Common.{◌≡◌, inl, inr, ℕ, zero, suc, ◌+◌, ◌-◌, ◌<◌, ◌≤◌, Option, Some, None, unwrap_or, List, [], ◌∷◌, ◌++◌, length, take, drop, get_or, ap, sym, subst, ◌∙◌, arith, append_assoc, length-append}
use Rattle.std.specs.Prelude.{All}
use Rattle.std.specs.List.{prefix_len}
use Rattle.std.proofs.lemmas.Bool.Decides.{leb_tells}
use Rattle.std.proofs.lemmas.List.{drop_all, get_or-drop, get_or-take, get_or_read, length-drop, length-take, length-take-le, take-take}
use Rattle.std.proofs.lemmas.List.Elements.{All-nil, All-cons, All-head, All-tail}
use Rattle.memchr.specs.Find.{FindsNeedle, OccursAt}
use Rattle.pawk_ere.specs.Words.{HoldsNone}
use Rattle.pawk_records.specs.Records.{records, records_by}
use Rattle.pawk_records.proofs.RecordsLemmas.{is_other, records_of_some, some_records}
use Rattle.pawk_records.proofs.LineLemmas.{records_parts}
use Rattle.pawk_input.specs.Input.{FileInBlocks, Item, file_items}
use Rattle.pawk_input.specs.Walk.{block_records, items_ahead, items_in_blocks}
use Rattle.pawk_input.specs.Passing.{PassesOver}
use Rattle.pawk_input.proofs.ItemsLemmas.{length-file_items}
use Rattle.pawk_input.proofs.PlanLemmas.{file_items-append}

-- ---- words in a part of a text

occurs_in_longer : (n : ℕ) (s word : List ℕ) (k : ℕ) → OccursAt (take n s) word k → OccursAt s word k
occurs_in_longer n s word k o =
    let long = length-take n s in
    let fits = o.fits in
    record {
      fits = omega arith;
      reads = λ j lt. sym (get_or-take n s (k + j) 0 (omega arith)) ∙ o.reads j lt;
    }

occurs_after : (n : ℕ) (s word : List ℕ) (k : ℕ) → n ≤ length s → OccursAt (drop n s) word k → OccursAt s word (n + k)
occurs_after n s word k le o =
    let long = length-drop n s in
    let fits = o.fits in
    record {
      fits = omega arith;
      reads = λ j lt. ap (λ i. get_or s i 0) (let e : n + k + j ≡ n + (k + j) = omega arith in e) ∙ sym (get_or-drop n s (k + j) 0) ∙ o.reads j lt;
    }

none_in_front : (n : ℕ) (s : List ℕ) (words : List (List ℕ)) → HoldsNone s words → HoldsNone (take n s) words
none_in_front n s words h q d lt k o = h q d lt k (occurs_in_longer n s (get_or words q d) k o)

none_follows : (n : ℕ) (s : List ℕ) (words : List (List ℕ)) → n ≤ length s → HoldsNone s words → HoldsNone (drop n s) words
none_follows n s words le h q d lt k o = h q d lt (n + k) (occurs_after n s (get_or words q d) k le o)

-- of the first bytes, fewer hold no word either
pub none_in_fewer : (n m : ℕ) (s : List ℕ) (words : List (List ℕ)) → n ≤ m → HoldsNone (take m s) words → HoldsNone (take n s) words
none_in_fewer n m s words le h = subst (λ l. HoldsNone l words) (take-take n m s le) (none_in_front n (take m s) words h)

-- the same of the first bytes of a text that was cut
pub none_uncut : (n m : ℕ) (s : List ℕ) (words : List (List ℕ)) → n ≤ m → HoldsNone (take n (take m s)) words → HoldsNone (take n s) words
none_uncut n m s words le h = subst (λ l. HoldsNone l words) (take-take n m s le) h

-- ---- the least place at which a word is seen

-- none of the words before the place occurs in the text
abbrev pub LacksBefore : List ℕ → List (List ℕ) → ℕ → Type 0
LacksBefore s words i = (q : ℕ) (d : List ℕ) → q < i → (k : ℕ) → OccursAt s (get_or words q d) k → ⊥

module _ (text word : List ℕ) (least : ℕ) (within : least ≤ length text) where
  pub place_within : (r : Option ℕ) → FindsNeedle (take least text) word 0 r → unwrap_or r least ≤ least
  place_within None h = omega arith
  place_within (Some place) h = let fits = h.1.fits in omega (arith, length-take-le least text within)

  in_least : (n k : ℕ) → n ≤ least → OccursAt (take n text) word k → OccursAt (take least text) word k
  in_least n k le o = occurs_in_longer n (take least text) word k (subst (λ l. OccursAt l word k) (sym (take-take n least text le)) o)

  -- the word does not occur before the place
  lacks_here : (r : Option ℕ) → FindsNeedle (take least text) word 0 r → 1 ≤ unwrap_or r least → (k : ℕ) → OccursAt (take (unwrap_or r least) text) word k → ⊥
  lacks_here None h some k o = let fits = o.fits in h k (omega arith) (omega arith) o
  lacks_here (Some place) h some k o =
      let low = place_within (Some place) h in
      let here = in_least place k low o in
      let fits = o.fits in
      let long : length (take place text) ≡ place = length-take-le place text (omega arith) in
      elim (leb_tells place k) [
        | inl past ↦ h.0.before 0 (omega arith) (omega arith) (record {
          fits = omega (arith, past.1);
          reads = λ j lt. absurd (omega (arith, past.1));
        })
        | inr before ↦ h.0.before k (omega arith) (omega (arith, before.1)) here
      ]

  -- one more word does not occur there
  pub lacks_more : (words : List (List ℕ)) (i n : ℕ) (r : Option ℕ) → i < length words → word ≡ get_or words i word → n ≡ unwrap_or r least → FindsNeedle (take least text) word 0 r
      → (1 ≤ least → LacksBefore (take least text) words i) → 1 ≤ n → LacksBefore (take n text) words (i + 1)
  lacks_more words i n r lt is now h before some q d le k o =
      let low = place_within r h in
      elim (leb_tells i q) [
        | inl past ↦ (let here : q ≡ i = omega (arith, past.1) in
            let same : get_or words q d ≡ word = ap (λ m. get_or words m d) here ∙ sym (get_or_read words i word lt is d) in
            lacks_here r h (omega arith) k (subst (λ m. OccursAt (take m text) word k) now (subst (λ w. OccursAt (take n text) w k) same o)))
        | inr earlier ↦ before (omega arith) q d earlier.1 k
            (occurs_in_longer n (take least text) (get_or words q d) k (subst (λ l. OccursAt l (get_or words q d) k) (sym (take-take n least text (omega arith))) o))
      ]

-- ---- records of a text that holds no word

module _ (e : ℕ) (words : List (List ℕ)) where
  abbrev LacksAll : List ℕ → Type 0
  LacksAll r = HoldsNone r words

  none_in_records : (f : ℕ) (s : List ℕ) → length s ≤ f → HoldsNone s words → All LacksAll (records e s)
  none_in_records f [] le h = All-nil LacksAll
  none_in_records zero (b ∷ s) le h = absurd (omega arith)
  none_in_records (suc f) (b ∷ s) le h =
      let t = b ∷ s in
      let n = prefix_len (is_other e) t in
      let later : All LacksAll (records e (drop (n + 1) t)) = elim (leb_tells (n + 1) (length t)) [
        | inl more ↦ none_in_records f (drop (n + 1) t) (omega (arith, length-drop (n + 1) t)) (none_follows (n + 1) t words more.1 h)
        | inr last ↦ subst (λ l. All LacksAll (records e l)) (sym (drop_all (n + 1) t (omega (arith, last.1)))) (All-nil LacksAll)
      ] in
      subst (All LacksAll) (sym (records_of_some e t (omega arith))) (All-cons LacksAll (take n t) (records e (drop (n + 1) t)) (none_in_front n t words h) later)

none_in_items : (words : List (List ℕ)) (file : ℕ) (name : List ℕ) (nr fnr : ℕ) (rs : List (List ℕ)) → All (λ r. HoldsNone r words) rs
    → All (λ (i : Item). HoldsNone i.bytes words) (file_items file name nr fnr rs)
none_in_items words file name nr fnr [] h = All-nil (λ (i : Item). HoldsNone i.bytes words)
none_in_items words file name nr fnr (r ∷ rs) h =
    let P = λ (l : List ℕ). HoldsNone l words in
    All-cons (λ (i : Item). HoldsNone i.bytes words) (record { bytes = r; file = file; name = name; nr = nr + 1; fnr = fnr + 1 }) (file_items file name (nr + 1) (fnr + 1) rs)
    (All-head P r rs h) (none_in_items words file name (nr + 1) (fnr + 1) rs (All-tail P r rs h))

-- ---- the items ahead

-- the records of the first bytes of a piece, and those that are left after them
items_passed : (rs : List ℕ) (file : ℕ) (name : List ℕ) (nr fnr : ℕ) (rest front back : List ℕ) (pieces : List (List ℕ)) (later : List FileInBlocks)
    → records_by rs rest ≡ records_by rs front ++ records_by rs back
    → items_ahead rs file name nr fnr (rest ∷ pieces) later
    ≡ file_items file name nr fnr (records_by rs front)
    ++ items_ahead rs file name (nr + length (records_by rs front)) (fnr + length (records_by rs front)) (back ∷ pieces) later
items_passed rs file name nr fnr rest front back pieces later parted =
    let a = records_by rs front in
    let b = block_records rs (back ∷ pieces) in
    let whole : block_records rs (rest ∷ pieces) ≡ a ++ b =
    ap (λ l. l ++ block_records rs pieces) parted ∙ append_assoc a (records_by rs back) (block_records rs pieces) in
    let count : nr + length (a ++ b) ≡ nr + length a + length b = omega (arith, length-append a b) in
    let first = file_items file name nr fnr a in
    let second = file_items file name (nr + length a) (fnr + length a) b in
    ap (λ l. file_items file name nr fnr l ++ items_in_blocks rs (file + 1) (nr + length l) later) whole
    ∙ ap (λ l. l ++ items_in_blocks rs (file + 1) (nr + length (a ++ b)) later) (file_items-append file name nr fnr a b)
    ∙ ap (λ m. (first ++ second) ++ items_in_blocks rs (file + 1) m later) count
    ∙ append_assoc first second (items_in_blocks rs (file + 1) (nr + length a + length b) later)

-- The first n bytes of a piece end with the separator. They are n records, and there are more bytes after them.
module _ (rs : List ℕ) (e file nr fnr n count : ℕ) (name rest front back : List ℕ) (pieces : List (List ℕ)) (later : List FileInBlocks)
    (line : rs ≡ e ∷ []) (some : 1 ≤ n) (within : n < length rest) (last : get_or rest (n - 1) 0 ≡ e)
    (is_front : front ≡ take n rest) (is_back : back ≡ drop n rest) (counted : count ≡ length (records e front)) where
  abbrev old : List Item
  old = items_ahead rs file name nr fnr (rest ∷ pieces) later

  abbrev new : List Item
  new = items_ahead rs file name (nr + count) (fnr + count) (back ∷ pieces) later

  abbrev passed : List Item
  passed = file_items file name nr fnr (records_by rs front)

  number : length (records_by rs front) ≡ count
  number = rw line (sym counted)

  parted : records_by rs rest ≡ records_by rs front ++ records_by rs back
  parted = rw (line, is_front, is_back) (records_parts e rest n (inr (some, omega arith, last)))

  between : old ≡ passed ++ new
  between = items_passed rs file name nr fnr rest front back pieces later parted ∙ ap (λ m. passed ++ items_ahead rs file name (nr + m) (fnr + m) (back ∷ pieces) later) number

  pub length_ahead : length old ≡ count + length new
  length_ahead = ap length between ∙ length-append passed new ∙ ap (λ m. m + length new) (length-file_items file name nr fnr (records_by rs front) ∙ number)

  some_left : 1 ≤ length new
  some_left =
      let long = length-drop n rest in
      let size = ap length is_back in
      let here : 0 < length (records_by rs back) = rw line (some_records e back (omega arith)) in
      let all = block_records rs (back ∷ pieces) in
      let items = file_items file name (nr + count) (fnr + count) all in
      omega (
        arith,
        here,
        length-append (records_by rs back) (block_records rs pieces),
        length-file_items file name (nr + count) (fnr + count) all,
        length-append items (items_in_blocks rs (file + 1) (nr + count + length all) later),
      )

  -- where they hold no word, they are passed over
  pub passes : (words : List (List ℕ)) → HoldsNone (take n rest) words → PassesOver words old new count
  passes words none =
      let without : All (λ r. HoldsNone r words) (records_by rs front) =
      rw line (none_in_records e words (length front) front (omega arith) (subst (λ l. HoldsNone l words) (sym is_front) none)) in
      record {
        passed = passed;
        between = between;
        count = length-file_items file name nr fnr (records_by rs front) ∙ number;
        without = none_in_items words file name nr fnr (records_by rs front) without;
        more = λ _. some_left;
      }
