-- Searches skip the bytes at which no match starts.
use Rattle.std.proofs.Common.{◌≡◌, ℕ, zero, suc, ◌+◌, ◌-◌, ◌<◌, ◌≤◌, arith, Bool, true, false, cond, eqb, eqb-true, eq-eqb, Ok, IfSome, ltb, not, ◌||◌, if◌then◌else◌, Option, Some, None, List, [], ◌∷◌, ◌++◌, length, take, drop, slice_range, refl, sym, ap, ◌∙◌, subst, ⊎_elim, length-drop, append_assoc, zero-add, inl}
use Rattle.std.proofs.Math.Seq.{take-add}
use Rattle.std.proofs.lemmas.List.Folds.{drop_split}
use Rattle.pawk_code.specs.declared.word.ReplacedMatches.TheVariants.{First, All}
use Rattle.std.proofs.lemmas.Bool.{cases_lt, and_from, and_parts, lt-ltb, le-ltb, cond-true, cond-false}
use Rattle.std.proofs.lemmas.List.{drop-drop, append-nil}
use Rattle.pawk_ere_syntax.specs.Pattern.{Pattern}
use Rattle.pawk_ere_automaton.specs.Expand.{expand}
use Rattle.pawk_ere_automaton.specs.Regex.{Regex}
use Rattle.pawk_ere_automaton.specs.Table.{ends_with}
use Rattle.pawk_fields.specs.Search.{find, first_match, last_end, longest_end, match_or}
use Rattle.pawk_fields.proofs.SearchLemmas.{cons_at, nil_at, find_law_lem}
use Rattle.pawk_store.specs.Builtins.{Replaced, replaced, replaced_at, replacement, replace_from, replace_here, replace_end, onto, one_more}
use Rattle.pawk_builtins.specs.ReplaceWalks.{replaced_after, from_after, is_past, match_replaced, found_replaced, is_used, IsAhead, IsNextReplaced, IsLaidOut}
use Rattle.pawk_builtins.specs.Replaces.{IsOrBothTooLong, Left}
use Rattle.pawk_builtins.proofs.LongLemmas.{ended}
use Rattle.pawk_ere.specs.Answers.{IsAnswer}
use Rattle.pawk_builtins.proofs.MatchLemmas.{find_inside, first_within}

drop_nil : (n : ℕ) → drop {A = ℕ} n [] ≡ []
drop_nil zero = refl
drop_nil (suc n) = refl

take_nil : (n : ℕ) → take {A = ℕ} n [] ≡ []
take_nil zero = refl
take_nil (suc n) = refl

-- ---- from a place of which the text goes on so

module _ (e : Regex) (r : List ℕ) where
  -- a match that starts at the head of a text, and what follows
  abbrev Tail : ℕ → ℕ → List ℕ → Replaced
  Tail i j [] = record { text = replacement [] r; count = 1 }
  Tail i j (b ∷ rest) =
      if ltb i j then one_more (replacement (take (j - i) (b ∷ rest)) r) (replace_from e r (suc i) (j - i - 1) true rest)
      else one_more (replacement [] r ++ b ∷ []) (replace_from e r (suc i) 0 false rest)

  abbrev After : ℕ → List ℕ → Option (ℕ × ℕ) → Replaced
  After p rest None = record { text = rest; count = 0 }
  After p rest (Some m) = onto (take (m.0 - p) rest) (Tail m.0 m.1 (drop (m.0 - p) rest))

  -- an empty match here is none where a match that is not empty ended here
  abbrev Counts : ℕ → Bool → Option (ℕ × ℕ) → Type 0
  Counts p behind o = (m : ℕ × ℕ) → o ≡ Some m → behind ≡ true → p < m.1

  end_at : (p end : ℕ) → longest_end e p [] ≡ Some end → p ≡ end
  unfolding last_end
  end_at p end is = go (ends_with e true [] (eqb p 0) true) is
    where
      go : (v : Bool) → cond v (Some p) None ≡ Some end → p ≡ end
      go true h = cc
      go false h = absurd cc

  at_end : (p : ℕ) (behind : Bool) (o : Option ℕ) → longest_end e p [] ≡ o → Counts p behind (match_or p o None) → replace_end e r behind o ≡ After p [] (match_or p o None)
  at_end p true None is h = refl
  at_end p false None is h = refl
  at_end p true (Some end) is h = let same = end_at p end is in let lt = h (p, end) refl refl in absurd (omega arith)
  at_end p false (Some end) is h = sym (ap (λ t. onto t (Tail p end (drop (p - p) []))) (take_nil (p - p)) ∙ ap (λ t. onto [] (Tail p end t)) (drop_nil (p - p)))

  onward : (p b : ℕ) (rest : List ℕ) (o : Option (ℕ × ℕ)) → ((m : ℕ × ℕ) → o ≡ Some m → p + 1 ≤ m.0) → onto (b ∷ []) (After (suc p) rest o) ≡ After p (b ∷ rest) o
  onward p b rest None h = refl
  onward p b rest (Some m) h =
      let low = h m refl in
      let n : suc (m.0 - suc p) ≡ m.0 - p = omega arith in
      ap (λ n. onto (take n (b ∷ rest)) (Tail m.0 m.1 (drop n (b ∷ rest)))) n

  here : (p : ℕ) (behind : Bool) (b : ℕ) (rest : List ℕ) (o : Option ℕ) → Counts p behind (match_or p o (first_match e (p + 1) rest)) →
      replace_from e r (suc p) 0 false rest ≡ After (suc p) rest (first_match e (p + 1) rest) →
      replace_here e r p behind b rest (replace_from e r (suc p) 0 false rest) (λ skip. replace_from e r (suc p) skip true rest) o ≡ After p (b ∷ rest) (match_or p o (first_match e (p + 1) rest))
  here p behind b rest None h on = ap (onto (b ∷ [])) on ∙ onward p b rest (first_match e (p + 1) rest) (λ m is. (first_within e rest (p + 1) m is).0)
  here p behind b rest (Some end) h on = go (ltb p end) refl behind refl ∙ ap (λ n. onto (take n (b ∷ rest)) (Tail p end (drop n (b ∷ rest)))) none
    where
      none : 0 ≡ p - p
      none = omega arith

      keep : Replaced
      keep = replace_from e r (suc p) 0 false rest

      jump : Replaced
      jump = one_more (replacement (take (end - p) (b ∷ rest)) r) (replace_from e r (suc p) (end - p - 1) true rest)

      go : (v : Bool) → ltb p end ≡ v → (w : Bool) → behind ≡ w → cond v jump (cond w (onto (b ∷ []) keep) (one_more (replacement [] r ++ b ∷ []) keep)) ≡ cond v jump (one_more (replacement [] r ++ b ∷ []) keep)
      go true is w k = refl
      go false is false k = refl
      go false is true k = let lt = h (p, end) refl k in let yes = lt-ltb p end lt in let no = sym yes ∙ is in absurd cc

  goes : (rest : List ℕ) (p : ℕ) (behind : Bool) → Counts p behind (first_match e p rest) → replace_from e r p 0 behind rest ≡ After p rest (first_match e p rest)
  unfolding replace_from first_match
  goes [] p behind h = at_end p behind (longest_end e p []) refl h
  goes (b ∷ rest) p behind h =
      let n : suc p ≡ p + 1 = omega arith in
      let on = goes rest (suc p) false (λ m is no. absurd cc) in
      here p behind b rest (longest_end e p (b ∷ rest)) h (subst (λ (n : ℕ). replace_from e r (suc p) 0 false rest ≡ After (suc p) rest (first_match e n rest)) n on)

  -- the rest of a match is passed over
  passes : (skip p : ℕ) (rest : List ℕ) → skip ≤ length rest → replace_from e r p skip true rest ≡ replace_from e r (p + skip) 0 true (drop skip rest)
  unfolding replace_from
  passes zero p rest w = ap (λ n. replace_from e r n 0 true rest) (let n : p ≡ p + 0 = omega arith in n)
  passes (suc skip) p [] w = absurd (omega arith)
  passes (suc skip) p (b ∷ rest) w =
      let n : suc p + skip ≡ p + suc skip = omega arith in
      passes skip (suc p) rest (omega arith) ∙ ap (λ n. replace_from e r n 0 true (drop skip rest)) n

  count_from : (rest : List ℕ) (p skip : ℕ) (behind : Bool) → (replace_from e r p skip behind rest).count ≤ length rest + 1
  unfolding replace_from
  count_from [] p skip behind = go behind (longest_end e p [])
    where
      go : (v : Bool) (o : Option ℕ) → (replace_end e r v o).count ≤ 1
      go true o = omega arith
      go false None = omega arith
      go false (Some end) = omega arith
  count_from (b ∷ rest) p (suc skip) behind = let h = count_from rest (suc p) skip true in omega arith
  count_from (b ∷ rest) p zero behind = go (longest_end e p (b ∷ rest)) (count_from rest (suc p) 0 false) (λ skip. count_from rest (suc p) skip true)
    where
      go : (o : Option ℕ) → (replace_from e r (suc p) 0 false rest).count ≤ length rest + 1 → ((skip : ℕ) → (replace_from e r (suc p) skip true rest).count ≤ length rest + 1) →
          (replace_here e r p behind b rest (replace_from e r (suc p) 0 false rest) (λ skip. replace_from e r (suc p) skip true rest) o).count ≤ length (b ∷ rest) + 1
      go None on jump = omega arith
      go (Some end) on jump = by_test (ltb p end) behind
        where
          by_test : (v w : Bool) → (cond v (one_more (replacement (take (end - p) (b ∷ rest)) r) (replace_from e r (suc p) (end - p - 1) true rest))
              (cond w (onto (b ∷ []) (replace_from e r (suc p) 0 false rest)) (one_more (replacement [] r ++ b ∷ []) (replace_from e r (suc p) 0 false rest)))).count ≤ length (b ∷ rest) + 1
          by_test true w = let h = jump (end - p - 1) in omega arith
          by_test false true = omega arith
          by_test false false = omega arith

-- ---- from a place of a text

slice_none : (s : List ℕ) (i j : ℕ) → j ≤ i → slice_range s i j ≡ []
slice_none s i j h = let n : j - i ≡ 0 = omega arith in ap (λ n. take n (drop i s)) n

module _ (e : Pattern) (r s : List ℕ) where
  abbrev From : ℕ → Bool → Replaced
  From p behind = replaced_after e r s p behind

  abbrev TailIs : ℕ × ℕ → List ℕ → Type 0
  TailIs m rest = Tail (expand e) r m.0 m.1 rest ≡ record {
    text = replacement (slice_range s m.0 m.1) r ++ (slice_range s m.1 (from_after s m) ++ (From (from_after s m) (is_past s m)).text);
    count = (From (from_after s m) (is_past s m)).count + 1;
  }

  -- what is written after a match, at another place with the same meaning
  same_from : (m : ℕ × ℕ) (from : ℕ) (behind : Bool) → from_after s m ≡ from → is_past s m ≡ behind → (t : Replaced) →
      t ≡ record { text = replacement (slice_range s m.0 m.1) r ++ (slice_range s m.1 from ++ (From from behind).text); count = (From from behind).count + 1 } →
      t ≡ record {
        text = replacement (slice_range s m.0 m.1) r ++ (slice_range s m.1 (from_after s m) ++ (From (from_after s m) (is_past s m)).text);
        count = (From (from_after s m) (is_past s m)).count + 1;
      }
  same_from m from behind f b t h = subst
      (λ (n : ℕ). t ≡ record { text = replacement (slice_range s m.0 m.1) r ++ (slice_range s m.1 n ++ (From n (is_past s m)).text); count = (From n (is_past s m)).count + 1 }) (sym f)
      (subst (λ (v : Bool). t ≡ record { text = replacement (slice_range s m.0 m.1) r ++ (slice_range s m.1 from ++ (From from v).text); count = (From from v).count + 1 }) (sym b) h)

  -- the text ends after an empty match
  tail_end : (i : ℕ) → i ≡ length s → drop i s ≡ [] → TailIs (i, i) []
  unfolding replace_from
  tail_end i end is =
      let no : ltb i i ≡ false = le-ltb i i (omega arith) in
      let last : ltb i (length s) ≡ false = le-ltb i (length s) (omega arith) in
      let f : from_after s (i, i) ≡ i = cond-false _ _ _ no ∙ cond-false _ _ _ last in
      let b : is_past s (i, i) ≡ true = ap (λ v. v || not (ltb i (length s))) no ∙ ap (λ v. not v) last in
      let empty = slice_none s i i (omega arith) in
      let over : From i true ≡ record { text = []; count = 0 } = ap (λ t. replace_from (expand e) r i 0 true t) is in
      same_from (i, i) i true f b _
      (sym (ap (λ t. record { text = replacement t r ++ (t ++ (From i true).text); count = (From i true).count + 1 }) empty
      ∙ ap (λ (x : Replaced). record { text = replacement [] r ++ ([] ++ x.text); count = x.count + 1 }) over
      ∙ ap (λ t. record { text = t; count = 1 }) (append-nil (replacement [] r))))

  -- a match that is not empty
  tail_some : (i j b : ℕ) (rest : List ℕ) → i < j → j ≤ length s → drop i s ≡ b ∷ rest → TailIs (i, j) (b ∷ rest)
  tail_some i j b rest lt high is =
      let yes : ltb i j ≡ true = lt-ltb i j lt in
      let f : from_after s (i, j) ≡ j = cond-true _ _ _ yes in
      let v : is_past s (i, j) ≡ true = ap (λ v. v || not (ltb j (length s))) yes in
      let empty = slice_none s j j (omega arith) in
      let at = cons_at s i b rest (omega arith) is in
      let place : suc i + (j - i - 1) ≡ j = omega arith in
      let size = length-drop i s in
      let long : suc (length rest) ≡ length s - i = sym (ap length is) ∙ size in
      let behind : drop (j - i - 1) rest ≡ drop j s =
      ap (drop (j - i - 1)) (sym at.behind) ∙ (drop-drop (j - i - 1) (i + 1) s ∙ ap (λ n. drop n s) (let n : i + 1 + (j - i - 1) ≡ j = omega arith in n)) in
      let next : replace_from (expand e) r (suc i) (j - i - 1) true rest ≡ From j true =
      passes (expand e) r (j - i - 1) (suc i) rest (omega arith) ∙ (ap (λ n. replace_from (expand e) r n 0 true (drop (j - i - 1) rest)) place ∙ ap (λ t. replace_from (expand e) r j 0 true t) behind) in
      let more : suc (From j true).count ≡ (From j true).count + 1 = omega arith in
      same_from (i, j) j true f v _
      (cond-true _ _ _ yes
      ∙ (ap (λ (x : Replaced). one_more (replacement (take (j - i) (b ∷ rest)) r) x) next
      ∙ (ap (λ t. one_more (replacement (take (j - i) t) r) (From j true)) (sym is)
      ∙ (ap (λ t. record { text = replacement (slice_range s i j) r ++ (t ++ (From j true).text); count = suc (From j true).count }) (sym empty)
      ∙ ap (λ n. record { text = replacement (slice_range s i j) r ++ (slice_range s j j ++ (From j true).text); count = n }) more))))

  -- an empty match before a byte
  tail_none : (i b : ℕ) (rest : List ℕ) → i < length s → drop i s ≡ b ∷ rest → TailIs (i, i) (b ∷ rest)
  tail_none i b rest lt is =
      let no : ltb i i ≡ false = le-ltb i i (omega arith) in
      let more : ltb i (length s) ≡ true = lt-ltb i (length s) lt in
      let f : from_after s (i, i) ≡ i + 1 = cond-false _ _ _ no ∙ cond-true _ _ _ more in
      let v : is_past s (i, i) ≡ false = ap (λ v. v || not (ltb i (length s))) no ∙ ap (λ v. not v) more in
      let empty = slice_none s i i (omega arith) in
      let at = cons_at s i b rest (omega arith) is in
      let one : i + 1 - i ≡ 1 = omega arith in
      let byte : slice_range s i (i + 1) ≡ b ∷ [] = ap (λ n. take n (drop i s)) one ∙ ap (take 1) is in
      let place : suc i ≡ i + 1 = omega arith in
      let next : replace_from (expand e) r (suc i) 0 false rest ≡ From (i + 1) false =
      ap (λ n. replace_from (expand e) r n 0 false rest) place ∙ ap (λ t. replace_from (expand e) r (i + 1) 0 false t) (sym at.behind) in
      let count : suc (From (i + 1) false).count ≡ (From (i + 1) false).count + 1 = omega arith in
      same_from (i, i) (i + 1) false f v _
      (cond-false _ _ _ no
      ∙ (ap (λ (x : Replaced). one_more (replacement [] r ++ b ∷ []) x) next
      ∙ (ap (λ t. record { text = t; count = suc (From (i + 1) false).count }) (append_assoc (replacement [] r) (b ∷ []) (From (i + 1) false).text)
      ∙ (ap (λ t. record { text = replacement [] r ++ (t ++ (From (i + 1) false).text); count = suc (From (i + 1) false).count }) (sym byte)
      ∙ (ap (λ t. record { text = replacement t r ++ (slice_range s i (i + 1) ++ (From (i + 1) false).text); count = suc (From (i + 1) false).count }) (sym empty)
      ∙ ap (λ n. record { text = replacement (slice_range s i i) r ++ (slice_range s i (i + 1) ++ (From (i + 1) false).text); count = n }) count)))))

  tail_is : (m : ℕ × ℕ) → m.0 ≤ m.1 → m.1 ≤ length s → TailIs m (drop m.0 s)
  tail_is m ordered high = go (drop m.0 s) refl
    where
      go : (rest : List ℕ) → drop m.0 s ≡ rest → TailIs m rest
      go [] is =
          let end = nil_at s m.0 (omega arith) is in
          let same : m.0 ≡ m.1 = omega arith in
          subst (λ (j : ℕ). TailIs (m.0, j) []) same (tail_end m.0 end is)
      go (b ∷ rest) is = ⊎_elim
          (λ lt. tail_some m.0 m.1 b rest lt high is)
          (λ ge. let same : m.0 ≡ m.1 = omega arith in
          let at = cons_at s m.0 b rest (omega arith) is in
          subst (λ (j : ℕ). TailIs (m.0, j) (b ∷ rest)) same (tail_none m.0 b rest at.more is))
          (cases_lt m.0 m.1)

-- what is found from a place on is the next match that is replaced, unless it is the empty one where another ended
pub next_plain : (e : Pattern) (s : List ℕ) (p : ℕ) (behind : Bool) (o : Option (ℕ × ℕ)) → p ≤ length s → find e s p ≡ o → ((m : ℕ × ℕ) → o ≡ Some m → behind ≡ true → p < m.1) → IsNextReplaced e s p behind o
unfolding find
next_plain e s p behind None w is counts r =
    goes (expand e) r (drop p s) p behind (λ m found. absurd (let no = sym is ∙ found in cc)) ∙ ap (After (expand e) r p (drop p s)) is
next_plain e s p behind (Some m) w is counts r =
    let at = find_inside e s p m w is in
    let place : p + (m.0 - p) ≡ m.0 = (let h = at.after in omega arith) in
    let rest : drop (m.0 - p) (drop p s) ≡ drop m.0 s = drop-drop (m.0 - p) p s ∙ ap (λ n. drop n s) place in
    goes (expand e) r (drop p s) p behind (λ n found. counts n (sym is ∙ found))
    ∙ (ap (After (expand e) r p (drop p s)) is
    ∙ ap (λ t. onto (slice_range s p m.0) t) (ap (Tail (expand e) r m.0 m.1) rest ∙ tail_is e r s m at.ordered at.high))

-- the empty match where another ended is passed over
passed : (e : Pattern) (s : List ℕ) (p : ℕ) (m : ℕ × ℕ) (b : ℕ) (rest : List ℕ) → p ≤ length s → drop p s ≡ b ∷ rest → find e s p ≡ Some m → m.1 ≡ p → (r : List ℕ) → replaced_after e r s p true ≡ onto (b ∷ []) (replaced_after e r s (p + 1) false)
unfolding find first_match replace_from
passed e s p m b rest w is found same r =
    ap (λ t. replace_from (expand e) r p 0 true t) is
    ∙ (go (longest_end (expand e) p (b ∷ rest)) (ap (λ t. first_match (expand e) p t) (sym is) ∙ found) ∙ ap (onto (b ∷ [])) next)
  where
    next : replace_from (expand e) r (suc p) 0 false rest ≡ replaced_after e r s (p + 1) false
    next =
        let n : suc p ≡ p + 1 = omega arith in
        ap (λ n. replace_from (expand e) r n 0 false rest) n ∙ ap (λ t. replace_from (expand e) r (p + 1) 0 false t) (sym (cons_at s p b rest w is).behind)

    go : (o : Option ℕ) → match_or p o (first_match (expand e) (p + 1) rest) ≡ Some m →
        replace_here (expand e) r p true b rest (replace_from (expand e) r (suc p) 0 false rest) (λ skip. replace_from (expand e) r (suc p) skip true rest) o ≡ onto (b ∷ []) (replace_from (expand e) r (suc p) 0 false rest)
    go None h = refl
    go (Some end) h =
        let pair : (p, end) ≡ m = cc in
        let here : end ≡ m.1 = ap (λ (x : ℕ × ℕ). x.1) pair in
        cond-false _ _ _ (le-ltb p end (omega arith))

pub next_end : (e : Pattern) (s : List ℕ) (p : ℕ) → p ≡ length s → IsNextReplaced e s p true None
unfolding replace_from
next_end e s p end r = go (drop p s) (let n = length-drop p s in let m : length (drop p s) ≡ 0 = omega arith in m)
  where
    go : (t : List ℕ) → length t ≡ 0 → replace_from (expand e) r p 0 true t ≡ record { text = t; count = 0 }
    go [] h = refl
    go (b ∷ t) h = absurd (omega arith)

join_none : (s : List ℕ) (p b : ℕ) (rest : List ℕ) → p ≤ length s → drop p s ≡ b ∷ rest → onto (b ∷ []) (record { text = drop (p + 1) s; count = 0 }) ≡ record { text = drop p s; count = 0 }
join_none s p b rest w is = ap (λ t. record { text = b ∷ t; count = 0 }) (cons_at s p b rest w is).behind ∙ ap (λ t. record { text = t; count = 0 }) (sym is)

join_slice : (s : List ℕ) (p b i : ℕ) (rest : List ℕ) → p + 1 ≤ i → p ≤ length s → drop p s ≡ b ∷ rest → b ∷ slice_range s (p + 1) i ≡ slice_range s p i
join_slice s p b i rest low w is =
    let n : suc (i - (p + 1)) ≡ i - p = omega arith in
    ap (λ t. b ∷ take (i - (p + 1)) t) (cons_at s p b rest w is).behind ∙ (ap (λ n. take n (b ∷ rest)) n ∙ ap (take (i - p)) (sym is))

pub next_passed : (e : Pattern) (s : List ℕ) (p : ℕ) (m : ℕ × ℕ) (o : Option (ℕ × ℕ)) → p < length s → find e s p ≡ Some m → m.1 ≡ p → find e s (p + 1) ≡ o → IsNextReplaced e s p true o
next_passed e s p m o w found same is r = go (drop p s) refl
  where
    join : (b : ℕ) (rest : List ℕ) → drop p s ≡ b ∷ rest → (o : Option (ℕ × ℕ)) → find e s (p + 1) ≡ o → onto (b ∷ []) (found_replaced e r s (p + 1) o) ≡ found_replaced e r s p o
    join b rest h None is = join_none s p b rest (omega arith) h
    join b rest h (Some n) is =
        let at = find_inside e s (p + 1) n (omega arith) is in
        let rest_of = match_replaced r s (p + 1) n (replaced_after e r s (from_after s n) (is_past s n)) in
        ap (λ t. record {
          text = t ++ (replacement (slice_range s n.0 n.1) r ++ (slice_range s n.1 (from_after s n) ++ (replaced_after e r s (from_after s n) (is_past s n)).text));
          count = (replaced_after e r s (from_after s n) (is_past s n)).count + 1;
        }) (join_slice s p b n.0 rest at.after (omega arith) h)

    go : (t : List ℕ) → drop p s ≡ t → replaced_after e r s p true ≡ found_replaced e r s p o
    go [] h = absurd (let n = length-drop p s in let k : length (drop p s) ≡ 0 = ap length h in omega arith)
    go (b ∷ rest) h = passed e s p m b rest (omega arith) h found same r
        ∙ (ap (onto (b ∷ [])) (next_plain e s (p + 1) false o (omega arith) is (λ m h no. absurd cc) r) ∙ join b rest h o is)

-- ---- the text that is written

pub laid_first : (e : Pattern) (r s : List ℕ) → IsLaidOut (replaced All e r s) s [] 0 0 0 (replaced_after e r s 0 false)
laid_first e r s = record { text = refl; number = sym (zero-add _) }

-- a match more
pub laid_more : (e : Pattern) (r s : List ℕ) (whole : Replaced) (out : List ℕ) (place from count : ℕ) (behind : Bool) (m : ℕ × ℕ) → place ≤ from → from ≤ m.0 →
    IsLaidOut whole s out place from count (replaced_after e r s from behind) → IsNextReplaced e s from behind (Some m) →
    IsLaidOut whole s (out ++ slice_range s place m.0 ++ replacement (slice_range s m.0 m.1) r) m.1 (from_after s m) (count + 1) (replaced_after e r s (from_after s m) (is_past s m))
laid_more e r s whole out place from count behind m low high laid next =
    let gives = next r in
    let rest = replaced_after e r s (from_after s m) (is_past s m) in
    let there = replacement (slice_range s m.0 m.1) r in
    let later = slice_range s m.1 (from_after s m) ++ rest.text in
    let texts = ap (λ (x : Replaced). x.text) gives in
    let counts = ap (λ (x : Replaced). x.count) gives in
    record {
      text = laid.text ∙ (ap (λ t. out ++ (slice_range s place from ++ t)) texts
          ∙ (ap (λ t. out ++ t) (sym (append_assoc (slice_range s place from) (slice_range s from m.0) (there ++ later)))
          ∙ (ap (λ t. out ++ (t ++ (there ++ later))) (slices s place from m.0 low high)
          ∙ (sym (append_assoc out (slice_range s place m.0) (there ++ later)) ∙ sym (append_assoc (out ++ slice_range s place m.0) there later)))));
      number = laid.number ∙ (let h = counts in omega arith);
    }
  where
    slices : (s : List ℕ) (a b c : ℕ) → a ≤ b → b ≤ c → slice_range s a b ++ slice_range s b c ≡ slice_range s a c
    slices s a b c g h =
        let n : b - a + (c - b) ≡ c - a = omega arith in
        let p : a + (b - a) ≡ b = omega arith in
        ap (λ t. slice_range s a b ++ take (c - b) t) (sym (drop-drop (b - a) a s ∙ ap (λ n. drop n s) p))
        ∙ (sym (take-add (b - a) (c - b) (drop a s)) ∙ ap (λ n. take n (drop a s)) n)

-- no match more
pub laid_all : (e : Pattern) (r s : List ℕ) (whole : Replaced) (out : List ℕ) (place from count : ℕ) (behind : Bool) → place ≤ from →
    IsLaidOut whole s out place from count (replaced_after e r s from behind) → IsNextReplaced e s from behind None → (whole.count ≡ count) × (whole.text ≡ out ++ drop place s)
laid_all e r s whole out place from count behind low laid next =
    let gives = next r in
    let texts = ap (λ (x : Replaced). x.text) gives in
    let counts = ap (λ (x : Replaced). x.count) gives in
    (omega (arith, laid.number, counts), laid.text ∙ (ap (λ t. out ++ (slice_range s place from ++ t)) texts ∙ ap (λ t. out ++ t) (sym (drop_split s place from low))))

-- how many there are at most
pub count_within : (e : Pattern) (r s : List ℕ) → (replaced All e r s).count ≤ length s + 1
count_within e r s = count_from (expand e) r s 0 0 false

pub laid_step : (e : Pattern) (r s : List ℕ) (whole : Replaced) (out : List ℕ) (place from count : ℕ) (behind : Bool) (m : ℕ × ℕ) (new : List ℕ) (next : ℕ × Bool) → place ≤ from → IsAhead s from behind m →
    IsLaidOut whole s out place from count (replaced_after e r s from behind) → IsNextReplaced e s from behind (Some m) →
    new ≡ out ++ slice_range s place m.0 ++ replacement (slice_range s m.0 m.1) r → next ≡ (from_after s m, is_past s m) →
    IsLaidOut whole s new m.1 next.0 (count + 1) (replaced_after e r s next.0 next.1)
laid_step e r s whole out place from count behind m new next low ahead laid found is goes_on =
    subst (λ (t : List ℕ). IsLaidOut whole s t m.1 next.0 (count + 1) (replaced_after e r s next.0 next.1)) (sym is)
    (subst (λ (b : ℕ × Bool). IsLaidOut whole s (out ++ slice_range s place m.0 ++ replacement (slice_range s m.0 m.1) r) m.1 b.0 (count + 1) (replaced_after e r s b.0 b.1)) (sym goes_on)
    (laid_more e r s whole out place from count behind m low ahead.after laid found))

pub count_more : (e : Pattern) (r s out : List ℕ) (place from count : ℕ) (behind : Bool) (m : ℕ × ℕ) →
    IsLaidOut (replaced All e r s) s out place from count (replaced_after e r s from behind) → IsNextReplaced e s from behind (Some m) → count + 1 ≤ length s + 1
count_more e r s out place from count behind m laid found =
    let most = count_within e r s in
    let counts = ap (λ (x : Replaced). x.count) (found r) in
    let all = laid.number in
    omega arith

-- ---- what a matcher finds

-- what is found is ahead
ahead_of : (e : Pattern) (s : List ℕ) (p : ℕ) (behind : Bool) (m : ℕ × ℕ) → p ≤ length s → find e s p ≡ Some m → is_used (Some m) p behind ≡ false → IsAhead s p behind m
ahead_of e s p behind m w is unused =
    let at = find_inside e s p m w is in
    record {
      after = at.after;
      ordered = at.ordered;
      high = at.high;
      new = λ b. ⊎_elim (λ lt. lt)
          (λ ge. let here : m.1 ≡ p = (let h = at.after in let g = at.ordered in omega arith) in
          let yes = and_from behind (eqb m.1 p) b (eq-eqb m.1 p here) in let no = sym yes ∙ unused in absurd cc)
          (cases_lt p m.1);
    }

pub unused_next : (e : Pattern) (s : List ℕ) (p : ℕ) (behind : Bool) (o : Option (ℕ × ℕ)) → p ≤ length s → IsAnswer e s p o → is_used o p behind ≡ false → IsNextReplaced e s p behind o
unused_next e s p behind o w answer unused =
    let is = sym ((find_law_lem e s p w).only o answer) in
    next_plain e s p behind o w is (λ m h. (ahead_of e s p behind m w (is ∙ h) (subst (λ (o : Option (ℕ × ℕ)). is_used o p behind ≡ false) h unused)).new)

pub unused_ahead : (e : Pattern) (s : List ℕ) (p : ℕ) (behind : Bool) (o : Option (ℕ × ℕ)) → p ≤ length s → IsAnswer e s p o → is_used o p behind ≡ false → IfSome o (IsAhead s p behind)
unused_ahead e s p behind None w answer unused = tt
unused_ahead e s p behind (Some m) w answer unused = ahead_of e s p behind m w (sym ((find_law_lem e s p w).only (Some m) answer)) unused

pub used_end : (e : Pattern) (s : List ℕ) (p : ℕ) (behind : Bool) (o : Option (ℕ × ℕ)) → p ≡ length s → is_used o p behind ≡ true → IsNextReplaced e s p behind None
used_end e s p behind None end used = absurd cc
used_end e s p behind (Some m) end used =
    let both = and_parts _ _ used in
    subst (λ (v : Bool). IsNextReplaced e s p v None) (sym both.0) (next_end e s p end)

pub used_next : (e : Pattern) (s : List ℕ) (p : ℕ) (behind : Bool) (o found : Option (ℕ × ℕ)) → p < length s → IsAnswer e s p o → is_used o p behind ≡ true → IsAnswer e s (p + 1) found → IsNextReplaced e s p behind found
used_next e s p behind None found w answer used next = absurd cc
used_next e s p behind (Some m) found w answer used next =
    let both = and_parts behind (eqb m.1 p) used in
    let is = sym ((find_law_lem e s p (omega arith)).only (Some m) answer) in
    let later = sym ((find_law_lem e s (p + 1) (omega arith)).only found next) in
    subst (λ (v : Bool). IsNextReplaced e s p v found) (sym both.0) (next_passed e s p m found w is (eqb-true m.1 p both.1) later)

pub used_ahead : (e : Pattern) (s : List ℕ) (p : ℕ) (behind : Bool) (found : Option (ℕ × ℕ)) → p < length s → IsAnswer e s (p + 1) found → IfSome found (IsAhead s p behind)
used_ahead e s p behind None w next = tt
used_ahead e s p behind (Some m) w next =
    let is = sym ((find_law_lem e s (p + 1) (omega arith)).only (Some m) next) in
    let at = find_inside e s (p + 1) m (omega arith) is in
    let a = at.after in
    let b = at.ordered in
    record { after = omega arith; ordered = at.ordered; high = at.high; new = λ h. omega arith }

-- ---- the first match alone

pub first_is : (e : Pattern) (s : List ℕ) (o : Option (ℕ × ℕ)) → IsAnswer e s 0 o → o ≡ find e s 0
first_is e s o answer = (find_law_lem e s 0 (omega arith)).only o answer

pub first_ahead : (e : Pattern) (s : List ℕ) (o : Option (ℕ × ℕ)) → IsAnswer e s 0 o → IfSome o (IsAhead s 0 false)
first_ahead e s o answer = unused_ahead e s 0 false o (omega arith) answer (go o)
  where
    go : (o : Option (ℕ × ℕ)) → is_used o 0 false ≡ false
    go None = refl
    go (Some m) = refl

pub first_none : (e : Pattern) (r s out : List ℕ) → None ≡ find e s 0 → Left out 0 (Ok (replaced First e r s))
first_none e r s out is = subst (λ (o : Option (ℕ × ℕ)). Left out 0 (Ok (replaced_at r s o))) is (inl (refl, λ h. absurd (omega arith)))

pub first_some : (e : Pattern) (r s text out : List ℕ) (m : ℕ × ℕ) → Some m ≡ find e s 0 → IsOrBothTooLong text (take m.0 s ++ replacement (slice_range s m.0 m.1) r) → out ≡ text ++ drop m.1 s →
    Left out 1 (Ok (replaced First e r s))
first_some e r s text out m is laid new =
    let found = replacement (slice_range s m.0 m.1) r in
    subst (λ (o : Option (ℕ × ℕ)). Left out 1 (Ok (replaced_at r s o))) is
    (ended text (take m.0 s ++ found) (drop m.1 s) out (replaced_at r s (Some m)) laid new refl (sym (append_assoc (take m.0 s) found (drop m.1 s))))
