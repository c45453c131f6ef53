-- Running an expression from a place finds its longest match there.
use Rattle.std.proofs.Common.{◌≡◌, ◌⊎◌, ℕ, ◌+◌, ◌<◌, ◌≤◌, arith, Bool, true, false, eqb, Option, Some, None, List, [], ◌∷◌, length, get_or, drop, refl, sym, ap, ◌∙◌, subst, inl, inr, ⊎_elim, eq-eqb, eqb-true, length-drop}
use Rattle.std.proofs.lemmas.Bool.{cases_lt}
use Rattle.std.proofs.lemmas.List.{drop_more}
use Rattle.pawk_ere_syntax.specs.Pattern.{Pattern, Matches, StartsNone, IsLongest, IsFound}
use Rattle.pawk_ere_automaton.specs.Expand.{expand}
use Rattle.pawk_ere_automaton.specs.Regex.{Regex, Empty, Start, End, Bytes, Sequence, Either, Star, Plus, Takes}
use Rattle.pawk_ere_automaton.specs.Marks.{places, shift, Rest}
use Rattle.pawk_ere_automaton.specs.Table.{ends_with}
use Rattle.pawk_ere_automaton.proofs.Leftmost.{none_beyond, found_none, found_first, found_map}
use Rattle.pawk_ere_automaton.proofs.Shift.{forward, within, rest_forward, nullable_if, nullable_is, final_if, final_is, shift_if, shift_is, and_parts, and_whole, or_parts, or_left, or_right}
use Rattle.pawk_ere_automaton.proofs.Turns.{expand_is, expand_if}
use Rattle.pawk_ere_automaton.proofs.Walks.{no_marks}
use Rattle.pawk_fields.specs.Search.{later_or_here, last_end, longest_end, match_or, first_match, find}
use Rattle.pawk_fields.specs.Laws.{FindLaw}

-- ---- what is left of a text

at_end : (s : List ℕ) (p : ℕ) → p ≤ length s → drop p s ≡ [] → p ≡ length s
at_end s p w is = let n : length (drop p s) ≡ 0 = ap length is in omega (arith, length-drop p s)

inside : (s : List ℕ) (p : ℕ) (b : ℕ) (rest : List ℕ) → p ≤ length s → drop p s ≡ b ∷ rest → p < length s
inside s p b rest w is = let n : length (drop p s) ≡ length (b ∷ rest) = ap length is in omega (arith, length-drop p s)

-- the byte at a place, and what follows
pub record IsCons (s : List ℕ) (p b : ℕ) (rest : List ℕ) : Type 0 where
  pub more : p < length s
  pub byte : get_or s p 0 ≡ b
  pub behind : drop (p + 1) s ≡ rest

pub cons_at : (s : List ℕ) (p b : ℕ) (rest : List ℕ) → p ≤ length s → drop p s ≡ b ∷ rest → IsCons s p b rest
cons_at s p b rest w is =
    let more = inside s p b rest w is in
    let same : get_or s p 0 ∷ drop (p + 1) s ≡ b ∷ rest = sym (drop_more s p 0 more) ∙ is in
    record { more = more; byte = cc; behind = cc }

pub nil_at : (s : List ℕ) (p : ℕ) → p ≤ length s → drop p s ≡ [] → p ≡ length s
nil_at = at_end

-- ---- no marks lead beyond the text

rest_within : (e : Regex) (marks : List Bool) (s : List ℕ) (p j : ℕ) → p ≤ length s → Rest e marks s p j → j ≤ length s
rest_within Empty marks s p j w r = absurd r
rest_within Start marks s p j w r = absurd r
rest_within End marks s p j w r = absurd r
rest_within (Bytes members) marks s p j w r = omega arith
rest_within (Sequence a b) marks s p j w r = ⊎_elim
    (λ l. within b s l.0 j (rest_within a marks s p l.0 w l.1) l.2)
    (rest_within b (drop (places a) marks) s p j w) r
rest_within (Either a b) marks s p j w r = ⊎_elim (rest_within a marks s p j w) (rest_within b (drop (places a) marks) s p j w) r
rest_within (Star a) marks s p j w r = within (Star a) s r.0 j (rest_within a marks s p r.0 w r.1) (r.2, r.3)
rest_within (Plus a) marks s p j w r = within (Star a) s r.0 j (rest_within a marks s p r.0 w r.1) (r.2, r.3)

-- ---- the last end

-- the text from a place to j is what may still be taken, with these marks
abbrev pub Ahead : Regex → List ℕ → ℕ → Bool → List Bool → ℕ → Type 0
Ahead e s p enter marks j = ((enter ≡ true) × Takes e s p j) ⊎ Rest e marks s p j

ahead_forward : (e : Regex) (s : List ℕ) (p : ℕ) (enter : Bool) (marks : List Bool) (j : ℕ) → Ahead e s p enter marks j → p ≤ j
ahead_forward e s p enter marks j a = ⊎_elim (λ x. forward e s p j x.1) (λ r. rest_forward e marks s p j r) a

ahead_within : (e : Regex) (s : List ℕ) (p : ℕ) (enter : Bool) (marks : List Bool) (j : ℕ) → p ≤ length s → Ahead e s p enter marks j → j ≤ length s
ahead_within e s p enter marks j w a = ⊎_elim (λ x. within e s p j w x.1) (λ r. rest_within e marks s p j w r) a

-- the last of them, if there is one
abbrev pub IsLast : (ℕ → Type 0) → Option ℕ → Type 0
IsLast P None = (j : ℕ) → P j → ⊥
IsLast P (Some end) = P end × ((j : ℕ) → P j → j ≤ end)

module _ (e : Regex) (s : List ℕ) (p : ℕ) (last : Bool) (is_last : last ≡ true → p ≡ length s) (if_last : p ≡ length s → last ≡ true) (enter : Bool) (marks : List Bool) where
  -- what ends here is what is taken up to here
  ends_is : ends_with e enter marks (eqb p 0) last ≡ true → Ahead e s p enter marks p
  ends_is h = ⊎_elim
      (λ x. let both = and_parts _ _ x in inl (both.0, nullable_is s p (eqb p 0) last (eqb-true p 0) (eq-eqb p 0) is_last if_last e both.1))
      (λ x. inr (final_is s p (eqb p 0) last (eqb-true p 0) (eq-eqb p 0) is_last if_last e marks x))
      (or_parts _ _ h)

  ends_if : Ahead e s p enter marks p → ends_with e enter marks (eqb p 0) last ≡ true
  ends_if a = ⊎_elim
      (λ x. or_left _ _ (and_whole _ _ x.0 (nullable_if s p (eqb p 0) last (eqb-true p 0) (eq-eqb p 0) is_last if_last e x.1)))
      (λ r. or_right _ _ (final_if s p (eqb p 0) last (eqb-true p 0) (eq-eqb p 0) is_last if_last e marks r))
      a

  -- with none further on, this place is the last or there is none
  here_last : ((j : ℕ) → Ahead e s p enter marks j → j ≤ p) → IsLast (Ahead e s p enter marks) (later_or_here None (ends_with e enter marks (eqb p 0) last) p)
  here_last h = go (ends_with e enter marks (eqb p 0) last) refl
    where
      go : (b : Bool) → ends_with e enter marks (eqb p 0) last ≡ b → IsLast (Ahead e s p enter marks) (later_or_here None b p)
      go true is = (ends_is is, h)
      go false is = λ j a.
          let f = ahead_forward e s p enter marks j a in
          let n = h j a in
          let same : j ≡ p = omega arith in
          let yes = ends_if (subst (Ahead e s p enter marks) same a) in
          let no = sym yes ∙ is in cc

last_end_is : (e : Regex) (s : List ℕ) (rest : List ℕ) (p : ℕ) (enter : Bool) (marks : List Bool) → p ≤ length s → drop p s ≡ rest → IsLast (Ahead e s p enter marks) (last_end e enter marks p rest)
unfolding last_end
last_end_is e s [] p enter marks w is =
    let end = at_end s p w is in
    here_last e s p true (λ h. end) (λ h. refl) enter marks (λ j a. let x = ahead_within e s p enter marks j w a in omega arith)
last_end_is e s (b ∷ rest) p enter marks w is = go (last_end e false marks' (p + 1) rest) (last_end_is e s rest (p + 1) false marks' (let m = at.more in omega arith) at.behind)
  where
    at : IsCons s p b rest
    at = cons_at s p b rest w is

    marks' : List Bool
    marks' = shift e enter marks b (eqb p 0)

    same : shift e enter marks (get_or s p 0) (eqb p 0) ≡ marks'
    same = ap (λ c. shift e enter marks c (eqb p 0)) at.byte

    back : (j : ℕ) → Ahead e s (p + 1) false marks' j → Ahead e s p enter marks j
    back j a = ⊎_elim (λ x. absurd (let h = x.0 in cc))
        (λ r. shift_is s p (eqb p 0) (eqb-true p 0) (eq-eqb p 0) at.more e enter marks j (subst (λ m. Rest e m s (p + 1) j) (sym same) r)) a

    onto : (j : ℕ) → p < j → Ahead e s p enter marks j → Ahead e s (p + 1) false marks' j
    onto j lt a = inr (subst (λ m. Rest e m s (p + 1) j) same (shift_if s p (eqb p 0) (eqb-true p 0) (eq-eqb p 0) at.more e enter marks j lt a))

    go : (o : Option ℕ) → IsLast (Ahead e s (p + 1) false marks') o → IsLast (Ahead e s p enter marks) (later_or_here o (ends_with e enter marks (eqb p 0) false) p)
    go (Some end) l = (back end l.0, λ j a. ⊎_elim (λ lt. l.1 j (onto j lt a)) (λ ge. let f = ahead_forward e s (p + 1) false marks' end l.0 in omega arith) (cases_lt p j))
    go None l = here_last e s p false (λ h. absurd cc) (λ h. let m = at.more in absurd (omega arith)) enter marks
        (λ j a. ⊎_elim (λ lt. absurd (l j (onto j lt a))) (λ ge. ge) (cases_lt p j))

-- ---- the longest match from a place

-- the longest match, if there is one
abbrev pub IsLongestOrNone : (ℕ → ℕ → Type 0) → ℕ → Option ℕ → Type 0
IsLongestOrNone R p None = StartsNone R p
IsLongestOrNone R p (Some end) = IsLongest R p end

pub longest_end_is : (e : Regex) (s : List ℕ) (rest : List ℕ) (p : ℕ) → p ≤ length s → drop p s ≡ rest → IsLongestOrNone (Takes e s) p (longest_end e p rest)
longest_end_is e s rest p w is = go (longest_end e p rest) (last_end_is e s rest p true [] w is)
  where
    only : (j : ℕ) → Ahead e s p true [] j → Takes e s p j
    only j a = ⊎_elim (λ x. x.1) (λ r. absurd (no_marks e [] s p j (λ k. refl) r)) a

    go : (o : Option ℕ) → IsLast (Ahead e s p true []) o → IsLongestOrNone (Takes e s) p o
    go None l = λ j m. l j (inl (refl, m))
    go (Some end) l = record { matches = only end l.0; longest = λ j m. l.1 j (inl (refl, m)) }

-- ---- the first match

first_match_is : (e : Regex) (s : List ℕ) (from : ℕ) (rest : List ℕ) (p : ℕ) → from ≤ p → p ≤ length s → drop p s ≡ rest → ((k : ℕ) → from ≤ k → k < p → StartsNone (Takes e s) k) → IsFound (Takes e s) from (first_match e p rest)
unfolding first_match
first_match_is e s from [] p after w is none = go (longest_end e p []) (longest_end_is e s [] p w is)
  where
    go : (o : Option ℕ) → IsLongestOrNone (Takes e s) p o → IsFound (Takes e s) from (match_or p o None)
    go (Some end) l = found_first e s from p end after none l
    go None l =
        let end = at_end s p w is in
        found_none e s from (none_beyond e s from (omega arith) (λ k ge lt. ⊎_elim (λ less. none k ge less) (λ more. let same : p ≡ k = omega arith in subst (StartsNone (Takes e s)) same l) (cases_lt k p)))
first_match_is e s from (b ∷ rest) p after w is none = go (longest_end e p (b ∷ rest)) (longest_end_is e s (b ∷ rest) p w is) (λ later behind more. first_match_is e s from rest (p + 1) (omega arith) later behind more)
  where
    at : IsCons s p b rest
    at = cons_at s p b rest w is

    go : (o : Option ℕ) → IsLongestOrNone (Takes e s) p o → (p + 1 ≤ length s → drop (p + 1) s ≡ rest → ((k : ℕ) → from ≤ k → k < p + 1 → StartsNone (Takes e s) k) → IsFound (Takes e s) from (first_match e (p + 1) rest)) → IsFound (Takes e s) from (match_or p o (first_match e (p + 1) rest))
    go (Some end) l on = found_first e s from p end after none l
    go None l on = on (let m = at.more in omega arith) at.behind
        (λ k ge lt. ⊎_elim (λ less. none k ge less) (λ more. let same : p ≡ k = omega arith in subst (StartsNone (Takes e s)) same l) (cases_lt k p))

-- ---- the law

-- one answer is right
only_found : (R : ℕ → ℕ → Type 0) (start : ℕ) (a b : Option (ℕ × ℕ)) → IsFound R start a → IsFound R start b → a ≡ b
only_found R start None None f g = refl
only_found R start None (Some x) f g = let m = (g.some x.0 x.1).0 refl in absurd (f.none refl x.0 m.after x.1 m.matches)
only_found R start (Some x) b f g = sym ((g.some x.0 x.1).1 ((f.some x.0 x.1).0 refl))

find_is : (e : Pattern) (text : List ℕ) (from : ℕ) → from ≤ length text → IsFound (Matches e text) from (find e text from)
unfolding find
find_is e text from w =
    found_map (Takes (expand e) text) (Matches e text) from (first_match (expand e) from (drop from text)) (λ k l. (expand_is e text k l, expand_if e text k l))
    (first_match_is (expand e) text from (drop from text) from (omega arith) w refl (λ k ge lt. absurd (omega arith)))

pub find_law_lem : (e : Pattern) (text : List ℕ) (from : ℕ) → from ≤ length text → FindLaw e text from
find_law_lem e text from w = record {
  answer = find_is e text from w;
  only = λ found f. only_found (Matches e text) from found (find e text from) f (find_is e text from w);
}
