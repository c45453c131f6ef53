-- The fields that the function gives are those of the relation.
use Rattle.std.proofs.Common.{◌≡◌, ℕ, ◌+◌, ◌<◌, ◌≤◌, arith, Bool, true, false, ◌&&◌, cond, eqb, ltb, Option, Some, None, Result, Ok, Err, List, [], ◌∷◌, length, drop, refl, sym, ap, ◌∙◌, subst, inl, inr, ⊎_elim, eqb-true, eq-eqb}
use Rattle.std.proofs.lemmas.Bool.{cases_lt, ltb-true, lt-ltb}
use Rattle.pawk_value.specs.declared.faults.Fault.{Fault}
use Rattle.pawk_ere_syntax.specs.Pattern.{Pattern, StartsNone}
use Rattle.pawk_ere_automaton.specs.Expand.{expand}
use Rattle.pawk_ere_automaton.specs.Regex.{Takes}
use Rattle.pawk_ere_automaton.proofs.Shift.{and_parts, and_whole}
use Rattle.pawk_ere_automaton.proofs.Turns.{expand_is, expand_if}
use Rattle.pawk_fields.specs.Between.{MatchesSome, MaySeparate, AreFields}
use Rattle.pawk_fields.specs.FieldsOf.{AreFieldsOf, IsFaultOf}
use Rattle.pawk_fields.proofs.BetweenLemmas.{some_inside}
use Rattle.pawk_fields.proofs.LawLemmas.{split_law_lem}
use Rattle.pawk_fields.specs.ReadEre.{read_ere}
use Rattle.pawk_fields.specs.Search.{longest_end}
use Rattle.pawk_fields.specs.FieldList.{end_beyond, newline_end, separator_end, cut_or_on, fields_after, fields_between, fields_of}
use Rattle.pawk_fields.specs.Laws.{FieldsLaw}
use Rattle.pawk_fields.proofs.SearchLemmas.{IsCons, cons_at, nil_at, IsLongestOrNone, longest_end_is}
use Rattle.pawk_fields.proofs.ReadLemmas.{read_law_lem}

-- ---- the longest separator at a place

module _ (e : Pattern) (paragraph : Bool) (s : List ℕ) where
  abbrev Separates : ℕ → ℕ → Type 0
  Separates = MaySeparate e paragraph s

  -- what separates is not empty and within the text
  separates_some : (i j : ℕ) → Separates i j → (i < j) × (j ≤ length s)
  separates_some i j m = ⊎_elim
      (λ x. (x.0, some_inside e s i j x))
      (λ x. (omega (arith, x.1), omega (arith, x.1, (x.0).1)))
      m

  -- a newline, if it separates
  newline_or_none : (p b : ℕ) (rest : List ℕ) → IsCons s p b rest → (StartsNone (MatchesSome e s) p) → IsLongestOrNone Separates p (newline_end paragraph p (b ∷ rest))
  newline_or_none p b rest at none = go (paragraph && eqb b 10) refl
    where
      go : (v : Bool) → paragraph && eqb b 10 ≡ v → IsLongestOrNone Separates p (cond v (Some (p + 1)) None)
      go true is = let both = and_parts _ _ is in record {
        matches = inr ((both.0, at.more, at.byte ∙ eqb-true b 10 both.1), refl);
        longest = λ l m. ⊎_elim (λ x. absurd (none l x)) (λ x. omega (arith, x.1)) m;
      }
      go false is = λ j m. ⊎_elim (λ x. none j x)
          (λ x. let n = x.0 in let yes = and_whole _ _ n.0 (eq-eqb b 10 (sym at.byte ∙ n.2)) in let no = sym yes ∙ is in cc) m

  beyond_or_newline : (p b : ℕ) (rest : List ℕ) → IsCons s p b rest → (o : Option ℕ) → IsLongestOrNone (Takes (expand e) s) p o → IsLongestOrNone Separates p (end_beyond p o (newline_end paragraph p (b ∷ rest)))
  beyond_or_newline p b rest at None l = newline_or_none p b rest at (λ j m. l j (expand_if e s p j m.1))
  beyond_or_newline p b rest at (Some end) l = go (ltb p end) refl
    where
      go : (v : Bool) → ltb p end ≡ v → IsLongestOrNone Separates p (cond v (Some end) (newline_end paragraph p (b ∷ rest)))
      go true is =
          let lt = ltb-true p end is in
          record {
            matches = inl (lt, expand_is e s p end l.matches);
            longest = λ j m. ⊎_elim (λ x. l.longest j (expand_if e s p j x.1)) (λ x. omega (arith, x.1)) m;
          }
      go false is = newline_or_none p b rest at
          (λ j m. let far = l.longest j (expand_if e s p j m.1) in let lt = m.0 in let yes = lt-ltb p end (omega arith) in let no = sym yes ∙ is in cc)

  separator_end_is : (p b : ℕ) (rest : List ℕ) → p ≤ length s → drop p s ≡ b ∷ rest → IsLongestOrNone Separates p (separator_end (expand e) paragraph p (b ∷ rest))
  unfolding separator_end
  separator_end_is p b rest w is = beyond_or_newline p b rest (cons_at s p b rest w is) (longest_end (expand e) p (b ∷ rest)) (longest_end_is (expand e) s (b ∷ rest) p w is)

  -- ---- the fields

  abbrev GoesOn : List ℕ → ℕ → Type 0
  GoesOn rest p = (next : ℕ) → next ≤ length s → p ≤ length s → drop p s ≡ rest → ((k : ℕ) → next ≤ k → k < p → StartsNone Separates k) → AreFields Separates s next (fields_after (expand e) paragraph next p rest)

  fields_after_are : (rest : List ℕ) (begin p : ℕ) → begin ≤ length s → p ≤ length s → drop p s ≡ rest → ((k : ℕ) → begin ≤ k → k < p → StartsNone Separates k) → AreFields Separates s begin (fields_after (expand e) paragraph begin p rest)
  unfolding fields_after
  fields_after_are [] begin p low w is none =
      let end = nil_at s p w is in
      (refl, inl (λ k ge j m. ⊎_elim (λ less. none k ge less j m) (λ more. let in_text = separates_some k j m in omega arith) (cases_lt k p), end, refl))
  fields_after_are (b ∷ rest) begin p low w is none = before (λ next low later behind more. fields_after_are rest next (p + 1) low later behind more) (ltb p begin) refl
    where
      at : IsCons s p b rest
      at = cons_at s p b rest w is

      later : p + 1 ≤ length s
      later = let m = at.more in omega arith

      cut : GoesOn rest (p + 1) → begin ≤ p → (o : Option ℕ) → IsLongestOrNone Separates p o → AreFields Separates s begin (cut_or_on begin p (λ next. fields_after (expand e) paragraph next (p + 1) rest) o)
      cut on ge (Some next) l =
          let inside = separates_some p next l.matches in (
            refl,
            inr (
              next,
              record {
                matches = l.matches;
                after = ge;
                first = λ k j low less m. none k low less j m;
                longest = l.longest;
              },
              on next inside.1 later at.behind (λ k low less. absurd (omega arith)),
            ),
          )
      cut on ge None l = on begin low later at.behind
          (λ k low less. ⊎_elim (λ x. none k low x) (λ x. let same : p ≡ k = omega arith in subst (StartsNone Separates) same l) (cases_lt k p))

      before : GoesOn rest (p + 1) → (v : Bool) → ltb p begin ≡ v → AreFields Separates s begin (cond v (fields_after (expand e) paragraph begin (p + 1) rest) (cut_or_on begin p (λ next. fields_after (expand e) paragraph next (p + 1) rest) (separator_end (expand e) paragraph p (b ∷ rest))))
      before on true h = let lt = ltb-true p begin h in on begin low later at.behind (λ k low less. absurd (omega arith))
      before on false h = cut on
          (⊎_elim (λ lt. let yes = lt-ltb p begin lt in let no = sym yes ∙ h in absurd cc) (λ ge. ge) (cases_lt p begin))
          (separator_end (expand e) paragraph p (b ∷ rest))
          (separator_end_is p b rest w is)

-- ---- the law

-- what the function gives holds by the relation
abbrev Right : List ℕ → Bool → List ℕ → Result (List (ℕ × ℕ)) Fault → Type 0
Right fs paragraph s (Ok fields) = AreFieldsOf fs paragraph s fields
Right fs paragraph s (Err fault) = IsFaultOf fs s fault

right : (fs : List ℕ) (paragraph : Bool) (s : List ℕ) → Right fs paragraph s (fields_of fs paragraph s)
unfolding fields_of
right [] paragraph [] = refl
right (c ∷ []) paragraph [] = refl
right (c ∷ d ∷ fs) paragraph [] = refl
right [] paragraph (b ∷ s) = refl
right (c ∷ []) paragraph (b ∷ s) = refl
right (c ∷ d ∷ fs) paragraph (b ∷ s) = go (read_ere (c ∷ d ∷ fs)) refl
  where
    go : (o : Option Pattern) → read_ere (c ∷ d ∷ fs) ≡ o → Right (c ∷ d ∷ fs) paragraph (b ∷ s) (fields_between o paragraph (b ∷ s))
    go None is = (refl, (read_law_lem (c ∷ d ∷ fs)).none.0 is)
    go (Some e) is = record {
      expression = e;
      spelled = ((read_law_lem (c ∷ d ∷ fs)).some e).0 is;
      in_order = fields_after_are e paragraph (b ∷ s) (b ∷ s) 0 0 (omega arith) (omega arith) refl (λ k low less. absurd (omega arith));
    }

-- the relation has one fault at most
one_fault : (fs s : List ℕ) (f g : Fault) → IsFaultOf fs s f → IsFaultOf fs s g → f ≡ g
one_fault [] [] f g a b = absurd a
one_fault (c ∷ []) [] f g a b = absurd a
one_fault (c ∷ d ∷ fs) [] f g a b = absurd a
one_fault [] (x ∷ s) f g a b = a ∙ sym b
one_fault (c ∷ []) (x ∷ s) f g a b = absurd a
one_fault (c ∷ d ∷ fs) (x ∷ s) f g a b = a.0 ∙ sym b.0

pub fields_law_lem : (fs : List ℕ) (paragraph : Bool) (s : List ℕ) → FieldsLaw fs paragraph s
fields_law_lem fs paragraph s = record {
  fields = λ fields. (
    λ h. subst (Right fs paragraph s) h (right fs paragraph s),
    λ a. has (fields_of fs paragraph s) refl fields a,
  );
  fault = λ fault. (
    λ h. subst (Right fs paragraph s) h (right fs paragraph s),
    λ a. fails (fields_of fs paragraph s) refl fault a,
  );
}
  where
    has : (r : Result (List (ℕ × ℕ)) Fault) → fields_of fs paragraph s ≡ r → (fields : List (ℕ × ℕ)) → AreFieldsOf fs paragraph s fields → fields_of fs paragraph s ≡ Ok fields
    has (Ok others) is fields a =
        let law = split_law_lem fs paragraph s fields a in
        is ∙ ap Ok (law.alone others (subst (Right fs paragraph s) is (right fs paragraph s)))
    has (Err fault) is fields a =
        let law = split_law_lem fs paragraph s fields a in
        absurd (law.no_fault fault (subst (Right fs paragraph s) is (right fs paragraph s)))

    fails : (r : Result (List (ℕ × ℕ)) Fault) → fields_of fs paragraph s ≡ r → (fault : Fault) → IsFaultOf fs s fault → fields_of fs paragraph s ≡ Err fault
    fails (Ok others) is fault a =
        let law = split_law_lem fs paragraph s others (subst (Right fs paragraph s) is (right fs paragraph s)) in
        absurd (law.no_fault fault a)
    fails (Err other) is fault a = is ∙ ap Err (one_fault fs s other fault (subst (Right fs paragraph s) is (right fs paragraph s)) a)
