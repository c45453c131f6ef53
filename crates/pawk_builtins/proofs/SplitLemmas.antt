-- The ranges that a split gives are those of the pieces.
use Rattle.std.proofs.Common.{◌≡◌, ℕ, zero, suc, ◌+◌, ◌<◌, ◌≤◌, arith, Bool, true, false, cond, ltb, Option, Some, None, Result, Ok, Err, List, [], ◌∷◌, ◌++◌, length, map, drop, slice_range, IfOk, IfErr, Vec, Global, refl, sym, ap, ◌∙◌, subst, inl, ⊎_elim}
use Rattle.std.specs.declared.ops.Range.{Range}
use Rattle.std.proofs.lemmas.Bool.{cases_lt, ltb-true, ltb-false}
use Rattle.pawk_value.specs.declared.faults.Stop.{Stop}
use Rattle.pawk_value.specs.declared.faults.Stop.TheVariants as stop
use Rattle.pawk_ere_syntax.specs.Pattern.{Pattern, StartsNone, IsLongest}
use Rattle.pawk_ere_syntax.specs.Tokens.{SpellsEre}
use Rattle.pawk_ere_automaton.specs.Expand.{expand}
use Rattle.pawk_ere_automaton.specs.Regex.{Takes}
use Rattle.pawk_ere_automaton.proofs.Turns.{expand_is, expand_if}
use Rattle.pawk_fields.specs.FieldSeparator.{range_of}
use Rattle.pawk_fields.specs.Between.{MatchesSome, MaySeparate, AreFields, AreFieldsBetween}
use Rattle.pawk_fields.specs.FieldsOf.{AddsFields, AddsBetween, TellsNone, IfFault, IsFaultOf}
use Rattle.pawk_fields.specs.Law.{AreInOrder}
use Rattle.pawk_fields.proofs.BetweenLemmas.{some_inside}
use Rattle.pawk_fields.proofs.LawLemmas.{split_law_lem}
use Rattle.pawk_fields.specs.Search.{longest_end}
use Rattle.pawk_fields.specs.FieldList.{end_beyond, separator_end, cut_or_on, fields_after}
use Rattle.pawk_fields.proofs.SearchLemmas.{IsCons, cons_at, nil_at, IsLongestOrNone, longest_end_is}
use Rattle.pawk_fields.proofs.FieldLemmas.{fields_law_lem}
use Rattle.pawk_store.specs.Builtins.{pattern_of_text, pieces_at, pieces_by, pieces_between}
use Rattle.pawk_builtins.proofs.MatchLemmas.{spells_is, none_is}
use Rattle.pawk_builtins.specs.MatcherViews.{AreInside, AreBetweenMatches}
use Rattle.pawk_builtins.specs.Pieces.{pieces_in}
use Rattle.pawk_builtins.specs.Settles.{Settles}

-- ---- ranges and pieces

pieces_are : (s : List ℕ) (fields : List (ℕ × ℕ)) → pieces_at s (Ok fields) ≡ Ok (pieces_in s (map range_of fields))
pieces_are s fields = ap Ok (go fields)
  where
    go : (fields : List (ℕ × ℕ)) → map (λ (r : ℕ × ℕ). slice_range s r.0 r.1) fields ≡ pieces_in s (map range_of fields)
    go [] = refl
    go (f ∷ fs) = ap (λ ps. slice_range s f.0 f.1 ∷ ps) (go fs)

in_order_inside : (s : List ℕ) (from : ℕ) (fields : List (ℕ × ℕ)) → AreInOrder from (length s) fields → AreInside s (map range_of fields)
in_order_inside s from [] h = λ k d below. absurd (omega arith)
in_order_inside s from (f ∷ fs) h = at (in_order_inside s f.1 fs h.3)
  where
    at : AreInside s (map range_of fs) → AreInside s (map range_of (f ∷ fs))
    at rest zero d below = (h.1, h.2)
    at rest (suc k) d below = rest k d (omega arith)

fields_inside : (fs : List ℕ) (s : List ℕ) (fields : List (ℕ × ℕ)) (ranges : List (Range ℕ)) → AreInOrder 0 (length s) fields → ranges ≡ [] ++ map range_of fields → AreInside s ranges
fields_inside fs s fields ranges h is = subst (AreInside s) (sym is) (in_order_inside s 0 fields h)

-- ---- by an FS

pub split_settles : (fs s : List ℕ) (r : Result (Vec (Range ℕ) Global) Stop) → IfOk r (λ ranges. AddsFields fs false s [] ranges.items) → IfErr r (λ stop. IfFault stop (IsFaultOf fs s)) →
    Settles (λ (ranges : Vec (Range ℕ) Global). pieces_in s ranges.items) (pieces_by fs s) r
split_settles fs s (Ok ranges) a f =
    ap (pieces_at s) (((fields_law_lem fs false s).fields a.fields).1 a.right) ∙ (pieces_are s a.fields ∙ ap (λ rs. Ok (pieces_in s rs)) (sym a.added))
split_settles fs s (Err (stop.Fault x)) a f = ap (pieces_at s) (((fields_law_lem fs false s).fault x).1 f)
split_settles fs s (Err stop.Memory) a f = tt

pub split_inside : (fs s : List ℕ) (r : Result (Vec (Range ℕ) Global) Stop) → IfOk r (λ ranges. AddsFields fs false s [] ranges.items) → IfOk r (λ ranges. AreInside s ranges.items)
split_inside fs s (Ok ranges) a = fields_inside fs s a.fields ranges.items (split_law_lem fs false s a.fields a.right).in_order a.added
split_inside fs s (Err e) a = tt

-- ---- between matches

module _ (e : Pattern) (s : List ℕ) where
  abbrev Separates : ℕ → ℕ → Type 0
  Separates = MaySeparate e false s

  -- what separates is a match that is not empty
  some : (i j : ℕ) → Separates i j → MatchesSome e s i j
  some i j m = ⊎_elim (λ x. x) (λ x. absurd (let no = (x.0).0 in cc)) m

  separator_is : (p b : ℕ) (rest : List ℕ) → p ≤ length s → drop p s ≡ b ∷ rest → IsLongestOrNone Separates p (separator_end (expand e) false p (b ∷ rest))
  unfolding separator_end
  separator_is p b rest w is = go (longest_end (expand e) p (b ∷ rest)) (longest_end_is (expand e) s (b ∷ rest) p w is)
    where
      none : ((j : ℕ) → Takes (expand e) s p j → j ≤ p) → StartsNone Separates p
      none h j m = let x = some p j m in let y = h j (expand_if e s p j x.1) in let z = x.0 in absurd (omega arith)

      at : (end : ℕ) → IsLongest (Takes (expand e) s) p end → (v : Bool) → ltb p end ≡ v → IsLongestOrNone Separates p (cond v (Some end) None)
      at end l true is = record {
        matches = inl (ltb-true p end is, expand_is e s p end l.matches);
        longest = λ j m. l.longest j (expand_if e s p j (some p j m).1);
      }
      at end l false is = none (λ j m. let x = l.longest j m in let y = ltb-false p end is in omega arith)

      go : (o : Option ℕ) → IsLongestOrNone (Takes (expand e) s) p o → IsLongestOrNone Separates p (end_beyond p o None)
      go None l = none (λ j m. absurd (l j m))
      go (Some end) l = at end l (ltb p end) refl

  abbrev Only : ℕ → ℕ → List ℕ → List (ℕ × ℕ) → Type 0
  Only begin p rest fields = fields ≡ fields_after (expand e) false begin p rest

  abbrev None_before : ℕ → ℕ → Type 0
  None_before begin p = (k : ℕ) → begin ≤ k → k < p → StartsNone Separates k

  only_fields : (rest : List ℕ) (begin p : ℕ) (fields : List (ℕ × ℕ)) → p ≤ length s → drop p s ≡ rest → None_before begin p → AreFields Separates s begin fields → Only begin p rest fields
  unfolding fields_after
  only_fields rest begin p [] w is none a = absurd a
  only_fields [] begin p (f ∷ fs) w is none a = ⊎_elim
      (λ x. let end : f.1 ≡ p = omega (arith, nil_at s p w is, x.1) in
      ap (λ q. (q, f.1) ∷ fs) a.0 ∙ (ap (λ q. (begin, q) ∷ fs) end ∙ ap (λ l. (begin, p) ∷ l) x.2))
      (λ x. let l = x.1 in let in_text = some_inside e s f.1 x.0 (some f.1 x.0 l.matches) in let lt = (some f.1 x.0 l.matches).0 in
      absurd (⊎_elim (λ less. none f.1 l.after less x.0 l.matches) (λ more. omega (arith, nil_at s p w is)) (cases_lt f.1 p)))
      a.1
  only_fields (b ∷ rest) begin p (f ∷ fs) w is none a = before (λ next later behind more fields. only_fields rest next (p + 1) fields later behind more) (ltb p begin) refl
    where
      at : IsCons s p b rest
      at = cons_at s p b rest w is

      later : p + 1 ≤ length s
      later = let m = at.more in omega arith

      GoesOn : Type 0
      GoesOn = (next : ℕ) → p + 1 ≤ length s → drop (p + 1) s ≡ rest → None_before next (p + 1) → (fields : List (ℕ × ℕ)) → AreFields Separates s next fields → Only next (p + 1) rest fields

      goes_on : (begin ≤ p) → StartsNone Separates p → None_before begin (p + 1)
      goes_on ge l k low less = ⊎_elim (λ x. none k low x) (λ x. let same : p ≡ k = omega arith in subst (StartsNone Separates) same l) (cases_lt k p)

      cut : GoesOn → begin ≤ p → (o : Option ℕ) → IsLongestOrNone Separates p o → f ∷ fs ≡ cut_or_on begin p (λ next. fields_after (expand e) false next (p + 1) rest) o
      cut on ge None l = on begin later at.behind (goes_on ge l) (f ∷ fs) a
      cut on ge (Some end) l = ⊎_elim (λ x. absurd (x.0 p ge end l.matches))
          (λ m.
          let start : f.1 ≡ p = ⊎_elim
          (λ less. absurd (none f.1 m.1.after less m.0 m.1.matches))
          (λ more. ⊎_elim (λ less. absurd (m.1.first p end ge less l.matches)) (λ same. omega arith) (cases_lt p f.1))
          (cases_lt f.1 p) in
          let long = l.longest m.0 (subst (λ q. Separates q m.0) start m.1.matches) in
          let far = m.1.longest end (subst (λ q. Separates q end) (sym start) l.matches) in
          let next : m.0 ≡ end = omega arith in
          let lt = (some p end l.matches).0 in
          ap (λ q. (q, f.1) ∷ fs) a.0 ∙ (ap (λ q. (begin, q) ∷ fs) start
          ∙ ap (λ l. (begin, p) ∷ l) (on end later at.behind (λ k low less. absurd (omega arith)) fs (subst (λ q. AreFields Separates s q fs) next m.2))))
          a.1

      before : GoesOn → (v : Bool) → ltb p begin ≡ v → f ∷ fs ≡ cond v (fields_after (expand e) false begin (p + 1) rest) (cut_or_on begin p (λ next. fields_after (expand e) false next (p + 1) rest) (separator_end (expand e) false p (b ∷ rest)))
      before on true h = let lt = ltb-true p begin h in on begin later at.behind (λ k low less. absurd (omega arith)) (f ∷ fs) a
      before on false h = cut on (ltb-false p begin h) (separator_end (expand e) false p (b ∷ rest)) (separator_is p b rest w is)

  fields_within : (fields : List (ℕ × ℕ)) (from : ℕ) → from ≤ length s → AreFields Separates s from fields → AreInside s (map range_of fields)
  fields_within [] from w a = absurd a
  fields_within (f ∷ fs) from w a = at (⊎_elim
      (λ x. (subst (λ l. AreInside s (map range_of l)) (sym x.2) (λ k d below. absurd (omega arith)), omega (arith, x.1)))
      (λ m. let y = some f.1 m.0 m.1.matches in let z = some_inside e s f.1 m.0 y in let v = y.0 in (fields_within fs m.0 z m.2, omega arith))
      a.1)
    where
      first : f.0 ≤ f.1
      first = ⊎_elim (λ x. let h = a.0 in let i = x.1 in omega (arith, w)) (λ m. let g = m.1.after in let h = a.0 in omega arith) a.1

      at : AreInside s (map range_of fs) × (f.1 ≤ length s) → AreInside s (map range_of (f ∷ fs))
      at rest zero d below = (first, rest.1)
      at rest (suc k) d below = rest.0 k d (omega arith)

between_are : (bytes s : List ℕ) (e : Pattern) (fields : List (ℕ × ℕ)) (ranges : List (Range ℕ)) → AreFieldsBetween bytes false s fields → ranges ≡ [] ++ map range_of fields → SpellsEre bytes e → AreBetweenMatches bytes s ranges
between_are bytes [] e fields ranges a is spelled = record {
  pattern = e;
  spelled = spelled;
  pieces = ap (λ rs. Ok (pieces_in [] rs)) (sym (is ∙ ap (map range_of) a));
}
between_are bytes (b ∷ s) e fields ranges a is spelled = record {
  pattern = a.expression;
  spelled = a.spelled;
  pieces = ap (pieces_at (b ∷ s)) (ap Ok (sym (only_fields a.expression (b ∷ s) (b ∷ s) 0 0 fields (omega arith) refl (λ k low less. absurd (omega arith)) a.in_order)))
      ∙ (pieces_are (b ∷ s) fields ∙ ap (λ rs. Ok (pieces_in (b ∷ s) rs)) (sym is));
}

between_within : (bytes s : List ℕ) (fields : List (ℕ × ℕ)) (ranges : List (Range ℕ)) → AreFieldsBetween bytes false s fields → ranges ≡ [] ++ map range_of fields → AreInside s ranges
between_within bytes [] fields ranges a is = subst (AreInside []) (sym (is ∙ ap (map range_of) a)) (λ k d below. absurd (omega arith))
between_within bytes (b ∷ s) fields ranges a is = subst (AreInside (b ∷ s)) (sym is) (fields_within a.expression (b ∷ s) fields 0 (omega arith) a.in_order)

pub between_of : (bytes s : List ℕ) (e : Pattern) (ranges : List (Range ℕ)) → AddsBetween bytes false s [] ranges → SpellsEre bytes e → AreBetweenMatches bytes s ranges
between_of bytes s e ranges a spelled = between_are bytes s e a.fields ranges a.right a.added spelled

pub between_inside : (bytes s : List ℕ) (ranges : List (Range ℕ)) → AddsBetween bytes false s [] ranges → AreInside s ranges
between_inside bytes s ranges a = between_within bytes s a.fields ranges a.right a.added

pub between_settles : (bytes s : List ℕ) (r : Result (Vec (Range ℕ) Global) Stop) → IfOk r (λ ranges. AreBetweenMatches bytes s ranges.items) → IfErr r (TellsNone bytes) →
    Settles (λ (ranges : Vec (Range ℕ) Global). pieces_in s ranges.items) (pieces_between (pattern_of_text bytes) s) r
between_settles bytes s (Ok ranges) a t = ap (λ e. pieces_between e s) (spells_is bytes a.pattern a.spelled) ∙ a.pieces
between_settles bytes s (Err (stop.Fault f)) a t = ap (λ e. pieces_between e s) (none_is bytes f t)
between_settles bytes s (Err stop.Memory) a t = tt
