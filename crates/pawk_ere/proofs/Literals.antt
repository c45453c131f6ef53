-- Expressions that are some bytes and nothing else.
use Rattle.std.proofs.Common.{◌≡◌, ℕ, ◌+◌, ◌-◌, ◌<◌, ◌≤◌, Bool, drop, take, length-drop, List, [], ◌∷◌, ◌++◌, length, get_or, Some, None, refl, sym, ap, ◌∙◌, subst, ⊎_elim, arith, length-append}
use Rattle.std.proofs.lemmas.Bool.{cases_lt}
use Rattle.std.proofs.lemmas.List.{get_or_append_left, get_or-drop}
use Rattle.std.proofs.Math.Seq.{get_or-append_right}
use Rattle.std.specs.Prelude.{slice_index}
use Rattle.memchr.specs.Find.{OccursAt}
use Rattle.pawk_ere_syntax.specs.Pattern.{Holds, IsFound}
use Rattle.pawk_ere.specs.Words.{IsLiteral}
use Rattle.pawk_ere_automaton.proofs.Leftmost.{found_none, found_first}
use Rattle.pawk_ere_automaton.proofs.Walks.{tail}
use Rattle.pawk_ere_automaton.specs.Regex.{Regex, Bytes, Sequence, Takes}

pub occurs_join : (s x y : List ℕ) (i : ℕ) → OccursAt s x i → OccursAt s y (i + length x) → OccursAt s (x ++ y) i
occurs_join s x y i a b = record {
  fits = let f = b.fits in omega (arith, length-append x y);
  reads = λ q lt. ⊎_elim
      (λ l. a.reads q l ∙ sym (get_or_append_left x y 0 q l))
      (λ l.
      let here : i + q ≡ (i + length x) + (q - length x) = omega arith in
      let short : q - length x < length y = omega (arith, length-append x y) in
      ap (slice_index s) here ∙ b.reads (q - length x) short ∙ sym (get_or-append_right x y q 0 l))
      (cases_lt q (length x));
}

occurs_first : (s x y : List ℕ) (i : ℕ) → OccursAt s (x ++ y) i → OccursAt s x i
occurs_first s x y i a = record {
  fits = let f = a.fits in omega (arith, length-append x y);
  reads = λ q lt. a.reads q (omega (arith, length-append x y)) ∙ get_or_append_left x y 0 q lt;
}

occurs_second : (s x y : List ℕ) (i : ℕ) → OccursAt s (x ++ y) i → OccursAt s y (i + length x)
occurs_second s x y i a = record {
  fits = let f = a.fits in omega (arith, length-append x y);
  reads = λ q lt.
      let here : (i + length x) + q ≡ i + (length x + q) = omega arith in
      let there : (length x + q) - length x ≡ q = omega arith in
      ap (slice_index s) here ∙ a.reads (length x + q) (omega (arith, length-append x y)) ∙ get_or-append_right x y (length x + q) 0 (omega arith) ∙ ap (slice_index y) there;
}

pub literal_sequence : (a b : Regex) (x y : List ℕ) → IsLiteral a x → IsLiteral b y → IsLiteral (Sequence a b) (x ++ y)
literal_sequence a b x y f g s i j = (
  λ t.
      let p = (f s i t.0).0 t.1 in
      let q = (g s t.0 j).0 t.2 in
      (occurs_join s x y i p.0 (subst (OccursAt s y) p.1 q.0), omega (arith, p.1, q.1, length-append x y)),
  λ o.
      (i + length x, (f s i (i + length x)).1 (occurs_first s x y i o.0, refl), (g s (i + length x) j).1 (occurs_second s x y i o.0, omega (arith, o.1, length-append x y))),
)

-- a set of one byte
pub literal_byte : (members : List Bool) (byte : ℕ) → Holds members byte → ((b : ℕ) → Holds members b → b ≡ byte) → IsLiteral (Bytes members) (byte ∷ [])
literal_byte members byte holds only s i j = (
  λ t. (
    record {
      fits = omega (arith, t.0);
      reads = reads (only (get_or s i 0) t.2);
    },
    omega (arith, t.1),
  ),
  λ o. (let f = o.0.fits in omega arith, omega (arith, o.1), subst (Holds members) (sym (read o.0)) holds),
)
  where
    reads : get_or s i 0 ≡ byte → (q : ℕ) → q < length (byte ∷ []) → slice_index s (i + q) ≡ slice_index (byte ∷ []) q
    reads h q lt =
        let none : q ≡ 0 = omega arith in
        let here : i + q ≡ i = omega arith in
        ap (slice_index s) here ∙ h ∙ ap (slice_index (byte ∷ [])) (sym none)

    read : OccursAt s (byte ∷ []) i → get_or s i 0 ≡ byte
    read o =
        let here : i ≡ i + 0 = omega arith in
        ap (slice_index s) here ∙ o.reads 0 (omega arith)

pub occurs_ahead : (s needle : List ℕ) (from k : ℕ) → OccursAt (drop from s) needle k → from ≤ length s → OccursAt s needle (from + k)
occurs_ahead s needle from k o le = record {
  fits = let f = o.fits in omega (arith, length-drop from s);
  reads = λ j lt.
      let there : (from + k) + j ≡ from + (k + j) = omega arith in
      ap (slice_index s) there ∙ sym (get_or-drop from s (k + j) 0) ∙ o.reads j lt;
}

pub occurs_after : (s needle : List ℕ) (from i : ℕ) → OccursAt s needle i → from ≤ i → from ≤ length s → OccursAt (drop from s) needle (i - from)
occurs_after s needle from i o le within' = record {
  fits = let f = o.fits in omega (arith, length-drop from s);
  reads = λ j lt.
      let there : from + ((i - from) + j) ≡ i + j = omega arith in
      get_or-drop from s ((i - from) + j) 0 ∙ ap (slice_index s) there ∙ o.reads j lt;
}

-- the bytes of a literal occur nowhere
pub literal_none : (e : Regex) (s needle : List ℕ) (from : ℕ) → from ≤ length s → ((k : ℕ) → 0 ≤ k → k < length (take (length s - from) (drop from s)) + 1 → OccursAt (take (length s - from) (drop from s)) needle k → ⊥) → IsLiteral e needle → IsFound (Takes e s) from None
literal_none e s needle from le all is =
    let none = subst (λ hay. (k : ℕ) → 0 ≤ k → k < length hay + 1 → OccursAt hay needle k → ⊥) (tail s from) all in
    found_none e s from (λ k ge j m.
    let o = ((is s k j).0 m).0 in
    let f = o.fits in
    none (k - from) (omega arith) (omega (arith, length-drop from s)) (occurs_after s needle from k o ge le))

-- the first place where the bytes of a literal occur
pub literal_some : (e : Regex) (s needle : List ℕ) (from ahead : ℕ) → from ≤ length s → OccursAt (take (length s - from) (drop from s)) needle ahead → ((k : ℕ) → 0 ≤ k → k < ahead → OccursAt (take (length s - from) (drop from s)) needle k → ⊥) → IsLiteral e needle → IsFound (Takes e s) from (Some (from + ahead, (from + ahead) + length needle))
literal_some e s needle from ahead le at all is =
    let here = subst (λ hay. OccursAt hay needle ahead) (tail s from) at in
    let before = subst (λ hay. (k : ℕ) → 0 ≤ k → k < ahead → OccursAt hay needle k → ⊥) (tail s from) all in
    found_first e s from (from + ahead) ((from + ahead) + length needle) (omega arith)
    (λ k ge lt j m.
    let o = ((is s k j).0 m).0 in
    before (k - from) (omega arith) (omega arith) (occurs_after s needle from k o ge le))
    (record {
      matches = (is s (from + ahead) ((from + ahead) + length needle)).1 (occurs_ahead s needle from ahead here le, refl);
      longest = λ l m. let x = ((is s (from + ahead) l).0 m).1 in omega arith;
    })
