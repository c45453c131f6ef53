-- The law of fields.
use Rattle.std.proofs.Common.{◌≡◌, ◌⊎◌, inl, inr, ℕ, ◌+◌, ◌<◌, ◌≤◌, Bool, true, false, cond, List, [], ◌∷◌, ◌++◌, Some, None, length, drop, refl, ap, sym, ◌∙◌, subst, ⊎_elim, arith}
use Rattle.std.proofs.lemmas.Bool.{cases_lt}
use Rattle.std.proofs.lemmas.List.Folds.{drop_split}
use Rattle.std.specs.List.{slice_range}
use Rattle.pawk_value.specs.Bytes.{is_blank}
use Rattle.pawk_value.specs.declared.faults.Fault.{Fault}
use Rattle.pawk_ere_syntax.specs.Pattern.{Pattern, Leftmost, NoneFrom}
use Rattle.pawk_ere_syntax.proofs.Progress.{spells_one}
use Rattle.pawk_fields.specs.Splits.{pieces_from, words_from, separates}
use Rattle.pawk_fields.specs.FieldSeparator.{ranges_by}
use Rattle.pawk_fields.specs.declared.separator.FieldSeparator.{FieldSeparator}
use Rattle.pawk_fields.specs.declared.separator.FieldSeparator.TheVariants.{Blanks, Byte, ByteOrNewline}
use Rattle.pawk_fields.specs.Between.{AreFields, MaySeparate}
use Rattle.pawk_fields.specs.FieldsOf.{AreFieldsOf, IsFaultOf, separator_of}
use Rattle.pawk_fields.specs.Law.{AreInOrder, end_to_end, IsLawful, SplitLaw}
use Rattle.pawk_fields.proofs.BetweenLemmas.{some_inside}

-- ---- in order

-- what begins later begins here too
earlier : (from later end : ℕ) (fields : List (ℕ × ℕ)) → from ≤ later → AreInOrder later end fields → AreInOrder from end fields
earlier from later end [] le h = tt
earlier from later end (f ∷ fs) le h = (omega (arith, h.0), h.1, h.2, h.3)

one_field : (from stop end : ℕ) → from ≤ stop → stop ≤ end → AreInOrder from end ((from, stop) ∷ [])
one_field from stop end low high = (omega arith, low, high, tt)

-- between a byte
module _ (test : ℕ → Bool) where
  pieces_in_order : (t : List ℕ) (start at end : ℕ) → start ≤ at → at + length t ≡ end → AreInOrder start end (pieces_from test start at t)
  pieces_in_order [] start at end le is = one_field start at end le (omega arith)
  pieces_in_order (b ∷ t) start at end le is =
      let cut = pieces_in_order t (at + 1) (at + 1) end (omega arith) (omega (arith, is)) in
      let on = pieces_in_order t start (at + 1) end (omega arith) (omega (arith, is)) in
      elim (test b) as (λ v. AreInOrder start end (cond v ((start, at) ∷ pieces_from test (at + 1) (at + 1) t) (pieces_from test start (at + 1) t))) [
        | true ↦ (omega arith, le, omega (arith, is), earlier at (at + 1) end (pieces_from test (at + 1) (at + 1) t) (omega arith) cut)
        | false ↦ on
      ]

-- between blanks
words_in_order : (t : List ℕ) (at end : ℕ) → at + length t ≡ end → AreInOrder at end (words_from None at t) × ((start : ℕ) → start ≤ at → AreInOrder start end (words_from (Some start) at t))
words_in_order [] at end is = (tt, λ start le. one_field start at end le (omega arith))
words_in_order (b ∷ t) at end is =
    let later = words_in_order t (at + 1) end (omega (arith, is)) in
    let none = later.0 in
    let some = later.1 in (
      elim (is_blank b) as (λ v. AreInOrder at end (cond v (words_from None (at + 1) t) (words_from (Some at) (at + 1) t))) [
        | true ↦ earlier at (at + 1) end (words_from None (at + 1) t) (omega arith) none
        | false ↦ some at (omega arith)
      ],
      λ start le. elim (is_blank b) as (λ v. AreInOrder start end (cond v ((start, at) ∷ words_from None (at + 1) t) (words_from (Some start) (at + 1) t))) [
        | true ↦ (omega arith, le, omega (arith, is), earlier at (at + 1) end (words_from None (at + 1) t) (omega arith) none)
        | false ↦ some start (omega arith)
      ],
    )

plain_in_order : (separator : FieldSeparator) (s : List ℕ) → AreInOrder 0 (length s) (ranges_by separator s)
plain_in_order separator [] = tt
plain_in_order Blanks (b ∷ s) = (words_in_order (b ∷ s) 0 (length (b ∷ s)) (omega arith)).0
plain_in_order (Byte c) (b ∷ s) = pieces_in_order (separates c false) (b ∷ s) 0 0 (length (b ∷ s)) (omega arith) (omega arith)
plain_in_order (ByteOrNewline c) (b ∷ s) = pieces_in_order (separates c true) (b ∷ s) 0 0 (length (b ∷ s)) (omega arith) (omega arith)

-- between separators that are not empty and do not pass the end
module _ (R : ℕ → ℕ → Type 0) (s : List ℕ) (some : (i j : ℕ) → R i j → (i < j) × (j ≤ length s)) where
  fields_in_order : (fields : List (ℕ × ℕ)) (from : ℕ) → from ≤ length s → AreFields R s from fields → AreInOrder from (length s) fields
  fields_in_order [] from le h = absurd h
  fields_in_order (f ∷ fs) from le h = elim h.1 [
    | inl last ↦ (omega (arith, h.0), omega (arith, h.0, last.1), omega (arith, last.1), subst (AreInOrder f.1 (length s)) (sym last.2) tt)
    | inr more ↦ (
        let found = more.1 in
        let ends = some f.1 more.0 found.matches in
        let rest = fields_in_order fs more.0 ends.1 more.2 in
        (omega (arith, h.0), omega (arith, h.0, found.after), omega (arith, ends), earlier f.1 more.0 (length s) fs (omega (arith, ends)) rest))
  ]

  -- there is no other list
  only_fields : (fields others : List (ℕ × ℕ)) (from : ℕ) → AreFields R s from fields → AreFields R s from others → others ≡ fields
  only_fields [] others from h g = absurd h
  only_fields (f ∷ fs) [] from h g = absurd g
  only_fields (f ∷ fs) (x ∷ xs) from h g =
      ap (λ p. (p, x.1) ∷ xs) (g.0 ∙ sym h.0) ∙ by_ends (λ next a b. only_fields fs xs next a b) h.1 g.1
    where
      by_ends : ((next : ℕ) → AreFields R s next fs → AreFields R s next xs → xs ≡ fs) → ((NoneFrom R from × (f.1 ≡ length s) × (fs ≡ [])) ⊎ ((next : ℕ) × Leftmost R from f.1 next × AreFields R s next fs))
          → ((NoneFrom R from × (x.1 ≡ length s) × (xs ≡ [])) ⊎ ((next : ℕ) × Leftmost R from x.1 next × AreFields R s next xs))
          → (f.0, x.1) ∷ xs ≡ f ∷ fs
      by_ends rest (inl a) (inl b) = ap (λ p. (f.0, p) ∷ xs) (b.1 ∙ sym a.1) ∙ ap (λ l. f ∷ l) (b.2 ∙ sym a.2)
      by_ends rest (inl a) (inr b) = absurd (a.0 x.1 b.1.after b.0 b.1.matches)
      by_ends rest (inr a) (inl b) = absurd (b.0 f.1 a.1.after a.0 a.1.matches)
      by_ends rest (inr a) (inr b) =
          let start : x.1 ≡ f.1 = ⊎_elim
          (λ less. absurd (a.1.first x.1 b.0 b.1.after less b.1.matches))
          (λ more. ⊎_elim (λ less. absurd (b.1.first f.1 a.0 a.1.after less a.1.matches)) (λ same. omega arith) (cases_lt f.1 x.1))
          (cases_lt x.1 f.1) in
          let long = b.1.longest a.0 (subst (λ p. R p a.0) (sym start) a.1.matches) in
          let far = a.1.longest b.0 (subst (λ p. R p b.0) start b.1.matches) in
          let next : b.0 ≡ a.0 = omega arith in
          ap (λ p. (f.0, p) ∷ xs) start ∙ ap (λ l. f ∷ l) (rest a.0 a.2 (subst (λ p. AreFields R s p xs) next b.2))

-- ---- laid end to end

end_to_end_is : (s : List ℕ) (fields : List (ℕ × ℕ)) (from : ℕ) → AreInOrder from (length s) fields → end_to_end s from fields ≡ drop from s
end_to_end_is s [] from h = refl
end_to_end_is s (f ∷ fs) from h =
    ap (λ l. slice_range s from f.0 ++ (slice_range s f.0 f.1 ++ l)) (end_to_end_is s fs f.1 h.3)
    ∙ ap (λ l. slice_range s from f.0 ++ l) (sym (drop_split s f.0 f.1 h.1))
    ∙ sym (drop_split s from f.0 h.0)

-- ---- the law

separates_some : (e : Pattern) (paragraph : Bool) (s : List ℕ) (i j : ℕ) → MaySeparate e paragraph s i j → (i < j) × (j ≤ length s)
separates_some e paragraph s i j m = ⊎_elim
    (λ x. (x.0, some_inside e s i j x))
    (λ x. (omega (arith, x.1), omega (arith, x.1, (x.0).1)))
    m

lawful : (fs : List ℕ) (paragraph : Bool) (s : List ℕ) (fields : List (ℕ × ℕ)) → AreInOrder 0 (length s) fields → ((others : List (ℕ × ℕ)) → AreFieldsOf fs paragraph s others → others ≡ fields) → ((fault : Fault) → IsFaultOf fs s fault → ⊥) → IsLawful fs paragraph s fields
lawful fs paragraph s fields order alone fault = record {
  in_order = order;
  whole = end_to_end_is s fields 0 order;
  alone = alone;
  no_fault = fault;
}

pub split_law_lem : (fs : List ℕ) (paragraph : Bool) (s : List ℕ) → SplitLaw fs paragraph s
split_law_lem fs paragraph [] fields h = lawful fs paragraph [] fields (subst (AreInOrder 0 0) (sym h) tt) (λ others g. g ∙ sym h) (λ fault f. absurd f)
split_law_lem [] paragraph (b ∷ s) fields h = absurd h
split_law_lem (c ∷ []) paragraph (b ∷ s) fields h =
    lawful (c ∷ []) paragraph (b ∷ s) fields
    (subst (AreInOrder 0 (length (b ∷ s))) (sym h) (plain_in_order (separator_of c paragraph) (b ∷ s)))
    (λ others g. g ∙ sym h)
    (λ fault f. absurd f)
split_law_lem (c ∷ d ∷ fs) paragraph (b ∷ s) fields h =
    let e = h.expression in
    lawful (c ∷ d ∷ fs) paragraph (b ∷ s) fields
    (fields_in_order (MaySeparate e paragraph (b ∷ s)) (b ∷ s) (separates_some e paragraph (b ∷ s)) fields 0 (omega arith) h.in_order)
    (λ others g. let same : g.expression ≡ e = spells_one (c ∷ d ∷ fs) g.expression e g.spelled h.spelled in
    only_fields (MaySeparate e paragraph (b ∷ s)) (b ∷ s) (separates_some e paragraph (b ∷ s)) fields others 0 h.in_order (subst (λ (x : Pattern). AreFields (MaySeparate x paragraph (b ∷ s)) (b ∷ s) 0 others) same g.in_order))
    (λ fault f. f.1 e h.spelled)
