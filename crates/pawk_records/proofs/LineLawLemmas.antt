-- Records that end at one byte are the one list that spells the bytes.
use Rattle.std.proofs.Common.{◌≡◌, ◌≢◌, inl, inr, ℕ, true, false, eqb, List, [], ◌∷◌, ◌++◌, refl, ap, sym, ◌∙◌}
use Rattle.std.proofs.lemmas.Bool.Decides.{eqb_tells}
use Rattle.std.specs.List.{onto_first}
use Rattle.pawk_records.specs.Records.{records, NoSeparator, IsSpelledBy, RecordsLaw}

module _ (e : ℕ) where
  not_separator : (b : ℕ) → b ≢ e → eqb b e ≡ false
  not_separator b n = elim (eqb_tells b e) [ inl y ↦ absurd (n y.1) | inr f ↦ f.0 ]

  same : eqb e e ≡ true
  same = elim (eqb_tells e e) [ inl y ↦ y.0 | inr f ↦ absurd (f.1 refl) ]

  more : (r t : List ℕ) → NoSeparator e r → records e (r ++ e ∷ t) ≡ r ∷ records e t
  more [] t n = rw same refl
  more (b ∷ r) t n = rw (not_separator b n.0) (ap (onto_first b) (more r t n.1))

  alone : (r : List ℕ) → NoSeparator e r → r ≢ [] → records e r ≡ r ∷ []
  alone [] n some = absurd (some refl)
  alone (b ∷ []) n some = rw (not_separator b n.0) refl
  alone (b ∷ x ∷ r) n some = rw (not_separator b n.0) (ap (onto_first b) (alone (x ∷ r) n.1 (λ z. cc)))

  unique : (s : List ℕ) (rs : List (List ℕ)) → IsSpelledBy e s rs → rs ≡ records e s
  unique s [] h = rw h refl
  unique s (r ∷ rs) h = elim h.1 [
    | inl last ↦ rw (last.0, last.2) (sym (alone r h.0 last.1))
    | inr next ↦ (ap (λ l. r ∷ l) (unique next.0 rs next.2) ∙ sym (more r next.0 h.0) ∙ ap (records e) (sym next.1))
  ]

  grown : (b : ℕ) (s : List ℕ) (rs : List (List ℕ)) → b ≢ e → IsSpelledBy e s rs → IsSpelledBy e (b ∷ s) (onto_first b rs)
  grown b s [] n h = ((n, tt), inl (refl, (λ z. cc), ap (λ l. b ∷ l) h))
  grown b s (r ∷ rs) n h = (
    (n, h.0),
    elim h.1 [
      | inl last ↦ inl (last.0, (λ z. cc), ap (λ l. b ∷ l) last.2)
      | inr next ↦ inr (next.0, ap (λ l. b ∷ l) next.1, next.2)
    ],
  )

  spelled : (s : List ℕ) → IsSpelledBy e s (records e s)
  spelled [] = refl
  spelled (b ∷ s) =
      let rest = spelled s in
      elim (eqb_tells b e) [
        | inl y ↦ rw y.0 (tt, inr (s, ap (λ x. x ∷ s) y.1, rest))
        | inr f ↦ rw f.0 (grown b s (records e s) f.1 rest)
      ]

  pub line_law : (rs s : List ℕ) → RecordsLaw (e ∷ rs) s
  line_law rs s = (spelled s, unique s)
