-- Paragraphs are the one list into which the bytes are parted.
use Rattle.std.proofs.Common.{◌≡◌, ◌≢◌, ◌⊎◌, inl, inr, ℕ, ◌≤◌, true, false, ◌&&◌, cond, eqb, eq-eqb, List, [], ◌∷◌, ◌++◌, length, refl, ap, arith, sym, ◌∙◌}
use Rattle.std.proofs.lemmas.Bool.{false≢true}
use Rattle.std.proofs.lemmas.Bool.Decides.{eqb_tells}
use Rattle.std.specs.List.{onto_first}
use Rattle.pawk_records.specs.Records.{newline, ends_line, paragraphs, paragraphs_from, AllNewlines, GoesOn, IsParagraph, IsParted, RecordsLaw}

other : (b : ℕ) → b ≢ newline → eqb b newline ≡ false
other b n = elim (eqb_tells b newline) [ inl y ↦ absurd (n y.1) | inr f ↦ f.0 ]

-- ---- there is no other list

past_gap : (gap s : List ℕ) → AllNewlines gap → paragraphs (gap ++ s) ≡ paragraphs s
past_gap [] s h = refl
past_gap (b ∷ gap) s h = rw (eq-eqb b newline h.0) (past_gap gap s h.1)

of_newlines : (s : List ℕ) → AllNewlines s → paragraphs s ≡ []
of_newlines [] h = refl
of_newlines (b ∷ s) h = rw (eq-eqb b newline h.0) (of_newlines s h.1)

-- after a paragraph comes nothing, or a newline at the end or before another
abbrev Follows : List ℕ → Type 0
Follows [] = Unit {0}
Follows (b ∷ s) = (b ≡ newline) × (ends_line s ≡ true)

newlines_follow : (s : List ℕ) → AllNewlines s → Follows s
newlines_follow [] h = tt
newlines_follow (b ∷ []) h = (h.0, refl)
newlines_follow (b ∷ c ∷ s) h = (h.0, eq-eqb c newline h.1.0)

gap_follows : (gap s : List ℕ) → AllNewlines gap → 2 ≤ length gap → Follows (gap ++ s)
gap_follows [] s h two = absurd (omega arith)
gap_follows (b ∷ []) s h two = absurd (omega arith)
gap_follows (b ∷ c ∷ gap) s h two = (h.0, eq-eqb c newline h.1.0)

rest_follows : (s : List ℕ) (ps : List (List ℕ)) → IsParted 2 s ps → Follows s
rest_follows s [] h = newlines_follow s h
rest_follows s (p ∷ ps) h = rw h.2 (gap_follows h.0 (p ++ h.1) h.3 h.4)

-- where nothing of a paragraph is left the others follow
ended : (s : List ℕ) → Follows s → paragraphs_from true s ≡ [] ∷ paragraphs s
ended [] h = refl
ended (b ∷ s) h = rw (eq-eqb b newline h.0, h.1) refl

-- inside a paragraph no newline ends it
goes_on : (c : ℕ) (r s : List ℕ) → GoesOn c r → (eqb c newline && ends_line (r ++ s)) ≡ false
goes_on c [] s h = rw (other c h) refl
goes_on c (d ∷ r) s h = elim h.0 [
  | inl n ↦ rw (other c n) refl
  | inr n ↦ elim (eqb c newline) as (λ v. (v && eqb d newline) ≡ false) [ true ↦ other d n | false ↦ refl ]
]

inside : (b : ℕ) (r s : List ℕ) → GoesOn b r → Follows s → paragraphs_from true (r ++ s) ≡ r ∷ paragraphs s
inside b [] s h f = ended s f
inside b (c ∷ r) s h f = rw (goes_on c r s h.1) (ap (onto_first c) (inside c r s h.1 f))

of_paragraph : (r s : List ℕ) → IsParagraph r → Follows s → paragraphs (r ++ s) ≡ r ∷ paragraphs s
of_paragraph [] s h f = absurd h
of_paragraph (b ∷ r) s h f = rw (other b h.0) (ap (onto_first b) (inside b r s h.1 f))

unique : (least : ℕ) (s : List ℕ) (ps : List (List ℕ)) → IsParted least s ps → ps ≡ paragraphs s
unique least s [] h = sym (of_newlines s h)
unique least s (p ∷ ps) h =
    ap (λ l. p ∷ l) (unique 2 h.1 ps h.6)
    ∙ sym (of_paragraph p h.1 h.5 (rest_follows h.1 ps h.6))
    ∙ sym (past_gap h.0 (p ++ h.1) h.3)
    ∙ ap paragraphs (sym h.2)

-- ---- there is one

-- one more newline in front
more_gap : (b least : ℕ) (s : List ℕ) (ps : List (List ℕ)) → b ≡ newline → IsParted least s ps → IsParted least (b ∷ s) ps
more_gap b least s [] e d = (e, d)
more_gap b least s (p ∷ ps) e d = (b ∷ d.0, d.1, ap (λ l. b ∷ l) d.2, (e, d.3), omega (arith, d.4), d.5, d.6)

-- a newline before a newline or the end makes two
begins_paragraph : (p : List ℕ) → IsParagraph p → (s : List ℕ) → ends_line (p ++ s) ≡ false
begins_paragraph [] h s = absurd h
begins_paragraph (b ∷ p) h s = other b h.0

two_newlines : (b : ℕ) (s : List ℕ) (ps : List (List ℕ)) → b ≡ newline → ends_line s ≡ true → IsParted 0 s ps → IsParted 2 (b ∷ s) ps
two_newlines b s [] e l d = (e, d)
two_newlines b s (p ∷ ps) e l d = with_gap d.0 d.1 d.2 d.3 d.5 d.6
  where
    with_gap : (gap rest : List ℕ) → s ≡ gap ++ (p ++ rest) → AllNewlines gap → IsParagraph p → IsParted 2 rest ps → IsParted 2 (b ∷ s) (p ∷ ps)
    with_gap [] rest is all para later = absurd (false≢true (sym (begins_paragraph p para rest) ∙ ap ends_line (sym is) ∙ l))
    with_gap (c ∷ gap) rest is all para later = (b ∷ c ∷ gap, rest, ap (λ t. b ∷ t) is, (e, all), omega arith, para, later)

-- what goes on after the byte before: a rest of a paragraph, and what follows it
abbrev Goes : ℕ → List ℕ → List (List ℕ) → Type 0
Goes before s [] = ⊥
Goes before s (r ∷ ps) = (rest : List ℕ) × (s ≡ r ++ rest) × GoesOn before r × IsParted 2 rest ps

longer : (before b : ℕ) (s : List ℕ) (ps : List (List ℕ)) → (before ≢ newline) ⊎ (b ≢ newline) → Goes b s ps → Goes before (b ∷ s) (onto_first b ps)
longer before b s [] e h = absurd h
longer before b s (r ∷ ps) e h = (h.0, ap (λ l. b ∷ l) h.1, (e, h.2), h.3)

fresh : (b : ℕ) (s : List ℕ) (ps : List (List ℕ)) → b ≢ newline → Goes b s ps → IsParted 0 (b ∷ s) (onto_first b ps)
fresh b s [] n h = absurd h
fresh b s (r ∷ ps) n h = ([], h.0, ap (λ l. b ∷ l) h.1, tt, omega arith, (n, h.2), h.3)

mutual
  parted : (s : List ℕ) → IsParted 0 s (paragraphs s)
  parted [] = tt
  parted (b ∷ s) = elim (eqb_tells b newline) [
    | inl y ↦ rw y.0 (more_gap b 0 s (paragraphs s) y.1 (parted s))
    | inr n ↦ rw n.0 (fresh b s (paragraphs_from true s) n.1 (goes b s (λ e. absurd (n.1 e))))
  ]

  goes : (before : ℕ) (s : List ℕ) → (before ≡ newline → ends_line s ≡ false) → Goes before s (paragraphs_from true s)
  goes before [] h = ([], refl, (λ e. false≢true (sym (h e))), tt)
  goes before (b ∷ s) h = elim (eqb_tells b newline) [
    | inl y ↦ rw y.0 (let apart : before ≢ newline = λ e. false≢true (sym (h e) ∙ y.0) in
        elim (ends_line s) as (λ v. (ends_line s ≡ v) → Goes before (b ∷ s) (cond v ([] ∷ paragraphs s) (onto_first b (paragraphs_from true s)))) [
          | true ↦ (λ e. (b ∷ s, refl, apart, two_newlines b s (paragraphs s) y.1 e (parted s)))
          | false ↦ (λ e. longer before b s (paragraphs_from true s) (inl apart) (goes b s (λ z. e)))
        ] refl)
    | inr n ↦ rw n.0 (longer before b s (paragraphs_from true s) (inr n.1) (goes b s (λ e. absurd (n.1 e))))
  ]

pub paragraph_law : (s : List ℕ) → RecordsLaw [] s
paragraph_law s = (parted s, unique 0 s)
