-- A record's fields are the one list that it is parted into.
use Rattle.std.proofs.Common.{◌≡◌, ◌≢◌, ℕ, true, false, not, cond, List, [], ◌∷◌, ◌++◌, refl, ap, sym, ◌∙◌}
use Rattle.std.proofs.lemmas.Bool.{false≢true}
use Rattle.std.specs.List.{onto_first}
use Rattle.pawk_value.specs.Bytes.{is_blank}
use Rattle.pawk_fields.specs.Fields.{AllBlank, NoBlank, EndsWord, IsPartedInto, begins_word, blank_fields, FieldsLaw}

-- ---- uniqueness

of_blanks : (s : List ℕ) → AllBlank s → blank_fields s ≡ []
of_blanks [] h = refl
of_blanks (b ∷ s) h = rw h.0 (of_blanks s h.1)

past_gap : (gap s : List ℕ) → AllBlank gap → blank_fields (gap ++ s) ≡ blank_fields s
past_gap [] s h = refl
past_gap (b ∷ gap) s h = rw h.0 (past_gap gap s h.1)

-- what follows a word begins no word
no_word : (rest : List ℕ) → EndsWord rest → begins_word rest ≡ false
no_word [] h = refl
no_word (b ∷ rest) h = rw h refl

of_word : (f rest : List ℕ) → f ≢ [] → NoBlank f → EndsWord rest → blank_fields (f ++ rest) ≡ f ∷ blank_fields rest
of_word [] rest some word ends = absurd (some refl)
of_word (b ∷ []) rest some word ends = rw (word.0, no_word rest ends) refl
of_word (b ∷ x ∷ f) rest some word ends =
    let later = of_word (x ∷ f) rest (λ z. cc) word.1 ends in
    rw (word.0, word.1.0) (ap (onto_first b) (rw word.1.0 at later))

unique : (s : List ℕ) (fs : List (List ℕ)) → IsPartedInto s fs → fs ≡ blank_fields s
unique s [] h = sym (of_blanks s h)
unique s (f ∷ fs) h =
    ap (λ l. f ∷ l) (unique h.1 fs h.7)
    ∙ sym (of_word f h.1 h.4 h.5 h.6)
    ∙ sym (past_gap h.0 (f ++ h.1) h.3)
    ∙ ap blank_fields (sym h.2)

-- ---- existence

-- one more blank in front
more_gap : (b : ℕ) (s : List ℕ) (fs : List (List ℕ)) → is_blank b ≡ true → IsPartedInto s fs → IsPartedInto (b ∷ s) fs
more_gap b s [] h d = (h, d)
more_gap b s (f ∷ fs) h d = (b ∷ d.0, d.1, ap (λ l. b ∷ l) d.2, (h, d.3), d.4, d.5, d.6, d.7)

-- one more byte of the word in front
longer_word : (b x : ℕ) (s : List ℕ) (fs : List (List ℕ)) → is_blank b ≡ false → is_blank x ≡ false → IsPartedInto (x ∷ s) fs → IsPartedInto (b ∷ x ∷ s) (onto_first b fs)
longer_word b x s [] h word d = absurd (false≢true (sym word ∙ d.0))
longer_word b x s (f ∷ fs) h word d = no_gap d.0 d.2 d.3
  where
    no_gap : (gap : List ℕ) → x ∷ s ≡ gap ++ (f ++ d.1) → AllBlank gap → IsPartedInto (b ∷ x ∷ s) ((b ∷ f) ∷ fs)
    no_gap [] is blank = ([], d.1, ap (λ l. b ∷ l) is, tt, (λ z. cc), (h, d.5), d.6, d.7)
    no_gap (g ∷ gap) is blank = let same : x ≡ g = cc in absurd (false≢true (sym word ∙ ap is_blank same ∙ blank.0))

-- a word of one byte in front
new_word : (b : ℕ) (s : List ℕ) (fs : List (List ℕ)) → is_blank b ≡ false → EndsWord s → IsPartedInto s fs → IsPartedInto (b ∷ s) ((b ∷ []) ∷ fs)
new_word b s fs h ends d = ([], s, refl, tt, (λ z. cc), (h, tt), ends, d)

in_word : (b : ℕ) (s : List ℕ) → is_blank b ≡ false → IsPartedInto s (blank_fields s) → IsPartedInto (b ∷ s) (cond (begins_word s) (onto_first b (blank_fields s)) ((b ∷ []) ∷ blank_fields s))
in_word b [] h d = new_word b [] [] h tt d
in_word b (x ∷ s) h d =
    elim (is_blank x) as (λ v. (is_blank x ≡ v) → IsPartedInto (b ∷ x ∷ s) (cond (not v) (onto_first b (blank_fields (x ∷ s))) ((b ∷ []) ∷ blank_fields (x ∷ s)))) [
      | true ↦ (λ e. new_word b (x ∷ s) (blank_fields (x ∷ s)) h e d)
      | false ↦ (λ e. longer_word b x s (blank_fields (x ∷ s)) h e d)
    ] refl

separated : (s : List ℕ) → IsPartedInto s (blank_fields s)
separated [] = tt
separated (b ∷ s) =
    let rest = separated s in
    elim (is_blank b) as (λ v. (is_blank b ≡ v) → IsPartedInto (b ∷ s) (cond v (blank_fields s) (cond (begins_word s) (onto_first b (blank_fields s)) ((b ∷ []) ∷ blank_fields s)))) [
      | true ↦ (λ e. more_gap b s (blank_fields s) e rest)
      | false ↦ (λ e. in_word b s e rest)
    ] refl

pub fields_law_lem : (s : List ℕ) → FieldsLaw s
fields_law_lem s = (separated s, unique s)
