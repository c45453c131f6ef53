-- One word is read, or fails.
use Rattle.std.proofs.Common.{◌≡◌, ◌≤◌, ℕ, ℤ, pos, Bool, true, false, ◌↔◌, inl, inr, List, [], ◌∷◌, ◌++◌, length, replicate, refl, sym, ap, ◌∙◌, arith, append_assoc}
use Rattle.std.specs.Prelude.{IsTrue, if◌then◌else◌}
use Rattle.std.specs.Char.{is_ascii_digit}
use Rattle.std.specs.Fmt.{decimal}
use Rattle.std.proofs.lemmas.Bool.{false≢true}
use Rattle.std.proofs.lemmas.List.{append-nil, append_cancel_left, length-replicate}
use Rattle.pawk_words.specs.declared.word.Gap.{Gap}
use Rattle.pawk_words.specs.Words.{Word, number, text, IsWord, gap_byte, size_limit, written, written_all, written_word, Begins}
use Rattle.pawk_words.specs.Reading as words
use Rattle.pawk_words.proofs.WordLaws.{IsSame, written_same}
use Rattle.pawk_words.proofs.FirstBytes.{front_of, begins_of, DigitBegins, a_number, a_text, digit_begins}
use Rattle.pawk_words.proofs.Fronts.{first_passes}
use Rattle.pawk_words.proofs.Numerals.{digits_of_decimal, decimal_some}
use Rattle.pawk_lines.specs.declared.failure.Failure.TheVariants.{Short, Damage}
use Rattle.pawk_lines.specs.Reading.{IsWithin, Numbers, Texts, IsCut, IsWrong, Fails, BeginsNumber, may_begin_text}
use Rattle.pawk_lines.proofs.Turns.{overlap, one_written}
use Rattle.pawk_lines.proofs.Forms.{word_within}

-- the word in front is the one that begins the bytes and more
pub same_word : (s more r rest : List ℕ) (w v : Word) (g h : Gap) → Begins s w g r → Begins (s ++ more) v h rest → IsSame w v g h (r ++ more) rest
same_word s more r rest w v g h a b =
    written_same w v g h (r ++ more) rest a.word b.word (sym (ap (λ l. l ++ more) a.front ∙ append_assoc (written w g) r more) ∙ b.front)

-- lists of one word with this gap
abbrev pub AreOne : (List (Word × Gap) → Type 0) → Gap → Type 0
AreOne First gap = (ws : List (Word × Gap)) → First ws → (w : Word) × IsWord w × (ws ≡ (w, gap) ∷ [])

begins_one : (s : List ℕ) (ws : List (Word × Gap)) (w : Word) (gap : Gap) (rest : List ℕ) → IsWord w → ws ≡ (w, gap) ∷ [] → s ≡ written_all ws ++ rest → Begins s w gap rest
begins_one s ws w gap rest h is e = record { word = h; front = e ∙ ap (λ l. written_all l ++ rest) is ∙ one_written w gap rest }

-- another word is in front
pub wrong_word : (First : List (Word × Gap) → Type 0) (s r : List ℕ) (w : Word) (gap : Gap) → AreOne First gap → Begins s w gap r → ((ws : List (Word × Gap)) → First ws → ws ≡ (w, gap) ∷ [] → ⊥) → IsWrong First s
wrong_word First s r w gap one a differs more ws rest h e =
    let k = one ws h in
    let same = same_word s more r rest w k.0 gap gap a (begins_one (s ++ more) ws k.0 gap rest k.1 k.2 e) in
    let word : w ≡ k.0 = same.word in
    differs ws h (k.2 ∙ ap (λ v. (v, gap) ∷ []) (sym word))

-- no word is in front of the bytes and more
pub wrong_bytes : (First : List (Word × Gap) → Type 0) (s : List ℕ) (gap : Gap) → AreOne First gap → ((more : List ℕ) (w : Word) (rest : List ℕ) → ¬ Begins (s ++ more) w gap rest) → IsWrong First s
wrong_bytes First s gap one none more ws rest h e =
    let k = one ws h in
    none more k.0 rest (begins_one (s ++ more) ws k.0 gap rest k.1 k.2 e)

-- ---- bytes that end before a word does

-- the bytes are the first of the word
pub first_of_word : (s more : List ℕ) (w : Word) (g : Gap) (rest : List ℕ) → words.IsCutShort s → Begins (s ++ more) w g rest → (t : List ℕ) × (written_word w ≡ s ++ t)
first_of_word s more w g rest cut b = elim (overlap s more (written_word w) (gap_byte g ∷ rest) (front_of (s ++ more) w g rest b)) [
  | inl ([], is) ↦ ([], sym (is ∙ append-nil (written_word w)) ∙ sym (append-nil s))
  | inl (x ∷ t, is) ↦ (
      let whole : written_word w ++ (x ∷ (t ++ more)) ≡ written_word w ++ (gap_byte g ∷ rest) =
      sym (append_assoc (written_word w) (x ∷ t) more) ∙ ap (λ l. l ++ more) (sym is) ∙ front_of (s ++ more) w g rest b in
      let after : x ∷ (t ++ more) ≡ gap_byte g ∷ rest = append_cancel_left (written_word w) (x ∷ (t ++ more)) (gap_byte g ∷ rest) whole in
      let gap : x ≡ gap_byte g = cc in
      absurd (cut.none w g t (begins_of s w g t b.word (is ∙ ap (λ y. written_word w ++ (y ∷ t)) gap))))
  | inr (t, is) ↦ (t, is)
]

pub short_word : (First : List (Word × Gap) → Type 0) (s : List ℕ) (gap : Gap) (w : Word) (t : List ℕ) → AreOne First gap → words.IsCutShort s → First ((w, gap) ∷ []) → written_word w ≡ s ++ t → IsCut First s
short_word First s gap w t one cut h e = record {
  none = λ ws rest k f. let o = one ws k in cut.none o.0 gap rest (begins_one s ws o.0 gap rest o.1 o.2 f);
  words = (w, gap) ∷ [];
  more = t ++ gap_byte gap ∷ [];
  wanted = h;
  whole = sym (append_assoc s t (gap_byte gap ∷ [])) ∙ ap (λ l. l ++ gap_byte gap ∷ []) (sym e) ∙ sym (append-nil (written w gap));
}

pub other_word : (First : List (Word × Gap) → Type 0) (s : List ℕ) (gap : Gap) → AreOne First gap → words.IsCutShort s → ((w : Word) (t : List ℕ) → First ((w, gap) ∷ []) → written_word w ≡ s ++ t → ⊥) → IsWrong First s
other_word First s gap one cut differs more ws rest h e =
    let o = one ws h in
    let k = first_of_word s more o.0 gap rest cut (begins_one (s ++ more) ws o.0 gap rest o.1 o.2 e) in
    let here : First ((o.0, gap) ∷ []) = rw o.2 at h in
    differs o.0 k.0 here k.1

-- ---- numbers

pub numbers_one : (below above : ℕ) (g : Gap) → below ≤ size_limit → above ≤ size_limit → AreOne (Numbers below above g) g
numbers_one below above g l m ws h = (number h.0, word_within below above h.0 l m h.1, h.2)

same_number : (w : Word) (z : ℤ) (g : Gap) → ◌≡◌ {A = List (Word × Gap)} ((w, g) ∷ []) ((number z, g) ∷ []) → w ≡ number z
same_number w z g e = let pairs : ◌≡◌ {A = Word × Gap} (w, g) (number z, g) = cc in ap (λ p. p.0) pairs

pub number_wrong : (s r : List ℕ) (w : Word) (below above : ℕ) (g : Gap) → below ≤ size_limit → above ≤ size_limit → Begins s w g r → ((z : ℤ) → IsWithin below above z → w ≡ number z → ⊥) → IsWrong (Numbers below above g) s
number_wrong s r w below above g l m b differs =
    wrong_word (Numbers below above g) s r w g (numbers_one below above g l m) b (λ ws h e. differs h.0 h.1 (same_number w h.0 g (sym e ∙ h.2)))

pub number_cut : (s : List ℕ) (below above : ℕ) (g : Gap) (r : Bool) → below ≤ size_limit → above ≤ size_limit → (IsTrue r ↔ BeginsNumber s below above) → words.IsCutShort s → Fails (Numbers below above g) s (if r then Short else Damage)
number_cut s below above g true l m iff cut =
    let k = iff.0 refl in
    short_word (Numbers below above g) s g (number k.0) k.2 (numbers_one below above g l m) cut (k.0, k.1, refl) k.3
number_cut s below above g false l m iff cut = other_word (Numbers below above g) s g (numbers_one below above g l m) cut
    (λ w t h e. let is = same_number w h.0 g h.2 in false≢true (iff.1 (h.0, h.1, t, ap written_word (sym is) ∙ e)))

-- ---- texts

pub texts_one : (g : Gap) → AreOne (Texts g) g
texts_one g ws h = (text h.0, h.1, h.2)

same_text : (w : Word) (t : List ℕ) (g : Gap) → ◌≡◌ {A = List (Word × Gap)} ((w, g) ∷ []) ((text t, g) ∷ []) → w ≡ text t
same_text w t g e = let pairs : ◌≡◌ {A = Word × Gap} (w, g) (text t, g) = cc in ap (λ p. p.0) pairs

pub text_wrong : (s r : List ℕ) (w : Word) (g : Gap) → Begins s w g r → ((t : List ℕ) → w ≡ text t → ⊥) → IsWrong (Texts g) s
text_wrong s r w g b differs = wrong_word (Texts g) s r w g (texts_one g) b (λ ws h e. differs h.0 (same_text w h.0 g (sym e ∙ h.2)))

text_from_digit : (s more : List ℕ) (w : Word) (g h : Gap) (rest : List ℕ) → words.IsCutShort s → Begins (s ++ more) w h rest → DigitBegins (s ++ more) h rest w → IsCut (Texts g) s
text_from_digit s more w g h rest cut b (a_text bytes k e) =
    let first = first_of_word s more (text bytes) h rest cut b in
    short_word (Texts g) s g (text bytes) first.0 (texts_one g) cut (bytes, k, refl) first.1
text_from_digit s more w g h rest cut b (a_number n k e) =
    let first = first_of_word s more (number (pos n)) h rest cut b in
    let count : length (replicate n 0) ≡ n = length-replicate {A = ℕ} n 0 in
    let whole : decimal (length (replicate n 0)) ++ 58 ∷ replicate n 0 ≡ s ++ (first.0 ++ 58 ∷ replicate n 0) =
    ap (λ j. decimal j ++ 58 ∷ replicate n 0) count ∙ ap (λ l. l ++ 58 ∷ replicate n 0) first.1 ∙ append_assoc s first.0 (58 ∷ replicate n 0) in
    short_word (Texts g) s g (text (replicate n 0)) (first.0 ++ 58 ∷ replicate n 0) (texts_one g) cut (replicate n 0, omega (arith, count), refl) whole

no_text : (x : ℕ) (s t : List ℕ) (bytes : List ℕ) → is_ascii_digit x ≡ false → length bytes ≤ size_limit → written_word (text bytes) ≡ x ∷ (s ++ t) → ⊥
no_text x s t bytes d small e =
    false≢true (sym d ∙ first_passes is_ascii_digit (decimal (length bytes)) x (s ++ t) (58 ∷ bytes) (digits_of_decimal (length bytes) small) (decimal_some (length bytes) small) (sym e))

text_by_first : (x : ℕ) (s : List ℕ) (g : Gap) (r : Bool) → is_ascii_digit x ≡ r → words.IsCutShort (x ∷ s) → Fails (Texts g) (x ∷ s) (if r then Short else Damage)
text_by_first x s g true d cut =
    text_from_digit (x ∷ s) cut.more cut.word g cut.gap cut.rest cut cut.begins (digit_begins x (s ++ cut.more) cut.word cut.gap cut.rest d cut.begins)
text_by_first x s g false d cut = other_word (Texts g) (x ∷ s) g (texts_one g) cut
    (λ w t h e. let is = same_text w h.0 g h.2 in no_text x s t h.0 d h.1 (ap written_word (sym is) ∙ e))

pub text_cut : (s : List ℕ) (g : Gap) → words.IsCutShort s → Fails (Texts g) s (if (may_begin_text s) then Short else Damage)
text_cut [] g cut = short_word (Texts g) [] g (text []) (written_word (text [])) (texts_one g) cut ([], omega arith, refl) refl
text_cut (x ∷ s) g cut = text_by_first x s g (is_ascii_digit x) refl cut
