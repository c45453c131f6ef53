-- Words that are read in turn.
use Rattle.std.proofs.Common.{◌≡◌, ◌⊎◌, inl, inr, ℕ, List, [], ◌∷◌, ◌++◌, refl, sym, ap, ◌∙◌, append_assoc}
use Rattle.std.proofs.lemmas.List.{append-nil}
use Rattle.pawk_words.specs.declared.word.Gap.{Gap}
use Rattle.pawk_words.specs.Words.{Word, IsWord, written, written_all}
use Rattle.pawk_words.proofs.WordLaws.{written_same}
use Rattle.pawk_lines.specs.declared.failure.Failure.{Failure}
use Rattle.pawk_lines.specs.declared.failure.Failure.TheVariants.{Short, Damage}
use Rattle.pawk_lines.specs.Reading.{Fails}

-- ---- bytes

-- what begins with two texts begins with the shorter one
pub overlap : (s more first rest : List ℕ) → s ++ more ≡ first ++ rest → ((t : List ℕ) × (s ≡ first ++ t)) ⊎ ((t : List ℕ) × (first ≡ s ++ t))
overlap [] more first rest e = inr (first, refl)
overlap (x ∷ s) more [] rest e = inl (x ∷ s, refl)
overlap (x ∷ s) more (y ∷ first) rest e =
    let same : x ≡ y = cc in
    let tails : s ++ more ≡ first ++ rest = cc in
    elim (overlap s more first rest tails) as (λ v. ((t : List ℕ) × (x ∷ s ≡ y ∷ first ++ t)) ⊎ ((t : List ℕ) × (y ∷ first ≡ x ∷ s ++ t))) [
      | inl w ↦ (let is : s ≡ first ++ w.0 = w.1 in inl (w.0, rw (same, is) refl))
      | inr w ↦ (let is : first ≡ s ++ w.0 = w.1 in inr (w.0, rw (same, is) refl))
    ]

pub written_append : (ws vs : List (Word × Gap)) → written_all (ws ++ vs) ≡ written_all ws ++ written_all vs
written_append [] vs = refl
written_append (x ∷ ws) vs = ap (λ l. written x.0 x.1 ++ l) (written_append ws vs) ∙ sym (append_assoc (written x.0 x.1) (written_all ws) (written_all vs))

pub one_written : (w : Word) (g : Gap) (rest : List ℕ) → written_all ((w, g) ∷ []) ++ rest ≡ written w g ++ rest
one_written w g rest = ap (λ l. l ++ rest) (append-nil (written w g))

-- ---- parts in turn

-- a first part is known by its bytes, whatever comes after them
abbrev pub IsCode : (List (Word × Gap) → Type 0) → Type 0
IsCode First = (xs ys : List (Word × Gap)) (r q : List ℕ) → First xs → First ys → written_all xs ++ r ≡ written_all ys ++ q → (xs ≡ ys) × (r ≡ q)

-- the words of the whole are those of a first part, and then those that may follow it
pub record Turn (First : List (Word × Gap) → Type 0) (Next : List (Word × Gap) → List (Word × Gap) → Type 0) (Whole : List (Word × Gap) → Type 0) : Type 0 where
  pub split : (ws : List (Word × Gap)) → Whole ws → (xs : List (Word × Gap)) × (ys : List (Word × Gap)) × First xs × Next xs ys × (ws ≡ xs ++ ys)
  pub join : (xs ys : List (Word × Gap)) → First xs → Next xs ys → Whole (xs ++ ys)
  pub code : IsCode First

apart : (ws xs ys : List (Word × Gap)) (s rest : List ℕ) → ws ≡ xs ++ ys → s ≡ written_all ws ++ rest → s ≡ written_all xs ++ (written_all ys ++ rest)
apart ws xs ys s rest is e = e ∙ ap (λ l. written_all l ++ rest) is ∙ ap (λ l. l ++ rest) (written_append xs ys) ∙ append_assoc (written_all xs) (written_all ys) rest

-- the first part fails
pub fail_first : (First : List (Word × Gap) → Type 0) (Next : List (Word × Gap) → List (Word × Gap) → Type 0) (Whole : List (Word × Gap) → Type 0) (s : List ℕ) (f : Failure) → Turn First Next Whole → ((xs : List (Word × Gap)) → First xs → (ys : List (Word × Gap)) × Next xs ys) → Fails First s f → Fails Whole s f
fail_first First Next Whole s Short t some k = record {
  none = λ ws rest h e. let p = t.split ws h in k.none p.0 (written_all p.1 ++ rest) p.2 (apart ws p.0 p.1 s rest p.4 e);
  words = k.words ++ (some k.words k.wanted).0;
  more = k.more ++ written_all (some k.words k.wanted).0;
  wanted = t.join k.words (some k.words k.wanted).0 k.wanted (some k.words k.wanted).1;
  whole = sym (append_assoc s k.more (written_all (some k.words k.wanted).0)) ∙ ap (λ l. l ++ written_all (some k.words k.wanted).0) k.whole ∙ sym (written_append k.words (some k.words k.wanted).0);
}
fail_first First Next Whole s Damage t some k = λ more ws rest h e. let p = t.split ws h in k more p.0 (written_all p.1 ++ rest) p.2 (apart ws p.0 p.1 (s ++ more) rest p.4 e)

-- the first part is there, and what follows fails
pub fail_next : (First : List (Word × Gap) → Type 0) (Next : List (Word × Gap) → List (Word × Gap) → Type 0) (Whole : List (Word × Gap) → Type 0) (s r : List ℕ) (xs : List (Word × Gap)) (f : Failure) → Turn First Next Whole → First xs → s ≡ written_all xs ++ r → Fails (Next xs) r f → Fails Whole s f
fail_next First Next Whole s r xs Short t first is k = record {
  none = λ ws rest h e.
      let p = t.split ws h in
      let same = t.code xs p.0 r (written_all p.1 ++ rest) first p.2 (sym is ∙ apart ws p.0 p.1 s rest p.4 e) in
      let here : Next xs p.1 = rw same.0 p.3 in
      k.none p.1 rest here same.1;
  words = xs ++ k.words;
  more = k.more;
  wanted = t.join xs k.words first k.wanted;
  whole = ap (λ l. l ++ k.more) is ∙ append_assoc (written_all xs) r k.more ∙ ap (λ l. written_all xs ++ l) k.whole ∙ sym (written_append xs k.words);
}
fail_next First Next Whole s r xs Damage t first is k = λ more ws rest h e.
    let p = t.split ws h in
    let begins : written_all xs ++ (r ++ more) ≡ written_all p.0 ++ (written_all p.1 ++ rest) =
    sym (append_assoc (written_all xs) r more) ∙ ap (λ l. l ++ more) (sym is) ∙ apart ws p.0 p.1 (s ++ more) rest p.4 e in
    let same = t.code xs p.0 (r ++ more) (written_all p.1 ++ rest) first p.2 begins in
    let here : Next xs p.1 = rw same.0 p.3 in
    k more p.1 rest here same.1

-- the same words by another name
pub fail_same : (One Other : List (Word × Gap) → Type 0) (s : List ℕ) (f : Failure) → ((ws : List (Word × Gap)) → One ws → Other ws) → ((ws : List (Word × Gap)) → Other ws → One ws) → Fails One s f → Fails Other s f
fail_same One Other s Short there back k = record { none = λ ws rest h e. k.none ws rest (back ws h) e; words = k.words; more = k.more; wanted = there k.words k.wanted; whole = k.whole }
fail_same One Other s Damage there back k = λ more ws rest h e. k more ws rest (back ws h) e

-- ---- one after the other

abbrev pub Then : (List (Word × Gap) → Type 0) → (List (Word × Gap) → Type 0) → List (Word × Gap) → Type 0
Then First Next ws = (xs : List (Word × Gap)) × (ys : List (Word × Gap)) × First xs × Next ys × (ws ≡ xs ++ ys)

pub in_turn : (First Next : List (Word × Gap) → Type 0) → IsCode First → Turn First (λ _. Next) (Then First Next)
in_turn First Next code = record { split = λ ws h. h; join = λ xs ys h k. (xs, ys, h, k, refl); code = code }

-- one word is known by its bytes
pub one_word : (First : List (Word × Gap) → Type 0) → ((xs : List (Word × Gap)) → First xs → (w : Word) × (g : Gap) × IsWord w × (xs ≡ (w, g) ∷ [])) → IsCode First
one_word First words xs ys r q h k e =
    let a = words xs h in
    let b = words ys k in
    let left : written_all xs ++ r ≡ written a.0 a.1 ++ r = ap (λ l. written_all l ++ r) a.3 ∙ one_written a.0 a.1 r in
    let right : written_all ys ++ q ≡ written b.0 b.1 ++ q = ap (λ l. written_all l ++ q) b.3 ∙ one_written b.0 b.1 q in
    let same = written_same a.0 b.0 a.1 b.1 r q a.2 b.2 (sym left ∙ e ∙ right) in
    let word : a.0 ≡ b.0 = same.word in
    let gap : a.1 ≡ b.1 = same.gap in
    let lists : ◌≡◌ {A = List (Word × Gap)} ((a.0, a.1) ∷ []) ((b.0, b.1) ∷ []) = rw (word, gap) refl in
    (a.3 ∙ lists ∙ sym b.3, same.left)
