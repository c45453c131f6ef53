-- A number of copies of an expression, one after the other.
use Rattle.std.proofs.Common.{◌≡◌, ℕ, zero, suc, ◌+◌, ◌-◌, ◌<◌, ◌≤◌, Bool, true, false, ◌&&◌, ◌||◌, List, [], ◌∷◌, ◌++◌, length, get_or, drop, take, replicate, refl, sym, ap, ◌∙◌, subst, arith, append_assoc}
use Rattle.std.proofs.lemmas.List.{get_or-drop, drop-drop}
use Rattle.std.proofs.Math.Seq.{set-append_seam}
use Rattle.std.specs.Prelude.{slice_set}
use Rattle.pawk_ere_automaton.specs.Regex.{Regex, Bytes, copies}
use Rattle.pawk_ere_automaton.specs.Marks.{places, nullable, final, shift, turns}

or_and : (q u f n r : Bool) → (q && (u && n)) || ((f && n) || r) ≡ (((q && u) || f) && n) || r
or_and false u f n r = refl
or_and true false f n r = refl
or_and true true false n r = refl
or_and true true true true r = refl
or_and true true true false r = refl

and_assoc : (a b c : Bool) → a && (b && c) ≡ (a && b) && c
and_assoc false b c = refl
and_assoc true b c = refl

and_true : (a : Bool) → a && true ≡ a
and_true true = refl
and_true false = refl

and_false : (a : Bool) → a && false ≡ false
and_false true = refl
and_false false = refl

or_false : (a : Bool) → a || false ≡ a
or_false true = refl
or_false false = refl

append_none : (xs : List Bool) → xs ++ [] ≡ xs
append_none [] = refl
append_none (x ∷ xs) = ap (λ l. x ∷ l) (append_none xs)

-- what is left of n copies after i of them gives what all give
pub record IsLeft (a : Regex) (n i : ℕ) (marks rest : List Bool) (ends empty first last : Bool) : Type 0 where
  pub ends_is : (ends && nullable (copies (n - i) a) first last) || final (copies (n - i) a) rest first last ≡ final (copies n a) marks first last
  pub empty_is : empty && nullable (copies (n - i) a) first last ≡ nullable (copies n a) first last
  pub rest_is : drop (places (copies (n - i) a)) rest ≡ drop (places (copies n a)) marks

pub left_start : (a : Regex) (n : ℕ) (marks : List Bool) (first last : Bool) → IsLeft a n 0 marks marks false true first last
left_start a n marks first last =
    let e : n - 0 ≡ n = omega arith in
    record {
      ends_is = ap (λ k. final (copies k a) marks first last) e;
      empty_is = ap (λ k. nullable (copies k a) first last) e;
      rest_is = ap (λ k. drop (places (copies k a)) marks) e;
    }

step_left : (a : Regex) (n : ℕ) (i k m : ℕ) (marks rest : List Bool) (ends empty first last : Bool) → n - i ≡ suc m → n - k ≡ m → IsLeft a n i marks rest ends empty first last
    → IsLeft a n k marks (drop (places a) rest) ((ends && nullable a first last) || final a rest first last) (empty && nullable a first last) first last
step_left a n i k m marks rest ends empty first last e d h = record {
  ends_is = subst (λ x. (((ends && nullable a first last) || final a rest first last) && nullable (copies x a) first last) || final (copies x a) (drop (places a) rest) first last ≡ final (copies n a) marks first last) (sym d)
      (sym (or_and ends (nullable a first last) (final a rest first last) (nullable (copies m a) first last) (final (copies m a) (drop (places a) rest) first last))
      ∙ subst (λ x. (ends && nullable (copies x a) first last) || final (copies x a) rest first last ≡ final (copies n a) marks first last) e h.ends_is);
  empty_is = subst (λ x. (empty && nullable a first last) && nullable (copies x a) first last ≡ nullable (copies n a) first last) (sym d)
      (sym (and_assoc empty (nullable a first last) (nullable (copies m a) first last))
      ∙ subst (λ x. empty && nullable (copies x a) first last ≡ nullable (copies n a) first last) e h.empty_is);
  rest_is = subst (λ x. drop (places (copies x a)) (drop (places a) rest) ≡ drop (places (copies n a)) marks) (sym d)
      (drop-drop (places (copies m a)) (places a) rest
      ∙ subst (λ x. drop (places (copies x a)) rest ≡ drop (places (copies n a)) marks) e h.rest_is);
}

-- one copy more
pub left_step : (a : Regex) (n i : ℕ) (marks rest : List Bool) (ends empty first last : Bool) (turn_ends turn_empty : Bool) (more : List Bool) (ends2 empty2 : Bool) (rest2 : List Bool) → i < n → IsLeft a n i marks rest ends empty first last
    → turn_ends ≡ final a rest first last → turn_empty ≡ nullable a first last → more ≡ drop (places a) rest
    → ends2 ≡ (ends && turn_empty) || turn_ends → empty2 ≡ empty && turn_empty → rest2 ≡ more → IsLeft a n (i + 1) marks rest2 ends2 empty2 first last
left_step a n i marks rest ends empty first last te tn more ends2 empty2 rest2 lt h x y z p q r =
    let f : ends2 ≡ (ends && nullable a first last) || final a rest first last = p ∙ ap (λ u. (ends && u) || te) y ∙ ap (λ u. (ends && nullable a first last) || u) x in
    let g : empty2 ≡ empty && nullable a first last = q ∙ ap (λ u. empty && u) y in
    subst (λ u. IsLeft a n (i + 1) marks rest2 u empty2 first last) (sym f)
    (subst (λ u. IsLeft a n (i + 1) marks rest2 ((ends && nullable a first last) || final a rest first last) u first last) (sym g)
    (subst (λ u. IsLeft a n (i + 1) marks u ((ends && nullable a first last) || final a rest first last) (empty && nullable a first last) first last) (sym (r ∙ z))
    (step_left a n i (i + 1) (n - (i + 1)) marks rest ends empty first last (omega arith) refl h)))

-- no copy is left
pub left_ends : (a : Regex) (n i : ℕ) (marks rest : List Bool) (ends empty first last : Bool) → n ≤ i → IsLeft a n i marks rest ends empty first last → ends ≡ final (copies n a) marks first last
left_ends a n i marks rest ends empty first last le h =
    let e : n - i ≡ 0 = omega arith in
    sym (ap (λ x. x || false) (and_true ends) ∙ or_false ends) ∙ subst (λ k. (ends && nullable (copies k a) first last) || final (copies k a) rest first last ≡ final (copies n a) marks first last) e h.ends_is

pub left_empty : (a : Regex) (n i : ℕ) (marks rest : List Bool) (ends empty first last : Bool) → n ≤ i → IsLeft a n i marks rest ends empty first last → empty ≡ nullable (copies n a) first last
left_empty a n i marks rest ends empty first last le h =
    let e : n - i ≡ 0 = omega arith in
    sym (and_true empty) ∙ subst (λ k. empty && nullable (copies k a) first last ≡ nullable (copies n a) first last) e h.empty_is

pub left_rest : (a : Regex) (n i : ℕ) (marks rest : List Bool) (ends empty first last : Bool) → n ≤ i → IsLeft a n i marks rest ends empty first last → rest ≡ drop (places (copies n a)) marks
left_rest a n i marks rest ends empty first last le h =
    let e : n - i ≡ 0 = omega arith in
    subst (λ k. drop (places (copies k a)) rest ≡ drop (places (copies n a)) marks) e h.rest_is

-- ---- what a walk adds for n copies: its own and what the copies that are left add

-- the turns so far, and those of the copies that are left
abbrev pub IsNoted : Regex → ℕ → ℕ → Bool → List Bool → List Bool → List Bool → List Bool → Type 0
IsNoted a n i first marks rest old out = out ++ turns (copies (n - i) a) rest first ≡ old ++ turns (copies n a) marks first

pub noted_start : (a : Regex) (n : ℕ) (first : Bool) (marks old : List Bool) → IsNoted a n 0 first marks marks old old
noted_start a n first marks old = let e : n - 0 ≡ n = omega arith in ap (λ k. old ++ turns (copies k a) marks first) e

pub noted_step : (a : Regex) (n i : ℕ) (first : Bool) (marks rest more old out new : List Bool) → i < n → IsNoted a n i first marks rest old out → new ≡ out ++ turns a rest first → more ≡ drop (places a) rest → IsNoted a n (i + 1) first marks more old new
noted_step a n i first marks rest more old out new lt h x z =
    let e : n - i ≡ suc (n - (i + 1)) = omega arith in
    ap (λ l. l ++ turns (copies (n - (i + 1)) a) more first) x
    ∙ ap (λ r. (out ++ turns a rest first) ++ turns (copies (n - (i + 1)) a) r first) z
    ∙ append_assoc out (turns a rest first) (turns (copies (n - (i + 1)) a) (drop (places a) rest) first)
    ∙ sym (ap (λ k. out ++ turns (copies k a) rest first) e) ∙ h

pub noted_end : (a : Regex) (n i : ℕ) (first : Bool) (marks rest old out : List Bool) → n ≤ i → IsNoted a n i first marks rest old out → out ≡ old ++ turns (copies n a) marks first
noted_end a n i first marks rest old out le h =
    let e : n - i ≡ 0 = omega arith in
    sym (append_none out) ∙ sym (ap (λ k. out ++ turns (copies k a) rest first) e) ∙ h

-- the marks so far, and those of the copies that are left
abbrev pub IsPushed : Regex → ℕ → ℕ → Bool → Bool → ℕ → Bool → List Bool → List Bool → List Bool → List Bool → Type 0
IsPushed a n i enter0 enter byte first marks rest old out = out ++ shift (copies (n - i) a) enter rest byte first ≡ old ++ shift (copies n a) enter0 marks byte first

pub pushed_start : (a : Regex) (n : ℕ) (enter : Bool) (byte : ℕ) (first : Bool) (marks old : List Bool) → IsPushed a n 0 enter enter byte first marks marks old old
pushed_start a n enter byte first marks old = let e : n - 0 ≡ n = omega arith in ap (λ k. old ++ shift (copies k a) enter marks byte first) e

pub pushed_step : (a : Regex) (n i : ℕ) (enter0 enter on : Bool) (byte : ℕ) (first : Bool) (marks rest more old out new : List Bool) → i < n → IsPushed a n i enter0 enter byte first marks rest old out
    → new ≡ out ++ shift a enter rest byte first → on ≡ (enter && nullable a first false) || final a rest first false → more ≡ drop (places a) rest → IsPushed a n (i + 1) enter0 on byte first marks more old new
pushed_step a n i enter0 enter on byte first marks rest more old out new lt h x y z =
    let e : n - i ≡ suc (n - (i + 1)) = omega arith in
    ap (λ l. l ++ shift (copies (n - (i + 1)) a) on more byte first) x
    ∙ ap (λ r. (out ++ shift a enter rest byte first) ++ shift (copies (n - (i + 1)) a) on r byte first) z
    ∙ ap (λ b. (out ++ shift a enter rest byte first) ++ shift (copies (n - (i + 1)) a) b (drop (places a) rest) byte first) y
    ∙ append_assoc out (shift a enter rest byte first) (shift (copies (n - (i + 1)) a) ((enter && nullable a first false) || final a rest first false) (drop (places a) rest) byte first)
    ∙ sym (ap (λ k. out ++ shift (copies k a) enter rest byte first) e) ∙ h

pub pushed_end : (a : Regex) (n i : ℕ) (enter0 enter : Bool) (byte : ℕ) (first : Bool) (marks rest old out : List Bool) → n ≤ i → IsPushed a n i enter0 enter byte first marks rest old out → out ≡ old ++ shift (copies n a) enter0 marks byte first
pushed_end a n i enter0 enter byte first marks rest old out le h =
    let e : n - i ≡ 0 = omega arith in
    sym (append_none out) ∙ sym (ap (λ k. out ++ shift (copies k a) enter rest byte first) e) ∙ h

-- the turns that are left are those of the copies that are left, and more
abbrev pub AreTurnsLeft : Regex → ℕ → ℕ → Bool → List Bool → List Bool → List Bool → Type 0
AreTurnsLeft a n i first rest left more = left ≡ turns (copies (n - i) a) rest first ++ more

pub turns_left_start : (a : Regex) (n : ℕ) (first : Bool) (marks left more : List Bool) → left ≡ turns (copies n a) marks first ++ more → AreTurnsLeft a n 0 first marks left more
turns_left_start a n first marks left more h = let e : n - 0 ≡ n = omega arith in h ∙ sym (ap (λ k. turns (copies k a) marks first ++ more) e)

-- those of the next copy, and of the others
pub turns_left_split : (a : Regex) (n i : ℕ) (first : Bool) (rest left more : List Bool) → i < n → AreTurnsLeft a n i first rest left more → left ≡ turns a rest first ++ (turns (copies (n - (i + 1)) a) (drop (places a) rest) first ++ more)
turns_left_split a n i first rest left more lt h =
    let e : n - i ≡ suc (n - (i + 1)) = omega arith in
    h ∙ ap (λ k. turns (copies k a) rest first ++ more) e ∙ append_assoc (turns a rest first) (turns (copies (n - (i + 1)) a) (drop (places a) rest) first) more

pub turns_left_end : (a : Regex) (n i : ℕ) (first : Bool) (rest left more : List Bool) → n ≤ i → AreTurnsLeft a n i first rest left more → left ≡ more
turns_left_end a n i first rest left more le h = let e : n - i ≡ 0 = omega arith in h ∙ ap (λ k. turns (copies k a) rest first ++ more) e

-- ---- copies of one byte set

pub run_places : (n : ℕ) (members : List Bool) → places (copies n (Bytes members)) ≡ n
run_places zero members = refl
run_places (suc n) members = omega (arith, run_places n members)

pub run_turns : (n : ℕ) (members marks : List Bool) (first : Bool) → turns (copies n (Bytes members)) marks first ≡ []
run_turns zero members marks first = refl
run_turns (suc n) members marks first = run_turns n members (drop 1 marks) first

pub run_final : (n : ℕ) (members marks : List Bool) (first last : Bool) → final (copies (suc n) (Bytes members)) marks first last ≡ get_or marks n false
run_final zero members marks first last = ap (λ x. x || false) (and_true (get_or marks 0 false)) ∙ or_false (get_or marks 0 false)
run_final (suc n) members marks first last =
    ap (λ x. x || final (copies (suc n) (Bytes members)) (drop 1 marks) first last) (and_false (get_or marks 0 false))
    ∙ run_final n members (drop 1 marks) first last ∙ get_or-drop 1 marks n false ∙ ap (λ k. get_or marks k false) (omega arith)

-- the byte does not belong
pub run_out : (n : ℕ) (members marks : List Bool) (enter : Bool) (byte : ℕ) (first : Bool) → get_or members byte false ≡ false → shift (copies n (Bytes members)) enter marks byte first ≡ replicate n false
run_out zero members marks enter byte first h = refl
run_out (suc n) members marks enter byte first h =
    ap (λ x. x ∷ shift (copies n (Bytes members)) ((enter && false) || get_or marks 0 false) (drop 1 marks) byte first) (ap (λ b. enter && b) h ∙ and_false enter)
    ∙ ap (λ l. false ∷ l) (run_out n members (drop 1 marks) ((enter && false) || get_or marks 0 false) byte first h)

-- each mark goes one place on
pub run_on : (n : ℕ) (members marks : List Bool) (enter : Bool) (byte : ℕ) (first : Bool) → get_or members byte false ≡ true → n ≤ length marks → shift (copies (suc n) (Bytes members)) enter marks byte first ≡ enter ∷ take n marks
run_on zero members marks enter byte first h le = ap (λ x. x ∷ []) (ap (λ b. enter && b) h ∙ and_true enter)
run_on (suc n) members [] enter byte first h le = absurd (omega arith)
run_on (suc n) members (m ∷ marks) enter byte first h le =
    ap (λ x. x ∷ shift (copies (suc n) (Bytes members)) ((enter && false) || m) marks byte first) (ap (λ b. enter && b) h ∙ and_true enter)
    ∙ ap (λ b. enter ∷ shift (copies (suc n) (Bytes members)) (b || m) marks byte first) (and_false enter)
    ∙ ap (λ l. enter ∷ l) (run_on n members marks m byte first h (omega arith))

pub run_ends : (n : ℕ) (members marks : List Bool) (first last : Bool) → 1 ≤ n → get_or marks (n - 1) false ≡ final (copies n (Bytes members)) marks first last
run_ends zero members marks first last le = absurd (omega arith)
run_ends (suc n) members marks first last le = let e : suc n - 1 ≡ n = omega arith in ap (λ k. get_or marks k false) e ∙ sym (run_final n members marks first last)

pub run_empty : (n : ℕ) (members : List Bool) (first last : Bool) → 1 ≤ n → false ≡ nullable (copies n (Bytes members)) first last
run_empty zero members first last le = absurd (omega arith)
run_empty (suc n) members first last le = refl

pub run_rest : (n : ℕ) (members marks : List Bool) → drop n marks ≡ drop (places (copies n (Bytes members))) marks
run_rest n members marks = ap (λ k. drop k marks) (sym (run_places n members))

-- byte sets add no turns
pub run_noted : (n : ℕ) (members marks : List Bool) (first : Bool) (out : List Bool) → out ≡ out ++ turns (copies n (Bytes members)) marks first
run_noted n members marks first out = sym (ap (λ l. out ++ l) (run_turns n members marks first) ∙ append_none out)

pub run_turns_left : (n : ℕ) (members marks : List Bool) (first : Bool) (left more : List Bool) → left ≡ turns (copies n (Bytes members)) marks first ++ more → left ≡ more
run_turns_left n members marks first left more h = h ∙ ap (λ l. l ++ more) (run_turns n members marks first)

-- a turn's end is written before what is in the turn
pub noted_turn : (old pushed out t : List Bool) (p : ℕ) (e f : Bool) → p ≡ length old → pushed ≡ old ++ false ∷ [] → out ≡ pushed ++ t → e ≡ f → slice_set out p e ≡ old ++ f ∷ t
noted_turn old pushed out t p e f here q o i =
    ap (λ l. slice_set l p e) (o ∙ ap (λ l. l ++ t) q ∙ append_assoc old (false ∷ []) t)
    ∙ ap (λ k. slice_set (old ++ false ∷ t) k e) here ∙ set-append_seam old false t e ∙ ap (λ x. old ++ x ∷ t) i

-- the marks after a byte that does not belong
pub run_pushed_none : (n : ℕ) (members marks : List Bool) (enter : Bool) (byte : ℕ) (first : Bool) (old new added : List Bool) → get_or members byte false ≡ false → new ≡ old ++ added → added ≡ replicate n false → new ≡ old ++ shift (copies n (Bytes members)) enter marks byte first
run_pushed_none n members marks enter byte first old new added h is blank = is ∙ ap (λ l. old ++ l) (blank ∙ sym (run_out n members marks enter byte first h))

-- the marks after one that does
pub run_pushed : (n : ℕ) (members marks : List Bool) (enter : Bool) (byte : ℕ) (first : Bool) (old pushed new : List Bool) → 1 ≤ n → n ≤ length marks → get_or members byte false ≡ true → pushed ≡ old ++ enter ∷ [] → new ≡ pushed ++ take (n - 1) marks
    → new ≡ old ++ shift (copies n (Bytes members)) enter marks byte first
run_pushed zero members marks enter byte first old pushed new some le h p q = absurd (omega arith)
run_pushed (suc n) members marks enter byte first old pushed new some le h p q =
    let e : suc n - 1 ≡ n = omega arith in
    q ∙ ap (λ l. l ++ take (suc n - 1) marks) p ∙ append_assoc old (enter ∷ []) (take (suc n - 1) marks) ∙ ap (λ k. old ++ enter ∷ take k marks) e ∙ sym (ap (λ l. old ++ l) (run_on n members marks enter byte first h (omega arith)))

-- as many blanks as are taken
pub blanks : (n m : ℕ) → n ≤ m → take n (replicate m false) ≡ replicate n false
blanks zero m le = refl
blanks (suc n) zero le = absurd (omega arith)
blanks (suc n) (suc m) le = ap (λ l. false ∷ l) (blanks n m (omega arith))

-- the marks after a byte, from what both walks add to nothing
pub shifted_marks : (e : Regex) (enter : Bool) (byte : ℕ) (first : Bool) (marks looked source noted turn none start new : List Bool) → looked ≡ marks → source ≡ marks → noted ≡ turn → turn ≡ none ++ turns e looked first → none ≡ [] → start ≡ []
    → ((more : List Bool) → noted ≡ turns e source first ++ more → new ≡ start ++ shift e enter source byte first) → new ≡ shift e enter marks byte first
shifted_marks e enter byte first marks looked source noted turn none start new a b c d blank begins go =
    let h : noted ≡ turns e source first ++ [] = c ∙ d ∙ ap (λ l. l ++ turns e looked first) blank ∙ ap (λ m. turns e m first) (a ∙ sym b) ∙ sym (append_none (turns e source first)) in
    go [] h ∙ ap (λ l. l ++ shift e enter source byte first) begins ∙ ap (λ m. shift e enter m byte first) b
