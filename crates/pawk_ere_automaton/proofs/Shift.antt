-- What the marks mean, and that shifting them over a byte keeps it.
use Rattle.std.proofs.Common.{◌≡◌, ℕ, ◌+◌, ◌<◌, ◌≤◌, ◌⊎◌, Bool, true, false, ◌&&◌, ◌||◌, List, [], ◌∷◌, ◌++◌, length, get_or, drop, refl, sym, ◌∙◌, subst, inl, inr, ⊎_elim, arith, length-append}
use Rattle.std.proofs.lemmas.Bool.{cases_lt}
use Rattle.std.proofs.lemmas.List.{drop_at, get_or-drop, get_or_append_left}
use Rattle.pawk_ere_automaton.specs.Regex.{Regex, Empty, Start, End, Bytes, Sequence, Either, Star, Plus, Takes}
use Rattle.pawk_ere_syntax.specs.Pattern.{Leads}
use Rattle.pawk_ere_automaton.specs.Marks.{places, nullable, final, shift, Rest}

pub and_parts : (a b : Bool) → a && b ≡ true → (a ≡ true) × (b ≡ true)
and_parts true true h = (refl, refl)
and_parts true false h = cc
and_parts false true h = cc
and_parts false false h = cc

pub and_whole : (a b : Bool) → a ≡ true → b ≡ true → a && b ≡ true
and_whole true true h k = refl
and_whole true false h k = k
and_whole false b h k = h

pub or_parts : (a b : Bool) → a || b ≡ true → (a ≡ true) ⊎ (b ≡ true)
or_parts true b h = inl refl
or_parts false b h = inr h

pub or_left : (a b : Bool) → a ≡ true → a || b ≡ true
or_left true b h = refl
or_left false b h = cc

pub or_right : (a b : Bool) → b ≡ true → a || b ≡ true
or_right true b h = refl
or_right false b h = h

-- a chain of steps that don't go back goes forward
leads_forward : (R : ℕ → ℕ → Type 0) → ((i j : ℕ) → R i j → i ≤ j) → (i : ℕ) (ks : List ℕ) (j : ℕ) → Leads R i ks j → i ≤ j
leads_forward R h i [] j l = omega arith
leads_forward R h i (k ∷ ks) j l = omega (arith, h i k l.0, leads_forward R h k ks j l.1)

pub forward : (e : Regex) (s : List ℕ) (i j : ℕ) → Takes e s i j → i ≤ j
forward Empty s i j m = omega arith
forward Start s i j m = omega arith
forward End s i j m = omega arith
forward (Bytes members) s i j m = omega arith
forward (Sequence a b) s i j m = omega (arith, forward a s i m.0 m.1, forward b s m.0 j m.2)
forward (Either a b) s i j m = ⊎_elim (forward a s i j) (forward b s i j) m
forward (Star a) s i j m = leads_forward (Takes a s) (forward a s) i m.0 j m.1
forward (Plus a) s i j m = leads_forward (Takes a s) (forward a s) i m.0 j m.2

leads_within : (R : ℕ → ℕ → Type 0) (n : ℕ) → ((i j : ℕ) → i ≤ n → R i j → j ≤ n) → (i : ℕ) (ks : List ℕ) (j : ℕ) → i ≤ n → Leads R i ks j → j ≤ n
leads_within R n h i [] j w l = omega arith
leads_within R n h i (k ∷ ks) j w l = leads_within R n h k ks j (h i k w l.0) l.1

-- no match ends beyond the text
pub within : (e : Regex) (s : List ℕ) (i j : ℕ) → i ≤ length s → Takes e s i j → j ≤ length s
within Empty s i j w m = omega arith
within Start s i j w m = omega arith
within End s i j w m = omega arith
within (Bytes members) s i j w m = omega arith
within (Sequence a b) s i j w m = within b s m.0 j (within a s i m.0 w m.1) m.2
within (Either a b) s i j w m = ⊎_elim (within a s i j w) (within b s i j w) m
within (Star a) s i j w m = leads_within (Takes a s) (length s) (within a s) i m.0 j w m.1
within (Plus a) s i j w m = leads_within (Takes a s) (length s) (within a s) i m.0 j w m.2

-- a chain that ends where it began stands still
leads_still : (R : ℕ → ℕ → Type 0) → ((i j : ℕ) → R i j → i ≤ j) → (i : ℕ) (ks : List ℕ) → 1 ≤ length ks → Leads R i ks i → R i i
leads_still R h i [] n l = absurd (omega arith)
leads_still R h i (k ∷ ks) n l =
    let e : k ≡ i = omega (arith, h i k l.0, leads_forward R h k ks i l.1) in
    subst (λ x. R i x) e l.0

-- a chain that goes on has a step that does
leads_on : (R : ℕ → ℕ → Type 0) → ((i j : ℕ) → R i j → i ≤ j) → (i : ℕ) (ks : List ℕ) (j : ℕ) → i < j → Leads R i ks j → (k : ℕ) × (i < k) × R i k × (ls : List ℕ) × Leads R k ls j
leads_on R h i [] j lt l = absurd (omega arith)
leads_on R h i (k ∷ ks) j lt l = ⊎_elim (λ here. (k, here, l.0, ks, l.1)) (λ there.
    let e : k ≡ i = omega (arith, h i k l.0) in
    leads_on R h i ks j lt (subst (λ x. Leads R x ks j) e l.1)) (cases_lt i k)

module _ (s : List ℕ) (p : ℕ) (first last : Bool) (is_first : first ≡ true → p ≡ 0) (if_first : p ≡ 0 → first ≡ true) (is_last : last ≡ true → p ≡ length s) (if_last : p ≡ length s → last ≡ true) where
  pub nullable_if : (e : Regex) → Takes e s p p → nullable e first last ≡ true
  nullable_if Empty m = refl
  nullable_if Start m = if_first m.0
  nullable_if End m = if_last m.0
  nullable_if (Bytes members) m = absurd (omega arith)
  nullable_if (Sequence a b) m =
      let here : m.0 ≡ p = omega (arith, forward a s p m.0 m.1, forward b s m.0 p m.2) in
      and_whole _ _ (nullable_if a (subst (λ k. Takes a s p k) here m.1)) (nullable_if b (subst (λ k. Takes b s k p) here m.2))
  nullable_if (Either a b) m = ⊎_elim (λ l. or_left _ _ (nullable_if a l)) (λ r. or_right _ _ (nullable_if b r)) m
  nullable_if (Star a) m = refl
  nullable_if (Plus a) m = nullable_if a (leads_still (Takes a s) (forward a s) p m.0 m.1 m.2)

  pub nullable_is : (e : Regex) → nullable e first last ≡ true → Takes e s p p
  nullable_is Empty h = refl
  nullable_is Start h = (is_first h, is_first h)
  nullable_is End h = (is_last h, is_last h)
  nullable_is (Bytes members) h = cc
  nullable_is (Sequence a b) h = let both = and_parts _ _ h in (p, nullable_is a both.0, nullable_is b both.1)
  nullable_is (Either a b) h = ⊎_elim (λ l. inl (nullable_is a l)) (λ r. inr (nullable_is b r)) (or_parts _ _ h)
  nullable_is (Star a) h = ([], refl)
  nullable_is (Plus a) h = (p ∷ [], omega arith, (nullable_is a h, refl))

pub rest_forward : (e : Regex) (marks : List Bool) (s : List ℕ) (p j : ℕ) → Rest e marks s p j → p ≤ j
rest_forward Empty marks s p j r = absurd r
rest_forward Start marks s p j r = absurd r
rest_forward End marks s p j r = absurd r
rest_forward (Bytes members) marks s p j r = omega arith
rest_forward (Sequence a b) marks s p j r = ⊎_elim
    (λ l. let x = rest_forward a marks s p l.0 l.1 in let y = forward b s l.0 j l.2 in omega arith)
    (rest_forward b (drop (places a) marks) s p j) r
rest_forward (Either a b) marks s p j r = ⊎_elim (rest_forward a marks s p j) (rest_forward b (drop (places a) marks) s p j) r
rest_forward (Star a) marks s p j r = let x = rest_forward a marks s p r.0 r.1 in let y = leads_forward (Takes a s) (forward a s) r.0 r.2 j r.3 in omega arith
rest_forward (Plus a) marks s p j r = let x = rest_forward a marks s p r.0 r.1 in let y = leads_forward (Takes a s) (forward a s) r.0 r.2 j r.3 in omega arith

module _ (s : List ℕ) (p : ℕ) (first last : Bool) (is_first : first ≡ true → p ≡ 0) (if_first : p ≡ 0 → first ≡ true) (is_last : last ≡ true → p ≡ length s) (if_last : p ≡ length s → last ≡ true) where
  pub final_if : (e : Regex) (marks : List Bool) → Rest e marks s p p → final e marks first last ≡ true
  final_if Empty marks r = absurd r
  final_if Start marks r = absurd r
  final_if End marks r = absurd r
  final_if (Bytes members) marks r = r.0
  final_if (Sequence a b) marks r = ⊎_elim
      (λ l. let x = rest_forward a marks s p l.0 l.1 in let y = forward b s l.0 p l.2 in
      let here : l.0 ≡ p = omega arith in
      or_left _ _ (and_whole _ _ (final_if a marks (subst (λ k. Rest a marks s p k) here l.1))
      (nullable_if s p first last is_first if_first is_last if_last b (subst (λ k. Takes b s k p) here l.2))))
      (λ t. or_right _ _ (final_if b (drop (places a) marks) t)) r
  final_if (Either a b) marks r = ⊎_elim (λ l. or_left _ _ (final_if a marks l)) (λ t. or_right _ _ (final_if b (drop (places a) marks) t)) r
  final_if (Star a) marks r =
      let x = rest_forward a marks s p r.0 r.1 in let y = leads_forward (Takes a s) (forward a s) r.0 r.2 p r.3 in
      let here : r.0 ≡ p = omega arith in final_if a marks (subst (λ k. Rest a marks s p k) here r.1)
  final_if (Plus a) marks r =
      let x = rest_forward a marks s p r.0 r.1 in let y = leads_forward (Takes a s) (forward a s) r.0 r.2 p r.3 in
      let here : r.0 ≡ p = omega arith in final_if a marks (subst (λ k. Rest a marks s p k) here r.1)

  pub final_is : (e : Regex) (marks : List Bool) → final e marks first last ≡ true → Rest e marks s p p
  final_is Empty marks h = cc
  final_is Start marks h = cc
  final_is End marks h = cc
  final_is (Bytes members) marks h = (h, refl)
  final_is (Sequence a b) marks h = ⊎_elim
      (λ l. let both = and_parts _ _ l in inl (p, final_is a marks both.0, nullable_is s p first last is_first if_first is_last if_last b both.1))
      (λ t. inr (final_is b (drop (places a) marks) t)) (or_parts _ _ h)
  final_is (Either a b) marks h = ⊎_elim (λ l. inl (final_is a marks l)) (λ t. inr (final_is b (drop (places a) marks) t)) (or_parts _ _ h)
  final_is (Star a) marks h = (p, final_is a marks h, [], refl)
  final_is (Plus a) marks h = (p, final_is a marks h, [], refl)

pub length-shift : (e : Regex) (enter : Bool) (marks : List Bool) (byte : ℕ) (first : Bool) → length (shift e enter marks byte first) ≡ places e
length-shift Empty enter marks byte first = refl
length-shift Start enter marks byte first = refl
length-shift End enter marks byte first = refl
length-shift (Bytes members) enter marks byte first = omega arith
length-shift (Sequence a b) enter marks byte first =
    let x = length-shift a enter marks byte first in
    let enter' = (enter && nullable a first false) || final a marks first false in
    let y = length-shift b enter' (drop (places a) marks) byte first in
    omega (arith, length-append (shift a enter marks byte first) (shift b enter' (drop (places a) marks) byte first))
length-shift (Either a b) enter marks byte first =
    let x = length-shift a enter marks byte first in
    let y = length-shift b enter (drop (places a) marks) byte first in
    omega (arith, length-append (shift a enter marks byte first) (shift b enter (drop (places a) marks) byte first))
length-shift (Star a) enter marks byte first = length-shift a (enter || final a marks first false) marks byte first
length-shift (Plus a) enter marks byte first = length-shift a (enter || final a marks first false) marks byte first

-- the same marks, as far as the expression reads them
abbrev Agree : ℕ → List Bool → List Bool → Type 0
Agree n M N = (k : ℕ) → k < n → get_or M k false ≡ get_or N k false

agree_first : (m n : ℕ) (M N : List Bool) → Agree (m + n) M N → Agree m M N
agree_first m n M N h k l = h k (omega arith)

agree_second : (m n : ℕ) (M N : List Bool) → Agree (m + n) M N → Agree n (drop m M) (drop m N)
agree_second m n M N h k l = get_or-drop m M k false ∙ h (m + k) (omega arith) ∙ sym (get_or-drop m N k false)

agree_append : (X Y : List Bool) (n : ℕ) → length X ≡ n → Agree n (X ++ Y) X
agree_append X Y n e k l = get_or_append_left X Y false k (omega arith)

agree_sym : (n : ℕ) (M N : List Bool) → Agree n M N → Agree n N M
agree_sym n M N h k l = sym (h k l)

rest_agree : (e : Regex) (M N : List Bool) (s : List ℕ) (p j : ℕ) → Agree (places e) M N → Rest e M s p j → Rest e N s p j
rest_agree Empty M N s p j h r = r
rest_agree Start M N s p j h r = r
rest_agree End M N s p j h r = r
rest_agree (Bytes members) M N s p j h r = (sym (h 0 (omega arith)) ∙ r.0, r.1)
rest_agree (Sequence a b) M N s p j h r = ⊎_elim
    (λ l. inl (l.0, rest_agree a M N s p l.0 (agree_first (places a) (places b) M N h) l.1, l.2))
    (λ t. inr (rest_agree b (drop (places a) M) (drop (places a) N) s p j (agree_second (places a) (places b) M N h) t)) r
rest_agree (Either a b) M N s p j h r = ⊎_elim
    (λ l. inl (rest_agree a M N s p j (agree_first (places a) (places b) M N h) l))
    (λ t. inr (rest_agree b (drop (places a) M) (drop (places a) N) s p j (agree_second (places a) (places b) M N h) t)) r
rest_agree (Star a) M N s p j h r = (r.0, rest_agree a M N s p r.0 h r.1, r.2, r.3)
rest_agree (Plus a) M N s p j h r = (r.0, rest_agree a M N s p r.0 h r.1, r.2, r.3)

-- the two parts of a pair of marks
sequence_parts : (a b : Regex) (X Y : List Bool) (s : List ℕ) (p j : ℕ) → length X ≡ places a → Rest (Sequence a b) (X ++ Y) s p j → ((k : ℕ) × Rest a X s p k × Takes b s k j) ⊎ Rest b Y s p j
sequence_parts a b X Y s p j e r = ⊎_elim
    (λ l. inl (l.0, rest_agree a (X ++ Y) X s p l.0 (agree_append X Y (places a) e) l.1, l.2))
    (λ t. inr (subst (λ m. Rest b m s p j) (drop_at X Y (places a) e) t)) r

sequence_first : (a b : Regex) (X Y : List Bool) (s : List ℕ) (p j k : ℕ) → length X ≡ places a → Rest a X s p k → Takes b s k j → Rest (Sequence a b) (X ++ Y) s p j
sequence_first a b X Y s p j k e r m = inl (k, rest_agree a X (X ++ Y) s p k (agree_sym (places a) (X ++ Y) X (agree_append X Y (places a) e)) r, m)

sequence_second : (a b : Regex) (X Y : List Bool) (s : List ℕ) (p j : ℕ) → length X ≡ places a → Rest b Y s p j → Rest (Sequence a b) (X ++ Y) s p j
sequence_second a b X Y s p j e r = inr (subst (λ m. Rest b m s p j) (sym (drop_at X Y (places a) e)) r)

either_parts : (a b : Regex) (X Y : List Bool) (s : List ℕ) (p j : ℕ) → length X ≡ places a → Rest (Either a b) (X ++ Y) s p j → Rest a X s p j ⊎ Rest b Y s p j
either_parts a b X Y s p j e r = ⊎_elim
    (λ l. inl (rest_agree a (X ++ Y) X s p j (agree_append X Y (places a) e) l))
    (λ t. inr (subst (λ m. Rest b m s p j) (drop_at X Y (places a) e) t)) r

either_whole : (a b : Regex) (X Y : List Bool) (s : List ℕ) (p j : ℕ) → length X ≡ places a → Rest a X s p j ⊎ Rest b Y s p j → Rest (Either a b) (X ++ Y) s p j
either_whole a b X Y s p j e r = ⊎_elim
    (λ l. inl (rest_agree a X (X ++ Y) s p j (agree_sym (places a) (X ++ Y) X (agree_append X Y (places a) e)) l))
    (λ t. inr (subst (λ m. Rest b m s p j) (sym (drop_at X Y (places a) e)) t)) r

-- one byte of the text
module _ (s : List ℕ) (p : ℕ) (first : Bool) (is_first : first ≡ true → p ≡ 0) (if_first : p ≡ 0 → first ≡ true) (more : p < length s) where
  is_last : false ≡ true → p ≡ length s
  is_last h = cc

  if_last : p ≡ length s → false ≡ true
  if_last h = absurd (omega arith)

  pub shift_is : (e : Regex) (enter : Bool) (marks : List Bool) (j : ℕ) → Rest e (shift e enter marks (get_or s p 0) first) s (p + 1) j → ((enter ≡ true) × Takes e s p j) ⊎ Rest e marks s p j
  shift_is Empty enter marks j r = absurd r
  shift_is Start enter marks j r = absurd r
  shift_is End enter marks j r = absurd r
  shift_is (Bytes members) enter marks j r = let both = and_parts _ _ r.0 in inl (both.0, (more, r.1, both.1))
  shift_is (Sequence a b) enter marks j r =
      let M2 = drop (places a) marks in
      let byte = get_or s p 0 in
      let enter' = (enter && nullable a first false) || final a marks first false in
      ⊎_elim
      (λ l. ⊎_elim (λ x. inl (x.0, (l.0, x.1, l.2))) (λ x. inr (inl (l.0, x, l.2))) (shift_is a enter marks l.0 l.1))
      (λ t. ⊎_elim
      (λ x. ⊎_elim
      (λ n. let both = and_parts _ _ n in inl (both.0, (p, nullable_is s p first false is_first if_first is_last if_last a both.1, x.1)))
      (λ f. inr (inl (p, final_is s p first false is_first if_first is_last if_last a marks f, x.1)))
      (or_parts _ _ x.0))
      (λ x. inr (inr x))
      (shift_is b enter' M2 j t))
      (sequence_parts a b (shift a enter marks byte first) (shift b enter' M2 byte first) s (p + 1) j (length-shift a enter marks byte first) r)
  shift_is (Either a b) enter marks j r =
      let M2 = drop (places a) marks in
      let byte = get_or s p 0 in
      ⊎_elim
      (λ l. ⊎_elim (λ x. inl (x.0, inl x.1)) (λ x. inr (inl x)) (shift_is a enter marks j l))
      (λ t. ⊎_elim (λ x. inl (x.0, inr x.1)) (λ x. inr (inr x)) (shift_is b enter M2 j t))
      (either_parts a b (shift a enter marks byte first) (shift b enter M2 byte first) s (p + 1) j (length-shift a enter marks byte first) r)
  shift_is (Star a) enter marks j r =
      let enter' = enter || final a marks first false in
      ⊎_elim
      (λ x. ⊎_elim
      (λ e. inl (e, (r.0 ∷ r.2, (x.1, r.3))))
      (λ f. inr (p, final_is s p first false is_first if_first is_last if_last a marks f, r.0 ∷ r.2, (x.1, r.3)))
      (or_parts _ _ x.0))
      (λ x. inr (r.0, x, r.2, r.3))
      (shift_is a enter' marks r.0 r.1)
  shift_is (Plus a) enter marks j r =
      let enter' = enter || final a marks first false in
      ⊎_elim
      (λ x. ⊎_elim
      (λ e. inl (e, (r.0 ∷ r.2, omega arith, (x.1, r.3))))
      (λ f. inr (p, final_is s p first false is_first if_first is_last if_last a marks f, r.0 ∷ r.2, (x.1, r.3)))
      (or_parts _ _ x.0))
      (λ x. inr (r.0, x, r.2, r.3))
      (shift_is a enter' marks r.0 r.1)

  pub shift_if : (e : Regex) (enter : Bool) (marks : List Bool) (j : ℕ) → p < j → ((enter ≡ true) × Takes e s p j) ⊎ Rest e marks s p j → Rest e (shift e enter marks (get_or s p 0) first) s (p + 1) j
  shift_if Empty enter marks j lt r = ⊎_elim (λ x. absurd (let h : p ≡ j = x.1 in omega arith)) (λ x. x) r
  shift_if Start enter marks j lt r = ⊎_elim (λ x. absurd (let h : p ≡ 0 = x.1.0 in let k : j ≡ 0 = x.1.1 in omega arith)) (λ x. x) r
  shift_if End enter marks j lt r = ⊎_elim (λ x. absurd (let h : p ≡ length s = x.1.0 in omega arith)) (λ x. x) r
  shift_if (Bytes members) enter marks j lt r = ⊎_elim
      (λ x. (and_whole _ _ x.0 x.1.2, x.1.1))
      (λ x. absurd (let h : j ≡ p = x.1 in omega arith)) r
  shift_if (Sequence a b) enter marks j lt r =
      let M2 = drop (places a) marks in
      let byte = get_or s p 0 in
      let enter' = (enter && nullable a first false) || final a marks first false in
      let X = shift a enter marks byte first in
      let Y = shift b enter' M2 byte first in
      let e = length-shift a enter marks byte first in
      let on_first : (k : ℕ) → p < k → ((enter ≡ true) × Takes a s p k) ⊎ Rest a marks s p k → Takes b s k j → Rest (Sequence a b) (X ++ Y) s (p + 1) j = λ k l x m. sequence_first a b X Y s (p + 1) j k e (shift_if a enter marks k l x) m in
      let on_second : ((enter' ≡ true) × Takes b s p j) ⊎ Rest b M2 s p j → Rest (Sequence a b) (X ++ Y) s (p + 1) j = λ x. sequence_second a b X Y s (p + 1) j e (shift_if b enter' M2 j lt x) in
      ⊎_elim
      (λ x. ⊎_elim
      (λ l. on_first x.1.0 l (inl (x.0, x.1.1)) x.1.2)
      (λ l. let f = forward a s p x.1.0 x.1.1 in
      let here : x.1.0 ≡ p = omega (arith, l, f) in
      on_second (inl (or_left _ _ (and_whole _ _ x.0 (nullable_if s p first false is_first if_first is_last if_last a (subst (λ k. Takes a s p k) here x.1.1))), subst (λ k. Takes b s k j) here x.1.2)))
      (cases_lt p x.1.0))
      (λ x. ⊎_elim
      (λ y. ⊎_elim
      (λ l. on_first y.0 l (inr y.1) y.2)
      (λ l. let f = rest_forward a marks s p y.0 y.1 in
      let here : y.0 ≡ p = omega (arith, l, f) in
      on_second (inl (or_right _ _ (final_if s p first false is_first if_first is_last if_last a marks (subst (λ k. Rest a marks s p k) here y.1)), subst (λ k. Takes b s k j) here y.2)))
      (cases_lt p y.0))
      (λ y. on_second (inr y))
      x)
      r
  shift_if (Either a b) enter marks j lt r =
      let M2 = drop (places a) marks in
      let byte = get_or s p 0 in
      let X = shift a enter marks byte first in
      let Y = shift b enter M2 byte first in
      let whole : Rest a X s (p + 1) j ⊎ Rest b Y s (p + 1) j → Rest (Either a b) (X ++ Y) s (p + 1) j = either_whole a b X Y s (p + 1) j (length-shift a enter marks byte first) in
      ⊎_elim
      (λ x. ⊎_elim (λ y. whole (inl (shift_if a enter marks j lt (inl (x.0, y))))) (λ y. whole (inr (shift_if b enter M2 j lt (inl (x.0, y))))) x.1)
      (λ x. ⊎_elim (λ y. whole (inl (shift_if a enter marks j lt (inr y)))) (λ y. whole (inr (shift_if b enter M2 j lt (inr y)))) x)
      r
  shift_if (Star a) enter marks j lt r =
      let enter' = enter || final a marks first false in
      let goes : (ks : List ℕ) → enter' ≡ true → Leads (Takes a s) p ks j → Rest (Star a) (shift a enter' marks (get_or s p 0) first) s (p + 1) j = λ ks h l.
      let on = leads_on (Takes a s) (forward a s) p ks j lt l in
      (on.0, shift_if a enter' marks on.0 on.1 (inl (h, on.2)), on.3, on.4) in
      ⊎_elim
      (λ x. goes x.1.0 (or_left _ _ x.0) x.1.1)
      (λ x. ⊎_elim
      (λ l. (x.0, shift_if a enter' marks x.0 l (inr x.1), x.2, x.3))
      (λ l. let f = rest_forward a marks s p x.0 x.1 in
      let here : x.0 ≡ p = omega (arith, l, f) in
      goes x.2 (or_right _ _ (final_if s p first false is_first if_first is_last if_last a marks (subst (λ k. Rest a marks s p k) here x.1))) (subst (λ k. Leads (Takes a s) k x.2 j) here x.3))
      (cases_lt p x.0))
      r
  shift_if (Plus a) enter marks j lt r =
      let enter' = enter || final a marks first false in
      let goes : (ks : List ℕ) → enter' ≡ true → Leads (Takes a s) p ks j → Rest (Plus a) (shift a enter' marks (get_or s p 0) first) s (p + 1) j = λ ks h l.
      let on = leads_on (Takes a s) (forward a s) p ks j lt l in
      (on.0, shift_if a enter' marks on.0 on.1 (inl (h, on.2)), on.3, on.4) in
      ⊎_elim
      (λ x. goes x.1.0 (or_left _ _ x.0) x.1.2)
      (λ x. ⊎_elim
      (λ l. (x.0, shift_if a enter' marks x.0 l (inr x.1), x.2, x.3))
      (λ l. let f = rest_forward a marks s p x.0 x.1 in
      let here : x.0 ≡ p = omega (arith, l, f) in
      goes x.2 (or_right _ _ (final_if s p first false is_first if_first is_last if_last a marks (subst (λ k. Rest a marks s p k) here x.1))) (subst (λ k. Leads (Takes a s) k x.2 j) here x.3))
      (cases_lt p x.0))
      r
