-- Changes of a table.
use Rattle.std.proofs.Common.{◌≡◌, ◌≢◌, ℕ, zero, suc, ◌+◌, ◌*◌, ◌<◌, ◌≤◌, ◌⊎◌, Bool, true, false, Some, List, [], ◌∷◌, ◌++◌, length, set, get_or, replicate, refl, sym, ap, ◌∙◌, subst, inl, inr, ⊎_elim, arith, length-append, get_or-set_same, get_or-set_other}
use Rattle.std.proofs.Math.ListN.{length-set, length-replicate}
use Rattle.std.proofs.lemmas.Bool.{cases_lt}
use Rattle.std.specs.Prelude.{slice_get, slice_index}
use Rattle.pawk_ere_automaton.specs.Regex.{Regex}
use Rattle.pawk_ere_automaton.specs.Marks.{shift}
use Rattle.pawk_ere_automaton.specs.Table.{AreStates, BeginsAt, HasKey, IsBegin, IsState, LeadsTo}
use Rattle.pawk_ere_automaton.specs.declared.table.State.{State}

pub one : {A : Type 0} (x y : A) → Some x ≡ Some y → x ≡ y
one x y h = cc

pub get_append : {A : Type 0} (xs ys : List A) (q : ℕ) (s : A) → slice_get xs q ≡ Some s → slice_get (xs ++ ys) q ≡ Some s
get_append [] ys q s h = cc
get_append (x ∷ xs) ys zero s h = h
get_append (x ∷ xs) ys (suc q) s h = get_append xs ys q s h

get_push : {A : Type 0} (xs : List A) (t : A) (q : ℕ) (s : A) → slice_get (xs ++ t ∷ []) q ≡ Some s → (slice_get xs q ≡ Some s) ⊎ ((length xs ≤ q) × (t ≡ s))
get_push [] t zero s h = inr (omega arith, one t s h)
get_push [] t (suc q) s h = cc
get_push (x ∷ xs) t zero s h = inl h
get_push (x ∷ xs) t (suc q) s h = ⊎_elim inl (λ p. inr (omega (arith, p.0), p.1)) (get_push xs t q s h)

pub get_end : {A : Type 0} (xs : List A) (t : A) → slice_get (xs ++ t ∷ []) (length xs) ≡ Some t
get_end [] t = refl
get_end (x ∷ xs) t = get_end xs t

zeros : (n k : ℕ) → ◌≡◌ {A = ℕ} (get_or (replicate n 0) k 0) 0
zeros zero k = refl
zeros (suc n) zero = refl
zeros (suc n) (suc k) = zeros n k

-- zeros at the end change no reading
more_zeros : (xs : List ℕ) (n k : ℕ) → get_or (xs ++ replicate n 0) k 0 ≡ get_or xs k 0
more_zeros [] n k = zeros n k
more_zeros (x ∷ xs) n zero = refl
more_zeros (x ∷ xs) n (suc k) = more_zeros xs n k

begins_append : (states : List State) (t : State) (q : ℕ) (stays first : Bool) → BeginsAt states q stays first → BeginsAt (states ++ t ∷ []) q stays first
begins_append states t q stays first b = (b.0, get_append states (t ∷ []) q b.0 b.1, b.2)

pub states_push : (e : Regex) (states : List State) (next : List ℕ) (t : State) → length states < 512 → AreStates e states next → IsState e t → AreStates e (states ++ t ∷ []) (next ++ replicate 256 0)
states_push e states next t room h st = record {
  few = omega (arith, length-append states (t ∷ []));
  rows = λ q s g. ⊎_elim (λ x. h.rows q s x) (λ x. subst (IsState e) x.1 st) (get_push states t q s g);
  links = λ q b s lt g nz.
      let same = more_zeros next 256 (q * 256 + b) in
      ⊎_elim
      (λ x.
      let l = h.links q b s lt x (λ z. nz (same ∙ z)) in
      subst (λ r. LeadsTo e (states ++ t ∷ []) s b r) (sym same) (l.0, get_append states (t ∷ []) _ l.0 l.1, l.2))
      (λ x. absurd (nz (same ∙ h.blank (q * 256 + b) (let y = x.0 in omega arith))))
      (get_push states t q s g);
  wide = let w = h.wide in omega (arith, length-append states (t ∷ []), length-append next (replicate 256 0), length-replicate {A = ℕ} 256 0);
  blank = λ k le. more_zeros next 256 k ∙ h.blank k (omega (arith, length-append states (t ∷ [])));
  first = begins_append states t 0 false true h.first;
  later = begins_append states t 1 false false h.later;
  open_first = begins_append states t 2 true true h.open_first;
  open_later = begins_append states t 3 true false h.open_later;
}

-- space for one more state
pub states_room : (e : Regex) (states : List State) (next : List ℕ) → AreStates e states next → AreStates e states (next ++ replicate 256 0)
states_room e states next h = record {
  rows = h.rows;
  links = λ q b s lt g nz.
      let same = more_zeros next 256 (q * 256 + b) in
      subst (λ r. LeadsTo e states s b r) (sym same) (h.links q b s lt g (λ z. nz (same ∙ z)));
  few = h.few;
  wide = let w = h.wide in omega (arith, length-append next (replicate 256 0));
  blank = λ k le. more_zeros next 256 k ∙ h.blank k le;
  first = h.first;
  later = h.later;
  open_first = h.open_first;
  open_later = h.open_later;
}

pub states_four : (e : Regex) (a b c d : State) → IsState e a → IsState e b → IsState e c → IsState e d → IsBegin a false true → IsBegin b false false → IsBegin c true true → IsBegin d true false
    → AreStates e (a ∷ b ∷ c ∷ d ∷ []) (replicate 1024 0)
states_four e a b c d sa sb sc sd ka kb kc kd = record {
  rows = rows;
  links = λ q x s lt g nz. absurd (nz (zeros 1024 (q * 256 + x)));
  few = omega arith;
  wide = omega (arith, length-replicate {A = ℕ} 1024 0);
  blank = λ k le. zeros 1024 k;
  first = (a, refl, ka);
  later = (b, refl, kb);
  open_first = (c, refl, kc);
  open_later = (d, refl, kd);
}
  where
    rows : (q : ℕ) (s : State) → slice_get (a ∷ b ∷ c ∷ d ∷ []) q ≡ Some s → IsState e s
    rows zero s h = subst (IsState e) (one a s h) sa
    rows (suc zero) s h = subst (IsState e) (one b s h) sb
    rows (suc (suc zero)) s h = subst (IsState e) (one c s h) sc
    rows (suc (suc (suc zero))) s h = subst (IsState e) (one d s h) sd
    rows (suc (suc (suc (suc q)))) s h = cc

pub states_pushed : (e : Regex) (v w x y z : List State) (next : List ℕ) (a b c d : State) → v ≡ [] → w ≡ v ++ a ∷ [] → x ≡ w ++ b ∷ [] → y ≡ x ++ c ∷ [] → z ≡ y ++ d ∷ [] → next ≡ replicate 1024 0
    → IsState e a → IsState e b → IsState e c → IsState e d → IsBegin a false true → IsBegin b false false → IsBegin c true true → IsBegin d true false → AreStates e z next
states_pushed e v w x y z next a b c d hv hw hx hy hz hn sa sb sc sd ka kb kc kd =
    let all : z ≡ a ∷ b ∷ c ∷ d ∷ [] = hz ∙ ap (λ l. l ++ d ∷ []) (hy ∙ ap (λ l. l ++ c ∷ []) (hx ∙ ap (λ l. l ++ b ∷ []) (hw ∙ ap (λ l. l ++ a ∷ []) hv))) in
    subst (λ l. AreStates e l next) (sym all) (subst (AreStates e (a ∷ b ∷ c ∷ d ∷ [])) (sym hn) (states_four e a b c d sa sb sc sd ka kb kc kd))

-- one more state is known after a state
pub states_link : (e : Regex) (states : List State) (next : List ℕ) (place byte r : ℕ) → AreStates e states next → place < length states → byte < 256 → ((s : State) → slice_get states place ≡ Some s → LeadsTo e states s byte r)
    → AreStates e states (set next (place * 256 + byte) r)
states_link e states next place byte r h within small leads = record {
  rows = h.rows;
  links = λ q b s lt g nz. link q b s lt g nz (cases_lt (q * 256 + b) (place * 256 + byte)) (cases_lt (place * 256 + byte) (q * 256 + b));
  few = h.few;
  wide = let w = h.wide in omega (arith, length-set next (place * 256 + byte) r);
  blank = λ k le. let ne : k ≢ place * 256 + byte = (λ z. omega arith) in rw get_or-set_other (h.blank k le);
  first = h.first;
  later = h.later;
  open_first = h.open_first;
  open_later = h.open_later;
}
  where
    other : (q b : ℕ) (s : State) → b < 256 → slice_get states q ≡ Some s → (q * 256 + b ≢ place * 256 + byte) → slice_index (set next (place * 256 + byte) r) (q * 256 + b) ≢ 0 → LeadsTo e states s b (slice_index (set next (place * 256 + byte) r) (q * 256 + b))
    other q b s lt g ne nz =
        let same = get_or-set_other next (place * 256 + byte) (q * 256 + b) r 0 ne in
        subst (λ x. LeadsTo e states s b x) (sym same) (h.links q b s lt g (λ z. nz (same ∙ z)))

    link : (q b : ℕ) (s : State) → b < 256 → slice_get states q ≡ Some s → slice_index (set next (place * 256 + byte) r) (q * 256 + b) ≢ 0 → (q * 256 + b < place * 256 + byte) ⊎ (place * 256 + byte ≤ q * 256 + b) → (place * 256 + byte < q * 256 + b) ⊎ (q * 256 + b ≤ place * 256 + byte)
        → LeadsTo e states s b (slice_index (set next (place * 256 + byte) r) (q * 256 + b))
    link q b s lt g nz (inl x) y = other q b s lt g (λ z. omega arith) nz
    link q b s lt g nz (inr x) (inl y) = other q b s lt g (λ z. omega arith) nz
    link q b s lt g nz (inr x) (inr y) =
        let here : place ≡ q = omega arith in
        let there : byte ≡ b = omega arith in
        let at : q * 256 + b ≡ place * 256 + byte = omega arith in
        let within' : place * 256 + byte < length next = let w = h.wide in omega arith in
        let same : slice_index (set next (place * 256 + byte) r) (q * 256 + b) ≡ r = ap (slice_index (set next (place * 256 + byte) r)) at ∙ get_or-set_same next (place * 256 + byte) r 0 within' in
        subst (λ x. LeadsTo e states s b x) (sym same) (subst (λ x. LeadsTo e states s x r) there (leads s (ap (slice_get states) here ∙ g)))

-- a state with the marks after the byte comes next
pub leads_from : (e : Regex) (old new : List State) (s t : State) (place byte r : ℕ) (stays : Bool) (marks : List Bool) → slice_get old place ≡ Some s → slice_get old place ≡ Some t → stays ≡ s.stays → marks ≡ shift e s.enter s.marks.items byte s.first
    → (u : State) × (slice_get new r ≡ Some u) × HasKey u stays marks → LeadsTo e new t byte r
leads_from e old new s t place byte r stays marks x y z m u =
    subst (λ v. LeadsTo e new v byte r) (one s t (sym x ∙ y)) (u.0, u.1, record { enter_is = u.2.enter_is ∙ z; stays_is = u.2.stays_is ∙ z; first_is = u.2.first_is; marks_are = u.2.marks_are ∙ m })

-- a state with the marks of another
pub closed_from : (old new : List State) (s t : State) (place r : ℕ) (marks : List Bool) → slice_get old place ≡ Some s → slice_get old place ≡ Some t → marks ≡ s.marks.items
    → (u : State) × (slice_get new r ≡ Some u) × HasKey u false marks → (u : State) × (slice_get new r ≡ Some u) × HasKey u false t.marks.items
closed_from old new s t place r marks x y m u =
    let same = one s t (sym x ∙ y) in
    (u.0, u.1, record { enter_is = u.2.enter_is; stays_is = u.2.stays_is; first_is = u.2.first_is; marks_are = u.2.marks_are ∙ m ∙ ap (λ (v : State). v.marks.items) same })
