-- Slots that are gone through one after the other.
use Rattle.std.proofs.Common.{◌≡◌, ◌≢◌, ◌<◌, ◌≤◌, ◌+◌, ℕ, suc, List, ◌∷◌, length, get_or, set, drop, ⊎_elim, refl, sym, ◌∙◌, ap, subst, arith}
use Rattle.std.proofs.lemmas.Bool.{cases_lt}
use Rattle.std.proofs.lemmas.List.{get_or-set_other, get_or-set_same, same_lists, length-set, length-drop, drop_more, get_or_default}

module _ {X Y : Type 0} (dx : X) (dy : Y) (R : X → Y → X → Type 0) where
  -- the slots below this one have what the first and the second make, and the others what they had
  pub record Slots (i : ℕ) (olds : List X) (seconds : List Y) (news : List X) : Type 0 where
    pub size : length news ≡ length olds
    pub done : (n : ℕ) → n < i → n < length olds → R (get_or olds n dx) (get_or seconds n dy) (get_or news n dx)
    pub left : (n : ℕ) → i ≤ n → get_or news n dx ≡ get_or olds n dx

  pub no_slot : (olds : List X) (seconds : List Y) → Slots 0 olds seconds olds
  no_slot olds seconds = record { size = refl; done = λ n h within. absurd (omega (arith, h)); left = λ n h. refl }

  pub one_slot : (i : ℕ) (olds : List X) (seconds : List Y) (news : List X) (x : X) → i < length olds → R (get_or olds i dx) (get_or seconds i dy) x →
      Slots i olds seconds news → Slots (i + 1) olds seconds (set news i x)
  one_slot i olds seconds news x within r h = record {
    size = length-set news i x ∙ h.size;
    done = λ n lt inside. ⊎_elim (λ below. earlier n below inside) (λ above. last n (omega (arith, lt, above))) (cases_lt n i);
    left = λ n le.
        let apart : n ≢ i = λ same. absurd (omega (arith, le, same)) in
        get_or-set_other news i n x dx apart ∙ h.left n (omega (arith, le));
  } where
    earlier : (n : ℕ) → n < i → n < length olds → R (get_or olds n dx) (get_or seconds n dy) (get_or (set news i x) n dx)
    earlier n below inside =
        let apart : n ≢ i = λ same. absurd (omega (arith, below, same)) in
        subst (R (get_or olds n dx) (get_or seconds n dy)) (sym (get_or-set_other news i n x dx apart)) (h.done n below inside)

    here : R (get_or olds i dx) (get_or seconds i dy) (get_or (set news i x) i dx)
    here =
        let inside : i < length news = omega (arith, within, h.size) in
        subst (R (get_or olds i dx) (get_or seconds i dy)) (sym (get_or-set_same news i x dx inside)) r

    last : (n : ℕ) → n ≡ i → R (get_or olds n dx) (get_or seconds n dy) (get_or (set news i x) n dx)
    last n e = subst (λ (j : ℕ). R (get_or olds j dx) (get_or seconds j dy) (get_or (set news i x) j dx)) (sym e) here

-- ---- slots that get the second's

abbrev pub second_is : {X : Type 0} → X → X → X → Type 0
second_is old second new = new ≡ second

pub all_second : {X : Type 0} (d : X) (i : ℕ) (olds seconds news : List X) → length seconds ≡ length olds → length olds ≤ i →
    Slots d d second_is i olds seconds news → news ≡ seconds
all_second d i olds seconds news long all h =
    let size : length news ≡ length seconds = h.size ∙ sym long in
    same_lists news seconds size
    (λ n e within.
    let inside : n < length olds = omega (arith, within, h.size) in
    let there : n < length seconds = omega (arith, within, size) in
    get_or_default news n e d within ∙ h.done n (omega (arith, inside, all)) inside ∙ get_or_default seconds n d e there)

-- ---- items that are left of a list

module _ {X : Type 0} (i : ℕ) (xs rest : List X) (x : X) (e : drop i xs ≡ x ∷ rest) where
  pub left_within : i < length xs
  left_within = let left : length (drop i xs) ≡ suc (length rest) = ap length e in omega (arith, left, length-drop i xs)

  pub left_at : (d : X) → get_or xs i d ≡ x
  left_at d = let split = sym (drop_more xs i d left_within) ∙ e in cc

  pub left_after : drop (i + 1) xs ≡ rest
  left_after = let split = sym (drop_more xs i x left_within) ∙ e in cc
