-- How the functions that are reach_one are found: what was found is walked from its front, and what occurs in a
-- function that is called there is added after it, once.
use Rattle.std.proofs.Common.{◌≡◌, ◌≢◌, ℕ, zero, suc, ◌+◌, ◌-◌, ◌<◌, ◌≤◌, Bool, true, false, List, [], ◌∷◌, ◌++◌, length, get_or, set, replicate, refl, sym, ap, subst, ◌∙◌, inl, inr, arith, length-append, length-set}
use Rattle.std.specs.Prelude.{◌↔◌, Contains}
use Rattle.std.specs.Bool.{MatchBool}
use Rattle.std.proofs.lemmas.Bool.{cases_lt, cases_eq}
use Rattle.std.proofs.lemmas.List.{get_or-set_same, get_or-set_other, get_or-replicate, get_or_append_left, set_past, length-replicate}
use Rattle.std.proofs.lemmas.List.Elements.{Contains-append_left, Contains-append_right, Contains-append_cases}
use Rattle.std.proofs.lemmas.Option.{slice_get_past}
use Rattle.pawk_code.specs.Programs.{Code, Function}
use Rattle.pawk_admit.specs.declared.occurrence.Occurrence.{Occurrence}
use Rattle.pawk_admit.specs.declared.occurrence.Occurrence.TheVariants.{Call}
use Rattle.pawk_admit.specs.Occurrences.{of_rules, of_function, of_function_if_any, of_body}
use Rattle.pawk_admit.specs.Reaches.{Reached, from_rules, from_function, Occurs}

-- the flags say the functions that were added, and calls before `next` are of such
pub record IsUnderway (code : Code) (list : List Occurrence) (flags : List Bool) (next : ℕ) : Type 0 where
  pub lengths : length flags ≡ length code.functions
  pub sound : (o : Occurrence) → Contains list o → Occurs code o
  pub rules_in : (o : Occurrence) → Contains (of_rules code.rules) o → Contains list o
  pub functions_in : (f : ℕ) → get_or flags f true ≡ true → (o : Occurrence) → Contains (of_function code.functions f) o → Contains list o
  pub calls_in : (k f : ℕ) → k < next → k < length list → get_or list k (Call f) ≡ Call f → get_or flags f true ≡ true

any_default : {A : Type 0} (xs : List A) (i : ℕ) (d e : A) → i < length xs → get_or xs i d ≡ get_or xs i e
any_default [] i d e h = absurd (omega (arith, h))
any_default (x ∷ xs) zero d e h = refl
any_default (x ∷ xs) (suc i) d e h = any_default xs i d e (omega (arith, h))

not_both : (b : Bool) → b ≡ true → b ≡ false → ⊥
not_both b h e = let k : true ≡ false = sym h ∙ e in cc

none_past : (fs : List Function) (f : ℕ) (o : Occurrence) → length fs ≤ f → Contains (of_function fs f) o → ⊥
none_past fs f o past h =
    let P : List Occurrence → Type 0 = λ l. Contains l o in
    let here : Contains [] o = subst P (ap of_function_if_any (slice_get_past fs f past)) h in
    absurd (omega (arith, here.1))

pub begin : (code : Code) (list : List Occurrence) (flags : List Bool) → list ≡ of_rules code.rules →
    flags ≡ replicate (length code.functions) false → IsUnderway code list flags 0
begin code list flags e d =
    let P : Occurrence → List Occurrence → Type 0 = λ o l. Contains l o in
    record {
      lengths = ap length d ∙ length-replicate (length code.functions) false;
      sound = λ o h. inl (subst (P o) e h);
      rules_in = λ o h. subst (P o) (sym e) h;
      functions_in = λ f flagged o h. elim (cases_lt f (length code.functions)) [
        | inl below ↦ absurd (not_both _ (sym (ap (λ l. get_or l f true) d) ∙ flagged) (get_or-replicate (length code.functions) f false true below))
        | inr past ↦ absurd (none_past code.functions f o past h)
      ];
      calls_in = λ k f below within is. absurd (omega (arith, below));
    }

-- an occurrence that is pass_one is no call, or a call of a function that was added
pub pass_one : (code : Code) (list : List Occurrence) (flags : List Bool) (next : ℕ) → IsUnderway code list flags next →
    ((f : ℕ) → get_or list next (Call f) ≡ Call f → get_or flags f true ≡ true) → IsUnderway code list flags (next + 1)
pass_one code list flags next u h = record {
  lengths = u.lengths;
  sound = u.sound;
  rules_in = u.rules_in;
  functions_in = u.functions_in;
  calls_in = λ k f below within is. elim (cases_lt k next) [
    | inl less ↦ u.calls_in k f less within is
    | inr more ↦
        let same : k ≡ next = omega (arith, below, more) in
        h f (subst (λ j. get_or list j (Call f) ≡ Call f) same is)
  ];
}

flag_before : (flags : List Bool) (slot f : ℕ) → f ≢ slot → get_or (set flags slot true) f true ≡ true → get_or flags f true ≡ true
flag_before flags slot f other h = sym (get_or-set_other flags slot f true true other) ∙ h

flag_after : (flags : List Bool) (slot f : ℕ) → get_or flags f true ≡ true → get_or (set flags slot true) f true ≡ true
flag_after flags slot f h = elim (cases_eq f slot) [
  | inl same ↦ elim (cases_lt slot (length flags)) [
    | inl below ↦ subst (λ g. get_or (set flags slot true) g true ≡ true) (sym same) (get_or-set_same flags slot true true below)
    | inr past ↦ ap (λ l. get_or l f true) (set_past flags slot true past) ∙ h
  ]
  | inr other ↦ get_or-set_other flags slot f true true other ∙ h
]

past_default : {A : Type 0} (xs : List A) (i : ℕ) (d : A) → length xs ≤ i → get_or xs i d ≡ d
past_default [] i d h = refl
past_default (x ∷ xs) zero d h = absurd (omega (arith, h))
past_default (x ∷ xs) (suc i) d h = past_default xs i d (omega (arith, h))

set_again : (flags : List Bool) (slot : ℕ) → get_or flags slot true ≡ true → set flags slot true ≡ flags
set_again [] slot h = refl
set_again (b ∷ bs) zero h = ap (λ c. c ∷ bs) (sym h)
set_again (b ∷ bs) (suc slot) h = ap (λ l. b ∷ l) (set_again bs slot h)

slot_of : Occurrence → ℕ
slot_of (Call f) = f
slot_of _ = 0

one_call : (list : List Occurrence) (next slot f : ℕ) → next < length list → get_or list next (Call slot) ≡ Call slot →
    get_or list next (Call f) ≡ Call f → slot ≡ f
unfolding slot_of
one_call list next slot f within a b =
    let other : get_or list next (Call f) ≡ get_or list next (Call slot) = any_default list next (Call f) (Call slot) within in
    ap slot_of (sym a ∙ sym other ∙ b)

flag_itself : (flags : List Bool) (slot : ℕ) → get_or (set flags slot true) slot true ≡ true
flag_itself flags slot = elim (cases_lt slot (length flags)) [
  | inl below ↦ get_or-set_same flags slot true true below
  | inr past ↦ ap (λ l. get_or l slot true) (set_past flags slot true past) ∙ past_default flags slot true past
]

-- a function that is called and was not added is added
pub reach_one : (code : Code) (list : List Occurrence) (flags : List Bool) (next slot : ℕ) → IsUnderway code list flags next →
    next < length list → get_or list next (Call slot) ≡ Call slot →
    IsUnderway code (list ++ of_function code.functions slot) (set flags slot true) (next + 1)
reach_one code list flags next slot u within call =
    let new = of_function code.functions slot in
    let called : Contains list (Call slot) = (next, within, call) in
    let reach : Reached code slot = elim (u.sound (Call slot) called) [
      | inl h ↦ from_rules slot h
      | inr h ↦ from_function h.0 slot h.1 h.2
    ] in
    record {
      lengths = length-set flags slot true ∙ u.lengths;
      sound = λ o h. elim (Contains-append_cases list new o h) [
        | inl old ↦ u.sound o old
        | inr more ↦ inr (slot, reach, more)
      ];
      rules_in = λ o h. Contains-append_left list new o (u.rules_in o h);
      functions_in = λ f flagged o h. elim (cases_eq f slot) [
        | inl same ↦ Contains-append_right list new o (subst (λ g. Contains (of_function code.functions g) o) same h)
        | inr other ↦ Contains-append_left list new o (u.functions_in f (flag_before flags slot f other flagged) o h)
      ];
      calls_in = λ k f below more is.
          let here : k < length list = omega (arith, below, within) in
          let old : get_or list k (Call f) ≡ Call f = sym (get_or_append_left list new (Call f) k here) ∙ is in
          elim (cases_lt k next) [
            | inl less ↦ flag_after flags slot f (u.calls_in k f less here old)
            | inr past ↦
                let same : k ≡ next = omega (arith, below, past) in
                let at_next : get_or list next (Call f) ≡ Call f = subst (λ j. get_or list j (Call f) ≡ Call f) same old in
                subst (λ g. get_or (set flags slot true) g true ≡ true) (one_call list next slot f within call at_next) (flag_itself flags slot)
          ];
    }

-- a call of a function that was added
pub again : (code : Code) (list : List Occurrence) (flags : List Bool) (next slot : ℕ) → IsUnderway code list flags next →
    next < length list → get_or list next (Call slot) ≡ Call slot → get_or flags slot true ≡ true →
    IsUnderway code list (set flags slot true) (next + 1)
again code list flags next slot u within call flagged =
    let kept : set flags slot true ≡ flags = set_again flags slot flagged in
    subst (λ l. IsUnderway code list l (next + 1)) (sym kept)
    (pass_one code list flags next u (λ f is. subst (λ g. get_or flags g true ≡ true) (one_call list next slot f within call is) flagged))

flag_of_reached : (code : Code) (list : List Occurrence) (flags : List Bool) (next : ℕ) → IsUnderway code list flags next →
    length list ≤ next → (f : ℕ) → Reached code f → get_or flags f true ≡ true
flag_of_reached code list flags next u end k (from_rules f h) =
    let here = u.rules_in (Call f) h in
    u.calls_in here.0 f (omega (arith, here.1, end)) here.1 here.2
flag_of_reached code list flags next u end k (from_function f g r h) =
    let here = u.functions_in f (flag_of_reached code list flags next u end f r) (Call g) h in
    u.calls_in here.0 g (omega (arith, here.1, end)) here.1 here.2

pub finish : (code : Code) (list : List Occurrence) (flags : List Bool) (next : ℕ) → IsUnderway code list flags next →
    length list ≤ next → (o : Occurrence) → Contains list o ↔ Occurs code o
finish code list flags next u end o = (
  u.sound o,
  λ h. elim h [
    | inl old ↦ u.rules_in o old
    | inr more ↦ u.functions_in more.0 (flag_of_reached code list flags next u end more.0 more.1) o more.2
  ],
)

-- ---- how much is left

-- the sizes of the functions that were not added
abbrev pub left : List Function → List Bool → ℕ
left [] flags = 0
left (f ∷ fs) [] = 0
left (f ∷ fs) (true ∷ flags) = left fs flags
left (f ∷ fs) (false ∷ flags) = length (of_body f.body) + left fs flags

pub left-set : (fs : List Function) (flags : List Bool) (slot : ℕ) → length flags ≡ length fs → get_or flags slot true ≡ false →
    left fs flags ≡ length (of_function fs slot) + left fs (set flags slot true)
left-set [] [] slot e h = absurd (not_both true refl h)
left-set [] (b ∷ bs) slot e h = absurd (omega (arith, e))
left-set (f ∷ fs) [] slot e h = absurd (not_both true refl h)
left-set (f ∷ fs) (true ∷ bs) zero e h = absurd (not_both true refl h)
left-set (f ∷ fs) (false ∷ bs) zero e h = refl
left-set (f ∷ fs) (true ∷ bs) (suc slot) e h = left-set fs bs slot (omega (arith, e)) h
left-set (f ∷ fs) (false ∷ bs) (suc slot) e h =
    let more = left-set fs bs slot (omega (arith, e)) h in
    omega (arith, more)

-- ---- a step

-- what holds after a step, and what is left is less
abbrev pub IsStep : Code → List Occurrence → List Bool → ℕ → List Occurrence → List Bool → Type 0
IsStep code list flags next list' flags' =
    IsUnderway code list' flags' (next + 1)
    × (left code.functions flags' + (length list' - (next + 1)) < left code.functions flags + (length list - next))

step_passed : (code : Code) (list : List Occurrence) (flags : List Bool) (next : ℕ) → IsUnderway code list flags next →
    next < length list → ((f : ℕ) → get_or list next (Call f) ≡ Call f → ⊥) → IsStep code list flags next list flags
step_passed code list flags next u within other =
    (pass_one code list flags next u (λ f is. absurd (other f is)), omega (arith, within))

step_by : (code : Code) (list list' : List Occurrence) (flags : List Bool) (next slot : ℕ) (b : Bool) → get_or flags slot true ≡ b →
    IsUnderway code list flags next → next < length list → get_or list next (Call slot) ≡ Call slot →
    MatchBool b (list' ≡ list) (list' ≡ list ++ of_function code.functions slot) →
    IsStep code list flags next list' (set flags slot true)
step_by code list list' flags next slot true flagged u within call same =
    let P : List Occurrence → Type 0 = λ l. IsUnderway code l (set flags slot true) (next + 1) in
    let kept : left code.functions (set flags slot true) ≡ left code.functions flags = ap (left code.functions) (set_again flags slot flagged) in
    let long : length list' ≡ length list = ap length same in
    (subst P (sym same) (again code list flags next slot u within call flagged), omega (arith, kept, long, within))
step_by code list list' flags next slot false flagged u within call more =
    let P : List Occurrence → Type 0 = λ l. IsUnderway code l (set flags slot true) (next + 1) in
    let less = left-set code.functions flags slot u.lengths flagged in
    let long : length list' ≡ length list + length (of_function code.functions slot) = ap length more ∙ length-append list _ in
    (subst P (sym more) (reach_one code list flags next slot u within call), omega (arith, less, long, within))

-- at a call, whose function was added or is added now
pub step_of_call : (code : Code) (fs : List Function) (x : Occurrence) (list list' : List Occurrence) (flags flags' : List Bool) (next slot : ℕ) →
    IsUnderway code list flags next → next < length list → x ≡ get_or list next x → x ≡ Call slot → fs ≡ code.functions →
    flags' ≡ set flags slot true →
    MatchBool (get_or flags slot true) (list' ≡ list) (list' ≡ list ++ of_function fs slot) →
    IsStep code list flags next list' flags'
step_of_call code fs x list list' flags flags' next slot u within at is same e h =
    let call : get_or list next (Call slot) ≡ Call slot = subst (λ y. get_or list next y ≡ y) is (sym at) in
    let more : MatchBool (get_or flags slot true) (list' ≡ list) (list' ≡ list ++ of_function code.functions slot) =
    subst (λ g. MatchBool (get_or flags slot true) (list' ≡ list) (list' ≡ list ++ of_function g slot)) same h in
    subst (λ l. IsStep code list flags next list' l) (sym e) (step_by code list list' flags next slot (get_or flags slot true) refl u within call more)

-- at anything else
pub step_of_other : (code : Code) (x : Occurrence) (list list' : List Occurrence) (flags flags' : List Bool) (next : ℕ) →
    IsUnderway code list flags next → next < length list → x ≡ get_or list next x → ((f : ℕ) → x ≡ Call f → ⊥) →
    list' ≡ list → flags' ≡ flags → IsStep code list flags next list' flags'
step_of_other code x list list' flags flags' next u within at other e d =
    let first : IsStep code list flags next list flags =
    step_passed code list flags next u within (λ f is. other f (at ∙ any_default list next x (Call f) within ∙ is)) in
    let second : IsStep code list flags next list' flags = subst (λ l. IsStep code list flags next l flags) (sym e) first in
    subst (λ l. IsStep code list flags next list' l) (sym d) second

-- ---- a flag that is read

pub unset : (flags : List Bool) (slot : ℕ) (b : Bool) → slot < length flags → b ≡ get_or flags slot b → b ≡ false →
    get_or flags slot true ≡ false
unset flags slot b within at is = any_default flags slot true b within ∙ sym at ∙ is

pub second : (b : Bool) (P Q : Type 0) → b ≡ false → Q → MatchBool b P Q
second true P Q e q = absurd (not_both true refl e)
second false P Q e q = q
