-- Expressions that are n bytes of one set, or one or more of them.
use Rattle.std.proofs.Common.{◌≡◌, ℕ, zero, suc, ◌+◌, ◌-◌, ◌*◌, ◌<◌, ◌≤◌, Bool, List, [], ◌∷◌, length, get_or, drop, take, length-drop, eqb-true, Option, Some, None, IfSome, refl, sym, ap, ◌∙◌, subst, ⊎_elim, arith}
use Rattle.std.proofs.lemmas.Bool.{cases_lt}
use Rattle.std.proofs.lemmas.List.{get_or-drop}
use Rattle.std.specs.Prelude.{slice_index}
use Rattle.memchr.specs.Find.{Passes, is_byte}
use Rattle.pawk_ere_syntax.specs.Sets.{IsOnlyMember}
use Rattle.pawk_ere_syntax.specs.Pattern.{Holds, IsFound, Leads}
use Rattle.pawk_ere.specs.Runs.{AllHold, IsRun, IsTurns, NoneHolds}
use Rattle.pawk_ere_automaton.proofs.Leftmost.{found_none, found_first}
use Rattle.pawk_ere_automaton.proofs.Walks.{tail}
use Rattle.pawk_ere_automaton.specs.Regex.{Regex, Empty, Bytes, Plus, Sequence, Takes, copies}

pub run_byte : (members : List Bool) → IsRun (Bytes members) members 1
run_byte members s i j = (
  λ t. (
    λ k ge lt.
        let here : k ≡ i = omega (arith, t.1) in
        subst (λ x. (x < length s) × Holds members (get_or s x 0)) (sym here) (t.0, t.2),
    t.1,
  ),
  λ h. let x = h.0 i (omega arith) (omega (arith, h.1)) in (x.0, h.1, x.1),
)

run_nothing : (members : List Bool) → IsRun Empty members 0
run_nothing members s i j = (λ t. (λ k ge lt. absurd (omega arith), omega arith), λ h. omega (arith, h.1))

run_join : (a b : Regex) (members : List Bool) (x y : ℕ) → IsRun a members x → IsRun b members y → IsRun (Sequence a b) members (x + y)
run_join a b members x y f g s i j = (
  λ t.
      let p = (f s i t.0).0 t.1 in
      let q = (g s t.0 j).0 t.2 in
      (λ k ge lt. ⊎_elim (λ l. p.0 k ge l) (λ r. q.0 k r lt) (cases_lt k t.0), omega (arith, p.1, q.1)),
  λ h. (
    i + x,
    (f s i (i + x)).1 (λ k ge lt. h.0 k ge (omega (arith, h.1)), refl),
    (g s (i + x) j).1 (λ k ge lt. h.0 k (omega arith) lt, omega (arith, h.1)),
  ),
)

pub run_before_nothing : (a : Regex) (members : List Bool) (x : ℕ) → IsRun a members x → IsRun (Sequence a Empty) members x
run_before_nothing a members x f =
    let e : x + 0 ≡ x = omega arith in
    subst (IsRun (Sequence a Empty) members) e (run_join a Empty members x 0 f (run_nothing members))

pub run_copies : (a : Regex) (members : List Bool) (n x : ℕ) → IsRun a members x → IsRun (copies n a) members (n * x)
run_copies a members zero x f = let e : 0 ≡ zero * x = grind arith in subst (IsRun Empty members) e (run_nothing members)
run_copies a members (suc n) x f =
    let e : x + n * x ≡ suc n * x = grind arith in
    subst (IsRun (Sequence a (copies n a)) members) e (run_join a (copies n a) members x (n * x) f (run_copies a members n x f))

-- no run of n starts from one place up to another
abbrev pub NoRun : List Bool → List ℕ → ℕ → ℕ → ℕ → Type 0
NoRun members s count low high = (k : ℕ) → low ≤ k → k < high → AllHold members s k (k + count) → ⊥

-- where no byte belongs to the set no run of one starts
no_run_of_one : (members : List Bool) (s : List ℕ) (low high : ℕ) → NoneHolds members s low high → NoRun members s 1 low high
no_run_of_one members s low high none k ge lt all = none k ge lt (all k (omega arith) (omega arith)).1

-- a byte of another kind ends each run that starts before it
pub no_run_over : (members : List Bool) (s : List ℕ) (count low start place : ℕ) → NoRun members s count low start → place < start + count → (Holds members (get_or s place 0) → ⊥) → NoRun members s count low (place + 1)
no_run_over members s count low start place before near other k ge lt all = ⊎_elim
    (λ l. before k ge l all)
    (λ r. other (all place (omega arith) (omega arith)).1)
    (cases_lt k start)

pub run_some : (e : Regex) (members : List Bool) (s : List ℕ) (count from start : ℕ) → from ≤ start → NoRun members s count from start → AllHold members s start (start + count) → IsRun e members count → IsFound (Takes e s) from (Some (start, start + count))
run_some e members s count from start le before all is = found_first e s from start (start + count) le
    (λ k ge lt j m. let x = (is s k j).0 m in before k ge lt (subst (AllHold members s k) x.1 x.0))
    (record {
      matches = (is s start (start + count)).1 (all, refl);
      longest = λ l m. let x = ((is s start l).0 m).1 in omega arith;
    })

pub run_none : (e : Regex) (members : List Bool) (s : List ℕ) (count from start : ℕ) → 1 ≤ count → start ≤ length s → length s - start < count → NoRun members s count from start → IsRun e members count → IsFound (Takes e s) from None
run_none e members s count from start some within' short before is = found_none e s from (λ k ge j m.
    let x = (is s k j).0 m in ⊎_elim
    (λ l. before k ge l (subst (AllHold members s k) x.1 x.0))
    (λ r. let y = x.0 ((k + count) - 1) (omega arith) (omega (arith, x.1)) in let z = y.0 in omega arith)
    (cases_lt k start))

-- a byte of the set after others is the leftmost match
pub one_some : (e : Regex) (members : List Bool) (s : List ℕ) (from place : ℕ) → from ≤ place → place < length s → Holds members (get_or s place 0) → NoneHolds members s from place → IsRun e members 1 → IsFound (Takes e s) from (Some (place, place + 1))
one_some e members s from place le lt here before is = run_some e members s 1 from place le
    (no_run_of_one members s from place before)
    (λ k ge below.
    let same : k ≡ place = omega arith in
    subst (λ x. (x < length s) × Holds members (get_or s x 0)) (sym same) (lt, here))
    is

pub one_none : (e : Regex) (members : List Bool) (s : List ℕ) (from : ℕ) → from ≤ length s → NoneHolds members s from (length s) → IsRun e members 1 → IsFound (Takes e s) from None
one_none e members s from within' none is =
    run_none e members s 1 from (length s) (omega arith) (omega arith) (omega arith) (no_run_of_one members s from (length s) none) is

-- turns of one byte each are bytes of the set
leads_hold : (a : Regex) (members : List Bool) → IsRun a members 1 → (s : List ℕ) (i : ℕ) (ks : List ℕ) (j : ℕ) → Leads (Takes a s) i ks j → AllHold members s i j × (j ≡ i + length ks)
leads_hold a members f s i [] j t = (λ k ge lt. absurd (omega arith), omega arith)
leads_hold a members f s i (m ∷ ks) j t =
    let p = (f s i m).0 t.0 in
    let q = leads_hold a members f s m ks j t.1 in
    (λ k ge lt. ⊎_elim (λ l. p.0 k ge l) (λ r. q.0 k r lt) (cases_lt k m), omega (arith, p.1, q.1))

-- bytes of the set are turns of one byte each
leads_of : (a : Regex) (members : List Bool) → IsRun a members 1 → (s : List ℕ) (n i j : ℕ) → AllHold members s i j → j ≡ i + n → (ks : List ℕ) × (length ks ≡ n) × Leads (Takes a s) i ks j
leads_of a members f s zero i j all far = ([], refl, omega arith)
leads_of a members f s (suc n) i j all far =
    let rest = leads_of a members f s n (i + 1) j (λ k ge lt. all k (omega arith) lt) (omega arith) in
    ((i + 1) ∷ rest.0, ap suc rest.1, ((f s i (i + 1)).1 (λ k ge lt. all k ge (omega arith), refl), rest.2))

pub turns_plus : (a : Regex) (members : List Bool) → IsRun a members 1 → IsTurns (Plus a) members
turns_plus a members f s i j = (
  λ t. let q = leads_hold a members f s i t.0 j t.2 in (q.0, omega (arith, q.1, t.1)),
  λ h. let w = leads_of a members f s (j - i) i j h.0 (omega (arith, h.1)) in (w.0, omega (arith, w.1, h.1), w.2),
)

pub turns_before_nothing : (a : Regex) (members : List Bool) → IsTurns a members → IsTurns (Sequence a Empty) members
turns_before_nothing a members f s i j = (
  λ t. subst (λ x. AllHold members s i x × (i < x)) t.2 ((f s i t.0).0 t.1),
  λ h. (j, (f s i j).1 h, refl),
)

-- a byte of the set and those after it, up to one of another kind
all_from : (members : List Bool) (s : List ℕ) (start end : ℕ) → start < length s → Holds members (get_or s start 0) → AllHold members s (start + 1) end → AllHold members s start end
all_from members s start end lt here all k ge below = ⊎_elim
    (λ far. all k (omega arith) below)
    (λ near.
    let same : start ≡ k = omega arith in
    subst (λ x. (x < length s) × Holds members (get_or s x 0)) same (lt, here))
    (cases_lt start k)

pub turns_some : (e : Regex) (members : List Bool) (s : List ℕ) (from start end : ℕ) → from ≤ start → start < length s → Holds members (get_or s start 0) → NoneHolds members s from start → start + 1 ≤ end → AllHold members s (start + 1) end → (end < length s → Holds members (get_or s end 0) → ⊥) → IsTurns e members → IsFound (Takes e s) from (Some (start, end))
turns_some e members s from start end le lt here before some all other is = found_first e s from start end le
    (λ k ge below j m. let x = (is s k j).0 m in before k ge below (x.0 k (omega arith) x.1).1)
    (record {
      matches = (is s start end).1 (all_from members s start end lt here all, omega arith);
      longest = λ l m.
          let x = (is s start l).0 m in ⊎_elim
          (λ far. let y = x.0 end (omega arith) far in absurd (other y.0 y.1))
          (λ near. near)
          (cases_lt end l);
    })

pub turns_none : (e : Regex) (members : List Bool) (s : List ℕ) (from : ℕ) → NoneHolds members s from (length s) → IsTurns e members → IsFound (Takes e s) from None
turns_none e members s from none is = found_none e s from (λ k ge j m.
    let x = (is s k j).0 m in
    let y = x.0 k (omega arith) x.1 in none k ge y.0 y.1)

-- the one member of a set, found in the rest of a text, belongs to it
pub only_here : (members : List Bool) (s : List ℕ) (from byte ahead : ℕ) → from ≤ length s → IsOnlyMember members byte → ahead < length (take (length s - from) (drop from s)) → Passes (is_byte byte) (take (length s - from) (drop from s)) ahead → (from + ahead < length s) × Holds members (slice_index s (from + ahead))
only_here members s from byte ahead le only lt passes =
    let long : length (take (length s - from) (drop from s)) ≡ length s - from = ap length (tail s from) ∙ length-drop from s in
    let read : slice_index (take (length s - from) (drop from s)) ahead ≡ slice_index s (from + ahead) = ap (λ l. slice_index l ahead) (tail s from) ∙ get_or-drop from s ahead 0 in
    (omega (arith, long), subst (Holds members) (sym (sym read ∙ eqb-true _ _ passes)) only.0)

pub map_some : {A : Type 0} (P Q : A → Type 0) (r : Option A) → ((x : A) → P x → Q x) → IfSome r P → IfSome r Q
map_some P Q None f h = tt
map_some P Q (Some x) f h = f x h
