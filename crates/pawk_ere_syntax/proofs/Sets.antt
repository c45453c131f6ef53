-- Which bytes sets hold.
use Rattle.std.proofs.Common.{◌≡◌, ◌↔◌, ℕ, ◌+◌, ◌<◌, ◌≤◌, ◌⊎◌, ◌||◌, ◌&&◌, max, not, Bool, true, false, List, [], ◌∷◌, get_or, set, replicate, leb, arith, refl, sym, subst, ◌∙◌, ap, inl, inr, ⊎_elim, true≢false, get_or-set_other, get_or-set_same}
use Rattle.std.proofs.lemmas.Bool.{or_cases, and_parts, leb-true, le-leb, not-true, false_from_ne_true}
use Rattle.std.proofs.lemmas.Bool.Decides.{leb_tells}
use Rattle.std.proofs.lemmas.List.{get_or-replicate, length-replicate}
use Rattle.std.proofs.lemmas.List.FromFn.{get_or-map-range_with_len}
use Rattle.std.proofs.Math.Bool.{or-true}
use Rattle.pawk_ere_syntax.specs.Pattern.{Holds}
use Rattle.pawk_ere_syntax.specs.Sets.{none, all_bytes, only, in_either, with_range, with_ranges, not_in, complement, InSome}

inside_range : (low high byte : ℕ) (had : Bool) → low ≤ byte → byte ≤ high → (had || (leb low byte && leb byte high)) ≡ true
inside_range low high byte had x y = rw (le-leb low byte x, le-leb byte high y) (or-true had)

outside_range : (low high byte : ℕ) (had : Bool) → ((low ≤ byte) × (byte ≤ high) → ⊥) → (had || (leb low byte && leb byte high)) ≡ had
outside_range low high byte true out = refl
outside_range low high byte false out =
    false_from_ne_true (leb low byte && leb byte high) (λ t. let p = and_parts (leb low byte) (leb byte high) t in out (leb-true low byte p.0, leb-true byte high p.1))

-- a set in which the bytes of a range were added one by one, up to a place after it
pub range_added : (old new : List Bool) (low high stop byte : ℕ) → stop ≤ max low (high + 1) → high + 1 ≤ stop
    → ((k : ℕ) → low ≤ k → k < stop → get_or new k false ≡ true)
    → ((k : ℕ) → k < low → get_or new k false ≡ get_or old k false)
    → ((k : ℕ) → stop ≤ k → get_or new k false ≡ get_or old k false)
    → get_or new byte false ≡ in_either old low high byte
range_added old new low high stop byte far near inside below above = ⊎_elim
    (λ x. ⊎_elim
    (λ y. inside byte x.1 (omega arith) ∙ sym (inside_range low high byte (get_or old byte false) x.1 y.1))
    (λ y. above byte (omega arith) ∙ sym (outside_range low high byte (get_or old byte false) (λ p. omega arith)))
    (leb_tells byte high))
    (λ x. below byte x.1 ∙ sym (outside_range low high byte (get_or old byte false) (λ p. omega arith)))
    (leb_tells low byte)

at_range : (low high : ℕ) (members : List Bool) (byte : ℕ) → byte < 256 → get_or (with_range low high members) byte false ≡ in_either members low high byte
unfolding with_range
at_range low high members byte lt = get_or-map-range_with_len (in_either members low high) 0 256 byte byte false lt (omega arith)

with_range_holds : (low high : ℕ) (members : List Bool) (byte : ℕ) → byte < 256 → Holds (with_range low high members) byte ↔ (Holds members byte ⊎ ((low ≤ byte) × (byte ≤ high)))
with_range_holds low high members byte lt = (
  λ h. ⊎_elim inl (λ x. let p = and_parts (leb low byte) (leb byte high) x in inr (leb-true low byte p.0, leb-true byte high p.1)) (or_cases (get_or members byte false) (leb low byte && leb byte high) (sym (at_range low high members byte lt) ∙ h)),
  λ h. at_range low high members byte lt ∙ ⊎_elim (λ x. ap (λ had. had || (leb low byte && leb byte high)) x) (λ x. inside_range low high byte (get_or members byte false) x.0 x.1) h,
)

-- a set with ranges added holds what it held, and what is in one of the ranges
pub with_ranges_holds : (ranges : List (ℕ × ℕ)) (members : List Bool) (byte : ℕ) → byte < 256 → Holds (with_ranges ranges members) byte ↔ (Holds members byte ⊎ InSome ranges byte)
with_ranges_holds [] members byte lt = (inl, λ h. ⊎_elim (λ x. x) (λ x. absurd x) h)
with_ranges_holds (r ∷ rs) members byte lt =
    let later = with_ranges_holds rs (with_range r.0 r.1 members) byte lt in
    let first = with_range_holds r.0 r.1 members byte lt in (
      λ h. ⊎_elim (λ x. ⊎_elim inl (λ y. inr (inl y)) (first.0 x)) (λ x. inr (inr x)) (later.0 h),
      λ h. later.1 (⊎_elim (λ x. inl (first.1 (inl x))) (λ x. ⊎_elim (λ y. inl (first.1 (inr y))) inr x) h),
    )

at_complement : (members : List Bool) (byte : ℕ) → byte < 256 → get_or (complement members) byte false ≡ not (get_or members byte false)
unfolding complement
at_complement members byte lt = get_or-map-range_with_len (not_in members) 0 256 byte byte false lt (omega arith)

-- the complement holds what the set does not
pub complement_holds : (members : List Bool) (byte : ℕ) → byte < 256 → Holds (complement members) byte ↔ (Holds members byte → ⊥)
complement_holds members byte lt = (
  λ h x. true≢false (sym x ∙ not-true (get_or members byte false) (sym (at_complement members byte lt) ∙ h)),
  λ h. at_complement members byte lt ∙ ap not (false_from_ne_true (get_or members byte false) h),
)

pub none_holds : (byte : ℕ) → byte < 256 → Holds none byte → ⊥
unfolding none
none_holds byte lt h = true≢false (sym h ∙ get_or-replicate 256 byte false false lt)

pub all_holds : (byte : ℕ) → byte < 256 → Holds all_bytes byte
unfolding all_bytes
all_holds byte lt = get_or-replicate 256 byte true false lt

-- the set of one byte holds that byte alone
pub only_holds : (one byte : ℕ) → one < 256 → byte < 256 → Holds (only one) byte ↔ (byte ≡ one)
unfolding only
only_holds one byte lo lt = (
  λ h. ⊎_elim (λ x. ⊎_elim (λ y. omega arith) (λ y. other (omega arith) h) (leb_tells byte one)) (λ x. other (omega arith) h) (leb_tells one byte),
  λ h. subst (λ k. get_or (set (replicate 256 false) one true) k false ≡ true) (sym h) (get_or-set_same (replicate 256 false) one true false (rw (length-replicate 256 false) lo)),
)
  where
    other : (byte ≡ one → ⊥) → get_or (set (replicate 256 false) one true) byte false ≡ true → byte ≡ one
    other ne h = absurd (true≢false (sym h ∙ get_or-set_other (replicate 256 false) one byte true false ne ∙ get_or-replicate 256 byte false false lt))
