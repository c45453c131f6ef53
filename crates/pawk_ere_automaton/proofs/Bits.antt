-- The bits of a number that is a sum of eight, and sets that are kept in bits.
use Rattle.std.proofs.Common.{◌≡◌, ℕ, zero, suc, ◌+◌, ◌*◌, ◌<◌, ◌≤◌, List, Bool, false, get_or, ap, ◌∙◌, sym, nat_eq, ⊎_elim, arith}
use Rattle.std.specs.Prelude.{◌/◌, ◌%◌}
use Rattle.std.proofs.lemmas.Bool.{cases_lt, false≢true}
use Rattle.std.proofs.lemmas.List.{get_or_past}
use Rattle.std.proofs.lemmas.List.FromFn.{length-map-range_with_len}
use Rattle.pawk_ere_syntax.specs.Pattern.{Holds}
use Rattle.pawk_ere_automaton.specs.Members.{bit, bit_at, members_of}
use Rattle.pawk_ere_automaton.specs.declared.members.Members.{Members}

-- a digit of a number means what the one that was added at its place means
digit_tells : (m : List Bool) (i j a n : ℕ) → i ≡ j → nat_eq a 1 ≡ get_or m i false → n ≡ a → nat_eq n 1 ≡ get_or m j false
digit_tells m i j a n is h e = ap (λ x. nat_eq x 1) e ∙ h ∙ ap (λ x. get_or m x false) is

-- the bits of a sum of eight
pub octet_bits : (m : List Bool) (p a b c d e f g h v : ℕ) → a ≤ 1 → b ≤ 1 → c ≤ 1 → d ≤ 1 → e ≤ 1 → f ≤ 1 → g ≤ 1 → h ≤ 1
    → v ≡ a + 2 * b + 4 * c + 8 * d + 16 * (e + 2 * f + 4 * g + 8 * h)
    → nat_eq a 1 ≡ get_or m (8 * p) false → nat_eq b 1 ≡ get_or m (8 * p + 1) false
    → nat_eq c 1 ≡ get_or m (8 * p + 2) false → nat_eq d 1 ≡ get_or m (8 * p + 3) false
    → nat_eq e 1 ≡ get_or m (8 * p + 4) false → nat_eq f 1 ≡ get_or m (8 * p + 5) false
    → nat_eq g 1 ≡ get_or m (8 * p + 6) false → nat_eq h 1 ≡ get_or m (8 * p + 7) false
    → (k : ℕ) → k < 8 → bit v k ≡ get_or m (8 * p + k) false
octet_bits m p a b c d e f g h v la lb lc ld le lf lg lh is ha hb hc hd he hf hg hh zero lt =
    digit_tells m (8 * p) (8 * p + 0) a (v / 1 % 2) (omega arith) ha (omega arith)
octet_bits m p a b c d e f g h v la lb lc ld le lf lg lh is ha hb hc hd he hf hg hh (suc zero) lt =
    digit_tells m (8 * p + 1) (8 * p + 1) b (v / 2 % 2) (omega arith) hb (omega arith)
octet_bits m p a b c d e f g h v la lb lc ld le lf lg lh is ha hb hc hd he hf hg hh (suc (suc zero)) lt =
    digit_tells m (8 * p + 2) (8 * p + 2) c (v / 4 % 2) (omega arith) hc (omega arith)
octet_bits m p a b c d e f g h v la lb lc ld le lf lg lh is ha hb hc hd he hf hg hh (suc (suc (suc zero))) lt =
    digit_tells m (8 * p + 3) (8 * p + 3) d (v / 8 % 2) (omega arith) hd (omega arith)
octet_bits m p a b c d e f g h v la lb lc ld le lf lg lh is ha hb hc hd he hf hg hh (suc (suc (suc (suc zero)))) lt =
    digit_tells m (8 * p + 4) (8 * p + 4) e (v / 16 % 2) (omega arith) he (omega arith)
octet_bits m p a b c d e f g h v la lb lc ld le lf lg lh is ha hb hc hd he hf hg hh (suc (suc (suc (suc (suc zero))))) lt =
    digit_tells m (8 * p + 5) (8 * p + 5) f (v / 32 % 2) (omega arith) hf (omega arith)
octet_bits m p a b c d e f g h v la lb lc ld le lf lg lh is ha hb hc hd he hf hg hh (suc (suc (suc (suc (suc (suc zero)))))) lt =
    digit_tells m (8 * p + 6) (8 * p + 6) g (v / 64 % 2) (omega arith) hg (omega arith)
octet_bits m p a b c d e f g h v la lb lc ld le lf lg lh is ha hb hc hd he hf hg hh (suc (suc (suc (suc (suc (suc (suc zero))))))) lt =
    digit_tells m (8 * p + 7) (8 * p + 7) h (v / 128 % 2) (omega arith) hh (omega arith)
octet_bits m p a b c d e f g h v la lb lc ld le lf lg lh is ha hb hc hd he hf hg hh (suc (suc (suc (suc (suc (suc (suc (suc n)))))))) lt = absurd (omega arith)

-- no number past 255 is in a set
pub holds_below : (set : Members) (k : ℕ) → Holds (members_of set) k → k < 256
unfolding members_of
holds_below set k h = ⊎_elim
    (λ lt. lt)
    (λ ge. absurd (false≢true (sym (get_or_past (members_of set) k false (let n = length-map-range_with_len (bit_at set.octets) 0 256 in omega (arith, n, ge))) ∙ h)))
    (cases_lt k 256)
