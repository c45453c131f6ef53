-- The steps of decoding a string.
use Rattle.std.proofs.Common.{◌≡◌, ◌≤◌, ℕ, zero, suc, ◌-◌, [], ◌∷◌, ◌++◌, drop, Some, None, refl, sym, ◌∙◌, arith}
use Rattle.pawk_lex.specs.Bytes.{Text}
use Rattle.pawk_lex.specs.Strings.{string_byte, decode}

pub decode_left : (n : ℕ) (front z : Text) → decode n front z ≡ decode 0 front (drop n z)
decode_left zero front [] = refl
decode_left (suc n) front [] = refl
decode_left zero front (b ∷ z) = refl
decode_left (suc n) front (b ∷ z) = decode_left n front z

pub decode_stops : (front z : Text) → string_byte z ≡ None → decode 0 front z ≡ (front, z)
decode_stops front [] e = refl
decode_stops front (b ∷ z) e = rw e refl

steps : (n b : ℕ) (front z : Text) → 1 ≤ n → decode (n - 1) front z ≡ decode 0 front (drop n (b ∷ z))
steps zero b front z h = absurd (omega arith)
steps (suc n) b front z h = let e : suc n - 1 ≡ n = omega arith in rw e (decode_left n front z)

pub decode_goes : (front z : Text) (byte n : ℕ) → string_byte z ≡ Some (byte, n) → 1 ≤ n → decode 0 front z ≡ decode 0 (front ++ byte ∷ []) (drop n z)
unfolding string_byte
decode_goes front [] byte n e h = absurd cc
decode_goes front (b ∷ z) byte n e h = rw e (steps n b (front ++ byte ∷ []) z h)

-- the end of the loop that decodes, and one turn of it
pub decode_done : (front z whole : Text) → string_byte z ≡ None → decode 0 front z ≡ decode 0 [] whole → decode 0 [] whole ≡ (front, z)
decode_done front z whole none e = sym e ∙ decode_stops front z none

pub decode_turn : (front grown z whole : Text) (byte n : ℕ) → string_byte z ≡ Some (byte, n) → 1 ≤ n → grown ≡ front ++ byte ∷ [] → decode 0 front z ≡ decode 0 [] whole → decode 0 grown (drop n z) ≡ decode 0 [] whole
decode_turn front grown z whole byte n is some grows e = rw grows (sym (decode_goes front z byte n is some) ∙ e)
