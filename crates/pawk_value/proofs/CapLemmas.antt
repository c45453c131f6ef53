-- Counts above the limit of lengths are one: the text is too long with each of them.
use Rattle.std.proofs.Common.{◌≡◌, ◌⊎◌, inl, inr, ℕ, ◌+◌, ◌-◌, ◌<◌, ◌≤◌, Bool, true, false, is_some, List, [], ◌∷◌, ◌++◌, length, drop, map, replicate, Option, Some, None, Result, Ok, Err, IsErrAnd, ℤ, pos, negsuc, refl, ap, sym, ◌∙◌, subst, arith, length-append}
use Rattle.std.proofs.lemmas.Bool.{cases_lt}
use Rattle.std.proofs.lemmas.List.{length-replicate, length-take, take_all}
use Rattle.std.specs.declared.vec.Vec.{Vec}
use Rattle.std.specs.declared.alloc.Global.{Global}
use Rattle.pawk_value.specs.declared.faults.Fault.{Fault}
use Rattle.pawk_value.specs.declared.faults.Stop.{Stop}
use Rattle.pawk_value.specs.declared.faults.Stop.TheVariants as stop
use Rattle.pawk_value.specs.Value.{Val}
use Rattle.pawk_value.specs.Conversion.{num_of, text_of}
use Rattle.pawk_value.specs.declared.directive.Conversion.{Conversion}
use Rattle.pawk_value.specs.declared.directive.Conversion.TheVariants as kind
use Rattle.pawk_value.specs.declared.directive.Directive.{Directive}
use Rattle.pawk_value.specs.Format.{spaces, zeros, with_spaces, in_width, zero_count, fills_zeros, number_text, own_digits, sign_text, signed_text, unsigned_prefix, unsigned_text, beginning, string_text, character, signed_result, unsigned_result, character_result, text_by, Piece, Plain, Percent, Place, Malformed, pieces_of, and_then, within_limit, value_text, text_of_pieces, bytes_or_later, writes}
use Rattle.pawk_value.specs.FormatViews.{cap, cap_precision, cap_directive, cap_piece, cap_pieces_of, text_after, Writes}
use Rattle.pawk_value.specs.FormatResults.{Formats}
use Rattle.pawk_value.proofs.PieceLemmas.{past_limit}

-- two texts are one, or both are too long
abbrev pub SameOrLong : List ℕ → List ℕ → Type 0
SameOrLong a b = (a ≡ b) ⊎ ((16777216 < length a) × (16777216 < length b))

same_limit : (out a b : List ℕ) → SameOrLong a b → within_limit (out ++ a) ≡ within_limit (out ++ b)
same_limit out a b (inl e) = ap (λ l. within_limit (out ++ l)) e
same_limit out a b (inr h) = past_limit (out ++ a) (omega (arith, h.0, length-append out a)) ∙ sym (past_limit (out ++ b) (omega (arith, h.1, length-append out b)))

length_copies : (n b : ℕ) → length (replicate n b) ≡ n
length_copies n b = length-replicate n b

pub spaces_length : (left : Bool) (w : ℕ) (t : List ℕ) → length (with_spaces left w t) ≡ (w - length t) + length t
spaces_length true w t = omega (arith, length-append t (spaces (w - length t)), length_copies (w - length t) 32)
spaces_length false w t = omega (arith, length-append (spaces (w - length t)) t, length_copies (w - length t) 32)

cap_spaces : (left : Bool) (w : ℕ) (a b : List ℕ) → SameOrLong a b → SameOrLong (with_spaces left (cap w) a) (with_spaces left w b)
cap_spaces left w a b (inr h) = inr (omega (arith, h.0, spaces_length left (cap w) a), omega (arith, h.1, spaces_length left w b))
cap_spaces left w a b (inl e) =
    elim (cases_lt w 16777218) [
      | inl l ↦ let same : cap w ≡ w = omega arith in inl (rw (same, e) refl)
      | inr g ↦ let most : cap w ≡ 16777217 = omega arith in inr (omega (arith, most, spaces_length left (cap w) a), omega (arith, spaces_length left w b))
    ]

pub body_length : (z : ℕ) (prefix ds : List ℕ) → length (prefix ++ (zeros z ++ ds)) ≡ length prefix + (z + length ds)
body_length z prefix ds = omega (arith, length-append prefix (zeros z ++ ds), length-append (zeros z) ds, length_copies z 48)

cap_body : (fills : Bool) (p : Option ℕ) (w : ℕ) (prefix ds : List ℕ) → SameOrLong (prefix ++ (zeros (zero_count fills (cap_precision p) (cap w) (length prefix) (length ds)) ++ ds)) (prefix ++ (zeros (zero_count fills p w (length prefix) (length ds)) ++ ds))
cap_body fills (Some p) w prefix ds =
    elim (cases_lt p 16777218) [
      | inl l ↦ let same : cap p ≡ p = omega arith in inl (rw same refl)
      | inr g ↦ let most : cap p ≡ 16777217 = omega arith in inr (omega (arith, most, body_length (cap p - length ds) prefix ds), omega (arith, body_length (p - length ds) prefix ds))
    ]
cap_body true None w prefix ds =
    elim (cases_lt w 16777218) [
      | inl l ↦ let same : cap w ≡ w = omega arith in inl (rw same refl)
      | inr g ↦ let most : cap w ≡ 16777217 = omega arith in inr (omega (arith, most, body_length (cap w - (length prefix + length ds)) prefix ds), omega (arith, body_length (w - (length prefix + length ds)) prefix ds))
    ]
cap_body false None w prefix ds = inl refl

cap_number : (d : Directive) (prefix ds out : List ℕ) → within_limit (out ++ number_text (cap_directive d) prefix ds) ≡ within_limit (out ++ number_text d prefix ds)
cap_number d prefix ds out =
    same_limit out (number_text (cap_directive d) prefix ds) (number_text d prefix ds) (cap_spaces d.flags.left d.width _ _ (cap_body (fills_zeros d.flags) d.precision d.width prefix ds))

some_cap : (p : Option ℕ) → is_some (cap_precision p) ≡ is_some p
some_cap None = refl
some_cap (Some n) = refl

own_cap : (d : Directive) (n : ℕ) (ds : List ℕ) → own_digits (cap_directive d) n ds ≡ own_digits d n ds
own_cap d n ds = rw (some_cap d.precision) refl

cap_signed : (d : Directive) (z : ℤ) (out : List ℕ) → within_limit (out ++ signed_text (cap_directive d) z) ≡ within_limit (out ++ signed_text d z)
cap_signed d z out = rw (some_cap d.precision) (cap_number d (sign_text d.flags z) _ out)

cap_unsigned : (d : Directive) (n : ℕ) (out : List ℕ) → within_limit (out ++ unsigned_text (cap_directive d) n) ≡ within_limit (out ++ unsigned_text d n)
cap_unsigned d n out = rw (some_cap d.precision) (cap_number d (unsigned_prefix d n) _ out)

cap_beginning : (p : Option ℕ) (t : List ℕ) → SameOrLong (beginning (cap_precision p) t) (beginning p t)
cap_beginning None t = inl refl
cap_beginning (Some p) t =
    elim (cases_lt p 16777218) [
      | inl l ↦ let same : cap p ≡ p = omega arith in inl (rw same refl)
      | inr g ↦ elim (cases_lt (length t) 16777218) [
        | inl s ↦ let most : length t ≤ cap p = omega arith in let more : length t ≤ p = omega arith in inl (take_all (cap p) t most ∙ sym (take_all p t more))
        | inr m ↦ let most : cap p ≡ 16777217 = omega arith in inr (omega (arith, most, length-take (cap p) t), omega (arith, length-take p t))
      ]
    ]

cap_string : (d : Directive) (v : Val) (out : List ℕ) → within_limit (out ++ string_text (cap_directive d) v) ≡ within_limit (out ++ string_text d v)
cap_string d v out =
    same_limit out (string_text (cap_directive d) v) (string_text d v) (cap_spaces d.flags.left d.width _ _ (cap_beginning d.precision (text_of v)))

cap_character : (d : Directive) (t out : List ℕ) → within_limit (out ++ in_width (cap_directive d) t) ≡ within_limit (out ++ in_width d t)
cap_character d t out = same_limit out (in_width (cap_directive d) t) (in_width d t) (cap_spaces d.flags.left d.width t t (inl refl))

cap_of_number : (d : Directive) (r : Result ℤ Fault) (out : List ℕ) → text_after out (and_then r (signed_result (cap_directive d))) ≡ text_after out (and_then r (signed_result d))
cap_of_number d (Ok z) out = cap_signed d z out
cap_of_number d (Err f) out = refl

cap_of_size : (d : Directive) (r : Result ℤ Fault) (out : List ℕ) → text_after out (and_then r (unsigned_result (cap_directive d))) ≡ text_after out (and_then r (unsigned_result d))
cap_of_size d (Ok (pos n)) out = cap_unsigned d n out
cap_of_size d (Ok (negsuc n)) out = refl
cap_of_size d (Err f) out = refl

cap_of_character : (d : Directive) (r : Result (List ℕ) Fault) (out : List ℕ) → text_after out (and_then r (character_result (cap_directive d))) ≡ text_after out (and_then r (character_result d))
cap_of_character d (Ok t) out = cap_character d t out
cap_of_character d (Err f) out = refl

cap_by : (k : Conversion) (d : Directive) (v : Val) (out : List ℕ) → text_after out (text_by k (cap_directive d) v) ≡ text_after out (text_by k d v)
cap_by kind.Signed d v out = cap_of_number d (num_of v) out
cap_by kind.Unsigned d v out = cap_of_size d (num_of v) out
cap_by kind.Octal d v out = cap_of_size d (num_of v) out
cap_by kind.Hexadecimal d v out = cap_of_size d (num_of v) out
cap_by kind.UpperHexadecimal d v out = cap_of_size d (num_of v) out
cap_by kind.Text d v out = cap_string d v out
cap_by kind.Byte d v out = cap_of_character d (character v) out

cap_place : (d : Directive) (vs : List Val) (out : List ℕ) → text_after out (value_text (cap_directive d) vs) ≡ text_after out (value_text d vs)
cap_place d [] out = refl
cap_place d (v ∷ vs) out = cap_by d.conversion d v out

pub cap_text : (ps : List Piece) (vs : List Val) (out : List ℕ) → text_of_pieces (map cap_piece ps) vs out ≡ text_of_pieces ps vs out
unfolding text_of_pieces
cap_text [] vs out = refl
cap_text (Plain b ∷ ps) vs out = cap_text ps vs (out ++ b ∷ [])
cap_text (Percent ∷ ps) vs out = let more = cap_text ps vs in λ i. and_then {B = List ℕ} (within_limit (out ++ 37 ∷ [])) (λ all. more all i)
cap_text (Place d ∷ ps) vs out = let more = cap_text ps (drop 1 vs) in λ i. and_then {B = List ℕ} (cap_place d vs out i) (λ all. more all i)
cap_text (Malformed ∷ ps) vs out = refl

pub cap_writes : (ps : List Piece) (vs : List Val) → writes (map cap_piece ps) vs ≡ writes ps vs
unfolding writes
cap_writes [] vs = refl
cap_writes (Plain b ∷ ps) vs = refl
cap_writes (Percent ∷ ps) vs = refl
cap_writes (Place d ∷ ps) vs = let more = cap_writes ps (drop 1 vs) in λ i. bytes_or_later (cap_place d vs [] i) (more i)
cap_writes (Malformed ∷ ps) vs = refl

pub without_caps : (A : Type 0) (s : List ℕ) (vs : List Val) (made : List ℕ) (r : Result A Stop) → Writes {A = A} (cap_pieces_of s) vs made r → Writes {A = A} (pieces_of s) vs made r
without_caps A s vs made (Ok u) h = sym (cap_text (pieces_of s) vs []) ∙ h
without_caps A s vs made (Err (stop.Fault f)) h = sym (cap_text (pieces_of s) vs []) ∙ h
without_caps A s vs made (Err stop.Memory) h = sym (cap_writes (pieces_of s) vs) ∙ h

stop_of : (A : Type 0) (s : List ℕ) (vs : List Val) (made : List ℕ) (e : Stop) → Writes {A = A} (cap_pieces_of s) vs made (Err e) → Formats (pieces_of s) vs (Err e)
stop_of A s vs made (stop.Fault f) h = sym (cap_text (pieces_of s) vs []) ∙ h
stop_of A s vs made stop.Memory h = sym (cap_writes (pieces_of s) vs) ∙ h

pub stop_of_format : (A : Type 0) (s : List ℕ) (vs : List Val) (made : List ℕ) (e : Stop) (r : Result (Vec ℕ Global) Stop) → Writes {A = A} (cap_pieces_of s) vs made (Err e) → IsErrAnd r (λ x. x ≡ e) → Formats (pieces_of s) vs r
stop_of_format A s vs made e (Ok x) h p = absurd p
stop_of_format A s vs made e (Err x) h p = let P : Stop → Type 0 = λ y. Formats (pieces_of s) vs (Err y) in subst P (sym p) (stop_of A s vs made e h)
