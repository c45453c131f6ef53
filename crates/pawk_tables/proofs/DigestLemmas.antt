-- The last line.
use Rattle.std.proofs.Common.{◌≡◌, ◌+◌, ◌-◌, ◌≤◌, ℕ, List, [], ◌++◌, length, take, drop, refl, ap, sym, ◌∙◌, arith, length-append}
use Rattle.std.proofs.lemmas.List.{append-nil, nil_from_length, take_at, drop_at}
use Rattle.std.specs.Fmt.{decimal, digits}
use Rattle.sha2.specs.Sha256.{sha256}
use Rattle.sha2.proofs.Facts256.{length-sha256}
use Rattle.hex.specs.Hex.{encode_lower, lower_digits}
use Rattle.hex.proofs.HexLemmas.{length-encode_with}
use Rattle.pawk_lines.specs.Lines.{BeginsLine, end, line_bytes}
use Rattle.pawk_lines.proofs.LineLaws.{line_same}
use Rattle.pawk_tables.specs.Layout.{end_bytes}

-- how many bytes it has
length_digits : (t : List ℕ) → length t ≡ 64 → length (decimal (length t)) ≡ 2
unfolding digits
length_digits t e = rw e refl

length_end : (t : List ℕ) → length t ≡ 64 → length (line_bytes (end t)) ≡ 72
length_end t e =
    let two = length_digits t e in
    simp length-append (omega arith)

pub length-encode_lower : (d : List ℕ) → length d ≡ 32 → length (encode_lower d) ≡ 64
length-encode_lower d e = let twice = length-encode_with lower_digits d in omega (arith, twice)

pub length_end_lower : (d : List ℕ) → length d ≡ 32 → length (line_bytes (end (encode_lower d))) ≡ 72
length_end_lower d e = length_end (encode_lower d) (length-encode_lower d e)

-- a line of so many bytes is all of as many
pub end_is_all : (s r t d : List ℕ) → length s ≡ 72 → length d ≡ 32 → t ≡ encode_lower d → BeginsLine s (end t) r → s ≡ line_bytes (end (encode_lower d))
end_is_all s r t d long digest same h =
    let here : s ≡ line_bytes (end (encode_lower d)) ++ r = rw same at h.front in
    let lengths : length s ≡ length (line_bytes (end (encode_lower d))) + length r = ap length here ∙ length-append (line_bytes (end (encode_lower d))) r in
    let last = length_end_lower d digest in
    let none : r ≡ [] = nil_from_length r (omega arith) in
    here ∙ ap (λ v. line_bytes (end (encode_lower d)) ++ v) none ∙ append-nil (line_bytes (end (encode_lower d)))

-- the last line is in front
pub begins_end : (s d : List ℕ) → length d ≡ 32 → s ≡ line_bytes (end (encode_lower d)) → BeginsLine s (end (encode_lower d)) []
begins_end s d digest e =
    let long = length-encode_lower d digest in
    record { line = omega arith; front = e ∙ sym (append-nil (line_bytes (end (encode_lower d)))) }

-- where a file with this body is split
pub record IsSplit (s body : List ℕ) : Type 0 where
  pub long : 72 ≤ length s
  pub front : take (length s - 72) s ≡ body
  pub back : drop (length s - 72) s ≡ end_bytes body

pub split_at_end : (s body : List ℕ) → s ≡ body ++ end_bytes body → IsSplit s body
split_at_end s body e =
    let last : length (end_bytes body) ≡ 72 = length_end_lower (sha256 body) (length-sha256 body) in
    let lengths : length s ≡ length body + length (end_bytes body) = ap length e ∙ length-append body (end_bytes body) in
    let at : length body ≡ length s - 72 = omega arith in
    record {
      long = omega arith;
      front = ap (take (length s - 72)) e ∙ take_at body (end_bytes body) (length s - 72) at;
      back = ap (drop (length s - 72)) e ∙ drop_at body (end_bytes body) (length s - 72) at;
    }

-- the text of the last line that is in front is its digest
pub same_text : (s r t d : List ℕ) → length d ≡ 32 → BeginsLine s (end t) r → s ≡ line_bytes (end (encode_lower d)) → t ≡ encode_lower d
same_text s r t d digest h e =
    let same : end t ≡ end (encode_lower d) = (line_same s (end t) (end (encode_lower d)) r [] h (begins_end s d digest e)).line in
    cc
