-- Runs of bytes of one class.
use Rattle.std.proofs.Common.{◌≡◌, ℕ, ◌+◌, Bool, true, false, cond, [], ◌∷◌, ◌++◌, length, take, drop, refl}
use Rattle.std.specs.Prelude.{slice_index}
use Rattle.std.specs.List.{prefix_len, list_all}
use Rattle.std.proofs.Math.Numerals.{one-add}
use Rattle.std.proofs.lemmas.Bool.{and_parts}
use Rattle.pawk_lex.specs.Bytes.{Text, AllAre, BeginsBy}

-- the run ends here
abbrev pub Stops : (ℕ → Bool) → Text → Type 0
Stops p [] = Unit {0}
Stops p (b ∷ z) = p b ≡ false

pub stops : (p : ℕ → Bool) (z : Text) → p (slice_index z 0) ≡ false → Stops p z
stops p [] h = tt
stops p (b ∷ z) h = h

pub run : (p : ℕ → Bool) (x rest : Text) → AllAre p x → Stops p rest → prefix_len p (x ++ rest) ≡ length x
run p [] [] h e = refl
run p [] (b ∷ rest) h e = rw e refl
run p (b ∷ x) rest h e = rw (h.0, run p x rest h.1 e) (one-add (length x))

pub all_from_test : (p : ℕ → Bool) (x : Text) → list_all p x ≡ true → AllAre p x
all_from_test p [] e = tt
all_from_test p (b ∷ x) e = let h = and_parts (p b) (list_all p x) e in (h.0, all_from_test p x h.1)

prefix_all_on : (p : ℕ → Bool) (b : ℕ) (z : Text) → AllAre p (take (prefix_len p z) z) → (c : Bool) → p b ≡ c → AllAre p (take (cond c (1 + prefix_len p z) 0) (b ∷ z))
prefix_all_on p b z h true e = rw (one-add (prefix_len p z)) (e, h)
prefix_all_on p b z h false e = tt

pub prefix_all : (p : ℕ → Bool) (z : Text) → AllAre p (take (prefix_len p z) z)
prefix_all p [] = tt
prefix_all p (b ∷ z) = prefix_all_on p b z (prefix_all p z) (p b) refl

pub prefix_first : (p q : ℕ → Bool) (t : Bool) (b : ℕ) (z : Text) → p b ≡ true → q b ≡ t → BeginsBy q t (take (prefix_len p (b ∷ z)) (b ∷ z))
prefix_first p q t b z e f = rw e (rw (one-add (prefix_len p z)) f)

prefix_ends_on : (p : ℕ → Bool) (b : ℕ) (z : Text) → Stops p (drop (prefix_len p z) z) → (c : Bool) → p b ≡ c → Stops p (drop (cond c (1 + prefix_len p z) 0) (b ∷ z))
prefix_ends_on p b z h true e = rw (one-add (prefix_len p z)) h
prefix_ends_on p b z h false e = e

pub prefix_ends : (p : ℕ → Bool) (z : Text) → Stops p (drop (prefix_len p z) z)
prefix_ends p [] = tt
prefix_ends p (b ∷ z) = prefix_ends_on p b z (prefix_ends p z) (p b) refl

-- the byte at the end of a run, 0 at the end of the text
pub next_stops : (p : ℕ → Bool) (z : Text) → p 0 ≡ false → Stops p z → p (slice_index z 0) ≡ false
next_stops p [] e h = e
next_stops p (b ∷ z) e h = h
