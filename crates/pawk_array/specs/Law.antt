-- What putting, taking away and walking are, in other words.
use Rattle.std.specs.Prelude.{◌≡◌, ◌≢◌, ◌<◌, ◌+◌, ◌^◌, ℕ, List, length, Some, None, get_or, slice_range}
use Rattle.std.specs.declared.ops.Range.{Range}
use Rattle.std.specs.Fmt.{decimal}
use Rattle.pawk_value.specs.Value.{Val, Maybe}
use Rattle.pawk_array.specs.Entries.{Entries, Rise, found, put, without, pieces_of}

-- elements are distinguished by what their keys have
abbrev pub SameLaw : Type 0
SameLaw = (es fs : Entries) → Rise es → Rise fs → ((q : List ℕ) → found q es ≡ found q fs) → es ≡ fs

-- after a value is put at a key, that has it, and every other key has what it had
pub record IsPut (k : List ℕ) (v : Val) (es : Entries) : Type 0 where
  pub in_order : Rise (put k v es)
  pub here : found k (put k v es) ≡ Some v
  pub others : (q : List ℕ) → q ≢ k → found q (put k v es) ≡ found q es

abbrev pub PutLaw : Type 0
PutLaw = (k : List ℕ) (v : Val) (es : Entries) → Rise es → IsPut k v es

-- without a key, that has nothing, and every other key has what it had
pub record IsWithout (k : List ℕ) (es : Entries) : Type 0 where
  pub in_order : Rise (without k es)
  pub here : found k (without k es) ≡ None
  pub others : (q : List ℕ) → q ≢ k → found q (without k es) ≡ found q es

abbrev pub WithoutLaw : Type 0
WithoutLaw = (k : List ℕ) (es : Entries) → Rise es → IsWithout k es

-- the key of the number n, from 1 to the count of the pieces, has the n-th piece
abbrev pub PiecesLaw : Type 0
PiecesLaw = (text : List ℕ) (rs : List (Range ℕ)) (i : ℕ) (d : Range ℕ) → length rs < 2 ^ 64 → i < length rs →
    found (decimal (i + 1)) (pieces_of text rs) ≡ Some (Maybe (slice_range text (get_or rs i d).start (get_or rs i d).end))
