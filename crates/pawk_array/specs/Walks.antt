-- Keys that are walked.
use Rattle.std.specs.Prelude.{◌≡◌, ℕ, List, is_some}
use Rattle.std.specs.List.{IsDistinct, list_any}
use Rattle.std.specs.Str.{bytes_eq}
use Rattle.pawk_array.specs.Entries.{Entries, found}

-- these are the keys of the elements, each once, in any order
pub record AreKeysOf (es : Entries) (ks : List (List ℕ)) : Type 0 where
  pub distinct : IsDistinct bytes_eq ks
  pub all : (q : List ℕ) → list_any (bytes_eq q) ks ≡ is_some (found q es)
