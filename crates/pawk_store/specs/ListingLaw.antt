-- What a listing is, in other words.
use Rattle.std.specs.Prelude.{◌≡◌, ◌<◌, ℕ, true, List, map, length, get_or, Some, is_some}
use Rattle.std.specs.List.{IsDistinct}
use Rattle.std.specs.Str.{bytes_eq}
use Rattle.std.specs.FinMap.Entries.{find, is_sorted}
use Rattle.pawk_value.specs.Value.{Val}
use Rattle.pawk_array.specs.Entries.{order}
use Rattle.pawk_code.specs.declared.leaf.Special.{Special}
use Rattle.pawk_lex.specs.Vocabulary.{is_among}
use Rattle.pawk_store.specs.Globals.{Globals}
use Rattle.pawk_store.specs.Listings.{Named, all_globals, listing}

abbrev pub names_of : List Named → List (List ℕ)
names_of all = map (λ n. n.0) all

-- these globals in order: the names rise strictly and are those of the globals, and where no two of these have the same name
-- each has what it had
pub record IsInOrder (all l : List Named) : Type 0 where
  pub rise : is_sorted order l ≡ true
  pub same_names : (q : List ℕ) → is_some (find order q l) ≡ is_among (names_of all) q
  pub has : IsDistinct bytes_eq (names_of all) → (i : ℕ) (d : Named) → i < length all → find order (get_or all i d).0 l ≡ Some (get_or all i d).1

abbrev pub ListingLaw : Type 0
ListingLaw = (names arrays : List (List ℕ)) (assignments : List (List ℕ × List ℕ)) (v : Special → Val) (g : Globals) →
    IsInOrder (all_globals names arrays assignments v g) (listing names arrays assignments v g)
