-- Sets of places of an expression: a mark for each of its byte sets, in order.
use Rattle.std.specs.Prelude.{◌≡◌, ℕ, ◌+◌, ◌⊎◌, Bool, true, false, ◌&&◌, ◌||◌, List, [], ◌∷◌, ◌++◌, get_or, drop}
use Rattle.pawk_ere_automaton.specs.Regex.{Regex, Empty, Start, End, Bytes, Sequence, Either, Star, Plus, Takes}
use Rattle.pawk_ere_syntax.specs.Pattern.{Leads}

-- how many places it has
abbrev pub places : Regex → ℕ
places Empty = 0
places Start = 0
places End = 0
places (Bytes members) = 1
places (Sequence a b) = places a + places b
places (Either a b) = places a + places b
places (Star a) = places a
places (Plus a) = places a

-- whether it matches nothing at a place, which may be the text's first or last
abbrev pub nullable : Regex → Bool → Bool → Bool
nullable Empty first last = true
nullable Start first last = first
nullable End first last = last
nullable (Bytes members) first last = false
nullable (Sequence a b) first last = nullable a first last && nullable b first last
nullable (Either a b) first last = nullable a first last || nullable b first last
nullable (Star a) first last = true
nullable (Plus a) first last = nullable a first last

-- whether a match may end here, with these marks
abbrev pub final : Regex → List Bool → Bool → Bool → Bool
final Empty marks first last = false
final Start marks first last = false
final End marks first last = false
final (Bytes members) marks first last = get_or marks 0 false
final (Sequence a b) marks first last =
    (final a marks first last && nullable b first last) || final b (drop (places a) marks) first last
final (Either a b) marks first last =
    final a marks first last || final b (drop (places a) marks) first last
final (Star a) marks first last = final a marks first last
final (Plus a) marks first last = final a marks first last

-- for each repetition without a bound, in order: whether a turn of it may end here
abbrev pub turns : Regex → List Bool → Bool → List Bool
turns Empty marks first = []
turns Start marks first = []
turns End marks first = []
turns (Bytes members) marks first = []
turns (Sequence a b) marks first = turns a marks first ++ turns b (drop (places a) marks) first
turns (Either a b) marks first = turns a marks first ++ turns b (drop (places a) marks) first
turns (Star a) marks first = final a marks first false ∷ turns a marks first
turns (Plus a) marks first = final a marks first false ∷ turns a marks first

-- the marks after one more byte, where enter says whether a match may begin before it
abbrev pub shift : Regex → Bool → List Bool → ℕ → Bool → List Bool
shift Empty enter marks byte first = []
shift Start enter marks byte first = []
shift End enter marks byte first = []
shift (Bytes members) enter marks byte first = (enter && get_or members byte false) ∷ []
shift (Sequence a b) enter marks byte first =
    shift a enter marks byte first
    ++ shift b ((enter && nullable a first false) || final a marks first false) (drop (places a) marks) byte first
shift (Either a b) enter marks byte first =
    shift a enter marks byte first ++ shift b enter (drop (places a) marks) byte first
shift (Star a) enter marks byte first = shift a (enter || final a marks first false) marks byte first
shift (Plus a) enter marks byte first = shift a (enter || final a marks first false) marks byte first

-- the text from p to j is what a match that has come to these marks may still take
abbrev pub Rest : Regex → List Bool → List ℕ → ℕ → ℕ → Type 0
Rest Empty marks s p j = ⊥
Rest Start marks s p j = ⊥
Rest End marks s p j = ⊥
Rest (Bytes members) marks s p j = (get_or marks 0 false ≡ true) × (j ≡ p)
Rest (Sequence a b) marks s p j =
    ((k : ℕ) × Rest a marks s p k × Takes b s k j) ⊎ Rest b (drop (places a) marks) s p j
Rest (Either a b) marks s p j = Rest a marks s p j ⊎ Rest b (drop (places a) marks) s p j
Rest (Star a) marks s p j = (k : ℕ) × Rest a marks s p k × (ks : List ℕ) × Leads (Takes a s) k ks j
Rest (Plus a) marks s p j = (k : ℕ) × Rest a marks s p k × (ks : List ℕ) × Leads (Takes a s) k ks j
