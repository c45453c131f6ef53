-- What a table of states keeps true.
use Rattle.std.specs.Prelude.{◌≡◌, ◌≢◌, ℕ, ◌+◌, ◌*◌, ◌<◌, ◌≤◌, ◌⊎◌, Bool, true, false, ◌&&◌, ◌||◌, Some, List, length, get_or, slice_get, slice_index}
use Rattle.pawk_ere_automaton.specs.Regex.{Regex}
use Rattle.pawk_ere_automaton.specs.Hints.{IsAnchored}
use Rattle.pawk_ere_automaton.specs.Marks.{nullable, final, shift}
use Rattle.pawk_ere_automaton.specs.declared.table.State.{State}
use Rattle.pawk_ere_automaton.specs.declared.table.StateTable.{StateTable}

-- whether a match ends here
abbrev pub ends_with : Regex → Bool → List Bool → Bool → Bool → Bool
ends_with e enter marks first last = (enter && nullable e first last) || final e marks first last

-- no place is marked
abbrev pub HasNone : List Bool → Type 0
HasNone marks = (k : ℕ) → get_or marks k false ≡ false

-- the state of a match that begins here, and again at each later place if it stays open
pub record IsBegin (t : State) (stays first : Bool) : Type 0 where
  pub enter_is : t.enter ≡ true
  pub stays_is : t.stays ≡ stays
  pub first_is : t.first ≡ first
  pub none_marked : HasNone t.marks.items

-- the state after one that stays open or not, with these marks
pub record HasKey (t : State) (stays : Bool) (marks : List Bool) : Type 0 where
  pub enter_is : t.enter ≡ stays
  pub stays_is : t.stays ≡ stays
  pub first_is : t.first ≡ false
  pub marks_are : t.marks.items ≡ marks

-- nothing can come of a state: no place is marked, and no match begins here or later
pub record IsDead (e : Regex) (enter first : Bool) (marks : List Bool) : Type 0 where
  pub unmarked : HasNone marks
  pub closed : (enter ≡ false) ⊎ ((first ≡ false) × IsAnchored e)

-- what a state knows of itself is right
pub record IsState (e : Regex) (t : State) : Type 0 where
  pub inside : t.ends_inside ≡ ends_with e t.enter t.marks.items t.first false
  pub at_end : t.ends_at_end ≡ ends_with e t.enter t.marks.items t.first true
  pub dead : t.is_dead ≡ true → IsDead e t.enter t.first t.marks.items

-- by the byte, the state s leads to the one at place r
abbrev pub LeadsTo : Regex → List State → State → ℕ → ℕ → Type 0
LeadsTo e states s byte r = (t : State) × (slice_get states r ≡ Some t) × HasKey t s.stays (shift e s.enter s.marks.items byte s.first)

-- the state at a place of the table is one where a match begins
abbrev pub BeginsAt : List State → ℕ → Bool → Bool → Type 0
BeginsAt states q stays first = (t : State) × (slice_get states q ≡ Some t) × IsBegin t stays first

-- the words of a table: at most 512 states, and 256 numbers for each, 0 where the state after it is not known
pub record AreStates (e : Regex) (states : List State) (next : List ℕ) : Type 0 where
  pub rows : (q : ℕ) (s : State) → slice_get states q ≡ Some s → IsState e s
  pub links : (q b : ℕ) (s : State) → b < 256 → slice_get states q ≡ Some s → slice_index next (q * 256 + b) ≢ 0 → LeadsTo e states s b (slice_index next (q * 256 + b))
  pub few : length states ≤ 512
  pub wide : length states * 256 ≤ length next
  pub blank : (k : ℕ) → length states * 256 ≤ k → slice_index next k ≡ 0
  pub first : BeginsAt states 0 false true
  pub later : BeginsAt states 1 false false
  pub open_first : BeginsAt states 2 true true
  pub open_later : BeginsAt states 3 true false

abbrev pub IsTable : Regex → StateTable → Type 0
IsTable e t = AreStates e t.states.items t.next.items

-- each state keeps its place
abbrev pub KeepsStates : List State → List State → Type 0
KeepsStates old new = (q : ℕ) (t : State) → slice_get old q ≡ Some t → slice_get new q ≡ Some t
