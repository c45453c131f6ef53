-- Where the matches of many turns begin.
use Rattle.std.proofs.Common.{◌≡◌, ℕ, ◌≤◌, List, [], ◌∷◌, length, Option, Some, None, IfSome, sym, subst, arith}
use Rattle.pawk_ere_syntax.specs.Pattern.{Leads}
use Rattle.pawk_ere_automaton.specs.Hints.{BeginsWith, IsAnchored}
use Rattle.pawk_ere_automaton.specs.Regex.{Regex, Plus, Takes}

-- the first turn of many
first_turn : (a : Regex) (s : List ℕ) (i j : ℕ) (ks : List ℕ) → 1 ≤ length ks → Leads (Takes a s) i ks j → (k : ℕ) × Takes a s i k
first_turn a s i j [] some l = absurd (omega arith)
first_turn a s i j (k ∷ ks) some l = (k, l.0)

pub plus_begins : (r : Option ℕ) (a n : Regex) → n ≡ Plus a → IfSome r (λ byte. BeginsWith a byte) → IfSome r (λ byte. BeginsWith n byte)
plus_begins None a n is h = tt
plus_begins (Some byte) a n is h = subst (λ m. BeginsWith m byte) (sym is) (λ s i j t. let x = first_turn a s i j t.0 t.1 t.2 in h s i x.0 x.1)

pub plus_anchored : (a n : Regex) → n ≡ Plus a → IsAnchored a → IsAnchored n
plus_anchored a n is h = subst IsAnchored (sym is) (λ s i j t. let x = first_turn a s i j t.0 t.1 t.2 in h s i x.0 x.1)
