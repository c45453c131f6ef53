-- The arrays that are noted, as the trace gets longer.
use Rattle.std.proofs.Common.{◌≡◌, ℕ, ℤ, List, [], ◌∷◌, ◌++◌, ◌+◌, Result, Ok, Err, true, subst, ⊎_elim, rules, tests}
use Rattle.std.specs.List.{All, AllByRecursion, list_any}
use Rattle.std.specs.Prelude.{nat_eq, Contains}
use Rattle.std.proofs.lemmas.Map.Views.{Contains-from_any}
use Rattle.std.proofs.lemmas.List.Elements.{All-contains, All-from_recursion, Contains-append_left, Contains-append_cases, Contains-push, Contains-push_cases}
use Rattle.pawk_array.specs.Texts.{texts_in}
use Rattle.pawk_value.specs.declared.faults.Fault.{Fault}
use Rattle.pawk_value.specs.Value.{Val}
use Rattle.pawk_code.specs.declared.word.Sign.{Sign}
use Rattle.pawk_world.specs.declared.halt.Halt.{Halt}
use Rattle.pawk_world.specs.Worlds.{Cell}
use Rattle.pawk_admit.specs.declared.role.Role.TheVariants.{Reader}
use Rattle.pawk_admit.specs.Roles.{Roles, role_of_array}
use Rattle.pawk_commute.specs.Traces.{Event, added, put, created, additions}
use Rattle.pawk_noted.specs.declared.trail.Report.{Report}
use Rattle.pawk_noted.specs.declared.trail.Report.TheVariants as report
use Rattle.pawk_noted.specs.Reports.{reported, IsChange, puts, if_done, cell_of}
use Rattle.pawk_noted.specs.Noteds.{AreNoted, CreatesElement}

-- an element is created by a reference
abbrev IsCreation : Event → Type 0
IsCreation (added c y) = ⊥
IsCreation (put c v) = ⊥
IsCreation (created n key) = Unit {0}

abbrev CreateNothing : List Event → Type 0
CreateNothing es = AllByRecursion (λ e. IsCreation e → ⊥) es

puts_create_nothing : (array n : ℕ) (ts : List (List ℕ)) → CreateNothing (puts array n ts)
puts_create_nothing array n [] = tt
puts_create_nothing array n (t ∷ ts) = (λ h. h, puts_create_nothing array (n + 1) ts)

additions_create_nothing : (sign : Sign) (c : Cell) (amount : Result ℤ Fault) → CreateNothing (additions sign c amount)
additions_create_nothing sign c (Ok y) = (λ h. h, tt)
additions_create_nothing sign c (Err f) = tt

done_create_nothing : {X : Type 0} (done : Result X Halt) (es : List Event) → CreateNothing es → CreateNothing (if_done done es)
done_create_nothing (Ok x) es h = h
done_create_nothing (Err e) es h = tt

changes_create_nothing : (r : Report) → IsChange r → CreateNothing (reported r)
changes_create_nothing (report.Put c v) h = (λ k. k, tt)
changes_create_nothing (report.Append slot globals more) h = (λ k. k, tt)
changes_create_nothing (report.Fill array text pieces) h = puts_create_nothing array 0 (texts_in text.now pieces.now)
changes_create_nothing (report.Add c sign amount done) h =
    done_create_nothing done (additions sign (cell_of c) amount) (additions_create_nothing sign (cell_of c) amount)
changes_create_nothing (report.Create array key) h = absurd h

not_among : (es : List Event) → CreateNothing es → (n : ℕ) (key : List ℕ) → Contains es (created n key) → ⊥
not_among es h n key k = All-contains (λ e. IsCreation e → ⊥) es (created n key) (All-from_recursion (λ e. IsCreation e → ⊥) es h) k tt

same_array : (m n : ℕ) (key other : List ℕ) → created m key ≡ created n other → m ≡ n
same_array m n key other e = cc

-- nothing is created by a reference
noted_more : (arrays : List ℕ) (trace es : List Event) → CreateNothing es → AreNoted arrays trace → AreNoted arrays (trace ++ es)
noted_more arrays trace es none h n = (
  λ c. let p = (h n).0 c in (p.0, Contains-append_left trace es (created n p.0) p.1),
  λ p. ⊎_elim (λ k. (h n).1 (p.0, k)) (λ k. absurd (not_among es none n p.0 k)) (Contains-append_cases trace es (created n p.0) p.1),
)

pub noted_put : (arrays : List ℕ) (trace : List Event) (c : Cell) (v : Val) → AreNoted arrays trace → AreNoted arrays (trace ++ put c v ∷ [])
noted_put arrays trace c v = noted_more arrays trace (put c v ∷ []) (λ k. k, tt)

pub noted_changed : (arrays : List ℕ) (trace : List Event) (r : Report) → IsChange r → AreNoted arrays trace → AreNoted arrays (trace ++ reported r)
noted_changed arrays trace r is = noted_more arrays trace (reported r) (changes_create_nothing r is)

-- an element of an array that was noted before
pub noted_again : (arrays : List ℕ) (trace : List Event) (m : ℕ) (key : List ℕ) → Contains arrays m → AreNoted arrays trace →
    AreNoted arrays (trace ++ created m key ∷ [])
noted_again arrays trace m key there h n = (
  λ c. let p = (h n).0 c in (p.0, Contains-append_left trace (created m key ∷ []) (created n p.0) p.1),
  λ p.
      ⊎_elim (λ k. (h n).1 (p.0, k)) (λ e. subst (Contains arrays) (same_array m n key p.0 e) there)
      (Contains-push_cases trace (created m key) (created n p.0) p.1),
)

-- an element of an array that is noted now
pub noted_newly : (arrays : List ℕ) (trace : List Event) (m : ℕ) (key : List ℕ) → AreNoted arrays trace →
    AreNoted (arrays ++ m ∷ []) (trace ++ created m key ∷ [])
noted_newly arrays trace m key h n = (
  λ c.
      ⊎_elim (λ k. let p = (h n).0 k in (p.0, Contains-append_left trace (created m key ∷ []) (created n p.0) p.1))
      (λ e. (key, subst (λ j. Contains (trace ++ created m key ∷ []) (created j key)) e (Contains-push trace (created m key))))
      (Contains-push_cases arrays m n c),
  λ p.
      ⊎_elim (λ k. Contains-append_left arrays (m ∷ []) n ((h n).1 (p.0, k)))
      (λ e. subst (Contains (arrays ++ m ∷ [])) (same_array m n key p.0 e) (Contains-push arrays m))
      (Contains-push_cases trace (created m key) (created n p.0) p.1),
)

number_same : (n m : ℕ) → nat_eq m n ≡ true → n ≡ m
number_same n m h = search (rules, tests)

-- a number that a test finds is there
pub is_among : (n : ℕ) (ns : List ℕ) → list_any (λ m. nat_eq m n) ns ≡ true → Contains ns n
is_among n ns h = Contains-from_any {eq = λ k m. nat_eq m k} number_same n ns h

-- ---- whether an array is noted that is no reader array

pub none_created : (roles : Roles) (arrays : List ℕ) (trace : List Event) → AreNoted arrays trace → All (λ n. role_of_array roles n ≡ Reader) arrays →
    CreatesElement roles trace → ⊥
none_created roles arrays trace h readers p =
    p.2 (All-contains (λ n. role_of_array roles n ≡ Reader) arrays p.0 readers ((h p.0).1 (p.1, p.3)))

pub some_created : (roles : Roles) (arrays : List ℕ) (trace : List Event) (n : ℕ) → AreNoted arrays trace → Contains arrays n →
    (role_of_array roles n ≡ Reader → ⊥) → CreatesElement roles trace
some_created roles arrays trace n h there not_reader =
    let p = (h n).0 there in (n, p.0, not_reader, p.1)
