-- Marks of numbers and kinds of names.
use Rattle.std.proofs.Common.{◌≡◌, ℕ, zero, suc, Bool, true, false, List, [], ◌∷◌, map, length, Some, refl, sym, ◌∙◌, ap, subst, arith, rules}
use Rattle.std.specs.Prelude.{not, ◌&&◌, ◌==◌, if◌then◌else◌}
use Rattle.std.specs.List.{list_all, All}
use Rattle.pawk_lex.specs.Bytes.{Text}
use Rattle.pawk_lex.specs.Vocabulary.{is_variable}
use Rattle.pawk_syntax_check.specs.declared.demand.Demand.{Demand as Code}
use Rattle.pawk_syntax_check.specs.declared.demand.Demand.TheVariants.{Array, Scalar, Alike}
use Rattle.pawk_syntax_check.specs.declared.variables.NumberedName.{NumberedName}
use Rattle.pawk_syntax_check.specs.declared.variables.Variables.{Variables}
use Rattle.pawk_syntax_check.specs.Tables.{Name, key_view, names, nth, number_of, IsTable, Names}
use Rattle.pawk_syntax_check.specs.Demands.{Kinds, meets}
use Rattle.pawk_syntax_check.specs.DemandViews.{demand_view, Speaks}
use Rattle.pawk_syntax_check.specs.Marks.{is_marked, is_settled, IsBelow, AreBelow, meets_numbers, IsForced}
use Rattle.pawk_syntax_check.specs.Found.{is_given, is_array, meets_marks, mark_of, kinds_of}

-- ---- numbers are below the count of names

tail : (t : Variables) (d : Code) (ds : List Code) → All (Speaks t) (d ∷ ds) → All (Speaks t) ds
tail t d ds h = λ k x below. h (suc k) x (omega (arith, below))

head : (t : Variables) (d : Code) (ds : List Code) → All (Speaks t) (d ∷ ds) → Speaks t d
head t d ds h = h zero d (omega arith)

below_one : (t : Variables) (d : Code) → Speaks t d → IsBelow (length (names t)) d
below_one t (Array v) h = h.0
below_one t (Scalar v) h = h.0
below_one t (Alike v w) h = (h.0.0, h.1.0)

pub below_all : (t : Variables) (ds : List Code) → All (Speaks t) ds → AreBelow (length (names t)) ds
below_all t [] h = tt
below_all t (d ∷ ds) h = (below_one t d (head t d ds h), below_all t ds (tail t d ds h))

-- ---- from marks to kinds

number_is : (t : Variables) → IsTable t → (v : NumberedName) → Names t v → number_of t (key_view v.key) ≡ Some v.number
number_is t h v n = let P : Name → Type 0 = λ x. number_of t x ≡ Some v.number in subst P n.1 (h.has_number v.number n.0)

kind_is : (t : Variables) (m : List Bool) → IsTable t → (v : NumberedName) → Names t v → kinds_of t m (key_view v.key) ≡ is_array m v
kind_is t m h v n = ap (λ o. if is_given (key_view v.key) then false else mark_of m o) (number_is t h v n)

meets_is : (t : Variables) (m : List Bool) → IsTable t → (d : Code) → Speaks t d → meets (kinds_of t m) (demand_view d) ≡ meets_marks m d
meets_is t m h (Array v) s = kind_is t m h v s
meets_is t m h (Scalar v) s = ap not (kind_is t m h v s)
meets_is t m h (Alike v w) s =
    let e = kind_is t m h v s.0 in
    let f = kind_is t m h w s.1 in
    ap (λ a. if a then kinds_of t m (key_view w.key) else not (kinds_of t m (key_view w.key))) e
    ∙ ap (λ b. if is_array m v then b else not b) f

pub all_meet : (t : Variables) (m : List Bool) → IsTable t → (ds : List Code) → All (Speaks t) ds →
    list_all (meets (kinds_of t m)) (map demand_view ds) ≡ list_all (meets_marks m) ds
all_meet t m h [] s = refl
all_meet t m h (d ∷ ds) s = rw (meets_is t m h d (head t d ds s), all_meet t m h ds (tail t d ds s)) refl

pub given_scalar : (t : Variables) (m : List Bool) (x : Text) → is_variable x ≡ true → kinds_of t m (0, x) ≡ false
given_scalar t m x e = rw e refl

-- ---- from kinds to marks

-- the kinds of the numbers
abbrev pub by_number : Variables → Kinds → ℕ → Bool
by_number t k i = k (nth (names t) i)

by_number_is : (t : Variables) (k : Kinds) (d : Code) → Speaks t d → meets_numbers (by_number t k) d ≡ meets k (demand_view d)
by_number_is t k (Array v) s = ap k s.1
by_number_is t k (Scalar v) s = ap (λ x. not (k x)) s.1
by_number_is t k (Alike v w) s =
    ap (λ x. if k x then by_number t k w.number else not (by_number t k w.number)) s.0.1
    ∙ ap (λ y. if k (key_view v.key) then k y else not (k y)) s.1.1

pub all_by_number : (t : Variables) (k : Kinds) (ds : List Code) → All (Speaks t) ds →
    list_all (meets_numbers (by_number t k)) ds ≡ list_all (meets k) (map demand_view ds)
all_by_number t k [] s = refl
all_by_number t k (d ∷ ds) s = rw (by_number_is t k d (head t d ds s), all_by_number t k ds (tail t d ds s)) refl

-- kinds in which the variables of the language are scalars
abbrev pub KnowsGiven : Kinds → Type 0
KnowsGiven k = (v : Name) → is_given v ≡ true → k v ≡ false

given_at : (t : Variables) (k : Kinds) (m : List Bool) → KnowsGiven k → IsForced (by_number t k) m → (v : NumberedName) → Names t v →
    (g a : Bool) → is_given (key_view v.key) ≡ g → is_marked m v.number ≡ a → (if g then false else a) ≡ a
given_at t k m knows forced v n false a p q = refl
given_at t k m knows forced v n true false p q = refl
given_at t k m knows forced v n true true p q =
    let yes : k (key_view v.key) ≡ true = sym (ap k n.1) ∙ forced v.number q in
    let no : k (key_view v.key) ≡ false = knows (key_view v.key) p in
    cc

array_is : (t : Variables) (k : Kinds) (m : List Bool) → KnowsGiven k → IsForced (by_number t k) m → (v : NumberedName) → Names t v →
    is_array m v ≡ is_marked m v.number
array_is t k m knows forced v n = given_at t k m knows forced v n (is_given (key_view v.key)) (is_marked m v.number) refl refl

scalar_at : (t : Variables) (k : Kinds) (m : List Bool) → IsForced (by_number t k) m → (v : NumberedName) → Names t v → not (k (key_view v.key)) ≡ true →
    (a : Bool) → is_marked m v.number ≡ a → not a ≡ true
scalar_at t k m forced v n e false q = refl
scalar_at t k m forced v n e true q =
    let yes : k (key_view v.key) ≡ true = sym (ap k n.1) ∙ forced v.number q in
    let no : not (k (key_view v.key)) ≡ false = ap not yes in
    cc

met_one : (t : Variables) (k : Kinds) (m : List Bool) → KnowsGiven k → IsForced (by_number t k) m → (d : Code) → Speaks t d →
    is_settled m d ≡ true → meets k (demand_view d) ≡ true → meets_marks m d ≡ true
met_one t k m knows forced (Array v) s e f = array_is t k m knows forced v s ∙ e
met_one t k m knows forced (Scalar v) s e f =
    ap not (array_is t k m knows forced v s) ∙ scalar_at t k m forced v s f (is_marked m v.number) refl
met_one t k m knows forced (Alike v w) s e f =
    ap (λ a. if a then is_array m w else not (is_array m w)) (array_is t k m knows forced v s.0)
    ∙ ap (λ b. if is_marked m v.number then b else not b) (array_is t k m knows forced w s.1)
    ∙ e

both_of : (a b : Bool) → (a && b) ≡ true → (a ≡ true) × (b ≡ true)
both_of true true e = (refl, refl)
both_of true false e = cc
both_of false b e = cc

pub all_met : (t : Variables) (k : Kinds) (m : List Bool) → KnowsGiven k → IsForced (by_number t k) m → (ds : List Code) → All (Speaks t) ds →
    list_all (is_settled m) ds ≡ true → list_all (meets k) (map demand_view ds) ≡ true → list_all (meets_marks m) ds ≡ true
all_met t k m knows forced [] s e f = refl
all_met t k m knows forced (d ∷ ds) s e f =
    let settled = both_of (is_settled m d) (list_all (is_settled m) ds) e in
    let met = both_of (meets k (demand_view d)) (list_all (meets k) (map demand_view ds)) f in
    rw (met_one t k m knows forced d (head t d ds s) settled.0 met.0, all_met t k m knows forced ds (tail t d ds s) settled.1 met.1) refl

zero_from : (n : ℕ) → (n == 0) ≡ true → n ≡ 0
zero_from n e = search rules

pub knows_given : (k : Kinds) → ((x : Text) → is_variable x ≡ true → k (0, x) ≡ false) → KnowsGiven k
knows_given k h v e =
    let both = both_of (v.0 == 0) (is_variable v.1) e in
    let outside : v.0 ≡ 0 = zero_from v.0 both.0 in
    let P : ℕ → Type 0 = λ n. k (n, v.1) ≡ false in
    subst P (sym outside) (h v.1 both.1)
