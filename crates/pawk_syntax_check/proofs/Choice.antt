-- The kinds of a program for which some fit: what passes on its kind has one root, and an array is what has the root of one.
use Rattle.std.proofs.Common.{◌≡◌, ℕ, Bool, true, false, List, [], ◌∷◌, refl, sym, ◌∙◌, ap, rules, tests}
use Rattle.std.specs.Prelude.{not, ◌||◌, ◌&&◌, ◌==◌, if◌then◌else◌}
use Rattle.std.specs.List.{list_all}
use Rattle.std.specs.Str.{bytes_eq}
use Rattle.std.proofs.lemmas.Slice.Eq.{bytes_eq-Decides}
use Rattle.pawk_lex.specs.Bytes.{Text}
use Rattle.pawk_syntax_check.specs.Tables.{Name}
use Rattle.pawk_syntax_check.specs.Demands.{Demand, array_at, scalar_at, alike, Kinds, meets, demands, KindsExist}
use Rattle.pawk_syntax_check.proofs.Mentions.{both_of, of_both}

-- ---- truth

or_left : (a b : Bool) → a ≡ true → (a || b) ≡ true
or_left true b e = refl
or_left false b e = cc

or_right : (a b : Bool) → b ≡ true → (a || b) ≡ true
or_right true b e = refl
or_right false b e = e

by_or : (a b : Bool) (P : Type 0) → (a ≡ true → P) → (b ≡ true → P) → (a || b) ≡ true → P
by_or true b P f g e = f refl
by_or false b P f g e = g e

alike_then : (a b : Bool) → (if a then b else not b) ≡ true → a ≡ b
alike_then true b e = sym e
alike_then false true e = cc
alike_then false false e = refl

then_alike : (a b : Bool) → a ≡ b → (if a then b else not b) ≡ true
then_alike true b e = sym e
then_alike false b e = ap not (sym e)

no_array : (a b : Bool) → (a ≡ true → b ≡ true) → b ≡ false → a ≡ false
no_array false b h e = refl
no_array true b h e = sym (h refl) ∙ e

scalar_too : (a b : Bool) → (a ≡ true → b ≡ true) → not b ≡ true → not a ≡ true
scalar_too false b h e = refl
scalar_too true true h e = e
scalar_too true false h e = h refl

either_way : (b : Bool) (v : Name) → (if b then v else v) ≡ v
either_way true v = refl
either_way false v = refl

-- ---- names

abbrev is_same : Name → Name → Bool
is_same v w = v.0 == w.0 && bytes_eq v.1 w.1

scope_same : (m n : ℕ) → (m == n) ≡ true → m ≡ n
scope_same m n e = search (rules, tests)

scope_self : (n : ℕ) → (n == n) ≡ true
scope_self n = search (rules, tests)

text_self : (x : Text) → bytes_eq x x ≡ true
text_self x = (bytes_eq-Decides x x).1 refl

same_from : (v w : Name) → is_same v w ≡ true → v ≡ w
same_from v w e =
    let both = both_of (v.0 == w.0) (bytes_eq v.1 w.1) e in
    let scope : v.0 ≡ w.0 = scope_same v.0 w.0 both.0 in
    let text : v.1 ≡ w.1 = (bytes_eq-Decides v.1 w.1).0 both.1 in
    ap (λ n. (n, v.1)) scope ∙ ap (λ x. (w.0, x)) text

same_self : (v : Name) → is_same v v ≡ true
same_self v = of_both (v.0 == v.0) (bytes_eq v.1 v.1) (scope_self v.0) (text_self v.1)

-- ---- roots

-- names that have to be of one kind have one root
abbrev root : List Demand → Name → Name
root [] = λ x. x
root (array_at v ∷ ds) = root ds
root (scalar_at v ∷ ds) = root ds
root (alike v w ∷ ds) = λ x. if is_same (root ds x) (root ds v) then root ds w else root ds x

chosen : (k : Kinds) (r : Name → Name) (x v w : Name) → k v ≡ k w → ((y : Name) → k y ≡ k (r y)) →
    (b : Bool) → is_same (r x) (r v) ≡ b → k x ≡ k (if b then r w else r x)
chosen k r x v w e h true s = h x ∙ ap k (same_from (r x) (r v) s) ∙ sym (h v) ∙ e ∙ h w
chosen k r x v w e h false s = h x

-- a name is of its root's kind
root_kind : (ds : List Demand) (k : Kinds) → list_all (meets k) ds ≡ true → (x : Name) → k x ≡ k (root ds x)
root_kind [] k e x = refl
root_kind (array_at v ∷ ds) k e x = root_kind ds k (both_of (k v) (list_all (meets k) ds) e).1 x
root_kind (scalar_at v ∷ ds) k e x = root_kind ds k (both_of (not (k v)) (list_all (meets k) ds) e).1 x
root_kind (alike v w ∷ ds) k e x =
    let both = both_of (meets k (alike v w)) (list_all (meets k) ds) e in
    chosen k (root ds) x v w (alike_then (k v) (k w) both.0) (root_kind ds k both.1) (is_same (root ds x) (root ds v)) refl

abbrev AreJoined : (Name → Name) → List Demand → Type 0
AreJoined r [] = Unit {0}
AreJoined r (array_at v ∷ ds) = AreJoined r ds
AreJoined r (scalar_at v ∷ ds) = AreJoined r ds
AreJoined r (alike v w ∷ ds) = (r v ≡ r w) × AreJoined r ds

joined_too : (r s : Name → Name) → ((x y : Name) → r x ≡ r y → s x ≡ s y) → (ds : List Demand) → AreJoined r ds → AreJoined s ds
joined_too r s h [] j = tt
joined_too r s h (array_at v ∷ ds) j = joined_too r s h ds j
joined_too r s h (scalar_at v ∷ ds) j = joined_too r s h ds j
joined_too r s h (alike v w ∷ ds) j = (h v w j.0, joined_too r s h ds j.1)

roots_join : (ds : List Demand) → AreJoined (root ds) ds
roots_join [] = tt
roots_join (array_at v ∷ ds) = roots_join ds
roots_join (scalar_at v ∷ ds) = roots_join ds
roots_join (alike v w ∷ ds) =
    let r = root ds in
    let here : (if is_same (r v) (r v) then r w else r v) ≡ (if is_same (r w) (r v) then r w else r w) =
    ap (λ b. if b then r w else r v) (same_self (r v)) ∙ sym (either_way (is_same (r w) (r v)) (r w)) in
    (here, joined_too r (root (alike v w ∷ ds)) (λ x y e. ap (λ z. if is_same z (r v) then r w else z) e) ds (roots_join ds))

-- ---- arrays

-- whether it is the root of a name that has to be an array
abbrev has_array : (Name → Name) → List Demand → Name → Bool
has_array r [] z = false
has_array r (array_at v ∷ ds) z = is_same (r v) z || has_array r ds z
has_array r (scalar_at v ∷ ds) z = has_array r ds z
has_array r (alike v w ∷ ds) z = has_array r ds z

-- such a root is an array by all kinds
forced : (r : Name → Name) (ds : List Demand) (k : Kinds) → list_all (meets k) ds ≡ true → ((x : Name) → k x ≡ k (r x)) →
    (z : Name) → has_array r ds z ≡ true → k z ≡ true
forced r [] k e h z t = cc
forced r (array_at v ∷ ds) k e h z t =
    let both = both_of (k v) (list_all (meets k) ds) e in
    by_or (is_same (r v) z) (has_array r ds z) (k z ≡ true)
    (λ s. ap k (sym (same_from (r v) z s)) ∙ sym (h v) ∙ both.0)
    (forced r ds k both.1 h z) t
forced r (scalar_at v ∷ ds) k e h z t = forced r ds k (both_of (not (k v)) (list_all (meets k) ds) e).1 h z t
forced r (alike v w ∷ ds) k e h z t = forced r ds k (both_of (meets k (alike v w)) (list_all (meets k) ds) e).1 h z t

abbrev AreArrays : Kinds → List Demand → Type 0
AreArrays k [] = Unit {0}
AreArrays k (array_at v ∷ ds) = (k v ≡ true) × AreArrays k ds
AreArrays k (scalar_at v ∷ ds) = AreArrays k ds
AreArrays k (alike v w ∷ ds) = AreArrays k ds

arrays_in : (r : Name → Name) (k : Kinds) (ds : List Demand) → ((x : Name) → has_array r ds (r x) ≡ true → k x ≡ true) → AreArrays k ds
arrays_in r k [] h = tt
arrays_in r k (array_at v ∷ ds) h = (
  h v (or_left (is_same (r v) (r v)) (has_array r ds (r v)) (same_self (r v))),
  arrays_in r k ds (λ x e. h x (or_right (is_same (r v) (r x)) (has_array r ds (r x)) e)),
)
arrays_in r k (scalar_at v ∷ ds) h = arrays_in r k ds h
arrays_in r k (alike v w ∷ ds) h = arrays_in r k ds h

-- kinds that follow the roots, and are arrays where others are, meet what the others meet
met_too : (r : Name → Name) (k other : Kinds) → ((x y : Name) → r x ≡ r y → k x ≡ k y) → ((x : Name) → k x ≡ true → other x ≡ true) →
    (ds : List Demand) → AreJoined r ds → AreArrays k ds → list_all (meets other) ds ≡ true → list_all (meets k) ds ≡ true
met_too r k other follows less [] j a e = refl
met_too r k other follows less (array_at v ∷ ds) j a e =
    let both = both_of (other v) (list_all (meets other) ds) e in
    of_both (k v) (list_all (meets k) ds) a.0 (met_too r k other follows less ds j a.1 both.1)
met_too r k other follows less (scalar_at v ∷ ds) j a e =
    let both = both_of (not (other v)) (list_all (meets other) ds) e in
    of_both (not (k v)) (list_all (meets k) ds) (scalar_too (k v) (other v) (less v) both.0) (met_too r k other follows less ds j a both.1)
met_too r k other follows less (alike v w ∷ ds) j a e =
    let both = both_of (meets other (alike v w)) (list_all (meets other) ds) e in
    of_both (meets k (alike v w)) (list_all (meets k) ds) (then_alike (k v) (k w) (follows v w j.0)) (met_too r k other follows less ds j.1 a both.1)

-- ---- the kinds

abbrev kinds_by : List Demand → Kinds
kinds_by ds x = has_array (root ds) ds (root ds x)

less_than_all : (ds : List Demand) (other : Kinds) → list_all (meets other) ds ≡ true → (x : Name) → kinds_by ds x ≡ true → other x ≡ true
less_than_all ds other e x t =
    let same = root_kind ds other e in
    same x ∙ forced (root ds) ds other e same (root ds x) t

pub one_for_each : KindsExist
one_for_each ps fit =
    let ds = demands ps in
    let r = root ds in
    let k = kinds_by ds in
    let other = fit.0 in
    let less = less_than_all ds other fit.1.meets_all in
    let met : list_all (meets k) ds ≡ true =
    met_too r k other (λ x y e. ap (has_array r ds) e) less ds (roots_join ds) (arrays_in r k ds (λ x e. e)) fit.1.meets_all in (
      k,
      record {
        kinds = record {
          meets_all = met;
          variables = λ x e. no_array (k (0, x)) (other (0, x)) (less (0, x)) (fit.1.variables x e);
        };
        least = λ others a. less_than_all ds others a.meets_all;
      },
    )
