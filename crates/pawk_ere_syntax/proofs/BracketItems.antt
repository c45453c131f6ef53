-- What `bracket_at` reads is a bracket expression, and it reads each.
use Rattle.std.proofs.Common.{◌≡◌, ◌↔◌, ℕ, zero, suc, ◌+◌, ◌<◌, ◌≤◌, ◌&&◌, ◌||◌, ◌==◌, Bool, true, false, not, cond, Option, Some, None, List, [], ◌∷◌, length, drop, nat_le, nat_lt, ◌*◌, ◌-◌, length-drop, refl, sym, ap, subst, ◌∙◌, arith, inl, inr, ⊎_elim}
use Rattle.pawk_ere_syntax.specs.declared.bracket.BracketItem.{BracketItem}
use Rattle.pawk_ere_syntax.specs.declared.class.Class.{Class}
use Rattle.pawk_ere_syntax.specs.Escapes.{letter, is_octal, is_punctuation, octal_more, escape_of, escape_at}
use Rattle.pawk_ere_syntax.specs.Brackets.{all_classes, begins, bracket_at, class_among, class_at, class_item, class_name, class_or, from_point, goes_on, item_at, item_ranges, items, and_then, outside, point_at, range_to, rest_after}
use Rattle.pawk_ere_syntax.specs.Items.{ends, Items, with_items, IsBracket}
use Rattle.pawk_ere_syntax.specs.Sets.{none, with_ranges, complement}
use Rattle.std.proofs.Math.Nat.{le_refl, le_trans}
use Rattle.pawk_ere_syntax.proofs.ItemReading.{item_is, item_read}
use Rattle.pawk_ere_syntax.proofs.Reading.{some_inj}

-- what was read leaves at most n bytes
abbrev Leaves : {A : Type 0} → ℕ → Option (A × List ℕ) → Type 0
Leaves n None = Unit {0}
Leaves n (Some x) = length x.1 ≤ n

leaves_if : {A : Type 0} (n : ℕ) (b : Bool) (x y : Option (A × List ℕ)) → Leaves n x → Leaves n y → Leaves n (cond b x y)
leaves_if n true x y l m = l
leaves_if n false x y l m = m

leaves_more : {A : Type 0} (n m : ℕ) (x : Option (A × List ℕ)) → n ≤ m → Leaves n x → Leaves m x
leaves_more n m None le l = tt
leaves_more n m (Some x) le l = omega arith

after_leaves : (name bytes rest : List ℕ) → rest_after name bytes ≡ Some rest → length rest ≤ length bytes
after_leaves [] bytes rest h = let e = ap length (some_inj bytes rest h) in omega arith
after_leaves (n ∷ ns) [] rest h = cc
after_leaves (n ∷ ns) (c ∷ more) rest h = go (c == n) h (λ same. after_leaves ns more rest same)
  where
    go : (b : Bool) → cond b (rest_after ns more) None ≡ Some rest → (rest_after ns more ≡ Some rest → length rest ≤ length more) → length rest ≤ length (c ∷ more)
    go true h again = let e = again h in omega arith
    go false h again = cc

class_leaves : (cs : List Class) (bytes : List ℕ) → Leaves (length bytes) (class_among cs bytes)
class_leaves [] bytes = tt
class_leaves (c ∷ cs) bytes = go (rest_after (class_name c) bytes) refl (class_leaves cs bytes)
  where
    go : (o : Option (List ℕ)) → rest_after (class_name c) bytes ≡ o → Leaves (length bytes) (class_among cs bytes) → Leaves (length bytes) (class_or c o (class_among cs bytes))
    go None is l = l
    go (Some rest) is l = after_leaves (class_name c) bytes rest is

item_leaves : (n : ℕ) (o : Option (Class × List ℕ)) → Leaves n o → Leaves n (class_item o)
item_leaves n None l = l
item_leaves n (Some x) l = l

class_at_leaves : (bytes : List ℕ) → Leaves (length bytes) (class_at bytes)
unfolding class_at
class_at_leaves bytes = item_leaves (length bytes) (class_among all_classes bytes) (class_leaves all_classes bytes)

octal_leaves : (v : ℕ) (bytes : List ℕ) → length (octal_more v bytes).1 ≤ length bytes
unfolding octal_more
octal_leaves v [] = omega arith
octal_leaves v (c ∷ rest) = go (is_octal c && nat_lt (v * 8 + (c - 48)) 256)
  where
    go : (b : Bool) → length (cond {A = ℕ × List ℕ} b (v * 8 + (c - 48), rest) (v, c ∷ rest)).1 ≤ length (c ∷ rest)
    go true = omega arith
    go false = omega arith

escape_leaves : (bytes : List ℕ) → Leaves (length bytes) (escape_at bytes)
unfolding escape_at
escape_leaves [] = tt
escape_leaves (c ∷ rest) = go (letter c)
  where
    two : Leaves (length (c ∷ rest)) (Some (octal_more (octal_more (c - 48) rest).0 (octal_more (c - 48) rest).1))
    two =
        let a = octal_leaves (c - 48) rest in
        let b = octal_leaves (octal_more (c - 48) rest).0 (octal_more (c - 48) rest).1 in
        omega arith

    one : (n : ℕ) → length rest ≤ n → Leaves n (Some (c, rest))
    one n le = le

    go : (o : Option ℕ) → Leaves (length (c ∷ rest)) (escape_of c rest o)
    go (Some byte) = omega arith
    go None = leaves_if _ (is_octal c) _ _ two (leaves_if _ (is_punctuation c) _ _ (one (length (c ∷ rest)) (omega arith)) tt)

point_leaves : (c : ℕ) (rest : List ℕ) → Leaves (length rest) (point_at (c ∷ rest))
unfolding point_at
point_leaves c rest =
    leaves_if _ (c == 92) _ _ (escape_leaves rest)
    (leaves_if _ ((c == 91) && (begins 58 rest || begins 46 rest || begins 61 rest)) _ _ tt (le_refl (length rest)))

point_within : (bytes : List ℕ) → Leaves (length bytes) (point_at bytes)
unfolding point_at
point_within [] = tt
point_within (c ∷ rest) = leaves_more (length rest) (length (c ∷ rest)) (point_at (c ∷ rest)) (omega arith) (point_leaves c rest)

range_leaves : (n low : ℕ) (o : Option (ℕ × List ℕ)) → Leaves n o → Leaves n (range_to low o)
range_leaves n low None l = tt
range_leaves n low (Some x) l = leaves_if _ (nat_le low x.0) _ _ l tt

pub drop_one : (bytes : List ℕ) → length (drop 1 bytes) ≤ length bytes
drop_one bytes = grind (arith, length-drop)

from_leaves : (n : ℕ) (o : Option (ℕ × List ℕ)) → Leaves n o → Leaves n (from_point o)
from_leaves n None l = tt
from_leaves n (Some x) l =
    let less = drop_one x.1 in
    leaves_if _ (goes_on x.1) _ _
    (leaves_more _ n (range_to x.0 (point_at (drop 1 x.1))) (le_trans less l) (range_leaves _ x.0 (point_at (drop 1 x.1)) (point_within (drop 1 x.1)))) l

-- an item takes at least one byte
item_shorter : (first : Bool) (c : ℕ) (rest : List ℕ) → Leaves (length rest) (item_at first (c ∷ rest))
unfolding item_at
item_shorter first c rest =
    leaves_if _ ((c == 91) && begins 58 rest) _ _ (leaves_more _ (length rest) (class_at (drop 1 rest)) (drop_one rest) (class_at_leaves (drop 1 rest)))
    (leaves_if _ ((c == 45) && not first) _ _ (leaves_if _ (begins 93 rest) _ _ (le_refl (length rest)) tt)
    (from_leaves (length rest) (point_at (c ∷ rest)) (point_leaves c rest)))

pub shorter : (first : Bool) (bytes more : List ℕ) (x : BracketItem) → item_at first bytes ≡ Some (x, more) → length more < length bytes
unfolding item_at
shorter first [] more x h = cc
shorter first (c ∷ rest) more x h =
    let l : length more ≤ length rest = subst (Leaves (length rest)) h (item_shorter first c rest) in omega arith

-- what the items that follow were read as
abbrev ReadsOn : ℕ → List Bool → List Bool → List ℕ → Type 0
ReadsOn n members all rest = (x : BracketItem) (more : List ℕ) → items n (with_ranges (item_ranges x) members) false more ≡ Some (all, rest)
    → (is : List BracketItem) × Items false more is rest × (all ≡ with_items is (with_ranges (item_ranges x) members))

-- the items that were read
read_items : (n : ℕ) (first : Bool) (bytes : List ℕ) (members all : List Bool) (rest : List ℕ) → items n members first bytes ≡ Some (all, rest)
    → (is : List BracketItem) × Items first bytes is rest × (all ≡ with_items is members)
unfolding items
read_items zero first bytes members all rest h = cc
read_items (suc n) first bytes members all rest h = go (ends first bytes) refl h (λ x more same. read_items n false more (with_ranges (item_ranges x) members) all rest same)
  where
    next : (o : Option (BracketItem × List ℕ)) → item_at first bytes ≡ o → ends first bytes ≡ false → and_then (λ more left. items n more false left) members o ≡ Some (all, rest) → ReadsOn n members all rest
        → (is : List BracketItem) × Items first bytes is rest × (all ≡ with_items is members)
    next None at going h again = cc
    next (Some x) at going h again =
        let y = again x.0 x.1 h in
        (x.0 ∷ y.0, (going, x.1, item_is first bytes x.1 x.0 at, y.1), y.2)

    go : (b : Bool) → ends first bytes ≡ b → cond b (Some (members, drop 1 bytes)) (and_then (λ more left. items n more false left) members (item_at first bytes)) ≡ Some (all, rest) → ReadsOn n members all rest
        → (is : List BracketItem) × Items first bytes is rest × (all ≡ with_items is members)
    go true over h again =
        let p = some_inj (members, drop 1 bytes) (all, rest) h in
        ([], (over, ap (λ q. q.1) (sym p)), ap (λ q. q.0) (sym p))
    go false going h again = next (item_at first bytes) refl going h again

-- where the items end, there is a byte
ends_some : (first : Bool) (bytes : List ℕ) → ends first bytes ≡ true → 0 < length bytes
ends_some first [] h = cc
ends_some first (c ∷ rest) h = omega arith

-- and all that can be
items_read : (is : List BracketItem) (n : ℕ) (first : Bool) (bytes : List ℕ) (members : List Bool) (rest : List ℕ) → length bytes ≤ n → Items first bytes is rest
    → items n members first bytes ≡ Some (with_items is members, rest)
unfolding items
items_read [] zero first bytes members rest le h = let x = ends_some first bytes h.0 in absurd (omega arith)
items_read [] (suc n) first bytes members rest le h = rw (h.0, h.1) refl
items_read (i ∷ is) zero first bytes members rest le h = let x = shorter first bytes h.1 i (item_read first bytes h.1 i h.2) in absurd (omega arith)
items_read (i ∷ is) (suc n) first bytes members rest le h =
    let at = item_read first bytes h.1 i h.2 in
    let x = shorter first bytes h.1 i at in
    let y = items_read is n false h.1 (with_ranges (item_ranges i) members) rest (omega arith) h.3 in
    let step : items (suc n) members first bytes ≡ and_then (λ more left. items n more false left) members (item_at first bytes) = rw h.0 refl in
    step ∙ ap (and_then (λ more left. items n more false left) members) at ∙ y

outside_some : (o : Option (List Bool × List ℕ)) (members : List Bool) (rest : List ℕ) → outside o ≡ Some (members, rest)
    → (all : List Bool) × (o ≡ Some (all, rest)) × (members ≡ complement all)
outside_some None members rest h = cc
outside_some (Some x) members rest h =
    let p = some_inj (complement x.0, x.1) (members, rest) h in
    (x.0, ap (λ r. Some (x.0, r)) (ap (λ q. q.1) p), ap (λ q. q.0) (sym p))

-- the reader of bracket expressions answers with what is one, and with each
pub bracket_is : (bytes : List ℕ) (members : List Bool) (rest : List ℕ) → (bracket_at bytes ≡ Some (members, rest)) ↔ IsBracket bytes members rest
unfolding bracket_at
bracket_is bytes members rest = (there (begins 94 bytes) refl, back)
  where
    there : (b : Bool) → begins 94 bytes ≡ b → cond b (outside (items (length bytes) none true (drop 1 bytes))) (items (length bytes) none true bytes) ≡ Some (members, rest) → IsBracket bytes members rest
    there true caret h =
        let o = outside_some (items (length bytes) none true (drop 1 bytes)) members rest h in
        let x = read_items (length bytes) true (drop 1 bytes) none o.0 rest o.1 in
        inl (caret, x.0, x.1, o.2 ∙ ap complement x.2)
    there false caret h =
        let x = read_items (length bytes) true bytes none members rest h in
        inr (caret, x.0, x.1, x.2)

    back : IsBracket bytes members rest → cond (begins 94 bytes) (outside (items (length bytes) none true (drop 1 bytes))) (items (length bytes) none true bytes) ≡ Some (members, rest)
    back h = ⊎_elim
        (λ x. rw x.0 (ap outside (items_read x.1 (length bytes) true (drop 1 bytes) none rest (drop_one bytes) x.2) ∙ ap (λ m. Some (m, rest)) (sym x.3)))
        (λ x. rw x.0 (items_read x.1 (length bytes) true bytes none rest (le_refl (length bytes)) x.2 ∙ ap (λ m. Some (m, rest)) (sym x.3)))
        h
