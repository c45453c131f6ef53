-- The reader of bracket expressions refuses a text for the cause that it has.
use Rattle.std.proofs.Common.{◌≡◌, ◌↔◌, ◌⊎◌, ℕ, zero, suc, ◌≤◌, ◌&&◌, ◌==◌, Bool, true, false, not, cond, leb, eqb, eqb-true, Option, Some, None, List, [], ◌∷◌, ◌++◌, length, drop, refl, sym, ap, subst, ◌∙◌, arith, inl, inr}
use Rattle.std.proofs.lemmas.Bool.{and_parts, leb-false, lt-leb}
use Rattle.std.proofs.Math.Nat.{le_refl}
use Rattle.pawk_ere_syntax.specs.declared.bracket.BracketItem.{BracketItem}
use Rattle.pawk_ere_syntax.specs.declared.bracket.BracketItem.TheVariants as item
use Rattle.pawk_ere_syntax.specs.declared.class.Class.{Class}
use Rattle.pawk_ere_syntax.specs.declared.refusal.EreRefusal.{EreRefusal}
use Rattle.pawk_ere_syntax.specs.declared.refusal.EreRefusal.TheVariants.{Bracket, Escape}
use Rattle.pawk_ere_syntax.specs.Escapes.{escape_at}
use Rattle.pawk_ere_syntax.specs.Sets.{none, with_ranges}
use Rattle.pawk_ere_syntax.specs.Brackets.{and_then, begins, bracket_at, class_at, from_point, goes_on, item_at, item_ranges, items, last_dash, outside, point_at, range_to}
use Rattle.pawk_ere_syntax.specs.Items.{IsPoint, class_text, ends, opens}
use Rattle.pawk_ere_syntax.specs.Numerals.{IsEscape}
use Rattle.pawk_ere_syntax.specs.Causes.{Stops, bracket_cause, from_cause, item_cause, items_cause, later_cause, point_cause, range_cause}
use Rattle.pawk_ere_syntax.specs.BracketCauses.{ItemsBefore, IsBareBackslash, IsNoPoint, BeginsRange, EndsBadly, LacksEscape, LacksItem, IsItemCause, IsBracketCause}
use Rattle.pawk_ere_syntax.proofs.EscapeNumerals.{escape_is, escape_read}
use Rattle.pawk_ere_syntax.proofs.ItemReading.{begins_with, class_is, item_is, item_read, on_is, point_is, point_item, point_read, point_some}
use Rattle.pawk_ere_syntax.proofs.BracketItems.{drop_one, shorter}
use Rattle.pawk_ere_syntax.proofs.Items.{items_none}
use Rattle.pawk_ere_syntax.proofs.Causes.{cause_here}

-- ---- points

-- where no point is read
abbrev NoPoint : List ℕ → Type 0
NoPoint bytes = (IsBareBackslash bytes × (point_cause bytes ≡ Escape)) ⊎ (IsNoPoint bytes × (point_cause bytes ≡ Bracket))

no_point : (bytes : List ℕ) → point_at bytes ≡ None → NoPoint bytes
unfolding point_at point_cause
no_point [] h = inr (inl refl, refl)
no_point (c ∷ more) h = go (eqb c 92) refl h
  where
    none_escapes : escape_at more ≡ None → (byte : ℕ) (rest : List ℕ) → IsEscape more byte rest → ⊥
    none_escapes h byte rest e = let z = sym h ∙ escape_read more rest byte e in cc

    plain : eqb c 92 ≡ false → (b : Bool) → ((c == 91) && opens more) ≡ b → cond {A = Option (ℕ × List ℕ)} b None (Some (c, more)) ≡ None → NoPoint (c ∷ more)
    plain e true is h =
        let p = and_parts (eqb c 91) (opens more) is in
        inr (inr (more, ap (λ x. x ∷ more) (eqb-true c 91 p.0), p.1), ap (λ b. cond b Escape Bracket) e)
    plain e false is h = absurd cc

    go : (b : Bool) → eqb c 92 ≡ b → cond {A = Option (ℕ × List ℕ)} b (escape_at more) (cond {A = Option (ℕ × List ℕ)} ((c == 91) && opens more) None (Some (c, more))) ≡ None → NoPoint (c ∷ more)
    go true e h = inl ((more, ap (λ x. x ∷ more) (eqb-true c 92 e), none_escapes h), ap (λ b. cond b Escape Bracket) e)
    go false e h = plain e ((c == 91) && opens more) refl h

bare_escape : (more : List ℕ) → ((byte : ℕ) (rest : List ℕ) → IsEscape more byte rest → ⊥) → escape_at more ≡ None
bare_escape more f = go (escape_at more) refl
  where
    go : (o : Option (ℕ × List ℕ)) → escape_at more ≡ o → escape_at more ≡ None
    go None e = e
    go (Some x) e = absurd (f x.0 x.1 (escape_is more x.1 x.0 e))

bare_point : (more : List ℕ) → ((byte : ℕ) (rest : List ℕ) → IsEscape more byte rest → ⊥) → point_at (92 ∷ more) ≡ None
unfolding point_at
bare_point more f = bare_escape more f

bare_cause : (more : List ℕ) → point_cause (92 ∷ more) ≡ Escape
unfolding point_cause
bare_cause more = refl

backslash_none : (bytes : List ℕ) → IsBareBackslash bytes → (point_at bytes ≡ None) × (point_cause bytes ≡ Escape)
backslash_none bytes h = (ap point_at h.1 ∙ bare_point h.0 h.2, ap point_cause h.1 ∙ bare_cause h.0)

empty_point : (point_at [] ≡ None) × (point_cause [] ≡ Bracket)
unfolding point_at point_cause
empty_point = (refl, refl)

opening_point : (more : List ℕ) → opens more ≡ true → (point_at (91 ∷ more) ≡ None) × (point_cause (91 ∷ more) ≡ Bracket)
unfolding point_at point_cause
opening_point more h = (rw h refl, refl)

point_none : (bytes : List ℕ) → IsNoPoint bytes → (point_at bytes ≡ None) × (point_cause bytes ≡ Bracket)
point_none bytes (inl h) = rw h empty_point
point_none bytes (inr h) = rw h.1 (opening_point h.0 h.2)

-- ---- ranges

-- where no range is read
abbrev NoRange : ℕ → List ℕ → Type 0
NoRange low behind =
    (IsBareBackslash behind × (range_cause (point_at behind) (point_cause behind) ≡ Escape))
    ⊎ (EndsBadly low behind × (range_cause (point_at behind) (point_cause behind) ≡ Bracket))

no_range : (low : ℕ) (behind : List ℕ) → range_to low (point_at behind) ≡ None → NoRange low behind
no_range low behind h = go (point_at behind) refl h
  where
    first : point_at behind ≡ None → NoPoint behind → NoRange low behind
    first e (inl p) = inl (p.0, ap (λ o. range_cause o (point_cause behind)) e ∙ p.1)
    first e (inr p) = inr (inl p.0, ap (λ o. range_cause o (point_cause behind)) e ∙ p.1)

    falls : (x : ℕ × List ℕ) → point_at behind ≡ Some x → (b : Bool) → leb low x.0 ≡ b → cond {A = Option (BracketItem × List ℕ)} b (Some (item.Range low x.0, x.1)) None ≡ None → NoRange low behind
    falls x e true is h = absurd cc
    falls x e false is h = inr (inr (x.0, x.1, point_is behind x.1 x.0 e, leb-false low x.0 is), ap (λ o. range_cause o (point_cause behind)) e)

    go : (o : Option (ℕ × List ℕ)) → point_at behind ≡ o → range_to low o ≡ None → NoRange low behind
    go None e h = first e (no_point behind e)
    go (Some x) e h = falls x e (leb low x.0) refl h

-- what is read of a range that is none
abbrev RangeStops : ℕ → List ℕ → EreRefusal → Type 0
RangeStops low behind why = (range_to low (point_at behind) ≡ None) × (range_cause (point_at behind) (point_cause behind) ≡ why)

pointless : (low : ℕ) (behind : List ℕ) (why : EreRefusal) → (point_at behind ≡ None) × (point_cause behind ≡ why) → RangeStops low behind why
pointless low behind why h = (ap (range_to low) h.0, ap (λ o. range_cause o (point_cause behind)) h.0 ∙ h.1)

range_none : (low : ℕ) (behind : List ℕ) → EndsBadly low behind → RangeStops low behind Bracket
range_none low behind (inl h) = pointless low behind Bracket (point_none behind h)
range_none low behind (inr h) =
    let e = point_read behind h.1 h.0 h.2 in
    let to : range_to low (Some (h.0, h.1)) ≡ None = rw (lt-leb low h.0 h.3) refl in
    (ap (range_to low) e ∙ to, ap (λ o. range_cause o (point_cause behind)) e)

-- ---- items

-- a `[` that begins neither a point nor a class begins `[.` or `[=`
mark : (c : ℕ) (more left : List ℕ) → c ∷ more ≡ 91 ∷ left → ((c == 91) && begins 58 more) ≡ false → opens left ≡ true
    → (rest : List ℕ) × ((c ∷ more ≡ 91 ∷ 46 ∷ rest) ⊎ (c ∷ more ≡ 91 ∷ 61 ∷ rest))
mark c more left is n h = go (begins 46 left) refl (begins 61 left) refl
  where
    head : c ≡ 91
    head = cc

    tail : more ≡ left
    tail = cc

    plain : begins 58 left ≡ false
    plain = sym (ap (begins 58) tail) ∙ (ap (λ x. (x == 91) && begins 58 more) (sym head) ∙ n)

    go : (a : Bool) → begins 46 left ≡ a → (b : Bool) → begins 61 left ≡ b → (rest : List ℕ) × ((c ∷ more ≡ 91 ∷ 46 ∷ rest) ⊎ (c ∷ more ≡ 91 ∷ 61 ∷ rest))
    go true e b f = let m = begins_with 46 left e in (m.0, inl (is ∙ ap (λ l. 91 ∷ l) m.1))
    go false e true f = let m = begins_with 61 left f in (m.0, inr (is ∙ ap (λ l. 91 ∷ l) m.1))
    go false e false f = absurd (let z : opens left ≡ false = rw (plain, e, f) refl in let y = sym h ∙ z in cc)

-- where no item is read, there is none, for the reader's cause
no_item : (first : Bool) (bytes : List ℕ) → item_at first bytes ≡ None → IsItemCause first bytes (item_cause first bytes)
unfolding item_at item_cause
no_item first [] h = inr (inl refl, refl)
no_item first (c ∷ more) none = go ((c == 91) && begins 58 more) refl none
  where
    free : (a b : Bool) → eqb c 45 ≡ a → first ≡ b → (a && not b) ≡ false → (first ≡ true) ⊎ (eqb c 45 ≡ false)
    free a true e f h = inl f
    free false false e f h = inr e
    free true false e f h = absurd cc

    flip : (b : Bool) → not b ≡ true → b ≡ false
    flip true h = sym h
    flip false h = refl

    bad : ((c == 91) && begins 58 more) ≡ false → IsNoPoint (c ∷ more) → LacksItem first (c ∷ more)
    bad n (inl e) = absurd cc
    bad n (inr p) = inr (inr (inl (mark c more p.0 p.1 n p.2)))

    pointless : ((c == 91) && begins 58 more) ≡ false → NoPoint (c ∷ more) → IsItemCause first (c ∷ more) (point_cause (c ∷ more))
    pointless n (inl p) = inl (inl p.0, p.1)
    pointless n (inr p) = inr (bad n p.0, p.1)

    broken : (low : ℕ) (behind after : List ℕ) → BeginsRange first (c ∷ more) low behind → after ≡ 45 ∷ behind → NoRange low behind → IsItemCause first (c ∷ more) (range_cause (point_at (drop 1 after)) (point_cause (drop 1 after)))
    broken low behind after r is (inl q) = inl (inr (low, behind, r, q.0), ap (λ l. range_cause (point_at (drop 1 l)) (point_cause (drop 1 l))) is ∙ q.1)
    broken low behind after r is (inr q) = inr (inr (inr (inr (inr (low, behind, r, q.0)))), ap (λ l. range_cause (point_at (drop 1 l)) (point_cause (drop 1 l))) is ∙ q.1)

    ranged : (first ≡ true) ⊎ (eqb c 45 ≡ false) → (x : ℕ × List ℕ) → point_at (c ∷ more) ≡ Some x → (b : Bool) → goes_on x.1 ≡ b
        → cond {A = Option (BracketItem × List ℕ)} b (range_to x.0 (point_at (drop 1 x.1))) (Some (item.Range x.0 x.0, x.1)) ≡ None
        → IsItemCause first (c ∷ more) (cond b (range_cause (point_at (drop 1 x.1)) (point_cause (drop 1 x.1))) Bracket)
    ranged f x e true is h =
        let o = on_is x.1 is in
        let p : IsPoint (c ∷ more) x.0 (45 ∷ o.0) = subst (IsPoint (c ∷ more) x.0) o.1 (point_is (c ∷ more) x.1 x.0 e) in
        broken x.0 o.0 x.1 (f, p, o.2) o.1 (no_range x.0 o.0 (ap (λ l. range_to x.0 (point_at (drop 1 l))) (sym o.1) ∙ h))
    ranged f x e false is h = absurd cc

    from : ((c == 91) && begins 58 more) ≡ false → (first ≡ true) ⊎ (eqb c 45 ≡ false) → (o : Option (ℕ × List ℕ)) → point_at (c ∷ more) ≡ o → from_point o ≡ None
        → IsItemCause first (c ∷ more) (from_cause o (point_cause (c ∷ more)))
    from n f None e h = pointless n (no_point (c ∷ more) e)
    from n f (Some x) e h = ranged f x e (goes_on x.1) refl h

    dash : (b : Bool) → begins 93 more ≡ b → c ≡ 45 → first ≡ false → cond {A = Option (BracketItem × List ℕ)} b (Some (item.Range 45 45, more)) None ≡ None → LacksItem first (c ∷ more)
    dash true e is other h = absurd cc
    dash false e is other h = inr (inr (inr (inl (other, more, ap (λ x. x ∷ more) is, e))))

    point : ((c == 91) && begins 58 more) ≡ false → (b : Bool) → ((c == 45) && not first) ≡ b → cond {A = Option (BracketItem × List ℕ)} b (last_dash more) (from_point (point_at (c ∷ more))) ≡ None
        → IsItemCause first (c ∷ more) (cond b Bracket (from_cause (point_at (c ∷ more)) (point_cause (c ∷ more))))
    point n true e h = let p = and_parts (eqb c 45) (not first) e in inr (dash (begins 93 more) refl (eqb-true c 45 p.0) (flip first p.1) h, refl)
    point n false e h = from n (free (eqb c 45) first refl refl e) (point_at (c ∷ more)) refl h

    classless : (k : Class) (rest : List ℕ) → c ∷ more ≡ class_text k ++ rest → ⊥
    classless k rest e = let z = sym none ∙ item_read first (c ∷ more) rest (item.Class k) (inl (k, e, refl)) in cc

    go : (b : Bool) → ((c == 91) && begins 58 more) ≡ b → cond {A = Option (BracketItem × List ℕ)} b (class_at (drop 1 more)) (cond {A = Option (BracketItem × List ℕ)} ((c == 45) && not first) (last_dash more) (from_point (point_at (c ∷ more)))) ≡ None
        → IsItemCause first (c ∷ more) (cond b Bracket (cond ((c == 45) && not first) Bracket (from_cause (point_at (c ∷ more)) (point_cause (c ∷ more)))))
    go true e h =
        let p = and_parts (eqb c 91) (begins 58 more) e in
        let m = begins_with 58 more p.1 in
        inr (inr (inl (m.0, ap (λ x. x ∷ more) (eqb-true c 91 p.0) ∙ ap (λ l. 91 ∷ l) m.1, classless)), refl)
    go false e h = point e ((c == 45) && not first) refl h

-- the reader reads no item, for this cause
abbrev ItemStops : Bool → List ℕ → EreRefusal → Type 0
ItemStops first bytes why = (item_at first bytes ≡ None) × (item_cause first bytes ≡ why)

empty_item : (first : Bool) → ItemStops first [] Bracket
unfolding item_at item_cause
empty_item first = (refl, refl)

backslash_item : (first : Bool) (more : List ℕ) → point_at (92 ∷ more) ≡ None → ItemStops first (92 ∷ more) Escape
unfolding item_cause
backslash_item first more h =
    (point_item first 92 more refl refl ∙ ap from_point h, ap (λ o. from_cause o (point_cause (92 ∷ more))) h ∙ bare_cause more)

class_item_none : (first : Bool) (more : List ℕ) → class_at more ≡ None → ItemStops first (91 ∷ 58 ∷ more) Bracket
unfolding item_at item_cause
class_item_none first more h = (h, refl)

no_class : (more : List ℕ) → ((c : Class) (rest : List ℕ) → 91 ∷ 58 ∷ more ≡ class_text c ++ rest → ⊥) → class_at more ≡ None
no_class more f = go (class_at more) refl
  where
    go : (o : Option (BracketItem × List ℕ)) → class_at more ≡ o → class_at more ≡ None
    go None e = e
    go (Some x) e = absurd (let k = class_is more x.1 x.0 e in f k.0 x.1 k.1)

dot_item : (first : Bool) (rest : List ℕ) → ItemStops first (91 ∷ 46 ∷ rest) Bracket
unfolding item_at item_cause point_at point_cause
dot_item first rest = (refl, refl)

equals_item : (first : Bool) (rest : List ℕ) → ItemStops first (91 ∷ 61 ∷ rest) Bracket
unfolding item_at item_cause point_at point_cause
equals_item first rest = (refl, refl)

dash_stops : (more : List ℕ) → begins 93 more ≡ false → ItemStops false (45 ∷ more) Bracket
unfolding item_at item_cause
dash_stops more h = (rw h refl, refl)

point_item_cause : (first : Bool) (c : ℕ) (more : List ℕ) → ((c == 91) && begins 58 more) ≡ false → ((c == 45) && not first) ≡ false
    → item_cause first (c ∷ more) ≡ from_cause (point_at (c ∷ more)) (point_cause (c ∷ more))
unfolding item_cause
point_item_cause first c more h k = rw (h, k) refl

range_item : (first : Bool) (bytes : List ℕ) (low : ℕ) (behind : List ℕ) (why : EreRefusal) → BeginsRange first bytes low behind → RangeStops low behind why → ItemStops first bytes why
range_item first bytes low behind why h stops =
    let s = point_some bytes (45 ∷ behind) low h.1 in
    let other = dash h.0 s.0 s.1 s.2 in
    let e : point_at (s.0 ∷ s.1) ≡ Some (low, 45 ∷ behind) = sym (ap point_at s.2) ∙ point_read bytes (45 ∷ behind) low h.1 in
    let from : from_point (Some (low, 45 ∷ behind)) ≡ range_to low (point_at behind) = rw h.2 refl in
    let cause : from_cause (Some (low, 45 ∷ behind)) (point_cause (s.0 ∷ s.1)) ≡ range_cause (point_at behind) (point_cause behind) = rw h.2 refl in (
      ap (item_at first) s.2 ∙ point_item first s.0 s.1 s.3 other ∙ ap from_point e ∙ from ∙ stops.0,
      ap (item_cause first) s.2 ∙ point_item_cause first s.0 s.1 s.3 other ∙ ap (λ o. from_cause o (point_cause (s.0 ∷ s.1))) e ∙ cause ∙ stops.1,
    )
  where
    dash : ((first ≡ true) ⊎ (begins 45 bytes ≡ false)) → (c : ℕ) (more : List ℕ) → bytes ≡ c ∷ more → ((c == 45) && not first) ≡ false
    dash (inl f) c more e = rw f (never (eqb c 45))
      where
        never : (b : Bool) → (b && not true) ≡ false
        never true = refl
        never false = refl
    dash (inr f) c more e = let other : eqb c 45 ≡ false = ap (begins 45) (sym e) ∙ f in rw other refl

-- where there is no item, none is read, for that cause
lacks_item : (first : Bool) (bytes : List ℕ) → LacksItem first bytes → ItemStops first bytes Bracket
lacks_item first bytes (inl e) = rw e (empty_item first)
lacks_item first bytes (inr (inl h)) = subst (λ l. ItemStops first l Bracket) (sym h.1) (class_item_none first h.0 (no_class h.0 (λ c rest e. h.2 c rest (h.1 ∙ e))))
lacks_item first bytes (inr (inr (inl h))) = marked h.1
  where
    marked : ((bytes ≡ 91 ∷ 46 ∷ h.0) ⊎ (bytes ≡ 91 ∷ 61 ∷ h.0)) → ItemStops first bytes Bracket
    marked (inl e) = subst (λ l. ItemStops first l Bracket) (sym e) (dot_item first h.0)
    marked (inr e) = subst (λ l. ItemStops first l Bracket) (sym e) (equals_item first h.0)
lacks_item first bytes (inr (inr (inr (inl h)))) = subst (λ f. ItemStops f bytes Bracket) (sym h.0) (subst (λ l. ItemStops false l Bracket) (sym h.2) (dash_stops h.1 h.3))
lacks_item first bytes (inr (inr (inr (inr h)))) = range_item first bytes h.0 h.1 Bracket h.2 (range_none h.0 h.1 h.3)

lacks_escape : (first : Bool) (bytes : List ℕ) → LacksEscape first bytes → ItemStops first bytes Escape
lacks_escape first bytes (inl h) = subst (λ l. ItemStops first l Escape) (sym h.1) (backslash_item first h.0 (bare_point h.0 h.2))
lacks_escape first bytes (inr h) = range_item first bytes h.0 h.1 Escape h.2 (pointless h.0 h.1 Escape (backslash_none h.1 h.3))

cause_item : (first : Bool) (bytes : List ℕ) (why : EreRefusal) → IsItemCause first bytes why → ItemStops first bytes why
cause_item first bytes why (inl h) = subst (ItemStops first bytes) (sym h.1) (lacks_escape first bytes h.0)
cause_item first bytes why (inr h) = subst (ItemStops first bytes) (sym h.1) (lacks_item first bytes h.0)

-- ---- bracket expressions

-- items from here come to a place where the next is none, for this cause
abbrev Breaks : Bool → List ℕ → EreRefusal → Type 0
Breaks first bytes why =
    (is : List BracketItem) × (at : Bool) × (rest : List ℕ) × ItemsBefore first bytes is at rest × (ends at rest ≡ false) × IsItemCause at rest why

items_break : (n : ℕ) (members : List Bool) (first : Bool) (bytes : List ℕ) → length bytes ≤ n → items n members first bytes ≡ None → Breaks first bytes (items_cause n first bytes)
unfolding items items_cause
items_break zero members first [] le h = ([], first, [], (refl, refl), refl, inr (inl refl, refl))
items_break zero members first (c ∷ cs) le h = absurd (omega arith)
items_break (suc n) members first bytes le h = go (ends first bytes) refl h (λ x more. items_break n (with_ranges (item_ranges x) members) false more)
  where
    Again : Type 0
    Again = (x : BracketItem) (more : List ℕ) → length more ≤ n → items n (with_ranges (item_ranges x) members) false more ≡ None → Breaks false more (items_cause n false more)

    next : (o : Option (BracketItem × List ℕ)) → item_at first bytes ≡ o → ends first bytes ≡ false → and_then (λ more left. items n more false left) members o ≡ None → Again
        → Breaks first bytes (later_cause (λ rest. items_cause n false rest) (item_cause first bytes) o)
    next None at going h again = ([], first, bytes, (refl, refl), going, no_item first bytes at)
    next (Some x) at going h again =
        let less = shorter first bytes x.1 x.0 at in
        let y = again x.0 x.1 (omega arith) h in
        (x.0 ∷ y.0, y.1, y.2, (going, x.1, item_is first bytes x.1 x.0 at, y.3), y.4, y.5)

    go : (b : Bool) → ends first bytes ≡ b → cond b (Some (members, drop 1 bytes)) (and_then (λ more left. items n more false left) members (item_at first bytes)) ≡ None → Again
        → Breaks first bytes (later_cause (λ rest. items_cause n false rest) (item_cause first bytes) (item_at first bytes))
    go true over h again = absurd cc
    go false going h again = next (item_at first bytes) refl going h again

breaks_items : (is : List BracketItem) (n : ℕ) (members : List Bool) (first : Bool) (bytes : List ℕ) (at : Bool) (rest : List ℕ) (why : EreRefusal) → length bytes ≤ n
    → ItemsBefore first bytes is at rest → ends at rest ≡ false → IsItemCause at rest why → (items n members first bytes ≡ None) × (items_cause n first bytes ≡ why)
unfolding items items_cause
breaks_items [] n members first bytes at rest why le b e k =
    let cause : IsItemCause first bytes why = subst (λ f. IsItemCause f bytes why) (sym b.0) (subst (λ l. IsItemCause at l why) (sym b.1) k) in
    let going : ends first bytes ≡ false = subst (λ f. ends f bytes ≡ false) (sym b.0) (subst (λ l. ends at l ≡ false) (sym b.1) e) in
    let stops = cause_item first bytes why cause in
    (items_none n members first bytes going stops.0, cause_here n first bytes le stops.0 ∙ stops.1)
breaks_items (i ∷ is) zero members first bytes at rest why le b e k = let x = shorter first bytes b.1 i (item_read first bytes b.1 i b.2) in absurd (omega arith)
breaks_items (i ∷ is) (suc n) members first bytes at rest why le b e k =
    let read = item_read first bytes b.1 i b.2 in
    let less = shorter first bytes b.1 i read in
    let y = breaks_items is n (with_ranges (item_ranges i) members) false b.1 at rest why (omega arith) b.3 e k in
    let step : items (suc n) members first bytes ≡ and_then (λ more left. items n more false left) members (item_at first bytes) = rw b.0 refl in (
      step ∙ ap (and_then (λ more left. items n more false left) members) read ∙ y.0,
      ap (later_cause (λ left. items_cause n false left) (item_cause first bytes)) read ∙ y.1,
    )

outside_none : (o : Option (List Bool × List ℕ)) → outside o ≡ None → o ≡ None
outside_none None h = refl
outside_none (Some x) h = absurd cc

pub bracket_cause_is : (bytes : List ℕ) (why : EreRefusal) → Stops (bracket_at bytes) (bracket_cause bytes) why ↔ IsBracketCause bytes why
unfolding bracket_at bracket_cause
bracket_cause_is bytes why = (there (begins 94 bytes), back (begins 94 bytes))
  where
    there : (b : Bool) → Stops (cond b (outside (items (length bytes) none true (drop 1 bytes))) (items (length bytes) none true bytes)) (cond b (items_cause (length bytes) true (drop 1 bytes)) (items_cause (length bytes) true bytes)) why
        → Breaks true (cond b (drop 1 bytes) bytes) why
    there true h = subst (Breaks true (drop 1 bytes)) (sym h.1) (items_break (length bytes) none true (drop 1 bytes) (drop_one bytes) (outside_none _ h.0))
    there false h = subst (Breaks true bytes) (sym h.1) (items_break (length bytes) none true bytes (le_refl (length bytes)) h.0)

    back : (b : Bool) → Breaks true (cond b (drop 1 bytes) bytes) why
        → Stops (cond b (outside (items (length bytes) none true (drop 1 bytes))) (items (length bytes) none true bytes)) (cond b (items_cause (length bytes) true (drop 1 bytes)) (items_cause (length bytes) true bytes)) why
    back true h = let x = breaks_items h.0 (length bytes) none true (drop 1 bytes) h.1 h.2 why (drop_one bytes) h.3 h.4 h.5 in (ap outside x.0, sym x.1)
    back false h = let x = breaks_items h.0 (length bytes) none true bytes h.1 h.2 why (le_refl (length bytes)) h.3 h.4 h.5 in (x.0, sym x.1)
