-- Reading the items of a bracket expression, one by one.
use Rattle.std.proofs.Common.{◌≡◌, ℕ, zero, suc, ◌<◌, ◌≤◌, Bool, true, false, not, ◌&&◌, Some, None, List, [], length, drop, refl, sym, ap, ◌∙◌, arith}
use Rattle.pawk_ere_syntax.specs.declared.bracket.BracketItem.{BracketItem}
use Rattle.pawk_ere_syntax.specs.declared.refusal.EreRefusal.{EreRefusal}
use Rattle.pawk_ere_syntax.specs.Brackets.{begins, items, item_at, item_ranges, and_then}
use Rattle.pawk_ere_syntax.specs.Refusals.{TellsOfForm}
use Rattle.pawk_ere_syntax.specs.Sets.{with_ranges}
use Rattle.pawk_ere_syntax.proofs.Refused.{form_map}

pub items_over : (m : ℕ) (members : List Bool) (first : Bool) (bytes after : List ℕ) → length after < length bytes → length bytes ≤ m
    → ((begins 93 bytes && not first) ≡ true) × (after ≡ drop 1 bytes) → items m members first bytes ≡ Some (members, after)
unfolding items
items_over zero members first bytes after more le h = absurd (omega arith)
items_over (suc m) members first bytes after more le h = rw (h.0, h.1) refl

pub items_on : (m : ℕ) (members : List Bool) (first : Bool) (bytes : List ℕ) → (begins 93 bytes && not first) ≡ false
    → items (suc m) members first bytes ≡ and_then (λ more rest. items m more false rest) members (item_at first bytes)
unfolding items
items_on m members first bytes h = rw h refl

pub items_none : (m : ℕ) (members : List Bool) (first : Bool) (bytes : List ℕ) → (begins 93 bytes && not first) ≡ false → item_at first bytes ≡ None → items m members first bytes ≡ None
unfolding items
items_none zero members first bytes h n = refl
items_none (suc m) members first bytes h n = rw (h, n) refl

pub items_empty : (m : ℕ) (members : List Bool) (first : Bool) → items m members first [] ≡ None
unfolding items item_at
items_empty zero members first = refl
items_empty (suc m) members first = refl

-- one item is read
pub items_more : (m : ℕ) (members : List Bool) (first : Bool) (bytes more : List ℕ) (x : BracketItem) → length bytes ≤ m → length more < length bytes → (begins 93 bytes && not first) ≡ false → item_at first bytes ≡ Some (x, more)
    → (k : ℕ) × (length more ≤ k) × (items k (with_ranges (item_ranges x) members) false more ≡ items m members first bytes)
items_more zero members first bytes more x le lt h at = absurd (omega arith)
items_more (suc m) members first bytes more x le lt h at =
    (m, omega arith, sym (items_on m members first bytes h ∙ ap (and_then (λ all rest. items m all false rest) members) at))

-- the items from here are those from the start
abbrev pub Same : List ℕ → List ℕ → List Bool → Bool → List Bool → Type 0
Same text rest members first initial = (n : ℕ) → length text ≤ n → (m : ℕ) × (length rest ≤ m) × (items m members first rest ≡ items n initial true text)

pub same_start : (text : List ℕ) (initial : List Bool) → Same text text initial true initial
same_start text initial = λ n le. (n, le, refl)

pub same_more : (text rest more : List ℕ) (members initial : List Bool) (first : Bool) (x : BracketItem) (set : List Bool) → Same text rest members first initial → length more < length rest → (begins 93 rest && not first) ≡ false → item_at first rest ≡ Some (x, more)
    → set ≡ with_ranges (item_ranges x) members → Same text more set false initial
same_more text rest more members initial first x set same lt h at is = λ n le.
    let s = same n le in
    let y = items_more s.0 members first rest more x s.1 lt h at in
    (y.0, y.1, ap (λ (a : List Bool). items y.0 a false more) is ∙ y.2 ∙ s.2)

pub same_over : (text rest after : List ℕ) (members initial : List Bool) (first : Bool) → Same text rest members first initial → length after < length rest → ((begins 93 rest && not first) ≡ true) × (after ≡ drop 1 rest)
    → (n : ℕ) → length text ≤ n → items n initial true text ≡ Some (members, after)
same_over text rest after members initial first same lt h n le = let s = same n le in sym s.2 ∙ items_over s.0 members first rest after lt s.1 h

pub same_refused : (why : EreRefusal) (text rest : List ℕ) (members initial : List Bool) (first : Bool) → Same text rest members first initial → (begins 93 rest && not first) ≡ false → TellsOfForm why (item_at first rest ≡ None)
    → (n : ℕ) → length text ≤ n → TellsOfForm why (items n initial true text ≡ None)
same_refused why text rest members initial first same h t n le =
    let s = same n le in form_map why _ _ (λ x. sym s.2 ∙ items_none s.0 members first rest h x) t

pub same_ended : (text rest : List ℕ) (members initial : List Bool) (first : Bool) → Same text rest members first initial → rest ≡ [] → (n : ℕ) → length text ≤ n → items n initial true text ≡ None
same_ended text rest members initial first same h n le =
    let s = same n le in sym s.2 ∙ ap (items s.0 members first) h ∙ items_empty s.0 members first
