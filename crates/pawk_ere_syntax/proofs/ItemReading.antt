-- What `item_at` reads is an item of a bracket expression, and it reads each.
use Rattle.std.proofs.Common.{◌≡◌, ◌≢◌, ◌⊎◌, ℕ, ◌≤◌, ◌&&◌, ◌||◌, ◌==◌, Bool, true, false, not, cond, leb, eqb, eq-eqb, eqb-true, Option, Some, None, List, [], ◌∷◌, ◌++◌, drop, refl, sym, ap, subst, ◌∙◌, inl, inr}
use Rattle.std.proofs.lemmas.Bool.{and_parts, leb-true, le-leb}
use Rattle.std.proofs.lemmas.Bool.Decides.{eqb_tells}
use Rattle.pawk_ere_syntax.specs.declared.bracket.BracketItem.{BracketItem}
use Rattle.pawk_ere_syntax.specs.declared.bracket.BracketItem.TheVariants as item
use Rattle.pawk_ere_syntax.specs.declared.class.Class.{Class}
use Rattle.pawk_ere_syntax.specs.declared.class.Class.TheVariants.{Alpha, Digit, Alnum, Upper, Lower, Space, Blank, Punct, Print, Graph, Control, HexDigit}
use Rattle.pawk_ere_syntax.specs.Escapes.{escape_at}
use Rattle.pawk_ere_syntax.specs.Brackets.{all_classes, begins, class_among, class_at, class_item, class_name, class_or, from_point, goes_on, item_at, last_dash, point_at, range_to, rest_after}
use Rattle.pawk_ere_syntax.specs.Items.{class_text, opens, IsPoint, GoesTo, IsItem}
use Rattle.pawk_ere_syntax.proofs.EscapeNumerals.{escape_is, escape_read}
use Rattle.pawk_ere_syntax.proofs.Reading.{some_inj}

pub begins_with : (b : ℕ) (bytes : List ℕ) → begins b bytes ≡ true → (rest : List ℕ) × (bytes ≡ b ∷ rest)
begins_with b [] h = absurd cc
begins_with b (c ∷ rest) h = (rest, ap (λ x. x ∷ rest) (eqb-true c b h))

same_byte : (b : ℕ) → eqb b b ≡ true
same_byte b = eq-eqb b b refl

other_byte : (c b : ℕ) → c ≢ b → eqb c b ≡ false
other_byte c b n = elim (eqb_tells c b) [ inl y ↦ absurd (n y.1) | inr f ↦ f.0 ]

not_byte : (c b : ℕ) → eqb c b ≡ false → c ≢ b
not_byte c b h e = absurd (let y = eq-eqb c b e in cc)

-- ---- classes

after_is : (name bytes rest : List ℕ) → rest_after name bytes ≡ Some rest → bytes ≡ name ++ rest
after_is [] bytes rest h = some_inj bytes rest h
after_is (n ∷ ns) [] rest h = absurd cc
after_is (n ∷ ns) (c ∷ more) rest h = go (eqb c n) refl h (λ same. after_is ns more rest same)
  where
    go : (b : Bool) → eqb c n ≡ b → cond b (rest_after ns more) None ≡ Some rest → (rest_after ns more ≡ Some rest → more ≡ ns ++ rest) → c ∷ more ≡ n ∷ (ns ++ rest)
    go true e h again = ap (λ x. x ∷ more) (eqb-true c n e) ∙ ap (λ l. n ∷ l) (again h)
    go false e h again = absurd cc

among_is : (cs : List Class) (bytes : List ℕ) (k : Class) (rest : List ℕ) → class_among cs bytes ≡ Some (k, rest) → bytes ≡ class_name k ++ rest
among_is [] bytes k rest h = absurd cc
among_is (c ∷ cs) bytes k rest h = go (rest_after (class_name c) bytes) refl h (λ same. among_is cs bytes k rest same)
  where
    go : (o : Option (List ℕ)) → rest_after (class_name c) bytes ≡ o → class_or c o (class_among cs bytes) ≡ Some (k, rest) → (class_among cs bytes ≡ Some (k, rest) → bytes ≡ class_name k ++ rest) → bytes ≡ class_name k ++ rest
    go None e h again = again h
    go (Some more) e h again =
        let p = some_inj (c, more) (k, rest) h in
        after_is (class_name c) bytes more e ∙ ap (λ q. class_name q.0 ++ q.1) p

text_is : (k : Class) → class_text k ≡ 91 ∷ 58 ∷ class_name k
text_is Alpha = refl
text_is Digit = refl
text_is Alnum = refl
text_is Upper = refl
text_is Lower = refl
text_is Space = refl
text_is Blank = refl
text_is Punct = refl
text_is Print = refl
text_is Graph = refl
text_is Control = refl
text_is HexDigit = refl

pub class_is : (bytes rest : List ℕ) (i : BracketItem) → class_at bytes ≡ Some (i, rest) → (k : Class) × (91 ∷ 58 ∷ bytes ≡ class_text k ++ rest) × (i ≡ item.Class k)
unfolding class_at
class_is bytes rest i h = go (class_among all_classes bytes) refl h
  where
    go : (o : Option (Class × List ℕ)) → class_among all_classes bytes ≡ o → class_item o ≡ Some (i, rest) → (k : Class) × (91 ∷ 58 ∷ bytes ≡ class_text k ++ rest) × (i ≡ item.Class k)
    go None e h = absurd cc
    go (Some x) e h =
        let p = some_inj (item.Class x.0, x.1) (i, rest) h in
        let text = among_is all_classes bytes x.0 x.1 e in
        (x.0, ap (λ l. 91 ∷ 58 ∷ l) (text ∙ ap (λ l. class_name x.0 ++ l) (ap (λ q. q.1) p)) ∙ ap (λ l. l ++ rest) (sym (text_is x.0)), sym (ap (λ q. q.0) p))

named : (k : Class) (rest : List ℕ) → class_among all_classes (class_name k ++ rest) ≡ Some (k, rest)
named Alpha rest = refl
named Digit rest = refl
named Alnum rest = refl
named Upper rest = refl
named Lower rest = refl
named Space rest = refl
named Blank rest = refl
named Punct rest = refl
named Print rest = refl
named Graph rest = refl
named Control rest = refl
named HexDigit rest = refl

class_read : (first : Bool) (k : Class) (rest : List ℕ) → item_at first (91 ∷ 58 ∷ (class_name k ++ rest)) ≡ Some (item.Class k, rest)
unfolding item_at class_at
class_read first k rest = ap class_item (named k rest)

-- ---- points

pub point_is : (bytes rest : List ℕ) (byte : ℕ) → point_at bytes ≡ Some (byte, rest) → IsPoint bytes byte rest
unfolding point_at
point_is [] rest byte h = absurd cc
point_is (c ∷ more) rest byte h = go (eqb c 92) refl h
  where
    plain : c ≢ 92 → (b : Bool) → ((c == 91) && opens more) ≡ b → cond {A = Option (ℕ × List ℕ)} b None (Some (c, more)) ≡ Some (byte, rest) → IsPoint (c ∷ more) byte rest
    plain n true e h = absurd cc
    plain n false e h =
        let p = some_inj (c, more) (byte, rest) h in
        let P : ℕ × List ℕ → Type 0 = λ q. (c ∷ more ≡ q.0 ∷ q.1) × (q.0 ≢ 92) × (q.0 ≡ 91 → opens q.1 ≡ false) in
        inr (subst P p (refl, n, λ is. sym (ap (λ v. v && opens more) (eq-eqb c 91 is)) ∙ e))

    go : (b : Bool) → eqb c 92 ≡ b → cond {A = Option (ℕ × List ℕ)} b (escape_at more) (cond {A = Option (ℕ × List ℕ)} ((c == 91) && opens more) None (Some (c, more))) ≡ Some (byte, rest) → IsPoint (c ∷ more) byte rest
    go true e h = inl (more, ap (λ x. x ∷ more) (eqb-true c 92 e), escape_is more rest byte h)
    go false e h = plain (not_byte c 92 e) ((c == 91) && opens more) refl h

pub point_read : (bytes rest : List ℕ) (byte : ℕ) → IsPoint bytes byte rest → point_at bytes ≡ Some (byte, rest)
unfolding point_at
point_read bytes rest byte (inl h) = rw h.1 (escape_read h.0 rest byte h.2)
point_read bytes rest byte (inr h) = rw (h.0, other_byte byte 92 h.1) (go (eqb byte 91) refl)
  where
    go : (b : Bool) → eqb byte 91 ≡ b → cond {A = Option (ℕ × List ℕ)} (b && opens rest) None (Some (byte, rest)) ≡ Some (byte, rest)
    go true e = rw (h.2 (eqb-true byte 91 e)) refl
    go false e = refl

-- a point is more than nothing, and no class
pub point_some : (bytes rest : List ℕ) (byte : ℕ) → IsPoint bytes byte rest → (c : ℕ) × (more : List ℕ) × (bytes ≡ c ∷ more) × (((c == 91) && begins 58 more) ≡ false)
point_some bytes rest byte (inl h) = (92, h.0, h.1, refl)
point_some bytes rest byte (inr h) = (byte, rest, h.0, go (eqb byte 91) refl)
  where
    left : (a b : Bool) → (a || b) ≡ false → a ≡ false
    left true b e = e
    left false b e = refl

    go : (b : Bool) → eqb byte 91 ≡ b → (b && begins 58 rest) ≡ false
    go true e = left (begins 58 rest) (begins 46 rest) (left (begins 58 rest || begins 46 rest) (begins 61 rest) (h.2 (eqb-true byte 91 e)))
    go false e = refl

-- ---- ranges

-- no `-` goes on
ends_here : (bytes : List ℕ) → goes_on bytes ≡ false → (more : List ℕ) → bytes ≡ 45 ∷ more → begins 93 more ≡ true
ends_here bytes h more e = go (begins 93 more) refl
  where
    go : (b : Bool) → begins 93 more ≡ b → begins 93 more ≡ true
    go true is = is
    go false is = let on : goes_on (45 ∷ more) ≡ true = rw is refl in absurd (let same = ap goes_on e in cc)

stays : (bytes : List ℕ) → ((more : List ℕ) → bytes ≡ 45 ∷ more → begins 93 more ≡ true) → goes_on bytes ≡ false
stays [] h = refl
stays (c ∷ more) h = go (eqb c 45) refl
  where
    go : (b : Bool) → eqb c 45 ≡ b → (b && not (begins 93 more)) ≡ false
    go true e = rw (h more (ap (λ x. x ∷ more) (eqb-true c 45 e))) refl
    go false e = refl

pub on_is : (bytes : List ℕ) → goes_on bytes ≡ true → (more : List ℕ) × (bytes ≡ 45 ∷ more) × (begins 93 more ≡ false)
on_is [] h = absurd cc
on_is (c ∷ more) h = let p = and_parts (eqb c 45) (not (begins 93 more)) h in (more, ap (λ x. x ∷ more) (eqb-true c 45 p.0), flip (begins 93 more) p.1)
  where
    flip : (b : Bool) → not b ≡ true → b ≡ false
    flip true h = sym h
    flip false h = refl

range_is : (low : ℕ) (more rest : List ℕ) (i : BracketItem) → range_to low (point_at more) ≡ Some (i, rest) → (high : ℕ) × IsPoint more high rest × (low ≤ high) × (i ≡ item.Range low high)
range_is low more rest i h = go (point_at more) refl h
  where
    go : (o : Option (ℕ × List ℕ)) → point_at more ≡ o → range_to low o ≡ Some (i, rest) → (high : ℕ) × IsPoint more high rest × (low ≤ high) × (i ≡ item.Range low high)
    go None e h = absurd cc
    go (Some x) e h = rising (leb low x.0) refl h
      where
        rising : (b : Bool) → leb low x.0 ≡ b → cond {A = Option (BracketItem × List ℕ)} b (Some (item.Range low x.0, x.1)) None ≡ Some (i, rest) → (high : ℕ) × IsPoint more high rest × (low ≤ high) × (i ≡ item.Range low high)
        rising true le h =
            let p = some_inj (item.Range low x.0, x.1) (i, rest) h in
            (x.0, subst (IsPoint more x.0) (ap (λ q. q.1) p) (point_is more x.1 x.0 e), leb-true low x.0 le, sym (ap (λ q. q.0) p))
        rising false le h = absurd cc

from_is : (bytes rest : List ℕ) (i : BracketItem) → from_point (point_at bytes) ≡ Some (i, rest) → (low : ℕ) × (more : List ℕ) × IsPoint bytes low more × GoesTo low more i rest
from_is bytes rest i h = go (point_at bytes) refl h
  where
    go : (o : Option (ℕ × List ℕ)) → point_at bytes ≡ o → from_point o ≡ Some (i, rest) → (low : ℕ) × (more : List ℕ) × IsPoint bytes low more × GoesTo low more i rest
    go None e h = absurd cc
    go (Some x) e h = (x.0, x.1, point_is bytes x.1 x.0 e, on (goes_on x.1) refl h)
      where
        on : (b : Bool) → goes_on x.1 ≡ b → cond {A = Option (BracketItem × List ℕ)} b (range_to x.0 (point_at (drop 1 x.1))) (Some (item.Range x.0 x.0, x.1)) ≡ Some (i, rest) → GoesTo x.0 x.1 i rest
        on true is h =
            let o = on_is x.1 is in
            let r = range_is x.0 o.0 rest i (ap (λ l. range_to x.0 (point_at (drop 1 l))) (sym o.1) ∙ h) in
            inl (r.0, o.0, o.1, o.2, r.1, r.2, r.3)
        on false is h =
            let p = some_inj (item.Range x.0 x.0, x.1) (i, rest) h in
            inr (ends_here x.1 is, sym (ap (λ q. q.1) p), sym (ap (λ q. q.0) p))

from_read : (bytes rest : List ℕ) (i : BracketItem) (low : ℕ) (more : List ℕ) → IsPoint bytes low more → GoesTo low more i rest → from_point (point_at bytes) ≡ Some (i, rest)
from_read bytes rest i low more p (inl h) =
    let on : goes_on (45 ∷ h.1) ≡ true = rw h.3 refl in
    let from : from_point (Some (low, more)) ≡ range_to low (point_at h.1) = rw (h.2, h.3) refl in
    let to : range_to low (Some (h.0, rest)) ≡ Some (item.Range low h.0, rest) = rw (le-leb low h.0 h.5) refl in
    ap from_point (point_read bytes more low p) ∙ from ∙ ap (range_to low) (point_read h.1 rest h.0 h.4) ∙ to ∙ ap (λ x. Some (x, rest)) (sym h.6)
from_read bytes rest i low more p (inr h) =
    let from : from_point (Some (low, more)) ≡ Some (item.Range low low, more) = rw (stays more h.0) refl in
    ap from_point (point_read bytes more low p) ∙ from ∙ ap (λ x. Some (x, more)) (sym h.2) ∙ ap (λ l. Some (i, l)) (sym h.1)

-- ---- items

pub item_is : (first : Bool) (bytes rest : List ℕ) (i : BracketItem) → item_at first bytes ≡ Some (i, rest) → IsItem first bytes i rest
unfolding item_at
item_is first [] rest i h = absurd cc
item_is first (c ∷ more) rest i h = go ((c == 91) && begins 58 more) refl h
  where
    dash : (b : Bool) → begins 93 more ≡ b → c ≡ 45 → first ≡ false → cond {A = Option (BracketItem × List ℕ)} b (Some (item.Range 45 45, more)) None ≡ Some (i, rest) → IsItem first (c ∷ more) i rest
    dash true e is other h =
        let p = some_inj (item.Range 45 45, more) (i, rest) h in
        let tail = ap (λ q. q.1) p in
        inr (inl (other, ap (λ x. x ∷ more) is ∙ ap (λ l. 45 ∷ l) tail, ap (begins 93) (sym tail) ∙ e, sym (ap (λ q. q.0) p)))
    dash false e is other h = absurd cc

    free : (a b : Bool) → eqb c 45 ≡ a → first ≡ b → (a && not b) ≡ false → (first ≡ true) ⊎ (eqb c 45 ≡ false)
    free a true e f h = inl f
    free false false e f h = inr e
    free true false e f h = absurd cc

    flip : (b : Bool) → not b ≡ true → b ≡ false
    flip true h = sym h
    flip false h = refl

    point : (b : Bool) → ((c == 45) && not first) ≡ b → cond {A = Option (BracketItem × List ℕ)} b (last_dash more) (from_point (point_at (c ∷ more))) ≡ Some (i, rest) → IsItem first (c ∷ more) i rest
    point true e h = let p = and_parts (eqb c 45) (not first) e in dash (begins 93 more) refl (eqb-true c 45 p.0) (flip first p.1) h
    point false e h = let f = from_is (c ∷ more) rest i h in inr (inr (free (eqb c 45) first refl refl e, f.0, f.1, f.2, f.3))

    go : (b : Bool) → ((c == 91) && begins 58 more) ≡ b → cond {A = Option (BracketItem × List ℕ)} b (class_at (drop 1 more)) (cond {A = Option (BracketItem × List ℕ)} ((c == 45) && not first) (last_dash more) (from_point (point_at (c ∷ more)))) ≡ Some (i, rest) → IsItem first (c ∷ more) i rest
    go true e h =
        let p = and_parts (eqb c 91) (begins 58 more) e in
        let m = begins_with 58 more p.1 in
        let k = class_is m.0 rest i (ap (λ l. class_at (drop 1 l)) (sym m.1) ∙ h) in
        inl (k.0, ap (λ x. x ∷ more) (eqb-true c 91 p.0) ∙ ap (λ l. 91 ∷ l) m.1 ∙ k.1, k.2)
    go false e h = point ((c == 45) && not first) refl h

pub point_item : (first : Bool) (c : ℕ) (more : List ℕ) → ((c == 91) && begins 58 more) ≡ false → ((c == 45) && not first) ≡ false → item_at first (c ∷ more) ≡ from_point (point_at (c ∷ more))
unfolding item_at
point_item first c more h k = rw (h, k) refl

dash_item : (rest : List ℕ) → begins 93 rest ≡ true → item_at false (45 ∷ rest) ≡ Some (item.Range 45 45, rest)
unfolding item_at
dash_item rest h = rw h refl

pub item_read : (first : Bool) (bytes rest : List ℕ) (i : BracketItem) → IsItem first bytes i rest → item_at first bytes ≡ Some (i, rest)
item_read first bytes rest i (inl h) =
    ap (item_at first) (h.1 ∙ ap (λ l. l ++ rest) (text_is h.0)) ∙ class_read first h.0 rest ∙ ap (λ x. Some (x, rest)) (sym h.2)
item_read first bytes rest i (inr (inl h)) = rw (h.0, h.1) (dash_item rest h.2 ∙ ap (λ x. Some (x, rest)) (sym h.3))
item_read first bytes rest i (inr (inr h)) =
    let s = point_some bytes h.2 h.1 h.3 in
    ap (item_at first) s.2 ∙ point_item first s.0 s.1 s.3 (dash h.0 s.0 s.1 s.2) ∙ ap (λ l. from_point (point_at l)) (sym s.2) ∙ from_read bytes rest i h.1 h.2 h.3 h.4
  where
    dash : ((first ≡ true) ⊎ (begins 45 bytes ≡ false)) → (c : ℕ) (more : List ℕ) → bytes ≡ c ∷ more → ((c == 45) && not first) ≡ false
    dash (inl f) c more e = rw f (never (eqb c 45))
      where
        never : (b : Bool) → (b && not true) ≡ false
        never true = refl
        never false = refl
    dash (inr f) c more e = let other : eqb c 45 ≡ false = ap (begins 45) (sym e) ∙ f in rw other refl
