-- A text has one first cause.
use Rattle.std.proofs.Common.{◌≡◌, ℕ, Some, List, [], ◌∷◌, sym, ap, ◌∙◌, subst, ⊎_elim}
use Rattle.pawk_ere_syntax.specs.declared.refusal.EreRefusal.{EreRefusal}
use Rattle.pawk_ere_syntax.specs.declared.shape.Shape.{Shape}
use Rattle.pawk_ere_syntax.specs.declared.token.EreToken.{EreToken}
use Rattle.pawk_ere_syntax.specs.Causes.{IsFirstCause, Reads, StopsAt, opening, step_cause}
use Rattle.pawk_ere_syntax.specs.Shape.{shape_after}
use Rattle.pawk_ere_syntax.specs.Tokens.{token_at}
use Rattle.pawk_ere_syntax.proofs.Progress.{nothing_read}
use Rattle.pawk_ere_syntax.proofs.Reading.{some_inj}

-- where a token is there that is allowed, nothing stops
goes_on : (s : Shape) (bytes more : List ℕ) (next : Shape) (x : EreToken) (why : EreRefusal) → token_at bytes ≡ Some (x, more) → shape_after x s ≡ Some next → StopsAt s bytes why → ⊥
goes_on s bytes more next x why h k stops = ⊎_elim
    (λ a. let z = sym a.1 ∙ h in cc)
    (λ b. ⊎_elim
    (λ c.
    let same = some_inj (c.0, c.1) (x, more) (sym c.2 ∙ h) in
    let first : c.0 ≡ x = ap (λ p. p.0) same in
    let z = sym c.3 ∙ ap (λ t. shape_after t s) first ∙ k in cc)
    (λ d. nothing_read (x, more) (ap token_at (sym d.0) ∙ h)) b) stops

-- at one place there is one cause
stops_one : (s : Shape) (bytes : List ℕ) (a b : EreRefusal) → StopsAt s bytes a → StopsAt s bytes b → a ≡ b
stops_one s bytes a b x y = ⊎_elim
    (λ u. ⊎_elim
    (λ v. u.2 ∙ sym v.2)
    (λ v. ⊎_elim (λ w. let z = sym u.1 ∙ w.2 in cc) (λ w. absurd (u.0 w.0)) v) y)
    (λ u. ⊎_elim
    (λ p. ⊎_elim
    (λ v. let z = sym v.1 ∙ p.2 in cc)
    (λ v. ⊎_elim
    (λ w.
    let same = some_inj (p.0, p.1) (w.0, w.1) (sym p.2 ∙ w.2) in
    let first : p.0 ≡ w.0 = ap (λ q. q.0) same in
    p.4 ∙ ap (λ t. step_cause t s) first ∙ sym w.4)
    (λ w. absurd (nothing_read (p.0, p.1) (ap token_at (sym w.0) ∙ p.2))) v) y)
    (λ p. ⊎_elim
    (λ v. absurd (v.0 p.0))
    (λ v. ⊎_elim
    (λ w. absurd (nothing_read (w.0, w.1) (ap token_at (sym p.0) ∙ w.2)))
    (λ w. some_inj a b (sym p.1 ∙ w.1)) v) y) u) x

one_place : (bytes : List ℕ) (s : Shape) (ts us : List EreToken) (r q : List ℕ) (t v : Shape) (a b : EreRefusal) → Reads bytes s ts r t → Reads bytes s us q v → StopsAt t r a → StopsAt v q b → a ≡ b
one_place bytes s [] [] r q t v a b x y m n =
    let here : StopsAt s bytes a = subst (λ l. StopsAt s l a) (sym x.0) (subst (λ k. StopsAt k r a) (sym x.1) m) in
    let there : StopsAt s bytes b = subst (λ l. StopsAt s l b) (sym y.0) (subst (λ k. StopsAt k q b) (sym y.1) n) in
    stops_one s bytes a b here there
one_place bytes s [] (u ∷ us) r q t v a b x y m n =
    let here : StopsAt s bytes a = subst (λ l. StopsAt s l a) (sym x.0) (subst (λ k. StopsAt k r a) (sym x.1) m) in
    absurd (goes_on s bytes y.0 y.1 u a y.2 y.3 here)
one_place bytes s (p ∷ ps) [] r q t v a b x y m n =
    let there : StopsAt s bytes b = subst (λ l. StopsAt s l b) (sym y.0) (subst (λ k. StopsAt k q b) (sym y.1) n) in
    absurd (goes_on s bytes x.0 x.1 p b x.2 x.3 there)
one_place bytes s (p ∷ ps) (u ∷ us) r q t v a b x y m n =
    let same = some_inj (p, x.0) (u, y.0) (sym x.2 ∙ y.2) in
    let first : p ≡ u = ap (λ w. w.0) same in
    let rest : x.0 ≡ y.0 = ap (λ w. w.1) same in
    let next : x.1 ≡ y.1 = some_inj x.1 y.1 (sym x.3 ∙ ap (λ w. shape_after w s) first ∙ y.3) in
    one_place y.0 y.1 ps us r q t v a b (subst (λ l. Reads l y.1 ps r t) rest (subst (λ k. Reads x.0 k ps r t) next x.4)) y.4 m n

pub one_cause : (bytes : List ℕ) (a b : EreRefusal) → IsFirstCause bytes a → IsFirstCause bytes b → a ≡ b
one_cause bytes a b x y = one_place bytes opening x.tokens y.tokens x.rest y.rest x.shape y.shape a b x.reads y.reads x.stops y.stops
