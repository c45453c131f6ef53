-- Reading a text, token by token.
use Rattle.std.proofs.Common.{◌≡◌, ℕ, ◌+◌, ◌<◌, ◌≤◌, arith, Option, Some, None, List, [], ◌∷◌, ◌++◌, refl, sym, ap, ◌∙◌, subst, inr, ⊎_elim, append_assoc, append-nil}
use Rattle.pawk_ere_syntax.specs.declared.token.EreToken.{EreToken}
use Rattle.pawk_ere_syntax.specs.Pattern.{Pattern, Empty}
use Rattle.pawk_ere_syntax.specs.Grammar.{Alt, Derives, tokens_of, size, IsSound, AreSound}
use Rattle.pawk_ere_syntax.specs.Machine.{Builder, step, finish, then_run, run, start, weight, gain}
use Rattle.pawk_ere_syntax.proofs.Weights.{weight_run, weight_step, finish_size}
use Rattle.pawk_ere_syntax.specs.Tokens.{token_at, Lexes, SpellsEre, HasForm, IsTooLarge}
use Rattle.pawk_ere_syntax.proofs.Reading.{run-tokens_of, run-is_tokens_of, some_inj}

pub nothing_read : (x : EreToken × List ℕ) → token_at [] ≡ Some x → ⊥
unfolding token_at
nothing_read x h = cc

-- the tokens of a text are its only ones
lexes_one : (bytes : List ℕ) (ts us : List EreToken) → Lexes bytes ts → Lexes bytes us → ts ≡ us
lexes_one bytes [] [] x y = refl
lexes_one bytes [] (u ∷ us) x y = absurd (nothing_read (u, y.0) (ap token_at (sym x) ∙ y.1))
lexes_one bytes (t ∷ ts) [] x y = absurd (nothing_read (t, x.0) (ap token_at (sym y) ∙ x.1))
lexes_one bytes (t ∷ ts) (u ∷ us) x y =
    let same = some_inj (t, x.0) (u, y.0) (sym x.1 ∙ y.1) in
    let first : t ≡ u = ap (λ p. p.0) same in
    let rest : x.0 ≡ y.0 = ap (λ p. p.1) same in
    ap (λ v. v ∷ ts) first ∙ ap (λ vs. u ∷ vs) (lexes_one y.0 ts us (subst (λ b. Lexes b ts) rest x.2) y.2)

-- what has been read: these tokens, and the builder that they lead to
pub record Progress (bytes rest : List ℕ) (st : Builder) : Type 0 where
  pub read : List EreToken
  pub sound : AreSound read
  pub onto : (ts : List EreToken) → Lexes rest ts → Lexes bytes (read ++ ts)
  pub back : (us : List EreToken) → Lexes bytes us → (ts : List EreToken) × Lexes rest ts × (us ≡ read ++ ts)
  pub same : (ts : List EreToken) → run (read ++ ts) start ≡ run ts st

pub progress_start : (bytes : List ℕ) → Progress bytes bytes start
progress_start bytes = record {
  read = [];
  sound = tt;
  onto = λ ts l. l;
  back = λ us l. (us, l, refl);
  same = λ ts. refl;
}

sound_push : (ts : List EreToken) (t : EreToken) → AreSound ts → IsSound t → AreSound (ts ++ t ∷ [])
sound_push [] t x y = (y, tt)
sound_push (u ∷ us) t x y = (x.0, sound_push us t x.1 y)

-- what lexes as nothing is nothing, and what begins with a token goes on after it
behind : (rest more : List ℕ) (t : EreToken) (ts : List EreToken) → token_at rest ≡ Some (t, more) → Lexes rest ts → (us : List EreToken) × Lexes more us × (ts ≡ t ∷ us)
behind rest more t [] h l = absurd (nothing_read (t, more) (ap token_at (sym l) ∙ h))
behind rest more t (u ∷ us) h l =
    let same = some_inj (u, l.0) (t, more) (sym l.1 ∙ h) in
    (us, subst (λ b. Lexes b us) (ap (λ p. p.1) same) l.2, ap (λ p. p.0 ∷ us) same)

pub progress_step : (bytes rest more : List ℕ) (st new : Builder) (t : EreToken) → Progress bytes rest st → token_at rest ≡ Some (t, more) → IsSound t → step t st ≡ Some new → Progress bytes more new
progress_step bytes rest more st new t p h ok go = record {
  read = p.read ++ t ∷ [];
  sound = sound_push p.read t p.sound ok;
  onto = λ ts l. subst (λ us. Lexes bytes us) (sym (append_assoc p.read (t ∷ []) ts)) (p.onto (t ∷ ts) (more, h, l));
  back = λ us l.
      let x = p.back us l in
      let y = behind rest more t x.0 h x.1 in
      (y.0, y.1, x.2 ∙ ap (λ vs. p.read ++ vs) y.2 ∙ sym (append_assoc p.read (t ∷ []) y.0));
  same = λ ts. ap (λ us. run us start) (append_assoc p.read (t ∷ []) ts) ∙ p.same (t ∷ ts) ∙ ap (then_run (run ts)) go;
}

-- the tokens that are left of an expression, and what the builder makes of them
left : (bytes rest : List ℕ) (st : Builder) (e : Pattern) → Progress bytes rest st → Lexes bytes (tokens_of e) → Derives Alt e → (ts : List EreToken) × Lexes rest ts × (run ts st ≡ Some e)
left bytes rest st e p l d =
    let x = p.back (tokens_of e) l in
    (x.0, x.1, sym (p.same x.0) ∙ ap (λ us. run us start) (sym x.2) ∙ run-tokens_of e d)

empty_text : (bytes : List ℕ) (e : Pattern) → SpellsEre bytes e → e ≡ Empty → bytes ≡ []
empty_text bytes e s h = subst (λ x. Lexes bytes (tokens_of x)) h s.tokens

-- no token, no expression
pub no_token : (bytes rest : List ℕ) (st : Builder) → Progress bytes rest st → (bytes ≡ [] → ⊥) → (rest ≡ [] → ⊥) → token_at rest ≡ None → (e : Pattern) → SpellsEre bytes e → ⊥
no_token bytes rest st p nonempty more h e s = ⊎_elim
    (λ x. nonempty (empty_text bytes e s x))
    (λ d. let x = left bytes rest st e p s.tokens d in go x.0 x.1) s.form
  where
    go : (ts : List EreToken) → Lexes rest ts → ⊥
    go [] l = more l
    go (t ∷ ts) l = let x = sym h ∙ l.1 in cc

-- no step, no expression
pub no_step : (bytes rest more : List ℕ) (st : Builder) (t : EreToken) → Progress bytes rest st → (bytes ≡ [] → ⊥) → token_at rest ≡ Some (t, more) → step t st ≡ None → (e : Pattern) → SpellsEre bytes e → ⊥
no_step bytes rest more st t p nonempty h stuck e s = ⊎_elim
    (λ x. nonempty (empty_text bytes e s x))
    (λ d.
    let x = left bytes rest st e p s.tokens d in
    let y = behind rest more t x.0 h x.1 in
    let z : then_run (run y.0) None ≡ Some e = ap (then_run (run y.0)) (sym stuck) ∙ ap (λ us. run us st) (sym y.2) ∙ x.2 in
    cc) s.form

-- the end of the text
pub at_end : (bytes : List ℕ) (st : Builder) → Progress bytes [] st → (bytes ≡ [] → ⊥) → (e : Pattern) → SpellsEre bytes e → finish st ≡ Some e
at_end bytes st p nonempty e s = ⊎_elim
    (λ x. absurd (nonempty (empty_text bytes e s x)))
    (λ d. let x = left bytes [] st e p s.tokens d in go x.0 x.1 x.2) s.form
  where
    go : (ts : List EreToken) → Lexes [] ts → run ts st ≡ Some e → finish st ≡ Some e
    go [] l r = r
    go (t ∷ ts) l r = absurd (nothing_read (t, l.0) l.1)

pub spells : (bytes : List ℕ) (st : Builder) (e : Pattern) → Progress bytes [] st → finish st ≡ Some e → size e ≤ 4096 → SpellsEre bytes e
spells bytes st e p h small =
    let all : run (p.read ++ []) start ≡ Some e = p.same [] ∙ h in
    let x = run-is_tokens_of p.read e p.sound (ap (λ us. run us start) (sym (append-nil p.read)) ∙ all) in
    record {
      tokens = subst (λ us. Lexes bytes us) (append-nil p.read ∙ x.1) (p.onto [] refl);
      form = inr x.0;
      small = small;
    }

-- a text spells one expression
pub spells_one : (bytes : List ℕ) (e f : Pattern) → SpellsEre bytes e → SpellsEre bytes f → e ≡ f
spells_one bytes e f x y = ⊎_elim
    (λ a. ⊎_elim (λ b. a ∙ sym b) (λ b. absurd (bad f b (ap run' (sym (lexes_one bytes [] (tokens_of f) (empty_text bytes e x a) y.tokens))))) y.form)
    (λ a. ⊎_elim
    (λ b. absurd (bad e a (ap run' (sym (lexes_one bytes [] (tokens_of e) (empty_text bytes f y b) x.tokens)))))
    (λ b. some_inj e f (sym (run-tokens_of e a) ∙ ap run' (lexes_one bytes (tokens_of e) (tokens_of f) x.tokens y.tokens) ∙ run-tokens_of f b)) y.form) x.form
  where
    run' : List EreToken → Option Pattern
    run' ts = run ts start

    bad : (g : Pattern) → Derives Alt g → run (tokens_of g) start ≡ None → ⊥
    bad g d h = let z = sym h ∙ run-tokens_of g d in cc

-- the same where the rest is known to be empty
pub none_at_end : (bytes rest : List ℕ) (st : Builder) → Progress bytes rest st → (bytes ≡ [] → ⊥) → rest ≡ [] → finish st ≡ None → (e : Pattern) → SpellsEre bytes e → ⊥
none_at_end bytes rest st p nonempty h f e s =
    let x = at_end bytes st (subst (λ r. Progress bytes r st) h p) nonempty e s in
    let y = sym f ∙ x in cc

-- what makes the expression too large is refused before it is read
pub larger : (bytes rest more : List ℕ) (st : Builder) (t : EreToken) → Progress bytes rest st → token_at rest ≡ Some (t, more) → 4096 < weight st + gain t st
    → (e : Pattern) → Lexes bytes (tokens_of e) → Derives Alt e → 4096 < size e
larger bytes rest more st t p h large e l d =
    let x = left bytes rest st e p l d in
    let y = behind rest more t x.0 h x.1 in
    go y.0 (step t st) refl (ap (λ us. run us st) (sym y.2) ∙ x.2)
  where
    go : (us : List EreToken) (o : Option Builder) → step t st ≡ o → then_run (run us) (step t st) ≡ Some e → 4096 < size e
    go us None is r = let z : then_run (run us) None ≡ Some e = ap (then_run (run us)) (sym is) ∙ r in cc
    go us (Some new) is r =
        let z : then_run (run us) (Some new) ≡ Some e = ap (then_run (run us)) (sym is) ∙ r in
        let a = weight_run us new e z in
        let b = weight_step t st new is in
        omega arith

pub too_large : (bytes rest more : List ℕ) (st : Builder) (t : EreToken) → Progress bytes rest st → (bytes ≡ [] → ⊥) → token_at rest ≡ Some (t, more) → 4096 < weight st + gain t st → (e : Pattern) → SpellsEre bytes e → ⊥
too_large bytes rest more st t p nonempty h large e s = ⊎_elim
    (λ x. nonempty (empty_text bytes e s x))
    (λ d. let a = larger bytes rest more st t p h large e s.tokens d in let b = s.small in omega arith) s.form

pub is_too_large : (bytes rest more : List ℕ) (st : Builder) (t : EreToken) → Progress bytes rest st → token_at rest ≡ Some (t, more) → 4096 < weight st + gain t st → HasForm bytes → IsTooLarge bytes
is_too_large bytes rest more st t p h large f = (f.0, f.1, f.2, larger bytes rest more st t p h large f.0 f.1 f.2)

-- what was read to its end has the form of an expression
pub form_at_end : (bytes rest : List ℕ) (st : Builder) (e : Pattern) → Progress bytes rest st → rest ≡ [] → finish st ≡ Some e → HasForm bytes
form_at_end bytes rest st e p over h =
    let q : Progress bytes [] st = subst (λ r. Progress bytes r st) over p in
    let all : run (q.read ++ []) start ≡ Some e = q.same [] ∙ h in
    let x = run-is_tokens_of q.read e q.sound (ap (λ us. run us start) (sym (append-nil q.read)) ∙ all) in
    (e, subst (λ us. Lexes bytes us) (append-nil q.read ∙ x.1) (q.onto [] refl), x.0)

pub spells_at_end : (bytes rest : List ℕ) (st : Builder) (e : Pattern) → Progress bytes rest st → rest ≡ [] → finish st ≡ Some e → weight st ≤ 4096 → SpellsEre bytes e
spells_at_end bytes rest st e p h g small = let x = finish_size st e g in spells bytes st e (subst (λ r. Progress bytes r st) h p) g (omega arith)

-- a text that has the form of an expression has a token next, a step for it, and an expression at its end
pub formed_token : (bytes rest : List ℕ) (st : Builder) → Progress bytes rest st → HasForm bytes → (rest ≡ [] → ⊥) → token_at rest ≡ None → ⊥
formed_token bytes rest st p f more h = let x = left bytes rest st f.0 p f.1 f.2 in go x.0 x.1
  where
    go : (ts : List EreToken) → Lexes rest ts → ⊥
    go [] l = more l
    go (t ∷ ts) l = let x = sym h ∙ l.1 in cc

pub formed_step : (bytes rest more : List ℕ) (st : Builder) (t : EreToken) → Progress bytes rest st → HasForm bytes → token_at rest ≡ Some (t, more) → step t st ≡ None → ⊥
formed_step bytes rest more st t p f h stuck =
    let x = left bytes rest st f.0 p f.1 f.2 in
    let y = behind rest more t x.0 h x.1 in
    let z : then_run (run y.0) None ≡ Some f.0 = ap (then_run (run y.0)) (sym stuck) ∙ ap (λ us. run us st) (sym y.2) ∙ x.2 in
    cc

pub formed_end : (bytes rest : List ℕ) (st : Builder) → Progress bytes rest st → HasForm bytes → rest ≡ [] → finish st ≡ None → ⊥
formed_end bytes rest st p f over h =
    let x = left bytes [] st f.0 (subst (λ r. Progress bytes r st) over p) f.1 f.2 in
    let y = sym h ∙ go x.0 x.1 x.2 in cc
  where
    go : (ts : List EreToken) → Lexes [] ts → run ts st ≡ Some f.0 → finish st ≡ Some f.0
    go [] l r = r
    go (t ∷ ts) l r = absurd (nothing_read (t, l.0) l.1)
