-- The first look goes wrong only where the builder does.
use Rattle.std.proofs.Common.{◌≡◌, ℕ, suc, ◌+◌, ◌-◌, ◌⊎◌, Bool, true, false, cond, eqb, eqb-true, Option, Some, None, List, [], ◌∷◌, length, refl, sym, ap, ◌∙◌, inl, inr, ⊎_elim, arith}
use Rattle.pawk_ere_syntax.specs.declared.token.EreToken.{EreToken}
use Rattle.pawk_ere_syntax.specs.declared.token.EreToken.TheVariants.{Leaf, Times, Bar, Open, Close, Caret, Dollar}
use Rattle.pawk_ere_syntax.specs.declared.shape.Last.TheVariants.{Nothing, Repeatable}
use Rattle.pawk_ere_syntax.specs.declared.shape.Shape.{Shape}
use Rattle.pawk_ere_syntax.specs.Pattern.{Pattern, Empty, Start, End, Bytes, Group, Repeat, Sequence, Either}
use Rattle.pawk_ere_syntax.specs.Machine.{Alternation, Builder, nothing, branch_with, or_else, whole, put, after_bar, after_close, with_piece, step, if_outermost, finish, start}
use Rattle.pawk_ere_syntax.specs.Shape.{last_of, shape_of, if_something, shape_after}
use Rattle.pawk_ere_syntax.specs.Grammar.{IsSound}
use Rattle.pawk_ere_syntax.specs.Tokens.{SpellsEre, HasForm, token_at}
use Rattle.pawk_ere_syntax.proofs.Progress.{Progress, progress_start, progress_step, no_step, no_token, none_at_end, form_at_end}
use Rattle.pawk_ere_syntax.proofs.Reading.{some_inj}

-- where the branch has no last piece, it has none
abbrev IsTidy : Alternation → Type 0
IsTidy f = f.piece ≡ None → f.branch ≡ None

-- builder and shape go on together, or both stop
abbrev Outcome : EreToken → Builder → Type 0
Outcome t st = ((step t st ≡ None) × (shape_after t (shape_of st) ≡ None))
    ⊎ ((new : Builder) × (step t st ≡ Some new) × (shape_after t (shape_of st) ≡ Some (shape_of new)) × IsTidy new.here)

something : (p : Pattern) (s : Shape) → if_something (last_of (Some p)) s ≡ Some s
something Empty s = refl
something Start s = refl
something End s = refl
something (Bytes members) s = refl
something (Group a) s = refl
something (Repeat a l m) s = refl
something (Sequence a b) s = refl
something (Either a b) s = refl

times_outcome : (least : ℕ) (most : Option ℕ) (a b p : Option Pattern) (outer : List Alternation) → Outcome (Times least most) (record { here = record { alternatives = a; branch = b; piece = p }; outer = outer })
times_outcome least most a b None outer = inl (refl, refl)
times_outcome least most a b (Some Empty) outer = inl (refl, refl)
times_outcome least most a b (Some Start) outer = inl (refl, refl)
times_outcome least most a b (Some End) outer = inl (refl, refl)
times_outcome least most a b (Some (Bytes members)) outer = inr (record { here = record { alternatives = a; branch = b; piece = Some (Repeat (Bytes members) least most) }; outer = outer }, refl, refl, λ h. cc)
times_outcome least most a b (Some (Group e)) outer = inr (record { here = record { alternatives = a; branch = b; piece = Some (Repeat (Group e) least most) }; outer = outer }, refl, refl, λ h. cc)
times_outcome least most a b (Some (Repeat e l m)) outer = inl (refl, refl)
times_outcome least most a b (Some (Sequence e f)) outer = inl (refl, refl)
times_outcome least most a b (Some (Either e f)) outer = inl (refl, refl)

-- what a branch with a last piece closes to
whole_some : (a b : Option Pattern) (p : Pattern) → (e : Pattern) × (or_else a (branch_with b (Some p)) ≡ Some e)
whole_some None None p = (p, refl)
whole_some None (Some b) p = (Sequence b p, refl)
whole_some (Some a) None p = (Either a p, refl)
whole_some (Some a) (Some b) p = (Either a (Sequence b p), refl)

whole_none : (a b : Option Pattern) → b ≡ None → or_else a (branch_with b None) ≡ None
whole_none a b h = ap (or_else a) h

bar_outcome : (a b p : Option Pattern) (outer : List Alternation) → (p ≡ None → b ≡ None) → Outcome Bar (record { here = record { alternatives = a; branch = b; piece = p }; outer = outer })
bar_outcome a b None outer tidy = inl (ap (after_bar (record { here = record { alternatives = a; branch = b; piece = None }; outer = outer })) (whole_none a b (tidy refl)), refl)
bar_outcome a b (Some p) outer tidy =
    let x = whole_some a b p in
    inr (
      record { here = record { alternatives = Some x.0; branch = None; piece = None }; outer = outer },
      ap (after_bar (record { here = record { alternatives = a; branch = b; piece = Some p }; outer = outer })) x.1,
      something p _,
      λ h. refl,
    )

not_zero : (n : ℕ) → eqb (suc n) 0 ≡ false
not_zero n = go (eqb (suc n) 0) refl
  where
    go : (x : Bool) → eqb (suc n) 0 ≡ x → eqb (suc n) 0 ≡ false
    go true e = let z = eqb-true (suc n) 0 e in absurd (omega arith)
    go false e = e

after_none : (outer : List Alternation) → after_close None outer ≡ None
after_none outer = refl

close_alone : (o : Option Pattern) → after_close o [] ≡ None
close_alone None = refl
close_alone (Some a) = refl

close_shape : (n : ℕ) (p : Pattern) → shape_after Close (record { open_groups = suc n; last = last_of (Some p) }) ≡ Some (record { open_groups = n; last = Repeatable })
close_shape n p =
    let less : suc n - 1 ≡ n = omega arith in
    ap (λ x. cond x None (if_something (last_of (Some p)) (record { open_groups = suc n - 1; last = Repeatable }))) (not_zero n)
    ∙ something p _ ∙ ap (λ k. Some (record { open_groups = k; last = Repeatable })) less

close_shape_none : (n : ℕ) → shape_after Close (record { open_groups = suc n; last = Nothing }) ≡ None
close_shape_none n = ap (λ x. cond x None None) (not_zero n)

close_outcome : (a b p : Option Pattern) (outer : List Alternation) → (p ≡ None → b ≡ None) → Outcome Close (record { here = record { alternatives = a; branch = b; piece = p }; outer = outer })
close_outcome a b p [] tidy = inl (close_alone (or_else a (branch_with b p)), refl)
close_outcome a b None (g ∷ gs) tidy = inl (ap (λ o. after_close o (g ∷ gs)) (whole_none a b (tidy refl)), close_shape_none (length gs))
close_outcome a b (Some p) (g ∷ gs) tidy =
    let x = whole_some a b p in
    inr (record { here = put g (Group x.0); outer = gs }, ap (λ o. after_close o (g ∷ gs)) x.1, close_shape (length gs) p, λ h. cc)

outcome : (t : EreToken) (st : Builder) → IsTidy st.here → Outcome t st
outcome (Leaf set) st tidy = inr (with_piece st (Bytes set.members), refl, refl, λ h. cc)
outcome Caret st tidy = inr (with_piece st Start, refl, refl, λ h. cc)
outcome Dollar st tidy = inr (with_piece st End, refl, refl, λ h. cc)
outcome (Times least most) st tidy = times_outcome least most st.here.alternatives st.here.branch st.here.piece st.outer
outcome Bar st tidy = bar_outcome st.here.alternatives st.here.branch st.here.piece st.outer tidy
outcome Open st tidy =
    let more : length st.outer + 1 ≡ suc (length st.outer) = omega arith in
    inr (record { here = nothing; outer = st.here ∷ st.outer }, refl, ap (λ k. Some (record { open_groups = k; last = Nothing })) more, λ h. refl)
outcome Close st tidy = close_outcome st.here.alternatives st.here.branch st.here.piece st.outer tidy

-- the first look has come as far as a builder would
pub record Looked (bytes rest : List ℕ) (shape : Shape) : Type 0 where
  pub builder : Builder
  pub progress : Progress bytes rest builder
  pub shaped : shape_of builder ≡ shape
  pub tidy : builder.here.piece ≡ None → builder.here.branch ≡ None

pub looked_start : (bytes : List ℕ) → Looked bytes bytes (record { open_groups = 0; last = Nothing })
looked_start bytes = record { builder = start; progress = progress_start bytes; shaped = refl; tidy = λ h. refl }

pub looked_step : (bytes rest more : List ℕ) (shape new : Shape) (t : EreToken) → Looked bytes rest shape → token_at rest ≡ Some (t, more) → IsSound t → shape_after t shape ≡ Some new → Looked bytes more new
looked_step bytes rest more shape new t l h ok go = ⊎_elim
    (λ x. let z : None ≡ Some new = sym x.1 ∙ ap (shape_after t) l.shaped ∙ go in cc)
    (λ x. record {
      builder = x.0;
      progress = progress_step bytes rest more l.builder x.0 t l.progress h ok x.1;
      shaped = some_inj _ _ (sym x.2 ∙ ap (shape_after t) l.shaped ∙ go);
      tidy = x.3;
    })
    (outcome t l.builder l.tidy)

pub looked_stuck : (bytes rest more : List ℕ) (shape : Shape) (t : EreToken) → Looked bytes rest shape → (bytes ≡ [] → ⊥) → token_at rest ≡ Some (t, more) → shape_after t shape ≡ None → (e : Pattern) → SpellsEre bytes e → ⊥
looked_stuck bytes rest more shape t l nonempty h go = ⊎_elim
    (λ x. no_step bytes rest more l.builder t l.progress nonempty h x.0)
    (λ x. let z = sym x.2 ∙ ap (shape_after t) l.shaped ∙ go in cc)
    (outcome t l.builder l.tidy)

pub looked_no_token : (bytes rest : List ℕ) (shape : Shape) → Looked bytes rest shape → (bytes ≡ [] → ⊥) → (rest ≡ [] → ⊥) → token_at rest ≡ None → (e : Pattern) → SpellsEre bytes e → ⊥
looked_no_token bytes rest shape l nonempty more h = no_token bytes rest l.builder l.progress nonempty more h

-- a group is open at the end
pub looked_open : (bytes rest : List ℕ) (shape : Shape) → Looked bytes rest shape → (bytes ≡ [] → ⊥) → rest ≡ [] → (shape.open_groups ≡ 0 → ⊥) → (e : Pattern) → SpellsEre bytes e → ⊥
looked_open bytes rest shape l nonempty over some_open = none_at_end bytes rest l.builder l.progress nonempty over (go l.builder.outer refl)
  where
    go : (outer : List Alternation) → l.builder.outer ≡ outer → if_outermost l.builder.outer (whole l.builder.here) ≡ None
    go [] is = absurd (some_open (ap (λ (s : Shape). s.open_groups) (sym l.shaped) ∙ ap length is))
    go (g ∷ gs) is = ap (λ o. if_outermost o (whole l.builder.here)) is

if_outermost_none : (outer : List Alternation) → if_outermost outer None ≡ None
if_outermost_none [] = refl
if_outermost_none (f ∷ fs) = refl

-- the last alternative is empty
pub looked_nothing : (bytes rest : List ℕ) (shape : Shape) → Looked bytes rest shape → (bytes ≡ [] → ⊥) → rest ≡ [] → shape.last ≡ Nothing → (e : Pattern) → SpellsEre bytes e → ⊥
looked_nothing bytes rest shape l nonempty over nothing' = none_at_end bytes rest l.builder l.progress nonempty over (go l.builder.here.piece refl)
  where
    some_last : (p : Pattern) → last_of (Some p) ≡ Nothing → ⊥
    some_last Empty h = cc
    some_last Start h = cc
    some_last End h = cc
    some_last (Bytes members) h = cc
    some_last (Group a) h = cc
    some_last (Repeat a k m) h = cc
    some_last (Sequence a b) h = cc
    some_last (Either a b) h = cc

    go : (p : Option Pattern) → l.builder.here.piece ≡ p → finish l.builder ≡ None
    go None is =
        ap (λ o. if_outermost l.builder.outer (or_else l.builder.here.alternatives (branch_with l.builder.here.branch o))) is
        ∙ ap (if_outermost l.builder.outer) (whole_none l.builder.here.alternatives l.builder.here.branch (l.tidy is))
        ∙ if_outermost_none l.builder.outer
    go (Some p) is = absurd (some_last p (ap last_of (sym is) ∙ ap (λ (s : Shape). s.last) l.shaped ∙ nothing'))

-- the text is read whole, no group is open, and the last alternative is not empty
pub looked_whole : (bytes rest : List ℕ) (shape : Shape) → Looked bytes rest shape → rest ≡ [] → shape.open_groups ≡ 0 → (shape.last ≡ Nothing → ⊥) → HasForm bytes
looked_whole bytes rest shape l over none_open something' = go l.builder.outer l.builder.here.piece refl refl
  where
    go : (outer : List Alternation) (p : Option Pattern) → l.builder.outer ≡ outer → l.builder.here.piece ≡ p → HasForm bytes
    go (g ∷ gs) p is h =
        let open_groups : length (g ∷ gs) ≡ 0 = ap length (sym is) ∙ ap (λ (s : Shape). s.open_groups) l.shaped ∙ none_open in
        absurd (omega (arith, open_groups))
    go [] None is h = absurd (something' (ap (λ (s : Shape). s.last) (sym l.shaped) ∙ ap last_of h))
    go [] (Some p) is h =
        let x = whole_some l.builder.here.alternatives l.builder.here.branch p in
        form_at_end bytes rest l.builder x.0 l.progress over
        (ap (λ o. if_outermost o (whole l.builder.here)) is
        ∙ ap (λ o. or_else l.builder.here.alternatives (branch_with l.builder.here.branch o)) h ∙ x.1)
