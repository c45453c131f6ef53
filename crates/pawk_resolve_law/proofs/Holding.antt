-- What the tables of a program hold, and what they do not.
use Rattle.std.proofs.Common.{◌≡◌, Bool, true, false, ◌&&◌, ◌||◌, List, [], refl, sym, ◌∙◌, ◌⊎◌, inl, inr}
use Rattle.std.specs.Prelude.{filter}
use Rattle.std.specs.List.{flat_map}
use Rattle.pawk_lex.specs.Bytes.{Text}
use Rattle.pawk_lex.specs.Vocabulary.{is_among}
use Rattle.pawk_syntax_tree.specs.Item.{Part}
use Rattle.pawk_syntax_check.specs.Demands.{Kinds}
use Rattle.pawk_syntax_grammar.specs.Expressions.{eres_of_program}
use Rattle.pawk_code.specs.FirstSlots.{first_scalars}
use Rattle.pawk_resolve.specs.Slots.{with_texts}
use Rattle.pawk_resolve.specs.ResolvedPrograms.{global_names, is_global_array, is_global_scalar}
use Rattle.pawk_resolve_law.specs.Programs.{names_of}
use Rattle.pawk_resolve_law.proofs.Entries.{In, in_place, place_in, in_filter, filter_in, in_old, in_new, in_some, among_is}
use Rattle.pawk_resolve_law.proofs.KnownNames.{both_of}

among_in : (xs : List Text) (x : Text) → is_among xs x ≡ true → In xs x
among_in xs x h = place_in xs x (sym (among_is xs x) ∙ h)

in_among : (xs : List Text) (x : Text) → In xs x → is_among xs x ≡ true
in_among xs x h = among_is xs x ∙ in_place xs x h

same : (a d : Bool) → (a ≡ true → d ≡ true) → (d ≡ true → a ≡ true) → a ≡ d
same true d f g = sym (f refl)
same false true f g = g refl
same false false f g = refl

either_of : (a d : Bool) → (a || d) ≡ true → (a ≡ true) ⊎ (d ≡ true)
either_of true d h = inl refl
either_of false d h = inr h

left_or : (a d : Bool) → a ≡ true → (a || d) ≡ true
left_or a d h = rw h refl

right_or : (a d : Bool) → d ≡ true → (a || d) ≡ true
right_or true d h = refl
right_or false d h = h

both_and : (a d : Bool) → a ≡ true → d ≡ true → (a && d) ≡ true
both_and a d h k = rw (h, k) refl

-- a table that begins so, and into which come those of some names that pass a test
held : (f : Text → Bool) (ys xs : List Text) (x : Text) →
    is_among (with_texts ys (filter f xs)) x ≡ (is_among ys x || (is_among xs x && f x))
held f ys xs x =
    let whole = with_texts ys (filter f xs) in
    same (is_among whole x) (is_among ys x || (is_among xs x && f x))
    (λ h. elim (in_some ys (filter f xs) x (among_in whole x h)) [
      | inl i ↦ left_or (is_among ys x) (is_among xs x && f x) (in_among ys x i)
      | inr i ↦
          let kept = filter_in f xs x i in
          right_or (is_among ys x) (is_among xs x && f x) (both_and (is_among xs x) (f x) (in_among xs x kept.0) kept.1)
    ])
    (λ h. in_among whole x (elim (either_of (is_among ys x) (is_among xs x && f x) h) [
      | inl i ↦ in_old ys (filter f xs) x (among_in ys x i)
      | inr i ↦
          let kept = both_of (is_among xs x) (f x) i in
          in_new ys (filter f xs) x (in_filter f xs x (among_in xs x kept.0) kept.1)
    ]))

pub scalars_held : (k : Kinds) (ps : List Part) (x : Text) →
    is_among (names_of k ps).scalars x ≡ (is_among first_scalars x || (is_among (flat_map global_names ps) x && is_global_scalar k x))
scalars_held k ps x = held (is_global_scalar k) first_scalars (flat_map global_names ps) x

pub arrays_held : (k : Kinds) (ps : List Part) (x : Text) →
    is_among (names_of k ps).arrays x ≡ (is_among (flat_map global_names ps) x && is_global_array k x)
arrays_held k ps x = held (is_global_array k) [] (flat_map global_names ps) x

pub expressions_held : (k : Kinds) (ps : List Part) (x : Text) → is_among (names_of k ps).expressions x ≡ is_among (eres_of_program ps) x
expressions_held k ps x =
    let whole = with_texts [] (eres_of_program ps) in
    same (is_among whole x) (is_among (eres_of_program ps) x)
    (λ h. elim (in_some [] (eres_of_program ps) x (among_in whole x h)) [
      | inl i ↦ absurd i
      | inr i ↦ in_among (eres_of_program ps) x i
    ])
    (λ h. in_among whole x (in_new [] (eres_of_program ps) x (among_in (eres_of_program ps) x h)))
