-- What a value stands for, byte by byte.
use Rattle.std.proofs.Common.{◌≡◌, ℕ, zero, suc, ◌-◌, ◌≤◌, [], ◌∷◌, ◌++◌, drop, Option, Some, None, refl, sym, ◌∙◌, ap, arith, append_assoc, append-nil}
use Rattle.std.specs.Option.{option_map}
use Rattle.pawk_lex.specs.Bytes.{Text}
use Rattle.pawk_settings.specs.Escapes.{value_byte, value_from, value_text, before_rest}

behind : (n : ℕ) (z : Text) → value_from n z ≡ value_text (drop n z)
behind zero [] = refl
behind zero (b ∷ z) = refl
behind (suc n) [] = refl
behind (suc n) (b ∷ z) = behind n z

pub next_byte : (text : Text) (byte length : ℕ) → value_byte text ≡ Some (byte, length) → 1 ≤ length →
    value_text text ≡ option_map (λ z. byte ∷ z) (value_text (drop length text))
unfolding value_byte
next_byte [] byte length e h = cc
next_byte (b ∷ z) byte zero e h = absurd (omega (arith, h))
next_byte (b ∷ z) byte (suc length) e h =
    let less : suc length - 1 ≡ length = omega arith in
    ap (before_rest (λ n. value_from n z)) e ∙ ap (option_map (λ y. byte ∷ y)) (ap (λ n. value_from n z) less ∙ behind length z)

join_by : (front : Text) (byte : ℕ) (o : Option Text) →
    option_map (λ z. front ++ z) (option_map (λ z. byte ∷ z) o) ≡ option_map (λ z. (front ++ byte ∷ []) ++ z) o
join_by front byte None = refl
join_by front byte (Some z) = ap Some (sym (append_assoc front (byte ∷ []) z))

pub one_more_byte : (all front more text : Text) (byte length : ℕ) → value_byte text ≡ Some (byte, length) → 1 ≤ length → more ≡ front ++ byte ∷ [] →
    value_text all ≡ option_map (λ z. front ++ z) (value_text text) → value_text all ≡ option_map (λ z. more ++ z) (value_text (drop length text))
one_more_byte all front more text byte length e h pushed so_far =
    so_far ∙ ap (option_map (λ z. front ++ z)) (next_byte text byte length e h) ∙ join_by front byte (value_text (drop length text))
    ∙ ap (λ start. option_map (λ z. start ++ z) (value_text (drop length text))) (sym pushed)

same_map : (o : Option Text) → o ≡ option_map (λ z. [] ++ z) o
same_map None = refl
same_map (Some z) = refl

pub at_begin : (all : Text) → value_text all ≡ option_map (λ z. [] ++ z) (value_text all)
at_begin all = same_map (value_text all)

pub at_end : (all front text : Text) → text ≡ [] → value_text all ≡ option_map (λ z. front ++ z) (value_text text) → value_text all ≡ Some front
at_end all front text e so_far = so_far ∙ ap (λ t. option_map (λ z. front ++ z) (value_text t)) e ∙ ap Some (append-nil front)

pub no_byte : (all front text : Text) → value_byte text ≡ None → (text ≡ [] → ⊥) → value_text all ≡ option_map (λ z. front ++ z) (value_text text) → value_text all ≡ None
no_byte all front [] e h so_far = absurd (h refl)
no_byte all front (b ∷ z) e h so_far = so_far ∙ ap (λ o. option_map (λ y. front ++ y) (before_rest (λ n. value_from n z) o)) e
