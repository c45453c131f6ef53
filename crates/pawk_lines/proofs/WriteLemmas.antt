-- What is appended in turn.
use Rattle.std.proofs.Common.{◌≡◌, ℕ, List, [], ◌++◌, Result, Ok, Err, OnOk, sym, ap, ◌∙◌, append_assoc}
use Rattle.std.proofs.lemmas.List.{append-nil}

-- four texts, of which the last one may be cut off
pub four_written : {T E : Type 0} (result : Result T E) (old a b c new n x y z : List ℕ) → a ≡ old ++ n → b ≡ a ++ x → c ≡ b ++ y → OnOk result (new ≡ c ++ z) → OnOk result (new ≡ old ++ (n ++ (x ++ (y ++ (z ++ [])))))
four_written (Ok t) old a b c new n x y z e f g h =
    h ∙ ap (λ l. l ++ z) (g ∙ ap (λ l. l ++ y) (f ∙ ap (λ l. l ++ x) e))
    ∙ append_assoc ((old ++ n) ++ x) y z ∙ append_assoc (old ++ n) x (y ++ z) ∙ append_assoc old n (x ++ (y ++ z))
    ∙ ap (λ l. old ++ (n ++ (x ++ (y ++ l)))) (sym (append-nil z))
four_written (Err e) old a b c new n x y z p f g h = tt
