-- Tests of all mentions.
use Rattle.std.proofs.Common.{◌≡◌, ℕ, suc, true, false, Bool, List, [], ◌∷◌, refl, sym, ◌∙◌, Option}
use Rattle.std.specs.Prelude.{◌&&◌}
use Rattle.std.specs.List.{list_all}
use Rattle.pawk_lex.specs.Bytes.{Text}
use Rattle.pawk_syntax_tree.specs.Item.{Part}
use Rattle.pawk_syntax_check.specs.Mentions.{Mention, of_part}
use Rattle.pawk_syntax_check.specs.Functions.{function_of}
use Rattle.pawk_syntax_check.specs.Targets.{is_assignable}
use Rattle.pawk_syntax_check.specs.Calls.{is_call}
use Rattle.pawk_syntax_check.specs.Words.{is_placed}
use Rattle.pawk_syntax_check.specs.Names.{head_fits, heads_fit, is_free}
use Rattle.pawk_syntax_check.specs.Demands.{KindsFit}
use Rattle.pawk_syntax_check.specs.Fits.{every_mention, fits, items_fit, Fits}

and-and : (a b d e : Bool) → ((a && b) && (d && e)) ≡ ((a && d) && (b && e))
and-and true true d e = refl
and-and true false true e = refl
and-and true false false e = refl
and-and false b d e = refl

-- all of two tests is all of each
list_all-and : {X : Type 0} (p q : X → Bool) (xs : List X) → list_all (λ x. p x && q x) xs ≡ (list_all p xs && list_all q xs)
list_all-and p q [] = refl
list_all-and p q (x ∷ xs) = rw (list_all-and p q xs) (and-and (p x) (q x) (list_all p xs) (list_all q xs))

every_mention-and : (p q : Part → Mention → Bool) (ps : List Part) →
    every_mention (λ x m. p x m && q x m) ps ≡ (every_mention p ps && every_mention q ps)
every_mention-and p q [] = refl
every_mention-and p q (x ∷ xs) =
    rw (list_all-and (p x) (q x) (of_part x), every_mention-and p q xs)
    (and-and (list_all (p x) (of_part x)) (list_all (q x) (of_part x)) (every_mention p xs) (every_mention q xs))

pub fits-same : (fs gs : Text → Option (ℕ × List Text)) → ((x : Text) → fs x ≡ gs x) → fs ≡ gs
fits-same fs gs h = λ i x. h x i

items_fit-and : (fs : Text → Option (ℕ × List Text)) (n : ℕ) (ps : List Part) →
    items_fit fs n ps ≡ (heads_fit fs n ps && every_mention (fits fs) ps)
items_fit-and fs n [] = refl
items_fit-and fs n (p ∷ ps) =
    rw (items_fit-and fs (suc n) ps) (and-and (head_fits fs n p) (list_all (fits fs p) (of_part p)) (heads_fit fs (suc n) ps) (every_mention (fits fs) ps))

-- the rules on mentions one by one
every_fits : (fs : Text → Option (ℕ × List Text)) (ps : List Part) →
    every_mention (fits fs) ps
    ≡ (every_mention (λ p m. is_assignable m) ps && (every_mention (λ p m. is_call fs m) ps && (every_mention is_placed ps && every_mention (λ p m. is_free fs m) ps)))
every_fits fs ps =
    rw (
      every_mention-and (λ p m. is_assignable m) (λ p m. is_call fs m && (is_placed p m && is_free fs m)) ps,
      every_mention-and (λ p m. is_call fs m) (λ p m. is_placed p m && is_free fs m) ps,
      every_mention-and is_placed (λ p m. is_free fs m) ps,
    )
    refl

pub both_of : (a b : Bool) → (a && b) ≡ true → (a ≡ true) × (b ≡ true)
both_of true true e = (refl, refl)
both_of true false e = cc
both_of false b e = cc

pub of_both : (a b : Bool) → a ≡ true → b ≡ true → (a && b) ≡ true
of_both a b e f = rw (e, f) refl

-- all rules but that on kinds
pub then_fit : (fs : Text → Option (ℕ × List Text)) (ps : List Part) → ((x : Text) → fs x ≡ function_of ps x) →
    items_fit fs 1 ps ≡ true → KindsFit ps → Fits ps
then_fit fs ps h e k =
    let same = fits-same fs (function_of ps) h in
    let here = rw same at e in
    let parts = both_of (heads_fit (function_of ps) 1 ps) (every_mention (fits (function_of ps)) ps) (sym (items_fit-and (function_of ps) 1 ps) ∙ here) in
    let four = rw (every_fits (function_of ps) ps) at parts.1 in
    let first = both_of _ _ four in
    let second = both_of _ _ first.1 in
    let third = both_of _ _ second.1 in
    record { targets = first.0; calls = second.0; words = third.0; heads = parts.0; names = third.1; kinds = k }

pub fit_then : (fs : Text → Option (ℕ × List Text)) (ps : List Part) → ((x : Text) → fs x ≡ function_of ps x) → Fits ps → items_fit fs 1 ps ≡ true
fit_then fs ps h f =
    let same = fits-same fs (function_of ps) h in
    let four = of_both _ _ f.targets (of_both _ _ f.calls (of_both _ _ f.words f.names)) in
    let mentions : every_mention (fits (function_of ps)) ps ≡ true = every_fits (function_of ps) ps ∙ four in
    rw same (items_fit-and (function_of ps) 1 ps ∙ of_both _ _ f.heads mentions)
