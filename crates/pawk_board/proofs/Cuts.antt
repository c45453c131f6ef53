-- Lists that are cut at one place.
use Rattle.std.proofs.Common.{◌≡◌, ℕ, zero, suc, List, [], ◌∷◌, ◌++◌, set, All, IsPermutation, refl, sym, ap, ◌∙◌, subst, arith, length-append, append_assoc}
use mathlib.Core.Option.{some, some-injective, some-ne-none}
use lib.ListN.{get_elem?}
use Rattle.std.specs.List.{flat_map}
use Rattle.std.proofs.lemmas.Grind.{flat_map-append}
use Rattle.std.proofs.lemmas.List.{get_or_append_left}
use Rattle.std.proofs.lemmas.List.Sorted.{IsPermutation-append_left, IsPermutation-append_right, IsPermutation-append_comm}
use Rattle.std.proofs.lemmas.List.Elements.{All-append, All-cons, All-head, All-tail, All-weaker}

module _ {A : Type 0} where
  -- the list l has a at i, between two parts
  pub record Cut (l : List A) (i : ℕ) (a : A) : Type 0 where
    pub before : List A
    pub after : List A
    pub is : l ≡ before ++ a ∷ after
    pub sets : (b : A) → set l i b ≡ before ++ b ∷ after

  pub cut : (l : List A) (i : ℕ) (a : A) → get_elem? l i ≡ some a → Cut l i a
  cut [] i a e = absurd (some-ne-none a (sym e))
  cut (x ∷ xs) zero a e = record { before = []; after = xs; is = ap (λ y. y ∷ xs) (some-injective x a e); sets = λ b. refl }
  cut (x ∷ xs) (suc i) a e = let r = cut xs i a e in record { before = x ∷ r.before; after = r.after; is = ap (λ l. x ∷ l) r.is; sets = λ b. ap (λ l. x ∷ l) (r.sets b) }

  pub all_front : (P : A → Type 0) (xs ys : List A) → All P (xs ++ ys) → All P xs
  all_front P xs ys all k d h = subst P (get_or_append_left xs ys d k h) (all k d (omega (arith, length-append xs ys)))

  pub all_back : (P : A → Type 0) (xs ys : List A) → All P (xs ++ ys) → All P ys
  all_back P [] ys all = all
  all_back P (x ∷ xs) ys all = all_back P xs ys (All-tail P x (xs ++ ys) all)

  -- one element of a list changes, and what holds of each
  pub all_at : (P Q : A → Type 0) (xs ys : List A) (a b : A) → ((x : A) → P x → Q x) → (P a → Q b) → All P (xs ++ a ∷ ys) → All Q (xs ++ b ∷ ys)
  all_at P Q xs ys a b others mine all =
      let back = all_back P xs (a ∷ ys) all in
      All-append Q xs (b ∷ ys) (All-weaker P Q others xs (all_front P xs (a ∷ ys) all)) (All-cons Q b ys (mine (All-head P a ys back)) (All-weaker P Q others ys (All-tail P a ys back)))

  -- two neighbouring parts of a list change places
  pub moved_perm : (F X Y G : List A) → IsPermutation (F ++ (X ++ (Y ++ G))) (F ++ (Y ++ (X ++ G)))
  moved_perm F X Y G =
      let inner : IsPermutation ((X ++ Y) ++ G) ((Y ++ X) ++ G) = IsPermutation-append_left G (X ++ Y) (Y ++ X) (IsPermutation-append_comm X Y) in
      let left : IsPermutation (X ++ (Y ++ G)) ((Y ++ X) ++ G) = subst (λ (l : List A). IsPermutation l ((Y ++ X) ++ G)) (append_assoc X Y G) inner in
      IsPermutation-append_right F (X ++ (Y ++ G)) (Y ++ (X ++ G)) (subst (IsPermutation (X ++ (Y ++ G))) (append_assoc Y X G) left)

  flat_four : {B : Type 0} (f : B → List A) (F X Y G : List B) → flat_map f (F ++ (X ++ (Y ++ G))) ≡ flat_map f F ++ (flat_map f X ++ (flat_map f Y ++ flat_map f G))
  flat_four f F X Y G =
      flat_map-append f F (X ++ (Y ++ G))
      ∙ ap (λ l. flat_map f F ++ l) (flat_map-append f X (Y ++ G) ∙ ap (λ l. flat_map f X ++ l) (flat_map-append f Y G))

  -- what two neighbouring parts hold changes places with them
  pub flat_moved : {B : Type 0} (f : B → List A) (F X Y G : List B) → IsPermutation (flat_map f (F ++ (X ++ (Y ++ G)))) (flat_map f (F ++ (Y ++ (X ++ G))))
  flat_moved f F X Y G =
      subst (IsPermutation (flat_map f (F ++ (X ++ (Y ++ G))))) (sym (flat_four f F Y X G))
      (subst (λ (l : List A). IsPermutation l (flat_map f F ++ (flat_map f Y ++ (flat_map f X ++ flat_map f G)))) (sym (flat_four f F X Y G))
      (moved_perm (flat_map f F) (flat_map f X) (flat_map f Y) (flat_map f G)))
