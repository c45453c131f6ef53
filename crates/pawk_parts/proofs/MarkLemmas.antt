-- Marks of an array that are done one after the other.
use Rattle.std.proofs.Common.{◌≡◌, ◌≢◌, ◌<◌, ℕ, suc, Bool, true, false, List, [], ◌∷◌, length, Option, Some, None, Ordering, refl, sym, ◌∙◌, ap, arith}
use Rattle.std.specs.Option.{option_or}
use Rattle.std.specs.Str.{bytes_eq}
use Rattle.std.specs.declared.cmp.Ordering.TheVariants.{Less, Equal, Greater}
use Rattle.std.specs.FinMap.Entries.{by_order}
use Rattle.std.proofs.lemmas.Slice.Eq.{bytes_eq-Decides}
use Rattle.pawk_keyed_map.specs.Keyed.{Keyed, Rise, found, order, put}
use Rattle.pawk_keyed_map.proofs.EntriesLemmas.{rise-put, same_found, put_here, put_other}
use Rattle.pawk_frozen.specs.Marks.{Mark, Marks, blank, mark_found, mark_or_blank}
use Rattle.pawk_parts.specs.Writing.{AreAll, MayBeSaid, HasUnsaid}

or_none : {A : Type 0} (o : Option A) → o ≡ option_or o None
or_none None = refl
or_none (Some v) = refl

-- none is done
pub are_all_left : (all : Marks) → AreAll all all []
are_all_left all = record {
  each = λ key. or_none (found key all);
  apart = λ key h. refl;
  rise_done = refl;
  rise_all = λ h. h;
}

some_is_there : {A : Type 0} (m : A) (o : Option A) → o ≡ Some m → o ≢ None
some_is_there m o e h = let bad : Some m ≡ None = sym e ∙ h in cc

pub first_found : (k : List ℕ) (m : Mark) (left rest : Marks) → left ≡ put k m rest → found k left ≡ Some m
first_found k m left rest is = ap (found k) is ∙ put_here k m rest

module _ (all left rest done : Marks) (k : List ℕ) (m : Mark) (h : AreAll all left done) (is : left ≡ put k m rest) (new : found k rest ≡ None) where
  pub not_done : found k done ≡ None
  not_done = h.apart k (some_is_there m (found k left) (first_found k m left rest is))

  pub blank_before : mark_found k done ≡ blank
  blank_before = ap mark_or_blank not_done

  each_at : (q : List ℕ) (b : Bool) → bytes_eq q k ≡ b → found q all ≡ option_or (found q rest) (found q (put k m done))
  each_at q true e =
      let same : q ≡ k = (bytes_eq-Decides q k).0 e in
      let was : found k all ≡ Some m = h.each k ∙ ap (λ o. option_or o (found k done)) (first_found k m left rest is) in
      rw same (was ∙ sym (ap (λ o. option_or o (found k (put k m done))) new ∙ put_here k m done))
  each_at q false e =
      let apart : q ≢ k = λ same. let yes = (bytes_eq-Decides q k).1 same in let bad : true ≡ false = sym yes ∙ e in cc in
      h.each q
      ∙ ap (λ o. option_or o (found q done)) (ap (found q) is ∙ put_other q k m rest apart)
      ∙ ap (option_or (found q rest)) (sym (put_other q k m done apart))

  apart_at : (q : List ℕ) (b : Bool) → bytes_eq q k ≡ b → found q rest ≢ None → found q (put k m done) ≡ None
  apart_at q true e g =
      let same : q ≡ k = (bytes_eq-Decides q k).0 e in
      absurd (g (ap (λ x. found x rest) same ∙ new))
  apart_at q false e g =
      let apart : q ≢ k = λ same. let yes = (bytes_eq-Decides q k).1 same in let bad : true ≡ false = sym yes ∙ e in cc in
      let was : found q left ≡ found q rest = ap (found q) is ∙ put_other q k m rest apart in
      put_other q k m done apart ∙ h.apart q (λ none. g (sym was ∙ none))

  -- one more is done
  pub one_more_done : AreAll all rest (put k m done)
  one_more_done = record {
    each = λ q. each_at q (bytes_eq q k) refl;
    apart = λ q g. apart_at q (bytes_eq q k) refl g;
    rise_done = rise-put k m done h.rise_done;
    rise_all = λ g. h.rise_all (rise_left g);
  } where
    rise_left : Rise rest → Rise left
    rise_left g = rw is (rise-put k m rest g)

-- none is left
pub are_all_done : (all left done : Marks) → AreAll all left done → left ≡ [] → all ≡ done
are_all_done all left done h e =
    let rise : Rise left = rw e refl in
    same_found all done (h.rise_all rise) h.rise_done (λ q. h.each q ∙ ap (λ xs. option_or (found q xs) (found q done)) e)

-- ---- fewer are left

length-put : {A : Type 0} (k : List ℕ) (v : A) (es : Keyed A) → found k es ≡ None → length (put k v es) ≡ suc (length es)
length-put k v [] e = refl
length-put k v (x ∷ es) e = by (order k x.0) refl (length-put k v es) where
  by : (o : Ordering) → order k x.0 ≡ o → (found k es ≡ None → length (put k v es) ≡ suc (length es)) →
      length (by_order o ((k, v) ∷ x ∷ es) ((x.0, v) ∷ es) (x ∷ put k v es)) ≡ suc (suc (length es))
  by Less s rest = refl
  by Equal s rest = let no : Some x.1 ≡ None = rw s at e in cc
  by Greater s rest = let none : found k es ≡ None = rw s at e in ap suc (rest none)

pub fewer_left : (k : List ℕ) (m : Mark) (left rest : Marks) → left ≡ put k m rest → found k rest ≡ None → length rest < length left
fewer_left k m left rest is new =
    let same = ap length is in
    let one = length-put k m rest new in
    omega (arith, same, one)

-- ---- what is found

-- what is found later is there now
pub later_found : (k q : List ℕ) (m w : Mark) (left rest : Marks) → left ≡ put k m rest → found k rest ≡ None → found q rest ≡ Some w → found q left ≡ Some w
later_found k q m w left rest is new e = ap (found q) is ∙ put_other q k m rest apart ∙ e where
  apart : q ≢ k
  apart same = let bad : Some w ≡ None = sym e ∙ ap (λ x. found x rest) same ∙ new in cc

pub first_unsaid : (k : List ℕ) (m : Mark) (left rest : Marks) → left ≡ put k m rest → ¬ MayBeSaid m → HasUnsaid left
first_unsaid k m left rest is h = record { key = k; mark = m; has = first_found k m left rest is; unsaid = h }

pub later_unsaid : (k : List ℕ) (m : Mark) (left rest : Marks) → left ≡ put k m rest → found k rest ≡ None → HasUnsaid rest → HasUnsaid left
later_unsaid k m left rest is new h = record {
  key = h.key;
  mark = h.mark;
  has = later_found k h.key m h.mark left rest is new h.has;
  unsaid = h.unsaid;
}
