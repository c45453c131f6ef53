-- Files that are read one after the other.
use Rattle.std.proofs.Common.{◌≡◌, ℕ, ◌+◌, ◌-◌, ◌<◌, ◌≤◌, List, [], ◌∷◌, ◌++◌, length, sym, ◌∙◌, refl, subst, arith, nat_lt, ⊎_elim}
use Rattle.std.specs.Prelude.{slice_get}
use Rattle.std.proofs.lemmas.Bool.{cases_lt}
use Rattle.std.proofs.lemmas.List.{length-append, append-nil}
use Rattle.std.proofs.lemmas.List.Sums.{count_by-le-length}
use Rattle.pawk_explain.specs.Lines.{lines_as_lf, omissions, place_in_files}
use Rattle.pawk_explain.specs.Reading.{IsReadFrom}
use Rattle.pawk_explain.proofs.PlaceLemmas.{count_below, none_below, byte_at_place, slice_get-same, slice_get-front, slice_get-after, count_below-append, length-lines, all_below}

pub read_nothing : IsReadFrom [] [] []
read_nothing = record {
  count = refl;
  within = λ place h. refl;
  same = λ place some within. absurd (omega arith);
}

-- how many carriage returns are left out before a place, in what was read and in what is read after it
pub count_below-more : (place : ℕ) (text places more : List ℕ)
    → count_below place (places ++ omissions (length text) more)
    ≡ count_below place places + count_below place (omissions (length text) more)
count_below-more place text places more = count_below-append place places (omissions (length text) more)

-- a place in what was read before
pub same_before : (bytes text places more : List ℕ) (r : IsReadFrom bytes text places) (place : ℕ) → 0 < place
    → place ≤ length text
    → slice_get (bytes ++ more) (place_in_files (places ++ omissions (length text) more) place - 1)
    ≡ slice_get (text ++ lines_as_lf more) (place - 1)
same_before bytes text places more r place some within =
    let apart = count_below-more place text places more in
    let none = none_below place (length text) more within in
    let few = count_by-le-length (λ d. nat_lt d place) places in
    let sum = r.count in
    slice_get-same (bytes ++ more) _ (place_in_files places place - 1) (omega arith)
    ∙ slice_get-front bytes more _ (omega arith)
    ∙ r.same place some within
    ∙ sym (slice_get-front text (lines_as_lf more) _ (omega arith))

-- a place in what is read now
pub same_after : (bytes text places more : List ℕ) (r : IsReadFrom bytes text places) (place : ℕ)
    → length text < place → place ≤ length text + length (lines_as_lf more)
    → slice_get (bytes ++ more) (place_in_files (places ++ omissions (length text) more) place - 1)
    ≡ slice_get (text ++ lines_as_lf more) (place - 1)
same_after bytes text places more r place past within =
    let n = length text in
    let i = place - 1 - n in
    let apart = count_below-more place text places more in
    let all = r.within place past in
    let sum = r.count in
    slice_get-after bytes more _ (i + count_below place (omissions n more)) (omega arith)
    ∙ byte_at_place place n i more (omega arith) (omega arith)
    ∙ sym (slice_get-after text (lines_as_lf more) _ i (omega arith))

-- a file that is read after others
pub read_file : (bytes text places more : List ℕ) → IsReadFrom bytes text places
    → IsReadFrom (bytes ++ more) (text ++ lines_as_lf more) (places ++ omissions (length text) more)
read_file bytes text places more r = record {
  count =
      let a = length-append bytes more in
      let b = length-append text (lines_as_lf more) in
      let c = length-append places (omissions (length text) more) in
      let d = length-lines (length text) more in
      let e = r.count in omega arith;
  within = λ place past.
      let b = length-append text (lines_as_lf more) in
      let c = length-append places (omissions (length text) more) in
      let apart = count_below-more place text places more in
      let old = r.within place (omega arith) in
      let new = all_below place (length text) more (omega arith) in omega arith;
  same = λ place some within.
      let b = length-append text (lines_as_lf more) in
      ⊎_elim (λ h. same_after bytes text places more r place h (omega arith))
      (λ h. same_before bytes text places more r place some h)
      (cases_lt (length text) place);
}

-- a newline that is read after files
pub read_newline : (bytes text places : List ℕ) → IsReadFrom bytes text places
    → IsReadFrom (bytes ++ 10 ∷ []) (text ++ 10 ∷ []) places
read_newline bytes text places r =
    subst (λ os. IsReadFrom (bytes ++ 10 ∷ []) (text ++ 10 ∷ []) os) (append-nil places)
    (read_file bytes text places (10 ∷ []) r)
