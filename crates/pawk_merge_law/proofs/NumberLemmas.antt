-- The numbers of records in order, and of the first record of each chunk of a plan.
use Rattle.std.proofs.Common.{◌≡◌, ℕ, ◌+◌, ◌<◌, List, [], ◌∷◌, ◌++◌, length, refl, sym, subst, arith}
use Rattle.pawk_records.specs.Records.{records_by}
use Rattle.pawk_input.specs.Input.{File, Item, file_items, items_from}
use Rattle.pawk_input.proofs.ItemsLemmas.{length-file_items}
use Rattle.pawk_merge_law.specs.Gathered.{AreNumbered}

AreNumbered-append : (nr : ℕ) (xs ys : List Item) → AreNumbered nr xs → AreNumbered (nr + length xs) ys → AreNumbered nr (xs ++ ys)
AreNumbered-append nr [] ys h k = subst (λ n. AreNumbered n ys) (omega arith) k
AreNumbered-append nr (x ∷ xs) ys h k = (h.0, AreNumbered-append (nr + 1) xs ys h.1 (subst (λ n. AreNumbered n ys) (omega arith) k))

pub AreNumbered-rest : (nr : ℕ) (xs ys : List Item) → AreNumbered nr (xs ++ ys) → AreNumbered (nr + length xs) ys
AreNumbered-rest nr [] ys h = subst (λ n. AreNumbered n ys) (omega arith) h
AreNumbered-rest nr (x ∷ xs) ys h = subst (λ n. AreNumbered n ys) (omega arith) (AreNumbered-rest (nr + 1) xs ys h.1)

-- records of one file are
pub file_numbered : (file : ℕ) (name : List ℕ) (nr fnr : ℕ) (rs : List (List ℕ)) → AreNumbered nr (file_items file name nr fnr rs)
file_numbered file name nr fnr [] = tt
file_numbered file name nr fnr (r ∷ rs) = (refl, file_numbered file name (nr + 1) (fnr + 1) rs)

pub all_numbered : (rs : List ℕ) (file nr : ℕ) (fs : List File) → AreNumbered nr (items_from rs file nr fs)
all_numbered rs file nr [] = tt
all_numbered rs file nr (f ∷ fs) =
    let records = records_by rs f.bytes in
    AreNumbered-append nr (file_items file f.name nr 0 records) (items_from rs (file + 1) (nr + length records) fs) (file_numbered file f.name nr 0 records)
    (subst (λ n. AreNumbered (nr + n) (items_from rs (file + 1) (nr + length records) fs)) (sym (length-file_items file f.name nr 0 records))
    (all_numbered rs (file + 1) (nr + length records) fs))

-- where the first of some records of a file is numbered from here, as many came before it
pub first_number : (file : ℕ) (name : List ℕ) (from nr fnr : ℕ) (records : List (List ℕ)) (later : List Item) → 0 < length (file_items file name from fnr records) → AreNumbered nr (file_items file name from fnr records ++ later) → from ≡ nr
first_number file name from nr fnr [] later some h = absurd (omega (arith, some))
first_number file name from nr fnr (r ∷ records) later some h = omega (arith, h.0)
