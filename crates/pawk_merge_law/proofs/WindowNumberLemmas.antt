-- Records with the numbers that they have in the whole input.
use Rattle.std.proofs.Common.{◌≡◌, ℕ, ◌+◌, List, [], ◌∷◌, ◌++◌, length, map, refl, ap, sym, ◌∙◌, arith}
use Rattle.std.specs.Prelude.{flat_map}
use Rattle.std.proofs.lemmas.List.{append-nil, map-append}
use Rattle.pawk_records.specs.Records.{records_by}
use Rattle.pawk_input.specs.Input.{File, Item, file_items, file_at}
use Rattle.pawk_input.specs.Plan.{chunk_after, chunk_items, chunk_bytes}
use Rattle.pawk_input.specs.declared.cutting.Chunk.{Chunk}
use Rattle.pawk_input.proofs.PlanLemmas.{file_items-append}
use Rattle.pawk_merge_law.specs.Numbers.{AfterLaw, WindowItemsLaw}

module _ (a b : ℕ) where
  abbrev number_on : Item → Item
  number_on i = record i { nr = a + i.nr; fnr = b + i.fnr }

  shift_items : (file : ℕ) (name : List ℕ) (nr fnr : ℕ) (rs : List (List ℕ)) → file_items file name (a + nr) (b + fnr) rs ≡ map number_on (file_items file name nr fnr rs)
  shift_items file name nr fnr [] = refl
  shift_items file name nr fnr (r ∷ rs) =
      let e : a + nr + 1 ≡ a + (nr + 1) = omega arith in
      let d : b + fnr + 1 ≡ b + (fnr + 1) = omega arith in
      (λ j. record { bytes = r; file = file; name = name; nr = e j; fnr = d j } ∷ file_items file name (e j) (d j) rs)
      ∙ ap (λ l. record { bytes = r; file = file; name = name; nr = a + (nr + 1); fnr = b + (fnr + 1) } ∷ l) (shift_items file name (nr + 1) (fnr + 1) rs)

  module _ (rs : List ℕ) (files : List File) where
    shift_chunk : (c : Chunk) → chunk_items rs files (chunk_after a b c) ≡ map number_on (chunk_items rs files c)
    shift_chunk c = shift_items c.file (file_at files c.file).name c.nr c.fnr (records_by rs (chunk_bytes files c))

    shift_all : (plan : List Chunk) → flat_map (chunk_items rs files) (map (chunk_after a b) plan) ≡ map number_on (flat_map (chunk_items rs files) plan)
    shift_all [] = refl
    shift_all (c ∷ plan) =
        ap (λ l. l ++ flat_map (chunk_items rs files) (map (chunk_after a b) plan)) (shift_chunk c)
        ∙ ap (λ l. map number_on (chunk_items rs files c) ++ l) (shift_all plan)
        ∙ sym (map-append number_on (chunk_items rs files c) (flat_map (chunk_items rs files) plan))

pub after_law : AfterLaw
after_law rs f plan is nr fnr =
    let records = records_by rs f.bytes in
    let e : nr + 0 ≡ nr = omega arith in
    let d : fnr + 0 ≡ fnr = omega arith in
    shift_all nr fnr rs (f ∷ []) plan
    ∙ ap (λ l. map (number_on nr fnr) l) (is.whole ∙ append-nil (file_items 0 f.name 0 0 records))
    ∙ sym (shift_items nr fnr 0 f.name 0 0 records)
    ∙ (λ j. file_items 0 f.name (e j) (d j) records)

pub window_items_law : WindowItemsLaw
window_items_law rs file name nr fnr [] = refl
window_items_law rs file name nr fnr (w ∷ ws) =
    let n = length (records_by rs w) in
    file_items-append file name nr fnr (records_by rs w) (flat_map (records_by rs) ws)
    ∙ ap (λ l. file_items file name nr fnr (records_by rs w) ++ l) (window_items_law rs file name (nr + n) (fnr + n) ws)
