-- Records that are numbered on.
use Rattle.std.proofs.Common.{◌≡◌, ℕ, List, sym, subst}
use Rattle.pawk_input.specs.Input.{Item, file_items}
use Rattle.pawk_merge_law.specs.Gathered.{AreNumbered}
use Rattle.pawk_merge_law.proofs.NumberLemmas.{file_numbered}

-- records of a file are numbered on from those that came before
pub numbered_on : (n nr fnr : ℕ) (name : List ℕ) (records : List (List ℕ)) (is : List Item) → n ≡ nr → is ≡ file_items 0 name nr fnr records → AreNumbered n is
numbered_on n nr fnr name records is from same =
    subst (λ k. AreNumbered k is) (sym from) (subst (λ items. AreNumbered nr items) (sym same) (file_numbered 0 name nr fnr records))
