-- A table of functions with one more name.
use Rattle.std.proofs.Common.{◌≡◌, ℕ, ◌+◌, ◌<◌, Bool, true, false, cond, List, Option, Some, None, refl, subst, Bor, map, drop, length, get_or, drop-cons, add-one}
use Rattle.std.specs.Prelude.{if◌then◌else◌}
use Rattle.pawk_lex.specs.Bytes.{Text}
use Rattle.pawk_syntax_tree.specs.declared.item.ProgramItem.{ProgramItem}
use Rattle.pawk_syntax_tree.specs.Item.{part}
use Rattle.std.specs.Prelude.{is_some}
use Rattle.std.specs.Option.{option_map}
use Rattle.std.specs.Ordering.{nat_cmp}
use Rattle.std.specs.Cmp.Lexicographic.{slice_cmp}
use Rattle.std.specs.Str.{bytes_eq}
use Rattle.std.specs.BTreeMap.{BTreeMap, get_by, UpdatesBy}
use Rattle.std.proofs.lemmas.Map.Text.{btree_map_updates_str}
use Rattle.std.proofs.lemmas.Slice.Eq.{bytes_eq-Decides}
use Rattle.pawk_syntax_check.specs.declared.functions.FunctionHead.{FunctionHead}
use Rattle.pawk_syntax_check.specs.Functions.{or_else, function_at, function_from}
use Rattle.pawk_syntax_check.specs.FunctionViews.{function_view}

settle : (b : Bool) (old : Option FunctionHead) (f : FunctionHead) → (b ≡ true → is_some old ≡ false) →
    option_map function_view (cond b (Some f) old) ≡ or_else (option_map function_view old) (if b then Some (function_view f) else None)
settle true None f h = refl
settle true (Some g) f h = let e : true ≡ false = h refl in cc
settle false None f h = refl
settle false (Some g) f h = refl

pub add-function : (bs x : List ℕ) (m n : BTreeMap (Bor (List ℕ)) FunctionHead) (f : FunctionHead) →
    UpdatesBy (λ x y. slice_cmp nat_cmp x.now y.now) (λ k. slice_cmp nat_cmp bs k.now) m n (Some f) →
    is_some (get_by (λ k. slice_cmp nat_cmp bs k.now) m) ≡ false →
    option_map function_view (get_by (λ k. slice_cmp nat_cmp x k.now) n)
    ≡ or_else (option_map function_view (get_by (λ k. slice_cmp nat_cmp x k.now) m)) (if bytes_eq bs x then Some (function_view f) else None)
add-function bs x m n f u h =
    let P : List ℕ → Type 0 = λ y. is_some (get_by (λ k. slice_cmp nat_cmp y k.now) m) ≡ false in
    rw (btree_map_updates_str bs m n (Some f) u x)
    (settle (bytes_eq bs x) (get_by (λ k. slice_cmp nat_cmp x k.now) m) f (λ t. subst P ((bytes_eq-Decides bs x).0 t) h))

pub or_else-or_else : {A : Type 0} (a b c : Option A) → or_else (or_else a b) c ≡ or_else a (or_else b c)
or_else-or_else None b c = refl
or_else-or_else (Some x) b c = refl

pub one_more_item : (items : List ProgramItem) (i : ℕ) (d : ProgramItem) (x : Text) → i < length items →
    function_from (i + 1) (map part (drop i items)) x
    ≡ or_else (function_at (i + 1) (part (get_or items i d)) x) (function_from (i + 1 + 1) (map part (drop (i + 1) items)) x)
one_more_item items i d x h = rw (drop-cons items i d, add-one (i + 1), add-one i) refl
