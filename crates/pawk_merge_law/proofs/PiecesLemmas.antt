-- Records in two pieces.
use Rattle.std.proofs.Common.{◌≡◌, ℕ, Bool, true, false, if◌then◌else◌, List, [], ◌∷◌, ◌++◌, Option, Some, None, refl, ap, sym, ◌∙◌, subst}
use Rattle.pawk_world.specs.Worlds.{Calls}
use Rattle.pawk_code.specs.Programs.{Code}
use Rattle.pawk_input.specs.Input.{Item}
use Rattle.pawk_store.specs.Records.{Left, through, next_file, exit, fault, clash, End, run_part, one_record}
use Rattle.pawk_store.specs.Runs.{is_skipped, after_leaving, records_from}
use Rattle.pawk_merge_law.specs.Pieces.{Progress, IsOpen, if_open, progress_after_leaving, progress_after, resume}

pub open_is : {X : Type 0} (l : Left) → IsOpen l → (x y : X) → x ≡ if_open l x y
open_is through is_open x y = refl
open_is next_file is_open x y = refl
open_is (exit n) is_open x y = absurd is_open
open_is (fault f) is_open x y = absurd is_open
open_is clash is_open x y = absurd is_open

pub closed_is : {X : Type 0} (l : Left) → (IsOpen l → ⊥) → (x y : X) → y ≡ if_open l x y
closed_is through closed x y = absurd (closed tt)
closed_is next_file closed x y = absurd (closed tt)
closed_is (exit n) closed x y = refl
closed_is (fault f) closed x y = refl
closed_is clash closed x y = refl

-- of two ways on, the one that is taken
pick : {X Y : Type 0} (f : Y → X) (b : Bool) (x y : X) (t u : Y) → x ≡ f t → y ≡ f u → (if b then x else y) ≡ f (if b then t else u)
pick f true x y t u h k = h
pick f false x y t u h k = k

pick_type : {Y : Type 0} (P : Y → Type 0) (b : Bool) (t u : Y) → P t → P u → P (if b then t else u)
pick_type P true t u h k = h
pick_type P false t u h k = k

module _ {S : Type 0} where
  same_after : (go : Option ℕ → End S → End S) (progress : Option ℕ → End S → Progress S) (file : ℕ) (l : Left) (r : End S) → ((s : Option ℕ) (x : End S) → go s x ≡ (progress s x).end) → after_leaving go file l r ≡ (progress_after_leaving progress file l r).end
  same_after go progress file through r h = h None r
  same_after go progress file next_file r h = h (Some file) r
  same_after go progress file (exit n) r h = refl
  same_after go progress file (fault f) r h = refl
  same_after go progress file clash r h = refl

  skips_none_after : (progress : Option ℕ → End S → Progress S) (file : ℕ) (l : Left) (r : End S) → r.left ≡ l → ((s : Option ℕ) (x : End S) → (x.left ≡ through → s ≡ None) → (progress s x).end.left ≡ through → (progress s x).skip ≡ None) → (progress_after_leaving progress file l r).end.left ≡ through → (progress_after_leaving progress file l r).skip ≡ None
  skips_none_after progress file through r on h = h None r (λ _. refl)
  skips_none_after progress file next_file r on h = h (Some file) r (λ k. let bad : next_file ≡ through = sym on ∙ k in absurd cc)
  skips_none_after progress file (exit n) r on h = λ _. refl
  skips_none_after progress file (fault f) r on h = λ _. refl
  skips_none_after progress file clash r on h = λ _. refl

module _ {S : Type 0} (calls : Calls S) (eres : List (List ℕ)) (code : Code) (budget : ℕ) where
  abbrev records : Option ℕ → End S → List Item → End S
  records skip e items = records_from calls eres code budget skip e items

  abbrev progress : Option ℕ → End S → List Item → Progress S
  progress skip e items = progress_after calls eres code budget skip e items

  abbrev record_end : Item → End S → End S
  record_end i e = run_part (one_record calls eres code.functions code.rules i) budget e.world e.state e.output

  pub same : (items : List Item) (skip : Option ℕ) (e : End S) → records skip e items ≡ (progress skip e items).end
  same [] skip e = refl
  same (i ∷ is) skip e =
      let r = record_end i e in
      pick (λ (t : Progress S). t.end) (is_skipped skip i)
      (records skip e is) (after_leaving (λ s x. records s x is) i.file r.left r)
      (progress skip e is) (progress_after_leaving (λ s x. progress s x is) i.file r.left r)
      (same is skip e)
      (same_after (λ s x. records s x is) (λ s x. progress s x is) i.file r.left r (λ s x. same is s x))

  pub skips_none : (items : List Item) (skip : Option ℕ) (e : End S) → (e.left ≡ through → skip ≡ None) → (progress skip e items).end.left ≡ through → (progress skip e items).skip ≡ None
  skips_none [] skip e h = h
  skips_none (i ∷ is) skip e h =
      let r = record_end i e in
      pick_type (λ (t : Progress S). t.end.left ≡ through → t.skip ≡ None) (is_skipped skip i)
      (progress skip e is) (progress_after_leaving (λ s x. progress s x is) i.file r.left r)
      (skips_none is skip e h)
      (skips_none_after (λ s x. progress s x is) i.file r.left r refl (λ s x k. skips_none is s x k))

  module _ (more : List Item) where
    abbrev resume_at : Progress S → End S
    resume_at b = resume calls eres code budget b more

    pieces_after : (go : Option ℕ → End S → End S) (go_progress : Option ℕ → End S → Progress S) (file : ℕ) (l : Left) (r : End S) → r.left ≡ l → ((s : Option ℕ) (x : End S) → IsOpen x.left → go s x ≡ resume_at (go_progress s x)) → after_leaving go file l r ≡ resume_at (progress_after_leaving go_progress file l r)
    pieces_after go go_progress file through r is h = h None r (subst IsOpen (sym is) tt)
    pieces_after go go_progress file next_file r is h = h (Some file) r (subst IsOpen (sym is) tt)
    pieces_after go go_progress file (exit n) r is h = ap (λ x. if_open x (records None r more) r) (sym is)
    pieces_after go go_progress file (fault f) r is h = ap (λ x. if_open x (records None r more) r) (sym is)
    pieces_after go go_progress file clash r is h = ap (λ x. if_open x (records None r more) r) (sym is)

    pub pieces : (items : List Item) (skip : Option ℕ) (e : End S) → IsOpen e.left → records skip e (items ++ more) ≡ resume_at (progress skip e items)
    pieces [] skip e is_open = open_is e.left is_open (records skip e more) e
    pieces (i ∷ is) skip e is_open =
        let r = record_end i e in
        pick resume_at (is_skipped skip i)
        (records skip e (is ++ more)) (after_leaving (λ s x. records s x (is ++ more)) i.file r.left r)
        (progress skip e is) (progress_after_leaving (λ s x. progress s x is) i.file r.left r)
        (pieces is skip e is_open)
        (pieces_after (λ s x. records s x (is ++ more)) (λ s x. progress s x is) i.file r.left r refl (λ s x k. pieces is s x k))
