-- Records do not look at the number of their file.
use Rattle.std.proofs.Common.{◌≡◌, ℕ, ◌+◌, Bool, if◌then◌else◌, List, [], ◌∷◌, Option, Some, None, map, refl, rules, tests}
use Rattle.std.specs.Prelude.{◌==◌}
use Rattle.std.specs.Option.{option_map}
use Rattle.pawk_world.specs.Worlds.{Calls}
use Rattle.pawk_code.specs.Programs.{Code}
use Rattle.pawk_input.specs.Input.{Item}
use Rattle.pawk_store.specs.Records.{Left, through, next_file, exit, fault, clash, End, run_part, one_record}
use Rattle.pawk_store.specs.Runs.{is_skipped, after_leaving, records_from}
use Rattle.pawk_merge_law.specs.Files.{with_files_before}

same_test : (k a b : ℕ) → (k + a == k + b) ≡ (a == b)
same_test k a b = search (rules, tests)

module _ (k : ℕ) where
  abbrev more : Option ℕ → Option ℕ
  more skip = option_map (λ n. k + n) skip

  skips_alike : (skip : Option ℕ) (i : Item) → is_skipped (more skip) (with_files_before k i) ≡ is_skipped skip i
  skips_alike None i = refl
  skips_alike (Some file) i = same_test k i.file file

  module _ {S : Type 0} where
    goes_alike : (go other : Option ℕ → End S → End S) (file : ℕ) (l : Left) (r : End S) → ((s : Option ℕ) (x : End S) → go (more s) x ≡ other s x) → after_leaving go (k + file) l r ≡ after_leaving other file l r
    goes_alike go other file through r h = h None r
    goes_alike go other file next_file r h = h (Some file) r
    goes_alike go other file (exit n) r h = refl
    goes_alike go other file (fault f) r h = refl
    goes_alike go other file clash r h = refl

    either_alike : (b c : Bool) (x y z w : End S) → b ≡ c → x ≡ z → y ≡ w → (if b then x else y) ≡ (if c then z else w)
    either_alike b c x y z w h i j = λ t. if h t then i t else j t

  module _ {S : Type 0} (calls : Calls S) (eres : List (List ℕ)) (code : Code) (budget : ℕ) where
    pub files_alike : (items : List Item) (skip : Option ℕ) (e : End S) → records_from calls eres code budget (more skip) e (map (with_files_before k) items) ≡ records_from calls eres code budget skip e items
    files_alike [] skip e = refl
    files_alike (i ∷ is) skip e =
        let r = run_part (one_record calls eres code.functions code.rules i) budget e.world e.state e.output in
        let go : Option ℕ → End S → End S = λ s x. records_from calls eres code budget s x (map (with_files_before k) is) in
        let other : Option ℕ → End S → End S = λ s x. records_from calls eres code budget s x is in
        either_alike (is_skipped (more skip) (with_files_before k i)) (is_skipped skip i)
        (go (more skip) e) (after_leaving go (k + i.file) r.left r) (other skip e) (after_leaving other i.file r.left r)
        (skips_alike skip i) (files_alike is skip e)
        (goes_alike go other i.file r.left r (λ s x. files_alike is s x))
