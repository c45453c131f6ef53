-- Arrays that get the pieces of a text.
use Rattle.std.proofs.Common.{◌≡◌, ℕ, zero, suc, List, [], ◌∷◌, Result, Ok, Err, ap, sym, refl, ◌∙◌, add-one, subst}
use Rattle.std.specs.Prelude.{slice_set}
use Rattle.std.specs.Fmt.{decimal}
use Rattle.std.specs.declared.ops.Range.{Range}
use Rattle.pawk_value.specs.Value.{Val, Maybe}
use Rattle.pawk_array.specs.Entries.{Entries, put, with_pieces}
use Rattle.pawk_array.specs.Pieces.{with_texts}
use Rattle.pawk_array.specs.Texts.{texts_in}
use Rattle.pawk_array.proofs.PiecesLemmas.{with_texts_in}
use Rattle.pawk_world.specs.declared.halt.Halt.{Halt as Code}
use Rattle.pawk_world.specs.Answers.{Answers}
use Rattle.pawk_world.specs.Worlds.{Answer, Calls, write, element}
use Rattle.pawk_world.specs.Worlds as world
use Rattle.pawk_world.specs.Writings.{after, fill_after}
use Rattle.pawk_store.specs.Parts.{value, global_array, local_array, Moment, Part, gives, then_do, ask}
use Rattle.pawk_store.specs.Places.{table_at}
use Rattle.pawk_store.specs.Meaning.{fill_from}
use Rattle.pawk_runtime.specs.Yields.{Yields}

-- what is asked does not look at the world that the moment had
ask_anew : {S X : Type 0} (a : Answer S X) (s : S) (m : Moment S) → ask a (record m { world = s }) ≡ ask a m
ask_anew (world.gives x t) s m = refl
ask_anew (world.halts h t) s m = refl

ask_after : {S X : Type 0} (a : Answer S (Unit {0})) (next : S → Answer S X) (go : Part S X) (m : Moment S) → ((s : S) → go (record m { world = s }) ≡ ask (next s) (record m { world = s })) → then_do (ask a m) (λ _. go) ≡ ask (after a (λ _. next)) m
ask_after (world.gives x s) next go m is = is s ∙ ask_anew (next s) s m
ask_after (world.halts h s) next go m is = refl

-- what a world answers is what the part yields that asks for it
answers_yield : {S : Type 0} (a : Answer S (Unit {0})) (r : Result (Unit {0}) Code) (s : S) (m : Moment S) → Answers (λ _. tt) a r s → Yields (λ _. tt) (ask a m) r (record m { world = s })
answers_yield a (Ok t) s m is = ap (λ b. ask b m) is
answers_yield a (Err e) s m is = λ h there. ap (λ b. ask b m) (is h there)

set_same : (xs : List Entries) (i : ℕ) → slice_set xs i (table_at xs i) ≡ xs
set_same [] i = refl
set_same (x ∷ xs) zero = refl
set_same (x ∷ xs) (suc i) = ap (λ ys. x ∷ ys) (set_same xs i)

set_again : (xs : List Entries) (i : ℕ) (a : Entries) (f : Entries → Entries) → slice_set (slice_set xs i a) i (f (table_at (slice_set xs i a) i)) ≡ slice_set xs i (f a)
set_again [] i a f = refl
set_again (x ∷ xs) zero a f = refl
set_again (x ∷ xs) (suc i) a f = ap (λ ys. x ∷ ys) (set_again xs i a f)

module _ {S : Type 0} (calls : Calls S) where
  -- what holds no array stays
  pub fill_nothing : (v : Val) (n : ℕ) (ps : List (List ℕ)) (m : Moment S) → fill_from calls (value v) n ps m ≡ gives tt m
  fill_nothing v n [] m = refl
  fill_nothing v n (p ∷ ps) m = fill_nothing v (suc n) ps m

  fill_global : (slot n : ℕ) (ps : List (List ℕ)) (m : Moment S) → fill_from calls (global_array slot) (suc n) ps m ≡ ask (fill_after calls slot n ps m.world) m
  fill_global slot n [] m = refl
  fill_global slot n (p ∷ ps) m =
      rw add-one
      (ask_after (calls.ask (write (element slot (decimal (suc n))) (Maybe p)) m.world) (fill_after calls slot (suc n) ps) (fill_from calls (global_array slot) (suc (suc n)) ps) m
      (λ s. fill_global slot (suc n) ps (record m { world = s })))

  pub fill_yields : (slot : ℕ) (ps : List (List ℕ)) (r : Result (Unit {0}) Code) (s : S) (m : Moment S) → Answers (λ _. tt) (fill_after calls slot 0 ps m.world) r s → Yields (λ _. tt) (fill_from calls (global_array slot) 1 ps m) r (record m { world = s })
  fill_yields slot ps r s m is =
      subst (λ o. Yields (λ _. tt) o r (record m { world = s })) (sym (fill_global slot 0 ps m)) (answers_yield (fill_after calls slot 0 ps m.world) r s m is)

  fill_texts : (i n : ℕ) (ps : List (List ℕ)) (m : Moment S) → fill_from calls (local_array i) (suc n) ps m ≡ gives tt (record m { arrays = slice_set m.arrays i (with_texts n ps (table_at m.arrays i)) })
  fill_texts i n [] m = ap (λ xs. gives tt (record m { arrays = xs })) (sym (set_same m.arrays i))
  fill_texts i n (p ∷ ps) m =
      let first = put (decimal (suc n)) (Maybe p) (table_at m.arrays i) in
      rw add-one
      (fill_texts i (suc n) ps (record m { arrays = slice_set m.arrays i first })
      ∙ ap (λ xs. gives tt (record m { arrays = xs })) (set_again m.arrays i first (with_texts (suc n) ps)))

  pub fill_local : (i : ℕ) (text : List ℕ) (rs : List (Range ℕ)) (m : Moment S) → fill_from calls (local_array i) 1 (texts_in text rs) m ≡ gives tt (record m { arrays = slice_set m.arrays i (with_pieces 0 text rs (table_at m.arrays i)) })
  fill_local i text rs m =
      fill_texts i 0 (texts_in text rs) m
      ∙ ap (λ es. gives tt (record m { arrays = slice_set m.arrays i es })) (with_texts_in 0 text rs (table_at m.arrays i))
