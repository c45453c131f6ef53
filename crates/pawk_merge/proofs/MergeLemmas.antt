-- Merges, one chunk after the other.
use Rattle.std.proofs.Common.{◌≡◌, ◌++◌, ◌∷◌, [], ℕ, true, false, List, Some, Result, Ok, Err, Vec, Global, append_assoc, length, arith, refl, sym, ◌∙◌, ap, subst}
use Rattle.std.proofs.lemmas.List.{append-nil}
use Rattle.std.specs.Result.{IsErrAnd}
use Rattle.pawk_store.specs.Globals.{Globals}
use Rattle.pawk_store.specs.Records.{End}
use Rattle.pawk_merge.specs.Tables.{all_take, join_table}
use Rattle.pawk_merge.specs.Merges.{Chunk, Stop, with_chunk, merge}
use Rattle.pawk_store.specs.Outputs.{in_a_row}
use Rattle.pawk_merge.specs.MergeViews.{stop_of, Merges, Continues, Goes}
use Rattle.pawk_merge.specs.declared.merging.Merged.{Merged}
use Rattle.pawk_merge.specs.declared.stop.JoinStop.{JoinStop}

pub in_a_row-push : (texts : List (Vec ℕ Global)) (text : Vec ℕ Global) → in_a_row (texts ++ text ∷ []) ≡ in_a_row texts ++ text.items
in_a_row-push [] text = append-nil text.items
in_a_row-push (t ∷ texts) text = ap (λ xs. t.items ++ xs) (in_a_row-push texts text) ∙ sym (append_assoc t.items (in_a_row texts) text.items)

module _ (c : Chunk) (cs : List Chunk) (e : End Globals) where
  pub goes_on : all_take c.table e.world ≡ true → Continues c.left (Ok true) → merge (c ∷ cs) e ≡ merge cs (with_chunk c e)
  goes_on t k = rw t (k (λ x. merge cs x) (with_chunk c e))

  pub ends : all_take c.table e.world ≡ true → Continues c.left (Ok false) → merge (c ∷ cs) e ≡ Ok (with_chunk c e)
  ends t k = rw t (k (λ x. merge cs x) (with_chunk c e))

  pub stops : (s : JoinStop) (t : Stop) → Goes c.table c.left e.world (Err s) → stop_of s ≡ Some t → merge (c ∷ cs) e ≡ Err t
  stops s t h is = h t is (λ x. merge cs x) (with_chunk c e)

-- a stop is passed on
pub stops_merge : (meant : Result (End Globals) Stop) (g : Globals) (s : JoinStop) (r : Result Merged JoinStop) → ((t : Stop) → stop_of s ≡ Some t → meant ≡ Err t) →
    IsErrAnd r (λ x. x ≡ s) → Merges meant g r
stops_merge meant g s (Ok m) h is = absurd is
stops_merge meant g s (Err x) h is = subst (λ y. Merges meant g (Err y)) (sym is) h

-- the end after a chunk, as the code has it
pub same_end : (c : Chunk) (e : End Globals) (g : Globals) (new old : List (Vec ℕ Global)) (text : Vec ℕ Global) → g ≡ join_table c.table e.world → new ≡ old ++ text ∷ [] →
    in_a_row old ≡ e.output → text.items ≡ c.output →
    ◌≡◌ {A = End Globals} record { world = g; state = c.state; output = in_a_row new; left = c.left } (with_chunk c e)
same_end c e g new old text world items before output =
    let texts : in_a_row new ≡ e.output ++ c.output =
    ap in_a_row items ∙ in_a_row-push old text ∙ ap (λ xs. xs ++ text.items) before ∙ ap (λ xs. e.output ++ xs) output in
    λ i. record { world = world i; state = c.state; output = texts i; left = c.left }

pub no_items : {X : Type 0} (xs : List X) → length xs ≡ 0 → xs ≡ []
no_items [] e = refl
no_items (x ∷ xs) e = absurd (omega (arith, e))
