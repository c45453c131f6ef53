-- Records that do not go through where they are run apart do not go through in order.
use Rattle.std.proofs.Common.{◌≡◌, ℕ, ◌+◌, Bool, true, false, if◌then◌else◌, List, [], ◌∷◌, ◌++◌, length, Result, Err, refl, ap, sym, ◌∙◌, subst, append_assoc, length-append, arith}
use Rattle.std.specs.Prelude.{MatchResult}
use Rattle.pawk_input.specs.Input.{Item}
use Rattle.pawk_store.specs.Globals.{Globals}
use Rattle.pawk_frozen.specs.Frozens.{calls as chunk_calls}
use Rattle.pawk_store.specs.Records.{Left, through, next_file, exit, fault, clash, End}
use Rattle.pawk_merge.specs.Merges.{Chunk, Stop, at_cell, after_leaving, merge, with_chunk}
use Rattle.pawk_merge.specs.Tables.{all_take}
use Rattle.pawk_merge_law.specs.Phases.{Phase, MayRun, opening, in_order, FaultsOrCreates}
use Rattle.pawk_merge_law.specs.ChunkedRuns.{IsTold, HasRecord}
use Rattle.pawk_numbered.specs.Mentions.{reads_number}
use Rattle.pawk_numbered.specs.Laws.{FromNoneLaw}
use Rattle.pawk_shards.specs.Apart.{HasCome, EndsSo, OpeningLaw, OneApartLaw, InTurnLaw, LaterLaw}
use Rattle.pawk_shards.specs.Numbers.{AreSameButNumbers, RenumberedLaw}
use Rattle.pawk_table_merge.specs.Runs.{DoesNotGoThrough}
use Rattle.pawk_table_merge.proofs.LaterLemmas.{told_later}

-- ---- records but for their numbers

pub same_itself : (is : List Item) → AreSameButNumbers is is
same_itself [] = tt
same_itself (i ∷ is) = (refl, same_itself is)

pub same_append : (is js ks ls : List Item) → AreSameButNumbers is js → AreSameButNumbers ks ls → AreSameButNumbers (is ++ ks) (js ++ ls)
same_append [] [] ks ls h k = k
same_append [] (j ∷ js) ks ls h k = absurd h
same_append (i ∷ is) [] ks ls h k = absurd h
same_append (i ∷ is) (j ∷ js) ks ls h k = (h.0, same_append is js ks ls h.1 k)

-- ---- records of which the first end the run

-- Something is so where an end was left through and where it was not.
by_left : (l : Left) (X : Type 0) → (l ≡ through → X) → ((¬ (l ≡ through)) → X) → X
by_left through X h k = h refl
by_left next_file X h k = k (λ e. let bad : next_file ≡ through = e in absurd cc)
by_left (exit n) X h k = k (λ e. let bad : exit n ≡ through = e in absurd cc)
by_left (fault f) X h k = k (λ e. let bad : fault f ≡ through = e in absurd cc)
by_left clash X h k = k (λ e. let bad : clash ≡ through = e in absurd cc)

-- the laws that these stand on
pub record Laws : Type 0 where
  pub opening : OpeningLaw
  pub one : OneApartLaw
  pub turn : InTurnLaw
  pub later : LaterLaw
  pub renumbered : RenumberedLaw
  pub none : FromNoneLaw chunk_calls

module _ (law : Laws) (p : Phase) (may : MayRun p) where
  -- records that go through, and neither fault nor create an element
  record Goes (items : List Item) : Type 0 where
    through_is : (in_order p items).left ≡ through
    harmless : ¬ FaultsOrCreates p items

  -- So do the first of them.
  first_go : (items more : List Item) → Goes (items ++ more) → Goes items
  first_go items more goes = record {
    through_is = by_left (in_order p items).left ((in_order p items).left ≡ through) (λ on. on)
        (λ closed. absurd (closed (sym (ap (λ (e : End Globals). e.left) ((law.later p may items more).1 closed).0) ∙ goes.through_is)));
    harmless = λ h. goes.harmless ((law.later p may items more).0 h);
  }

  -- A run has come so far.
  comes : (items : List Item) → Goes items → HasCome p items (in_order p items)
  comes [] goes = law.opening p
  comes (i ∷ is) goes = ((law.turn p may [] (opening p) (law.opening p) (i ∷ is) tt).ends_so goes.harmless).goes_on goes.through_is

  module _ (items c : List Item) (r : Chunk) where
    abbrev e : End Globals
    e = in_order p items

    abbrev Met : Result (End Globals) Stop → Type 0
    Met m = MatchResult m (λ f. (in_order p (items ++ c) ≡ f) × EndsSo p (items ++ c) f) (λ stop. FaultsOrCreates p (items ++ c))

    by_take : Goes (items ++ c) → (takes : Bool) (l : Left) → r.left ≡ l → (¬ (l ≡ through)) → Met (if takes then after_leaving l (λ x. merge [] x) (with_chunk r e) else Err at_cell) → ⊥
    by_take all false l is shut met = all.harmless met
    by_take all true through is shut met = shut refl
    by_take all true next_file is shut met = all.harmless met
    by_take all true (exit n) is shut met = shut (sym is ∙ sym (ap (λ (x : End Globals). x.left) met.0) ∙ all.through_is)
    by_take all true (fault f) is shut met = all.harmless met
    by_take all true clash is shut met = all.harmless met

    -- A chunk that is not left through ends the run, or the merge stops.
    stops : Goes items → HasRecord c → IsTold p (p.state.nr + length items) c r → (¬ (r.left ≡ through)) → Goes (items ++ c) → ⊥
    stops goes has told closed all = by_take all (all_take r.table e.world) r.left refl closed (law.one p may items e (comes items goes) c r has told)

  -- a chunk that is not left through has a record
  has_record : (nr : ℕ) (c : List Item) (r : Chunk) → IsTold p nr c r → (¬ (r.left ≡ through)) → HasRecord c
  has_record nr [] r told closed = absurd (closed (ap (λ (x : Chunk). x.left) told.2))
  has_record nr (i ∷ is) r told closed = tt

  -- the chunk after as many records as have come
  told_here : (nr here : ℕ) → (reads_number p.code ≡ true → nr ≡ here) → (c : List Item) (r : Chunk) → IsTold p nr c r → (¬ (r.left ≡ through)) → (reads : Bool) → reads_number p.code ≡ reads →
      (s : Chunk) × IsTold p here c s × (¬ (s.left ≡ through))
  told_here nr here known c r told closed true is = (r, subst (λ (n : ℕ). IsTold p n c r) (known is) told, closed)
  told_here nr here known c r told closed false is =
      let t = told_later law.none p is nr here c r told in
      (record r { state = t.0 }, t.1, closed)

  pub not_through : (items some : List Item) (before : ℕ) → (reads_number p.code ≡ true → before ≡ length items) → DoesNotGoThrough p (p.state.nr + before) some →
      (in_order p (items ++ some)).left ≡ through → (¬ FaultsOrCreates p (items ++ some)) → ⊥
  not_through items some before known h on none =
      let front = items ++ h.before in
      let all = items ++ (h.before ++ (h.chunk ++ h.after)) in
      let alike = law.renumbered p may all (items ++ some) (same_append items items (h.before ++ (h.chunk ++ h.after)) some (same_itself items) h.are) in
      let goes_all : Goes all = record {
        through_is = ap (λ (e : End Globals). e.left) alike.ends ∙ on;
        harmless = λ bad. none (alike.faults.0 bad);
      } in
      let grouped : all ≡ (front ++ h.chunk) ++ h.after = sym (append_assoc items h.before (h.chunk ++ h.after)) ∙ sym (append_assoc front h.chunk h.after) in
      let goes = first_go (front ++ h.chunk) h.after (subst (λ (is : List Item). Goes is) grouped goes_all) in
      let nr : reads_number p.code ≡ true → p.state.nr + before + length h.before ≡ p.state.nr + length front = λ reads. let k = known reads in omega (arith, k, length-append items h.before) in
      let told = told_here (p.state.nr + before + length h.before) (p.state.nr + length front) nr h.chunk h.result h.told h.stops (reads_number p.code) refl in
      stops front h.chunk told.0 (first_go front h.chunk goes) (has_record (p.state.nr + before + length h.before) h.chunk h.result h.told h.stops) told.1 told.2 goes
