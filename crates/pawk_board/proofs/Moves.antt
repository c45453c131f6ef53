-- What each move on the board's table owes.
use Rattle.std.proofs.Common.{◌≡◌, ◌⊎◌, ℕ, zero, suc, Contains, ◌+◌, ◌*◌, ◌-◌, ◌%◌, ◌^◌, ◌<◌, ◌≤◌, List, [], ◌∷◌, ◌++◌, length, set, replicate, All, sum_by, IsPermutation, min, Contains, refl, sym, ap, ◌∙◌, subst, ⊎_elim, arith, length-append, append_assoc}
use mathlib.Core.Option.{some, none, some-injective, some-ne-none}
use lib.ListN.{get_elem?}
use Rattle.std.specs.Prelude.{slice_index}
use Rattle.std.proofs.lemmas.List.{append-nil, length-replicate}
use Rattle.std.proofs.lemmas.Grind.{flat_map-append}
use Rattle.std.proofs.lemmas.Bool.Decides.{nat_tests}
use Rattle.std.proofs.lemmas.List.Elements.{All-head, All-weaker, All-replicate}
use Rattle.std.proofs.lemmas.List.Sorted.{length_permutation, sum_by-IsPermutation, All-permutation}
use Rattle.std.proofs.lemmas.List.Sums.{sum_by-append, sum_by-cons, sum_by_push, sum_by-le}
use Rattle.atomic_table.proofs.Lists.{set_else}
use Rattle.atomic_table.specs.Table.{Splits, Joins, Enters, Final, Seen, opening, State, Me, step, Allows, stepped}
use Rattle.atomic_table.specs.Table.Act.{keeps}
use Rattle.pawk_board.specs.declared.hand.Hand.{Hand}
use Rattle.pawk_board.specs.declared.hand.Terms.{Terms}
use Rattle.pawk_board.specs.History.{blank, drawn_by, told_by, SawStops, Lawful, drew, tells, sees}
use Rattle.pawk_board.specs.Rule.{hand_in, Tells, Looks, opening_hands, first_hand, other_hands, hands_of, over, past, Kept, Draws}
use Rattle.pawk_board.proofs.Cuts.{cut, moved_perm, all_front, all_back, all_at}
use Rattle.pawk_board.proofs.Histories.{lawful_start, all_drawn_below, told_above}
use Rattle.pawk_board.proofs.Steps.{lawful_draw, lawful_moved, lawful_tell, lawful_look}

-- the hands of all seats, where one seat of the table has the hands v
hands_at : (before after : List (List Hand)) (v : List Hand) → hands_of (before ++ v ∷ after) ≡ hands_of before ++ (v ++ hands_of after)
hands_at before after v = flat_map-append (λ (x : List Hand). x) before (v ∷ after)

-- each seat has drawn at most one number past the last chunk
few_past : (C : ℕ) (hands : List Hand) → All (λ h. past C h ≤ 1) hands → sum_by (past C) hands ≤ length hands
few_past C hands all = let h : sum_by (past C) hands ≤ length hands * 1 = sum_by-le (past C) 1 hands all in omega arith

over_cases : (C n : ℕ) → ((C ≤ n) × (over C n ≡ 1)) ⊎ ((n < C) × (over C n ≡ 0))
over_cases C n = grind (arith, nat_tests)

past_more : (C n : ℕ) (h : Hand) → past C (drew h n) ≡ past C h + over C n
past_more C n h = sum_by_push (over C) h.drawn n

past_none : (C : ℕ) (h : Hand) → All (λ n. n < C) h.drawn → past C h ≤ 0
past_none C h all =
    let e : sum_by (over C) h.drawn ≤ length h.drawn * 0 = sum_by-le (over C) 0 h.drawn (All-weaker (λ n. n < C) (λ n. over C n ≤ 0) (λ n l. ⊎_elim (λ t. omega arith) (λ t. omega arith) (over_cases C n)) h.drawn all) in
    omega arith

mod_small : (n : ℕ) → n < 2 ^ 32 → (n + 1) % 2 ^ 64 ≡ n + 1
mod_small n h = omega arith

-- the place among all of the seat of the table whose hands are v
record Spot (views : List (List Hand)) (id : ℕ) (v : List Hand) : Type 0 where
  A : List Hand
  B : List Hand
  were : hands_of views ≡ A ++ (v ++ B)
  are : (w : List Hand) → hands_of (set views id w) ≡ A ++ (w ++ B)

spot : (views : List (List Hand)) (id : ℕ) (v : List Hand) → get_elem? views id ≡ some v → Spot views id v
spot views id v at = let r = cut views id v at in record {
  A = hands_of r.before;
  B = hands_of r.after;
  were = ap hands_of r.is ∙ hands_at r.before r.after v;
  are = λ w. ap hands_of (r.sets w) ∙ hands_at r.before r.after w;
}

-- the counter stays small
small : (t : Terms) (s : State ℕ (List Hand)) (kept : Kept t s) → t.chunks ≤ 1048576 → t.workers ≤ 64 → kept.counter ≤ 1048640
small t s kept cs ws = let few = few_past t.chunks (hands_of s.views) kept.once in let b = kept.bound in let n = kept.seats in omega arith

keeps_draw : (t : Terms) (s : State ℕ (List Hand)) (id : ℕ) (h : Hand) (kept : Kept t s) → t.chunks ≤ 1048576 → t.workers ≤ 64 → All (λ n. n < t.chunks) h.drawn → (p : Spot s.views id (h ∷ []))
    → Kept t (stepped s 0 ((slice_index s.words 0 + 1) % 2 ^ 64) id [] (drew h kept.counter ∷ []) keeps)
keeps_draw t s id h kept cs ws undone p =
    let C = t.chunks in
    let n = kept.counter in
    let stop = kept.stop in
    let few = small t s kept cs ws in
    let H = p.A ++ h ∷ p.B in
    let H' = p.A ++ drew h n ∷ p.B in
    let is : hands_of (set s.views id (drew h n ∷ [])) ≡ H' = p.are (drew h n ∷ []) in
    let none = past_none C h undone in
    let more = past_more C n h in
    let cases = over_cases C n in
    record {
      counter = n + 1;
      stop = stop;
      words = subst (λ (ws : List ℕ). set ws 0 ((slice_index ws 0 + 1) % 2 ^ 64) ≡ (n + 1) ∷ stop ∷ []) (sym kept.words) (ap (λ (k : ℕ). k ∷ stop ∷ []) (mod_small n (omega arith)));
      seats = ap length is ∙ (omega (arith, length-append p.A (h ∷ p.B), length-append p.A (drew h n ∷ p.B), kept.seats, ap length p.were));
      lawful = subst (Lawful C (n + 1) stop) (sym is) (lawful_draw C n stop p.A p.B h (subst (Lawful C n stop) p.were kept.lawful));
      bound = (let was : n ≤ C + sum_by (past C) H = subst (λ (l : List Hand). n ≤ C + sum_by (past C) l) p.were kept.bound in
          subst (λ (l : List Hand). n + 1 ≤ C + sum_by (past C) l) (sym is)
          (⊎_elim
          (λ (c : (C ≤ n) × (over C n ≡ 1)). omega (arith, sum_by-append (past C) p.A (h ∷ p.B), sum_by-append (past C) p.A (drew h n ∷ p.B), sum_by-cons (past C) h p.B, sum_by-cons (past C) (drew h n) p.B))
          (λ (c : (n < C) × (over C n ≡ 0)). omega arith)
          cases));
      once = subst (All (λ (x : Hand). past C x ≤ 1)) (sym is)
          (all_at (λ (x : Hand). past C x ≤ 1) (λ (x : Hand). past C x ≤ 1) p.A p.B h (drew h n) (λ x l. l)
          (λ l. ⊎_elim (λ (c : (C ≤ n) × (over C n ≡ 1)). omega arith) (λ (c : (n < C) × (over C n ≡ 0)). omega arith) cases)
          (subst (All (λ (x : Hand). past C x ≤ 1)) p.were kept.once));
    }

draws_at : (t : Terms) (slots id : ℕ) (h : Hand) → t.chunks ≤ 1048576 → t.workers ≤ 64 → All (λ n. n < t.chunks) h.drawn
    → Allows (Kept t) slots id (h ∷ [], []) 0 (λ n. (n + 1) % 2 ^ 64) (Draws (step slots 0 1 0 none) (h ∷ [], []))
draws_at t slots id h cs ws undone s kept homes at range =
    let p = spot s.views id (h ∷ []) at in
    let n : kept.counter ≡ slice_index s.words 0 = sym (ap (λ (l : List ℕ). slice_index l 0) kept.words) in
    let all : All (λ m. m < kept.counter) (drawn_by (p.A ++ h ∷ p.B)) = all_drawn_below t.chunks kept.counter kept.stop (p.A ++ h ∷ p.B) (subst (Lawful t.chunks kept.counter kept.stop) p.were kept.lawful) in
    let below : All (λ m. m < kept.counter) (drawn_by p.A ++ (h.drawn ++ drawn_by p.B)) = subst (All (λ m. m < kept.counter)) (flat_map-append (λ (x : Hand). x.drawn) p.A (h ∷ p.B)) all in (
      drew h kept.counter ∷ [],
      keeps,
      tt,
      keeps_draw t s id h kept cs ws undone p,
      subst (λ (k : ℕ). Draws (step slots 0 1 0 none) (h ∷ [], []) k (drew h kept.counter ∷ [], [])) n
          (refl, all_front (λ m. m < kept.counter) h.drawn (drawn_by p.B) (all_back (λ m. m < kept.counter) (drawn_by p.A) (h.drawn ++ drawn_by p.B) below)),
    )

pub draws : (t : Terms) (slots id : ℕ) (me : Me ℕ (List Hand)) → t.chunks ≤ 1048576 → t.workers ≤ 64 → me ≡ (hand_in me.0 ∷ [], []) → All (λ n. n < t.chunks) (hand_in me.0).drawn
    → Allows (Kept t) slots id me 0 (λ n. (n + 1) % 2 ^ 64) (Draws (step slots 0 1 0 none) me)
draws t slots id me cs ws is undone =
    subst (λ (m : Me ℕ (List Hand)). Allows (Kept t) slots id m 0 (λ n. (n + 1) % 2 ^ 64) (Draws (step slots 0 1 0 none) m)) (sym is) (draws_at t slots id (hand_in me.0) cs ws undone)

-- a step of a seat that draws nothing
keeps_quiet : (t : Terms) (s : State ℕ (List Hand)) (id stop : ℕ) (words : List ℕ) (h w : Hand) (kept : Kept t s) (p : Spot s.views id (h ∷ [])) → words ≡ kept.counter ∷ stop ∷ [] → past t.chunks w ≡ past t.chunks h
    → Lawful t.chunks kept.counter stop (p.A ++ w ∷ p.B) → Kept t (record { words = words; homes = s.homes; views = set s.views id (w ∷ []) })
keeps_quiet t s id stop words h w kept p now same lawful =
    let C = t.chunks in
    let n = kept.counter in
    let H = p.A ++ h ∷ p.B in
    let H' = p.A ++ w ∷ p.B in
    let is : hands_of (set s.views id (w ∷ [])) ≡ H' = p.are (w ∷ []) in
    record {
      counter = n;
      stop = stop;
      words = now;
      seats = ap length is ∙ (omega (arith, length-append p.A (h ∷ p.B), length-append p.A (w ∷ p.B), kept.seats, ap length p.were));
      lawful = subst (Lawful C n stop) (sym is) lawful;
      bound = (let was : n ≤ C + sum_by (past C) H = subst (λ (l : List Hand). n ≤ C + sum_by (past C) l) p.were kept.bound in
          subst (λ (l : List Hand). n ≤ C + sum_by (past C) l) (sym is)
          (omega (arith, sum_by-append (past C) p.A (h ∷ p.B), sum_by-append (past C) p.A (w ∷ p.B), sum_by-cons (past C) h p.B, sum_by-cons (past C) w p.B)));
      once = subst (All (λ (x : Hand). past C x ≤ 1)) (sym is)
          (all_at (λ (x : Hand). past C x ≤ 1) (λ (x : Hand). past C x ≤ 1) p.A p.B h w (λ x l. l) (λ l. omega arith) (subst (All (λ (x : Hand). past C x ≤ 1)) p.were kept.once));
    }

tells_at : (t : Terms) (slots id k : ℕ) (h : Hand) → k < t.chunks → Contains h.drawn k
    → Allows (Kept t) slots id (h ∷ [], []) 1 (λ n. min n k) (Tells (step slots 1 k 0 none) (h ∷ [], []))
tells_at t slots id k h small mine s kept homes at range =
    let p = spot s.views id (h ∷ []) at in
    let words : set s.words 1 (min (slice_index s.words 1) k) ≡ kept.counter ∷ min kept.stop k ∷ [] =
    subst (λ (ws : List ℕ). set ws 1 (min (slice_index ws 1) k) ≡ kept.counter ∷ min kept.stop k ∷ []) (sym kept.words) refl in (
      tells h k ∷ [],
      keeps,
      tt,
      keeps_quiet t s id (min kept.stop k) (set s.words 1 (min (slice_index s.words 1) k)) h (tells h k) kept p words refl
          (lawful_tell t.chunks kept.counter kept.stop k p.A p.B h small mine (subst (Lawful t.chunks kept.counter kept.stop) p.were kept.lawful)),
      refl,
    )

pub tells_stop : (t : Terms) (slots id k : ℕ) (me : Me ℕ (List Hand)) → me ≡ (hand_in me.0 ∷ [], []) → k < t.chunks → Contains (hand_in me.0).drawn k
    → Allows (Kept t) slots id me 1 (λ n. min n k) (Tells (step slots 1 k 0 none) me)
tells_stop t slots id k me is small mine =
    subst (λ (m : Me ℕ (List Hand)). Allows (Kept t) slots id m 1 (λ n. min n k) (Tells (step slots 1 k 0 none) m)) (sym is) (tells_at t slots id k (hand_in me.0) small mine)

looks_at : (t : Terms) (slots id : ℕ) (h : Hand) → Allows (Kept t) slots id (h ∷ [], []) 1 (λ n. n) (Looks (step slots 1 0 0 none) (h ∷ [], []))
looks_at t slots id h s kept homes at range =
    let p = spot s.views id (h ∷ []) at in
    let C = t.chunks in
    let stop = kept.stop in
    let H = p.A ++ h ∷ p.B in
    let lawful : Lawful C kept.counter stop H = subst (Lawful C kept.counter stop) p.were kept.lawful in
    let found : stop ≡ slice_index s.words 1 = sym (ap (λ (l : List ℕ). slice_index l 1) kept.words) in
    let words : set s.words 1 (slice_index s.words 1) ≡ kept.counter ∷ stop ∷ [] =
    subst (λ (ws : List ℕ). set ws 1 (slice_index ws 1) ≡ kept.counter ∷ stop ∷ []) (sym kept.words) refl in
    let all : All (λ m. stop ≤ m) (told_by H) = told_above C kept.counter stop H lawful in
    let told : All (λ m. stop ≤ m) (told_by p.A ++ (h.told ++ told_by p.B)) = subst (All (λ m. stop ≤ m)) (flat_map-append (λ (x : Hand). x.told) p.A (h ∷ p.B)) all in
    let saw : SawStops stop (C ∷ told_by H) h = All-head (SawStops stop (C ∷ told_by H)) h p.B (all_back (SawStops stop (C ∷ told_by H)) p.A (h ∷ p.B) lawful.saw) in (
      sees h stop ∷ [],
      keeps,
      tt,
      keeps_quiet t s id stop (set s.words 1 (slice_index s.words 1)) h (sees h stop) kept p words refl (lawful_look C kept.counter stop p.A p.B h lawful),
      subst (λ (k : ℕ). Looks (step slots 1 0 0 none) (h ∷ [], []) k (sees h stop ∷ [], [])) found (
        refl,
        all_front (λ m. stop ≤ m) h.told (told_by p.B) (all_back (λ m. stop ≤ m) (told_by p.A) (h.told ++ told_by p.B) told),
        All-weaker (λ w. Contains (C ∷ told_by H) w × (stop ≤ w)) (λ w. stop ≤ w) (λ w q. q.1) h.saw saw,
      ),
    )

pub looks : (t : Terms) (slots id : ℕ) (me : Me ℕ (List Hand)) → me ≡ (hand_in me.0 ∷ [], []) → Allows (Kept t) slots id me 1 (λ n. n) (Looks (step slots 1 0 0 none) me)
looks t slots id me is =
    subst (λ (m : Me ℕ (List Hand)). Allows (Kept t) slots id m 1 (λ n. n) (Looks (step slots 1 0 0 none) m)) (sym is) (looks_at t slots id (hand_in me.0))

-- a seat of the board has one hand
pub one_hand : (me : Me ℕ (List Hand)) (h : Hand) → me ≡ (h ∷ [], []) → me ≡ (hand_in me.0 ∷ [], [])
one_hand me h e = e ∙ sym (ap (λ (m : Me ℕ (List Hand)). (hand_in m.0 ∷ [], [])) e)

-- the same hands, of which two neighbouring parts have changed places
record Moved (views after : List (List Hand)) : Type 0 where
  F : List Hand
  X : List Hand
  Y : List Hand
  G : List Hand
  were : hands_of views ≡ F ++ (X ++ (Y ++ G))
  are : hands_of after ≡ F ++ (Y ++ (X ++ G))

keeps_moved : (t : Terms) (s : State ℕ (List Hand)) (after : List (List Hand)) → Kept t s → Moved s.views after → Kept t (record { words = s.words; homes = s.homes; views = after })
keeps_moved t s after kept m =
    let C = t.chunks in
    let n = kept.counter in
    let H = m.F ++ (m.X ++ (m.Y ++ m.G)) in
    let H' = m.F ++ (m.Y ++ (m.X ++ m.G)) in
    let perm : IsPermutation H H' = moved_perm m.F m.X m.Y m.G in
    record {
      counter = n;
      stop = kept.stop;
      words = kept.words;
      seats = ap length m.are ∙ (length_permutation H H' perm ∙ (sym (ap length m.were) ∙ kept.seats));
      lawful = subst (Lawful C n kept.stop) (sym m.are) (lawful_moved C n kept.stop m.F m.X m.Y m.G (subst (Lawful C n kept.stop) m.were kept.lawful));
      bound = subst (λ (k : ℕ). n ≤ C + k) (sym (ap (sum_by (past C)) m.are ∙ (sum_by-IsPermutation (past C) H H' perm ∙ sym (ap (sum_by (past C)) m.were)))) kept.bound;
      once = subst (All (λ (x : Hand). past C x ≤ 1)) (sym m.are) (All-permutation (λ (x : Hand). past C x ≤ 1) H H' perm (subst (All (λ (x : Hand). past C x ≤ 1)) m.were kept.once));
    }

-- one seat of the table takes the hands of another
gathered : (views : List (List Hand)) (i j : ℕ) (v w : List Hand) → get_elem? views i ≡ some v → ¬ (j ≡ i) → get_elem? views j ≡ some w → Moved views (set (set views i (v ++ w)) j [])
gathered [] i j v w at apart there = absurd (some-ne-none v (sym at))
gathered (x ∷ xs) zero zero v w at apart there = absurd (apart refl)
gathered (x ∷ xs) zero (suc j) v w at apart there =
    let p = spot xs j w there in
    let e : x ≡ v = some-injective x v at in record {
      F = v;
      X = p.A;
      Y = w;
      G = p.B;
      were = ap (λ l. l ++ hands_of xs) e ∙ ap (λ l. v ++ l) p.were;
      are = ap (λ l. (v ++ w) ++ l) (p.are []) ∙ append_assoc v w (p.A ++ p.B);
    }
gathered (x ∷ xs) (suc i) zero v w at apart there =
    let p = spot xs i v at in
    let e : x ≡ w = some-injective x w there in record {
      F = [];
      X = w;
      Y = p.A ++ v;
      G = p.B;
      were = ap (λ l. l ++ hands_of xs) e ∙ ap (λ l. w ++ l) (p.were ∙ sym (append_assoc p.A v p.B));
      are = p.are (v ++ w) ∙ simp append_assoc;
    }
gathered (x ∷ xs) (suc i) (suc j) v w at apart there =
    let m = gathered xs i j v w at (λ e. apart (ap suc e)) there in record {
      F = x ++ m.F;
      X = m.X;
      Y = m.Y;
      G = m.G;
      were = ap (λ l. x ++ l) m.were ∙ sym (append_assoc x m.F (m.X ++ (m.Y ++ m.G)));
      are = ap (λ l. x ++ l) m.are ∙ sym (append_assoc x m.F (m.Y ++ (m.X ++ m.G)));
    }

pub joins : (t : Terms) (id : ℕ) (v : List Hand) (other : ℕ) (w : List Hand) → Joins (Kept t) id v other w (v ++ w) []
joins t id v other w s kept at apart there =
    keeps_moved t s (set (set s.views id (v ++ w)) other []) kept
    (gathered s.views id other v w at apart (sym (set_else s.views id other (v ++ w) apart) ∙ there))

-- the first hand of one seat of the table goes to a new one
dealt : (views : List (List Hand)) (id : ℕ) (h : Hand) (rest : List Hand) → get_elem? views id ≡ some (h ∷ rest) → Moved views (set views id rest ++ (h ∷ []) ∷ [])
dealt views id h rest at =
    let p = spot views id (h ∷ rest) at in record {
      F = p.A;
      X = h ∷ [];
      Y = rest ++ p.B;
      G = [];
      were = p.were ∙ ap (λ (l : List Hand). p.A ++ h ∷ l) (sym (append-nil (rest ++ p.B)));
      are = flat_map-append (λ (x : List Hand). x) (set views id rest) ((h ∷ []) ∷ []) ∙ (ap (λ (l : List Hand). l ++ h ∷ []) (p.are rest) ∙ append_assoc p.A (rest ++ p.B) (h ∷ []));
    }

-- a seat of the table that has no hands deals none
dealt_none : (views : List (List Hand)) (id : ℕ) → get_elem? views id ≡ some [] → Moved views (set views id [] ++ [] ∷ [])
dealt_none views id at =
    let p = spot views id [] at in record {
      F = p.A ++ p.B;
      X = [];
      Y = [];
      G = [];
      were = p.were ∙ sym (append-nil (p.A ++ p.B));
      are = flat_map-append (λ (x : List Hand). x) (set views id []) ([] ∷ []) ∙ ap (λ (l : List Hand). l ++ []) (p.are []);
    }

pub deals : (t : Terms) (id : ℕ) (v : List Hand) → Splits (Kept t) id v (other_hands v) (first_hand v)
deals t id [] s kept at = keeps_moved t s (set s.views id [] ++ [] ∷ []) kept (dealt_none s.views id at)
deals t id (h ∷ rest) s kept at = keeps_moved t s (set s.views id rest ++ (h ∷ []) ∷ []) kept (dealt s.views id h rest at)

pub enters : (t : Terms) (slots : ℕ) → Enters (Kept t) slots 0 (λ n w. ◌≡◌ {A = Me ℕ (List Hand)} (w, []) ([], []))
enters t slots s kept homes range = ([], keeps_moved t s (s.views ++ [] ∷ []) kept same, refl)
  where
    same : Moved s.views (s.views ++ [] ∷ [])
    same = record {
      F = hands_of s.views;
      X = [];
      Y = [];
      G = [];
      were = sym (append-nil (hands_of s.views));
      are = flat_map-append (λ (x : List Hand). x) s.views ([] ∷ []);
    }

-- the rule holds of a new table
pub begins : (t : Terms) → Kept t (opening (0 ∷ t.chunks ∷ []) [] (opening_hands t))
begins t =
    let C = t.chunks in
    let H : List Hand = replicate t.workers blank in
    let is : hands_of (H ∷ []) ≡ H = append-nil H in
    record {
      counter = 0;
      stop = C;
      words = refl;
      seats = ap length is ∙ length-replicate t.workers blank;
      lawful = subst (Lawful C 0 C) (sym is) (lawful_start C t.workers);
      bound = omega arith;
      once = subst (All (λ (x : Hand). past C x ≤ 1)) (sym is) (All-replicate (λ (x : Hand). past C x ≤ 1) t.workers blank (omega arith));
    }

-- where one seat of the table has the hands of all seats
pub ends : (t : Terms) (id : ℕ) (v : List Hand) (words xs : List ℕ) (n stop : ℕ) → Final (Seen (Kept t) id v) words xs → length v ≡ t.workers → get_elem? words 0 ≡ some n → get_elem? words 1 ≡ some stop
    → Lawful t.chunks n stop v
ends t id v words xs n stop final all at at' =
    let s = final.0 in
    let kept = final.1.0 in
    let p = spot s.views id v final.1.1 in
    let long : length (p.A ++ (v ++ p.B)) ≡ length v = sym (ap length p.were) ∙ (kept.seats ∙ sym all) in
    let none : length p.A + length p.B ≡ 0 = omega (arith, length-append p.A (v ++ p.B), length-append v p.B) in
    let front : p.A ≡ [] = nil_of p.A (omega arith) in
    let back : p.B ≡ [] = nil_of p.B (omega arith) in
    let is : hands_of s.views ≡ v = p.were ∙ ((λ i. front i ++ (v ++ back i)) ∙ append-nil v) in
    let count : kept.counter ≡ n = some-injective kept.counter n (subst (λ (l : List ℕ). get_elem? l 0 ≡ some n) (sym final.2 ∙ kept.words) at) in
    let least : kept.stop ≡ stop = some-injective kept.stop stop (subst (λ (l : List ℕ). get_elem? l 1 ≡ some stop) (sym final.2 ∙ kept.words) at') in
    subst (λ (k : ℕ). Lawful t.chunks k stop v) count (subst (λ (k : ℕ). Lawful t.chunks kept.counter k v) least (subst (Lawful t.chunks kept.counter kept.stop) is kept.lawful))
  where
    nil_of : (l : List Hand) → length l ≡ 0 → l ≡ []
    nil_of [] e = refl
    nil_of (x ∷ l) e = absurd (omega arith)

-- while seats are left, one of them is dealt
pub more_left : (w c : ℕ) → c < w → replicate (w - c) blank ≡ blank ∷ replicate (w - (c + 1)) blank
more_left w c h = let e : w - c ≡ suc (w - (c + 1)) = omega arith in ap (λ k. replicate k blank) e
