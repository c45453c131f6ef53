-- What a worker has done after some draws.
use Rattle.std.proofs.Common.{◌≡◌, ℕ, ◌<◌, ◌≤◌, List, [], ◌∷◌, ◌++◌, filter, All, AllPairs, Bool, true, false, cond, refl, sym, ap, ◌∙◌, subst, inl, inr, ⊎_elim, arith, append_assoc}
use Rattle.std.proofs.lemmas.List.{map-append, append-nil}
use Rattle.std.proofs.lemmas.List.Quantifiers.{all_pairs_push}
use Rattle.std.proofs.lemmas.List.Elements.{All-nil, All-push, All-weaker, Contains-append_left, Contains-push}
use Rattle.pawk_board.proofs.Cuts.{all_back}
use Rattle.pawk_board.specs.declared.hand.Hand.{Hand}
use Rattle.pawk_board.specs.History.{drew, tells, sees}
use Rattle.pawk_merge.specs.declared.chunk_result.ChunkResult.{ChunkResult}
use Rattle.pawk_chunks.specs.Worker.{Numbered, Mark, Skips, Runs, RanOrSeen, HasWorked, numbers, stopping, marked, ran_of, stops}

-- what a worker has done so far
pub record SoFar (start now : Hand) (chunks : ℕ) (results : List Numbered) : Type 0 where
  pub undone : All (λ n. n < chunks) now.drawn
  pub marks : List Mark
  pub drawn : now.drawn ≡ start.drawn ++ marked marks
  pub rises : AllPairs (λ a b. a < b) (marked marks)
  pub below : All (λ (m : Mark). m.0 < chunks) marks
  pub ran : numbers results ≡ ran_of marks
  pub seen : All (RanOrSeen now.saw) marks
  pub told : now.told ≡ start.told ++ stopping results

filter_push : {A : Type 0} (p : A → Bool) (xs : List A) (x : A) → filter p (xs ++ x ∷ []) ≡ filter p xs ++ cond (p x) (x ∷ []) []
filter_push p [] x = refl
filter_push p (y ∷ ys) x = pick (p y) (filter_push p ys x)
  where
    pick : (b : Bool) → filter p (ys ++ x ∷ []) ≡ filter p ys ++ cond (p x) (x ∷ []) [] → cond b (y ∷ filter p (ys ++ x ∷ [])) (filter p (ys ++ x ∷ [])) ≡ cond b (y ∷ filter p ys) (filter p ys) ++ cond (p x) (x ∷ []) []
    pick true e = ap (λ l. y ∷ l) e
    pick false e = e

marked_push : (marks : List Mark) (n : ℕ) (b : Bool) → marked (marks ++ (n, b) ∷ []) ≡ marked marks ++ n ∷ []
marked_push marks n b = map-append (λ (m : Mark). m.0) marks ((n, b) ∷ [])

ran_push : (marks : List Mark) (n : ℕ) → ran_of (marks ++ (n, true) ∷ []) ≡ ran_of marks ++ n ∷ []
ran_push marks n = ap marked (filter_push (λ (m : Mark). m.1) marks (n, true)) ∙ map-append (λ (m : Mark). m.0) (filter (λ (m : Mark). m.1) marks) ((n, true) ∷ [])

skip_push : (marks : List Mark) (n : ℕ) → ran_of (marks ++ (n, false) ∷ []) ≡ ran_of marks
skip_push marks n = ap marked (filter_push (λ (m : Mark). m.1) marks (n, false)) ∙ (map-append (λ (m : Mark). m.0) (filter (λ (m : Mark). m.1) marks) [] ∙ append-nil (ran_of marks))

-- what was seen stays seen
seen_more : (saw : List ℕ) (w : ℕ) (marks : List Mark) → All (RanOrSeen saw) marks → All (RanOrSeen (saw ++ w ∷ [])) marks
seen_more saw w marks = All-weaker (RanOrSeen saw) (RanOrSeen (saw ++ w ∷ [])) (λ m. ⊎_elim (λ r. inl r) (λ s. inr (s.0, s.1, Contains-append_left saw (w ∷ []) s.0 s.2))) marks

drawn_more : (start now : Hand) (marks : List Mark) (n : ℕ) (b : Bool) → now.drawn ≡ start.drawn ++ marked marks → now.drawn ++ n ∷ [] ≡ start.drawn ++ marked (marks ++ (n, b) ∷ [])
drawn_more start now marks n b e =
    ap (λ l. l ++ n ∷ []) e ∙ (append_assoc start.drawn (marked marks) (n ∷ []) ∙ ap (λ l. start.drawn ++ l) (sym (marked_push marks n b)))

-- the numbers that were drawn rise, and one above all that the seat drew is put after them
rises_with : (start now : Hand) (marks : List Mark) (n : ℕ) → now.drawn ≡ start.drawn ++ marked marks → AllPairs (λ a b. a < b) (marked marks) → All (λ m. m < n) now.drawn → AllPairs (λ a b. a < b) (marked marks ++ n ∷ [])
rises_with start now marks n e up less =
    all_pairs_push (λ a b. a < b) (marked marks) n up (all_back (λ m. m < n) start.drawn (marked marks) (subst (All (λ m. m < n)) e less))

rises_more : (start now : Hand) (marks : List Mark) (n : ℕ) (b : Bool) → now.drawn ≡ start.drawn ++ marked marks → AllPairs (λ a b. a < b) (marked marks) → All (λ m. m < n) now.drawn → AllPairs (λ a b. a < b) (marked (marks ++ (n, b) ∷ []))
rises_more start now marks n b e up less = subst (AllPairs (λ a b. a < b)) (sym (marked_push marks n b)) (rises_with start now marks n e up less)

pub begins : (h : Hand) (C : ℕ) → All (λ n. n < C) h.drawn → SoFar h h C []
begins h C undone = record {
  undone = undone;
  marks = [];
  drawn = sym (append-nil h.drawn);
  rises = λ i j d le lt. absurd (omega arith);
  below = All-nil (λ (m : Mark). m.0 < C);
  ran = refl;
  seen = All-nil (RanOrSeen h.saw);
  told = sym (append-nil h.told);
}

pub skips : (start h : Hand) (C n : ℕ) (results : List Numbered) (k : Hand) → SoFar start h C results → n < C → All (λ m. m < n) h.drawn → Skips (drew h n) n k → SoFar start k C results
skips start h C n results k p small less s =
    let marks = p.marks ++ (n, false) ∷ [] in
    let at : SoFar start (sees (drew h n) s.0) C results = record {
      undone = All-push (λ m. m < C) h.drawn n p.undone small;
      marks = marks;
      drawn = drawn_more start h p.marks n false p.drawn;
      rises = rises_more start h p.marks n false p.drawn p.rises less;
      below = All-push (λ (m : Mark). m.0 < C) p.marks (n, false) p.below small;
      ran = p.ran ∙ sym (skip_push p.marks n);
      seen = All-push (RanOrSeen (h.saw ++ s.0 ∷ [])) p.marks (n, false) (seen_more h.saw s.0 p.marks p.seen) (inr (s.0, s.1, Contains-push h.saw s.0));
      told = p.told;
    } in
    subst (λ (x : Hand). SoFar start x C results) (sym s.2) at

stopping_push : (results : List Numbered) (q : Numbered) → stopping (results ++ q ∷ []) ≡ stopping results ++ cond (stops q.1.left) (q.0 ∷ []) []
stopping_push results q =
    ap numbers (filter_push (λ (r : Numbered). stops r.1.left) results q)
    ∙ (map-append (λ (r : Numbered). r.0) (filter (λ (r : Numbered). stops r.1.left) results) (cond (stops q.1.left) (q ∷ []) []) ∙ ap (λ l. stopping results ++ l) (one (stops q.1.left)))
  where
    one : (b : Bool) → numbers (cond b (q ∷ []) []) ≡ cond b (q.0 ∷ []) []
    one true = refl
    one false = refl

pub runs : (start h : Hand) (C n : ℕ) (results : List Numbered) (r : ChunkResult) (k : Hand) → SoFar start h C results → n < C → All (λ m. m < n) h.drawn → Runs (drew h n) n (stops r.left) k → SoFar start k C (results ++ (n, r) ∷ [])
runs start h C n results r k p small less s =
    let marks = p.marks ++ (n, true) ∷ [] in
    let ran : numbers (results ++ (n, r) ∷ []) ≡ ran_of marks = map-append (λ (x : Numbered). x.0) results ((n, r) ∷ []) ∙ (ap (λ l. l ++ n ∷ []) p.ran ∙ sym (ran_push p.marks n)) in
    let seen : All (RanOrSeen (h.saw ++ s.0 ∷ [])) marks = All-push (RanOrSeen (h.saw ++ s.0 ∷ [])) p.marks (n, true) (seen_more h.saw s.0 p.marks p.seen) (inl refl) in
    let drawn = drawn_more start h p.marks n true p.drawn in
    let up = rises_more start h p.marks n true p.drawn p.rises less in
    let under = All-push (λ m. m < C) h.drawn n p.undone small in
    let all = All-push (λ (m : Mark). m.0 < C) p.marks (n, true) p.below small in
    subst (λ (x : Hand). SoFar start x C (results ++ (n, r) ∷ [])) (sym s.1) (by_end s.0 marks ran seen drawn up under all p.told (stops r.left) refl)
  where
    by_end : (w : ℕ) (marks : List Mark) → numbers (results ++ (n, r) ∷ []) ≡ ran_of marks → All (RanOrSeen (h.saw ++ w ∷ [])) marks → h.drawn ++ n ∷ [] ≡ start.drawn ++ marked marks → AllPairs (λ a b. a < b) (marked marks)
        → All (λ m. m < C) (h.drawn ++ n ∷ []) → All (λ (m : Mark). m.0 < C) marks → h.told ≡ start.told ++ stopping results
        → (b : Bool) → stops r.left ≡ b → SoFar start (cond b (tells (sees (drew h n) w) n) (sees (drew h n) w)) C (results ++ (n, r) ∷ [])
    by_end w marks ran seen drawn up under all told true e = record {
      undone = under;
      marks = marks;
      drawn = drawn;
      rises = up;
      below = all;
      ran = ran;
      seen = seen;
      told = ap (λ l. l ++ n ∷ []) told ∙ (append_assoc start.told (stopping results) (n ∷ []) ∙ ap (λ l. start.told ++ l) (ap (λ b. stopping results ++ cond b (n ∷ []) []) (sym e) ∙ sym (stopping_push results (n, r))));
    }
    by_end w marks ran seen drawn up under all told false e = record {
      undone = under;
      marks = marks;
      drawn = drawn;
      rises = up;
      below = all;
      ran = ran;
      seen = seen;
      told = told ∙ ap (λ l. start.told ++ l) (sym (append-nil (stopping results)) ∙ (ap (λ b. stopping results ++ cond b (n ∷ []) []) (sym e) ∙ sym (stopping_push results (n, r))));
    }

pub skips_drawn : (h : Hand) (n : ℕ) (k : Hand) → Skips (drew h n) n k → k.drawn ≡ h.drawn ++ n ∷ []
skips_drawn h n k s = ap (λ (x : Hand). x.drawn) s.2

pub runs_drawn : (h : Hand) (n : ℕ) (stop : Bool) (k : Hand) → Runs (drew h n) n stop k → k.drawn ≡ h.drawn ++ n ∷ []
runs_drawn h n stop k r = ap (λ (x : Hand). x.drawn) r.1 ∙ by_end stop
  where
    by_end : (b : Bool) → (cond b (tells (sees (drew h n) r.0) n) (sees (drew h n) r.0)).drawn ≡ h.drawn ++ n ∷ []
    by_end true = refl
    by_end false = refl

-- the worker was told that no chunk is left
pub done : (start h : Hand) (C n : ℕ) (results : List Numbered) (k : Hand) → SoFar start h C results → C ≤ n → All (λ m. m < n) h.drawn → k ≡ drew h n → HasWorked C start k results
done start h C n results k p past less e =
    let at : HasWorked C start (drew h n) results = record {
      marks = p.marks;
      last = n;
      drawn = ap (λ l. l ++ n ∷ []) p.drawn ∙ append_assoc start.drawn (marked p.marks) (n ∷ []);
      rises = rises_with start h p.marks n p.drawn p.rises less;
      past = past;
      below = p.below;
      ran = p.ran;
      seen = p.seen;
      told = p.told;
    } in
    subst (λ (x : Hand). HasWorked C start x results) (sym e) at
