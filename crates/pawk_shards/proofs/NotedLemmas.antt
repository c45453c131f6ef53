-- What a chunk notes of its cells.
use Rattle.std.proofs.Common.{◌≡◌, ℕ, ℤ, zero, suc, ◌+ℤ◌, Bool, true, false, if◌then◌else◌, List, [], ◌∷◌, Option, Some, None, Result, Ok, Err, refl, ap, sym, ◌∙◌, subst, length, inl, ⊎_elim, arith}
use Rattle.std.proofs.lemmas.Int.{ints, clamps}
use Rattle.std.proofs.lemmas.List.{length-replicate}
use Rattle.std.specs.Prelude.{replicate, slice_set, slice_index_or, ◌≤ℤ◌}
use Rattle.std.specs.Int.{int_min, int_max}
use Rattle.std.specs.Option.{unwrap_or}
use Rattle.std.specs.Str.{bytes_eq}
use Rattle.std.specs.FinMap.Entries.{find, find-put}
use Rattle.std.specs.Cmp.Lexicographic.{nat_list_cmp_total, texts_ties}
use Rattle.pawk_value.specs.declared.faults.Fault.{Fault}
use Rattle.pawk_value.specs.declared.faults.Fault.TheVariants as fault
use Rattle.pawk_value.specs.Value.{Val}
use Rattle.pawk_keyed_map.specs.Keyed.{order}
use Rattle.pawk_array.specs.Entries.{found}
use Rattle.pawk_code.specs.declared.word.Sign.{Sign}
use Rattle.pawk_world.specs.Halts as halt
use Rattle.pawk_world.specs.Worlds.{Cell, scalar, element, Request, Answer}
use Rattle.pawk_world.specs.Worlds as request
use Rattle.pawk_store.specs.Globals.{array_at}
use Rattle.pawk_admit.specs.declared.role.Role.{Role}
use Rattle.pawk_admit.specs.declared.role.Role.TheVariants.{Fixed, Adder, Setter, Reader}
use Rattle.pawk_admit.specs.Roles.{role_of_scalar, role_of_array}
use Rattle.pawk_frozen.specs.Marks.{Mark, blank, summed, last_put, created, with_amount, Marks, mark_found, put_mark, Table, blank_table, mark_at, with_mark}
use Rattle.pawk_frozen.specs.Frozens.{Frozen, signed_amount, is_sum, kept_mark, with_sum, missing, found_or_missing, noted, blank_world, calls}
use Rattle.pawk_store.specs.Records.{through, End}
use Rattle.pawk_store.specs.Laws.{SameEnd, RecordsLaw}
use Rattle.pawk_store.specs.Lockstep.{access_of, resource_of, refusal_of, SameAnswer, AreInLockstep, FirstGoesOn, SecondGoesOn}
use Rattle.pawk_commute.specs.Agreement.{Suits}
use Rattle.pawk_commute.specs.Settings.{PermitsFor, role_of_cell}
use Rattle.pawk_commute.proofs.CellLaws.{table_with}
use Rattle.pawk_commute.proofs.OrderLemmas.{chunk_final}
use Rattle.pawk_commute.proofs.TracedLemmas.{any_refusal}
use Rattle.pawk_merge.specs.Merges.{Chunk}
use Rattle.pawk_merge_law.specs.Phases.{Phase}
use Rattle.pawk_merge_law.specs.ChunkedRuns.{chunk_end}
use Rattle.pawk_shards.specs.Joined.{IsBetween, IsNoted, ComposesLaw, AreNoted, noted_pair, NotesLaw, NotedAgainLaw}

-- ---- one mark

itself_between : (y : ℤ) → IsBetween (summed y y y)
itself_between y = (omega (arith, ints), omega (arith, ints))

one_more : (a b c y : ℤ) → b ≤ℤ a → a ≤ℤ c → IsBetween (summed (a +ℤ y) (int_min b (a +ℤ y)) (int_max c (a +ℤ y)))
one_more a b c y low high = (omega (arith, ints, clamps), omega (arith, ints, clamps))

amount_between : (y : ℤ) (m : Mark) → IsBetween m → IsBetween (with_amount y m)
amount_between y blank h = itself_between y
amount_between y (summed a b c) h = one_more a b c y h.0 h.1
amount_between y (last_put v) h = itself_between y
amount_between y created h = itself_between y

both_between : (a b c d e f : ℤ) → b ≤ℤ a → a ≤ℤ c → e ≤ℤ d → d ≤ℤ f → IsBetween (summed (a +ℤ d) (int_min b (a +ℤ e)) (int_max c (a +ℤ f)))
both_between a b c d e f low high low2 high2 = (omega (arith, ints, clamps, low2), omega (arith, ints, clamps, high2))

-- No cell has two roles.
two_roles : (r s t : Role) → r ≡ s → r ≡ t → s ≡ t
two_roles r s t h k = sym h ∙ k

pub composes : ComposesLaw
composes r blank blank h k = (blank, refl, k)
composes r blank (summed d e f) h k = (summed d e f, refl, k)
composes r blank (last_put v) h k = (last_put v, refl, k)
composes r blank created h k = (created, refl, k)
composes r (summed a b c) blank h k = (summed a b c, refl, h)
composes r (summed a b c) (summed d e f) h k = (
  summed (a +ℤ d) (int_min b (a +ℤ e)) (int_max c (a +ℤ f)),
  refl,
  record { suits = h.suits; between = both_between a b c d e f h.between.0 h.between.1 k.between.0 k.between.1 },
)
composes r (summed a b c) (last_put v) h k = absurd (let bad : Adder ≡ Setter = two_roles r Adder Setter h.suits k.suits in cc)
composes r (summed a b c) created h k = absurd (let bad : Adder ≡ Reader = two_roles r Adder Reader h.suits k.suits in cc)
composes r (last_put u) blank h k = (last_put u, refl, h)
composes r (last_put u) (summed d e f) h k = absurd (let bad : Setter ≡ Adder = two_roles r Setter Adder h.suits k.suits in cc)
composes r (last_put u) (last_put v) h k = (last_put v, refl, k)
composes r (last_put u) created h k = absurd (let bad : Setter ≡ Reader = two_roles r Setter Reader h.suits k.suits in cc)
composes r created blank h k = (created, refl, h)
composes r created (summed d e f) h k = absurd (let bad : Reader ≡ Adder = two_roles r Reader Adder h.suits k.suits in cc)
composes r created (last_put v) h k = absurd (let bad : Reader ≡ Setter = two_roles r Reader Setter h.suits k.suits in cc)
composes r created created h k = (created, refl, k)

-- ---- a table

module _ {X : Type 0} where
  -- What holds of a slot holds after one is set, where it holds of what is set if that is the slot.
  set_keeps : (P : X → Type 0) (xs : List X) (n k : ℕ) (x d : X) → (k ≡ n → P x) → P (slice_index_or xs k d) → P (slice_index_or (slice_set xs n x) k d)
  set_keeps P [] n k x d h g = g
  set_keeps P (y ∷ xs) zero zero x d h g = h refl
  set_keeps P (y ∷ xs) zero (suc k) x d h g = g
  set_keeps P (y ∷ xs) (suc n) zero x d h g = g
  set_keeps P (y ∷ xs) (suc n) (suc k) x d h g = set_keeps P xs n k x d (λ e. h (ap suc e)) g

  -- Each slot of so many alike has that.
  alike_at : (x : X) (n k : ℕ) → slice_index_or (replicate n x) k x ≡ x
  alike_at x zero k = refl
  alike_at x (suc n) zero = refl
  alike_at x (suc n) (suc k) = alike_at x n k

nothing_noted : (r : Role) → IsNoted r blank
nothing_noted r = record { suits = tt; between = tt }

module _ (r : Role) where
  -- the marks of an array of this role
  abbrev EachNoted : Marks → Type 0
  EachNoted marks = (key : List ℕ) → IsNoted r (mark_found key marks)

  either_noted : (b : Bool) (m : Mark) (o : Option Mark) → IsNoted r m → IsNoted r (unwrap_or o blank) → IsNoted r (unwrap_or (if b then Some m else o) blank)
  either_noted true m o h k = h
  either_noted false m o h k = k

  put_noted : (key : List ℕ) (m : Mark) (marks : Marks) → IsNoted r m → EachNoted marks → EachNoted (put_mark key m marks)
  put_noted key m marks h each = λ other.
      let after : find order other (put_mark key m marks) ≡ (if bytes_eq other key then Some m else find order other marks) =
      rw (texts_ties other key) (find-put order nat_list_cmp_total other key m marks) in
      subst (λ o. IsNoted r (unwrap_or o blank)) (sym after) (either_noted (bytes_eq other key) m (find order other marks) h (each other))

module _ (p : Phase) where
  -- the marks may be noted of their cells
  abbrev EachMark : Table → Type 0
  EachMark table = (c : Cell) → IsNoted (role_of_cell p.roles c) (mark_at c table)

  marks_with : (c : Cell) (m : Mark) (t : Table) → IsNoted (role_of_cell p.roles c) m → EachMark t → EachMark (with_mark c m t)
  marks_with (scalar n) m t h each (scalar k) =
      set_keeps (IsNoted (role_of_scalar p.roles k)) t.scalars n k m blank (λ e. subst (λ j. IsNoted (role_of_scalar p.roles j) m) (sym e) h) (each (scalar k))
  marks_with (scalar n) m t h each (element k other) = each (element k other)
  marks_with (element n key) m t h each (scalar k) = each (scalar k)
  marks_with (element n key) m t h each (element k other) =
      set_keeps (EachNoted (role_of_array p.roles k)) t.arrays n k (put_mark key m (slice_index_or t.arrays n [])) []
      (λ e. subst (λ j. EachNoted (role_of_array p.roles j) (put_mark key m (slice_index_or t.arrays n []))) (sym e)
      (put_noted (role_of_array p.roles n) key m (slice_index_or t.arrays n []) h (λ q. each (element n q))))
      (λ q. each (element k q))
      other

  mark_noted : (c : Cell) (m : Mark) (t : Table) → IsNoted (role_of_cell p.roles c) m → AreNoted p t → AreNoted p (with_mark c m t)
  mark_noted c m t h noted = record { slots = table_with c m t p.globals noted.slots; marks = marks_with c m t h noted.marks }

  blank_marks : (m n : ℕ) → EachMark (blank_table m n)
  blank_marks m n (scalar k) = subst (IsNoted (role_of_scalar p.roles k)) (sym (alike_at blank m k)) (nothing_noted (role_of_scalar p.roles k))
  blank_marks m n (element k key) =
      subst (EachNoted (role_of_array p.roles k)) (sym (alike_at [] n k)) (λ q. nothing_noted (role_of_array p.roles k)) key

  blank_noted : AreNoted p (blank_table (length p.globals.scalars) (length p.globals.arrays))
  blank_noted = record {
    slots = (length-replicate (length p.globals.scalars) blank, length-replicate (length p.globals.arrays) []);
    marks = blank_marks (length p.globals.scalars) (length p.globals.arrays);
  }

-- ---- what a chunk is answered

-- two answers, either of which is such
either_so : {X : Type 0} (A : Frozen → Frozen → Type 0) (b : Bool) (x y : Answer Frozen X) → SameAnswer A x x → SameAnswer A y y → SameAnswer A (if b then x else y) (if b then x else y)
either_so A true x y h k = h
either_so A false x y h k = k

module _ (p : Phase) where
  abbrev Alike : Frozen → Frozen → Type 0
  Alike s t = (s ≡ t) × (s.roles ≡ p.roles) × AreNoted p s.table

  module _ (s : Frozen) (roles : s.roles ≡ p.roles) (each : AreNoted p s.table) where
    -- nothing more is noted
    stays : Alike s s
    stays = (refl, roles, each)

    -- this mark is noted of a cell
    notes : (c : Cell) (m : Mark) → IsNoted (role_of_cell p.roles c) m → Alike (noted c m s) (noted c m s)
    notes c m h = (refl, roles, mark_noted p c m s.table h each)

    add_so : (c : Cell) (m : Mark) → IsNoted (role_of_cell p.roles c) m → SameAnswer Alike (kept_mark c m s) (kept_mark c m s)
    add_so c blank h = (refl, stays)
    add_so c (summed a b g) h =
        either_so Alike (is_sum a) (request.gives tt (noted c (summed a b g) s)) (request.halts (halt.fault fault.Overflow) s)
        (refl, notes c (summed a b g) h)
        (refl, stays)
    add_so c (last_put v) h = (refl, stays)
    add_so c created h = (refl, stays)

    -- amounts suit an adder
    adds : (r : Role) (y : ℤ) (m : Mark) → r ≡ Adder → Suits (with_amount y m) r
    adds r y blank h = h
    adds r y (summed a b c) h = h
    adds r y (last_put v) h = h
    adds r y created h = h

    sum_so : (c : Cell) (sign : Sign) (r : Result ℤ Fault) → role_of_cell p.roles c ≡ Adder → SameAnswer Alike (with_sum c sign r s) (with_sum c sign r s)
    sum_so c sign (Err f) may = (refl, stays)
    sum_so c sign (Ok y) may =
        let m = mark_at c s.table in
        let amount = signed_amount sign y in
        add_so c (with_amount amount m) (record { suits = adds (role_of_cell p.roles c) amount m may; between = amount_between amount m (each.marks c).between })

    missing_so : (n : ℕ) (key : List ℕ) (r : Role) → role_of_array p.roles n ≡ r → SameAnswer Alike (missing n key r s) (missing n key r s)
    missing_so n key Reader is = (refl, notes (element n key) created (record { suits = is; between = tt }))
    missing_so n key Fixed is = (refl, stays)
    missing_so n key Adder is = (refl, stays)
    missing_so n key Setter is = (refl, stays)

    read_so : (n : ℕ) (key : List ℕ) (o : Option Val) → SameAnswer Alike (found_or_missing n key o s) (found_or_missing n key o s)
    read_so n key (Some v) = (refl, stays)
    read_so n key None = missing_so n key (role_of_array s.roles n) (ap (λ x. role_of_array x n) (sym roles))

    answer_so : (q : Request) → PermitsFor p.code p.roles (access_of q) (resource_of q) → SameAnswer Alike (calls.ask q s) (calls.ask q s)
    answer_so (request.read n key) may = read_so n key (found key (array_at s.fixed n))
    answer_so (request.old n key) may = (refl, stays)
    answer_so (request.write c v) may = (refl, notes c (last_put v) (record { suits = may; between = tt }))
    answer_so (request.add sign c r) may = sum_so c sign r may
    answer_so (request.test n key) may = (refl, stays)
    answer_so (request.remove n key) may = (refl, stays)
    answer_so (request.clear n) may = (refl, stays)
    answer_so (request.keys n) may = (refl, stays)

  in_lockstep : AreInLockstep (noted_pair p)
  in_lockstep = record {
    look = λ n may s t h. ap (calls.look n) h.0;
    ask = λ q may s t h. inl (subst (λ u. SameAnswer Alike (calls.ask q s) (calls.ask q u)) h.0 (answer_so s h.1 h.2 q may));
  }

  abbrev first_goes_on : FirstGoesOn (noted_pair p)
  first_goes_on = record {
    here = λ s. tt;
    then = λ s t u h k. tt;
    ask = λ q may s. tt;
    ends = λ h. true;
    at_fault = λ f. refl;
    at_next = refl;
    at_next_file = λ may. refl;
    at_exit = λ n. refl;
    refuses = λ q may s. any_refusal (refusal_of (calls.ask q s));
  }

  abbrev second_goes_on : SecondGoesOn (noted_pair p)
  second_goes_on = record {
    here = λ s. tt;
    then = λ s t u h k. tt;
    ask = λ q may s. tt;
    ends = λ h. true;
    at_fault = λ f. refl;
    at_next = refl;
    at_next_file = λ may. refl;
    at_exit = λ n. refl;
    refuses = λ q may s. any_refusal (refusal_of (calls.ask q s));
  }

pub notes_so : ((p : Phase) → RecordsLaw (noted_pair p)) → NotesLaw
notes_so law p may nr chunk c told =
    let e : End Frozen = record { world = blank_world p.globals p.roles; state = told.0; output = []; left = through } in
    let f = chunk_end p told.0 chunk in
    let begins : SameEnd (noted_pair p) e e = record {
      worlds = (refl, refl, blank_noted p);
      states = refl;
      outputs = refl;
      lefts = refl;
    } in
    let all = law p (in_lockstep p) (first_goes_on p) (second_goes_on p) chunk_final chunk_final p.eres p.code may.allows p.budget None chunk e e begins tt tt in
    ⊎_elim
    (λ (same : SameEnd (noted_pair p) f f). subst (λ (d : Chunk). AreNoted p d.table) (sym told.2) same.worlds.2)
    (λ parted. absurd parted.parts_there)
    all.0

-- Two tables as one.
pub noted_again : NotedAgainLaw
noted_again p t u w h k is slots = record { slots = slots; marks = marks } where
  marks : (c : Cell) → IsNoted (role_of_cell p.roles c) (mark_at c w)
  marks c =
      let there = composes (role_of_cell p.roles c) (mark_at c t) (mark_at c u) (h.marks c) (k.marks c) in
      subst (IsNoted (role_of_cell p.roles c)) (ap (λ o. unwrap_or o blank) (sym there.1 ∙ is c)) there.2
