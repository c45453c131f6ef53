-- What a store and a chunk answer where they agree.
use Rattle.std.proofs.Common.{◌≡◌, ◌<◌, ℕ, ℤ, pos, ◌+ℤ◌, List, [], ◌∷◌, ◌++◌, Option, Some, None, true, false, if◌then◌else◌, Result, Ok, Err, refl, ap, ap₂, sym, ◌∙◌, subst, inl, inr, ⊎_elim, length, arith}
use Rattle.std.proofs.lemmas.List.{append-nil}
use Rattle.std.proofs.lemmas.Int.{ints}
use Rattle.std.specs.Prelude.{◌⊎◌, ◌-ℤ◌, is_some}
use Rattle.pawk_value.specs.declared.faults.Fault.{Fault}
use Rattle.pawk_value.specs.Range.{FitsWord, in_range_or_fault}
use Rattle.pawk_value.specs.Arithmetic.{arith as result_of}
use Rattle.pawk_value.specs.Value.{Val, Uninit, Num}
use Rattle.pawk_value.specs.Conversion.{num_of}
use Rattle.pawk_array.specs.Entries.{found, keys, value_of}
use Rattle.pawk_code.specs.declared.word.Sign.{Sign}
use Rattle.pawk_code.specs.declared.word.Sign.TheVariants.{Plus, Minus}
use Rattle.pawk_value.specs.declared.faults.Fault.TheVariants as fault
use Rattle.pawk_world.specs.Halts as halt
use Rattle.pawk_world.specs.Sums.{arith_by, op_of}
use Rattle.pawk_world.specs.Worlds.{Cell, scalar, element, Request, Answer, gives, halts}
use Rattle.pawk_world.specs.Worlds as request
use Rattle.pawk_store.specs.Globals.{Globals, array_at, value_at, with_value}
use Rattle.pawk_store.specs.Globals as globals
use Rattle.pawk_admit.specs.declared.role.Role.{Role}
use Rattle.pawk_admit.specs.declared.role.Role.TheVariants.{Fixed, Adder, Setter, Reader}
use Rattle.pawk_admit.specs.Roles.{role_of_array}
use Rattle.pawk_frozen.specs.Marks.{Mark, blank, summed, last_put, created, with_amount, mark_at}
use Rattle.pawk_frozen.specs.Frozens.{Frozen, noted, signed_amount, kept_mark, found_or_missing, missing}
use Rattle.pawk_frozen.specs.Frozens as frozen
use Rattle.pawk_store.specs.Lockstep.{array_slot, resource_of, resource_of_cell, access_of, SameAnswer, AreInLockstep}
use Rattle.pawk_commute.specs.Traces.{Traced, creations, additions, traced_answer, traced, same_cell, mark_from}
use Rattle.pawk_commute.specs.Traces as event
use Rattle.pawk_commute.specs.Settings.{Setting, role_of_cell, MayRead, Permits, Extends, Agrees, entry_at, MayBegin}
use Rattle.pawk_commute.specs.Agreement.{Suits, Becomes, IsChanged, Alike}
use Rattle.pawk_commute.specs.Commutation.{Parts, pair_of, has_sum}
use Rattle.pawk_commute.proofs.CellLaws.{IsThere, there_by_role, cell_itself, same_found, looked_for}
use Rattle.pawk_commute.proofs.SumLemmas.{in_range_ok, one_more}
use Rattle.pawk_commute.proofs.AgreementLemmas.{adder_changed, value_entry, changed}

-- a value that may be there is the same after a mark of a reader array
reader_value : (before now : Option Val) (m : Mark) → Suits m Reader → Becomes before m now → value_of now ≡ value_of before
reader_value before now blank suits h = ap value_of h
reader_value before now (summed total least greatest) suits h = absurd (cc)
reader_value before now (last_put v) suits h = absurd (cc)
reader_value before now created suits h = ap value_of h

-- where a mark has a sum that may be one, it is kept
pub kept : (c : Cell) (mk : Mark) (t : Frozen) → has_sum mk ≡ true → kept_mark c mk t ≡ gives tt (noted c mk t)
kept c blank t h = absurd (cc)
kept c (summed total least greatest) t h = ap (λ b. if b then gives tt (noted c (summed total least greatest) t) else halts (halt.fault fault.Overflow) t) h
kept c (last_put v) t h = absurd (cc)
kept c created t h = absurd (cc)

module _ (i : Setting) where
  abbrev Agree : (q : Request) → Traced → Frozen → Type 0
  Agree q s t = SameAnswer (Alike i) ((traced globals.calls).ask q s) (frozen.answer q t) ⊎ Parts i q s t

  -- what a fixed array has is what it has in the store
  fixed_array : (s : Traced) (t : Frozen) (n : ℕ) → MayBegin i → role_of_array i.roles n ≡ Fixed → Alike i s t → array_at s.globals n ≡ array_at t.fixed n
  fixed_array s t n begin role h =
      let same : array_at s.globals n ≡ array_at i.fixed n =
      same_found (array_at s.globals n) (array_at i.fixed n) (h.agrees.in_order n) (begin.in_order n)
      (λ key. subst (λ r. Agrees r (found key (array_at i.fixed n)) (found key (array_at s.globals n))) role (h.agrees.cells (element n key))) in
      same ∙ ap (λ g. array_at g n) (sym h.fixed)

  fixed_scalar : (s : Traced) (t : Frozen) (n : ℕ) → role_of_cell i.roles (scalar n) ≡ Fixed → Alike i s t → value_at (scalar n) s.globals ≡ value_at (scalar n) t.fixed
  fixed_scalar s t n role h =
      ap value_of (subst (λ r. Agrees r (entry_at (scalar n) i.fixed) (entry_at (scalar n) s.globals)) role (h.agrees.cells (scalar n)))
      ∙ ap (value_at (scalar n)) (sym h.fixed)

  -- ---- a read

  -- the store's answer to a read, by what is there
  abbrev read_answer : ℕ → List ℕ → Option Val → Traced → Answer Traced Val
  read_answer n key o s = traced_answer s.trace (creations n key o) (gives (value_of o) (with_value (element n key) (value_of o) s.globals))

  -- an element that is there on both sides
  present : (s : Traced) (t : Frozen) (n : ℕ) (key : List ℕ) (v : Val) → Alike i s t → found key (array_at s.globals n) ≡ Some v →
      SameAnswer (Alike i) (read_answer n key (Some v) s) (gives v t)
  present s t n key v h e = (refl, subst (λ s'. Alike i s' t) same h)
    where
      same : ◌≡◌ {A = Traced} s (record { globals = with_value (element n key) v s.globals; trace = s.trace ++ [] })
      same = ap₂ (λ g es. record { globals = g; trace = es }) (sym (looked_for n key v s.globals h.agrees.in_order e)) (sym (append-nil s.trace))

  apart : (n : ℕ) (key : List ℕ) (o : Option Val) (other : Cell) (m : Mark) → same_cell other (element n key) ≡ false → mark_from m other (creations n key o) ≡ m
  apart n key None other m e = ap (λ b. if b then created else m) e
  apart n key (Some v) other m e = refl

  lawful : (n : ℕ) (key : List ℕ) (o : Option Val) → role_of_array i.roles n ≡ Reader → Rattle.pawk_commute.specs.Agreement.AreLawful i.roles (creations n key o)
  lawful n key None role = (role, tt)
  lawful n key (Some v) role = tt

  -- an element of a reader array that the fixed globals lack
  absent : (s : Traced) (t : Frozen) (n : ℕ) (key : List ℕ) (o : Option Val) → role_of_array i.roles n ≡ Reader → n < length i.fixed.arrays → Alike i s t →
      found key (array_at s.globals n) ≡ o → value_of o ≡ Uninit → found key (array_at i.fixed n) ≡ None →
      SameAnswer (Alike i) (read_answer n key o s) (gives Uninit (noted (element n key) created t))
  absent s t n key o role there h e none lacks = (
    none,
    changed i s t (element n key) (value_of o) created (creations n key o)
        (λ k. absurd (cc))
        there h
        (λ _. subst (λ f. Extends f (Some (value_of o))) (sym lacks) (inr (ap Some none)))
        role
        (ap Some (sym (ap value_of e) ∙ reader_value (entry_at (element n key) i.start) (entry_at (element n key) s.globals) (mark_at (element n key) t.table) (subst (Suits (mark_at (element n key) t.table)) role (h.suits (element n key))) (h.becomes (element n key))))
        (λ k. absurd (subst IsChanged role k))
        (λ _. refl)
        (apart n key o)
        (lawful n key o role),
  )

  read_fixed : (s : Traced) (t : Frozen) (n : ℕ) (key : List ℕ) (o p : Option Val) → role_of_array i.roles n ≡ Fixed → Alike i s t → found key (array_at s.globals n) ≡ o → found key (array_at i.fixed n) ≡ p → o ≡ p →
      SameAnswer (Alike i) (read_answer n key o s) (found_or_missing n key p t) ⊎ Parts i (request.read n key) s t
  read_fixed s t n key (Some v) (Some w) role h e f g =
      let same : v ≡ w = cc in
      inl (subst (λ x. SameAnswer (Alike i) (read_answer n key (Some v) s) (gives x t)) same (present s t n key v h e))
  read_fixed s t n key None p role h e f g = inr (role, e, f ∙ sym g)
  read_fixed s t n key (Some v) None role h e f g = absurd (cc)

  read_reader : (s : Traced) (t : Frozen) (n : ℕ) (key : List ℕ) (o p : Option Val) → role_of_array i.roles n ≡ Reader → n < length i.fixed.arrays → Alike i s t → found key (array_at s.globals n) ≡ o → found key (array_at i.fixed n) ≡ p → Extends p o →
      SameAnswer (Alike i) (read_answer n key o s) (found_or_missing n key p t)
  read_reader s t n key o (Some w) role there h e f g = subst (λ x. SameAnswer (Alike i) (read_answer n key x s) (gives w t)) (sym g) (present s t n key w h (e ∙ g))
  read_reader s t n key o None role there h e f g =
      subst (λ r. SameAnswer (Alike i) (read_answer n key o s) (missing n key r t)) (sym (ap (λ r. role_of_array r n) h.roles ∙ role))
      (absent s t n key o role there h e (⊎_elim (λ k. ap value_of k) (λ k. ap value_of k) g) f)

  read_by : MayBegin i → (s : Traced) (t : Frozen) (n : ℕ) (key : List ℕ) (r : Role) → role_of_array i.roles n ≡ r → MayRead r → Alike i s t → Agree (request.read n key) s t
  read_by begin s t n key r role may h =
      subst (λ g. SameAnswer (Alike i) (read_answer n key (found key (array_at s.globals n)) s) (found_or_missing n key (found key (array_at g n)) t) ⊎ Parts i (request.read n key) s t) (sym h.fixed)
      (by r role may)
    where
      o : Option Val
      o = found key (array_at s.globals n)

      p : Option Val
      p = found key (array_at i.fixed n)

      cells : Agrees (role_of_array i.roles n) p o
      cells = h.agrees.cells (element n key)

      by : (r : Role) → role_of_array i.roles n ≡ r → MayRead r → SameAnswer (Alike i) (read_answer n key o s) (found_or_missing n key p t) ⊎ Parts i (request.read n key) s t
      by Fixed role may = read_fixed s t n key o p role h refl refl (subst (λ r. Agrees r p o) role cells)
      by Adder role may = absurd may
      by Setter role may = absurd may
      by Reader role may = inl (read_reader s t n key o p role (there_by_role i.roles i.fixed begin.role_slots (array_slot n) (λ e. absurd (cc))) h refl refl (subst (λ r. Agrees r p o) role cells))

  -- ---- a value that is put

  put_value : (s : Traced) (t : Frozen) (c : Cell) (v : Val) → role_of_cell i.roles c ≡ Setter → IsThere (resource_of_cell c) i.fixed → Alike i s t → Agree (request.write c v) s t
  put_value s t c v role there h = inl (
    refl,
    changed i s t c v (last_put v) (event.put c v ∷ [])
        (λ k. absurd (cc)) there h (λ k. absurd (cc)) role refl
        (λ _. sym (ap (λ b. if b then last_put v else mark_from blank c s.trace) (cell_itself c)))
        (λ k. sym (ap (λ b. if b then last_put v else mark_from blank c s.trace) (cell_itself c)) ∙ k)
        (λ other m e. ap (λ b. if b then last_put v else m) e)
        (role, tt),
  )

  -- ---- an add

  module _ (begin : MayBegin i) where
    add_sum : (s : Traced) (t : Frozen) (c : Cell) (a w : ℤ) → role_of_cell i.roles c ≡ Adder → IsThere (resource_of_cell c) i.fixed → Alike i s t → num_of (value_at c s.globals) ≡ Ok a → FitsWord (a +ℤ w) →
        SameAnswer (Alike i) (gives tt (record { globals = with_value c (Num (a +ℤ w)) s.globals; trace = s.trace ++ event.added c w ∷ [] })) (kept_mark c (with_amount w (mark_at c t.table)) t)
    add_sum s t c a w role there h e fits =
        let mark = mark_at c t.table in
        let more = one_more (entry_at c i.start) (entry_at c s.globals) mark a w (h.becomes c) (subst (Suits mark) role (h.suits c))
        (subst (λ v. Rattle.pawk_commute.specs.Settings.FitsIfOk (num_of v)) (sym (value_entry c i.start)) (begin.numbers c role))
        (ap num_of (value_entry c s.globals) ∙ e) fits in
        let told : with_amount w mark ≡ mark_from (mark_from blank c s.trace) c (event.added c w ∷ []) =
        ap (with_amount w) (h.marks c (adder_changed (role_of_cell i.roles c) role)) ∙ sym (ap (λ b. if b then with_amount w (mark_from blank c s.trace) else mark_from blank c s.trace) (cell_itself c)) in
        subst (SameAnswer (Alike i) (gives tt (record { globals = with_value c (Num (a +ℤ w)) s.globals; trace = s.trace ++ event.added c w ∷ [] }))) (sym (kept c (with_amount w mark) t more.0)) (
          refl,
          changed i s t c (Num (a +ℤ w)) (with_amount w mark) (event.added c w ∷ [])
              (λ k. absurd (cc)) there h (λ k. absurd (cc))
              (suits w mark)
              more.1
              (λ _. told)
              (λ k. told ∙ k)
              (λ other m e. ap (λ b. if b then with_amount w m else m) e)
              (role, tt),
        )
      where
        suits : (w : ℤ) (m : Mark) → Suits (with_amount w m) (role_of_cell i.roles c)
        suits w blank = role
        suits w (summed total least greatest) = role
        suits w (last_put v) = role
        suits w created = role

    -- the answers to an add, by the result
    add_result : (s : Traced) (t : Frozen) (c : Cell) (sign : Sign) (a b : ℤ) (r : Result ℤ Fault) → role_of_cell i.roles c ≡ Adder → IsThere (resource_of_cell c) i.fixed → Alike i s t → num_of (value_at c s.globals) ≡ Ok a →
        result_of (op_of sign) a b ≡ in_range_or_fault (a +ℤ signed_amount sign b) → result_of (op_of sign) a b ≡ r →
        SameAnswer (Alike i) (traced_answer s.trace (additions sign c (Ok b)) (globals.with_sum c r s.globals)) (frozen.with_sum c sign (Ok b) t) ⊎ ((f : Fault) × (r ≡ Err f))
    add_result s t c sign a b (Err f) role there h e sum is = inr (f, refl)
    add_result s t c sign a b (Ok z) role there h e sum is =
        let k = in_range_ok (a +ℤ signed_amount sign b) z (sym sum ∙ is) in
        inl (subst (λ x. SameAnswer (Alike i) (gives tt (record { globals = with_value c (Num x) s.globals; trace = s.trace ++ event.added c (signed_amount sign b) ∷ [] })) (kept_mark c (with_amount (signed_amount sign b) (mark_at c t.table)) t)) k.0
        (add_sum s t c a (signed_amount sign b) role there h e k.1))

    sum_is : (sign : Sign) (a b : ℤ) → result_of (op_of sign) a b ≡ in_range_or_fault (a +ℤ signed_amount sign b)
    sum_is Plus a b = refl
    sum_is Minus a b = let minus : a -ℤ b ≡ a +ℤ (pos 0 -ℤ b) = omega (arith, ints) in ap in_range_or_fault minus

    add_by : (s : Traced) (t : Frozen) (c : Cell) (sign : Sign) (y q : Result ℤ Fault) → role_of_cell i.roles c ≡ Adder → IsThere (resource_of_cell c) i.fixed → Alike i s t → num_of (value_at c s.globals) ≡ q →
        SameAnswer (Alike i) (traced_answer s.trace (additions sign c y) (globals.with_sum c (arith_by (op_of sign) q y) s.globals)) (frozen.with_sum c sign y t) ⊎ ((f : Fault) × (arith_by (op_of sign) q y ≡ Err f))
    add_by s t c sign y (Err g) role there h e = inr (g, refl)
    add_by s t c sign (Err g) (Ok a) role there h e = inr (g, refl)
    add_by s t c sign (Ok b) (Ok a) role there h e = add_result s t c sign a b (result_of (op_of sign) a b) role there h e (sum_is sign a b) refl

    agree : (q : Request) → Permits i (access_of q) (resource_of q) → (s : Traced) (t : Frozen) → Alike i s t → Agree q s t
    agree (request.read n key) may s t h = read_by begin s t n key (role_of_array i.roles n) refl may h
    agree (request.old n key) may s t h = absurd may
    agree (request.write c v) may s t h = put_value s t c v may (there_by_role i.roles i.fixed begin.role_slots (resource_of_cell c) (λ e. absurd (cc))) h
    agree (request.add sign c y) may s t h = add_by s t c sign y (num_of (value_at c s.globals)) may (there_by_role i.roles i.fixed begin.role_slots (resource_of_cell c) (λ e. absurd (cc))) h refl
    agree (request.test n key) may s t h = inl (ap (λ es. is_some (found key es)) (fixed_array s t n begin may h), subst (λ s'. Alike i s' t) (same s) h)
      where
        same : (s : Traced) → ◌≡◌ {A = Traced} s (record { globals = s.globals; trace = s.trace ++ [] })
        same s = ap (λ es. record { globals = s.globals; trace = es }) (sym (append-nil s.trace))
    agree (request.remove n key) may s t h = absurd may
    agree (request.clear n) may s t h = absurd may
    agree (request.keys n) may s t h = inl (ap keys (fixed_array s t n begin may h), subst (λ s'. Alike i s' t) (same s) h)
      where
        same : (s : Traced) → ◌≡◌ {A = Traced} s (record { globals = s.globals; trace = s.trace ++ [] })
        same s = ap (λ es. record { globals = s.globals; trace = es }) (sym (append-nil s.trace))

    pub in_lockstep : AreInLockstep (pair_of i)
    in_lockstep = record { look = λ n may s t h. fixed_scalar s t n may h; ask = agree }
