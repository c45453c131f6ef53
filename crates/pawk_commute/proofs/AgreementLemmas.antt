-- How the agreement of a store and a chunk begins, and how it is kept.
use Rattle.std.proofs.Common.{◌≡◌, ℕ, zero, suc, List, [], ◌∷◌, ◌++◌, Some, Bool, true, false, if◌then◌else◌, refl, ap, sym, ◌∙◌, subst, length}
use Rattle.std.specs.Prelude.{slice_index_or, replicate}
use Rattle.std.proofs.lemmas.List.{length-replicate}
use Rattle.std.specs.FinMap.Entries.{find}
use Rattle.pawk_value.specs.Value.{Val}
use Rattle.pawk_value.specs.Conversion.{num_of}
use Rattle.pawk_array.specs.Entries.{order, value_of}
use Rattle.pawk_world.specs.Worlds.{Cell, scalar, element}
use Rattle.pawk_store.specs.Globals.{Globals, value_at, with_value}
use Rattle.pawk_admit.specs.declared.role.Role.{Role}
use Rattle.pawk_admit.specs.declared.role.Role.TheVariants.{Fixed, Adder, Setter, Reader}
use Rattle.pawk_admit.specs.Roles.{Roles}
use Rattle.pawk_frozen.specs.Marks.{Mark, blank, created, mark_or_blank, blank_table, mark_at, with_mark}
use Rattle.pawk_frozen.specs.Frozens.{Frozen, blank_world, noted}
use Rattle.pawk_store.specs.Lockstep.{resource_of_cell}
use Rattle.pawk_commute.specs.Traces.{Event, Traced, same_cell, mark_after, mark_from}
use Rattle.pawk_commute.specs.Settings.{Setting, role_of_cell, Extends, Agrees, entry_at, FitsIfOk, MayBegin}
use Rattle.pawk_commute.specs.Agreement.{Suits, AreLawful, Becomes, IsChanged, Alike}
use Rattle.pawk_commute.proofs.CellLaws.{IsThere, cell_same, entry_with, mark_with, slots_with, table_with, there_too, in_table, order_with}
use Rattle.pawk_commute.proofs.SumLemmas.{fits_again}

pub marks_more : (m : Mark) (c : Cell) (es fs : List Event) → mark_from m c (es ++ fs) ≡ mark_from (mark_from m c es) c fs
marks_more m c [] fs = refl
marks_more m c (e ∷ es) fs = marks_more (mark_after c e m) c es fs

pub lawful_more : (roles : Roles) (es fs : List Event) → AreLawful roles es → AreLawful roles fs → AreLawful roles (es ++ fs)
lawful_more roles [] fs h k = k
lawful_more roles (e ∷ es) fs h k = (h.0, lawful_more roles es fs h.1 k)

pub adder_changed : (r : Role) → r ≡ Adder → IsChanged r
adder_changed r h = subst IsChanged (sym h) tt

pub setter_changed : (r : Role) → r ≡ Setter → IsChanged r
setter_changed r h = subst IsChanged (sym h) tt

pub value_entry : (c : Cell) (g : Globals) → value_of (entry_at c g) ≡ value_at c g
value_entry (scalar n) g = refl
value_entry (element n key) g = refl

-- ---- the begin

blank_scalar : (n m : ℕ) → slice_index_or (replicate n blank) m blank ≡ blank
blank_scalar zero m = refl
blank_scalar (suc n) zero = refl
blank_scalar (suc n) (suc m) = blank_scalar n m

blank_array : (n m : ℕ) → slice_index_or (replicate {A = List (List ℕ × Mark)} n []) m [] ≡ []
blank_array zero m = refl
blank_array (suc n) zero = refl
blank_array (suc n) (suc m) = blank_array n m

pub blank_cell : (c : Cell) (n m : ℕ) → mark_at c (blank_table n m) ≡ blank
blank_cell (scalar k) n m = blank_scalar n k
blank_cell (element k key) n m = ap (λ es. mark_or_blank (find order key es)) (blank_array m k)

pub begins_alike : (i : Setting) → MayBegin i → Alike i (record { globals = i.start; trace = [] }) (blank_world i.fixed i.roles)
begins_alike i h = record {
  agrees = h.agrees;
  fixed = refl;
  roles = refl;
  slots = (length-replicate (length i.fixed.scalars) blank, length-replicate (length i.fixed.arrays) []);
  suits = λ c. subst (λ m. Suits m (role_of_cell i.roles c)) (sym (at c)) tt;
  becomes = λ c. subst (λ m. Becomes (entry_at c i.start) m (entry_at c i.start)) (sym (at c)) refl;
  marks = λ c k. at c;
  creations = λ c e. absurd (cc);
  lawful = tt;
}
  where
    at : (c : Cell) → mark_at c (blank_world i.fixed i.roles).table ≡ blank
    at c = blank_cell c (length i.fixed.scalars) (length i.fixed.arrays)

pub begins_again : (i : Setting) (s : Traced) (t : Frozen) → MayBegin i → Alike i s t → MayBegin (record i { start = s.globals })
begins_again i s t h k = record {
  role_slots = h.role_slots;
  in_order = h.in_order;
  agrees = k.agrees;
  numbers = λ c role.
      subst (λ v. FitsIfOk (num_of v)) (value_entry c s.globals)
      (fits_again (entry_at c i.start) (entry_at c s.globals) (mark_at c t.table) (k.becomes c) (subst (Suits (mark_at c t.table)) role (k.suits c))
      (subst (λ v. FitsIfOk (num_of v)) (sym (value_entry c i.start)) (h.numbers c role)));
}

-- ---- one change

module _ (i : Setting) where
  -- a cell of an adder, a setter or a reader got a value, and a mark
  pub changed : (s : Traced) (t : Frozen) (c : Cell) (v : Val) (mk : Mark) (es : List Event) →
      (role_of_cell i.roles c ≡ Fixed → ⊥) → IsThere (resource_of_cell c) i.fixed → Alike i s t →
      (role_of_cell i.roles c ≡ Reader → Extends (entry_at c i.fixed) (Some v)) →
      Suits mk (role_of_cell i.roles c) →
      Becomes (entry_at c i.start) mk (Some v) →
      (IsChanged (role_of_cell i.roles c) → mk ≡ mark_from (mark_from blank c s.trace) c es) →
      (mark_from (mark_from blank c s.trace) c es ≡ created → mk ≡ created) →
      ((other : Cell) (m : Mark) → same_cell other c ≡ false → mark_from m other es ≡ m) →
      AreLawful i.roles es →
      Alike i (record { globals = with_value c v s.globals; trace = s.trace ++ es }) (noted c mk t)
  changed s t c v mk es free there h extends suits becomes marks creations apart lawful = record {
    agrees = record {
      slots = slots_with c v s.globals i.fixed h.agrees.slots;
      in_order = order_with c v s.globals h.agrees.in_order;
      cells = λ other. subst (Agrees (role_of_cell i.roles other) (entry_at other i.fixed)) (sym (entry other)) (agrees_by other (same_cell other c) refl);
    };
    fixed = h.fixed;
    roles = h.roles;
    slots = table_with c mk t.table i.fixed h.slots;
    suits = λ other. subst (λ m. Suits m (role_of_cell i.roles other)) (sym (mark other)) (suits_by other (same_cell other c) refl);
    becomes = λ other.
        subst (λ m. Becomes (entry_at other i.start) m (entry_at other (with_value c v s.globals))) (sym (mark other))
        (subst (λ now. Becomes (entry_at other i.start) (if same_cell other c then mk else mark_at other t.table) now) (sym (entry other))
        (becomes_by other (same_cell other c) refl));
    marks = λ other k. mark other ∙ marks_by other k (same_cell other c) refl ∙ sym (marks_more blank other s.trace es);
    creations = λ other e. mark other ∙ creations_by other (sym (marks_more blank other s.trace es) ∙ e) (same_cell other c) refl;
    lawful = lawful_more i.roles s.trace es h.lawful lawful;
  }
    where
      entry : (other : Cell) → entry_at other (with_value c v s.globals) ≡ (if same_cell other c then Some v else entry_at other s.globals)
      entry other = entry_with c v other s.globals (there_too c s.globals i.fixed h.agrees.slots there)

      mark : (other : Cell) → mark_at other (with_mark c mk t.table) ≡ (if same_cell other c then mk else mark_at other t.table)
      mark other = mark_with c mk other t.table (in_table c t.table i.fixed h.slots there)

      agrees_here : (r : Role) → role_of_cell i.roles c ≡ r → Agrees r (entry_at c i.fixed) (Some v)
      agrees_here Fixed e = absurd (free e)
      agrees_here Adder e = tt
      agrees_here Setter e = tt
      agrees_here Reader e = extends e

      agrees_by : (other : Cell) (b : Bool) → same_cell other c ≡ b → Agrees (role_of_cell i.roles other) (entry_at other i.fixed) (if b then Some v else entry_at other s.globals)
      agrees_by other true e = subst (λ x. Agrees (role_of_cell i.roles x) (entry_at x i.fixed) (Some v)) (sym (cell_same other c e)) (agrees_here (role_of_cell i.roles c) refl)
      agrees_by other false e = h.agrees.cells other

      suits_by : (other : Cell) (b : Bool) → same_cell other c ≡ b → Suits (if b then mk else mark_at other t.table) (role_of_cell i.roles other)
      suits_by other true e = subst (λ x. Suits mk (role_of_cell i.roles x)) (sym (cell_same other c e)) suits
      suits_by other false e = h.suits other

      becomes_by : (other : Cell) (b : Bool) → same_cell other c ≡ b → Becomes (entry_at other i.start) (if b then mk else mark_at other t.table) (if b then Some v else entry_at other s.globals)
      becomes_by other true e = subst (λ x. Becomes (entry_at x i.start) mk (Some v)) (sym (cell_same other c e)) becomes
      becomes_by other false e = h.becomes other

      marks_by : (other : Cell) → IsChanged (role_of_cell i.roles other) → (b : Bool) → same_cell other c ≡ b →
          (if b then mk else mark_at other t.table) ≡ mark_from (mark_from blank other s.trace) other es
      marks_by other k true e =
          let same = cell_same other c e in
          subst (λ x. mk ≡ mark_from (mark_from blank x s.trace) x es) (sym same) (marks (subst (λ x. IsChanged (role_of_cell i.roles x)) same k))
      marks_by other k false e = h.marks other k ∙ sym (apart other (mark_from blank other s.trace) e)

      creations_by : (other : Cell) → mark_from (mark_from blank other s.trace) other es ≡ created → (b : Bool) → same_cell other c ≡ b →
          (if b then mk else mark_at other t.table) ≡ created
      creations_by other k true e =
          let same = cell_same other c e in
          creations (subst (λ x. mark_from (mark_from blank x s.trace) x es ≡ created) same k)
      creations_by other k false e = h.creations other (sym (apart other (mark_from blank other s.trace) e) ∙ k)
