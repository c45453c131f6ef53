-- What the records of a phase begin with, and what each of its chunks begins with beside them.
use Rattle.std.proofs.Common.{◌≡◌, ℕ, ◌+◌, List, Option, Some, None, refl, ap, sym, ◌∙◌, inl, length}
use Rattle.pawk_value.specs.Value.{Val}
use Rattle.pawk_input.specs.Input.{Item}
use Rattle.pawk_store.specs.Globals.{Globals}
use Rattle.pawk_store.specs.RecordStates.{RecordState}
use Rattle.pawk_admit.specs.declared.role.Role.{Role}
use Rattle.pawk_admit.specs.declared.role.Role.TheVariants.{Fixed, Adder, Setter, Reader}
use Rattle.pawk_store.specs.Records.{Left, through}
use Rattle.pawk_store.specs.Steady.{IsSteady, state_after_records, AreSameButRecord}
use Rattle.pawk_commute.specs.Settings.{Setting, PermitsFor, role_of_cell, Extends, Agrees, entry_at, MayBegin}
use Rattle.pawk_merge_law.specs.Phases.{Phase, MayRun}

-- the records before a chunk have come to these globals and this output
abbrev pub setting : Phase → Globals → List ℕ → Setting
setting p g out = record { code = p.code; roles = p.roles; fixed = p.globals; start = g; written = out }

extends_itself : (was : Option Val) → Extends was was
extends_itself (Some v) = refl
extends_itself None = inl refl

agrees_itself : (r : Role) (was : Option Val) → Agrees r was was
agrees_itself Fixed was = refl
agrees_itself Adder was = tt
agrees_itself Setter was = tt
agrees_itself Reader was = extends_itself was

pub begins : (p : Phase) → MayRun p → MayBegin (setting p p.globals p.output)
begins p h = record {
  role_slots = h.role_slots;
  in_order = h.in_order;
  agrees = record {
    slots = (refl, refl);
    in_order = h.in_order;
    cells = λ c. agrees_itself (role_of_cell p.roles c) (entry_at c p.globals);
  };
  numbers = h.numbers;
}

-- another output in front does not matter
pub begins_with : (p : Phase) (g h : Globals) (out more : List ℕ) → MayBegin (record (setting p g out) { start = h }) → MayBegin (setting p h more)
begins_with p g h out more k = record { role_slots = k.role_slots; in_order = k.in_order; agrees = k.agrees; numbers = k.numbers }

pub steady : (p : Phase) → IsSteady (PermitsFor p.code p.roles)
steady p = record {
  no_match = λ h. absurd (let bad : Fixed ≡ Setter = h in cc);
  no_range = λ h. absurd (let bad : Fixed ≡ Setter = h in cc);
  no_next_file = λ h. h;
}

-- the record state that BEGIN left, with this NR
abbrev pub state_at : Phase → ℕ → RecordState
state_at p nr = record p.state { nr = nr }

-- after records that were left through, it is that with NR moved on but for the record
pub state_after_items : (p : Phase) (nr : ℕ) (items read : List Item) (left : Left) (now : RecordState) → left ≡ through → items ≡ read → now ≡ state_after_records (length read) left (state_at p nr) now → AreSameButRecord (state_at p (nr + length items)) now
state_after_items p nr items read left now on all h =
    h ∙ ap (λ x. state_after_records (length read) x (state_at p nr) now) on
    ∙ ap (λ (l : List Item). state_after_records (length l) through (state_at p nr) now) (sym all)
