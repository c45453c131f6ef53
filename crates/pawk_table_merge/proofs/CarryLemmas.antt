-- Runs that stay ready for records.
use Rattle.std.proofs.Common.{◌≡◌, ℕ, Bool, true, false, sym, subst}
use Rattle.std.specs.Prelude.{not}
use Rattle.pawk_world.specs.Worlds.{Cell}
use Rattle.pawk_value.specs.Conversion.{num_of}
use Rattle.pawk_code.specs.Programs.{Code}
use Rattle.pawk_store.specs.Globals.{Globals, value_at}
use Rattle.pawk_admit.specs.declared.role.Role.TheVariants.{Adder}
use Rattle.pawk_admit.specs.Roles.{Roles}
use Rattle.pawk_frozen.specs.Marks.{Table}
use Rattle.pawk_merge_law.specs.Settings.{AreInOrder, FitSlots, FitsIfOk, role_of_cell}
use Rattle.pawk_merge.specs.Tables.{all_take}
use Rattle.pawk_merge_law.specs.Phases.{MayRun}
use Rattle.pawk_flow.specs.Pieces.{GoesInChunks, phase_between}
use Rattle.pawk_flow.specs.Flow.{Flow}
use Rattle.pawk_flow.specs.Piece.{Piece}
use Rattle.pawk_table_merge.specs.TableMerges.{MayGoOn}
use Rattle.pawk_table_merge.specs.Sections.{JoinsPart}
use Rattle.pawk_merge_law.specs.Adders.{SetsNoAdder}
use Rattle.pawk_merge_law.proofs.AdderLemmas.{in_order_again, slots_again, numbers_again}

module _ (code : Code) (roles : Roles) where
  -- How many steps a record may take does not matter.
  pub any_steps : (budget : ℕ) (flow : Flow) → MayRun (phase_between code roles budget flow) → MayGoOn code roles flow
  any_steps budget flow may = λ other. record { allows = may.allows; role_slots = may.role_slots; in_order = may.in_order; numbers = may.numbers }

  -- A run stays ready where a part is joined to it that puts no value into an adder.
  pub joined_goes_on : (records : ℕ) (table : Table) (old new : Flow) → MayGoOn code roles old → SetsNoAdder roles table → all_take table old.globals ≡ true →
      JoinsPart records table old new → MayGoOn code roles new
  joined_goes_on records table old new may sets taken joins = λ budget.
      let m = may budget in
      record {
        allows = m.allows;
        role_slots = subst (λ (g : Globals). FitSlots roles.scalars roles.arrays g) (sym joins.globals) (slots_again table old.globals roles.scalars roles.arrays m.role_slots);
        in_order = subst (λ (g : Globals). AreInOrder g) (sym joins.globals) (in_order_again table old.globals m.in_order);
        numbers = subst (λ (g : Globals). (c : Cell) → role_of_cell roles c ≡ Adder → FitsIfOk (num_of (value_at c g))) (sym joins.globals)
            (numbers_again table old.globals taken roles sets m.numbers);
      }

  -- It stays ready where records are run that do not stop it.
  pub kept_goes_on : (budget : ℕ) (piece : Piece) (old new : Flow) (is_stopped : Bool) → GoesInChunks code roles budget piece old new is_stopped → not is_stopped ≡ true → MayGoOn code roles new
  kept_goes_on budget piece old new true goes h = absurd cc
  kept_goes_on budget piece old new false goes h = any_steps budget new goes.1
