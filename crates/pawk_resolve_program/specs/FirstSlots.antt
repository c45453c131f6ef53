-- The variables of the language that a program may assign have the same slots in every program.
use Rattle.std.specs.Prelude.{◌≡◌, List, codes}
use Rattle.pawk_lex.specs.Bytes.{Text}
use Rattle.pawk_code.specs.FirstSlots.{fs_slot, ofs_slot, ors_slot, rs_slot, subsep_slot}
use Rattle.pawk_resolve.specs.Slots.{slot}

pub record AreFirst (names : List Text) : Type 0 where
  pub fs : slot names (codes "FS") ≡ fs_slot
  pub ofs : slot names (codes "OFS") ≡ ofs_slot
  pub ors : slot names (codes "ORS") ≡ ors_slot
  pub rs : slot names (codes "RS") ≡ rs_slot
  pub subsep : slot names (codes "SUBSEP") ≡ subsep_slot
