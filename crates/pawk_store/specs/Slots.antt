-- The slots of the variables that a program may assign.
pub use Rattle.pawk_code.specs.FirstSlots.{fs_slot, ofs_slot, ors_slot, rs_slot, subsep_slot}
