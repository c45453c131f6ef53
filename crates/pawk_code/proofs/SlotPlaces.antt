-- Each slot is the place of its name among the first scalars.
use Rattle.std.proofs.Common.{◌≡◌, get_or, [], refl}
use Rattle.std.specs.Prelude.{codes}
use Rattle.pawk_code.specs.FirstSlots.{first_scalars, fs_slot, ofs_slot, ors_slot, rs_slot, subsep_slot}

fs-at : get_or first_scalars fs_slot [] ≡ codes "FS"
fs-at = refl

ofs-at : get_or first_scalars ofs_slot [] ≡ codes "OFS"
ofs-at = refl

ors-at : get_or first_scalars ors_slot [] ≡ codes "ORS"
ors-at = refl

rs-at : get_or first_scalars rs_slot [] ≡ codes "RS"
rs-at = refl

subsep-at : get_or first_scalars subsep_slot [] ≡ codes "SUBSEP"
subsep-at = refl
