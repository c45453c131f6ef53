-- The scalars of the language that a program may assign have the first slots, in this order (POSIX.1-2017, awk, "Variables and
-- Special Variables").
use Rattle.std.specs.Prelude.{ℕ, List, [], ◌∷◌, codes}
use Rattle.pawk_code.specs.Expressions.{Text}

abbrev pub first_scalars : List Text
first_scalars = codes "FS" ∷ codes "OFS" ∷ codes "ORS" ∷ codes "RS" ∷ codes "SUBSEP" ∷ codes "CONVFMT" ∷ codes "OFMT" ∷ []

abbrev pub fs_slot : ℕ
fs_slot = 0

abbrev pub ofs_slot : ℕ
ofs_slot = 1

abbrev pub ors_slot : ℕ
ors_slot = 2

abbrev pub rs_slot : ℕ
rs_slot = 3

abbrev pub subsep_slot : ℕ
subsep_slot = 4
