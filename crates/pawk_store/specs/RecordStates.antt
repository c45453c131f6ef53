-- What a run keeps beside the globals (POSIX.1-2017, awk, "Variables and Special Variables").
use Rattle.std.specs.Prelude.{ℕ, ℤ, suc, pos, negsuc, Bool, true, false, List, [], ◌∷◌, length, replicate, Option, Some, None}
use Rattle.pawk_value.specs.Value.{Val, Uninit, Num, Maybe}
use Rattle.pawk_code.specs.declared.leaf.Special.{Special}
use Rattle.pawk_code.specs.declared.leaf.Special.TheVariants as special
use Rattle.pawk_record.specs.Records.{Record, read}
use Rattle.pawk_input.specs.Input.{Item}

-- the record, NR, FNR, FILENAME, RSTART and RLENGTH, the last status that `exit` gave, RS as BEGIN left it, and for each
-- rule whether its range has begun and not ended
pub record RecordState : Type 0 where
  pub line : Record
  pub nr : ℕ
  pub fnr : ℕ
  pub name : Val
  pub rstart : ℤ
  pub rlength : ℤ
  pub status : ℕ
  pub taken : Option (List ℕ)
  pub ranges : List Bool

abbrev pub is_empty : Option (List ℕ) → Bool
is_empty None = false
is_empty (Some []) = true
is_empty (Some (b ∷ rs)) = false

-- whether records are paragraphs: where an empty RS was taken, and so never in BEGIN
abbrev pub is_paragraph : RecordState → Bool
is_paragraph s = is_empty s.taken

-- the state in which a program with this number of rules begins
abbrev pub opening : ℕ → RecordState
opening rules = record {
  line = record { text = []; fields = [] };
  nr = 0;
  fnr = 0;
  name = Uninit;
  rstart = pos 0;
  rlength = negsuc 0;
  status = 0;
  taken = None;
  ranges = replicate rules false;
}

-- the state with a record read by an FS: NR, FNR, FILENAME and the record
abbrev pub with_item : List ℕ → Item → RecordState → RecordState
with_item fs i s =
    record s { line = (read fs (is_paragraph s) i.bytes).0; nr = suc s.nr; fnr = i.fnr; name = Maybe i.name }

-- what a variable that the run sets has
abbrev pub special_value : Special → RecordState → Val
special_value special.Nr s = Num (pos s.nr)
special_value special.Nf s = Num (pos (length s.line.fields))
special_value special.Fnr s = Num (pos s.fnr)
special_value special.Filename s = s.name
special_value special.Rstart s = Num s.rstart
special_value special.Rlength s = Num s.rlength
