-- What a record of the program shows, and what it keeps true.
use Rattle.std.specs.Prelude.{◌≡◌, ℕ, ◌≤◌, ◌++◌, true, None, List, length, map, IfSome}
use Rattle.std.specs.Option.{ForSome}
use Rattle.pawk_fields.specs.FieldSeparator.{range_of}
use Rattle.pawk_record.specs.Lines.{IsJoined, line_of, values}
use Rattle.pawk_record.specs.Records.{Record, SplitRecord}
use Rattle.pawk_record.specs.Splitting.{IsSplitter, left}
use Rattle.pawk_record.specs.declared.record.Record.TheInside.{Inside}

abbrev pub text_of : Inside → List ℕ
text_of r = line_of r.is_own r.here.text.items r.lent.now

-- all fields: those that were found, and those that are left
abbrev pub record_of : Inside → Record
record_of r = record {
  text = text_of r;
  fields = values (text_of r) (r.here.ranges.items ++ map range_of (left r.splitter (text_of r) r.next)) r.here.kinds.items;
}

abbrev pub shown : Inside → SplitRecord
shown r = record { record_now = record_of r; found = length r.here.ranges.items }

-- the splitter is one of its FS, and the next field is looked for within the line; what was counted is how many fields there
-- are; where fields are joined the line is the record's own, and none is left
pub record IsWhole (r : Inside) : Type 0 where
  pub splitter : IsSplitter r.splitter
  pub place : ForSome r.next (λ p. p ≤ length (text_of r))
  pub counted : IfSome r.counted (λ count. count ≡ length (record_of r).fields)
  pub joined : r.here.is_joined ≡ true → IsJoined r.here
  pub own : r.here.is_joined ≡ true → r.is_own ≡ true
  pub done : r.here.is_joined ≡ true → r.next ≡ None
