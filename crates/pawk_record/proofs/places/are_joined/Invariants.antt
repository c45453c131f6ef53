use Rattle.pawk_record.specs.Lines.{AreJoinedTo}
use Rattle.pawk_record.proofs.places.are_joined.Given as goal

abbrev pub invariant-loop-number : goal.invariant-loop-number
invariant-loop-number l = AreJoinedTo l.ofs l.text l.ranges l.number l.place
