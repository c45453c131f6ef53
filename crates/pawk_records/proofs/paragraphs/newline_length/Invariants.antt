use Rattle.std.proofs.Common.{◌≡◌, ℕ, ◌<◌, get_or, true}
use Rattle.memchr.specs.Find.{is_byte}
use Rattle.pawk_records.specs.Records.{newline}
use Rattle.pawk_records.proofs.paragraphs.newline_length.Given as goal

abbrev pub invariant-loop-i : goal.invariant-loop-i
invariant-loop-i l = (k : ℕ) → k < l.i → is_byte newline (get_or l.text k 0) ≡ true
