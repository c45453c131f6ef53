use Rattle.std.proofs.Common.{◌≡◌, ◌+◌, ◌<◌, ◌≤◌, ◌^◌, ◌∷◌, length}
use Rattle.pawk_records.specs.LineEnds.{AreEnds}
use Rattle.pawk_records.specs.Separator.{rs_of}
use Rattle.pawk_records.specs.Blocks.{joined}
use Rattle.pawk_input.specs.Limits.{most_bytes}
use Rattle.pawk_input.specs.Input.{files_of, total_size}
use Rattle.pawk_input.specs.Walk.{items_ahead}
use Rattle.pawk_input.proofs.ItemsLemmas.{turns}
use Rattle.pawk_input.proofs.walk.RecordsIterator.next.Given as goal

abbrev pub invariant-loop-bytes : goal.invariant-loop-bytes
invariant-loop-bytes l =
    let s = l.self-inside in
    let i = l.initial.self-inside in
    record {
      same : items_ahead (rs_of s.separator) s.file s.name.now s.nr s.fnr (s.rest.now ∷ s.pieces) s.later
          ≡ items_ahead (rs_of i.separator) i.file i.name.now i.nr i.fnr (i.rest.now ∷ i.pieces) i.later;
      counted : s.nr + length (items_ahead (rs_of s.separator) s.file s.name.now s.nr s.fnr (s.rest.now ∷ s.pieces) s.later) ≤ most_bytes;
      in_file : s.fnr ≤ s.nr;
      few_files : s.file + length s.later < 2 ^ 64;
      short : length s.rest.now + length (joined s.pieces) + total_size (files_of s.later) ≤ most_bytes;
      ends : AreEnds (rs_of s.separator) s.ends s.rest.now;
    }

abbrev pub decreases-loop-bytes : goal.decreases-loop-bytes
decreases-loop-bytes l = length l.self-inside.pieces + turns l.self-inside.later
