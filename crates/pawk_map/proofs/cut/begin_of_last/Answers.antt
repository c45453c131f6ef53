use Rattle.pawk_records.specs.Separator.{rs_of}
use Rattle.pawk_map.proofs.SayLemmas.{cut_bytes}
use Rattle.pawk_map.proofs.cut.begin_of_last.Goals as goal

pub returns : goal.returns
returns c = cut_bytes (rs_of c.args.separator) c.args.bytes.now _ c.whole_length.result c.whole_length.ensures.cut
