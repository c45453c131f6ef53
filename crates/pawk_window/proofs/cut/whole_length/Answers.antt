use Rattle.std.proofs.Common.{subst, take}
use Rattle.pawk_records.specs.Separator.{rs_of}
use Rattle.pawk_window.specs.Cuts.{NoneEnds}
use Rattle.pawk_window.proofs.cut.whole_length.Goals as goal

pub lines_length-requires-clause-open : goal.lines_length-requires-clause-open
lines_length-requires-clause-open c =
    subst (λ r. NoneEnds (rs_of r) (take c.args.known c.args.bytes.now)) c.in-Byte.is c.requires.open

pub paragraphs_length-requires-clause-open : goal.paragraphs_length-requires-clause-open
paragraphs_length-requires-clause-open c =
    subst (λ r. NoneEnds (rs_of r) (take c.args.known c.args.bytes.now)) c.in-Paragraph.is c.requires.open
