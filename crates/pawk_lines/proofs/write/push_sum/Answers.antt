use Rattle.pawk_words.specs.declared.word.Gap.TheVariants.{Space, Newline}
use Rattle.pawk_words.specs.Words.{number, written}
use Rattle.pawk_lines.specs.declared.name.Name.TheVariants.{Mark}
use Rattle.pawk_lines.specs.declared.name.MarkName.TheVariants.{Sum}
use Rattle.pawk_lines.specs.Names.{spelling}
use Rattle.pawk_lines.proofs.Forms.{sum_same, sum_within}
use Rattle.pawk_lines.proofs.WriteLemmas.{four_written}
use Rattle.pawk_lines.proofs.write.push_sum.Goals as goal

pub returns-clause-written : goal.returns-clause-written
returns-clause-written c =
    let total = sum_same c.args.total (sum_within c.args.total c.requires.total) in
    let least = sum_same c.args.least (sum_within c.args.least c.requires.least) in
    let greatest = sum_same c.args.greatest (sum_within c.args.greatest c.requires.greatest) in
    let first = rw total at c.in_ok-push_word.ensures.written in
    let second = rw least at c.in_ok-push_word-2.ensures.written in
    let third = rw greatest at c.push_word-3.ensures.written in
    four_written c.push_word-3.result c.args.out.now.items c.push_name.new.out.items c.push_word.new.out.items c.push_word-2.new.out.items c.push_word-3.new.out.items
    (spelling (Mark Sum)) (written (number c.args.total) Space) (written (number c.args.least) Space) (written (number c.args.greatest) Newline)
    c.in_ok-push_name.ensures.written first second third
