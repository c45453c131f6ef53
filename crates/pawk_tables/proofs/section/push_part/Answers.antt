use Rattle.std.proofs.Common.{◌<◌, ◌^◌, ◌∷◌, arith, refl}
use Rattle.std.proofs.lemmas.List.Elements.{All-cons}
use Rattle.std.proofs.lemmas.Result.{IfErr-at_err, on_ok_weaker}
use Rattle.pawk_lines.specs.Lines.{IsLine, IsText}
use Rattle.pawk_lines.specs.Lines as lines
use Rattle.pawk_tables.proofs.Writing.{lines_written}
use Rattle.pawk_tables.proofs.section.push_part.Goals as goal

pub returns-clause-written : goal.returns-clause-written
returns-clause-written c =
    let part = lines.part c.args.records in
    let output = lines.output c.args.output.now in
    let fits : c.args.records < 2 ^ 64 = c.ranges.records.fits in
    let short : IsText c.args.output.now = omega arith in
    on_ok_weaker c.push_table.result (λ w. (
      part ∷ output ∷ w.0,
      All-cons IsLine part (output ∷ w.0) fits (All-cons IsLine output w.0 short w.1.lines),
      (w.0, w.1, refl),
      lines_written c.args.out.now.items c.push_line.new.out.items c.push_line-2.new.out.items c.push_table.new.out.items part output w.0 c.in_ok-push_line.ensures.written c.in_ok-push_line-2.ensures.written w.2,
    )) c.push_table.ensures.written

pub returns-clause-damage : goal.returns-clause-damage
returns-clause-damage c refused ls spelled = IfErr-at_err _ refused c.push_table.ensures.damage refl spelled.0 spelled.1
