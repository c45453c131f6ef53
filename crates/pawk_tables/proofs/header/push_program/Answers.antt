use Rattle.pawk_lines.specs.Lines.{format, program, budget}
use Rattle.pawk_tables.proofs.Writing.{three_written}
use Rattle.pawk_tables.proofs.header.push_program.Goals as goal

pub returns-clause-written : goal.returns-clause-written
returns-clause-written c =
    three_written c.push_line-3.result c.args.out.now.items c.push_line.new.out.items c.push_line-2.new.out.items c.push_line-3.new.out.items (format 1) (program c.args.program.now) (budget c.args.budget)
    c.in_ok-push_line.ensures.written c.in_ok-push_line-2.ensures.written c.push_line-3.ensures.written
