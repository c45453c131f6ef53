use Rattle.std.proofs.Common.{[]}
use Rattle.pawk_code.specs.ProgramViews.{code_view}
use Rattle.pawk_table_merge.proofs.section.may_go_on.Goals as goal

pub returns-then-is_ready : goal.returns-then-is_ready
returns-then-is_ready c = λ may. c.requires.ready c.if-is_ready.true

pub returns : goal.returns
returns c = λ may budget.
    let code = code_view c.args.setting.job.code.now in
    c.in_ok-may.ensures.ready may code c.requires.usable.admissible c.requires.usable.roles code.expressions budget c.args.flow.now.state []
