use Rattle.pawk_pieces.proofs.begin.roles_of.Goals as goal

pub returns-then-branch : goal.returns-then-branch
returns-then-branch c = (c.in-Ok.ensures.admissible, c.in-Ok.ensures.roles, c.in_ok-may_run-in-Ok.ensures.ready c.if-branch.true)
