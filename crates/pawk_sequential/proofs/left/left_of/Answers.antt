use Rattle.std.proofs.Common.{refl}
use Rattle.pawk_world.specs.declared.halt.Halt.TheVariants as code
use Rattle.pawk_world.specs.Halts as halt
use Rattle.pawk_runtime.specs.Moments.{moment}
use Rattle.pawk_sequential.proofs.LeftLemmas.{end_of_halt_by}
use Rattle.pawk_sequential.proofs.left.left_of.Goals as goal

pub returns-in-Fault : goal.returns-in-Fault
returns-in-Fault g c = λ outcome y. end_of_halt_by outcome c.args.halt (code.Fault c.in-Fault.fault) (halt.fault c.in-Fault.fault) (moment (g.W.World.state c.args.world.now) c.args.run.now) c.in-Fault.is refl y

pub returns-in-Clash : goal.returns-in-Clash
returns-in-Clash g c = λ outcome y. end_of_halt_by outcome c.args.halt (code.Clash) (halt.clash) (moment (g.W.World.state c.args.world.now) c.args.run.now) c.in-Clash.is refl y

pub returns-in-Next : goal.returns-in-Next
returns-in-Next g c = λ outcome y. end_of_halt_by outcome c.args.halt (code.Next) (halt.next) (moment (g.W.World.state c.args.world.now) c.args.run.now) c.in-Next.is refl y

pub returns-in-NextFile : goal.returns-in-NextFile
returns-in-NextFile g c = λ outcome y. end_of_halt_by outcome c.args.halt (code.NextFile) (halt.next_file) (moment (g.W.World.state c.args.world.now) c.args.run.now) c.in-NextFile.is refl y

pub returns-in-Exit : goal.returns-in-Exit
returns-in-Exit g c = λ outcome y. end_of_halt_by outcome c.args.halt (code.Exit c.in-Exit.status) (halt.exit c.in-Exit.status) (moment (g.W.World.state c.args.world.now) c.args.run.now) c.in-Exit.is refl y
