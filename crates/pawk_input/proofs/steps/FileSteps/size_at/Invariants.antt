use Rattle.std.proofs.Common.{◌≡◌, drop}
use Rattle.pawk_input.specs.Plan.{size_at, size_in_file}
use Rattle.pawk_input.proofs.steps.FileSteps.size_at.Given as goal

abbrev pub invariant-loop-step : goal.invariant-loop-step
invariant-loop-step l = size_at l.size (drop l.step-index l.step-items) l.at ≡ size_in_file l.self.size l.self.steps.now l.self.before l.place
