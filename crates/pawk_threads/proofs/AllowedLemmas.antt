-- The globals of a run answer no request with a clash, so that none is disallowed.
use Rattle.std.proofs.Common.{◌≢◌, ◌∙◌, ℤ, Result, Ok, Err, ap}
use Rattle.pawk_value.specs.declared.faults.Fault.{Fault}
use Rattle.pawk_value.specs.Conversion.{num_of}
use Rattle.pawk_world.specs.Sums.{arith_by, op_of}
use Rattle.pawk_world.specs.Worlds.{Request, Cell}
use Rattle.pawk_world.specs.Worlds as request
use Rattle.pawk_store.specs.Globals.{Globals, calls, value_at, with_sum}
use Rattle.pawk_store.specs.Lockstep.{refusal_of}
use Rattle.pawk_store.specs.Laws.{IsNoClash}
use Rattle.pawk_store.specs.Runs.{Finish, disallowed}
use Rattle.pawk_sequential.specs.RunEnds.{Answers, ending_view}
use Rattle.pawk_sequential.specs.declared.ending.Ending.TheVariants.{Disallowed}
use Rattle.pawk_sequential.specs.declared.outcome.Outcome.{Outcome}

-- nor is a sum one
sum_no_clash : (cell : Cell) (r : Result ℤ Fault) (g : Globals) → IsNoClash (refusal_of (with_sum cell r g))
sum_no_clash cell (Ok z) g = tt
sum_no_clash cell (Err f) g = tt

pub no_clash : (q : Request) (g : Globals) → IsNoClash (refusal_of (calls.ask q g))
no_clash (request.read n key) g = tt
no_clash (request.old n key) g = tt
no_clash (request.write cell v) g = tt
no_clash (request.add sign cell amount) g = sum_no_clash cell (arith_by (op_of sign) (num_of (value_at cell g)) amount) g
no_clash (request.test n key) g = tt
no_clash (request.remove n key) g = tt
no_clash (request.clear n) g = tt
no_clash (request.keys n) g = tt

-- an outcome of a run that is not disallowed is not reported as one that is
pub told : (meant : Finish Globals) (outcome : Outcome) → Answers meant outcome → meant.ending ≢ disallowed → outcome.ending ≢ Disallowed
told meant outcome answers allowed = λ is. allowed (answers.ending ∙ ap ending_view is)
