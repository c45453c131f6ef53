-- Joins that stop.
use Rattle.std.proofs.Common.{◌≡◌, Bool, false, Result, Ok, Err, sym, subst}
use Rattle.std.specs.Result.{IsErrAnd}
use Rattle.pawk_merge.specs.declared.stop.JoinStop.{JoinStop}
use Rattle.pawk_merge.specs.declared.stop.JoinStop.TheVariants as code
use Rattle.pawk_merge.specs.Stops.{Joins}

passed_on : {T U : Type 0} (t u : Bool) (P : T → Type 0) (Q : U → Type 0) (e : JoinStop) → Joins t P (Err e) → (t ≡ false → u ≡ false) → Joins u Q (Err e)
passed_on t u P Q code.Cell h f = f h
passed_on t u P Q code.Fault h f = h
passed_on t u P Q code.Clash h f = h
passed_on t u P Q code.Memory h f = h

-- the stop of a part of a join is that of the join
pub stops_too : {T U : Type 0} (t u : Bool) (P : T → Type 0) (Q : U → Type 0) (e : JoinStop) (r : Result U JoinStop) →
    Joins t P (Err e) → IsErrAnd r (λ s. s ≡ e) → (t ≡ false → u ≡ false) → Joins u Q r
stops_too t u P Q e (Ok x) h is f = absurd is
stops_too t u P Q e (Err s) h is f = subst (λ x. Joins u Q (Err x)) (sym is) (passed_on t u P Q e h f)
