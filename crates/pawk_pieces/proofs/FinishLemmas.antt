-- What follows the last piece.
use Rattle.std.proofs.Common.{◌≡◌, ◌∙◌, ℕ, List, [], refl, sym}
use Rattle.pawk_code.specs.Programs.{Code}
use Rattle.pawk_store.specs.Globals.{Globals, calls}
use Rattle.pawk_store.specs.RecordStates.{RecordState}
use Rattle.pawk_store.specs.Records.{Left, through, next_file, exit, fault, clash, End}
use Rattle.pawk_store.specs.Runs.{after_records}

-- What follows records is told by how they were left, and not by how their end says it.
told_by : (code : Code) (budget : ℕ) (l : Left) (e : End Globals) (m : Left) →
    after_records calls code.expressions code budget l (record e { left = m }) ≡ after_records calls code.expressions code budget l e
told_by code budget through e m = refl
told_by code budget next_file e m = refl
told_by code budget (exit n) e m = refl
told_by code budget (fault f) e m = refl
told_by code budget clash e m = refl

-- What follows records that were left so begins with the globals and the record state, and nothing written.
pub goes_on : (code : Code) (budget : ℕ) (l : Left) (g : Globals) (s t : RecordState) (out : List ℕ) → s ≡ t → out ≡ [] →
    after_records calls code.expressions code budget l (record { world = g; state = s; output = out; left = l })
    ≡ after_records calls code.expressions code budget l (record { world = g; state = t; output = []; left = through })
goes_on code budget l g s t out same none =
    (λ i. after_records calls code.expressions code budget l (record { world = g; state = same i; output = none i; left = l }))
    ∙ sym (told_by code budget l (record { world = g; state = t; output = []; left = l }) through)
