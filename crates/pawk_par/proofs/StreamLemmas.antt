-- Why a run is refused.
use Rattle.std.proofs.Common.{◌≡◌, ◌⊎◌, ℕ, Bool, true, false, List, Option, None, Some, Result, Err, refl, sym, subst, inl, inr}
use Rattle.std.specs.Io.KnownBytes.{Keeps}
use Rattle.pawk_routes.specs.declared.report.Refusal.{Refusal}
use Rattle.pawk_routes.specs.declared.report.Refusal.TheVariants as of_run
use Rattle.pawk_store.specs.Runs.{reads_records}
use Rattle.pawk_par.specs.Refusals.{refusal_of}
use Rattle.pawk_par.specs.Streams.{Devices, Basis, meant, AreWanted, IsUncut, LacksMemory, ReadNothing, TookPart, WroteNothing, WhyRefused, WhyUnwritten}
use Rattle.pawk_par.specs.declared.request.Request.{Request}
use Rattle.pawk_par.specs.declared.refusal.StreamRefusal.{StreamRefusal}
use Rattle.pawk_par.specs.declared.refusal.StreamRefusal.TheVariants as refusal

pub keeps_same : (bytes : Option (List ℕ)) → Keeps bytes bytes
keeps_same None = tt
keeps_same (Some bytes) = refl

by_reading : (wanted : Request) (old new : Devices) (b : Basis wanted old new) (reads : Bool) → reads_records b.code ≡ reads → AreWanted wanted ⊎ ReadNothing old new
by_reading wanted old new b true reads = inl (b.code, b.assignments, b.accepted, reads)
by_reading wanted old new b false reads = inr (b.unread reads)

-- memory was refused after the input was read
lacks : (wanted : Request) (old new : Devices) → Basis wanted old new → WroteNothing old new → new.read_failures ≡ old.read_failures → LacksMemory wanted old new
lacks wanted old new b wrote same = record { wrote = wrote; no_failure = same; read = by_reading wanted old new b (reads_records b.code) refl }

-- a run that was refused
pub why_run : {T : Type 0} (wanted : Request) (old new : Devices) (b : Basis wanted old new) (e : Refusal) → WroteNothing old new → new.read_failures ≡ old.read_failures →
    (◌≡◌ {A = Result T Refusal} (Err e) (Err of_run.Cutting) → IsUncut b) → WhyRefused wanted old new (refusal_of e)
why_run wanted old new b of_run.Memory wrote same uncut = lacks wanted old new b wrote same
why_run wanted old new b of_run.Thread wrote same uncut = (b, wrote)
why_run wanted old new b of_run.Cutting wrote same uncut = ((b, uncut refl), wrote)

-- an output that was not written to its end
pub why_unwritten : (wanted : Request) (old new : Devices) (b : Basis wanted old new) (output : List ℕ) (e : StreamRefusal) → (meant b).output ≡ output → new.read_failures ≡ old.read_failures →
    WhyUnwritten output old.taken new.taken old.write_failures new.write_failures e → WhyRefused wanted old new e
why_unwritten wanted old new b output refusal.Memory is same why = lacks wanted old new b why same
why_unwritten wanted old new b output refusal.Thread is same why = absurd why
why_unwritten wanted old new b output refusal.Cutting is same why = absurd why
why_unwritten wanted old new b output (refusal.Program r) is same why = absurd why
why_unwritten wanted old new b output (refusal.Settings r) is same why = absurd why
why_unwritten wanted old new b output refusal.Read is same why = absurd why
why_unwritten wanted old new b output (refusal.Write count) is same why =
    (why.0, (b, subst (λ (l : List ℕ). TookPart l old.taken new.taken count) (sym is) why.1))
why_unwritten wanted old new b output refusal.Input is same why = absurd why
