-- Runs from a source to a sink.
use Rattle.std.specs.Prelude.{◌≡◌, ◌⊎◌, ℕ, ◌<◌, List, [], ◌∷◌, length, take, Option, IfSome, MatchBool, true, false}
use Rattle.std.specs.Io.KnownBytes.{Keeps, Appends}
use Rattle.pawk_lex.specs.Bytes.{Text}
use Rattle.pawk_code.specs.Programs.{Code}
use Rattle.pawk_input.specs.Input.{File}
use Rattle.pawk_input.specs.Limits.{most_bytes}
use Rattle.pawk_store.specs.Globals.{Globals}
use Rattle.pawk_store.specs.Records.{End}
use Rattle.pawk_store.specs.Runs.{Finish, reads_records}
use Rattle.pawk_threads.specs.RunEnds.{ending_view}
use Rattle.pawk_threads.specs.Ending.{Ending}
use Rattle.pawk_routes.specs.Cuttings.{HasNoPlan}
use Rattle.pawk_routes.specs.Routes.{IsRoute, begin_end, whole_run}
use Rattle.pawk_routes.specs.declared.report.Report.{Report}
use Rattle.pawk_par.specs.Requests.{IsAccepted, WhyUnaccepted}
use Rattle.pawk_par.specs.declared.request.Request.{Request}
use Rattle.pawk_par.specs.declared.refusal.StreamRefusal.{StreamRefusal}
use Rattle.pawk_par.specs.declared.refusal.StreamRefusal.TheVariants as refusal

-- a device's bytes and how often it failed, for a source and a sink; None says nothing of the bytes
pub record Devices : Type 0 where
  pub left : Option (List ℕ)
  pub read_failures : ℕ
  pub taken : Option (List ℕ)
  pub write_failures : ℕ

abbrev pub devices : Option (List ℕ) → ℕ → Option (List ℕ) → ℕ → Devices
devices left read_failures taken write_failures =
    record { left = left; read_failures = read_failures; taken = taken; write_failures = write_failures }

-- the source has the bytes that it had, and no read failed
abbrev pub ReadNothing : Devices → Devices → Type 0
ReadNothing old new = Keeps old.left new.left × (new.read_failures ≡ old.read_failures)

-- the sink took nothing, and no write failed
abbrev pub WroteNothing : Devices → Devices → Type 0
WroteNothing old new = Keeps old.taken new.taken × (new.write_failures ≡ old.write_failures)

-- standard input as the one file of an input: it has no name
abbrev pub standard_input : List ℕ → List File
standard_input bytes = record { name = []; bytes = bytes } ∷ []

-- bytes as the one file of an input, all of them where it is known which there are
abbrev pub AreBytes : Option (List ℕ) → List File → Type 0
AreBytes left files = (bytes : List ℕ) × IfSome left (λ all. bytes ≡ all) × (files ≡ standard_input bytes)

-- the files that a run of this code reads of a source with these bytes left: all its bytes as one file, and no file where the
-- code has neither a main rule nor an action of END
abbrev pub IsInput : Code → Option (List ℕ) → List File → Type 0
IsInput code left files = MatchBool (reads_records code) (AreBytes left files) (files ≡ [])

-- the source is read by no run of a code without a main rule and an action of END
abbrev pub IsUnread : Code → Devices → Devices → Type 0
IsUnread code old new = reads_records code ≡ false → ReadNothing old new

-- what a run depends on: the code and the assignments of a request that is accepted, and the files that were read
pub record Basis (wanted : Request) (old new : Devices) : Type 0 where
  pub code : Code
  pub assignments : List (Text × Text)
  pub accepted : IsAccepted wanted code assignments
  pub files : List File
  pub input : IsInput code old.left files
  pub unread : IsUnread code old new

module _ {wanted : Request} {old new : Devices} (b : Basis wanted old new) where
  -- the run of the definition
  abbrev pub meant : Finish Globals
  meant = whole_run b.code wanted.budget b.assignments b.files

  -- how its BEGIN ends
  abbrev pub begin_of : End Globals
  begin_of = begin_end b.code wanted.budget b.assignments

  -- the cutting that is asked for has no plan
  abbrev pub IsUncut : Type 0
  IsUncut = HasNoPlan b.code begin_of b.files wanted.cutting.now

-- The text is a program's, the settings are accepted, and the cutting has a plan. Over what the source has, this is the ending
-- and the route of the program's run, and the sink took its output.
pub record Answers (wanted : Request) (old new : Devices) (ending : Ending) (report : Report) : Type 0 where
  pub basis : Basis wanted old new
  pub planned : ¬ IsUncut basis
  pub ending_is : (meant basis).ending ≡ ending_view ending
  pub route_is : IsRoute basis.code wanted.budget basis.files (begin_of basis) report.route
  pub wrote : Appends old.taken new.taken (meant basis).output

-- the sink took n bytes of an output, and not all
abbrev pub TookPart : List ℕ → Option (List ℕ) → Option (List ℕ) → ℕ → Type 0
TookPart output old new count = (count < length output) × Appends old new (take count output)

-- why a source is not read to its end: the bytes that it had, and its count of failures before and after
abbrev pub WhyUnread : Option (List ℕ) → ℕ → ℕ → StreamRefusal → Type 0
WhyUnread left old new refusal.Memory = new ≡ old
WhyUnread left old new refusal.Thread = ⊥
WhyUnread left old new refusal.Cutting = ⊥
WhyUnread left old new (refusal.Program why) = ⊥
WhyUnread left old new (refusal.Settings why) = ⊥
WhyUnread left old new refusal.Read = old < new
WhyUnread left old new (refusal.Write count) = ⊥
WhyUnread left old new refusal.Input = IfSome left (λ bytes. most_bytes < length bytes)

-- why an output was not written to its end: the bytes that the sink took, and its count of failures, before and after
abbrev pub WhyUnwritten : List ℕ → Option (List ℕ) → Option (List ℕ) → ℕ → ℕ → StreamRefusal → Type 0
WhyUnwritten output old new old_failures new_failures refusal.Memory = Keeps old new × (new_failures ≡ old_failures)
WhyUnwritten output old new old_failures new_failures refusal.Thread = ⊥
WhyUnwritten output old new old_failures new_failures refusal.Cutting = ⊥
WhyUnwritten output old new old_failures new_failures (refusal.Program why) = ⊥
WhyUnwritten output old new old_failures new_failures (refusal.Settings why) = ⊥
WhyUnwritten output old new old_failures new_failures refusal.Read = ⊥
WhyUnwritten output old new old_failures new_failures (refusal.Write count) =
    (old_failures < new_failures) × TookPart output old new count
WhyUnwritten output old new old_failures new_failures refusal.Input = ⊥

-- the request is accepted, and records are read by its code
abbrev pub AreWanted : Request → Type 0
AreWanted wanted =
    (code : Code) × (assignments : List (Text × Text)) × IsAccepted wanted code assignments × (reads_records code ≡ true)

-- Memory was refused: no read and no write failed, and nothing was written; nothing was read where the request is not accepted
-- or its code reads none.
pub record LacksMemory (wanted : Request) (old new : Devices) : Type 0 where
  pub wrote : WroteNothing old new
  pub no_failure : new.read_failures ≡ old.read_failures
  pub read : AreWanted wanted ⊎ ReadNothing old new

-- What a refusal says: Nothing was written, but with Write. Nothing was read where the text or the settings are
-- refused, and where the program reads none.
abbrev pub WhyRefused : Request → Devices → Devices → StreamRefusal → Type 0
WhyRefused wanted old new refusal.Memory = LacksMemory wanted old new
WhyRefused wanted old new refusal.Thread = Basis wanted old new × WroteNothing old new
WhyRefused wanted old new refusal.Cutting = ((b : Basis wanted old new) × IsUncut b) × WroteNothing old new
WhyRefused wanted old new (refusal.Program why) =
    WhyUnaccepted wanted (refusal.Program why) × ReadNothing old new × WroteNothing old new
WhyRefused wanted old new (refusal.Settings why) =
    WhyUnaccepted wanted (refusal.Settings why) × ReadNothing old new × WroteNothing old new
WhyRefused wanted old new refusal.Read =
    AreWanted wanted × (old.read_failures < new.read_failures) × WroteNothing old new
WhyRefused wanted old new (refusal.Write count) =
    (old.write_failures < new.write_failures)
    × ((b : Basis wanted old new) × TookPart (meant b).output old.taken new.taken count)
WhyRefused wanted old new refusal.Input =
    AreWanted wanted × IfSome old.left (λ bytes. most_bytes < length bytes) × WroteNothing old new
