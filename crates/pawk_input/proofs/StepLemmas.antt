-- Steps of a plan.
use Rattle.std.proofs.Common.{◌≡◌, inl, inr, ℕ, zero, suc, ◌+◌, ◌<◌, List, [], ◌∷◌, length, take, ap, arith, ◌∙◌}
use Rattle.std.specs.Prelude.{All}
use Rattle.std.proofs.lemmas.Bool.Decides.{leb_tells}
use Rattle.std.proofs.lemmas.List.Elements.{All-head, All-tail}
use Rattle.pawk_input.specs.Input.{File, file_at, total_size}
use Rattle.pawk_input.specs.Plan.{bytes_before, size_at, size_in_file}
use Rattle.pawk_input.specs.declared.steps.SizeStep.{SizeStep}

-- a size is 1 or more where those of all steps are
some_size_from : (size : ℕ) (steps : List SizeStep) (place : ℕ) → 0 < size → All (λ step. 0 < step.size) steps → 0 < size_at size steps place
some_size_from size [] place some each = some
some_size_from size (step ∷ steps) place some each = elim (leb_tells step.from place) [
  | inl y ↦ rw y.0 (some_size_from step.size steps place (All-head (λ step. 0 < step.size) step steps each) (All-tail (λ step. 0 < step.size) step steps each))
  | inr n ↦ rw n.0 some
]

pub some_size : (size : ℕ) (steps : List SizeStep) (before place : ℕ) → 0 < size → All (λ step. 0 < step.size) steps → 0 < size_in_file size steps before place
some_size size steps before place some each = some_size_from size steps (before + place) some each

-- the bytes before the next file
total_size_take : (files : List File) (file : ℕ) → file < length files → total_size (take (suc file) files) ≡ total_size (take file files) + length (file_at files file).bytes
total_size_take [] file lt = absurd (omega arith)
total_size_take (f ∷ fs) zero lt = omega arith
total_size_take (f ∷ fs) (suc file) lt = let later = total_size_take fs file (omega arith) in omega (arith, later)

pub bytes_before_next : (files : List File) (file : ℕ) (bytes : List ℕ) → file < length files → bytes ≡ (file_at files file).bytes → bytes_before files (file + 1) ≡ bytes_before files file + length bytes
bytes_before_next files file bytes lt is =
    let on : file + 1 ≡ suc file = omega arith in
    ap (bytes_before files) on ∙ omega (arith, total_size_take files file lt, ap length is)
