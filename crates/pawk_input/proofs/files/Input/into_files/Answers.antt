use Rattle.std.proofs.Common.{ap, sym, ◌∙◌}
use Rattle.pawk_input.specs.Input.{files_of}
use Rattle.pawk_input.specs.Held.{held_files}
use Rattle.pawk_input.proofs.ItemsLemmas.{files_of_vectors}
use Rattle.pawk_input.proofs.files.Input.into_files.Goals as goal

pub returns-in-Vectors : goal.returns-in-Vectors
returns-in-Vectors c =
    rw c.in-Vectors.files-is (sym (files_of_vectors c.in-Vectors.files.items) ∙ ap files_of (ap held_files (sym c.in-Vectors.is) ∙ c.self.view_is))
