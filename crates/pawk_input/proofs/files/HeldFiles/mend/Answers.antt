use Rattle.std.proofs.Common.{sym, subst}
use Rattle.pawk_input.specs.Input.{IsReady}
use Rattle.pawk_input.specs.Held.{held_files}
use Rattle.pawk_input.specs.declared.files.HeldFiles.{HeldFiles}
use Rattle.pawk_input.proofs.ItemsLemmas.{vectors_ready}
use Rattle.pawk_input.proofs.files.HeldFiles.mend.Goals as goal

pub returns-in-Vectors-clause-ready : goal.returns-in-Vectors-clause-ready
returns-in-Vectors-clause-ready c =
    let P : HeldFiles → Type 0 = λ h. IsReady c.args.rs.now (held_files h) in
    subst P (sym c.in-Vectors.is) (vectors_ready c.args.rs.now c.in-Vectors.field-0.items)
