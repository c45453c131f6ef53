use Rattle.std.proofs.Common.{ap, arith}
use Rattle.pawk_input.specs.Input.{total_size}
use Rattle.pawk_input.proofs.ItemsLemmas.{files_of_vectors, vectors_ready}
use Rattle.pawk_input.proofs.files.Input.new.Goals as goal

pub returns-then-are_limited-clause-files : goal.returns-then-are_limited-clause-files
returns-then-are_limited-clause-files c = files_of_vectors c.args.files.items

pub returns-then-are_limited-clause-ready : goal.returns-then-are_limited-clause-ready
returns-then-are_limited-clause-ready c = λ rs. vectors_ready rs c.args.files.items

pub returns-else-are_limited-clause-limited : goal.returns-else-are_limited-clause-limited
returns-else-are_limited-clause-limited c =
    let same = ap total_size (files_of_vectors c.args.files.items) in grind (arith, same)
