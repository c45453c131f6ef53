use Rattle.pawk_runtime.proofs.plain.push_plain.Goals as goal

pub returns-in-Leaf-clause-text : goal.returns-in-Leaf-clause-text
returns-in-Leaf-clause-text g c = rw c.in-Leaf.is c.push_leaf.ensures.text
