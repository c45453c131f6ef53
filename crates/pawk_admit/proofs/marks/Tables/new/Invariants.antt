use Rattle.std.proofs.Common.{◌≡◌, ◌≤◌, vec_len, drop}
use Rattle.pawk_admit.specs.declared.occurrence.GlobalName.{GlobalName}
use Rattle.pawk_admit.specs.Marks.{marks_of, marks_from, marks_among}
use Rattle.pawk_admit.proofs.marks.Tables.new.Given as goal

abbrev pub invariant-loop-occurrence : goal.invariant-loop-occurrence
invariant-loop-occurrence l =
    (l.fn.scalars ≤ vec_len l.tables.scalars) × (l.fn.arrays ≤ vec_len l.tables.arrays)
    × ((name : GlobalName) → marks_from (marks_of l.tables name) (drop l.occurrence-index l.list) name ≡ marks_among l.list name)
