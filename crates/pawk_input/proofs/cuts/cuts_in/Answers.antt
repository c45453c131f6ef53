use Rattle.std.proofs.Common.{sym, arith, rules, length, eqb, tests}
use Rattle.std.proofs.lemmas.List.Sums.{prefix_len_is}
use Rattle.pawk_input.proofs.cuts.cuts_in.Goals as goal

pub returns-then-cut-file-clause-value : goal.returns-then-cut-file-clause-value
returns-then-cut-file-clause-value c =
    sym (prefix_len_is (λ cut. eqb cut.0 c.args.file) c.args.cuts.now c.loop-i.i (0, 0) (omega arith) (λ k h. c.loop-i.invariant k (0, 0) h) (λ _. search (rules, tests)))

pub returns-clause-value : goal.returns-clause-value
returns-clause-value c =
    sym (prefix_len_is (λ cut. eqb cut.0 c.args.file) c.args.cuts.now (length c.args.cuts.now) (0, 0) (omega arith) (λ k h. c.loop-i.invariant k (0, 0) (omega arith)) (λ h. absurd (omega arith)))
