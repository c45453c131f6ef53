use Rattle.std.proofs.Common.{◌≡◌, ℕ, None, Some, MatchOption, List, ◌∷◌, [], take, drop, sym, arith, ◌∙◌}
use Rattle.pawk_records.specs.LineEnds.{AreLineEnds, end_bits}
use Rattle.pawk_records.proofs.LineEndsLemmas.{no_end}
use Rattle.pawk_records.proofs.LineLemmas.{none_on}
use Rattle.pawk_records.proofs.line_ends.LineEnds.find_line.Goals as goal

pub loop-from-init : goal.loop-from-init
loop-from-init c =
    let ends = c.requires.ends in
    record { within = ends.within; none = no_end c.args.separator _ (sym ends.right ∙ c.requires.none) }

pub loop-from-preserved : goal.loop-from-preserved
loop-from-preserved c =
    let s = c.args.text.now in
    let from = c.loop-from.from in
    let empty : end_bits c.args.separator (take 64 (drop from s)) ≡ 0 = sym c.block_ends-bits.ensures ∙ omega (arith, c.if-bits-ne0.false) in
    record {
      within = omega (arith, c.loop-from-test.true, c.loop-from.invariant.within);
      none = none_on c.args.separator from 64 s c.loop-from.invariant.none (no_end c.args.separator _ empty);
    }

pub returns-clause-ends : goal.returns-clause-ends
returns-clause-ends c =
    let e = c.args.separator in
    let known = λ (text : List ℕ). c.none.ensures (e ∷ []) text in
    elim c.late_line.result as (λ r. MatchOption r (AreLineEnds e c.none.result c.args.text.now) (λ parts. AreLineEnds e c.none.result parts.1.now)) [
      | None ↦ known c.args.text.now
      | Some parts ↦ known parts.1.now
    ]
