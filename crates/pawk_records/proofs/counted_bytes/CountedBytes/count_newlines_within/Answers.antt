use Rattle.std.proofs.Common.{◌≡◌, ◌+◌, ◌-◌, ◌*◌, ◌≤◌, take, drop, sym, ap, ◌∙◌, arith}
use Rattle.std.proofs.lemmas.List.{drop-drop}
use Rattle.pawk_records.specs.declared.census.TheConstants.{SEGMENT}
use Rattle.pawk_records.proofs.CensusLemmas.{newlines, newlines_joined, segments_after, segments_within}
use Rattle.pawk_records.proofs.counted_bytes.CountedBytes.count_newlines_within.Goals as goal

pub count_newlines-requires : goal.count_newlines-requires
count_newlines-requires c =
    let first = c.div_ceil-first.result in
    let last = c.min-last.result in
    let to = c.self.inside.from + c.args.end in
    let up : last * SEGMENT ≤ to = omega (arith, c.min-last.ensures) in
    segments_within SEGMENT (last - first) (to - first * SEGMENT) _ _
    (segments_after SEGMENT first c.self.inside.counts.now c.self.inside.text.now c.self.invariant.1) (omega arith)

pub returns : goal.returns
returns c =
    let l = c.self.inside.text.now in
    let from = c.self.inside.from in
    let a = from + c.args.start in
    let b = from + c.args.end in
    let f = c.div_ceil-first.result * SEGMENT in
    let n : b - a ≡ c.args.end - c.args.start = omega arith in
    let low : a ≤ f = omega (arith, c.div_ceil-first.ensures) in
    let high : f ≤ b = omega (arith, c.min-last.ensures) in
    let at : drop c.args.start c.args.self.now ≡ drop a l = ap (drop c.args.start) (sym c.self.view_is) ∙ drop-drop c.args.start from l in
    omega (
      arith,
      newlines_joined a f b l low high,
      c.count_byte-2.ensures,
      c.count_newlines.ensures,
      ap newlines (ap (λ k. take k (drop a l)) n ∙ ap (take (c.args.end - c.args.start)) (sym at)),
    )
