use Rattle.std.proofs.Common.{◌≡◌, ◌<◌, ◌≤◌, ◌*◌, ◌+◌, ◌++◌, ◌∷◌, [], drop, take, length, sym, ap, ◌∙◌, arith, rules}
use Rattle.std.proofs.lemmas.List.{drop-drop}
use Rattle.pawk_records.specs.Census.{IsCensus}
use Rattle.pawk_records.specs.declared.census.TheConstants.{SEGMENT}
use Rattle.pawk_records.proofs.CensusLemmas.{newlines, segments_fit, segment_more}
use Rattle.pawk_records.proofs.census.Census.grow.Goals as goal

pub overflow_mul-len : goal.overflow_mul-len
overflow_mul-len c =
    let census : IsCensus c.self.inside.counts.items c.args.text.now = rw c.self.view_is c.requires in
    let n : c.len.result ≡ length c.self.inside.counts.items = search rules in
    let small : length c.args.text.now < 18446744073709551616 = search rules in
    omega (arith, n, small, segments_fit SEGMENT c.self.inside.counts.items c.args.text.now census)

pub split_at-requires : goal.split_at-requires
split_at-requires c =
    let census : IsCensus c.self.inside.counts.items c.args.text.now = rw c.self.view_is c.requires in
    let n : c.len.result ≡ length c.self.inside.counts.items = search rules in
    rw n (segments_fit SEGMENT c.self.inside.counts.items c.args.text.now census)

pub loop-rest-preserved : goal.loop-rest-preserved
loop-rest-preserved c =
    let counts = c.loop-rest.self-inside.counts.items in
    let l = c.args.text.now in
    let n = length counts * SEGMENT in
    let rest = c.loop-rest.rest.now in
    let held = c.loop-rest.invariant in
    let full : SEGMENT ≤ length rest = omega (arith, c.loop-rest-test.true) in
    let more = rw (sym held.same) at (segment_more SEGMENT counts l held.census (rw (sym held.same) full)) in
    let count : c.count_byte.result ≡ newlines (take SEGMENT rest) = c.count_byte.ensures ∙ ap newlines c.split_at-in-loop-rest.ensures.front in
    let items : c.push.new.self.items ≡ counts ++ newlines (take SEGMENT rest) ∷ [] = c.in_ok-push.ensures.items ∙ ap (λ k. counts ++ k ∷ []) count in
    let long : length (counts ++ newlines (take SEGMENT rest) ∷ []) ≡ length counts + 1 = search rules in
    let next : n + SEGMENT ≡ length c.push.new.self.items * SEGMENT = omega (arith, ap length items ∙ long) in
    record {
      census = rw items more;
      same = c.split_at-in-loop-rest.ensures.back ∙ ap (drop SEGMENT) held.same ∙ drop-drop SEGMENT n l ∙ ap (λ k. drop k l) next;
    }
