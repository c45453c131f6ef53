use Rattle.std.proofs.Common.{◌≡◌, ℕ, List, ◌++◌, take, subst, sym, ap, ◌∙◌, arith}
use Rattle.std.proofs.lemmas.List.{append-nil}
use Rattle.std.specs.Io.KnownBytes.{Consumes}
use Rattle.pawk_input.specs.Limits.{most_bytes}
use Rattle.pawk_device.proofs.TransferLemmas.{Consumes-more, all_given, given_most}
use Rattle.pawk_device.proofs.transfer.read_pieces.Goals as goal

none_more : (bs piece : List ℕ) (n : ℕ) → n ≡ 0 → bs ++ take n piece ≡ bs
none_more bs piece n e = ap (λ k. bs ++ take k piece) e ∙ append-nil bs

pub returns-then-count-eq0-clause-bytes : goal.returns-then-count-eq0-clause-bytes
returns-then-count-eq0-clause-bytes g c =
    let bs = c.loop-count.bytes.items in
    let given = Consumes-more _ _ _ bs (take c.in-Ok.count c.read.new.buffer) c.loop-count.invariant.gave c.in-Ok.ensures.bytes.0 in
    let all = subst (λ l. Consumes (g.S.Source.left c.args.source.now) (g.S.Source.left c.read.new.self) l) (none_more bs c.read.new.buffer c.in-Ok.count c.if-count-eq0.true) given in
    all_given _ _ bs all (c.in-Ok.ensures.bytes.1 c.if-count-eq0.true (omega arith))

pub returns-then-len-gt-LIMIT-clause-large : goal.returns-then-len-gt-LIMIT-clause-large
returns-then-len-gt-LIMIT-clause-large g c = λ _.
    let bs = c.loop-count.bytes.items in
    let given = Consumes-more _ _ _ bs (take c.in-Ok.count c.read.new.buffer) c.loop-count.invariant.gave c.in-Ok.ensures.bytes.0 in
    let all = subst (λ l. Consumes (g.S.Source.left c.args.source.now) (g.S.Source.left c.read.new.self) l) (sym (c.in_ok-extend_from_slice.ensures.items ∙ ap (λ l. l ++ take c.in-Ok.count c.read.new.buffer) c.make_room.ensures)) given in
    given_most _ _ c.extend_from_slice.new.self.items most_bytes all (omega arith)

pub loop-count-preserved : goal.loop-count-preserved
loop-count-preserved g c =
    let bs = c.loop-count.bytes.items in
    let given = Consumes-more _ _ _ bs (take c.in-Ok.count c.read.new.buffer) c.loop-count.invariant.gave c.in-Ok.ensures.bytes.0 in
    record {
      small = omega arith;
      gave = subst (λ l. Consumes (g.S.Source.left c.args.source.now) (g.S.Source.left c.read.new.self) l) (sym (c.in_ok-extend_from_slice.ensures.items ∙ ap (λ l. l ++ take c.in-Ok.count c.read.new.buffer) c.make_room.ensures)) given;
      no_failure = c.in-Ok.ensures.counted ∙ c.loop-count.invariant.no_failure;
    }
