use Rattle.std.proofs.Common.{◌≤◌, length, length-drop, take, drop, subst, ◌∙◌, arith}
use Rattle.std.specs.Io.KnownBytes.{Appends}
use Rattle.pawk_device.specs.declared.device.Failed.{Failed}
use Rattle.pawk_device.proofs.TransferLemmas.{Appends-more, took_some, take-more}
use Rattle.pawk_device.proofs.transfer.write_all.Goals as goal

pub loop-done-preserved : goal.loop-done-preserved
loop-done-preserved g c =
    let bytes = c.args.bytes.now in
    let n = c.in-Ok.count in
    let rest = drop c.loop-done.done bytes in
    let few : n ≤ length rest = rw c.past.ensures at c.in-Ok.ensures.bound in
    let wrote : Appends (g.K.Sink.taken c.loop-done.sink) (g.K.Sink.taken c.write.new.self) (take n rest) = rw c.past.ensures at c.in-Ok.ensures.bytes in
    let more = Appends-more _ _ _ (take c.loop-done.done bytes) (take n rest) c.loop-done.invariant.took wrote in
    record {
      within = omega (arith, few, length-drop c.loop-done.done bytes);
      took = subst (λ l. Appends (g.K.Sink.taken c.args.sink.now) (g.K.Sink.taken c.write.new.self) l) (take-more c.loop-done.done n bytes) more;
      no_failure = took_some Failed _ _ rest n (omega arith) few (rw c.past.ensures at c.in-Ok.ensures.counted) ∙ c.loop-done.invariant.no_failure;
    }
