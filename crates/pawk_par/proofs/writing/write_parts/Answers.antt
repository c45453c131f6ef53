use Rattle.std.proofs.Common.{◌≡◌, ℕ, ◌+◌, ◌<◌, List, ◌++◌, length, take, drop, ap, subst, ◌∙◌, arith, length-append}
use Rattle.std.specs.Io.KnownBytes.{Appends}
use Rattle.pawk_store.specs.Outputs.{in_a_row}
use Rattle.pawk_device.proofs.TransferLemmas.{Appends-more}
use Rattle.pawk_par.proofs.WritingLemmas.{take-into, take-whole, drop-past}
use Rattle.pawk_par.proofs.writing.write_parts.Goals as goal

pub returns-in-Err-clause-part : goal.returns-in-Err-clause-part
returns-in-Err-clause-part g c =
    let whole = in_a_row c.args.parts.items in
    let done = c.loop-part.done in
    let n = c.in-Err.count in
    let text : List ℕ = c.in-Some.part.items in
    let rest = in_a_row c.next.new.self.rest.items in
    let steps = c.in-Some.ensures.steps.0 in
    let row : drop done whole ≡ text ++ rest = c.loop-part.invariant.rest ∙ ap in_a_row steps in
    let long = ap (λ xs. length (in_a_row xs)) steps in
    let sum = length-append text rest in
    let size = c.loop-part.invariant.size in
    let told = rw c.deref.ensures.value at c.in-Err.ensures.part in
    let small : n < length text = told.0 in
    let wrote : Appends (g.K.Sink.taken c.loop-part.sink) (g.K.Sink.taken c.write_all.new.sink) (take n text) = told.1 in (
      omega (arith, size, long, sum, small),
      subst (λ (l : List ℕ). Appends (g.K.Sink.taken c.args.sink.now) (g.K.Sink.taken c.write_all.new.sink) l) (take-into whole text rest done n row (omega (arith, small)))
          (Appends-more _ _ _ (take done whole) (take n text) c.loop-part.invariant.took wrote),
    )

pub loop-part-preserved : goal.loop-part-preserved
loop-part-preserved g c =
    let whole = in_a_row c.args.parts.items in
    let done = c.loop-part.done in
    let text : List ℕ = c.in-Some.part.items in
    let rest = in_a_row c.next.new.self.rest.items in
    let steps = c.in-Some.ensures.steps.0 in
    let row : drop done whole ≡ text ++ rest = c.loop-part.invariant.rest ∙ ap in_a_row steps in
    let long = ap (λ xs. length (in_a_row xs)) steps in
    let sum = length-append text rest in
    let size = c.loop-part.invariant.size in
    let len : length text ≡ c.len.result = omega (arith, c.len.ensures, c.in-Some.part.ok.0) in
    let wrote : Appends (g.K.Sink.taken c.loop-part.sink) (g.K.Sink.taken c.write_all.new.sink) text = rw c.deref.ensures.value at c.in-Ok.ensures.all in
    let more : Appends (g.K.Sink.taken c.args.sink.now) (g.K.Sink.taken c.write_all.new.sink) (take (done + length text) whole) =
    subst (λ (l : List ℕ). Appends (g.K.Sink.taken c.args.sink.now) (g.K.Sink.taken c.write_all.new.sink) l) (take-whole whole text rest done row)
    (Appends-more _ _ _ (take done whole) text c.loop-part.invariant.took wrote) in
    record {
      size = omega (arith, size, long, sum, len);
      rest = subst (λ (k : ℕ). drop (done + k) whole ≡ rest) len (drop-past whole text rest done row);
      took = subst (λ (k : ℕ). Appends (g.K.Sink.taken c.args.sink.now) (g.K.Sink.taken c.write_all.new.sink) (take (done + k) whole)) len more;
      no_failure = c.in-Ok.ensures.unfailing ∙ c.loop-part.invariant.no_failure;
    }
