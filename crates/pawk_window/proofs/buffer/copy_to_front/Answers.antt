use Rattle.std.proofs.Common.{◌≡◌, ◌+◌, ◌-◌, ◌≤◌, ◌++◌, length, take, drop, ap, sym, ◌∙◌, arith}
use Rattle.std.proofs.lemmas.List.{drop-take, take-take, take-append-le, take_all, length-append}
use Rattle.pawk_window.proofs.buffer.copy_to_front.Goals as goal

pub returns-clause-front : goal.returns-clause-front
returns-clause-front c =
    let n = c.args.to - c.args.from in
    let x = c.copy_from_slice.new.self in
    let after = c.copy_from_slice.ensures.after in
    let long : length x ≡ n = c.copy_from_slice.ensures.len ∙ c.split_at_mut-front.ensures.front_len in
    let parts = ap length c.split_at_mut-front.ensures.value ∙ length-append c.split_at_mut-front.result.0.now c.split_at_mut-front.result.1.now in
    let deref = c.deref_mut.ensures.len in
    let le : n ≤ c.if-len-count.buffer.len = omega (arith, parts, deref, c.split_at_mut-front.ensures.front_len) in
    let to : c.args.from + n ≡ c.args.to = omega (arith, c.requires.order) in
    let back = c.split_at_mut-front.result.1.now in
    let rest = drop (length (x ++ back)) c.if-len-count.buffer.items in
    take-take n c.if-len-count.buffer.len ((x ++ back) ++ rest) le
    ∙ take-append-le n (x ++ back) rest (omega (arith, long, length-append x back))
    ∙ take-append-le n x back (omega (arith, long))
    ∙ take_all n x (omega (arith, long)) ∙ after
    ∙ sym (drop-take c.args.from n c.args.bytes.now)
    ∙ ap (λ k. drop c.args.from (take k c.args.bytes.now)) to
