use Rattle.std.proofs.Common.{◌≡◌, ◌+◌, ◌≤◌, ◌++◌, nat_eq, length, take, drop, ap, sym, subst, ◌∙◌, arith}
use Rattle.std.proofs.lemmas.List.{take-take, length-take-le, length-drop}
use Rattle.pawk_records.specs.Separator.{rs_of}
use Rattle.pawk_window.specs.Cuts.{NoneEnds}
use Rattle.pawk_window.proofs.WindowLemmas.{none_first, parts_at}
use Rattle.pawk_window.proofs.window.Window.read_on.Goals as goal

pub whole_after-self-inside-requires-clause-open :
    goal.whole_after-self-inside-requires-clause-open
whole_after-self-inside-requires-clause-open g c =
    let w = c.self.inside in
    let old = w.buffer.items in
    let all = w.filled + c.in_ok-count.count in
    let zero_is = none_first w.whole old (omega (arith, c.self.invariant.order, c.self.invariant.within)) (ap (λ v. v.whole) c.self.view_is ∙ c.requires.forgotten) in
    let same : take w.filled (take all c.deref.result.now) ≡ drop w.whole (take w.filled old) =
    take-take w.filled all c.deref.result.now (omega arith) ∙ ap (λ l. take w.filled l) c.deref.ensures.value ∙ c.in_ok-count.ensures.kept
    ∙ sym (ap (λ k. drop k (take w.filled old)) zero_is) in
    subst (λ l. NoneEnds (rs_of w.separator) l) (sym same) c.self.invariant.unfinished

pub returns-clause-bytes : goal.returns-clause-bytes
returns-clause-bytes g c =
    let w = c.self.inside in
    let old = w.buffer.items in
    let new = c.read_after.new.buffer.items in
    let count = c.in_ok-count.count in
    let whole = c.whole_after-self-inside.result in
    let zero_is = none_first w.whole old (omega (arith, c.self.invariant.order, c.self.invariant.within)) (ap (λ v. v.whole) c.self.view_is ∙ c.requires.forgotten) in
    let tail : c.args.self.now.tail ≡ take w.filled new =
    sym (ap (λ v. v.tail) c.self.view_is) ∙ ap (λ k. drop k (take w.filled old)) zero_is ∙ sym c.in_ok-count.ensures.kept in
    let read = take count (drop w.filled new) in
    let long : length read ≡ count = length-take-le count (drop w.filled new) (omega (arith, c.in_ok-count.ensures.bound, length-drop w.filled new)) in
    let all : length (take (w.filled + count) c.deref.result.now) ≡ w.filled + count =
    length-take-le (w.filled + count) c.deref.result.now (omega (arith, c.in_ok-count.ensures.bound, c.deref.ensures.len)) in
    let within : whole ≤ w.filled + count = omega (arith, c.whole_after-self-inside.ensures.within, all) in
    record {
      read = read;
      consumes = c.in_ok-count.ensures.bytes.0;
      parts = ap (λ l. l ++ read) tail ∙ parts_at new w.filled count whole within;
      ended = ap (λ k. nat_eq k 0) (sym long);
    }
