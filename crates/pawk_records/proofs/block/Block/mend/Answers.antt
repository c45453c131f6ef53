use Rattle.std.proofs.Common.{◌≡◌, ◌++◌, take, drop, ap, ◌∙◌, append_assoc}
use Rattle.std.proofs.lemmas.List.{take-append-drop}
use Rattle.pawk_records.proofs.block.Block.mend.Goals as goal

pub returns-else-is_empty-clause-same : goal.returns-else-is_empty-clause-same
returns-else-is_empty-clause-same c =
    let a = c.args.self.now in
    let b = c.args.next.now in
    let head = c.head_length-head.result in
    let front : c.split_at.result.0.now ≡ take head b = c.split_at.ensures.front ∙ ap (take head) c.bytes-3.ensures in
    ap (λ l. l ++ c.skip.new.self) (c.in_ok-append.ensures.ok ∙ ap (λ l. a ++ l) front)
    ∙ ap (λ l. (a ++ take head b) ++ l) c.skip.ensures
    ∙ append_assoc a (take head b) (drop head b) ∙ ap (λ l. a ++ l) (take-append-drop head b)
