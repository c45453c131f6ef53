use Rattle.std.proofs.Common.{◌≡◌, ◌++◌, ◌∷◌, [], ◌+◌, length, ◌∙◌, ap}
use Rattle.std.specs.Prelude.{slice_range}
use Rattle.std.proofs.lemmas.List.{map-append}
use Rattle.pawk_array.proofs.KeysLemmas.{texts_stay, last_range}
use Rattle.pawk_array.proofs.texts.Texts.push.Goals as goal

pub returns : goal.returns
returns c =
    let bytes = c.self.inside.bytes in
    let ranges = c.self.inside.ranges.items in
    let text = c.args.text.now in
    let start : c.len-start.result ≡ length bytes.items = c.len-start.ensures ∙ bytes.ok.0 in
    let end : c.len-end.result ≡ length bytes.items + length text =
    c.len-end.ensures ∙ c.in_ok-extend_from_slice.ensures.len ∙ ap (λ n. n + length text) bytes.ok.0 in
    let last : slice_range (bytes.items ++ text) c.len-start.result c.len-end.result ≡ text =
    ap (λ n. slice_range (bytes.items ++ text) n c.len-end.result) start ∙ last_range bytes.items text c.len-end.result end in
    rw (c.in_ok-extend_from_slice.ensures.items, c.in_ok-push.ensures.items)
    (map-append _ ranges _
    ∙ ap (λ xs. xs ++ slice_range (bytes.items ++ text) c.len-start.result c.len-end.result ∷ []) (texts_stay bytes.items text ranges c.self.invariant ∙ c.self.view_is)
    ∙ ap (λ x. c.args.self.now ++ x ∷ []) last)
