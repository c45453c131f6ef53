use Rattle.std.proofs.Common.{◌≡◌, ◌++◌, ◌∷◌, [], ◌+◌, length, ◌∙◌, ap}
use Rattle.std.specs.Prelude.{slice_range}
use Rattle.std.proofs.lemmas.List.{map-append}
use Rattle.pawk_value.specs.Held.{held_value}
use Rattle.pawk_builtins.proofs.ValueLemmas.{values_stay, last_range}
use Rattle.pawk_builtins.proofs.values.Values.push.Goals as goal

pub returns : goal.returns
returns c =
    let bytes = c.self.inside.bytes in
    let values = c.self.inside.values.items in
    let added = c.args.bytes.now in
    let held = c.args.held in
    let start : c.len-begin.result ≡ length bytes.items = c.len-begin.ensures ∙ bytes.ok.0 in
    let end : c.len-end.result ≡ length bytes.items + length added =
    c.len-end.ensures ∙ c.in_ok-push_bytes.ensures.len ∙ ap (λ n. n + length added) bytes.ok.0 in
    let last : slice_range (bytes.items ++ added) c.len-begin.result c.len-end.result ≡ added =
    ap (λ n. slice_range (bytes.items ++ added) n c.len-end.result) start ∙ last_range bytes.items added c.len-end.result end in
    rw (c.in_ok-push_bytes.ensures.items, c.in_ok-push.ensures.items)
    (map-append _ values _
    ∙ ap (λ xs. xs ++ held_value held (slice_range (bytes.items ++ added) c.len-begin.result c.len-end.result) ∷ []) (values_stay bytes.items added values c.self.invariant ∙ c.self.view_is)
    ∙ ap (λ x. c.args.self.now ++ held_value held x ∷ []) last)
