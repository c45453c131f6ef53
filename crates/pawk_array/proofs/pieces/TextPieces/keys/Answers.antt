use Rattle.std.proofs.Common.{◌≡◌, ◌+◌, ◌∷◌, [], length, map, sym, ◌∙◌, ap, arith}
use Rattle.std.proofs.lemmas.List.{length-append, length-map, map-append}
use Rattle.std.specs.Fmt.{decimal}
use Rattle.pawk_array.specs.declared.headed.Headed.{Headed}
use Rattle.pawk_array.proofs.PiecesLemmas.{number_keys, one_number}
use Rattle.pawk_array.proofs.pieces.TextPieces.keys.Goals as goal

pub loop-place-preserved : goal.loop-place-preserved
loop-place-preserved c =
    let all = c.loop-place.all.items in
    let texts = map (λ (x : Headed). x.text.now) all in
    let size : length texts ≡ c.loop-place.place = length-map all (λ (x : Headed). x.text.now) ∙ c.loop-place.invariant.count in
    let number = c.new.ensures ∙ c.key.ensures ∙ ap (λ n. decimal (n + 1)) (sym size) in
    record {
      numbers = rw (c.in_ok-push.ensures.items, map-append (λ (x : Headed). x.text.now) all (c.new.result ∷ [])) (one_number texts c.new.result.text.now c.loop-place.invariant.numbers number);
      count = rw c.in_ok-push.ensures.items (length-append all (c.new.result ∷ []) ∙ omega (arith, c.loop-place.invariant.count));
    }

pub returns : goal.returns
returns c =
    let all = c.loop-place.all.items in
    let count : length all ≡ length c.args.self.now = omega (arith, c.loop-place.invariant.count, c.len-place-end.ensures.count, c.loop-place-test.false, c.loop-place.auto.place-end) in
    let size = length-map all (λ (x : Headed). x.text.now) ∙ count in
    number_keys c.args.self.now (map (λ x. x.text.now) all) (omega (arith, c.len.ensures)) size c.loop-place.invariant.numbers
