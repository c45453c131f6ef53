use Rattle.std.proofs.Common.{◌≡◌, ◌∙◌, ap, subst, sym, take}
use Rattle.std.specs.Prelude.{◌+◌, ◌++◌, ◌∷◌, []}
use Rattle.std.proofs.lemmas.List.{take_more}
use Rattle.pawk_array.specs.Entries.{put}
use Rattle.pawk_value.specs.Value.{Uninit}
use Rattle.pawk_store.specs.Openings.{Knows, texts_of}
use Rattle.pawk_store.proofs.OpeningLemmas.{knows_more, texts_and}
use Rattle.pawk_store.proofs.openings.known_names.Goals as goal

pub loop-name-preserved : goal.loop-name-preserved
loop-name-preserved c =
    let i = c.loop-name.name-index in
    let names = c.args.names.now in
    let item = c.name-item.result in
    let w = c.as_slice.result.now in
    let more : texts_of (take (i + 1) names) ≡ texts_of (take i names) ++ w ∷ [] =
    ap texts_of (take_more names i item c.loop-name-test.true ∙ ap (λ e. take i names ++ e ∷ []) (sym c.name-item.is))
    ∙ texts_and (take i names) item
    ∙ ap (λ x. texts_of (take i names) ++ x ∷ []) (sym c.as_slice.ensures.value) in
    subst (λ es. Knows es (texts_of (take (i + 1) names))) (sym c.in_ok-set.ensures)
    (subst (λ ts. Knows (put w Uninit c.loop-name.known) ts) (sym more) (knows_more c.loop-name.known (texts_of (take i names)) w c.loop-name.invariant))
