use Rattle.std.proofs.Common.{List, ℕ, [], ◌∷◌, ◌++◌, ap, ◌∙◌}
use Rattle.pawk_ere.proofs.Needed.{tail_needed}
use Rattle.pawk_ere.proofs.words.needed_words.Goals as goal

pub returns : goal.returns
returns c = λ e f. tail_needed e c.args.features _ f
    (c.in_ok-push.ensures.items ∙ ap (λ (l : List (List ℕ)). l ++ c.build_forward_owned.result ∷ []) c.clear.ensures.items ∙ ap (λ (w : List ℕ). w ∷ []) c.build_forward_owned.ensures)
