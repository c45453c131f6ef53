use Rattle.std.proofs.Common.{◌≡◌, ◌∙◌, ◌++◌, ◌∷◌, [], ℕ, Vec, Global, Option, ap, refl, sym, subst}
use Rattle.std.specs.Prelude.{MatchOption}
use Rattle.pawk_lines.specs.Lines as lines
use Rattle.pawk_lines.specs.Lines.{line_bytes}
use Rattle.pawk_tables.specs.Layout.{kept}
use Rattle.pawk_map.specs.Sections.{SaySections}
use Rattle.pawk_map.proofs.SayLemmas.{say_line}
use Rattle.pawk_map.proofs.parts.lines_of.Goals as goal

pub returns-in_ok-push_kept-in-None : goal.returns-in_ok-push_kept-in-None
returns-in_ok-push_kept-in-None c =
    let h = c.in_ok-push_kept-in-None.ensures in
    let fnr = c.args.fnr in
    let bytes = c.args.bytes.now in
    let out = c.push_kept.new.out.items in
    let all : out ≡ line_bytes (lines.last fnr bytes) = h.written ∙ ap (λ l. l ++ line_bytes (lines.last fnr bytes)) c.new-lines.ensures.items in
    subst (λ (o : Option (Vec ℕ Global)). MatchOption o ((scalars arrays : ℕ) → SaySections scalars arrays (kept fnr bytes ∷ []) out) (λ said. out ≡ said.items)) (sym c.in-None.is)
    (λ scalars arrays. subst (SaySections scalars arrays (kept fnr bytes ∷ [])) (sym all) (say_line scalars arrays (kept fnr bytes) (lines.last fnr bytes) h.line refl))
