use Rattle.std.proofs.Common.{◌≡◌, ◌∙◌, ◌++◌, [], ℕ, Vec, Global, ap, sym, subst, rules}
use Rattle.pawk_lines.specs.Lines.{line_bytes}
use Rattle.pawk_lines.specs.Lines as lines
use Rattle.pawk_map.specs.Maps.{IsFront}
use Rattle.pawk_map.proofs.SayLemmas.{front_none, front_file}
use Rattle.pawk_map.proofs.draft.file_line.Goals as goal
use Rattle.pawk_map.proofs.draft.file_line.Goals.{then-ne+in_ok-push_file, else-ne}

pub returns : goal.returns
returns c =
    let last = c.args.last.now in
    let name = c.args.name.now in
    elim c.if-ne.branch [
      | then-ne+in_ok-push_file w ↦
          let h = w.in_ok-push_file.ensures in
          let all : c.if-ne.line.items ≡ line_bytes (lines.file name) =
          ap (λ (v : Vec ℕ Global). v.items) w.line-is ∙ h.written ∙ ap (λ l. l ++ line_bytes (lines.file name)) c.new-line.ensures.items in
          subst (IsFront last name) (sym all) (front_file last name h.line)
      | else-ne w ↦
          let same : last ≡ name = search rules in
          let none : c.if-ne.line.items ≡ [] = ap (λ (v : Vec ℕ Global). v.items) w.line-is ∙ c.new-line.ensures.items in
          subst (IsFront last name) (sym none) (front_none last name same)
    ]
