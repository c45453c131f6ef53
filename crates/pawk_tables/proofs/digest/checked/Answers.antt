use Rattle.std.proofs.Common.{◌≡◌, true, false, refl, ap, arith, sym, ◌∙◌}
use Rattle.pawk_lines.specs.Lines.{end, line_bytes}
use Rattle.hex.specs.Hex.{encode_lower}
use Rattle.pawk_tables.specs.Layout.{end_bytes}
use Rattle.pawk_tables.proofs.DigestLemmas.{split_at_end}
use Rattle.pawk_tables.proofs.digest.checked.Goals as goal

pub returns-then-bytes-lt-END_LENGTH : goal.returns-then-bytes-lt-END_LENGTH
returns-then-bytes-lt-END_LENGTH c = (refl, λ body e. let split = split_at_end c.args.bytes.now body e in omega (arith, split.long))

pub returns-else-is_end : goal.returns-else-is_end
returns-else-is_end c = (
  refl,
  λ body e.
      let split = split_at_end c.args.bytes.now body e in
      let front : c.split_at.result.0.now ≡ body = c.split_at.ensures.front ∙ split.front in
      let back : c.split_at.result.1.now ≡ end_bytes c.split_at.result.0.now = c.split_at.ensures.back ∙ split.back ∙ sym (ap end_bytes front) in
      let here : c.split_at.result.1.now ≡ line_bytes (end (encode_lower c.digest.result)) = back ∙ ap (λ d. line_bytes (end (encode_lower d))) (sym c.digest.ensures) in
      let bad : false ≡ true = c.if-is_end.ensures.1 here in
      cc,
)
