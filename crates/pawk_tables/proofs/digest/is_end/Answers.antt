use Rattle.std.proofs.Common.{◌≡◌, true, false, [], sym, ◌∙◌}
use Rattle.std.proofs.lemmas.Slice.Eq.{bytes_eq-Decides}
use Rattle.hex.specs.Hex.{encode_lower}
use Rattle.pawk_lines.specs.Lines.{BeginsLine, end}
use Rattle.pawk_tables.proofs.DigestLemmas.{begins_end, end_is_all, same_text}
use Rattle.pawk_tables.proofs.digest.is_end.Goals as goal

pub returns-in_default : goal.returns-in_default
returns-in_default c =
    let digest = c.args.digest.now in (
      λ h. let bad : false ≡ true = h in absurd cc,
      λ e. absurd (c.in_default.ensures (end (encode_lower digest)) [] (begins_end c.args.bytes.now digest c.told-digest e)),
    )

pub returns-in-End : goal.returns-in-End
returns-in-End c =
    let bytes = c.args.bytes.now in
    let digest = c.args.digest.now in
    let text = c.in-End.text.now in
    let rest = c.in-Ok.field-0-1.now in
    let here : BeginsLine bytes (end text) rest = rw c.in-End.is at c.in-Ok.ensures in
    let digits : c.as_slice.result.now ≡ encode_lower digest = c.as_slice.ensures ∙ c.digits.ensures in
    let test = bytes_eq-Decides text c.as_slice.result.now in (
      λ h. end_is_all bytes rest text digest c.requires c.told-digest (test.0 (sym c.eq.ensures ∙ h) ∙ digits) here,
      λ e. c.eq.ensures ∙ test.1 (same_text bytes rest text digest c.told-digest here e ∙ sym digits),
    )
