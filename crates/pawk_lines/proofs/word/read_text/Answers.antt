use Rattle.std.proofs.Common.{◌≡◌, ℕ, List, Bor, refl, sym, ap, ◌∙◌, subst}
use Rattle.std.specs.Prelude.{if◌then◌else◌}
use Rattle.pawk_words.specs.declared.word.Word.{Word as Lent}
use Rattle.pawk_words.specs.declared.word.Word.TheVariants as lent
use Rattle.pawk_words.specs.Words.{text, shown}
use Rattle.pawk_lines.specs.declared.failure.Failure.TheVariants.{Short, Damage}
use Rattle.pawk_lines.specs.Reading.{Fails, Texts}
use Rattle.pawk_lines.proofs.WordLemmas.{text_wrong, text_cut, texts_one, wrong_bytes}
use Rattle.pawk_lines.proofs.word.read_text.Goals as goal

other : (w : Lent) → ((x : Bor (List ℕ)) → w ≡ lent.Text x → ⊥) → (t : List ℕ) → shown w ≡ text t → ⊥
other (lent.Name x) differs t e = cc
other (lent.Number z) differs t e = cc
other (lent.Text x) differs t e = differs x refl

pub returns-in_default : goal.returns-in_default
returns-in_default c =
    let k = rw c.in-Ok-Some.field-0-is at c.in-Ok-Some.ensures.found in
    text_wrong c.args.bytes.now c.in-Ok-Some.rest.now (shown c.in-Ok-Some.word) c.args.gap k (other c.in-Ok-Some.word c.in_default.not-Text)

pub returns-in-Ok-None : goal.returns-in-Ok-None
returns-in-Ok-None c =
    let k = rw c.in-Ok-None.field-0-is at c.in-Ok-None.ensures.short in
    subst (Fails (Texts c.args.gap) c.args.bytes.now) (sym (c.cut.ensures ∙ ap (λ r. if r then Short else Damage) c.begins_text.ensures))
    (text_cut c.args.bytes.now c.args.gap k)

pub returns-in-Err : goal.returns-in-Err
returns-in-Err c = wrong_bytes (Texts c.args.gap) c.args.bytes.now c.args.gap (texts_one c.args.gap) c.in-Err.ensures.damage
