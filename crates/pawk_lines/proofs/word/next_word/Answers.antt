use Rattle.std.proofs.Common.{◌≡◌, true, refl, sym, ap, ◌∙◌, drop}
use Rattle.std.proofs.lemmas.Bool.{false≢true}
use denote.Enum.Bare.{sameb}
use Rattle.pawk_words.specs.contracts.word.Gap.{the_type}
use Rattle.pawk_words.specs.declared.word.Gap.{Gap}
use Rattle.pawk_words.specs.declared.word.Gap.TheVariants.{Space, Newline}
use Rattle.pawk_words.specs.Words.{shown}
use Rattle.pawk_lines.proofs.WordLemmas.{same_word}
use Rattle.pawk_lines.proofs.word.next_word.Goals as goal

itself : (g : Gap) → sameb the_type g g ≡ true
itself Space = refl
itself Newline = refl

pub returns-else-eq-clause-damage : goal.returns-else-eq-clause-damage
returns-else-eq-clause-damage c more w rest b =
    let found = c.in-Ok-Some.found in
    let k = rw c.in-Ok-Some.field-0-is at c.in-Ok-Some.ensures.found in
    let same = same_word c.args.bytes.now more (drop found.length c.args.bytes.now) rest (shown found.word) w found.gap c.args.gap k.begins b in
    false≢true (sym c.if-eq.false ∙ c.eq.ensures ∙ ap (sameb the_type found.gap) (sym same.gap) ∙ itself found.gap)
