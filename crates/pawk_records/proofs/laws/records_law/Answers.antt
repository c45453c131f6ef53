use Rattle.std.proofs.Common.{ℕ, List, [], ◌∷◌}
use Rattle.pawk_records.specs.Records.{RecordsLaw}
use Rattle.pawk_records.proofs.LineLawLemmas.{line_law}
use Rattle.pawk_records.proofs.ParagraphLawLemmas.{paragraph_law}
use Rattle.pawk_records.proofs.laws.records_law.Goals as goal

law : (rs s : List ℕ) → RecordsLaw rs s
law [] s = paragraph_law s
law (e ∷ rs) s = line_law e rs s

pub returns : goal.returns
returns c = law c.args.rs.now c.args.text.now
