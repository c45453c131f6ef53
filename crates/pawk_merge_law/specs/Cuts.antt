-- Where bytes may be cut, whatever follows. POSIX.1-2017, awk, "Variables and Special Variables" (RS).
use Rattle.std.specs.Prelude.{◌≡◌, ℕ, List, [], ◌∷◌, ◌++◌}
use Rattle.pawk_records.specs.Records.{newline, records_by}

-- the last two bytes are newlines
abbrev pub EndsInTwoNewlines : List ℕ → Type 0
EndsInTwoNewlines [] = ⊥
EndsInTwoNewlines (a ∷ []) = ⊥
EndsInTwoNewlines (a ∷ b ∷ []) = (a ≡ newline) × (b ≡ newline)
EndsInTwoNewlines (a ∷ b ∷ c ∷ s) = EndsInTwoNewlines (b ∷ c ∷ s)

-- After two newlines paragraphs may be cut, whatever comes: no paragraph goes on there.
abbrev pub CutLaw : Type 0
CutLaw = (xs ys : List ℕ) → EndsInTwoNewlines xs → records_by [] (xs ++ ys) ≡ records_by [] xs ++ records_by [] ys
