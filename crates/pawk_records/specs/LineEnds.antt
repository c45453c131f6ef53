-- The ends of lines at the front of a text, as bits of a number.
use Rattle.std.specs.Prelude.{◌≡◌, ℕ, ◌+◌, ◌*◌, ◌≤◌, ◌==◌, if◌then◌else◌, List, [], ◌∷◌}
use Rattle.std.specs.Prelude.{length, take}
use Rattle.pawk_records.specs.declared.line_ends.LineEnds.{LineEnds}

-- a bit for each byte, the first one lowest; it is set where the byte is the separator
abbrev pub end_bits : ℕ → List ℕ → ℕ
end_bits separator [] = 0
end_bits separator (b ∷ s) = (if b == separator then 1 else 0) + 2 * end_bits separator s

-- these are the ends of lines among the first bytes of a text, of which 64 at most were seen
pub record AreLineEnds (separator : ℕ) (ends : LineEnds) (text : List ℕ) : Type 0 where
  pub within : ends.seen ≤ length text
  pub few : ends.seen ≤ 64
  pub right : ends.bits ≡ end_bits separator (take ends.seen text)

-- the same by the bytes of RS; nothing is known of where paragraphs end
abbrev pub AreEnds : List ℕ → LineEnds → List ℕ → Type 0
AreEnds [] ends text = Unit {0}
AreEnds (separator ∷ rs) ends text = AreLineEnds separator ends text
