-- Counting words: where they begin, and what is left of a text once its first bytes have gone by.
use Rattle.std.specs.Prelude.{ℕ, ◌+◌, Bool, true, false, ◌&&◌, if◌then◌else◌, List, [], ◌∷◌, drop}
use Rattle.std.specs.List.{prefix_len}
use Rattle.pawk_value.specs.Bytes.{is_blank}
use Rattle.pawk_fields.specs.Fields.{is_not_blank, blank_fields}

-- how many bytes of the second list begin a word: they are no blanks, and the byte before, at the same place in
-- the first list, is one
abbrev pub word_begins : List ℕ → List ℕ → ℕ
word_begins [] here = 0
word_begins (a ∷ before) [] = 0
word_begins (a ∷ before) (b ∷ here) = (if is_blank a && is_not_blank b then 1 else 0) + word_begins before here

-- the fields of what is left of a text after a blank, or else within a word; a word that has begun is none of them
abbrev pub fields_left : Bool → List ℕ → List (List ℕ)
fields_left true s = blank_fields s
fields_left false s = blank_fields (drop (prefix_len is_not_blank s) s)
