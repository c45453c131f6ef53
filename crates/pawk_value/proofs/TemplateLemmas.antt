-- The parts of a template, one after another.
use Rattle.std.proofs.Common.{◌≡◌, ℕ, suc, ◌+◌, ◌<◌, ◌≤◌, List, [], ◌++◌, length, get_or, drop, refl, ap, sym, ◌∙◌, add-one}
use Rattle.std.proofs.Math.Seq.{drop-cons}
use Rattle.std.proofs.lemmas.List.{drop_all}
use Rattle.std.specs.List.{flat_map}
use Rattle.pawk_value.specs.declared.template.FormatPart.{FormatPart}
use Rattle.pawk_value.specs.declared.pieces.Piece.{Piece}
use Rattle.pawk_value.specs.FormatViews.{shown_pieces}
use Rattle.pawk_value.specs.TemplateViews.{part_pieces}

pub front_part : (items : List FormatPart) (i : ℕ) (x : FormatPart) (p : Piece) → i < length items → x ≡ get_or items i x → shown_pieces p ≡ part_pieces x → flat_map part_pieces (drop i items) ≡ shown_pieces p ++ flat_map part_pieces (drop (i + 1) items)
front_part items i x p h e s =
    let rest = flat_map part_pieces (drop (suc i) items) in
    ap (flat_map part_pieces) (drop-cons items i x h)
    ∙ ap (λ y. part_pieces y ++ rest) (sym e)
    ∙ ap (λ l. l ++ rest) (sym s)
    ∙ rw add-one refl

pub parts_end : (items : List FormatPart) (i : ℕ) → length items ≤ i → flat_map part_pieces (drop i items) ≡ []
parts_end items i h = ap (flat_map part_pieces) (drop_all i items h)
